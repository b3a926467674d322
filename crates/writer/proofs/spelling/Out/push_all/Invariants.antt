-- The bytes from here on are left. Assumes nothing.
use Rattle.std.proofs.Common.{drop}
use Rattle.writer.proofs.Adding.{Left}
use Rattle.writer.proofs.spelling.Out.push_all.Given as goal

abbrev pub invariant-loop-byte : goal.invariant-loop-byte
invariant-loop-byte l = Left l.fn.self l.bytes (record { text = l.self.text; at = l.at }) (drop l.byte-index l.bytes)
