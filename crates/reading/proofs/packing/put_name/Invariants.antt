-- Its length is put, and the bytes from here on are left. Assumes nothing.
use Rattle.std.proofs.Common.{[], ◌∷◌, ◌++◌, drop}
use Rattle.table.specs.Encoding.{name_fields}
use Rattle.reading.specs.Inner.Packing.{byte_fields}
use Rattle.reading.proofs.Putting.{Left}
use Rattle.reading.proofs.packing.put_name.Given as goal

abbrev pub invariant-loop-byte : goal.invariant-loop-byte
invariant-loop-byte l =
    Left l.fn.table l.fn.cursor.at (name_fields (l.name ∷ [])) l.table l.next.at
    (byte_fields (drop l.byte-index l.name) ++ [])
