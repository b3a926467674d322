-- The set has what can come next, and the name leads to none of the slots passed.
use Rattle.std.proofs.Common.{◌≡◌, ℕ}
use Rattle.meaning.specs.Trees.{Tree}
use Rattle.names.specs.Bytes.{Bytes}
use Rattle.slotset.specs.Members.{member}
use Rattle.verdict.specs.Inner.Search.{can}
use Rattle.matching.specs.Inner.Memory.{Known}
use Rattle.matching.proofs.Finding.{NoneUpTo}
use Rattle.matching.proofs.Prepared.step.Given as goal

abbrev pub invariant-loop-slot : goal.invariant-loop-slot
invariant-loop-slot l = record {
  comes : (x : ℕ) → member l.slot-iterator.set x ≡ can l.self.first l.self.follow l.fn.from.0 x;
  none : (t : Tree Bytes) → Known t l.self → NoneUpTo t l.fn.from.0 l.name l.slot-iterator.at;
}
