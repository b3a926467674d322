-- The sets of the slots passed are joined with the other.
use Rattle.std.proofs.Common.{◌≡◌}
use Rattle.slotset.proofs.Squares.{Linked}
use Rattle.slotset.proofs.Follow.link.Given as goal

abbrev pub invariant-loop-p : goal.invariant-loop-p
invariant-loop-p l = record {
  same : l.p-iterator.set ≡ l.fn.from;
  linked : Linked l.fn.from l.to l.initial.self l.p-iterator.at l.self;
}
