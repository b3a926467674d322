use Rattle.std.proofs.Common.{rules}
use Rattle.slotset.proofs.Sets.{left_all}
use Rattle.slotset.proofs.SlotSet.slots.Goals as goal

pub invariant_of-result : goal.invariant_of-result
invariant_of-result c = record { left_are = rw c.from_le_bytes.ensures (left_all c.args.self (search rules)) }
