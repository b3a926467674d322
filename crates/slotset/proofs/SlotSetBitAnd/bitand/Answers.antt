use Rattle.std.proofs.Common.{◌<◌, ◌≢◌, length, arith, length-set, get_or-set_other, get_or-set_same, below_more}
use Rattle.slotset.proofs.SlotSetBitAnd.bitand.Goals as goal

pub loop-i-preserved : goal.loop-i-preserved
loop-i-preserved c =
    let i = c.loop-i.i in
    let before = c.loop-i.invariant in
    record {
      size = simp length-set before.size;
      met =
          below_more _ _
          (λ k h. let ne : k ≢ i = omega arith in rw get_or-set_other (before.met k h))
          (let lt : i < length c.loop-i.marks = omega arith in rw (get_or-set_same, before.left i (omega arith)));
      left = λ k h. let ne : k ≢ i = omega arith in rw get_or-set_other (before.left k (omega arith));
    }
