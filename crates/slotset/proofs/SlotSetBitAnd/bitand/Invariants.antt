use Rattle.std.proofs.Common.{◌≡◌, ℕ, ◌<◌, ◌≤◌, length, get_or, bit_and}
use Rattle.slotset.specs.Members.{set_bytes}
use Rattle.slotset.proofs.SlotSetBitAnd.bitand.Given as goal

abbrev pub invariant-loop-i : goal.invariant-loop-i
invariant-loop-i l = record {
  size : length l.marks ≡ set_bytes;
  met : (k : ℕ) → k < l.i → get_or l.marks k 0 ≡ bit_and (get_or l.fn.self.marks k 0) (get_or l.other.marks k 0);
  left : (k : ℕ) → l.i ≤ k → get_or l.marks k 0 ≡ get_or l.fn.self.marks k 0;
}
