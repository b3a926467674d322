-- The slots of a set one by one. Assumes nothing.
use Rattle.std.specs.Prelude.{Option, None, Some, false, ◌≡◌, ℕ, ◌<◌}
use Rattle.model.specs.declared.Slot.{Slot}
use Rattle.slotset.specs.Members.{member, FirstAfter}
use Rattle.slotset.specs.declared.Slots.{Slots}

-- from s to t: the next slot of the set, which is then passed; or none is left
abbrev pub NextSlot : Slots → Option Slot → Slots → Type 0
NextSlot s None t = (t.set ≡ s.set) × ((y : ℕ) → s.at < y → member s.set y ≡ false)
NextSlot s (Some x) t = (t.set ≡ s.set) × (t.at ≡ x.0) × FirstAfter s.set s.at x.0
