-- A passed model in memory, made ready. Assumes nothing.
use Rattle.std.specs.Prelude.{Bool, List, Result, Ok, Err, Option, None, Some, ◌≡◌, ℕ, zero, suc, ◌≤◌, take}
use Rattle.std.specs.Borrow.{Bor}
use Rattle.model.specs.Limits.{slot_limit}
use Rattle.model.specs.declared.Refusal.{Refusal}
use Rattle.model.specs.declared.Slot.{Slot}
use Rattle.meaning.specs.Trees.{Tree, leaves}
use Rattle.meaning.specs.Clashes.{Ambiguous}
use Rattle.meaning.specs.Runs.{Step}
use Rattle.meaning.specs.Inner.Expressions.{slotted, next, ends}
use Rattle.names.specs.Bytes.{Bytes}
use Rattle.slotset.specs.declared.SlotSet.{SlotSet}
use Rattle.slotset.specs.Members.{member}
use Rattle.table.specs.Encoding.{numbers}
use Rattle.draft.specs.Drafts.{Holds}
use Rattle.loader.specs.Answers.{Loaded}
use Rattle.verdict.specs.Inner.Search.{can, numbers_of}
use Rattle.matching.specs.Passed.{NotPassed}
use Rattle.matching.specs.declared.Prepared.{Prepared}

-- can a list end at this slot, the empty one at the start?
abbrev pub stop : Bool → SlotSet → ℕ → Bool
stop empty last zero = empty
stop empty last (suc s) = member last (suc s)

-- the model t in memory, with what can come next in it and what can end a list of it
pub record Known (t : Tree Bytes) (p : Prepared) : Type 0 where
  pub holds : Holds p.draft t
  pub names_are : numbers_of (take p.draft.slots p.names) ≡ leaves (numbers t)
  pub nexts : (q x : ℕ) → can p.first p.follow q x ≡ next (slotted t) q x
  pub stops : (s : ℕ) → stop p.empty p.last s ≡ ends (slotted t) s
  pub few : p.draft.slots ≤ slot_limit

-- and x is a slot of it
pub record KnowsSlot (t : Tree Bytes) (p : Prepared) (x : ℕ) : Type 0 where
  pub known : Known t p
  pub low : 1 ≤ x
  pub high : x ≤ p.draft.slots

-- the slot that the name leads to from p; or it leads to none
abbrev pub StepsTo : Tree Bytes → ℕ → Bytes → Option Slot → Type 0
StepsTo t p a (Some x) = Step t p a x.0
StepsTo t p a None = (x : ℕ) → Step t p a x → ⊥

-- the table's model, which is not ambiguous, in memory
pub record Ready (table : Bor (List ℕ)) (p : Prepared) : Type 0 where
  pub model : Tree Bytes
  pub loaded : Loaded table p.draft model
  pub clear : ¬ Ambiguous model
  pub known : Known model p

-- the model that is passed, in memory; or why there is none
abbrev pub PrepareAnswer : Bor (List ℕ) → Prepared → Result (Unit {0}) Refusal → Type 0
PrepareAnswer table p (Ok u) = Ready table p
PrepareAnswer table p (Err f) = NotPassed table.now f
