-- From a walk to the part that is returned; and that the part lies in what was lent. Assumes nothing.
use mathlib.Core.Bool.{true, false, false≢true}
use mathlib.Core.List.{List, []}
use mathlib.Core.Path.{◌≡◌, refl, sym, ap, subst, ◌∙◌}
use Prim.Native.Nat.{ℕ, ◌+◌, ◌-◌, ◌≤◌}
use native.Mathlib.Omega.{arith}
use lib.ListN.{length, drop, length-drop}
use lib.Seq.{length-take-le}
use denote.Ref.{Bor}
use Rattle.std.specs.Prelude.{Result, Ok, Err, Some, None}
use Rattle.std.specs.Result.{is_err}
use Rattle.model.specs.Limits.{children_limit}
use Rattle.model.specs.declared.Refusal.{Refusal}
use Rattle.model.specs.declared.Span.{Span}
use Rattle.meaning.specs.Slots.{named}
use Rattle.names.specs.Bytes.{Bytes}
use Rattle.names.proofs.Places.{split}
use Rattle.children.specs.Words.{Words}
use Rattle.children.specs.Faults.{Refused}
use Rattle.children.specs.Inner.Splitting.{cut, CheckAnswer}
use Rattle.naming.specs.Places.{name_start, number_at}
use Rattle.draft.specs.Parts.{span_at}
use Rattle.naming.proofs.Leaves.{number_known, number_name}
use Rattle.matching.specs.Matches.{Says, Answers}
use Rattle.matching.specs.Parts.{PartWhere, IsWithin, refused, bad_children, allowed, stopped, short, short_at_start}
use Rattle.matching.specs.declared.Part.{Part}
use Rattle.naming.proofs.Places.{slot_within}
use Rattle.matching.specs.declared.Part.TheVariants.{OfChildren, OfTable, AtEnd}
use Rattle.matching.specs.Inner.Memory.{stop, Ready}
use Rattle.matching.specs.Inner.Walking.{Walked}
use Rattle.matching.specs.declared.Matched.{Matched}
use Rattle.matching.specs.declared.Matched.TheVariants.{Allowed as IsAllowed, Stopped, Short}
use Rattle.matching.specs.declared.Prepared.{Prepared}
use Rattle.matching.specs.declared.Walk.{Walk}
use Rattle.matching.proofs.Preparing.{ready_passed}
use Rattle.matching.proofs.Answering.{ends_in, says_allowed, says_short, says_stopped, answers_by}

-- ---- the children, checked
pub checked_fine : (text : Bytes) (r : Result (Unit {0}) Refusal) → CheckAnswer text r → false ≡ is_err r →
    (length text ≤ children_limit) × Words text (cut [] text)
checked_fine text (Ok u) h e = h
checked_fine text (Err f) h e = absurd (false≢true e)

pub checked_refused : (text : Bytes) (r : Result (Unit {0}) Refusal) → CheckAnswer text r → true ≡ is_err r →
    (f : Refusal) × (r ≡ Err f) × Refused text f
checked_refused text (Ok u) h e = absurd (false≢true (sym e))
checked_refused text (Err f) h e = (f, refl, h)

-- where the name of a slot stands in the table
pub span_is : (table : Bor (List ℕ)) (p : Prepared) (m : Ready table p) (x : ℕ) →
    let t = m.model in
    let s = span_at p.draft.names.items (number_at t x) in
    (s.start ≡ name_start t (number_at t x)) × (s.end ≡ name_start t (number_at t x) + length (named t x))
    × ((s.start ≤ s.end) × (s.end ≤ length table.now))
span_is table p m x =
    let t = m.model in
    let v = number_at t x in
    let s = span_at p.draft.names.items v in
    let b = number_known p.draft t m.known.holds x v refl in
    let i = p.draft.inside v b in
    let o = i.ordered in
    let w = i.within in
    let n : length (named t x) ≡ s.end - s.start =
    sym (ap length (number_name p.draft t m.known.holds x v refl))
    ∙ length-take-le (s.end - s.start) (drop s.start p.draft.source.now)
    (omega (arith, length-drop s.start p.draft.source.now)) in
    let a = m.loaded.places v b in
    (a, omega (arith, n), (o, subst (λ (z : Bor (List ℕ)). s.end ≤ length z.now) m.loaded.source_is w))

module _ (table : Bor (List ℕ)) (children : Bytes) (p : Prepared) (m : Ready table p)
    (checked : (length children ≤ children_limit) × Words children (cut [] children)) (before after : List ℕ)
    (w : Walk) (h : Walked m.model children before w after) where
  abbrev answered : (r : Matched) → Says m.model (cut [] children) r h.placing.slots →
      Answers table.now children r h.placing.slots
  answered = answers_by table.now children before after m.model (ready_passed table p m) checked w h

  pub part_stopped : (a e : ℕ) → w.stopped ≡ Some (a, e) → PartWhere table.now children (OfChildren a e) × ((a ≤ e) × (e ≤ length children))
  part_stopped a e o =
      let i = (ends_in m.model children before after w h (Some (a, e)) o).1.1 in (
        stopped
            (answered (Stopped (w.placed + 1) w.held)
            (says_stopped m.model m.clear p m.known children before after w h (a, e) o)) i,
        (i.order, i.within),
      )

  module _ (o : w.stopped ≡ None) where
    pub part_allowed : stop p.empty p.last w.held.0 ≡ true → PartWhere table.now children AtEnd
    part_allowed g =
        allowed (answered (IsAllowed w.placed) (says_allowed m.model m.clear p m.known children before after w h o g))

    abbrev is_short : stop p.empty p.last w.held.0 ≡ false →
        Answers table.now children (Short w.placed w.held) h.placing.slots
    is_short g =
        answered (Short w.placed w.held) (says_short m.model m.clear p m.known children before after w h o g)

    pub part_start : w.held.0 ≡ 0 → PartWhere table.now children AtEnd
    part_start z = split (stop p.empty p.last w.held.0) part_allowed (λ g. short_at_start (is_short g) z)

    pub part_short : stop p.empty p.last w.held.0 ≡ false → 1 ≤ w.held.0 → (r : Span) →
        r ≡ span_at p.draft.names.items (number_at m.model w.held.0) → (a e : ℕ) → a ≡ r.start → e ≡ r.end →
        PartWhere table.now children (OfTable a e) × ((a ≤ e) × (e ≤ length table.now))
    part_short g l r i a e j n =
        let t = m.model in
        let v = number_at t w.held.0 in
        let k = span_is table p m w.held.0 in
        let x : a ≡ name_start t v = j ∙ ap (λ (z : Span). z.start) i ∙ k.0 in
        let y : e ≡ name_start t v + length (named t w.held.0) = n ∙ ap (λ (z : Span). z.end) i ∙ k.1 in
        let b : e ≤ length table.now = let o = k.2.1 in let q = k.1 in omega (arith, y) in (
          subst (λ z. PartWhere table.now children (OfTable z e)) (sym x)
              (subst (λ z. PartWhere table.now children (OfTable (name_start t v) z)) (sym y) (short (is_short g) l refl)),
          (omega (arith, x, y), b),
        )

-- wherever the name part is, it lies in what was lent
pub part_within : {table children : Bytes} {p : Part} → PartWhere table children p → IsWithin table children p
part_within (refused h) = tt
part_within (bad_children t p h) = tt
part_within (allowed h) = tt
part_within (stopped m c) = (c.order, c.within)
part_within (short_at_start m z) = tt
part_within {table} (short {s = s} m z e) =
    let h = slot_within table m.model m.passed.loads s.0 in (omega arith, omega (arith, h, e))
