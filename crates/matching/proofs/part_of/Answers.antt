use mathlib.Core.Bool.{false≢true}
use Rattle.std.proofs.Common.{arith, rules, sym, ◌∙◌, eq-eqb}
use Rattle.matching.specs.Parts.{refused, bad_children}
use Rattle.matching.proofs.Preparing.{ready_passed, is_ready, not_ready}
use Rattle.matching.proofs.Parting.{checked_fine, checked_refused, part_stopped, part_allowed, part_start, part_short}
use Rattle.matching.proofs.part_of.Goals as goal
use Rattle.matching.proofs.part_of.Goals.{then-is_err-via-then-is_err, then-is_err-via-else-is_err+then-is_err-2, then-walk-eq0, else-walk-eq0}

pub returns-then-is_err-clause-place : goal.returns-then-is_err-clause-place
returns-then-is_err-clause-place c =
    let l = rw c.empty-model.ensures.source_is at c.fill.ensures.answer in
    elim c.then-is_err.branch [
      | then-is_err-via-then-is_err w ↦ refused (not_ready _ _ _ l w.if-is_err.ensures.value).2
      | then-is_err-via-else-is_err+then-is_err-2 w ↦
          let m = is_ready _ _ _ l w.if-is_err.ensures.value in
          bad_children m.model (ready_passed _ _ m) (checked_refused _ _ w.check.ensures w.if-is_err-2.ensures.value).2
    ]

pub returns-in-Some : goal.returns-in-Some
returns-in-Some c =
    let m = is_ready _ _ _ (rw c.empty-model.ensures.source_is at c.fill.ensures.answer) c.if-is_err.ensures.value in
    let f = checked_fine _ _ c.check.ensures c.if-is_err-2.ensures.value in
    let p = part_stopped _ _ _ m f _ _ _ (c.walk-walk.ensures.answer m.model m.known) _ _ c.in-Some.is in
    record { place = p.0; within = p.1 }

pub returns-in-None-clause-place : goal.returns-in-None-clause-place
returns-in-None-clause-place c =
    let m = is_ready _ _ _ (rw c.empty-model.ensures.source_is at c.fill.ensures.answer) c.if-is_err.ensures.value in
    let f = checked_fine _ _ c.check.ensures c.if-is_err-2.ensures.value in
    let h = c.walk-walk.ensures.answer m.model m.known in
    elim c.if-walk-eq0.branch [
      | then-walk-eq0 w ↦ part_start _ _ _ m f _ _ _ h c.in-None.is w.if-walk-eq0.true
      | else-walk-eq0 w ↦
          part_allowed _ _ _ m f _ _ _ h c.in-None.is (sym w.can_end.ensures ∙ sym w.value-is ∙ c.if-can_end.true)
    ]

pub returns-in-None-2 : goal.returns-in-None-2
returns-in-None-2 c =
    let m = is_ready _ _ _ (rw c.empty-model.ensures.source_is at c.fill.ensures.answer) c.if-is_err.ensures.value in
    let f = checked_fine _ _ c.check.ensures c.if-is_err-2.ensures.value in
    let h = c.walk-walk.ensures.answer m.model m.known in
    elim c.if-walk-eq0.branch [
      | then-walk-eq0 w ↦ absurd (false≢true (sym c.if-can_end.false ∙ w.value-is ∙ eq-eqb _ _ w.if-walk-eq0.true))
      | else-walk-eq0 w ↦
          let p = part_short _ _ _ m f _ _ _ h c.in-None-2.is (sym w.can_end.ensures ∙ sym w.value-is ∙ c.if-can_end.false)
          (omega (arith, w.if-walk-eq0.false)) _ (c.span-span.ensures m.model m.known) _ _ (search rules)
          (search rules) in
          record { place = p.0; within = p.1 }
    ]
