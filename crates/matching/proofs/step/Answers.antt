use Rattle.std.proofs.Common.{ℕ, arith, ◌≤◌, length}
use Rattle.std.specs.Prelude.{Option, Some, None, Ok}
use Rattle.std.proofs.lemmas.Result.{err_from_is_err_and}
use Rattle.model.specs.declared.Slot.{Slot}
use Rattle.meaning.specs.Trees.{Tree, leaves}
use Rattle.names.specs.Bytes.{Bytes}
use Rattle.matching.specs.Passed.{Passed}
use Rattle.matching.specs.Steps.{by_model, by_slot, StepAnswer}
use Rattle.matching.specs.Inner.Memory.{StepsTo}
use Rattle.matching.proofs.Finding.{slots_are}
use Rattle.matching.proofs.Preparing.{ready_passed}
use Rattle.matching.proofs.step.Goals as goal

step_says : (table : Bytes) (t : Tree Bytes) → Passed table t → (s : ℕ) → s ≤ length (leaves t) → (a : Bytes) (o : Option Slot) →
    StepsTo t s a o → StepAnswer table s a (Ok o)
step_says table t p s l a (Some x) h = record { model = t; passed = p; within = l; says = h }
step_says table t p s l a None h = record { model = t; passed = p; within = l; says = h }

pub returns-in_err-fill : goal.returns-in_err-fill
returns-in_err-fill c =
    let p = err_from_is_err_and c.from_residual.result c.from_residual.ensures.1 in
    record { answer = rw (p.1, p.2) (by_model (rw c.empty-model.ensures.source_is at c.in_err-fill.ensures.answer)) }

pub returns-then-model-from : goal.returns-then-model-from
returns-then-model-from c =
    let m = rw c.empty-model.ensures.source_is at c.in_ok-fill.ensures.answer in
    record { answer = by_slot m.model (ready_passed _ _ m) (omega (arith, slots_are m.model _ m.known)) }

pub returns : goal.returns
returns c =
    let m = rw c.empty-model.ensures.source_is at c.in_ok-fill.ensures.answer in
    record {
      answer = step_says c.args.table.now m.model (ready_passed _ _ m) _ (omega (arith, slots_are m.model _ m.known)) _
          c.step.result (c.step.ensures.answer m.model m.known);
    }
