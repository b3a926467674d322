-- What is told of an answer that may be refused is what its crate defines. Assumes nothing.
use Rattle.std.proofs.Common.{◌≡◌, ℕ, Result, refl, sym}
use Rattle.std.specs.Prelude.{Ok, Err, Option}
use Rattle.model.specs.Refusals.{figures_of}
use Rattle.model.specs.declared.Counts.{Counts}
use Rattle.model.specs.declared.Figures.{Figures}
use Rattle.model.specs.declared.Refusal.{Refusal}
use Rattle.model.specs.declared.Slot.{Slot}
use Rattle.reading.specs.Reads.{outcome_figures}
use Rattle.writer.specs.Answers.{written_figures, counted_figures}
use Rattle.verdict.specs.Verdicts.{verdict_figures}
use Rattle.verdict.specs.declared.Verdict.{Verdict}
use Rattle.matching.specs.Matches.{matched_figures}
use Rattle.matching.specs.Parts.{part_figures}
use Rattle.matching.specs.Steps.{stepped_figures}
use Rattle.matching.specs.declared.Matched.{Matched}
use Rattle.matching.specs.declared.Part.{Part}
use Rattle.telling.specs.Figures.{result_figures}
use Rattle.telling.specs.contracts.UsizeTold.TheImpl as usize
use Rattle.telling.specs.contracts.CountsTold.TheImpl as counts
use Rattle.telling.specs.contracts.VerdictTold.TheImpl as verdict
use Rattle.telling.specs.contracts.MatchedTold.TheImpl as matched
use Rattle.telling.specs.contracts.OptionSlotTold.TheImpl as next
use Rattle.telling.specs.contracts.PartTold.TheImpl as part

module _ {A : Type 0} (defined : Result A Refusal → Figures) (refusal : (f : Refusal) → defined (Err f) ≡ figures_of f) where
  pub figures_same : (r : Result A Refusal) → result_figures (λ a. defined (Ok a)) r ≡ defined r
  figures_same (Ok a) = refl
  figures_same (Err f) = sym (refusal f)

-- so what is told of each answer is what its crate defines
pub told_outcome : (r : Result ℕ Refusal) → result_figures usize.ghosts.told r ≡ outcome_figures r
told_outcome = figures_same outcome_figures (λ f. refl)

pub told_written : (r : Result ℕ Refusal) → result_figures usize.ghosts.told r ≡ written_figures r
told_written = figures_same written_figures (λ f. refl)

pub told_counted : (r : Result Counts Refusal) → result_figures counts.ghosts.told r ≡ counted_figures r
told_counted = figures_same counted_figures (λ f. refl)

pub told_verdict : (r : Result Verdict Refusal) → result_figures verdict.ghosts.told r ≡ verdict_figures r
told_verdict = figures_same verdict_figures (λ f. refl)

pub told_matched : (r : Result Matched Refusal) → result_figures matched.ghosts.told r ≡ matched_figures r
told_matched = figures_same matched_figures (λ f. refl)

pub told_stepped : (r : Result (Option Slot) Refusal) → result_figures next.ghosts.told r ≡ stepped_figures r
told_stepped = figures_same stepped_figures (λ f. refl)

pub told_part : (r : Part) → part.ghosts.told r ≡ part_figures r
told_part r = refl
