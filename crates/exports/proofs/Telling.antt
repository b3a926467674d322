-- The number of an answer that may be refused. Assumes nothing.
use Rattle.std.proofs.Common.{◌≡◌, ℕ, Result, subst, sym, ap, ◌∙◌}
use Rattle.std.specs.Prelude.{Ok, Err}
use Rattle.model.specs.Refusals.{figures_of}
use Rattle.model.specs.declared.Figures.{Figures}
use Rattle.model.specs.declared.Refusal.{Refusal}
use Rattle.telling.specs.Figures.{result_figures}
use Rattle.telling.proofs.Same.{figures_same}
use Rattle.exports.specs.Codes.{packed, Fits}
use Rattle.exports.specs.Told.{IsTold}

module _ {A : Type 0} (defined : Result A Refusal → Figures) (refusal : (f : Refusal) → defined (Err f) ≡ figures_of f)
    (r : Result A Refusal) {f : Figures} (told : f ≡ result_figures (λ a. defined (Ok a)) r) where
  pub fits_told : Fits (defined r) → Fits f
  fits_told h = subst Fits (sym (told ∙ figures_same defined refusal r)) h

  pub is_told : {Answer : Result A Refusal → Type 0} {n : ℕ} → Answer r → Fits (defined r) → n ≡ packed f →
      IsTold Answer defined n
  is_told a h e = record {
    told = record { answer = r; holds = a; number = e ∙ ap packed (told ∙ figures_same defined refusal r) };
    fits = h;
  }
