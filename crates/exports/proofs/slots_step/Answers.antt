use Rattle.std.proofs.Common.{refl}
use Rattle.matching.specs.Steps.{stepped_figures}
use Rattle.exports.proofs.Fitting.{stepped_fits}
use Rattle.exports.proofs.Telling.{fits_told, is_told}
use Rattle.exports.proofs.slots_step.Goals as goal

pub pack-requires : goal.pack-requires
pack-requires c =
    fits_told stepped_figures (λ f. refl) c.step.result c.figures.ensures (stepped_fits _ _ _ c.step.result c.step.ensures.answer)

pub returns : goal.returns
returns c = record {
  answer = is_told stepped_figures (λ f. refl) c.step.result c.figures.ensures c.step.ensures.answer
      (stepped_fits _ _ _ c.step.result c.step.ensures.answer) c.pack.ensures;
}
