use Rattle.std.proofs.Common.{refl}
use Rattle.reading.specs.Reads.{outcome_figures}
use Rattle.exports.proofs.Fitting.{read_fits}
use Rattle.exports.proofs.Telling.{fits_told, is_told}
use Rattle.exports.proofs.slots_read.Goals as goal

pub pack-requires : goal.pack-requires
pack-requires c =
    fits_told outcome_figures (λ f. refl) c.read.result c.figures.ensures (read_fits _ _ _ c.read.result c.read.ensures.answer)

pub returns : goal.returns
returns c = record {
  answer = is_told outcome_figures (λ f. refl) c.read.result c.figures.ensures c.read.ensures.answer
      (read_fits _ _ _ c.read.result c.read.ensures.answer) c.pack.ensures;
}
