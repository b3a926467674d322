use Rattle.std.proofs.Common.{refl}
use Rattle.writer.specs.Answers.{counted_figures}
use Rattle.exports.proofs.Fitting.{counted_fits}
use Rattle.exports.proofs.Telling.{fits_told, is_told}
use Rattle.exports.proofs.slots_count.Goals as goal

pub pack-requires : goal.pack-requires
pack-requires c =
    fits_told counted_figures (λ f. refl) c.count.result c.figures.ensures (counted_fits _ c.count.result c.count.ensures.answer)

pub returns : goal.returns
returns c = record {
  answer = is_told counted_figures (λ f. refl) c.count.result c.figures.ensures c.count.ensures.answer
      (counted_fits _ c.count.result c.count.ensures.answer) c.pack.ensures;
}
