use Rattle.std.proofs.Common.{refl}
use Rattle.writer.specs.Answers.{written_figures}
use Rattle.exports.proofs.Fitting.{written_fits}
use Rattle.exports.proofs.Telling.{fits_told, is_told}
use Rattle.exports.proofs.slots_write.Goals as goal

pub pack-requires : goal.pack-requires
pack-requires c =
    fits_told written_figures (λ f. refl) c.write.result c.figures.ensures (written_fits _ _ _ c.write.result c.write.ensures.answer)

pub returns : goal.returns
returns c = record {
  answer = is_told written_figures (λ f. refl) c.write.result c.figures.ensures c.write.ensures.answer
      (written_fits _ _ _ c.write.result c.write.ensures.answer) c.pack.ensures;
}
