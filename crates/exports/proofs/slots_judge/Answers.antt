use Rattle.std.proofs.Common.{refl}
use Rattle.verdict.specs.Verdicts.{verdict_figures}
use Rattle.exports.proofs.Fitting.{verdict_fits}
use Rattle.exports.proofs.Telling.{fits_told, is_told}
use Rattle.exports.proofs.slots_judge.Goals as goal

pub pack-requires : goal.pack-requires
pack-requires c =
    fits_told verdict_figures (λ f. refl) c.judge.result c.figures.ensures (verdict_fits _ c.judge.result c.judge.ensures.answer)

pub returns : goal.returns
returns c = record {
  answer = is_told verdict_figures (λ f. refl) c.judge.result c.figures.ensures c.judge.ensures.answer
      (verdict_fits _ c.judge.result c.judge.ensures.answer) c.pack.ensures;
}
