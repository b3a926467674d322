use Rattle.std.proofs.Common.{refl}
use Rattle.matching.specs.Matches.{matched_figures}
use Rattle.exports.proofs.Fitting.{matched_fits}
use Rattle.exports.proofs.Telling.{fits_told, is_told}
use Rattle.exports.proofs.slots_match.Goals as goal

pub pack-requires : goal.pack-requires
pack-requires c =
    fits_told matched_figures (λ f. refl) c.match_children.result c.figures.ensures (matched_fits _ _ _ _ c.match_children.result c.match_children.ensures.answer)

pub returns : goal.returns
returns c = record {
  answer = is_told matched_figures (λ f. refl) c.match_children.result c.figures.ensures c.match_children.ensures.answer
      (matched_fits _ _ _ _ c.match_children.result c.match_children.ensures.answer) c.pack.ensures;
}
