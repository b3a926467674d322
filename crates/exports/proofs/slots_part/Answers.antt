use Rattle.std.proofs.Common.{ap, ◌∙◌}
use Rattle.exports.specs.Codes.{packed}
use Rattle.exports.proofs.Fitting.{part_fits}
use Rattle.exports.proofs.slots_part.Goals as goal

pub returns : goal.returns
returns c = record {
  answer = record {
    told = record {
      answer = c.part_of.result;
      holds = c.part_of.ensures.place;
      number = c.pack.ensures ∙ ap packed c.figures.ensures;
    };
    fits = part_fits _ _ c.part_of.result c.part_of.ensures.place;
  };
}
