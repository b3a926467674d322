use Rattle.report.proofs.Printing.{refused_page, model_page}
use Rattle.report.proofs.report.Goals as goal

pub returns-in-Err : goal.returns-in-Err
returns-in-Err c = record {
  answer =
      refused_page c.args.input.now c.split_line.ensures.model c.in-Err.ensures.refused c.in-Err.ensures.unchanged
      c.number.ensures c.place.ensures c.put_line.ensures.line;
}

pub returns-in_default : goal.returns-in_default
returns-in_default c = record {
  answer =
      model_page c.args.input.now c.split_line.ensures.model c.split_line.ensures.children c.in_default.ensures.ok;
}
