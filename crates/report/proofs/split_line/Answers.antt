use Rattle.report.proofs.Printing.{before_it, behind_it}
use Rattle.report.proofs.split_line.Goals as goal

pub returns-clause-model : goal.returns-clause-model
returns-clause-model c = before_it c.line_end-end.ensures.answer

pub returns-clause-children : goal.returns-clause-children
returns-clause-children c = behind_it c.line_end-end.ensures.answer c.min-next.ensures
