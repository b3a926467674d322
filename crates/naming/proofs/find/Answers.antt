-- The draft, the number, and the name. Assumes nothing.
use Rattle.std.proofs.Common.{sym, ◌∙◌}
use Rattle.naming.proofs.Leaves.{number_known, name_part}
use Rattle.naming.proofs.Answering.{none_refused, is_loaded, none_numbered}
use Rattle.naming.proofs.find.Goals as goal

pub returns-in_err-draft : goal.returns-in_err-draft
returns-in_err-draft c =
    rw c.from_residual.ensures
    (none_refused c.args.table c.args.s.0 c.load.result c.load.ensures.answer (sym c.ok.ensures.value ∙ c.in_err-draft.was))

pub returns-in_err-name_number : goal.returns-in_err-name_number
returns-in_err-name_number c =
    let l = is_loaded c.args.table c.args.s.0 c.load.result c.in_ok-draft.draft c.load.ensures.answer
    (sym c.ok.ensures.value ∙ c.in_ok-draft.was) in
    rw c.from_residual-in_err-name_number.ensures
    (none_numbered c.args.table c.args.s.0 c.in_ok-draft.draft l c.in_err-name_number.ensures.answer)

pub name-requires : goal.name-requires
name-requires c =
    let l = is_loaded c.args.table c.args.s.0 c.load.result c.in_ok-draft.draft c.load.ensures.answer
    (sym c.ok.ensures.value ∙ c.in_ok-draft.was) in
    let n = c.in_ok-name_number.ensures.answer l.0 l.1.holds in
    number_known c.in_ok-draft.draft l.0 l.1.holds c.args.s.0 c.in_ok-name_number.field-0.0 n.1

pub returns : goal.returns
returns c =
    let l = is_loaded c.args.table c.args.s.0 c.load.result c.in_ok-draft.draft c.load.ensures.answer
    (sym c.ok.ensures.value ∙ c.in_ok-draft.was) in
    let n = c.in_ok-name_number.ensures.answer l.0 l.1.holds in
    (l.0, name_part c.args.table c.in_ok-draft.draft l.0 l.1 c.args.s.0 _ n.0 n.1 c.name.result c.name.ensures.part)
