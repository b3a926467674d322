use Rattle.std.proofs.Common.{[], ◌∷◌, ◌≤◌, ◌++◌, length, subst, sym, ap, ap₂, ◌∙◌, arith}
use Rattle.std.specs.Prelude.{codes, Some, None}
use Rattle.model.specs.Limits.{name_limit}
use Rattle.matching.specs.declared.Matched.TheVariants.{Allowed, Stopped, Short}
use Rattle.report.specs.Lines.{line}
use Rattle.report.proofs.Printing.{adds, placed_at, matched_prints, refused_prints, stopped_name, stopped_short}
use Rattle.report.proofs.put_children.Goals as goal

pub put_line-requires-in-Ok-Stopped-clause-short : goal.put_line-requires-in-Ok-Stopped-clause-short
put_line-requires-in-Ok-Stopped-clause-short c =
    let m = placed_at c.in-Ok-Stopped.field-0-is c.in-Ok-Stopped.ensures.answer in
    let part = c.name_part-name in
    subst (λ name. length name ≤ name_limit)
    (sym (stopped_name c.args.table c.args.children part.result _ _ _ m.answers part.ensures.answer))
    (stopped_short c.args.table c.args.children part.result _ _ _ m.answers)

pub returns-in-Ok-Allowed : goal.returns-in-Ok-Allowed
returns-in-Ok-Allowed c t h =
    let m = placed_at c.in-Ok-Allowed.field-0-is c.in-Ok-Allowed.ensures.answer in
    adds _ (matched_prints t h (Allowed c.in-Ok-Allowed.n) m) c.put_line.ensures.line

pub returns-in-Ok-Stopped : goal.returns-in-Ok-Stopped
returns-in-Ok-Stopped c t h =
    let m = placed_at c.in-Ok-Stopped.field-0-is c.in-Ok-Stopped.ensures.answer in
    let part = c.name_part-name in
    let stop = c.in-Ok-Stopped in
    adds _ (matched_prints t h (Stopped stop.k stop.held) m)
    (c.put_line-in-Ok-Stopped.ensures.line
    ∙ ap (λ name. c.args.page.now.items ++ line (codes "stopped") (stop.k ∷ stop.held.0 ∷ []) (Some name))
    (stopped_name c.args.table c.args.children part.result _ _ _ m.answers part.ensures.answer))

pub returns-in-Ok-Short : goal.returns-in-Ok-Short
returns-in-Ok-Short c t h =
    let m = placed_at c.in-Ok-Short.field-0-is c.in-Ok-Short.ensures.answer in
    adds _ (matched_prints t h (Short c.in-Ok-Short.n c.in-Ok-Short.held) m) c.put_line-in-Ok-Short.ensures.line

pub returns-in-Err : goal.returns-in-Err
returns-in-Err c t h =
    adds _ (refused_prints t h (omega arith) c.in-Err.ensures.answer.0)
    (c.put_line-in-Err.ensures.line
    ∙ ap₂ (λ n q. c.args.page.now.items ++ line (codes "children refused") (n ∷ q ∷ []) None) c.number.ensures
    c.place.ensures)
