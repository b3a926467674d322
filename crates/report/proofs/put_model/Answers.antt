use Rattle.std.proofs.Common.{◌++◌, ap, ◌∙◌, arith, rules, append_assoc}
use Rattle.table.proofs.Main.{loads_free}
use Rattle.reading.proofs.Main.{read_loads}
use Rattle.naming.proofs.Main.{slot_name_says}
use Rattle.report.specs.Lines.{deterministic_line, ambiguous_line}
use Rattle.report.specs.Prints.{deterministic, ambiguous}
use Rattle.report.proofs.Printing.{text_refused, model_prints, verdict_at, counted_at, clash_slot}
use Rattle.report.proofs.put_model.Goals as goal

pub returns-in_err-n-clause-refused : goal.returns-in_err-n-clause-refused
returns-in_err-n-clause-refused c =
    let refused = text_refused (omega arith) c.in_err-n.ensures.answer.0 in
    search (rules, refused)

pub returns-in_err-c-clause-refused : goal.returns-in_err-c-clause-refused
returns-in_err-c-clause-refused c =
    let read = read_loads _ _ c.in_ok-n.n _ c.in_ok-n.ensures.answer in
    absurd (loads_free _ read.0 read.2 _ c.in_err-c.ensures.answer)

pub returns-in_err-verdict-clause-refused : goal.returns-in_err-verdict-clause-refused
returns-in_err-verdict-clause-refused c =
    let read = read_loads _ _ c.in_ok-n.n _ c.in_ok-n.ensures.answer in
    absurd (loads_free _ read.0 read.2 _ c.in_err-verdict.ensures.answer)

pub returns-in-Deterministic-clause-ok : goal.returns-in-Deterministic-clause-ok
returns-in-Deterministic-clause-ok c =
    let answer = c.in_ok-n.ensures.answer in
    let read = read_loads _ _ c.in_ok-n.n _ answer in
    let t = read.0 in
    let judged = verdict_at t read.2 c.in-Deterministic.is c.in_ok-verdict.ensures.answer in
    let third = c.put_children.ensures t (record { loads = read.2; clear = judged }) in
    model_prints t (deterministic_line ++ third.more) answer.2.short read.1
    (counted_at t read.2 c.in_ok-c.ensures.answer) c.requires c.put_line.ensures.line
    (third.added
    ∙ ap (λ page. page ++ third.more) c.put_line-in-Deterministic.ensures.line
    ∙ append_assoc _ deterministic_line third.more)
    (deterministic judged third.says)

pub returns-in-Ambiguous-clause-ok : goal.returns-in-Ambiguous-clause-ok
returns-in-Ambiguous-clause-ok c =
    let answer = c.in_ok-n.ensures.answer in
    let read = read_loads _ _ c.in_ok-n.n _ answer in
    let t = read.0 in
    let clash = c.in-Ambiguous.clash in
    let judged = verdict_at t read.2 c.in-Ambiguous.is c.in_ok-verdict.ensures.answer in
    let name = slot_name_says _ clash.x.0 c.slot_name-name.result t c.slot_name-name.ensures.answer read.2 (clash_slot t judged) in
    model_prints t (ambiguous_line clash _) answer.2.short read.1
    (counted_at t read.2 c.in_ok-c.ensures.answer) c.requires c.put_line.ensures.line
    (c.put_line-in-Ambiguous.ensures.line
    ∙ ap (λ name. c.put_line.new.page.items ++ ambiguous_line clash name) name)
    (ambiguous judged)
