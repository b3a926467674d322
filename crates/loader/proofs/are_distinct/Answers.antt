use Rattle.std.proofs.Common.{sym, subst, arith}
use Rattle.draft.specs.Drafts.{IsFirst, name_at}
use Rattle.loader.proofs.Names.{apart_none, apart_next, apart_not, apart_all}
use Rattle.loader.proofs.are_distinct.Goals as goal

pub loop-i-init : goal.loop-i-init
loop-i-init c = apart_none c.args.draft.now

pub returns-in_default : goal.returns-in_default
returns-in_default c = absurd (c.in_default.ensures.unknown c.loop-i.i (omega arith) (sym c.name.ensures.name))

pub returns-then-first-i : goal.returns-then-first-i
returns-then-first-i c =
    let d = c.args.draft.now in
    sym (apart_not d c.loop-i.i _ (omega arith) (subst (λ a. IsFirst d a c.in-Some.first.0) c.name.ensures.name c.in-Some.ensures.found) c.if-first-i.true)

pub loop-i-preserved : goal.loop-i-preserved
loop-i-preserved c =
    let d = c.args.draft.now in
    let i = c.loop-i.i in
    let first = subst (λ a. IsFirst d a c.in-Some.first.0) c.name.ensures.name c.in-Some.ensures.found in
    apart_next d i (omega arith) c.loop-i.invariant (subst (λ v. IsFirst d (name_at d i) v) c.if-first-i.false first)

pub returns : goal.returns
returns c = sym (apart_all c.args.draft.now c.loop-i.i (omega arith) c.loop-i.invariant)
