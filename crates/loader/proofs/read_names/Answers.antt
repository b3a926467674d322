-- The rest is names, all distinct, or it is not. Assumes nothing.
use Rattle.std.proofs.Common.{arith, ◌≡◌, ◌+◌, ◌≤◌, ◌∙◌, refl, ap, sym, drop, false, ℕ, length, ◌∷◌, []}
use lib.ListN.{length-append}
use Rattle.draft.specs.Drafts.{spans_of}
use Rattle.names.specs.Bytes.{Bytes}
use Rattle.table.specs.Refusals.{Fault}
use Rattle.table.specs.Inner.Tests.{tidy, apart}
use Rattle.table.proofs.Refusing.{no_names, no_apart}
use Rattle.model.specs.declared.Refusal.TheVariants.{BadNames}
use Rattle.loader.specs.Inner.Parts.{IsBehind, IsNameAt}
use Rattle.loader.proofs.Names.{reading_none, reading_more, names_all, no_name, left_over, has_names, all}
use Rattle.loader.proofs.read_names.Goals as goal
use Rattle.loader.proofs.read_names.Goals.{else-at-table-via-then-at-table+else-are_distinct, else-at-table-via-else-at-table}

untidy : (s : Bytes) (from m : ℕ) → IsBehind s from m → tidy m (drop from s) ≡ false → Fault s BadNames
untidy s from m h e = no_names s h.few (rw (h.from_is, h.name_count_is) at e)

doubled : (s : Bytes) (from m : ℕ) → IsBehind s from m → apart (all s from m) ≡ false → Fault s BadNames
doubled s from m h e = no_apart s h.few (rw (h.from_is, h.name_count_is) at e)

pub loop-k-init : goal.loop-k-init
loop-k-init c = record {
  source = refl;
  nodes = refl;
  count = ap length c.requires.none;
  reading = reading_none c.args.draft.now.source.now c.args.from c.args.names c.args.draft.now c.requires.none
      c.requires.behind.within;
}

pub returns-in_default-clause-answer : goal.returns-in_default-clause-answer
returns-in_default-clause-answer c =
    let s = c.args.draft.now.source.now in
    let l = c.loop-k in (
      refl,
      untidy s c.args.from c.args.names c.requires.behind
          (no_name s c.args.from c.args.names l.draft l.at l.invariant.reading (ap (λ q. q.now) l.invariant.source)
          c.in_default.ensures (omega (arith, l.invariant.count))),
    )

pub loop-k-preserved : goal.loop-k-preserved
loop-k-preserved c =
    let s = c.args.draft.now.source.now in
    let l = c.loop-k in
    let p = c.in-Some.span in
    let h : IsNameAt s l.at p = c.in-Some.ensures in
    let a = c.push_name.ensures in
    record {
      source = a.same_source ∙ l.invariant.source;
      nodes = a.nodes ∙ l.invariant.nodes;
      count = ap length a.spans ∙ length-append (spans_of l.draft) (p ∷ []) ∙ ap (λ k. k + 1) l.invariant.count;
      reading = rw c.from-at.ensures
          (reading_more s c.args.from c.args.names l.draft l.at l.invariant.reading (ap (λ q. q.now) l.invariant.source) p h
          (omega (arith, l.invariant.count)) c.push_name.new.self a);
    }

pub returns-then-are_distinct-clause-answer : goal.returns-then-are_distinct-clause-answer
returns-then-are_distinct-clause-answer c =
    let l = c.loop-k in
    has_names c.args.draft.now.source.now c.requires.behind.few c.args.from c.args.names l.draft l.at
    c.requires.behind.from_is c.requires.behind.name_count_is l.invariant.reading (omega (arith, l.invariant.count)) c.if-at-table.true
    (ap (λ q. q.now) l.invariant.source) (sym c.are_distinct.ensures ∙ c.if-are_distinct.true)

pub returns-else-at-table-clause-answer : goal.returns-else-at-table-clause-answer
returns-else-at-table-clause-answer c =
    let s = c.args.draft.now.source.now in
    let l = c.loop-k in
    let r = l.invariant.reading in
    let src = ap (λ q. q.now) l.invariant.source in
    let done : c.args.names ≤ length l.draft.names.items = omega (arith, l.invariant.count) in
    elim c.else-at-table.branch [
      | else-at-table-via-then-at-table+else-are_distinct w ↦ (
        refl,
        doubled s c.args.from c.args.names c.requires.behind
            (ap apart (sym (names_all s c.args.from c.args.names l.draft l.at r src done w.if-at-table.true).1)
            ∙ sym w.are_distinct.ensures ∙ w.if-are_distinct.false),
      )
      | else-at-table-via-else-at-table w ↦ (
        refl,
        untidy s c.args.from c.args.names c.requires.behind
            (left_over s c.args.from c.args.names l.draft l.at r src done w.if-at-table.false),
      )
    ]
