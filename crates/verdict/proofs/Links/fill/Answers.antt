use Rattle.std.proofs.Common.{◌≡◌, ◌+◌, ◌-◌, ◌∙◌, ap, sym, subst, get_or, true≢false, arith, rules}
use lib.ListN.{get_or-replicate, set}
use Rattle.model.specs.Limits.{name_count_limit}
use Rattle.slotset.specs.declared.SlotSet.{SlotSet}
use Rattle.verdict.specs.Inner.Search.{name_at}
use Rattle.verdict.proofs.Linking.{Linking, none_seen, linking_with, linking_same}
use Rattle.verdict.proofs.Links.fill.Goals as goal
use Rattle.verdict.proofs.Links.fill.Goals.{then-next-ne0, else-next-ne0}

pub loop-k-init : goal.loop-k-init
loop-k-init c = record {
  room = search rules;
  seen_room = search rules;
  linked = λ z a b. absurd (omega (arith, a, b));
  firsts = λ n h. none_seen _ n _ _ (omega arith) (get_or-replicate name_count_limit n.0 0 0 h);
  within = λ z e. absurd (true≢false (sym e ∙ c.requires.empty z));
  low = λ z e. absurd (true≢false (sym e ∙ c.requires.empty z));
  none = λ z e a b. absurd (omega (arith, a, b));
}

pub loop-k-preserved : goal.loop-k-preserved
loop-k-preserved c =
    let k = c.loop-k in
    let names = c.args.names.now in
    let here : k.k - 1 + 1 ≡ k.k = omega arith in
    let known = c.requires.numbered (k.k - 1) (record { 0 = 0 }) (omega arith) in
    let e : c.number_at-name.result ≡ name_at names k.k =
    c.number_at-name.ensures.number ∙ ap (name_at names) here in
    let put = λ (linked : SlotSet) (h : Linking names
    (record { later = set k.self.later (k.k - 1) (get_or k.seen (name_at names k.k).0 0); linked = linked })
    (set k.seen (name_at names k.k).0 (k.k - 1 + 1)) (k.k - 1)).
    subst (λ n. Linking names (record { later = set k.self.later (k.k - 1) (get_or k.seen n.0 0); linked = linked })
    (set k.seen n.0 (k.k - 1 + 1)) (k.k - 1)) (sym e) h in
    elim c.if-next-ne0.branch [
      | then-next-ne0 w ↦
          rw w.self-is
          (put w.with-self.result
          (linking_with names k.k c.loop-k-test.true (omega arith) k.self k.seen k.invariant (k.k - 1 + 1) here known
          w.with-self.result (k.k - 1 + 1) c.requires.few here w.with-self.ensures))
      | else-next-ne0 w ↦
          let none : get_or k.seen (name_at names k.k).0 0 ≡ 0 =
          sym (ap (λ n. get_or k.seen n.0 0) e) ∙ w.if-next-ne0.false in
          rw w.self-is
          (put k.self.linked
          (linking_same names k.k c.loop-k-test.true (omega arith) k.self k.seen k.invariant (k.k - 1 + 1) here known
          c.requires.few none))
    ]
