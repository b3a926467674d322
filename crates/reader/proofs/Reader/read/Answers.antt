use Rattle.std.proofs.Common.{◌≡◌, Some, None, sym, ◌∙◌}
use Rattle.std.proofs.lemmas.Result.{err_from_is_err_and}
use Rattle.grammar.specs.Grammar.{opening}
use Rattle.grammar.specs.Inner.Machine.{start}
use Rattle.reader.specs.Inner.Places.{next, before, between}
use Rattle.reader.specs.Inner.Phrases.{first}
use Rattle.reader.proofs.Whole.{no_bracket, more_behind, none_behind, refused_text, read_text, holds}
use Rattle.reader.proofs.Reader.read.Goals.{in_default-via-in-Some+in_default, in_default-via-in_default}
use Rattle.reader.proofs.Reader.read.Goals as goal

pub returns-in_err-group-in-Some-eq40-clause-refused :
    goal.returns-in_err-group-in-Some-eq40-clause-refused
returns-in_err-group-in-Some-eq40-clause-refused c =
    let p = err_from_is_err_and c.from_residual.result c.from_residual.ensures.1 in
    rw (p.1, p.2)
    (refused_text c.requires
    (c.skip_space.ensures.same start 0 before ∙ c.in_err-group-in-Some-eq40.ensures.refused _ _ first))

pub returns-in_default-clause-refused : goal.returns-in_default-clause-refused
returns-in_default-clause-refused c =
    let none : next c.skip_space.new.self ≡ Some opening → ⊥ = λ e. elim c.in_default.branch [
      | in_default-via-in-Some+in_default w ↦
          let z : Some w.in_default.field-0 ≡ Some opening = sym w.in_default.is ∙ c.peek.ensures ∙ e in
          w.in_default.field-0-test.1 cc
      | in_default-via-in_default w ↦
          let z : None ≡ Some opening = sym w.in_default.is ∙ c.peek.ensures ∙ e in cc
    ] in
    refused_text c.requires
    (c.skip_space.ensures.same start 0 before
    ∙ no_bracket c.skip_space.new.self none c.skip_space.ensures.solid c.wrong.ensures)

pub returns-in-None-clause-read : goal.returns-in-None-clause-read
returns-in-None-clause-read c =
    let p = c.in_ok-group-in-Some-eq40.ensures.parsed in
    let g = rw (c.skip_space.ensures.draft, ← c.skip_space-2.ensures.draft) at p.grows in record {
      tree = p.tree;
      reads =
          read_text c.requires
          (c.skip_space.ensures.same start 0 before
          ∙ p.same _ _ first
          ∙ c.skip_space-2.ensures.same _ 0 between
          ∙ none_behind c.skip_space-2.new.self p.tree (sym c.peek-2.ensures ∙ c.in-None.is));
      holds = holds c.requires.unfilled g;
      from = g.same_source;
    }

pub returns-in-Some-clause-refused : goal.returns-in-Some-clause-refused
returns-in-Some-clause-refused c =
    let p = c.in_ok-group-in-Some-eq40.ensures.parsed in
    refused_text c.requires
    (c.skip_space.ensures.same start 0 before
    ∙ p.same _ _ first
    ∙ c.skip_space-2.ensures.same _ 0 between
    ∙ more_behind c.skip_space-2.new.self p.tree (sym c.in-Some.ensures) c.skip_space-2.ensures.solid
    c.wrong-in-Some.ensures)
