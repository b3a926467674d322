use Rattle.std.proofs.Common.{Some, None, refl}
use Rattle.std.proofs.lemmas.Result.{err_from_is_err_and}
use Rattle.survey.proofs.Drafts.{model_stands, model_surveyed}
use Rattle.verdict.proofs.Weighing.{model_numbered, model_clash}
use Rattle.matching.specs.Passed.{refused, ambiguous}
use Rattle.matching.proofs.Preparing.{loaded_model, made_known}
use Rattle.matching.proofs.Prepared.fill.Goals as goal

pub returns-in_err-fill : goal.returns-in_err-fill
returns-in_err-fill c =
    let p = err_from_is_err_and c.from_residual.result c.from_residual.ensures.1 in record { answer = rw (p.1, p.2) (refused c.in_err-fill.ensures.answer) }

pub of-survey-requires : goal.of-survey-requires
of-survey-requires c =
    let t = c.in_ok-fill.ensures.answer.0 in
    let m = loaded_model _ _ t c.in_ok-fill.ensures.answer.1 in
    model_stands c.fill.new.draft t m _ c.nodes.ensures.nodes

pub first_clash-requires-clause-numbered : goal.first_clash-requires-clause-numbered
first_clash-requires-clause-numbered c =
    let t = c.in_ok-fill.ensures.answer.0 in
    let m = loaded_model _ _ t c.in_ok-fill.ensures.answer.1 in
    model_numbered c.fill.new.draft t m _ c.fill_slot_names.ensures.answer

pub returns-in-Some : goal.returns-in-Some
returns-in-Some c =
    let t = c.in_ok-fill.ensures.answer.0 in
    let l = c.in_ok-fill.ensures.answer.1 in
    let d = c.fill.new.draft in
    let m = loaded_model _ _ t l in
    let s = model_surveyed d t m _ c.nodes.ensures.nodes _ _ c.of-survey.ensures in
    record {
      answer = ambiguous t l.loads
          (model_clash d t m _ _ s _ c.fill_slot_names.ensures.answer (Some c.in-Some.clash) c.in-Some.ensures.answer);
    }

pub returns-in-None : goal.returns-in-None
returns-in-None c =
    let t = c.in_ok-fill.ensures.answer.0 in
    let l = c.in_ok-fill.ensures.answer.1 in
    let d = c.fill.new.draft in
    let m = loaded_model _ _ t l in
    let s = model_surveyed d t m _ c.nodes.ensures.nodes _ _ c.of-survey.ensures in
    let names = c.fill_slot_names.ensures.answer in
    record {
      answer = record {
        model = t;
        loaded = l;
        clear = model_clash d t m _ _ s _ names None c.in-None.ensures.answer;
        known = made_known t _ c.of-survey.result m s refl refl refl names;
      };
    }
