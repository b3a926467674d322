use Rattle.survey.proofs.MemberByMember.{found_surveyed}
use Rattle.survey.proofs.Survey.of.Goals as goal

pub returns : goal.returns
returns c = λ t s. found_surveyed t _ _ _ c.empty.ensures (c.survey_node.ensures t s)
