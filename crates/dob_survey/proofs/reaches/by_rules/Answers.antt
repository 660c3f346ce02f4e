-- The position is the text's, and one of the family that is searched.
use Rattle.dob_survey.proofs.reaches.by_rules.Goals as goal

pub reached_from-requires-clause-member : goal.reached_from-requires-clause-member
reached_from-requires-clause-member g c = λ κs lives. c.in_ok-classes.ensures.member

pub reach_lines-requires-clause-some : goal.reach_lines-requires-clause-some
reach_lines-requires-clause-some g c = c.in_ok-reached.ensures.some

pub returns-clause-ok : goal.returns-clause-ok
returns-clause-ok g c = record {
  family = c.in_ok-classes.classes.family;
  rules = c.in_ok-classes.ensures.rules;
  position = c.in_ok-position.position.setup;
  named = (c.in_ok-position.position.legal, record { squares = c.in_ok-position.position.legal.squares; spelled = c.in_ok-position.ensures.read });
  member = c.in_ok-classes.ensures.member;
  reached = c.in_ok-reached.reached;
  found = c.in_ok-reached.ensures;
  same = c.in_ok-reach_lines.ensures;
}
