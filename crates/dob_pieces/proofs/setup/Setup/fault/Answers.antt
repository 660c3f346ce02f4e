-- The tests in their order find the first fault, or the setup is legal.
use Rattle.dob_pieces.proofs.Common.{rules, both_ways}
use Rattle.dob_pieces.proofs.setup.Setup.fault.Goals as goal

pub returns-then-not-has_few_pieces : goal.returns-then-not-has_few_pieces
returns-then-not-has_few_pieces c = (
  c.has_lions.ensures.0 c.if-not-has_lions.false,
  λ few. both_ways _ c.if-not-has_few_pieces.true (c.has_few_pieces.ensures.1 few),
)

pub returns-then-not-has_lion_off_far_row : goal.returns-then-not-has_lion_off_far_row
returns-then-not-has_lion_off_far_row c = (
  c.has_lions.ensures.0 c.if-not-has_lions.false,
  c.has_few_pieces.ensures.0 c.if-not-has_few_pieces.false,
  λ home. both_ways _ c.if-not-has_lion_off_far_row.true (c.has_lion_off_far_row.ensures.1 home),
)

pub returns-else-not-has_lion_off_far_row : goal.returns-else-not-has_lion_off_far_row
returns-else-not-has_lion_off_far_row c = record {
  squares = search rules;
  lions = c.has_lions.ensures.0 c.if-not-has_lions.false;
  few = c.has_few_pieces.ensures.0 c.if-not-has_few_pieces.false;
  home = c.has_lion_off_far_row.ensures.0 c.if-not-has_lion_off_far_row.false;
}
