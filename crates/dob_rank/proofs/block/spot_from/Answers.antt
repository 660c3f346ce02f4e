-- The parts of a spot are the numbers of parts of its digits.
use Rattle.dob_rank.proofs.Common.{◌∙◌, ◌∷◌, [], ap, arith, get_or, product}
use Rattle.dob_rank.proofs.InRuns.DigitParts.{AreBasesFound, AreSpotDigits, IsRunFound, IsLocalFound, AreFewOnBoard-digits, bases_found, spot_digits}
use Rattle.dob_rank.proofs.InRuns.DigitParts.{digits_below, run_found, local_found}
use Rattle.dob_rank.proofs.block.spot_from.Goals as goal
use Rattle.dob_rank.proofs.block.spot_from.Goals.{After-bases_in-bases, After-number_of-hands, After-number_of-squares}

digits_in : (c : After-bases_in-bases) → AreSpotDigits c.args.set c.args.on_board.now c.args.digits.now
digits_in c = spot_digits c.args.set c.args.on_board.now c.args.digits.now c.told-digits c.requires.on_board c.requires.digits

bases_in : (c : After-bases_in-bases) → AreBasesFound c.args.set c.args.on_board.now c.bases_in-bases.result
bases_in c = bases_found c.args.set c.args.on_board.now _ c.bases_in-bases.ensures

run_in : (c : After-number_of-hands) → IsRunFound c.args.set c.args.on_board.now c.args.digits.now c.number_of-hands.result
run_in c =
    run_found c.args.set c.args.on_board.now c.args.digits.now _ _ (bases_found c.args.set c.args.on_board.now _ c.bases_in-bases.ensures)
    (spot_digits c.args.set c.args.on_board.now c.args.digits.now c.told-digits c.requires.on_board c.requires.digits) c.number_of-hands.ensures

local_in : (c : After-number_of-squares) → IsLocalFound c.args.on_board.now c.args.digits.now c.number_of-squares.result
local_in c =
    local_found c.args.set c.args.on_board.now c.args.digits.now _ _ (bases_found c.args.set c.args.on_board.now _ c.bases_in-bases.ensures)
    (spot_digits c.args.set c.args.on_board.now c.args.digits.now c.told-digits c.requires.on_board c.requires.digits) c.number_of-squares.ensures

pub number_of-hands-requires : goal.number_of-hands-requires
number_of-hands-requires c =
    let at = (goal.at.number_of-hands-requires c).After-bases_in-bases in
    record {
      below = digits_below _ _ (get_or c.args.digits.now 0 0 ∷ get_or c.args.digits.now 1 0 ∷ get_or c.args.digits.now 2 0 ∷ []) (bases_in at).hands_are
          (digits_in at).hands_have;
      fits = omega (arith, ap product (bases_in at).hands_are, (digits_in at).hands_small);
    }

pub number_of-squares-requires : goal.number_of-squares-requires
number_of-squares-requires c =
    let at = (goal.at.number_of-squares-requires c).After-bases_in-bases in
    record {
      below = digits_below _ _ (get_or c.args.digits.now 5 0 ∷ get_or c.args.digits.now 6 0 ∷ get_or c.args.digits.now 7 0 ∷ []) (bases_in at).squares_are
          (digits_in at).squares_have;
      fits = omega (arith, ap product (bases_in at).squares_are, (digits_in at).squares_small);
    }

pub overflow_mul-lions : goal.overflow_mul-lions
overflow_mul-lions c = omega (arith, (digits_in (goal.at.overflow_mul-lions c).After-bases_in-bases).own_low)

pub overflow_add-lions : goal.overflow_add-lions
overflow_add-lions c =
    let are = digits_in (goal.at.overflow_add-lions c).After-bases_in-bases in
    omega (arith, are.own_low, are.enemy_low)

pub form_number-forms-requires-clause-few : goal.form_number-forms-requires-clause-few
form_number-forms-requires-clause-few c = AreFewOnBoard-digits c.args.set c.args.on_board.now c.requires.on_board

pub form_number-forms-requires-clause-forms : goal.form_number-forms-requires-clause-forms
form_number-forms-requires-clause-forms c = (digits_in (goal.at.form_number-forms-requires-clause-forms c).After-bases_in-bases).forms_have

pub form_bits-requires : goal.form_bits-requires
form_bits-requires c = AreFewOnBoard-digits c.args.set c.args.on_board.now c.requires.on_board

pub overflow_mul-run : goal.overflow_mul-run
overflow_mul-run c =
    let at = goal.at.overflow_mul-run c in
    omega (arith, (run_in at.After-number_of-hands).hands_low, (digits_in at.After-bases_in-bases).hands_small)

pub overflow_add-run : goal.overflow_add-run
overflow_add-run c =
    let are = digits_in (goal.at.overflow_add-run c).After-bases_in-bases in
    let run = run_in (goal.at.overflow_add-run c).After-number_of-hands in
    omega (arith, run.hands_low, are.hands_small, are.own_low, are.enemy_low)

pub join_by_power-local-requires : goal.join_by_power-local-requires
join_by_power-local-requires c =
    let are = digits_in (goal.at.join_by_power-local-requires c).After-bases_in-bases in
    let local = local_in (goal.at.join_by_power-local-requires c).After-number_of-squares in
    record {
      exponent = omega (arith, c.form_bits.ensures.bound);
      quotient = omega (arith, local.squares_low, are.squares_small);
      rest = omega (arith, c.form_number-forms.ensures.bound);
    }

pub returns-clause-run : goal.returns-clause-run
returns-clause-run c = (run_in (goal.at.returns-clause-run c).After-number_of-hands).run_is

pub returns-clause-local : goal.returns-clause-local
returns-clause-local c =
    c.join_by_power-local.ensures
    ∙ (local_in (goal.at.returns-clause-local c).After-number_of-squares).local_is _ _ c.form_bits.ensures.value c.form_number-forms.ensures.value
