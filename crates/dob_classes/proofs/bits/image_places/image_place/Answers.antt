-- The digits of the spot make the position's sets, and those of its mirror image have the place.
use Rattle.dob_classes.proofs.Common.{◌*◌, ◌+◌, refl, subst, setup_of, mirrored, Hands, AreChoices-digits, HasDigits-numbers, HasDigits-spot}
use Rattle.dob_classes.proofs.Common.{IsPositionOfSet-mirrored, local_in_bases, made_by, made_in_block, run_in_bases, HasBlock, HasDigits, bases_by, board_of}
use Rattle.dob_classes.proofs.Common.{layers_by, numbers_by, setup_by, AreChoices, run_size, IsBoardOf, IsShownOfSet}
use Rattle.dob_classes.proofs.bits.image_places.image_place.Goals as goal
use Rattle.dob_classes.proofs.bits.image_places.image_place.Goals.{After-digits_with-digits, After-mirrored}

pub digits_with-digits-requires : goal.digits_with-digits-requires
digits_with-digits-requires c = record {
  on_board = HasDigits-numbers c.args.set c.args.block _ c.requires.block c.requires.shape.on_board_is;
  choices = c.requires.shape.choices_are;
  digits = c.requires.shape.digits_are;
  run = run_in_bases c.args.set c.args.block c.args.spot.run _ c.requires.shape.on_board_is c.requires.run;
  local = local_in_bases c.args.set c.args.block c.args.spot.local _ c.requires.shape.on_board_is c.requires.local;
}

-- the spot has the digits, which are choices
has_digits : (c : After-digits_with-digits) → HasDigits (bases_by c.args.set c.args.shape.now.on_board) c.digits_with-digits.result
has_digits c = HasDigits-spot c.args.set c.args.shape.now.on_board c.args.spot.run c.args.spot.local _
    (run_in_bases c.args.set c.args.block c.args.spot.run _ c.requires.shape.on_board_is c.requires.run)
    (local_in_bases c.args.set c.args.block c.args.spot.local _ c.requires.shape.on_board_is c.requires.local) c.digits_with-digits.ensures

choices : (c : After-digits_with-digits) → AreChoices c.args.shape.now.on_board c.digits_with-digits.result
choices c = AreChoices-digits c.args.set c.args.shape.now.on_board c.digits_with-digits.result
    (HasDigits-numbers c.args.set c.args.block _ c.requires.block c.requires.shape.on_board_is) (has_digits c)

pub places_by-places-requires : goal.places_by-places-requires
places_by-places-requires c = (let are = choices (goal.at.places_by-places-requires c).After-digits_with-digits in record {
  chicks = are.chicks;
  elephants = are.elephants;
  giraffes = are.giraffes;
  chick_squares = are.chick_squares;
  elephant_squares = are.elephant_squares;
  giraffe_squares = are.giraffe_squares;
})

pub hands_of-hands-requires : goal.hands_of-hands-requires
hands_of-hands-requires c = record {
  on_board = HasDigits-numbers c.args.set c.args.block _ c.requires.block c.requires.shape.on_board_is;
  digits = has_digits (goal.at.hands_of-hands-requires c).After-digits_with-digits;
}

pub bits_by-board-requires-clause-choices : goal.bits_by-board-requires-clause-choices
bits_by-board-requires-clause-choices c = choices (goal.at.bits_by-board-requires-clause-choices c).After-digits_with-digits

-- the setup of the digits stands at the spot
setup_there : (c : After-digits_with-digits) → HasBlock c.args.set c.args.block (c.args.spot.run * run_size c.args.set c.args.block + c.args.spot.local)
    (setup_by c.args.set c.args.shape.now.on_board c.digits_with-digits.result)
setup_there c =
    let on_board = c.args.shape.now.on_board in
    made_in_block c.args.set c.args.block c.args.spot.run c.args.spot.local on_board _ c.requires.block c.requires.shape.on_board_is
    (made_by c.args.set on_board c.args.spot.run c.args.spot.local c.digits_with-digits.result _
    (HasDigits-numbers c.args.set c.args.block _ c.requires.block c.requires.shape.on_board_is)
    (run_in_bases c.args.set c.args.block c.args.spot.run _ c.requires.shape.on_board_is c.requires.run)
    (local_in_bases c.args.set c.args.block c.args.spot.local _ c.requires.shape.on_board_is c.requires.local) c.digits_with-digits.ensures refl)

-- and the sets are those of its mirror image
image_shown : (c : After-mirrored) → HasBlock c.args.set c.args.block (c.args.spot.run * run_size c.args.set c.args.block + c.args.spot.local)
    (setup_by c.args.set c.args.shape.now.on_board c.digits_with-digits.result)
    → IsShownOfSet c.args.set (mirrored (setup_by c.args.set c.args.shape.now.on_board c.digits_with-digits.result))
    c.mirrored.result
image_shown c there =
    let on_board = c.args.shape.now.on_board in
    let digits = c.digits_with-digits.result in
    let setup = setup_by c.args.set on_board digits in
    record {
      position = IsPositionOfSet-mirrored c.args.set setup there.position;
      squares = c.mirrored.ensures setup
          (subst (λ (h : Hands). IsBoardOf (setup_of (board_of (numbers_by digits) (layers_by on_board digits)) h) c.bits_by-board.result)
          c.hands_of-hands.ensures c.bits_by-board.ensures);
    }

pub spot_by-requires : goal.spot_by-requires
spot_by-requires c = (
  _,
  image_shown (goal.at.spot_by-requires c).After-mirrored (setup_there (goal.at.spot_by-requires c).After-digits_with-digits),
)

pub returns : goal.returns
returns c = (
  _,
  (
    setup_there (goal.at.returns c).After-digits_with-digits,
    c.spot_by.ensures.local _ (image_shown (goal.at.returns c).After-mirrored (setup_there (goal.at.returns c).After-digits_with-digits)),
  ),
)
