-- At the class's spot stands its representative, and the digits of the spot make the sets of its squares.
use Rattle.dob_classes.proofs.Common.{◌*◌, ◌+◌, ◌≡◌, arith, refl, subst, setup_of, Family, Hands, Setup, AreFewOnBoard-digits, AreChoices-digits, HasDigits-spot}
use Rattle.dob_classes.proofs.Common.{made_by, HasDigits, bases_by, board_of, digits_of, layers_by, local_bases, numbers_by, product, setup_by, IsBoardOf}
use Rattle.dob_classes.proofs.Common.{seen_by}
use Rattle.dob_classes.proofs.OfFamilies.FamilyRepresentatives.{setup_at_class}
use Rattle.dob_classes.proofs.Tables.FamilyBlocks.{IsSpotOf, at_spot_in, spot_in_block}
use Rattle.dob_classes.proofs.Tables.PlaceTables.{squares_below, places_read}
use Rattle.dob_classes.proofs.classes.Classes.board_at.Goals as goal
use Rattle.dob_classes.proofs.classes.Classes.board_at.Goals.{After-digits_at-digits}

spot : (c : After-digits_at-digits) → IsSpotOf c.args.self.now.family c.block_of-block.result.now c.spot_at-spot.result.run c.spot_at-spot.result.local
spot c =
    spot_in_block c.args.self.now.family _ _ c.block_of-block.result.now c.block_of-block.ensures.family c.spot_at-spot.ensures.run
    c.spot_at-spot.ensures.local

digits_are : (c : After-digits_at-digits) → let block = c.block_of-block.result.now in
    c.digits_at-digits.result ≡ digits_of (bases_by c.args.self.now.family.set block.on_board)
    (c.spot_at-spot.result.run * product (local_bases block.on_board) + c.spot_at-spot.result.local)
digits_are c =
    let block = c.block_of-block.result.now in
    let spot = c.spot_at-spot.result in
    subst (λ (f : Family). c.digits_at-digits.result ≡ digits_of (bases_by f.set block.on_board)
    (spot.run * product (local_bases block.on_board) + spot.local)) c.block_of-block.ensures.family c.digits_at-digits.ensures

has : (c : After-digits_at-digits) → HasDigits (bases_by c.args.self.now.family.set c.block_of-block.result.now.on_board) c.digits_at-digits.result
has c =
    let at = spot c in
    HasDigits-spot c.args.self.now.family.set c.block_of-block.result.now.on_board c.spot_at-spot.result.run c.spot_at-spot.result.local _ at.run_below
    at.local_below (digits_are c)

pub squares_at-squares-requires : goal.squares_at-squares-requires
squares_at-squares-requires c =
    AreFewOnBoard-digits c.args.self.now.family.set c.block_of-block.result.now.on_board
    (spot (goal.at.squares_at-squares-requires c).After-digits_at-digits).on_board_has

pub hands_of-hands-requires : goal.hands_of-hands-requires
hands_of-hands-requires c =
    let here = (goal.at.hands_of-hands-requires c).After-digits_at-digits in
    record { on_board = (spot here).on_board_has; digits = has here }

pub index-places-requires : goal.index-places-requires
index-places-requires c =
    let block = c.block_of-block.result.now in
    let at = spot (goal.at.index-places-requires c).After-digits_at-digits in
    let inside = squares_below c.args.self.now.family.set block.on_board _ _ c.squares_at-squares.result block.places.items at.run_below at.local_below
    c.squares_at-squares.ensures block.placed in
    omega (arith, inside, block.places.ok)

pub bits_by-requires : goal.bits_by-requires
bits_by-requires c =
    let block = c.block_of-block.result.now in
    let set = c.args.self.now.family.set in
    let here = (goal.at.bits_by-requires c).After-digits_at-digits in
    let at = spot here in
    record {
      choices = AreChoices-digits set block.on_board c.digits_at-digits.result at.on_board_has (has here);
      places = places_read set block.on_board _ _ c.squares_at-squares.result c.digits_at-digits.result block.places.items
          c.index-places.result.now at.run_below at.local_below (digits_are here) c.squares_at-squares.ensures block.placed
          c.index-places.ensures;
    }

pub returns : goal.returns
returns c =
    let block = c.block_of-block.result.now in
    let family = c.args.self.now.family in
    let digits = c.digits_at-digits.result in
    let stands = setup_by family.set block.on_board digits in
    let at = spot (goal.at.returns c).After-digits_at-digits in
    let made = made_by family.set block.on_board c.spot_at-spot.result.run c.spot_at-spot.result.local digits stands at.on_board_has at.run_below
    at.local_below (digits_are (goal.at.returns c).After-digits_at-digits) refl in
    let is = at_spot_in family c.spot_at-spot.result.run c.spot_at-spot.result.local c.args.class block stands c.block_of-block.ensures.family
    c.spot_at-spot.ensures.mark c.spot_at-spot.ensures.class made in
    subst (λ (s : Setup). IsBoardOf (seen_by c.args.side s) c.bits_by.result) (setup_at_class family stands c.args.class is)
    (subst (λ (h : Hands). IsBoardOf (seen_by c.args.side (setup_of (board_of (numbers_by digits) (layers_by block.on_board digits)) h)) c.bits_by.result)
    c.hands_of-hands.ensures c.bits_by.ensures)
