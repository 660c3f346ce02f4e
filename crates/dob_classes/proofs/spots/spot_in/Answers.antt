-- The position's place in its run is its number there in profile A, and gives it in profile B.
use Rattle.dob_classes.proofs.Common.{◌%◌, ◌∙◌, ◌≡◌, ◌≤◌, ◌<◌, ap, arith, refl, subst, sym, Family, List, PieceSet, Profile, Setup, ℕ, family_of, marks_below, Board, IsShown, IsShownOfSet}
use Rattle.dob_classes.proofs.Common.{AreFewOnBoard-digits, B, HasDigits-numbers, block_bases, block_of, digits_of, is_there, lion_pairs, local_bases, local_of}
use Rattle.dob_classes.proofs.Common.{on_board, on_board-block, product, run_of, run_size, spot_there}
use Rattle.dob_rank.specs.Weights.{allowed_place}
use Rattle.dob_rank.proofs.InRuns.RunPlaces.{HasSpot}
use Rattle.dob_classes.proofs.Counting.RunNumbers.{all_there, count_by_places}
use Rattle.dob_classes.proofs.spots.spot_in.Goals as goal
use Rattle.dob_classes.proofs.spots.spot_in.Goals.{After-spot_by-block, After-numbers_in}

of_set : (family : Family) (setup : Setup) (board : Board) → IsShown family setup board → IsShownOfSet family.set setup board
of_set family setup board shown = record { position = shown.position.of_set; squares = shown.squares }

pub spot_by-block-requires : goal.spot_by-block-requires
spot_by-block-requires c = (c.requires.0, of_set c.args.family c.requires.0 c.args.board.now c.requires.1)

pub returns-in-A : goal.returns-in-A
returns-in-A c =
    let of = of_set c.args.family in
    let board = c.args.board.now in
    let set = c.args.family.set in
    record {
      block = λ setup shown. c.spot_by-block.ensures.block setup (of setup board shown);
      run = λ setup shown. c.spot_by-block.ensures.run setup (of setup board shown);
      local = λ setup shown. c.spot_by-block.ensures.local setup (of setup board shown)
          ∙ sym (all_there c.args.family (block_of set setup) (run_of set setup) (local_of setup) c.in-A.is);
    }

-- the spot and the numbers on the board
record IsAt (set : PieceSet) (ob : List ℕ) (s : Setup) : Type 0 where
  numbers_are : ob ≡ digits_of (block_bases set) (block_of set s)
  spot : HasSpot set s set (block_of set s) (run_of set s) (local_of s)

at : (family : Family) (board : Board) (ob : List ℕ) (s : Setup) → IsShown family s board → ob ≡ on_board s → IsAt family.set ob s
at family board ob s shown is = record {
  numbers_are = is ∙ sym (on_board-block family.set s shown.position.of_set);
  spot = spot_there family.set s family.set (block_of family.set s) (run_of family.set s) (local_of s) shown.position.of_set refl refl refl refl;
}

shown_numbers : (c : After-numbers_in) (s : Setup) → IsShown c.args.family s c.args.board.now → c.numbers_in.result ≡ on_board s
shown_numbers c s shown = c.numbers_in.ensures s shown.squares shown.position.of_set.legal.squares

size_is : (set : PieceSet) (block : ℕ) (ob : List ℕ) → ob ≡ digits_of (block_bases set) block → product (local_bases ob) ≡ run_size set block
unfolding run_size
size_is set block ob is = ap (λ (xs : List ℕ). product (local_bases xs)) is

pub number_of_place-local-requires-clause-few : goal.number_of_place-local-requires-clause-few
number_of_place-local-requires-clause-few c =
    let there = goal.at.number_of_place-local-requires-clause-few c in
    let is = at c.args.family c.args.board.now c.numbers_in.result c.requires.0 c.requires.1 (shown_numbers there.After-numbers_in c.requires.0 c.requires.1) in
    AreFewOnBoard-digits c.args.family.set c.numbers_in.result (HasDigits-numbers c.args.family.set (block_of c.args.family.set c.requires.0) c.numbers_in.result
    is.spot.there.block_below is.numbers_are)

pub number_of_place-local-requires-clause-place : goal.number_of_place-local-requires-clause-place
number_of_place-local-requires-clause-place c =
    let there = goal.at.number_of_place-local-requires-clause-place c in
    let is = at c.args.family c.args.board.now c.numbers_in.result c.requires.0 c.requires.1 (shown_numbers there.After-numbers_in c.requires.0 c.requires.1) in
    subst (λ (n : ℕ). c.spot_by-block.result.1.local < n) (sym (size_is c.args.family.set (block_of c.args.family.set c.requires.0) c.numbers_in.result is.numbers_are))
    (subst (λ (n : ℕ). n < run_size c.args.family.set (block_of c.args.family.set c.requires.0))
    (sym (c.spot_by-block.ensures.local c.requires.0 (of_set c.args.family c.requires.0 c.args.board.now c.requires.1))) is.spot.there.local_below)

upto : (a b : ℕ) → a < b → a ≤ b
upto a b h = omega (arith, h)

pub returns-in-B : goal.returns-in-B
returns-in-B c =
    let there = (goal.at.returns-in-B c).After-numbers_in in
    let set = c.args.family.set in
    let board = c.args.board.now in
    record {
      block = λ s shown. c.spot_by-block.ensures.block s (of_set c.args.family s board shown);
      run = λ s shown. c.spot_by-block.ensures.run s (of_set c.args.family s board shown);
      local = λ s shown.
          let is = at c.args.family board c.numbers_in.result s shown (shown_numbers there s shown) in
          c.number_of_place-local.ensures.value
          ∙ ap (λ (n : ℕ). marks_below (allowed_place B c.numbers_in.result (n % lion_pairs)) c.spot_by-block.result.1.local)
          (c.spot_by-block.ensures.run s (of_set c.args.family s board shown))
          ∙ ap (marks_below (allowed_place B c.numbers_in.result (run_of set s % lion_pairs))) (c.spot_by-block.ensures.local s (of_set c.args.family s board shown))
          ∙ count_by_places set (block_of set s) (run_of set s) (local_of s) c.numbers_in.result is.spot.there.block_below is.spot.there.run_below
          (upto _ _ is.spot.there.local_below) is.numbers_are
          ∙ ap (λ (p : Profile). marks_below (is_there (family_of set p) (block_of set s) (run_of set s)) (local_of s)) (sym c.in-B.is);
    }
