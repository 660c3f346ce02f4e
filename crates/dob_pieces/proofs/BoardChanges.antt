-- Sets of squares when one square of the setup changes.
use Rattle.dob_pieces.proofs.Common.{◌&&◌, ◌<◌, ◌==◌, ◌||◌, ◌∙◌, ◌≡◌, eq-eqb, ne_eqb, not, Bool, None, Some, ap, arith, cond, false, inl, inr, length, refl}
use Rattle.dob_pieces.proofs.Common.{rules, set, subst, sym, true, ℕ, cases_Bool, cases_eq, AreSquares, Cell, at}
use Rattle.dob_pieces.proofs.Common.{piece_of, Hands, Kind, Lion, Side, Enemy, Mover, Setup}
use Rattle.std.proofs.Math.Bool.{and-false, and-true, or-false, or-true}
use Rattle.dob_pieces.proofs.MaskBits.{IsMask-same}
use Rattle.dob_pieces.proofs.Targets.{IsMask-less, IsMask-more}
use Rattle.dob_pieces.specs.Masks.{with_square, without_square}
use Rattle.dob_pieces.specs.Boards.{IsBoardOf, is_chick, is_elephant, is_enemy, is_enemy_lion, is_giraffe, is_hen, is_own_lion}
use Rattle.dob_pieces.specs.Changes.{IsWith, with_enemy, with_own}
use Rattle.dob_pieces.specs.declared.board.Board.{Board}

-- ---- one set

module _ (before after : Setup) (square : ℕ) (cell : Cell) (lt : square < 12) (w : IsWith before after square cell) (test : Cell → Bool) (mask : ℕ)
    (are : AreSquares before test mask) where
  -- what the test says of the new cell it said of the old one
  pub kept : test cell ≡ test (at before square) → AreSquares after test mask
  kept same = IsMask-same (λ s. test (at before s)) (λ s. test (at after s)) mask
      (λ s below. elim (cases_eq s square) [
        | inl e ↦ subst (λ (n : ℕ). test (at before n) ≡ test (at after n)) (sym e) (sym same ∙ ap test (sym w.here))
        | inr apart ↦ ap test (sym (w.there s below apart))
      ]) are

  -- the new cell passes the test
  pub added : test cell ≡ true → AreSquares after test (with_square mask square)
  added passes = IsMask-same (λ s. test (at before s) || (s == square)) (λ s. test (at after s)) (with_square mask square)
      (λ s below. elim (cases_eq s square) [
        | inl e ↦ rw (e, eq-eqb square square refl, w.here, passes) (or-true (test (at before square)))
        | inr apart ↦ rw (ne_eqb s square apart, w.there s below apart) (or-false (test (at before s)))
      ]) (IsMask-more (λ s. test (at before s)) mask square lt are)

  -- it doesn't
  pub gone : test cell ≡ false → AreSquares after test (without_square mask square)
  gone fails = IsMask-same (λ s. test (at before s) && not (s == square)) (λ s. test (at after s)) (without_square mask square)
      (λ s below. elim (cases_eq s square) [
        | inl e ↦ rw (e, eq-eqb square square refl, w.here, fails) (and-false (test (at before square)))
        | inr apart ↦ rw (ne_eqb s square apart, w.there s below apart) (and-true (test (at before s)))
      ]) (IsMask-less (λ s. test (at before s)) mask square lt are)

-- ---- all sets

-- the sets with that piece on an empty square
abbrev pub with_piece : Side → Kind → ℕ → Board → Board
with_piece Mover kind k b = with_own kind k b
with_piece Enemy kind k b = with_enemy kind k b

-- on an empty square each set gets the bit where the new cell passes its test
module _ (before after : Setup) (square : ℕ) (cell : Cell) (lt : square < 12) (w : IsWith before after square cell) (empty : at before square ≡ None) where
  abbrev pub grown : (Cell → Bool) → ℕ → ℕ
  grown test mask = cond (test cell) (with_square mask square) mask

  test_grown : (test : Cell → Bool) (mask new : ℕ) → test None ≡ false → AreSquares before test mask → new ≡ grown test mask → AreSquares after test new
  test_grown test mask new none are e = elim (cases_Bool (test cell)) [
    | inl on ↦ subst (AreSquares after test) (sym (e ∙ ap (λ (is : Bool). cond is (with_square mask square) mask) on))
        (added before after square cell lt w test mask are on)
    | inr off ↦ subst (AreSquares after test) (sym (e ∙ ap (λ (is : Bool). cond is (with_square mask square) mask) off))
        (kept before after square cell lt w test mask are (off ∙ sym (ap test empty ∙ none)))
  ]

  pub all_grown : (b new : Board) → IsBoardOf before b → new.own_lion ≡ grown is_own_lion b.own_lion → new.enemy_lion ≡ grown is_enemy_lion b.enemy_lion
      → new.chicks ≡ grown is_chick b.chicks → new.elephants ≡ grown is_elephant b.elephants → new.giraffes ≡ grown is_giraffe b.giraffes
      → new.hens ≡ grown is_hen b.hens → new.enemies ≡ grown is_enemy b.enemies → new.hands ≡ b.hands → IsBoardOf after new
  all_grown b new are o e c l g h x hands = record {
    own_lion_is = test_grown is_own_lion b.own_lion new.own_lion refl are.own_lion_is o;
    enemy_lion_is = test_grown is_enemy_lion b.enemy_lion new.enemy_lion refl are.enemy_lion_is e;
    chicks_are = test_grown is_chick b.chicks new.chicks refl are.chicks_are c;
    elephants_are = test_grown is_elephant b.elephants new.elephants refl are.elephants_are l;
    giraffes_are = test_grown is_giraffe b.giraffes new.giraffes refl are.giraffes_are g;
    hens_are = test_grown is_hen b.hens new.hens refl are.hens_are h;
    enemies_are = test_grown is_enemy b.enemies new.enemies refl are.enemies_are x;
    hands_are = hands ∙ are.hands_are ∙ sym w.hands_stay;
  }

module _ (before after : Setup) (square : ℕ) (lt : square < 12) (b : Board) (are : IsBoardOf before b) where
  pub without_piece : IsWith before after square None → (new : Board)
      → new.own_lion ≡ without_square b.own_lion square
      → new.enemy_lion ≡ without_square b.enemy_lion square
      → new.chicks ≡ without_square b.chicks square
      → new.elephants ≡ without_square b.elephants square
      → new.giraffes ≡ without_square b.giraffes square
      → new.hens ≡ without_square b.hens square
      → new.enemies ≡ without_square b.enemies square
      → new.hands ≡ b.hands → IsBoardOf after new
  without_piece w new a i c d e f g h = record {
    own_lion_is = rw a (gone before after square None lt w is_own_lion b.own_lion are.own_lion_is refl);
    enemy_lion_is = rw i (gone before after square None lt w is_enemy_lion b.enemy_lion are.enemy_lion_is refl);
    chicks_are = rw c (gone before after square None lt w is_chick b.chicks are.chicks_are refl);
    elephants_are = rw d (gone before after square None lt w is_elephant b.elephants are.elephants_are refl);
    giraffes_are = rw e (gone before after square None lt w is_giraffe b.giraffes are.giraffes_are refl);
    hens_are = rw f (gone before after square None lt w is_hen b.hens are.hens_are refl);
    enemies_are = rw g (gone before after square None lt w is_enemy b.enemies are.enemies_are refl);
    hands_are = h ∙ are.hands_are ∙ sym w.hands_stay;
  }

  module _ (empty : at before square ≡ None) where
    pub piece_added : (side : Side) (kind : Kind) → IsWith before after square (Some (piece_of side kind)) → IsBoardOf after (with_piece side kind square b)
    piece_added Mover Lion w = all_grown before after square _ lt w empty b _ are refl refl refl refl refl refl refl refl
    piece_added Enemy Lion w = all_grown before after square _ lt w empty b _ are refl refl refl refl refl refl refl refl
    piece_added _ _ w = all_grown before after square _ lt w empty b _ are refl refl refl refl refl refl refl refl

    -- nothing comes on the empty square
    pub nothing_added : IsWith before after square None → IsBoardOf after b
    nothing_added w = all_grown before after square None lt w empty b b are refl refl refl refl refl refl refl refl

-- ---- a setup with one square changed
abbrev pub with_cell : Setup → ℕ → Cell → Setup
with_cell s square cell = record s { board = set s.board square cell }

-- a square is changed once more
pub with_cells : (s : Setup) (square : ℕ) (first second : Cell) → length s.board ≡ 12 → square < 12
    → IsWith (with_cell s square first) (with_cell s square second) square second
with_cells s square first second twelve lt = search rules

pub with_one : (s : Setup) (square : ℕ) (cell : Cell) → length s.board ≡ 12 → square < 12 → IsWith s (with_cell s square cell) square cell
with_one s square cell twelve lt = search rules

-- other hands
pub with_hands : (s : Setup) (b : Board) (hands found : Hands) → found ≡ hands → IsBoardOf s b
    → IsBoardOf (record s { hands = hands }) (record b { hands = found })
with_hands s b hands found e are = grind arith
