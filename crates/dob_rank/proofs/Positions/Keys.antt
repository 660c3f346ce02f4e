-- The order of keys against the order of digits.
use Rattle.dob_rank.proofs.Common.{◌++◌, ◌∙◌, ◌∷◌, ◌≡◌, ◌⊎◌, List, [], ap, eqb, inl, inr, map, refl, suc, sym, ℕ, Cell, holds_kind, holds_lion, HandKind, Enemy}
use Rattle.dob_rank.proofs.Common.{Mover, PieceSet, Setup, choice, count, digits, forms_number, layer, on_board, order, IsPositionOfSet, Precedes, form, forms}
use Rattle.dob_rank.proofs.Common.{key, Chicks, Elephants, EnemyLion, Giraffes, OwnLion, Empty, append-nil, arith, zero, ◌+◌, ◌<◌, ◌≤◌}
use Rattle.std.proofs.lemmas.List.Elements.{filter_agree}
use Rattle.dob_pieces.specs.declared.kind.HandKind.TheVariants as hand
use Rattle.dob_rank.proofs.Boards.Choices.{Alike, Alike-next, choice-rises, layer_squares}
use Rattle.dob_rank.proofs.Boards.LayerCounts.{holds_mover_lion, holds_enemy_lion, holds_kind-layer, count-layer, squares-layer}
use Rattle.dob_rank.proofs.Boards.KeyParts.{length-layer_squares, Alike-start, choice-alike, layer_forms, length-layer_forms, forms_number-rises}
use Rattle.dob_rank.proofs.Boards.KeyParts.{forms_number-alike}
use Rattle.dob_rank.proofs.Positions.Digits.{HasParts, HasParts-from_position}
use Rattle.dob_rank.proofs.Arithmetic.Order.{Upto, Upto-split, Upto-rest}

-- the mover's hand as a list
abbrev pub hand_list : Setup → List ℕ
hand_list s = s.hands.mover.chicks ∷ s.hands.mover.elephants ∷ s.hands.mover.giraffes ∷ []

-- the squares of so many layers from t on before a rest, and their choices before one
abbrev squares_at : ℕ → ℕ → List ℕ → List ℕ → List ℕ
squares_at zero t ls rest = rest
squares_at (suc n) t ls rest = layer_squares t 0 ls ++ squares_at n (suc t) ls rest

abbrev choices_at : ℕ → ℕ → List ℕ → List ℕ → List ℕ
choices_at zero t ls rest = rest
choices_at (suc n) t ls rest = choice t ls ∷ choices_at n (suc t) ls rest

-- the forms of so many layers from t on, and their numbers
abbrev forms_at : ℕ → ℕ → List Cell → List ℕ
forms_at zero t cells = []
forms_at (suc n) t cells = layer_forms t cells ++ forms_at n (suc t) cells

abbrev numbers_at : ℕ → ℕ → List Cell → List ℕ
numbers_at zero t cells = []
numbers_at (suc n) t cells = forms_number t cells ∷ numbers_at n (suc t) cells

-- the key and the digits after the mover's hand, by layers
abbrev pub squares_key : Setup → List ℕ
squares_key s = squares_at 5 (order OwnLion) (map layer s.board) (forms_at 3 (order Chicks) s.board)

abbrev squares_digits : Setup → List ℕ
squares_digits s = choices_at 5 (order OwnLion) (map layer s.board) (numbers_at 3 (order Chicks) s.board)

-- a test that picks a layer, in each part of the key
kind_forms : (kind : HandKind) (t : ℕ) (s : Setup) → ((cell : Cell) → holds_kind kind cell ≡ eqb (layer cell) t) → forms kind s ≡ layer_forms t s.board
kind_forms kind t s h = ap (map form) (filter_agree (holds_kind kind) (λ (cell : Cell). eqb (layer cell) t) h s.board)

three_same : (a b c a' b' c' : ℕ) → a ≡ a' → b ≡ b' → c ≡ c' → a ∷ b ∷ c ∷ [] ≡ a' ∷ b' ∷ c' ∷ []
three_same a b c a' b' c' p q r = cc

pub key-layers : (s : Setup) → key s ≡ on_board s ++ (hand_list s ++ squares_key s)
unfolding key
key-layers s = rw (
  count-layer (holds_kind hand.Chick) (order Chicks) (holds_kind-layer hand.Chick) s.board,
  count-layer (holds_kind hand.Elephant) (order Elephants) (holds_kind-layer hand.Elephant) s.board,
  count-layer (holds_kind hand.Giraffe) (order Giraffes) (holds_kind-layer hand.Giraffe) s.board,
  squares-layer (holds_lion Mover) (order OwnLion) holds_mover_lion 0 s.board,
  squares-layer (holds_lion Enemy) (order EnemyLion) holds_enemy_lion 0 s.board,
  squares-layer (holds_kind hand.Chick) (order Chicks) (holds_kind-layer hand.Chick) 0 s.board,
  squares-layer (holds_kind hand.Elephant) (order Elephants) (holds_kind-layer hand.Elephant) 0 s.board,
  squares-layer (holds_kind hand.Giraffe) (order Giraffes) (holds_kind-layer hand.Giraffe) 0 s.board,
  kind_forms hand.Chick (order Chicks) s (holds_kind-layer hand.Chick),
  kind_forms hand.Elephant (order Elephants) s (holds_kind-layer hand.Elephant),
  kind_forms hand.Giraffe (order Giraffes) s (holds_kind-layer hand.Giraffe),
  append-nil (layer_forms (order Giraffes) s.board),
) refl

-- earlier squares are earlier choices, and the same squares the same, of layers alike below t with as many squares
squares-rise : (n t : ℕ) (xs ys c d c' d' : List ℕ) → Alike t xs ys → ((u : ℕ) → u < order Empty → count u xs ≡ count u ys) → t + n ≤ order Empty
    → (Upto c d → Upto c' d') → Upto (squares_at n t xs c) (squares_at n t ys d) → Upto (choices_at n t xs c') (choices_at n t ys d')
squares-rise zero t xs ys c d c' d' a same upto rest h = rest h
squares-rise (suc n) t xs ys c d c' d' a same upto rest h =
    let e : count t xs ≡ count t ys = same t (omega arith) in
    elim (Upto-split (layer_squares t 0 xs) (layer_squares t 0 ys) (squares_at n (suc t) xs c) (squares_at n (suc t) ys d)
    (length-layer_squares t 0 xs ∙ e ∙ sym (length-layer_squares t 0 ys)) h) [
      | inl lt ↦ inl (choice-rises t 0 xs ys a e lt)
      | inr q ↦ (let next : Alike (suc t) xs ys = Alike-next t 0 xs ys a q.0 in
          inr (choice-alike t xs ys next, squares-rise n (suc t) xs ys c d c' d' next same (omega arith) rest q.1))
    ]

-- and so of forms
forms-rise : (n t : ℕ) (xs ys : List Cell) → ((u : ℕ) → u < order Empty → count u (map layer xs) ≡ count u (map layer ys)) → t + n ≤ order Empty
    → Upto (forms_at n t xs) (forms_at n t ys) → Upto (numbers_at n t xs) (numbers_at n t ys)
forms-rise zero t xs ys same upto h = tt
forms-rise (suc n) t xs ys same upto h =
    let e : count t (map layer xs) ≡ count t (map layer ys) = same t (omega arith) in
    elim (Upto-split (layer_forms t xs) (layer_forms t ys) (forms_at n (suc t) xs) (forms_at n (suc t) ys)
    (length-layer_forms t xs ∙ e ∙ sym (length-layer_forms t ys)) h) [
      | inl lt ↦ inl (forms_number-rises t xs ys e lt)
      | inr q ↦ inr (forms_number-alike t xs ys e q.0, forms-rise n (suc t) xs ys same (omega arith) q.1)
    ]

same_counts : (set : PieceSet) (p q : Setup) → HasParts set p → HasParts set q → on_board p ≡ on_board q → (u : ℕ) → u < order Empty
    → count u (map layer p.board) ≡ count u (map layer q.board)
same_counts set p q hp hq e zero low = hp.own_lion ∙ sym hq.own_lion
same_counts set p q hp hq e (suc zero) low = hp.other_lion ∙ sym hq.other_lion
same_counts set p q hp hq e (suc (suc (suc (suc (suc u))))) low = absurd (omega arith)
same_counts set p q hp hq e u low = cc

-- after the numbers on the board a key that is no later has digits that are no later
digits-upto : (set : PieceSet) (p q : Setup) → HasParts set p → HasParts set q → on_board p ≡ on_board q
    → Upto (hand_list p ++ squares_key p) (hand_list q ++ squares_key q) → Upto (digits p) (digits q)
digits-upto set p q hp hq e h =
    Upto-rest (hand_list p) (hand_list q) (squares_key p) (squares_key q) (squares_digits p) (squares_digits q) refl
    (squares-rise 5 (order OwnLion) (map layer p.board) (map layer q.board) (forms_at 3 (order Chicks) p.board) (forms_at 3 (order Chicks) q.board)
    (numbers_at 3 (order Chicks) p.board) (numbers_at 3 (order Chicks) q.board)
    (Alike-start (map layer p.board) (map layer q.board) (hp.squares ∙ sym hq.squares))
    (same_counts set p q hp hq e) (omega arith) (forms-rise 3 (order Chicks) p.board q.board (same_counts set p q hp hq e) (omega arith))) h

-- a position with a key that is no later has earlier numbers on the board, or the same and digits that are no later
pub key-upto : (set : PieceSet) (p q : Setup) → IsPositionOfSet set p → IsPositionOfSet set q → Upto (key p) (key q)
    → Precedes (on_board p) (on_board q) ⊎ ((on_board p ≡ on_board q) × Upto (digits p) (digits q))
key-upto set p q hp hq h =
    elim (Upto-split (on_board p) (on_board q) (hand_list p ++ squares_key p) (hand_list q ++ squares_key q) refl (rw (key-layers p, key-layers q) at h)) [
      | inl lt ↦ inl lt
      | inr r ↦ inr (r.0, digits-upto set p q (HasParts-from_position set p hp) (HasParts-from_position set q hq) r.0 r.1)
    ]
