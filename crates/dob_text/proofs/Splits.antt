-- A text is joined from its parts in one way.
use Rattle.dob_text.proofs.Common.{◌++◌, ◌+◌, ◌<◌, ◌∙◌, ◌∷◌, ◌≡◌, ◌≢◌, ◌≤◌, All, List, None, Some, [], ap, append_assoc, arith, drop, false, get_or, length}
use Rattle.dob_text.proofs.Common.{length-append, refl, subst, sym, take, true, ℕ, get_or_append_left, take-append-drop, after_first, before_first, position}
use Rattle.dob_text.proofs.Common.{position_or_len, AreParts, AreTwoWords, HasShape, IsWord, is_space}
use Rattle.std.proofs.lemmas.List.{take_at, drop_at, get_or_at, drop_more}
use Rattle.std.proofs.lemmas.List.Quantifiers.{position-Some}
use Rattle.std.proofs.lemmas.List.Sums.{position_or_len_is}
use Rattle.std.proofs.lemmas.Bool.Decides.{nat_tests}
use Rattle.dob_pieces.proofs.Lists.{append-same}

-- the first space stands behind a front that has none
pub space_at : (a x : List ℕ) → All (λ byte. byte ≢ 32) a → position_or_len is_space (a ++ 32 ∷ x) ≡ length a
space_at a x none =
    let reads : (k : ℕ) → k < length a → get_or (a ++ 32 ∷ x) k 0 ≡ get_or a k 0 = λ k h. get_or_append_left a (32 ∷ x) 0 k h in
    let here : get_or (a ++ 32 ∷ x) (length a) 0 ≡ 32 = get_or_at a 32 x 0 (length a) refl in
    let size : length a ≤ length (a ++ 32 ∷ x) = simp length-append (omega arith) in
    position_or_len_is is_space (a ++ 32 ∷ x) (length a) 0 size
    (λ k h. let r : get_or (a ++ 32 ∷ x) k 0 ≡ get_or a k 0 = reads k h in let n : get_or a k 0 ≢ 32 = none k 0 h in grind (arith, nat_tests))
    (λ h. grind (arith, nat_tests))

-- neither front has a space
pub same_words : (a b x y : List ℕ) → All (λ byte. byte ≢ 32) a → All (λ byte. byte ≢ 32) b → a ++ 32 ∷ x ≡ b ++ 32 ∷ y → (a ≡ b) × (x ≡ y)
same_words a b x y none_a none_b joined =
    let size : length a ≡ length b = sym (space_at a x none_a) ∙ ap (position_or_len is_space) joined ∙ space_at b y none_b in
    let parts : (a ≡ b) × (32 ∷ x ≡ 32 ∷ y) = append-same a b (32 ∷ x) (32 ∷ y) size joined in
    (parts.0, let e : 32 ∷ x ≡ 32 ∷ y = parts.1 in cc)

-- three parts, of which the first has a known length and the second no space
pub same_parts : (a b x y p q : List ℕ) → length a ≡ length b → All (λ byte. byte ≢ 32) x → All (λ byte. byte ≢ 32) y
    → a ++ 32 ∷ x ++ 32 ∷ p ≡ b ++ 32 ∷ y ++ 32 ∷ q → (a ≡ b) × (x ≡ y) × (p ≡ q)
same_parts a b x y p q size none_x none_y joined =
    let regrouped : a ++ (32 ∷ (x ++ 32 ∷ p)) ≡ b ++ (32 ∷ (y ++ 32 ∷ q)) = sym (append_assoc a (32 ∷ x) (32 ∷ p))
    ∙ joined ∙ append_assoc b (32 ∷ y) (32 ∷ q) in
    let front : (a ≡ b) × (32 ∷ (x ++ 32 ∷ p) ≡ 32 ∷ (y ++ 32 ∷ q)) = append-same a b _ _ size regrouped in
    let rest : x ++ 32 ∷ p ≡ y ++ 32 ∷ q = (let e : 32 ∷ (x ++ 32 ∷ p) ≡ 32 ∷ (y ++ 32 ∷ q) = front.1 in cc) in
    let words : (x ≡ y) × (p ≡ q) = same_words x y p q none_x none_y rest in
    (front.0, words.0, words.1)

-- the two words are what stands before the first space and after it
pub words_are : (text mover enemy : List ℕ) → AreTwoWords text mover enemy → (position_or_len is_space text ≡ length mover)
    × (before_first is_space text ≡ mover) × (after_first is_space text ≡ enemy)
words_are text mover enemy words =
    let at : position_or_len is_space text ≡ length mover = ap (position_or_len is_space) words.joined ∙ space_at mover enemy words.first.whole in (
      at,
      ap (λ n. take n text) at ∙ ap (take (length mover)) words.joined ∙ take_at mover (32 ∷ enemy) (length mover) refl,
      ap (λ n. drop (n + 1) text) at ∙ ap (drop (length mover + 1)) (words.joined ∙ sym (append_assoc mover (32 ∷ []) enemy))
          ∙ drop_at (mover ++ 32 ∷ []) enemy (length mover + 1) (length-append mover (32 ∷ [])),
    )

-- the place of the first space is known
pub space_is : (text mover enemy : List ℕ) → AreTwoWords text mover enemy → position is_space text ≡ Some (length mover)
space_is text mover enemy words =
    let at : position_or_len is_space text ≡ length mover = (words_are text mover enemy words).0 in
    let size : length text ≡ length mover + length (32 ∷ enemy) = ap length words.joined ∙ length-append mover (32 ∷ enemy) in
    grind (arith, nat_tests)

-- with no space there are no two words
pub no_space : (text : List ℕ) → None ≡ position is_space text → (mover enemy : List ℕ) → ¬ AreTwoWords text mover enemy
no_space text none mover enemy words = let e : None ≡ Some (length mover) = none ∙ space_is text mover enemy words in cc

-- what stands before the first space and after it are the words
pub words_found : (text mover enemy : List ℕ) (space : ℕ) → Some space ≡ position is_space text → mover ≡ take space text
    → enemy ≡ drop (space + 1) text → IsWord mover → IsWord enemy → AreTwoWords text mover enemy
words_found text mover enemy space found is_mover is_enemy first second =
    let at : (space < length text) × (is_space (get_or text space 0) ≡ true) × ((k : ℕ) → k < space → is_space (get_or text k 0) ≡ false)
    = position-Some is_space text space 0 (sym found) in
    let lt : space < length text = at.0 in
    let byte : get_or text space 0 ≡ 32 = (let t : is_space (get_or text space 0) ≡ true = at.1 in grind (arith, nat_tests)) in
    record {
      joined = sym (take-append-drop space text) ∙ ap (λ x. take space text ++ x) (drop_more text space 0 lt)
          ∙ ap (λ n. take space text ++ n ∷ drop (space + 1) text) byte
          ∙ ap (λ x. x ++ 32 ∷ drop (space + 1) text) (sym is_mover) ∙ ap (λ x. mover ++ 32 ∷ x) (sym is_enemy);
      first = first;
      second = second;
    }

-- and no others
pub words_only : (text mover enemy first second : List ℕ) (space : ℕ) → Some space ≡ position is_space text → mover ≡ take space text
    → enemy ≡ drop (space + 1) text → AreTwoWords text first second → IsWord mover × IsWord enemy
words_only text mover enemy first second space found is_mover is_enemy words =
    let at : space ≡ length first = (let e : Some space ≡ Some (length first) = found ∙ space_is text first second words in cc) in
    let w : (position_or_len is_space text ≡ length first) × (before_first is_space text ≡ first) × (after_first is_space text ≡ second)
    = words_are text first second words in
    let same : space ≡ position_or_len is_space text = at ∙ sym w.0 in
    let one : mover ≡ first = is_mover ∙ ap (λ n. take n text) same ∙ w.1 in
    let two : enemy ≡ second = is_enemy ∙ ap (λ n. drop (n + 1) text) same ∙ w.2 in
    (subst (λ (x : List ℕ). IsWord x) (sym one) words.first, subst (λ (x : List ℕ). IsWord x) (sym two) words.second)

-- behind the board there are no two words
pub no_parts : (text rest words : List ℕ) → rest ≡ drop 15 text → words ≡ drop 1 rest
    → ((mover enemy : List ℕ) → ¬ AreTwoWords words mover enemy) → ¬ HasShape text
no_parts text rest words is_rest is_words none shape =
    let grid : List ℕ = shape.1 in
    let mover : List ℕ = shape.2 in
    let enemy : List ℕ = shape.3 in
    let parts : AreParts text grid mover enemy = shape.4 in
    let tail : drop 15 text ≡ 32 ∷ (mover ++ 32 ∷ enemy) = ap (drop 15) (parts.joined ∙ append_assoc grid (32 ∷ mover) (32 ∷ enemy))
    ∙ drop_at grid (32 ∷ (mover ++ 32 ∷ enemy)) 15 parts.board.size in
    none mover enemy (record {
      joined = is_words ∙ ap (drop 1) (is_rest ∙ tail);
      first = parts.first;
      second = parts.second;
    })
