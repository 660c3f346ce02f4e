-- The positions of a family, counted among the setups of its set.
use Rattle.dob_rank.proofs.Common.{◌&&◌, ◌+◌, ◌<◌, ◌∙◌, ◌≡◌, ◌≤◌, Bool, ap, arith, refl, suc, sym, true, zero, ℕ, is_allowed, PieceSet, Family, Profile, A}
use Rattle.dob_rank.proofs.Common.{Setup, HasRank, HasSize, IsPositionOf, classes_of, family_of, is_marked, is_present, rank_of, size_of, is_first, marks_below}
use Rattle.dob_rank.proofs.Common.{one_if, block_bases, block_size, nth, product, rank_of_set, size_of_set, start_of, Before, IsPositionOfSet, and_parts, subst}
use Rattle.dob_rank.specs.Families.{IsRepresentative, HasClasses, HasClass}
use Rattle.dob_rank.proofs.Positions.Numbering.{nth-rank_of_set, rank_of_set-below, rank_of_set-rises, Before-from_rank}
use Rattle.dob_rank.proofs.Positions.Blocks.{sum_below_more}
use Rattle.dob_rank.proofs.Marked.Marks.{first-marked, marked-first, HasCount-by}

-- a position's number is present just where the position is one of the family
pub present : (family : Family) (s : Setup) → IsPositionOf family s → is_present family (rank_of_set family.set s) ≡ true
unfolding is_present
present family s p = ap (is_allowed family.profile) (nth-rank_of_set family.set s p.of_set) ∙ p.allowed

pub allowed : (family : Family) (s : Setup) → IsPositionOfSet family.set s → is_present family (rank_of_set family.set s) ≡ true → IsPositionOf family s
unfolding is_present
allowed family s p on = record {
  of_set = p;
  allowed = ap (is_allowed family.profile) (sym (nth-rank_of_set family.set s p)) ∙ on;
}

pub HasSize-size_of : (family : Family) → HasSize family (size_of family)
unfolding size_of
HasSize-size_of family =
    HasCount-by family.set (is_present family) (size_of_set family.set) (IsPositionOf family) (omega arith)
    (λ s q. allowed family s q.0 q.1)
    (λ s p. (p.of_set, present family s p, rank_of_set-below family.set s p.of_set))

pub HasRank-rank_of : (family : Family) (s : Setup) → IsPositionOf family s → HasRank family s (rank_of family s)
unfolding rank_of
HasRank-rank_of family s p =
    let low : rank_of_set family.set s < size_of_set family.set = rank_of_set-below family.set s p.of_set in
    HasCount-by family.set (is_present family) (rank_of_set family.set s) (λ (q : Setup). IsPositionOf family q × Before q s) (omega arith)
    (λ q h. (allowed family q h.0 h.1, Before-from_rank family.set q s h.0 p.of_set h.2))
    (λ q h. (h.0.of_set, present family q h.0, rank_of_set-rises family.set q s h.0.of_set p.of_set h.1))

pub HasRank-of : (family : Family) (s : Setup) (number : ℕ) → IsPositionOf family s → number ≡ rank_of family s → HasRank family s number
HasRank-of family s number p is = subst (HasRank family s) (sym is) (HasRank-rank_of family s p)

and_both : (a b : Bool) → a ≡ true → b ≡ true → a && b ≡ true
and_both a b e f = ap (λ (x : Bool). x && b) e ∙ f

pub marked : (family : Family) (s : Setup) → IsRepresentative family s → is_marked family (rank_of_set family.set s) ≡ true
unfolding is_marked
marked family s h = and_both (is_present family (rank_of_set family.set s)) (is_first family.set (rank_of_set family.set s)) (present family s h.0)
    (first-marked family.set s h.0.of_set h.1)

pub represents : (family : Family) (s : Setup) → IsPositionOfSet family.set s → is_marked family (rank_of_set family.set s) ≡ true → IsRepresentative family s
unfolding is_marked
represents family s p on =
    let both = and_parts (is_present family (rank_of_set family.set s)) (is_first family.set (rank_of_set family.set s)) on in
    (allowed family s p both.0, marked-first family.set s p both.1)

pub HasClasses-classes_of : (family : Family) → HasClasses family (classes_of family)
unfolding classes_of
HasClasses-classes_of family =
    HasCount-by family.set (is_marked family) (size_of_set family.set) (IsRepresentative family) (omega arith)
    (λ s q. represents family s q.0 q.1)
    (λ s h. (h.0.of_set, marked family s h, rank_of_set-below family.set s h.0.of_set))

pub HasClass-marked : (family : Family) (s : Setup) → IsPositionOf family s
    → HasClass family s (marks_below (is_marked family) (rank_of_set family.set s))
HasClass-marked family s p =
    let low : rank_of_set family.set s < size_of_set family.set = rank_of_set-below family.set s p.of_set in
    HasCount-by family.set (is_marked family) (rank_of_set family.set s) (λ (q : Setup). IsRepresentative family q × Before q s) (omega arith)
    (λ q h. (represents family q h.0 h.1, Before-from_rank family.set q s h.0 p.of_set h.2))
    (λ q h. (h.0.0.of_set, marked family q h.0, rank_of_set-rises family.set q s h.0.0.of_set p.of_set h.1))

-- ---- in profile A every setup of the set is there
pub there : (family : Family) (n : ℕ) → family.profile ≡ A → is_present family n ≡ true
unfolding is_present
there family n a = ap (λ (p : Profile). is_allowed p (nth family.set n)) a

pub all_present : (family : Family) (n : ℕ) → family.profile ≡ A → marks_below (is_present family) n ≡ n
unfolding marks_below
all_present family zero a = refl
all_present family (suc n) a =
    let rest : marks_below (is_present family) n ≡ n = all_present family n a in
    let one : one_if (is_present family n) ≡ 1 = ap one_if (there family n a) in omega arith

pub size_of-whole : (family : Family) → family.profile ≡ A → size_of family ≡ size_of_set family.set
unfolding size_of
size_of-whole family a = all_present family (size_of_set family.set) a

pub rank_of-whole : (family : Family) (s : Setup) → family.profile ≡ A → rank_of family s ≡ rank_of_set family.set s
unfolding rank_of
rank_of-whole family s a = all_present family (rank_of_set family.set s) a

-- a place in a block, counted among the positions of the family, is one counted among all
pub record IsInWholeBlock (set : PieceSet) (block place rank : ℕ) : Type 0 where
  pub below : place < block_size set block
  pub whole : start_of set block + place ≡ rank

pub in_whole_block : (set : PieceSet) (block place rank : ℕ) → marks_below (is_present (family_of set A)) (start_of set block) + place ≡ rank
    → rank < marks_below (is_present (family_of set A)) (start_of set (block + 1)) → IsInWholeBlock set block place rank
in_whole_block set block place rank is below =
    let start = all_present (family_of set A) (start_of set block) refl in
    let end = all_present (family_of set A) (start_of set (block + 1)) refl ∙ sum_below_more (block_size set) block in
    record { below = omega (arith, start, end, is, below); whole = omega (arith, start, is) }

-- ---- those before the end of the last block are all
pub size_of-end : (family : Family) (blocks number : ℕ) → blocks ≡ product (block_bases family.set)
    → number ≡ marks_below (is_present family) (start_of family.set blocks) → number ≡ size_of family
unfolding size_of size_of_set
size_of-end family blocks number whole is = is ∙ ap (λ (n : ℕ). marks_below (is_present family) (start_of family.set n)) whole

-- past the last block nothing is left
pub none_beyond : (family : Family) (rank start block blocks : ℕ) → rank < size_of family → blocks ≡ product (block_bases family.set) → blocks ≤ block
    → block ≤ blocks → start ≡ marks_below (is_present family) (start_of family.set block) → start ≤ rank → ⊥
none_beyond family rank start block blocks below is low high start_is upto =
    let same : block ≡ product (block_bases family.set) = equal block blocks (product (block_bases family.set)) low high is in
    let whole = size_of-end family block start same start_is in
    over (size_of family) start rank below whole upto
  where
    equal : (a b c : ℕ) → b ≤ a → a ≤ b → b ≡ c → a ≡ c
    equal a b c h k l = omega (arith, h, k, l)

    over : (size start rank : ℕ) → rank < size → start ≡ size → start ≤ rank → ⊥
    over size start rank h e k = omega (arith, h, e, k)
