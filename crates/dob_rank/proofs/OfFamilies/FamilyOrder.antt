-- Ranks in a family are below its size, and no two of its positions have one; the position of a present rank of its set.
use Rattle.dob_rank.proofs.Common.{◌<◌, ◌∙◌, ◌≡◌, Bool, ap, arith, subst, suc, sym, true, ℕ, Family, Setup, HasRank, IsPositionOf, IsRanked, is_present}
use Rattle.dob_rank.proofs.Common.{rank_of, marks_below, one_if, nth, rank_of_set, size_of_set, Before}
use Rattle.dob_rank.proofs.Positions.Numbering.{nth-block, rank_of_set-nth, rank_of_set-same, rank_of_set-rises}
use Rattle.dob_rank.proofs.Marked.Words.{marks_below_more, marks_below-upto}
use Rattle.dob_rank.proofs.OfFamilies.Present.{present, allowed, HasRank-rank_of}

-- a marked place adds to the marks below each later one
marks_rise : (mark : ℕ → Bool) (a b : ℕ) → a < b → mark a ≡ true → marks_below mark a < marks_below mark b
marks_rise mark a b low on =
    let more = marks_below_more mark a in
    let one : one_if (mark a) ≡ 1 = ap one_if on in
    omega (arith, more, one, marks_below-upto mark (suc a) b low)

-- the earlier of two positions has the lower rank
pub rank_of-rises : (family : Family) (p q : Setup) → IsPositionOf family p → IsPositionOf family q → Before p q → rank_of family p < rank_of family q
unfolding rank_of
rank_of-rises family p q hp hq before = grind (arith, marks_rise, rank_of_set-rises, present, hp, hq, before)

pub rank_of-same : (family : Family) (p q : Setup) → IsPositionOf family p → IsPositionOf family q → rank_of family p ≡ rank_of family q → p ≡ q
unfolding rank_of
rank_of-same family p q hp hq same =
    let rise = marks_rise (is_present family) in
    let up = rise (rank_of_set family.set p) (rank_of_set family.set q) in
    let down = rise (rank_of_set family.set q) (rank_of_set family.set p) in
    grind (arith, up, down, present family p hp, present family q hq, rank_of_set-same family.set p q hp.of_set hq.of_set)

pub ranked_at : (family : Family) (r : ℕ) → r < size_of_set family.set → is_present family r ≡ true
    → IsRanked family (nth family.set r) (marks_below (is_present family) r)
unfolding rank_of
ranked_at family r below on =
    let back = rank_of_set-nth family.set r below in
    let p = allowed family (nth family.set r) (nth-block family.set r below).position (ap (is_present family) back ∙ on) in
    let same = ap (marks_below (is_present family)) back in
    record { position = p; rank_is = same; count = subst (HasRank family (nth family.set r)) same (HasRank-rank_of family (nth family.set r) p) }

-- a position of that rank is the only one
pub only_ranked : (family : Family) (s : Setup) (number : ℕ) → IsRanked family s number → (p : Setup) → IsPositionOf family p → rank_of family p ≡ number → p ≡
    s
only_ranked family s number at p is same = rank_of-same family p s is at.position (same ∙ sym at.rank_is)
