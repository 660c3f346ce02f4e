-- A consistent table is the value table.
use Rattle.dob_value.proofs.Common.{◌<◌, ◌∙◌, ◌≡◌, ◌≤◌, List, arith, inl, inr, refl, subst, suc, sym, zero, ℕ, Family, Profile, Setup, Goes, HasStatus, Move}
use Rattle.dob_value.proofs.Common.{Status, Caught, Open, Stuck, Tried, IsPositionOf, SameOutlook, HasInTable, HasLost, HasValue, Lost, Won, Value, Draw, Loss}
use Rattle.dob_value.proofs.Common.{Win}
use Rattle.dob_moves.proofs.Cases.{one_status}
use Rattle.dob_value.proofs.Successors.{moves_keep_the_family}
use Rattle.dob_value.specs.Follows.{FollowsFromSuccessors, FollowsAt, Follows, IsConsistent, ConsistentIsRight}
use Rattle.dob_distance.proofs.Distances.{same_win, same_loss}
use Rattle.dob_distance.proofs.Depths.{won_stays}
use Rattle.dob_value.proofs.ClassNumbers.{has_entry, one_entry, representative_is, representative_outlook}

-- the value is a win, or a loss, in at most so many plies
abbrev pub IsWinWithin : ℕ → Value → Type 0
IsWinWithin n v = (plies : ℕ) × (v ≡ Win plies) × (plies ≤ n)

abbrev pub IsLossWithin : ℕ → Value → Type 0
IsLossWithin n v = (plies : ℕ) × (v ≡ Loss plies) × (plies ≤ n)

not_loss_and_win : (m n : ℕ) → ¬ (Loss m ≡ Win n)
not_loss_and_win m n e = absurd (cc)

pub not_draw_win : (d : ℕ) → ¬ (let v : Value = Draw in v ≡ Win d)
not_draw_win d e = absurd (cc)

pub not_draw_loss : (d : ℕ) → ¬ (let v : Value = Draw in v ≡ Loss d)
not_draw_loss d e = absurd (cc)

-- what follows at each status
module _ (profile : Profile) (Has : Setup → Value → Type 0) (p : Setup) where
  follows_at : (v : Value) (status : Status) → HasStatus profile p status → Follows profile Has p v → FollowsAt profile Has p status v
  follows_at v status has follows = rw (one_status profile p follows.0 status follows.1 has) at follows.2

  follows_over : (v : Value) → HasLost profile p → Follows profile Has p v → v ≡ Loss 0
  follows_over v over follows = elim over [ inl tried ↦ follows_at v Tried tried follows | inr stuck ↦ follows_at v Stuck stuck follows ]

  -- a lost successor makes a win, and successors that are all won make a loss, where a position has one value
  win_follows : (n : ℕ) (v : Value) → (move : Move) (q : Setup) → Goes profile p move q → ((a b : Value) → Has q a → Has q b → a ≡ b) →
      (u : Value) → Has q u → IsLossWithin n u → FollowsFromSuccessors profile Has p v → IsWinWithin (suc n) v
  win_follows n (Win plies) move q goes one u has loss follows =
      (plies, refl, omega (arith, follows.3 loss.0 (move, q, goes, subst (Has q) loss.1 has), loss.2, follows.1))
  win_follows n (Loss plies) move q goes one u has loss follows =
      let win = follows.4 move q goes in
      absurd (not_loss_and_win loss.0 win.0 (sym loss.1 ∙ one u (Win win.0) has win.1))
  win_follows n Draw move q goes one u has loss follows =
      absurd (follows.0 loss.0 (move, q, goes, subst (Has q) loss.1 has))

  loss_follows : (n : ℕ) (v : Value) → ((move : Move) (q : Setup) → Goes profile p move q → (a b : Value) → Has q a → Has q b → a ≡ b) →
      ((move : Move) (q : Setup) → Goes profile p move q → (u : Value) × Has q u × IsWinWithin n u) →
      FollowsFromSuccessors profile Has p v → IsLossWithin (suc n) v
  loss_follows n (Win plies) one wins follows = grind (arith, not_loss_and_win)
  loss_follows n (Loss plies) one wins follows = grind arith
  loss_follows n Draw one wins follows = grind arith

module _ (family : Family) (values : List Value) (consistent : IsConsistent family values) where
  known : (p : Setup) → IsPositionOf family p → (v : Value) × HasInTable family values p v
  known p is = has_entry family values p consistent.table.classes is

  one : (p : Setup) (v w : Value) → IsPositionOf family p → HasInTable family values p v → HasInTable family values p w → v ≡ w
  one p v w is = one_entry family values p v w is

  -- what an entry says of the representative
  entry_follows : (p : Setup) (v : Value) → IsPositionOf family p → (has : HasInTable family values p v) →
      Follows family.profile (HasInTable family values) has.number.representative v
  entry_follows p v is has =
      consistent.follows has.number.representative has.class v (representative_is family p has.number.representative is has.number.stands)
      has.number.before has.entry

  representative_member : (p : Setup) (v : Value) → IsPositionOf family p → (has : HasInTable family values p v) → IsPositionOf family has.number.representative
  representative_member p v is has = (representative_is family p has.number.representative is has.number.stands).0

  outlook : (p : Setup) (v : Value) → IsPositionOf family p → (has : HasInTable family values p v) → SameOutlook family.profile p has.number.representative
  outlook p v is has = representative_outlook family p has.number.representative is has.number.stands

  -- what is won or lost within n plies is so in the table
  mutual
    won_in_table : (n : ℕ) (p : Setup) (v : Value) → IsPositionOf family p → HasInTable family values p v → Won family.profile n p → IsWinWithin n v
    won_in_table zero p v is has won = absurd won
    won_in_table (suc n) p v is has won =
        let representative = has.number.representative in
        let follows = entry_follows p v is has in
        elim (((outlook p v is has).won (suc n)).0 won) [
          | inl caught ↦ (1, follows_at family.profile (HasInTable family values) representative v Caught caught follows, omega arith)
          | inr open_win ↦
              let goes_on = open_win.0 in
              let move = open_win.1 in
              let q = open_win.2 in
              let goes = open_win.3 in
              let next = moves_keep_the_family family representative move q (representative_member p v is has) goes_on goes in
              let entry = known q next in
              win_follows family.profile (HasInTable family values) representative n v move q goes (λ a b. one q a b next) entry.0 entry.1
              (lost_in_table n q entry.0 next entry.1 open_win.4)
              (follows_at family.profile (HasInTable family values) representative v Open goes_on follows)
        ]

    lost_in_table : (n : ℕ) (p : Setup) (v : Value) → IsPositionOf family p → HasInTable family values p v → Lost family.profile n p → IsLossWithin n v
    lost_in_table zero p v is has lost =
        (0, follows_over family.profile (HasInTable family values) has.number.representative v (((outlook p v is has).lost 0).0 lost) (entry_follows p v is has), omega arith)
    lost_in_table (suc n) p v is has lost =
        let representative = has.number.representative in
        let follows = entry_follows p v is has in
        elim (((outlook p v is has).lost (suc n)).0 lost) [
          | inl over ↦ (0, follows_over family.profile (HasInTable family values) representative v over follows, omega arith)
          | inr open_loss ↦
              let goes_on = open_loss.0 in
              let member = representative_member p v is has in
              loss_follows family.profile (HasInTable family values) representative n v
              (λ move q goes a b. one q a b (moves_keep_the_family family representative move q member goes_on goes))
              (λ move q goes.
              let next = moves_keep_the_family family representative move q member goes_on goes in
              let entry = known q next in
              (entry.0, entry.1, won_in_table n q entry.0 next entry.1 (open_loss.1 move q goes)))
              (follows_at family.profile (HasInTable family values) representative v Open goes_on follows)
        ]

  -- a win of the table at a representative, where losses in one ply less are right; and likewise a loss
  win_step : (plies : ℕ) (p : Setup) → IsPositionOf family p → (status : Status) → HasStatus family.profile p status →
      FollowsAt family.profile (HasInTable family values) p status (Win plies) →
      ((least : ℕ) (q : Setup) → suc least ≤ plies → IsPositionOf family q → HasInTable family values q (Loss least) → Lost family.profile least q) → Won family.profile plies p
  win_step plies p is Caught status follows lower = rw (same_win plies 1 follows) (inl status)
  win_step plies p is Open status follows lower =
      let next = follows.2 in
      let more : plies ≡ suc follows.0 = omega (arith, follows.1) in
      let lost = lower follows.0 next.1 (omega arith) (moves_keep_the_family family p next.0 next.1 is status next.2) next.3 in
      rw more (inr (status, next.0, next.1, next.2, lost))
  win_step plies p is _ status follows lower = cc

  loss_step : (plies : ℕ) (p : Setup) → IsPositionOf family p → (status : Status) → HasStatus family.profile p status →
      FollowsAt family.profile (HasInTable family values) p status (Loss plies) →
      ((win : ℕ) (q : Setup) → suc win ≤ plies → IsPositionOf family q → HasInTable family values q (Win win) → Won family.profile win q) → Lost family.profile plies p
  loss_step plies p is Caught status follows lower = cc
  loss_step plies p is Tried status follows lower = rw (same_loss plies 0 follows) (inl status)
  loss_step plies p is Stuck status follows lower = rw (same_loss plies 0 follows) (inr status)
  loss_step plies p is Open status follows lower =
      let more : plies ≡ suc follows.0 = omega (arith, follows.1) in
      rw more (inr (
        status,
        λ move q goes.
            let win = follows.4 move q goes in
            let least : win.0 ≤ follows.0 = follows.3 win.0 (move, q, goes, win.1) in
            won_stays family.profile win.0 follows.0 q least (lower win.0 q (omega arith) (moves_keep_the_family family p move q is status goes) win.1),
      ))

  -- what is a win or a loss in the table is so, by induction on the distance
  mutual
    win_is_won : (n plies : ℕ) (p : Setup) → plies < n → IsPositionOf family p → HasInTable family values p (Win plies) → Won family.profile plies p
    win_is_won zero plies p below is has = absurd (omega arith)
    win_is_won (suc n) plies p below is has =
        let follows = entry_follows p (Win plies) is has in
        ((outlook p (Win plies) is has).won plies).1
        (win_step plies has.number.representative (representative_member p (Win plies) is has) follows.0 follows.1 follows.2
        (λ least q less next entry. loss_is_lost n least q (omega arith) next entry))

    loss_is_lost : (n plies : ℕ) (p : Setup) → plies < n → IsPositionOf family p → HasInTable family values p (Loss plies) → Lost family.profile plies p
    loss_is_lost zero plies p below is has = absurd (omega arith)
    loss_is_lost (suc n) plies p below is has =
        let follows = entry_follows p (Loss plies) is has in
        ((outlook p (Loss plies) is has).lost plies).1
        (loss_step plies has.number.representative (representative_member p (Loss plies) is has) follows.0 follows.1 follows.2
        (λ win q less next entry. win_is_won n win q (omega arith) next entry))

  entry_is_value : (p : Setup) (v : Value) → IsPositionOf family p → HasInTable family values p v → HasValue family.profile p v
  entry_is_value p (Win plies) is has = (
    win_is_won (suc plies) plies p (omega arith) is has,
    λ n won. let win = won_in_table n p (Win plies) is has won in omega (arith, same_win plies win.0 win.1, win.2),
  )
  entry_is_value p (Loss plies) is has = (
    loss_is_lost (suc plies) plies p (omega arith) is has,
    λ n lost. let loss = lost_in_table n p (Loss plies) is has lost in omega (arith, same_loss plies loss.0 loss.1, loss.2),
  )
  entry_is_value p Draw is has = λ n. (
    λ won. let win = won_in_table n p Draw is has won in not_draw_win win.0 win.1,
    λ lost. let loss = lost_in_table n p Draw is has lost in not_draw_loss loss.0 loss.1,
  )

pub consistent_is_right : ConsistentIsRight
consistent_is_right family values consistent = record {
  table = consistent.table;
  known = known family values consistent;
  values_are = entry_is_value family values consistent;
}
