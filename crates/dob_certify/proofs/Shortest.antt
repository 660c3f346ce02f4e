-- The shortest lead among the moves so far, and what a reply comes to.
use Rattle.std.proofs.Common.{◌≡◌, ℕ, ◌+◌, ◌<◌, ◌≤◌, ◌∙◌, ap, inl, inr, sym, subst, arith, cond, Bool, List, get_or, length, Option, Some, None, slice_get, nat_lt}
use Rattle.std.proofs.lemmas.Bool.{cases_Bool, cases_lt}
use Rattle.std.proofs.lemmas.Bool.Decides.{nat_tests}
use Rattle.std.proofs.lemmas.Option.{get_or_from_slice_get, slice_get-get_or}
use Rattle.dob_pieces.specs.declared.profile.Family.{Family}
use Rattle.dob_pieces.specs.declared.setup.Setup.{Setup}
use Rattle.dob_moves.specs.declared.game_move.Move.{Move}
use Rattle.dob_moves.specs.declared.position_status.Status.TheVariants.{Open}
use Rattle.dob_moves.specs.Moves.{Goes, place}
use Rattle.dob_moves.specs.Statuses.{AreMoves, CanCatch, HasStatus}
use Rattle.dob_certificate.specs.declared.entry.Entry.{Entry}
use Rattle.dob_certificate.specs.Lost.{IsSaidLost, SaysLost, SupportsAllLost}
use Rattle.dob_certificate.proofs.Bounds.{said_lost}
use Rattle.dob_certify.proofs.Below.{AllBelow, all_done, all_more, all_none}
use Rattle.dob_certify.specs.declared.replies.Lead.{Lead}
use Rattle.dob_certify.specs.declared.replies.Reply.{Reply}
use Rattle.dob_certify.specs.declared.replies.Reply.TheVariants.{Win, Loss}
use Rattle.dob_certify.specs.Replies.{IsReply, IsRight, IsShortest, Leads, NoneLeads, loss, shorter}

-- the lead stands at a place of the list below an index, and no move before it leads to what is said to be lost as soon
pub record StandsFirst (family : Family) (lost : List Entry) (p : Setup) (legal : List Move) (lead : Lead) (upto : ℕ) : Type 0 where
  pub at : ℕ
  pub below : at < upto
  pub there : slice_get legal at ≡ Some lead.played
  pub later : AllBelow family.profile (λ (q : Setup). ¬ IsSaidLost family lost lead.plies q) p legal at

module _ (family : Family) (lost : List Entry) (p : Setup) (legal : List Move) where
  -- the same of the moves below an index
  abbrev pub IsShortestBelow : ℕ → Option Lead → Type 0
  IsShortestBelow upto None = AllBelow family.profile (λ (q : Setup). (n : ℕ) → ¬ IsSaidLost family lost n q) p legal upto
  IsShortestBelow upto (Some lead) = Leads family lost p lead.played lead.plies
      × AllBelow family.profile (λ (q : Setup). (n : ℕ) → IsSaidLost family lost n q → lead.plies ≤ n) p legal upto
      × StandsFirst family lost p legal lead upto

  pub shortest_none : IsShortestBelow 0 None
  shortest_none = all_none family.profile (λ (q : Setup). (n : ℕ) → ¬ IsSaidLost family lost n q) p legal

  module _ (upto : ℕ) (move : Move) (outcome : Setup) (here : slice_get legal upto ≡ Some move) (goes_on : HasStatus family.profile p Open)
      (goes : Goes family.profile p move outcome) (alone : (q : Setup) → Goes family.profile p move q → outcome ≡ q) where
    none_more : SaysLost family lost outcome None → IsShortestBelow upto None → IsShortestBelow (upto + 1) None
    none_more says below = all_more family.profile (λ (q : Setup). (n : ℕ) → ¬ IsSaidLost family lost n q) p legal upto move outcome here alone says below

    least_more : (least : ℕ) → ((n : ℕ) → IsSaidLost family lost n outcome → least ≤ n)
        → AllBelow family.profile (λ (q : Setup). (n : ℕ) → IsSaidLost family lost n q → least ≤ n) p legal upto
        → AllBelow family.profile (λ (q : Setup). (n : ℕ) → IsSaidLost family lost n q → least ≤ n) p legal (upto + 1)
    least_more least says below =
        all_more family.profile (λ (q : Setup). (n : ℕ) → IsSaidLost family lost n q → least ≤ n) p legal upto move outcome here alone says below

    lead_here : (plies : ℕ) → IsSaidLost family lost plies outcome → Leads family lost p move plies
    lead_here plies said = record { goes_on = goes_on; outcome = outcome; goes = goes; said = said }

    first_here : (plies : ℕ) → AllBelow family.profile (λ (q : Setup). ¬ IsSaidLost family lost plies q) p legal upto
        → StandsFirst family lost p legal (record { played = move; plies = plies }) (upto + 1)
    first_here plies later = record { at = upto; below = omega arith; there = here; later = later }

    first_still : (lead : Lead) → StandsFirst family lost p legal lead upto → StandsFirst family lost p legal lead (upto + 1)
    first_still lead first = record { at = first.at; below = omega (arith, first.below); there = first.there; later = first.later }

    pub shortest_more : (best : Option Lead) (found : Option ℕ) → SaysLost family lost outcome found → IsShortestBelow upto best
        → IsShortestBelow (upto + 1) (shorter best move found)
    shortest_more None None says below = none_more says below
    shortest_more (Some lead) None says below = (below.0, least_more lead.plies (λ n said. absurd (says n said)) below.1, first_still lead below.2)
    shortest_more None (Some plies) says below = (
      lead_here plies says.0,
      least_more plies says.1 (λ index other q within there goes n said. absurd (below index other q within there goes n said)),
      first_here plies (λ index other q within there goes said. below index other q within there goes plies said),
    )
    shortest_more (Some lead) (Some plies) says below = elim (cases_Bool (nat_lt plies lead.plies)) [
      | inl is ↦
          let less : plies < lead.plies = grind (arith, nat_tests, is) in
          subst (λ (b : Bool). IsShortestBelow (upto + 1) (cond b (Some (record { played = move; plies = plies })) (Some lead))) (sym is) (
            lead_here plies says.0,
            least_more plies says.1 (λ index other q within there goes n said.
                let least = below.1 index other q within there goes n said in
                omega (arith, less, least)),
            first_here plies (λ index other q within there goes said. omega (arith, less, below.1 index other q within there goes plies said)),
          )
      | inr isnt ↦
          let more : lead.plies ≤ plies = grind (arith, nat_tests, isnt) in
          subst (λ (b : Bool). IsShortestBelow (upto + 1) (cond b (Some (record { played = move; plies = plies })) (Some lead))) (sym isnt) (
            below.0,
            least_more lead.plies (λ n said. let least = says.1 n said in omega (arith, more, least)) below.1,
            first_still lead below.2,
          )
    ]

  -- of another move that leads there as soon, the place in the move order isn't less
  first_done : (upto : ℕ) (lead : Lead) → AreMoves family.profile p legal → StandsFirst family lost p legal lead upto → (other : Move)
      → Leads family lost p other lead.plies → place lead.played ≤ place other
  first_done upto lead are_moves first other leads =
      let listed = are_moves.whole other leads.goes_on (leads.outcome, leads.goes) in
      let read : slice_get legal listed.0 ≡ Some other = slice_get-get_or legal listed.0 other listed.1
      ∙ ap (λ m. let o : Option Move = Some m in o) listed.2 in
      elim (cases_lt listed.0 first.at) [
        | inl before ↦ absurd (first.later listed.0 other leads.outcome before read leads.goes leads.said)
        | inr after ↦ elim (cases_lt first.at listed.0) [
          | inl behind ↦
              let ordered = are_moves.ordered first.at listed.0 other behind listed.1 in
              let rising : place lead.played < place other = subst (λ (m : Move). place m < place other) (get_or_from_slice_get legal first.at lead.played other first.there)
              (subst (λ (m : Move). place (get_or legal first.at other) < place m) listed.2 ordered) in
              omega (arith, rising)
          | inr not_after ↦
              let same : listed.0 ≡ first.at = omega (arith, after, not_after) in
              let one : Some other ≡ Some lead.played = sym read ∙ ap (slice_get legal) same ∙ first.there in
              grind (arith, one)
        ]
      ]

  pub shortest_done : (upto : ℕ) → length legal ≤ upto → AreMoves family.profile p legal → (best : Option Lead) → IsShortestBelow upto best
      → IsShortest family lost p best
  shortest_done upto all are_moves None below =
      λ goes_on move q goes. all_done family.profile (λ (r : Setup). (n : ℕ) → ¬ IsSaidLost family lost n r) p legal upto all are_moves below goes_on move q goes
  shortest_done upto all are_moves (Some lead) below = record {
    leads = below.0;
    least = λ goes_on move q goes. all_done family.profile (λ (r : Setup). (n : ℕ) → IsSaidLost family lost n r → lead.plies ≤ n) p legal upto all are_moves
        below.1 goes_on move q goes;
    first = first_done upto lead are_moves below.2;
  }

-- where no move leads to what is said to be lost, what is said of the position itself is the reply
pub loss_reply : (family : Family) (lost : List Entry) (p : Setup) (found : Option ℕ) → ¬ CanCatch p → NoneLeads family lost p → SaysLost family lost p found
    → IsReply family lost p (loss found)
loss_reply family lost p None free none says = (free, none, says)
loss_reply family lost p (Some plies) free none says = (free, none, says)

-- what a list says that supports its entries is right
pub reply_right : (family : Family) (lost : List Entry) (p : Setup) → SupportsAllLost family lost → (found : Option Reply) → IsReply family lost p found
    → IsRight family.profile p found
reply_right family lost p supported None is = tt
reply_right family lost p supported (Some (Loss plies)) is = said_lost family lost supported plies p is.2.0
reply_right family lost p supported (Some (Win move plies)) (inl catches) = (inl ((move, catches.0.catches)), inl catches)
reply_right family lost p supported (Some (Win move plies)) (inr found) =
    let leads = found.1.leads in
    let after = said_lost family lost supported plies leads.outcome leads.said in
    (inr (leads.goes_on, move, leads.outcome, leads.goes, after), inr (leads.outcome, leads.goes, after))
