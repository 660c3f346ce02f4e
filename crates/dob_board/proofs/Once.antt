-- The events of a log lead to one ring, as far as it is spoken of: in the nodes below n, the token and the end.
use Rattle.std.proofs.Common.{◌≡◌, ℕ, suc, ◌<◌, List, [], ◌∷◌, Bool, true, false, eqb, eq-eqb, ne_eqb, sym, ap, ◌∙◌, inl, inr, arith}
use Rattle.dob_board.proofs.Names.{ℤ, pos, ◌-ℤ◌, cases_eq, Token, RingEvent, BoardEvent, OfRing, Failure, Post, Take, Pass, Announce, passed_on, Ring, counter}
use Rattle.dob_board.proofs.Names.{sum_below, Raises, Colours, Moved, sum_same, Runs}

pub record Agree (n : ℕ) (one other : Ring) : Type 0 where
  pub posted : (k l : ℕ) → k < n → l < n → one.posted k l ≡ other.posted k l
  pub taken : (k l : ℕ) → k < n → l < n → one.taken k l ≡ other.taken k l
  pub black : (k : ℕ) → k < n → one.black k ≡ other.black k
  pub token : one.token ≡ other.token
  pub announced : one.announced ≡ other.announced
  pub at : one.token.at < n

raised_once : (n i j : ℕ) (f g f' g' : ℕ → ℕ → ℕ) → i < n → j < n → Raises n f g i j → Raises n f' g' i j →
    ((k l : ℕ) → k < n → l < n → f k l ≡ f' k l) → (k l : ℕ) → k < n → l < n → g k l ≡ g' k l
raised_once n i j f g f' g' i_in j_in first second same k l k_in l_in =
    elim (cases_eq k i) [
      | inl row ↦ elim (cases_eq l j) [
        | inl column ↦ (λ q. g (row q) (column q)) ∙ first.one_more ∙ ap suc (same i j i_in j_in) ∙ sym second.one_more
            ∙ (λ q. g' (sym row q) (sym column q))
        | inr apart ↦ first.others k l k_in l_in (inr apart) ∙ same k l k_in l_in ∙ sym (second.others k l k_in l_in (inr apart))
      ]
      | inr apart ↦ first.others k l k_in l_in (inl apart) ∙ same k l k_in l_in ∙ sym (second.others k l k_in l_in (inl apart))
    ]

coloured_once : (n i : ℕ) (colour : Bool) (was now was' now' : Ring) → Colours n was now i colour → Colours n was' now' i colour →
    ((k : ℕ) → k < n → was.black k ≡ was'.black k) → (k : ℕ) → k < n → now.black k ≡ now'.black k
coloured_once n i colour was now was' now' first second same k k_in =
    elim (cases_eq k i) [
      | inl here ↦ ap now.black here ∙ first.colour_is ∙ sym second.colour_is ∙ ap now'.black (sym here)
      | inr apart ↦ first.others k k_in apart ∙ same k k_in ∙ sym (second.others k k_in apart)
    ]

counted_once : (n i : ℕ) (one other : Ring) → i < n → Agree n one other → counter n one i ≡ counter n other i
counted_once n i one other i_in same =
    let posted : sum_below n (λ j. one.posted i j) ≡ sum_below n (λ j. other.posted i j) =
    sum_same n (λ j. other.posted i j) (λ j. one.posted i j) (λ k k_in. same.posted i k i_in k_in) in
    let taken : sum_below n (λ j. one.taken j i) ≡ sum_below n (λ j. other.taken j i) =
    sum_same n (λ j. other.taken j i) (λ j. one.taken j i) (λ k k_in. same.taken k i k_in i_in) in
    λ q. pos (posted q) -ℤ pos (taken q)

passed_at : (n : ℕ) (token : Token) (count : ℤ) (black : Bool) → token.at < n → (passed_on n token count black).at < n
passed_at n token count black within =
    elim (cases_eq token.at 0) [
      | inl first ↦ let yes : eqb token.at 0 ≡ true = eq-eqb token.at 0 first in rw yes (omega (arith, within))
      | inr apart ↦ let no' : eqb token.at 0 ≡ false = ne_eqb token.at 0 apart in rw no' (omega (arith, within))
    ]

moved_once : (n : ℕ) (event : RingEvent) (was now was' now' : Ring) → Agree n was was' → Moved n was event now → Moved n was' event now' → Agree n now now'
moved_once n (Post i j) was now was' now' same first second = record {
  posted = raised_once n i j was.posted now.posted was'.posted now'.posted first.from first.to first.posted second.posted same.posted;
  taken = λ k l k_in l_in. first.taken k l k_in l_in ∙ same.taken k l k_in l_in ∙ sym (second.taken k l k_in l_in);
  black = λ k k_in. first.colours k k_in ∙ same.black k k_in ∙ sym (second.colours k k_in);
  token = first.token ∙ same.token ∙ sym second.token;
  announced = first.announced ∙ same.announced ∙ sym second.announced;
  at = omega (arith, ap (λ (t : Token). t.at) first.token, same.at);
}
moved_once n (Take i j) was now was' now' same first second = record {
  posted = λ k l k_in l_in. first.posted k l k_in l_in ∙ same.posted k l k_in l_in ∙ sym (second.posted k l k_in l_in);
  taken = raised_once n i j was.taken now.taken was'.taken now'.taken first.from first.to first.taken second.taken same.taken;
  black = coloured_once n j true was now was' now' first.colours second.colours same.black;
  token = first.token ∙ same.token ∙ sym second.token;
  announced = first.announced ∙ same.announced ∙ sym second.announced;
  at = omega (arith, ap (λ (t : Token). t.at) first.token, same.at);
}
moved_once n (Pass i) was now was' now' same first second =
    let i_in : i < n = omega (arith, first.at, same.at) in
    let passed : passed_on n was.token (counter n was i) (was.black i) ≡ passed_on n was'.token (counter n was' i) (was'.black i) =
    λ q. passed_on n (same.token q) (counted_once n i was was' i_in same q) (same.black i i_in q) in
    record {
      posted = λ k l k_in l_in. first.posted k l k_in l_in ∙ same.posted k l k_in l_in ∙ sym (second.posted k l k_in l_in);
      taken = λ k l k_in l_in. first.taken k l k_in l_in ∙ same.taken k l k_in l_in ∙ sym (second.taken k l k_in l_in);
      black = coloured_once n i false was now was' now' first.colours second.colours same.black;
      token = first.token ∙ passed ∙ sym second.token;
      announced = first.announced ∙ same.announced ∙ sym second.announced;
      at = omega (arith, ap (λ (t : Token). t.at) first.token, passed_at n was.token (counter n was i) (was.black i) same.at);
    }
moved_once n Announce was now was' now' same first second = record {
  posted = λ k l k_in l_in. first.posted k l k_in l_in ∙ same.posted k l k_in l_in ∙ sym (second.posted k l k_in l_in);
  taken = λ k l k_in l_in. first.taken k l k_in l_in ∙ same.taken k l k_in l_in ∙ sym (second.taken k l k_in l_in);
  black = λ k k_in. first.colours k k_in ∙ same.black k k_in ∙ sym (second.colours k k_in);
  token = first.token ∙ same.token ∙ sym second.token;
  announced = first.announced ∙ sym second.announced;
  at = omega (arith, ap (λ (t : Token). t.at) first.token, same.at);
}

pub run_once : (n : ℕ) (log : List BoardEvent) (one other : Ring) → 0 < n → Runs n log one → Runs n log other → Agree n one other
run_once n [] one other some_nodes first second = record {
  posted = λ k l k_in l_in. first.posted k l k_in l_in ∙ sym (second.posted k l k_in l_in);
  taken = λ k l k_in l_in. first.taken k l k_in l_in ∙ sym (second.taken k l k_in l_in);
  black = λ k k_in. first.black k k_in ∙ sym (second.black k k_in);
  token = first.token ∙ sym second.token;
  announced = first.running ∙ sym second.running;
  at = omega (arith, ap (λ (t : Token). t.at) first.token, some_nodes);
}
run_once n (OfRing event ∷ log) one other some_nodes first second =
    moved_once n event first.0 one second.0 other (run_once n log first.0 second.0 some_nodes first.1 second.1) first.2 second.2
run_once n (Failure node ∷ log) one other some_nodes first second = run_once n log one other some_nodes first.1 second.1
