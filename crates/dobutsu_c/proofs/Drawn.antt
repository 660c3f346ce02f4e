-- Numbers by their places: one place more, and the last one.
use Rattle.dobutsu_c.proofs.Common.{◌*◌, ◌+◌, ◌<◌, ◌∙◌, ◌≡◌, ◌≤◌, Contains, List, [], ap, arith, get_or, inl, inr, subst, sym, ℕ}
use Rattle.std.proofs.Common.{◌++◌, ◌∷◌}
use Rattle.std.proofs.lemmas.Bool.{cases_lt}
use Rattle.std.proofs.lemmas.List.Elements.{Contains-append_left, Contains-get_or, Contains-push, Contains-push_cases}
use Rattle.std.proofs.lemmas.List.Quantifiers.{all_pairs_push}
use Rattle.dob_shuffle.proofs.Turning.{number_at-place_of, place_again, place_of-below}
use Rattle.dob_shuffle.specs.Shuffles.{number_at, place_of}
use Rattle.dob_shuffle.specs.declared.shuffle.Shuffle.{Shuffle}
use Rattle.dobutsu_c.specs.Shuffled.{AreOfPlaces}

module _ (place : ℕ → ℕ) (count first : ℕ) where
  pub none_drawn : AreOfPlaces place count first first []
  none_drawn = grind arith

  -- the number of a place is written next, or there is none
  module _ (at number : ℕ) (list : List ℕ) (only : (n : ℕ) → n < count → place n ≡ at → n ≡ number) (are : AreOfPlaces place count first at list) where
    pub one_passed : count ≤ number → AreOfPlaces place count first (at + 1) list
    one_passed beyond = record {
      sound = λ n there. let known = are.sound n there in (known.0, known.1, omega (arith, known.2));
      whole = λ n below from before. elim (cases_lt (place n) at) [
        | inl earlier ↦ are.whole n below from earlier
        | inr later ↦ absurd (omega (arith, only n below (omega (arith, later, before)), below, beyond))
      ];
      ordered = are.ordered;
    }

    pub one_drawn : number < count → first ≤ at → place number ≡ at → AreOfPlaces place count first (at + 1) (list ++ number ∷ [])
    one_drawn below from here = record {
      sound = λ n there. elim (Contains-push_cases list number n there) [
        | inl earlier ↦ let known = are.sound n earlier in (known.0, known.1, omega (arith, known.2))
        | inr same ↦ subst (λ x. (x < count) × (first ≤ place x) × (place x < at + 1)) same (below, omega (arith, here, from), omega (arith, here))
      ];
      whole = λ n low start before. elim (cases_lt (place n) at) [
        | inl earlier ↦ Contains-append_left list (number ∷ []) n (are.whole n low start earlier)
        | inr later ↦
            subst (λ x. Contains (list ++ number ∷ []) x) (sym (only n low (omega (arith, later, before)))) (Contains-push list number)
      ];
      ordered = all_pairs_push (λ a b. place a < place b) list number are.ordered
          (λ k d within. omega (arith, (are.sound (get_or list k d) (Contains-get_or list k d within)).2, here));
    }

  -- behind the last place there are no more
  pub all_drawn : (at end : ℕ) (list : List ℕ) → end ≤ at → ((n : ℕ) → n < count → place n < end) → AreOfPlaces place count first at list
      → AreOfPlaces place count first end list
  all_drawn at end list past low are = record {
    sound = λ n there. let known = are.sound n there in (known.0, known.1, low n known.0);
    whole = λ n below from before. are.whole n below from (omega (arith, before, past));
    ordered = are.ordered;
  }

module _ (shuffle : Shuffle) (count : ℕ) (room : count < shuffle.side * shuffle.side) where
  -- each number has a place
  pub placed : (n : ℕ) → n < count → place_of shuffle n < shuffle.side * shuffle.side
  placed n below = place_of-below shuffle n (omega (arith, below, room))

  -- and at a place stands no other one
  pub only_there : (at number : ℕ) → number ≡ number_at shuffle at → (n : ℕ) → n < count → place_of shuffle n ≡ at → n ≡ number
  only_there at number is n below there =
      sym (number_at-place_of shuffle n (omega (arith, below, room))) ∙ ap (number_at shuffle) there ∙ sym is

pub there_is : (shuffle : Shuffle) (at number : ℕ) → at < shuffle.side * shuffle.side → number ≡ number_at shuffle at → place_of shuffle number ≡ at
there_is shuffle at number within is = ap (place_of shuffle) is ∙ place_again shuffle at within
