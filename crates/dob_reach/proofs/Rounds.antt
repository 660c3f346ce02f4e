-- What a round makes of what was marked, of any steps among numbers; and what is marked where nothing is left to go on from.
use Rattle.dob_reach.proofs.Common.{◌+◌, ◌∷◌, ◌≡◌, ◌≤◌, AreMet, Contains, IsAway, IsMarked, IsMarkedWithin, IsNearer, IsReached, List, Met, [], arith}
use Rattle.dob_reach.proofs.Common.{cases_lt, head_in, inl, inr, none_in_empty, refl, stands_or, subst, suc, sym, zero, ℕ}
use Rattle.dob_reach.proofs.Counts.{apart_first, only_one}

-- a number has one distance
pub one_distance : (Steps : ℕ → ℕ → Type 0) (from m n number : ℕ) → IsAway Steps from m number → IsAway Steps from n number → m ≡ n
one_distance Steps from m n number a b = let up = a.1 n b.0 in let down = b.1 m a.0 in omega (arith, up, down)

-- before the first round
module _ (Steps : ℕ → ℕ → Type 0) (from : ℕ) where
  itself : IsAway Steps from 0 from
  itself = (refl, λ n met. omega arith)

  met_at_once : (n number : ℕ) → n ≤ 0 → Met Steps n from number → from ≡ number
  met_at_once zero number low met = met
  met_at_once (suc n) number low met = absurd (omega (arith, low))

  pub begun : {words : List ℕ} → ((number : ℕ) → IsMarked words number → number ≡ from) → IsMarked words from → IsMarkedWithin Steps from 0 words (from ∷ [])
  begun {words = words} alone marked = record {
    sound = λ number is. (0, omega arith, rw (alone number is) itself);
    whole = λ n number low met. subst (IsMarked words) (met_at_once n number low met) marked;
    front_sound = λ number there. subst (IsAway Steps from 0) (only_one from number there) itself;
    front_whole = λ number has. subst (Contains (from ∷ [])) has.0 (head_in from []);
    front_once = apart_first from [] (λ number there. absurd (none_in_empty number there)) (λ i j d lt within. absurd (omega (arith, within)));
    closed = λ number other is absent step. absurd (absent (subst (Contains (from ∷ [])) (sym (alone number is)) (head_in from [])));
  }

-- a round
module _ {Steps : ℕ → ℕ → Type 0} {from d : ℕ} {before words front next : List ℕ} (known : IsMarkedWithin Steps from d before front)
    (met : AreMet Steps before words front next) where
  next_far : (number : ℕ) → Contains next number → IsAway Steps from (d + 1) number
  next_far number there =
      let step = (met.listed number there).1 in
      let one_more : suc d ≡ d + 1 = omega arith in
      let here : Met Steps (suc d) from number = (step.0, (known.front_sound step.0 step.1).0, step.2) in (
        subst (λ k. Met Steps k from number) one_more here,
        λ n sooner. elim (cases_lt d n) [
          | inl beyond ↦ omega (arith, beyond)
          | inr low ↦ absurd (met.fresh number there (known.whole n number low sooner))
        ],
      )

  far_next : (number : ℕ) → IsAway Steps from (d + 1) number → Contains next number
  far_next number far =
      let one_more : d + 1 ≡ suc d = omega arith in
      let here : Met Steps (suc d) from number = subst (λ k. Met Steps k from number) one_more far.0 in
      let at : IsAway Steps from d here.0 = (here.1, λ n sooner. let least = far.1 (suc n) (here.0, sooner, here.2) in omega (arith, least)) in
      let is : IsMarked words number = met.whole number (here.0, known.front_whole here.0 at, here.2) in
      elim (met.marked number is) [
        | inl old ↦
            let nearer = known.sound number old in
            let least = far.1 nearer.0 nearer.2.0 in absurd (omega (arith, least, nearer.1))
        | inr there ↦ there
      ]

  onward : (number other : ℕ) → IsMarked before number → Steps number other → IsMarked words other
  onward number other is step = elim (stands_or front number) [
    | inl there ↦ met.whole other (number, there, step)
    | inr absent ↦ met.keeps.kept other (known.closed number other is absent step)
  ]

  nearer_or : (number : ℕ) → IsMarked words number → IsNearer Steps from (d + 1 + 1) number
  nearer_or number is = elim (met.marked number is) [
    | inl old ↦ let near = known.sound number old in (near.0, (let lt = near.1 in omega (arith, lt)), near.2)
    | inr there ↦ (d + 1, omega arith, next_far number there)
  ]

  met_marked : (n number : ℕ) → n ≤ d + 1 → Met Steps n from number → IsMarked words number
  met_marked n number low has = elim (cases_lt d n) [
    | inl beyond ↦
        let last : n ≡ suc d = omega (arith, low, beyond) in
        let here : Met Steps (suc d) from number = subst (λ k. Met Steps k from number) last has in
        onward here.0 number (known.whole d here.0 (omega arith) here.1) here.2
    | inr sooner ↦ met.keeps.kept number (known.whole n number sooner has)
  ]

  pub one_round : IsMarkedWithin Steps from (d + 1) words next
  one_round = record {
    sound = nearer_or;
    whole = met_marked;
    front_sound = next_far;
    front_whole = far_next;
    front_once = met.once;
    closed = λ number other is absent step. elim (met.marked number is) [
      | inl old ↦ onward number other old step
      | inr there ↦ absurd (absent there)
    ];
  }

-- nothing is left to go on from
module _ {Steps : ℕ → ℕ → Type 0} {from d : ℕ} {words : List ℕ} (known : IsMarkedWithin Steps from d words []) where
  all_marked : (n number : ℕ) → Met Steps n from number → IsMarked words number
  all_marked zero number met = known.whole 0 number (omega arith) met
  all_marked (suc n) number met = known.closed met.0 number (all_marked n met.0 met.1) (none_in_empty met.0) met.2

  pub reached_marked : (number : ℕ) → IsReached Steps from number → IsMarked words number
  reached_marked number reached = all_marked reached.0 number reached.1

  pub marked_nearer : (number : ℕ) → IsMarked words number → IsNearer Steps from d number
  marked_nearer number is =
      let near = known.sound number is in
      elim (cases_lt near.0 d) [
        | inl less ↦ (near.0, less, near.2)
        | inr last ↦
            let same : near.0 ≡ d = omega (arith, near.1, last) in
            absurd (none_in_empty number (known.front_whole number (subst (λ k. IsAway Steps from k number) same near.2)))
      ]

  pub reached_nearer : (number : ℕ) → IsReached Steps from number → IsNearer Steps from d number
  reached_nearer number reached = marked_nearer number (reached_marked number reached)

  pub nearer_reached : (number : ℕ) → IsNearer Steps from d number → IsReached Steps from number
  nearer_reached number near = (near.0, near.2.0)
