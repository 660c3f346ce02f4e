-- Ways taken in turn: nothing, one, and one list after the other.
use Rattle.dob_unmove.proofs.Common.{◌++◌, ◌+◌, ◌∷◌, List, [], add-one, refl, subst, sym, ℕ, each_below, TakesAll, RetroMove}

pub takes_none : {S : Type 0} (R : S → RetroMove → S → Type 0) (a : S) → TakesAll R a [] a
takes_none R a = refl

pub takes_one : {S : Type 0} (R : S → RetroMove → S → Type 0) (a b : S) (u : RetroMove) → R a u b → TakesAll R a (u ∷ []) b
takes_one R a b u r = (b, r, refl)

pub takes_cons : {S : Type 0} (R : S → RetroMove → S → Type 0) (a b c : S) (u : RetroMove) (us : List RetroMove) → R a u b → TakesAll R b us c → TakesAll R a (u ∷ us) c
takes_cons R a b c u us r rest = (b, r, rest)

pub takes_append : {S : Type 0} (R : S → RetroMove → S → Type 0) (a b c : S) (us vs : List RetroMove) → TakesAll R a us b → TakesAll R b vs c → TakesAll R a (us ++ vs) c
takes_append {S} R a b c [] vs first second = subst (λ (x : S). TakesAll R x vs c) (sym first) second
takes_append R a b c (u ∷ us) vs first second = (first.0, first.1, takes_append R first.0 b c us vs first.2 second)

pub takes_more : {S : Type 0} (R : S → RetroMove → S → Type 0) (g : ℕ → List RetroMove) (i : ℕ) (a b c : S) → TakesAll R a (each_below g i) b → TakesAll R b (g i) c
    → TakesAll R a (each_below g (i + 1)) c
takes_more R g i a b c first second = rw add-one (takes_append R a b c (each_below g i) (g i) first second)

pub ruleset runs = (takes_none, takes_one, takes_cons, takes_append, takes_more)
