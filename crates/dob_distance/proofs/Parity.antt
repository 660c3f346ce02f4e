-- Wins come at odd and losses at even distances, and so a number says the value.
use Rattle.dob_distance.proofs.Common.{◌%◌, ◌<◌, ◌∙◌, ◌≡◌, ◌≤◌, Err, List, Ok, Result, Some, ap, arith, get_or, inl, inr, length, option_map, refl, slice_get}
use Rattle.dob_distance.proofs.Common.{subst, suc, sym, zero, ℕ, cases_eq, get_or-map, length-map, slice_get-map, All, Profile, Setup}
use Rattle.dob_distance.proofs.Common.{IsShort, ValuesHaveParity, value_of_code, values_of_codes, IsCutOff, IsEntry, HasValue}
use Rattle.dob_distance.proofs.Common.{Lost, Won, MAX_DISTANCE, Value, Draw, Loss, Win}
use Rattle.std.specs.Result.{IfOk}

-- an even depth wins nothing that the depth before doesn't, and an odd one loses nothing
mutual
  pub won_one_less : (profile : Profile) (n : ℕ) (p : Setup) → suc n % 2 ≡ 0 → Won profile (suc n) p → Won profile n p
  won_one_less profile zero p even won = absurd (omega (arith, even))
  won_one_less profile (suc n) p even won = elim won [
    | inl caught ↦ inl caught
    | inr open_win ↦
        let odd : suc n % 2 ≡ 1 = omega (arith, even) in
        inr (open_win.0, open_win.1, open_win.2, open_win.3, lost_one_less profile n open_win.2 odd open_win.4)
  ]

  pub lost_one_less : (profile : Profile) (n : ℕ) (p : Setup) → suc n % 2 ≡ 1 → Lost profile (suc n) p → Lost profile n p
  lost_one_less profile zero p odd lost = elim lost [
    | inl over ↦ over
    | inr open_loss ↦
        let some = open_loss.0.2 in
        absurd (open_loss.1 some.0 some.1.0 some.1.1)
  ]
  lost_one_less profile (suc n) p odd lost = elim lost [
    | inl over ↦ inl over
    | inr open_loss ↦
        let even : suc n % 2 ≡ 0 = omega (arith, odd) in
        inr (open_loss.0, λ move q goes. won_one_less profile n q even (open_loss.1 move q goes))
  ]

odd_win : (profile : Profile) (plies : ℕ) (p : Setup) → HasValue profile p (Win plies) → plies % 2 ≡ 1
odd_win profile zero p has = absurd has.0
odd_win profile (suc n) p has = elim (cases_eq (suc n % 2) 1) [
  | inl odd ↦ odd
  | inr other ↦ absurd (omega (arith, has.1 n (won_one_less profile n p (omega (arith, other)) has.0)))
]

even_loss : (profile : Profile) (plies : ℕ) (p : Setup) → HasValue profile p (Loss plies) → plies % 2 ≡ 0
even_loss profile zero p has = refl
even_loss profile (suc n) p has = elim (cases_eq (suc n % 2) 1) [
  | inl odd ↦ absurd (omega (arith, has.1 n (lost_one_less profile n p odd has.0)))
  | inr other ↦ omega (arith, other)
]

pub values_have_parity : ValuesHaveParity
values_have_parity profile p (Win plies) has = odd_win profile plies p has
values_have_parity profile p (Loss plies) has = even_loss profile plies p has
values_have_parity profile p Draw has = tt

-- a code of 16 bits is an entry
entry_of_code : (code : ℕ) → code < 65536 → IsEntry (value_of_code code)
entry_of_code zero below = tt
entry_of_code (suc plies) below = grind arith

pub entries_of_codes : (codes : List ℕ) → All (λ code. code < 65536) codes → All IsEntry (values_of_codes codes)
entries_of_codes codes small k d below =
    let within : k < length codes = omega (arith, length-map codes value_of_code) in
    let code = get_or codes k 0 in
    let read : get_or (values_of_codes codes) k d ≡ value_of_code code = get_or-map value_of_code codes k 0 d within in
    subst IsEntry (sym read) (entry_of_code code (small k 0 within))

-- an entry that is short, of a position whose value it is
pub entry_of_value : (profile : Profile) (p : Setup) (v : Value) → HasValue profile p v → IsShort v → IsEntry v
entry_of_value profile p (Win plies) has short = (odd_win profile plies p has, short)
entry_of_value profile p (Loss plies) has short = (even_loss profile plies p has, short)
entry_of_value profile p Draw has short = tt

-- entries cut off at a depth that isn't too great are short
pub short_of_cut : (profile : Profile) (n : ℕ) (p : Setup) (v : Value) → n ≤ MAX_DISTANCE → IsCutOff profile n p v → IsShort v
short_of_cut profile n p (Win plies) upto cut = omega (arith, cut.0, upto)
short_of_cut profile n p (Loss plies) upto cut = omega (arith, cut.0, upto)
short_of_cut profile n p Draw upto cut = tt

-- what a code says is the entry that stands at its place
pub entry_read : (codes : List ℕ) (class code : ℕ) (v : Value) → slice_get codes class ≡ Some code → v ≡ value_of_code code →
    slice_get (values_of_codes codes) class ≡ Some v
entry_read codes class code v there is =
    slice_get-map value_of_code codes class ∙ ap (option_map value_of_code) there ∙ ap Some (sym is)

-- what two facts of an answer give together
pub IfOk-both : {T E : Type 0} (r : Result T E) (P Q R : T → Type 0) → ((x : T) → P x → Q x → R x) → IfOk r P → IfOk r Q → IfOk r R
IfOk-both (Ok x) P Q R both p q = both x p q
IfOk-both (Err e) P Q R both p q = tt
