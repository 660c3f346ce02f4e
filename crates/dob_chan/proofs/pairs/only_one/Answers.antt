-- Of a list of one the first is all.
use Rattle.std.proofs.Common.{◌≡◌, List, [], ◌∷◌, length, get_or, sym, ap, arith}
use Rattle.dob_chan.proofs.pairs.only_one.Goals as goal

only : {A : Type 0} (xs : List A) (x : A) → length xs ≡ 1 → x ≡ get_or xs 0 x → xs ≡ x ∷ []
only [] x one is = absurd (omega (arith, one))
only (y ∷ []) x one is = ap (λ z. z ∷ []) (sym is)
only (y ∷ z ∷ zs) x one is = absurd (omega (arith, one))

pub returns : goal.returns
returns g c = only c.args.things.items c.swap_remove.result c.requires c.swap_remove.ensures.value
