-- By induction over the calls, with what waited before them.
use Rattle.dob_world.proofs.Common.{◌++◌, ◌∙◌, ◌∷◌, ◌≡◌, List, [], ap, sym, append-nil, BatchView}
use Rattle.std.proofs.lemmas.List.{append_assoc}
use Rattle.dob_world.specs.Links.{Call, Taken, GivenBack, Handed, Nothing, LeadsBy, taken, handed}
use Rattle.dob_world.proofs.laws.links_keep_order.Goals as goal

kept_order : (calls : List Call) (old new : List BatchView) → LeadsBy old calls new → old ++ taken calls ≡ handed calls ++ new
kept_order [] old new e = append-nil old ∙ e
kept_order (Taken batch ∷ calls) old new r =
    sym (append_assoc old (batch ∷ []) (taken calls)) ∙ ap (λ bs. bs ++ taken calls) (sym r.1) ∙ kept_order calls r.0 new r.2
kept_order (GivenBack batch ∷ calls) old new r = ap (λ bs. bs ++ taken calls) (sym r.1) ∙ kept_order calls r.0 new r.2
kept_order (Handed batch ∷ calls) old new r = ap (λ bs. bs ++ taken calls) r.1 ∙ ap (λ bs. batch ∷ bs) (kept_order calls r.0 new r.2)
kept_order (Nothing ∷ calls) old new r = ap (λ bs. bs ++ taken calls) (r.1.0 ∙ sym r.1.1) ∙ kept_order calls r.0 new r.2

pub returns : goal.returns
returns c = λ calls waiting r. kept_order calls [] waiting r
