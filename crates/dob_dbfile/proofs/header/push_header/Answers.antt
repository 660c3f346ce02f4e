-- The three pieces, one after the other.
use Rattle.dob_dbfile.proofs.Common.{◌++◌, ◌∙◌, ◌∷◌, ◌≡◌, List, [], ap, append_assoc, rules, ℕ, count_bytes, profile_bytes, set_bytes, title, Second}
use Rattle.dob_dbfile.proofs.header.push_header.Goals as goal

pieces : (old first second now a b c : List ℕ) → first ≡ old ++ a → second ≡ first ++ b → now ≡ second ++ c → now ≡ old ++ (a ++ (b ++ c))
pieces old first second now a b c e f g =
    g ∙ ap (λ xs. xs ++ c) (f ∙ ap (λ xs. xs ++ b) e ∙ append_assoc old a b) ∙ append_assoc old (a ++ b) c ∙ ap (λ xs. old ++ xs) (append_assoc a b c)

pub returns-clause-items : goal.returns-clause-items
returns-clause-items c =
    pieces c.args.bytes.now.items c.extend_from_slice.new.self.items c.extend_from_slice-2.new.self.items c.extend_from_slice-3.new.self.items
    (title Second) (set_bytes c.args.family.set ++ profile_bytes Second c.args.family.profile) (count_bytes c.args.count)
    c.in_ok-extend_from_slice.ensures.items
    (c.in_ok-extend_from_slice-2.ensures.items
    ∙ ap (λ (p : ℕ). c.extend_from_slice.new.self.items ++ (c.args.family.set.chicks ∷ c.args.family.set.elephants ∷ c.args.family.set.giraffes ∷ 2 ∷ p ∷ []))
    c.number-profile.ensures)
    (search rules)
