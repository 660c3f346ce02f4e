-- The squares are gone over until something stands where it may not.
use Rattle.dob_pieces.proofs.Common.{◌∙◌, ◌≡◌, ap, arith, false, refl, rules, sym, true≢false, ℕ, may_stand, at}
use Rattle.dob_pieces.proofs.Allowed.{stands-from_allowed, allowed-from_stands}
use Rattle.dob_pieces.proofs.setup.Setup.is_allowed.Goals as goal

pub returns-then-not-may_stand : goal.returns-then-not-may_stand
returns-then-not-may_stand c =
    let square = c.loop-index.index in
    let here : c.new-square.result ≡ square = c.new-square.ensures in
    let isnt : may_stand c.args.profile square (at c.args.self.now square) ≡ false =
    sym (c.may_stand.ensures ∙ ap (may_stand c.args.profile c.new-square.result) c.at.ensures
    ∙ ap (λ (k : ℕ). may_stand c.args.profile k (at c.args.self.now k)) here) ∙ c.if-not-may_stand.true in
    (λ t. cc, λ allowed. absurd (true≢false (sym (stands-from_allowed c.args.profile c.args.self.now square (search rules) allowed (omega arith)) ∙ isnt)))

pub returns : goal.returns
returns c = (
  λ t. allowed-from_stands c.args.profile c.args.self.now (search rules) (λ k lt. c.loop-index.invariant k (omega arith)),
  λ allowed. refl,
)
