-- The first drop that is found is the first of the whole list.
use Rattle.std.proofs.Common.{None, ap, arith, option_to_list, true, ℕ, ◌<◌, ◌∙◌, ◌≡◌}
use Rattle.std.proofs.lemmas.Bool.{lt-ltb}
use Rattle.std.specs.Option.{is_some}
use Rattle.dob_pieces.specs.Lists.{each_below}
use Rattle.dob_pieces.specs.Setups.{held}
use Rattle.dob_pieces.specs.declared.kind.HandKind.{HandKind}
use Rattle.dob_pieces.specs.declared.profile.Profile.TheVariants.{A}
use Rattle.dob_pieces.specs.declared.setup.Setup.{Setup}
use Rattle.dob_moves.specs.Walks.{drops_of, first, put_on}
use Rattle.dob_reference.proofs.Firsts.{below_found, first-option}
use Rattle.dob_reference.proofs.first_moves.first_drop_of.Goals as goal

put_found : (p : Setup) (kind : HandKind) (i : ℕ) → 0 < held p.hands.mover kind → i < 12
    → first (each_below (λ to. option_to_list (put_on A p kind to)) i) ≡ None → is_some (put_on A p kind i) ≡ true → first (drops_of A p kind) ≡ put_on A p kind i
unfolding drops_of
put_found p kind i some below before found =
    rw (lt-ltb 0 (held p.hands.mover kind) some)
    (below_found (λ to. option_to_list (put_on A p kind to)) i 12 below before (ap is_some (first-option (put_on A p kind i)) ∙ found)
    ∙ first-option (put_on A p kind i))

pub returns-then-is_some : goal.returns-then-is_some
returns-then-is_some c =
    let some : 0 < held c.args.setup.now.hands.mover c.args.kind = omega arith in
    let below : c.loop-index.index < 12 = omega arith in
    let found : is_some (put_on A c.args.setup.now c.args.kind c.loop-index.index) ≡ true = cc in
    let e = put_found c.args.setup.now c.args.kind c.loop-index.index some below c.loop-index.invariant found in
    cc
