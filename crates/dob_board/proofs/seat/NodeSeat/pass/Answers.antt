-- The token passed has a word, and to store it keeps the rule.
use Rattle.std.proofs.Common.{◌≡◌, ℤ, w64, Option, Some, false, rules, arith, ap, sym, subst, ◌∙◌}
use Rattle.dob_board.proofs.Names.{ints, to_z-of_z, Token, IsToken, IsPacked, passed_on, token_at, passed_by, Passed, IsInBounds, step, none}
use Rattle.dob_board.proofs.Allowed.{Seated, seated}
use Rattle.dob_board.proofs.Passing.{passes_asks, passed_fits}
use Rattle.dob_board.proofs.seat.NodeSeat.pass.Goals as goal
use Rattle.dob_board.proofs.seat.NodeSeat.pass.Goals.{After-passed-token}

passed_is : (c : After-passed-token) → c.passed-token.result ≡ passed_by c.args.self.now.nodes c.args.self.now.stand c.in-Some.token
passed_is c =
    let passed = rw c.get.ensures.value at c.passed-token.ensures in
    passed ∙ ap (λ (z : ℤ). passed_on c.args.self.now.nodes c.in-Some.token z c.args.self.now.stand.black)
    (to_z-of_z w64 c.counter.result (search rules) ∙ c.counter.ensures.counter)

pub passed-token-requires : goal.passed-token-requires
passed-token-requires c =
    let seat = c.args.self.now in
    let bounds = seat.in_bounds c.in-Some.token c.in-Some.is in
    let same = to_z-of_z w64 c.counter.result (search rules) in
    record {
      some = c.get.ensures.size.0;
      low = λ ne. rw same (omega (arith, ints, bounds.1, c.counter.ensures.low, seat.size, seat.within));
      high = λ ne. rw same (omega (arith, ints, bounds.2, c.counter.ensures.high, seat.size, seat.within));
    }

pub pack-requires : goal.pack-requires
pack-requires c =
    let seat = c.args.self.now in
    subst IsToken (ap (λ (z : ℤ). passed_on seat.nodes c.in-Some.token z seat.stand.black) c.counter.ensures.counter
    ∙ sym (passed_is (goal.at.pack-requires c).After-passed-token))
    (passed_fits seat.nodes seat.node c.in-Some.token c.counter.result seat.stand.black seat.size seat.within (seat.in_bounds c.in-Some.token c.in-Some.is)
    c.counter.ensures.low c.counter.ensures.high)

pub store-requires : goal.store-requires
store-requires c = rw c.deref.ensures (passes_asks c.args.self.now c.in-Some.token c.pack.result c.in-Some.is
    (subst (λ (t : Token). IsPacked t c.pack.result) (passed_is (goal.at.store-requires c).After-passed-token) c.pack.ensures))

pub invariant_of-self : goal.invariant_of-self
invariant_of-self c =
    let seat = c.args.self.now in
    let me = c.store.new.seat.me in
    let tells = (subst (λ (p : Seated). Passed (step 0 1 c.pack.result 0 none) p c.pack.result me) seat.view_is c.store.ensures.2) c.in-Some.token c.in-Some.is in
    let same : c.token_at-self.result ≡ token_at seat.node (passed_by seat.nodes seat.stand c.in-Some.token) =
    c.token_at-self.ensures ∙ ap (token_at seat.node) (passed_is (goal.at.invariant_of-self c).After-passed-token) in
    let view = tells.0.0
    ∙ ap (λ (t : Option Token). seated seat.nodes seat.node (record seat.stand { black = false; token = t }) me.0.witnessed) (sym same) in
    let bounds : (t : Token) → c.token_at-self.result ≡ Some t → IsInBounds seat.nodes seat.node t = λ t e. tells.1 t (sym same ∙ e) in
    search rules
