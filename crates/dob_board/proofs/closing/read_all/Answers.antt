-- A read keeps the rule and closes the view, and one word more is as the stands of all nodes say.
use Rattle.std.proofs.Common.{rules, arith, ℕ, List, length, ap, subst, ◌∙◌}
use Rattle.dob_board.proofs.Names.{SeatState, IsWord}
use Rattle.dob_board.proofs.Allowed.{Seated}
use Rattle.dob_board.proofs.Done.{goes_on}
use Rattle.dob_board.proofs.Ends.{reads_call, read_more}
use Rattle.dob_board.proofs.closing.read_all.Goals as goal

pub load-requires : goal.load-requires
load-requires c =
    let inv = c.loop-word.invariant in (
      search rules,
      rw (c.deref.ensures, c.requires.board) (omega (arith, inv.long, c.requires.room)),
      reads_call _ c.args.nodes c.loop-word.word _ _ c.loop-word.rest.me (search rules) inv.size inv.from
          (ap (λ (stands : List SeatState). length stands) inv.stands ∙ c.requires.all),
    )

pub loop-word-preserved : goal.loop-word-preserved
loop-word-preserved c =
    let inv = c.loop-word.invariant in
    let witnessed = c.load.ensures.2 in
    let here = subst (λ (p : ℕ × List SeatState). IsWord p.0 p.1 c.load.new.seat.me.0.witnessed c.loop-word.word c.load.result)
    (λ q. (inv.size q, inv.stands q)) witnessed.3 in
    record {
      of_board = c.load.ensures.0 ∙ inv.of_board;
      size = ap (λ (me : Seated). me.0.size) witnessed.0 ∙ inv.size;
      from = ap (λ (me : Seated). me.0.from) witnessed.0;
      stands = ap (λ (me : Seated). me.0.stands) witnessed.0 ∙ inv.stands;
      no_slot = ap (λ (me : Seated). me.1) witnessed.0 ∙ inv.no_slot;
      closed = λ some. ap (λ (me : Seated). me.0.closed) witnessed.0;
      own = λ some. ap (λ (me : Seated). me.0.own) witnessed.0;
      witnessed = goes_on c.args.rest.now.me.0.witnessed c.loop-word.rest.me.0.witnessed c.load.new.seat.me.0.witnessed inv.witnessed witnessed.2;
      long = search rules;
      read = read_more c.args.nodes c.loop-word.word c.load.result c.args.rest.now.me.0.stands c.loop-word.rest.me.0.witnessed c.load.new.seat.me.0.witnessed
          c.loop-word.words.items (search rules) (λ some. witnessed.1 (inv.closed some)) inv.read here;
    }
