-- Once all seats are joined, the words that are read are those that the seats of all nodes counted, and that the events made.
use Rattle.std.proofs.Common.{map, ap, sym, subst, ◌∙◌, List, length}
use Rattle.dob_board.proofs.Names.{SeatState, View, stand_of, AreRead, AreAsWitnessed, length-map}
use Rattle.dob_board.proofs.Allowed.{Seated}
use Rattle.dob_board.proofs.Ends.{are_words, are_as_witnessed, is_history}
use Rattle.dob_board.proofs.board.Blackboard.close.Goals as goal
use Rattle.dob_board.proofs.board.Blackboard.close.Goals.{After-read_all-words}

pub read_all-words-requires-clause-all : goal.read_all-words-requires-clause-all
read_all-words-requires-clause-all c =
    ap (λ (me : Seated). length me.0.stands) c.join_all.ensures.rest ∙ length-map c.args.seats.items stand_of ∙ c.requires.count

read : (c : After-read_all-words) →
    AreRead c.args.self.nodes (map stand_of c.args.seats.items) c.read_all-words.new.rest.me.0.witnessed c.read_all-words.result.items
read c = subst (λ (stands : List SeatState). AreRead c.args.self.nodes stands c.read_all-words.new.rest.me.0.witnessed c.read_all-words.result.items)
    (ap (λ (me : Seated). me.0.stands) c.join_all.ensures.rest) c.read_all-words.ensures.read

pub invariant_of-result : goal.invariant_of-result
invariant_of-result c =
    let board = c.args.self in
    record {
      witnessed = subst (λ (v : View). AreAsWitnessed v c.read_all-words.result.items) (sym (ap (λ (me : Seated). me.0) c.read_all-words.ensures.rest))
          (are_as_witnessed board.nodes c.join_all.new.rest.me.0.stands c.read_all-words.new.rest.me.0.witnessed c.read_all-words.result.items board.some
          (ap (λ (me : Seated). length me.0.stands) c.join_all.ensures.rest ∙ length-map c.args.seats.items stand_of ∙ c.requires.count) c.read_all-words.ensures.read);
    }

pub returns-clause-words : goal.returns-clause-words
returns-clause-words c =
    are_words c.args.self.rest.table_id c.args.self.nodes c.args.seats.items _ _ c.requires (read (goal.at.returns-clause-words c).After-read_all-words)

pub returns-clause-history : goal.returns-clause-history
returns-clause-history c =
    is_history c.args.self.nodes c.args.seats.items _ c.join_all.new.rest.me.0.witnessed c.args.self.some c.join_all.ensures.witnessed
    c.read_all-words.ensures.witnessed (read (goal.at.returns-clause-history c).After-read_all-words)
