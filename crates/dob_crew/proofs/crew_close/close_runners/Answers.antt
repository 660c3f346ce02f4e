-- A crew's endpoints are closed: the words are what the seats counted, and each link stands in its sender's row.
use Rattle.dob_crew.proofs.Common.{◌≡◌, List, arith, map, subst, sym, vec_len, ℕ, AreSeats, AreWords, NodeSeat, ArePartsOf, AreEnds, AreJoined, endpoint_of}
use Rattle.dob_crew.proofs.CrewRunners.{crew_many, seat_at}
use Rattle.dob_crew.proofs.Seated.{ends_are, links_are}
use Rattle.dob_crew.proofs.crew_close.close_runners.Goals as goal
use Rattle.dob_crew.proofs.crew_close.close_runners.Goals.{In_ok-nodes}

parted : (g : _) (c : In_ok-nodes g) → ArePartsOf c.args.board.nodes (map endpoint_of c.args.runners.items) c.in_ok-nodes.parts
parted g c =
    let count = crew_many c.args.board c.args.runners.items c.requires in
    let many : vec_len c.args.runners ≡ c.args.board.nodes = omega (arith, count) in
    subst (λ (k : ℕ). ArePartsOf k (map endpoint_of c.args.runners.items) c.in_ok-nodes.parts) many c.in_ok-nodes.ensures.parts

ends : (g : _) (c : In_ok-nodes g) → AreEnds c.args.board.nodes c.in_ok-nodes.parts.sends.items c.in_ok-nodes.parts.takes.items
ends g c = ends_are c.args.board (map endpoint_of c.args.runners.items) c.in_ok-nodes.parts c.requires (parted g c)

takes_len : (g : _) (c : In_ok-nodes g) → vec_len c.in_ok-nodes.parts.takes ≡ c.args.board.nodes
takes_len g c = let count = (ends g c).takers in omega (arith, count)

pub part_runners-requires : goal.part_runners-requires
part_runners-requires g c = λ k runner at.
    let count = crew_many c.args.board c.args.runners.items c.requires in
    let nodes = (seat_at c.args.board c.args.runners.items c.requires k runner at).nodes in
    omega (arith, count, nodes)

pub close-closed-requires : goal.close-closed-requires
close-closed-requires g c =
    subst (λ (seats : List NodeSeat). AreSeats c.args.board.rest.table_id c.args.board.nodes seats)
    (sym (parted g (goal.at.close-closed-requires g c).In_ok-nodes).seats) c.requires.seats

pub rejoin_all-requires : goal.rejoin_all-requires
rejoin_all-requires g c =
    let here = (goal.at.rejoin_all-requires g c).In_ok-nodes in
    let parts = c.in_ok-nodes.parts in
    subst (λ (k : ℕ). AreEnds k parts.sends.items parts.takes.items) (sym (takes_len g here)) (ends g here)

pub returns-clause-ended : goal.returns-clause-ended
returns-clause-ended g c =
    let here = (goal.at.returns-clause-ended g c).In_ok-nodes in
    let parts = c.in_ok-nodes.parts in
    let n = c.args.board.nodes in
    let links = c.in_ok-links.links.items in
    let joined : AreJoined n parts.sends.items parts.takes.items links =
    subst (λ (k : ℕ). AreJoined k parts.sends.items parts.takes.items links) (takes_len g here) c.in_ok-links.ensures in
    record {
      words = subst (λ (seats : List NodeSeat). AreWords n seats c.close-closed.result.words.items) (parted g here).seats c.close-closed.ensures.words;
      count = joined.count;
      links = links_are c.args.board (map endpoint_of c.args.runners.items) parts c.requires (parted g here) links joined;
      sending = (parted g here).sending;
      taking = (parted g here).taking;
    }
