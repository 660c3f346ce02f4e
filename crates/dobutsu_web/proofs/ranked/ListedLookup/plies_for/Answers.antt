-- Its class is listed where the rank of its representative is.
use Rattle.dobutsu_web.proofs.Common.{◌∙◌, refl, sym, AreRanks, entry_by}
use Rattle.dob_moves.specs.Shown.{setup_on}
use Rattle.dobutsu_web.proofs.Ranks.{none_for, entry_for, alone_for, ascending}
use Rattle.dobutsu_web.proofs.ranked.ListedLookup.plies_for.Goals as goal

pub rank_of_earlier-earlier-requires : goal.rank_of_earlier-earlier-requires
rank_of_earlier-earlier-requires c = rw c.position.ensures c.requires.member

pub place_of-requires : goal.place_of-requires
place_of-requires c = ascending c.args.self.now.family c.args.self.now.ranks.now c.args.self.now.plies.now c.requires.stands.1

pub returns-in-Some : goal.returns-in-Some
returns-in-Some c =
    let family = c.args.family in
    let ranks = c.args.self.now.ranks.now in
    let plies = c.args.self.now.plies.now in
    let are : AreRanks family ranks plies = rw c.requires.stands.0 at c.requires.stands.1 in
    let setup = setup_on c.args.position.now.board in
    let earlier = rw c.position.ensures at c.rank_of_earlier-earlier.ensures in
    let place = c.in-Some.place in
    let there = c.in-Some.ensures.1 ∙ earlier.3 in
    rw c.requires.stands.0 (record {
      entry = entry_by family ranks plies place;
      is = entry_for family ranks plies are setup earlier.0 c.requires.member earlier.1 earlier.2 place c.in-Some.ensures.0 there;
      plies_are = refl;
      alone = alone_for family ranks plies are setup earlier.0 c.requires.member earlier.1 earlier.2 place c.in-Some.ensures.0 there;
    })

pub returns-in-None : goal.returns-in-None
returns-in-None c =
    let family = c.args.family in
    let ranks = c.args.self.now.ranks.now in
    let plies = c.args.self.now.plies.now in
    let are : AreRanks family ranks plies = rw c.requires.stands.0 at c.requires.stands.1 in
    let earlier = rw c.position.ensures at c.rank_of_earlier-earlier.ensures in
    rw c.requires.stands.0 (none_for family ranks plies are (setup_on c.args.position.now.board) earlier.0 c.requires.member earlier.1 earlier.2
    (λ place within same. c.in-None.ensures place within (same ∙ sym earlier.3)))
