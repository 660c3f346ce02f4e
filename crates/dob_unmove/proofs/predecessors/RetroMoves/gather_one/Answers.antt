-- The sets show the position before the move, which was open, where the piece that was caught may stand again.
use Rattle.dob_unmove.proofs.Common.{◌∙◌, on_ok_weaker, refl, sym, IsShown, earlier, setup_after}
use Rattle.dob_unmove.proofs.Images.{adds_none}
use Rattle.dob_unmove.proofs.Kept.{barred, legal_turned, shown_before}
use Rattle.dob_unmove.proofs.Threats.{was_open}
use Rattle.dob_unmove.proofs.Undone.{turned_squares, few_turned}
use Rattle.dob_unmove.proofs.predecessors.RetroMoves.gather_one.Goals as goal
use Rattle.dob_unmove.proofs.predecessors.RetroMoves.gather_one.Goals.{After-bits_before-before}

pub bits_before-before-requires : goal.bits_before-before-requires
bits_before-before-requires c =
    let after = setup_after c.args.self.now in
    let legal = legal_turned c.args.self.now.classes.now.family after c.requires.walk.of_set in
    (after, c.requires.can, turned_squares after legal, few_turned after legal, c.requires.walk.ways_are.board_is)

-- what the sets show
shown : (c : After-bits_before-before) → IsShown c.args.self.now.classes.now.family (earlier (setup_after c.args.self.now) c.args.undo) c.bits_before-before.result
shown c =
    let walk = c.args.self.now in
    let w = c.requires.walk in
    shown_before walk.classes.now.family (setup_after walk) c.args.undo c.requires.can w.of_set _ _ (sym c.may_give_back.ensures ∙ c.if-may_give_back.true)
    c.requires.home w.ways_are.board_is c.bits_before-before.ensures

pub gather_class-requires : goal.gather_class-requires
gather_class-requires c = (earlier (setup_after c.args.self.now) c.args.undo, shown (goal.at.gather_class-requires c).After-bits_before-before)

pub returns-then-may_give_back : goal.returns-then-may_give_back
returns-then-may_give_back c =
    let walk = c.args.self.now in
    let w = c.requires.walk in
    let before = earlier (setup_after walk) c.args.undo in
    let open_there = was_open (setup_after walk) walk.ways.now.threat (legal_turned walk.classes.now.family (setup_after walk) w.of_set)
    w.ways_are.threat_is c.args.undo c.requires.can c.requires.calm in
    let is = shown (goal.at.returns-then-may_give_back c).After-bits_before-before in
    on_ok_weaker c.gather_class.result (λ adds. (_, adds before is open_there, refl)) c.gather_class.ensures

pub returns-else-may_give_back : goal.returns-else-may_give_back
returns-else-may_give_back c =
    let walk = c.args.self.now in
    let absent = barred walk.classes.now.family (setup_after walk) c.args.undo c.requires.can c.requires.walk.of_set
    (sym c.may_give_back.ensures ∙ c.if-may_give_back.false) in (
      c.args.found.now.items,
      adds_none walk.classes.now.family (earlier (setup_after walk) c.args.undo) (λ is. absurd (absent is)) walk.is_own_image c.args.found.now.items,
      refl,
    )
