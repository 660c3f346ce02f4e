-- The sets tell what stands there.
use Rattle.dob_moves.proofs.Common.{◌∙◌, ◌≡◌, at}
use Rattle.dob_moves.specs.Shown.{cell_if}
use Rattle.dob_moves.proofs.Shown.{setup_on, cell_told}
use Rattle.dob_moves.proofs.position_board.PositionBoard.at.Goals as goal

pub returns : goal.returns
returns c =
    let s = setup_on c.args.self.now.board in
    let shows = c.args.self.now.shows in
    let told : cell_if c.has.result c.has-2.result c.has-3.result c.has-4.result c.has-5.result c.has-6.result c.has-7.result ≡ at s c.args.square =
    rw (
      c.has.ensures _ shows.own_lion_is,
      c.has-2.ensures _ shows.enemy_lion_is,
      c.has-3.ensures _ shows.enemies_are,
      c.has-4.ensures _ shows.hens_are,
      c.has-5.ensures _ shows.chicks_are,
      c.has-6.ensures _ shows.elephants_are,
      c.has-7.ensures _ shows.giraffes_are,
    ) (cell_told (at s c.args.square)) in
    c.cell_if.ensures ∙ told
