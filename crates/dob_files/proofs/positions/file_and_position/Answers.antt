-- A fault of opening the file is one of asking it for the position that was read.
use Rattle.std.proofs.lemmas.Result.{err_from_is_err_and}
use Rattle.dob_files.proofs.TableFaults.{opening_fault_holds}
use Rattle.dob_files.proofs.positions.file_and_position.Goals as goal

pub returns-in_err-table : goal.returns-in_err-table
returns-in_err-table g c =
    let p = err_from_is_err_and c.from_residual-in_err-table.result c.from_residual-in_err-table.ensures.1 in
    let opened = c.in_err-table.ensures.opened in
    rw (p.1, p.2) (
      (
        opening_fault_holds ((g.S.Shelf.state c.args.shelf.now).has c.args.file.now) c.args.text.now c.in_ok-position.position.setup _
            c.in_ok-position.ensures opened.0.0,
        opened.0.1,
      ),
      opened.1,
    )
