-- A file that the shelf has isn't opened only for lack of memory, and else it is read.
use Rattle.dob_device.specs.Devices.{whole}
use Rattle.dob_dbfile.specs.Faults as reading
use Rattle.dob_files.proofs.Common.{false}
use Rattle.std.proofs.lemmas.Result.{err_from_is_err_and}
use Rattle.dob_files.proofs.Kept.{same_chain, shelf_fails, source_fails}
use Rattle.dob_files.proofs.TableFaults.{shelf_fault_holds}
use Rattle.dob_files.proofs.tables.open.Goals as goal

pub returns-in_err-source-clause-opened : goal.returns-in_err-source-clause-opened
returns-in_err-source-clause-opened g c =
    let p = err_from_is_err_and c.from_residual.result c.from_residual.ensures.1 in
    rw (p.1, p.2) (
      (
        shelf_fault_holds ((g.S.Shelf.state c.args.shelf.now).has c.args.file.now) c.in_err-source.field-0.0 c.in_err-source.ensures.found,
        shelf_fails c.find.result _ _ c.in_err-source.field-0.0 c.in_err-source.ensures.failed,
      ),
      c.find.ensures.kept,
    )

pub returns-in_err-read-clause-opened : goal.returns-in_err-read-clause-opened
returns-in_err-read-clause-opened g c =
    let p = err_from_is_err_and c.from_residual-in_err-read.result c.from_residual-in_err-read.ensures.1 in
    let old = g.S.Shelf.state c.args.shelf.now in
    let mid = g.S.Shelf.state c.find.new.self in
    let new = g.S.Shelf.state c.close.new.self in
    rw (p.1, p.2) (
      (
        λ bytes has. c.in_err-read.ensures.fault (whole bytes) (c.in_ok-source.ensures.found bytes has),
        source_fails old.has_failed mid.has_failed new.has_failed (g.S.Src.Source.has_failed c.read_table-read.new.source) (reading.is_io c.in_err-read.field-0.0)
            c.in_ok-source.ensures.failed c.close.ensures.failed c.in_err-read.ensures.failed,
      ),
      same_chain old.has mid.has new.has c.in_ok-source.ensures.kept c.close.ensures.kept,
    )

pub returns-clause-opened : goal.returns-clause-opened
returns-clause-opened g c =
    let old = g.S.Shelf.state c.args.shelf.now in
    let mid = g.S.Shelf.state c.find.new.self in
    let new = g.S.Shelf.state c.close.new.self in (
      (
        record {
          whole = c.in_ok-read.ensures.table;
          same = λ bytes has. (c.in_ok-read.ensures.read (whole bytes) (c.in_ok-source.ensures.found bytes has)).1;
        },
        source_fails old.has_failed mid.has_failed new.has_failed (g.S.Src.Source.has_failed c.read_table-read.new.source) false c.in_ok-source.ensures.failed
            c.close.ensures.failed c.in_ok-read.ensures.failed,
      ),
      same_chain old.has mid.has new.has c.in_ok-source.ensures.kept c.close.ensures.kept,
    )
