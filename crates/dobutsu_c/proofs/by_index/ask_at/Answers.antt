-- What was read of the file, and why the position isn't one of its family.
use Rattle.dobutsu_c.proofs.Indexed.{by_file}
use Rattle.dobutsu_c.proofs.by_index.ask_at.Goals as goal

pub returns-in-Err : goal.returns-in-Err
returns-in-Err c = λ text named. by_file c.args.file.now text c.args.by c.args.position.setup c.in-Err.fault named c.in-Err.ensures

pub returns-in-Err-check_member : goal.returns-in-Err-check_member
returns-in-Err-check_member c = λ text named.
    let held = c.in-Ok.held in
    (held.format, held.family, held.classes, c.args.position.setup, (named, c.in-Ok.ensures), c.in-Err-check_member.ensures)
