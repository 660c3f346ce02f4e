-- Later the last name there is none.
use Rattle.dobutsu_c.proofs.Common.{◌≤◌, [], arith, sym, names}
use Rattle.std.proofs.Math.ListN.{get_or-eq_default}
use Rattle.dobutsu_c.proofs.fault_names.name_of.Goals as goal

pub returns-in-43-to-4294967295-clause-name : goal.returns-in-43-to-4294967295-clause-name
returns-in-43-to-4294967295-clause-name c =
    let above : 43 ≤ c.args.fault = omega (arith, c.in-43-to-4294967295) in
    sym (get_or-eq_default names [] {n = c.args.fault} above)
