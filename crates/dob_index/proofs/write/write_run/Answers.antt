-- Each run of the first hand is there.
use Rattle.dob_index.proofs.Common.{◌∙◌, ap, arith, sym, lions_same, lions_there, run_kind}
use Rattle.dob_index.proofs.write.write_run.Goals as goal

pub invariant_of-write_entries : goal.invariant_of-write_entries
invariant_of-write_entries c = record {
  within = c.requires.block;
  there = lions_there c.args.family.set c.args.block c.args.lions c.requires.block c.requires.lions;
  kind = ap run_kind (lions_same c.args.lions c.requires.lions) ∙ sym c.kind_of.ensures ∙ c.in-Mixed.is;
}

pub classes_in_run-requires : goal.classes_in_run-requires
classes_in_run-requires c = record {
  block = c.requires.block;
  run = lions_there c.args.family.set c.args.block c.args.lions c.requires.block c.requires.lions;
  place = omega (arith, c.run_size_in-size.ensures.value);
}
