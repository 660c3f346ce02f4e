-- The new table stands behind the others.
use Rattle.dob_classes.proofs.Tables.RunTables.{AreRuns-more, HasTable-new}
use Rattle.dob_classes.proofs.Common.{◌∙◌, ap}
use Rattle.dob_rank.proofs.InRuns.RunSums.{lions_same, lions_there}
use Rattle.dob_rank.specs.Runs.{run_kind}
use Rattle.dob_classes.proofs.block_classes.push_table.Goals as goal

pub open-requires : goal.open-requires
open-requires c = record {
  block = c.requires.block;
  run = lions_there c.args.family.set c.args.block c.args.lions c.requires.block c.requires.lions;
  kind = ap run_kind (lions_same c.args.lions c.requires.lions) ∙ c.requires.kind;
}

pub returns : goal.returns
returns c = record {
  table = HasTable-new c.args.family c.args.block c.args.lions c.len-number.result c.args.mixed.now.items _ c.in_ok-table.table
      (c.len-number.ensures ∙ c.args.mixed.now.ok.0) c.in_ok-push.ensures.items c.in_ok-table.ensures.family c.in_ok-table.ensures.block
      c.in_ok-table.ensures.run;
  runs = λ count runs are. AreRuns-more c.args.family c.args.block count runs c.args.mixed.now.items _ c.in_ok-table.table c.in_ok-push.ensures.items are;
}
