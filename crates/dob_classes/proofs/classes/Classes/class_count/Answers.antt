-- The marks of all ranks are as many as the classes.
use Rattle.dob_classes.proofs.Tables.FamilyBlocks.{count_told}
use Rattle.dob_classes.proofs.classes.Classes.class_count.Goals as goal

pub returns : goal.returns
returns c =
    let told = count_told c.args.self.now.family _ c.args.self.now.counted in
    record { count = told.0; number = c.args.self.now.counted; bound = told.1 }
