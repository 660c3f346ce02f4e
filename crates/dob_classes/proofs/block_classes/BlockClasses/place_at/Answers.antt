-- In profile A the place is the number itself, in profile B the place found has so many before it.
use Rattle.dob_classes.proofs.Tables.FamilyBlocks.{number_fits, place_of_own, place_of_b, few_on_board, lions_below}
use Rattle.dob_classes.proofs.block_classes.BlockClasses.place_at.Goals as goal

pub returns-in-A : goal.returns-in-A
returns-in-A c =
    let block = c.args.self.now in
    place_of_own block.family block.number c.args.run c.args.number (record { block_below = block.within; run_below = c.requires.run; number_below = c.requires.number }) c.in-A.is

pub place_of_number-requires : goal.place_of_number-requires
place_of_number-requires c = (let block = c.args.self.now in record {
  few = few_on_board block;
  lions = lions_below c.args.run;
  number = number_fits block.family block.number c.args.run c.args.number block.on_board
      (record { block_below = block.within; run_below = c.requires.run; number_below = c.requires.number }) c.in-B.is block.numbers;
})

pub returns-in-B : goal.returns-in-B
returns-in-B c =
    let block = c.args.self.now in
    place_of_b block.family block.number c.args.run c.args.number c.place_of_number.result block.on_board
    (record { block_below = block.within; run_below = c.requires.run; number_below = c.requires.number }) c.in-B.is block.numbers c.place_of_number.ensures
