-- The puzzles are those of the file's table.
use Rattle.dob_survey.proofs.Common.{◌∙◌, ap, puzzle_lines}
use Rattle.dob_survey.proofs.Puzzling.{puzzle_within}
use Rattle.dob_survey.specs.Puzzles.{walk_of}
use Rattle.dob_survey.proofs.puzzles.answer_puzzles.Goals as goal

pub puzzle_lines-requires : goal.puzzle_lines-requires
puzzle_lines-requires g c = λ puzzle listed.
    puzzle_within c.in_ok-table.table (walk_of c.args.search) c.args.search.plies c.args.search.count c.in_ok-puzzles.puzzles.items c.deref.result.now puzzle c.in_ok-puzzles.ensures
    c.deref.ensures.value listed

pub returns : goal.returns
returns g c =
    let opened = c.in_ok-table.ensures.opened in (
      (
        record {
          table = c.in_ok-table.table;
          is = opened.0.0;
          told = record {
            proper = c.is_puzzle_length.ensures.0 c.if-not-is_puzzle_length.false;
            puzzles = c.in_ok-puzzles.puzzles.items;
            first = c.in_ok-puzzles.ensures;
            same = c.in_ok-puzzle_lines.ensures ∙ ap (puzzle_lines c.in_ok-table.table.family c.args.search.is_numbered) c.deref.ensures.value;
          };
        },
        opened.0.1,
      ),
      opened.1,
    )
