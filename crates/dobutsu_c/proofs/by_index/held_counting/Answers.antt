-- A file of a family is as long as its classes need.
use Rattle.dobutsu_c.proofs.Common.{◌∙◌, ◌≡◌, arith, classes_of}
use Rattle.dobutsu_c.proofs.Indexed.{long_classes}
use Rattle.dobutsu_c.proofs.by_index.held_counting.Goals as goal

pub returns-in-Ok : goal.returns-in-Ok
returns-in-Ok c =
    let file = c.args.file.now in
    let classes : c.classes_by_length.result ≡ classes_of c.in-Ok.family =
    c.classes_by_length.ensures ∙ long_classes file c.in-Ok.format c.in-Ok.family c.in-Ok.ensures.named in
    record {
      named = c.in-Ok.ensures.named.0.0.0;
      marked = tt;
      long = omega (arith, classes, c.in-Ok.ensures.named.0.1, c.in-Ok.ensures.named.1);
      right = λ is. (classes, c.in-Ok.ensures.named);
    }

pub returns-in-Err : goal.returns-in-Err
returns-in-Err c = (c.held_family.ensures.fault c.in-Err.fault).0 c.in-Err.is
