-- Part after part joins the list.
use Rattle.dob_gather.proofs.Common.{◌≡◌, ◌+◌, ◌++◌, ◌∙◌, ap, arith, subst, sym, ℕ, classes_of}
use Rattle.dob_rank.specs.Families.{class_setup}
use Rattle.dob_history.specs.Openings.{IsOpening}
use Rattle.dob_gather.specs.Scans.{AreOpeningsFrom}
use Rattle.dob_gather.proofs.Found.{found_joined}
use Rattle.dob_gather.proofs.scans.scan.Goals as goal

pub parts-init : goal.parts-init
parts-init g c = (
  omega arith,
  subst (AreOpeningsFrom c.args.classes.now.family 0 0) (sym c.new-openings.ensures) (record {
    whole = omega arith;
    each = λ place item at. absurd (cc);
  }),
)

pub parts-preserved : goal.parts-preserved
parts-preserved g c =
    let family = c.args.classes.now.family in
    let whole = c.in_ok-append.ensures.appended ∙ ap (λ xs. c.parts.openings ++ xs) c.deref.ensures.value in (
      omega (arith, c.min-end.ensures),
      subst (AreOpeningsFrom family 0 c.min-end.result) (sym whole)
          (found_joined (λ class given. IsOpening family.profile (class_setup family class) given) 0 c.parts.class c.min-end.result c.parts.openings
          c.in_ok-part.part.items c.parts.invariant.1 c.in_ok-part.ensures),
    )

pub returns : goal.returns
returns g c =
    let family = c.args.classes.now.family in
    let all : c.parts.class ≡ classes_of family = omega (arith, c.parts.invariant.0, c.parts-test.false, c.class_count-count.ensures.number) in
    let are = c.parts.invariant.1 in record {
      whole = omega (arith, are.whole, all);
      each = λ class given there.
          let here : 0 + class ≡ class = omega arith in
          subst (λ (k : ℕ). IsOpening family.profile (class_setup family k) given) here (are.each class given there);
    }
