-- What is wrong with a front is found from left to right, and what is right is what it says.
use Rattle.dob_certfile.proofs.Common.{◌<◌, ◌≡◌, ◌≤◌, Err, List, Ok, arith, get_or, refl, sym, ℕ, le-leb, le-ltb, lt-ltb, err_from_is_err_and}
use Rattle.dob_certfile.proofs.Common.{Family, classes_of, claim_at, word, family_at, front_at, Defect, RootClass}
use Rattle.dob_certificate.specs.declared.claim.Claim.{Claim}
use Rattle.dob_certfile.proofs.front.front_of.Goals as goal

no_family : (bytes : List ℕ) (fault : Defect) → family_at bytes ≡ Err fault → front_at bytes ≡ Err fault
unfolding front_at
no_family bytes fault is = rw is refl

module _ (bytes : List ℕ) (family : Family) (is : family_at bytes ≡ Ok family) where
  root_beyond : classes_of family ≤ word 14 bytes → front_at bytes ≡ Err RootClass
  unfolding front_at
  root_beyond beyond = rw (is, le-ltb (word 14 bytes) (classes_of family) beyond) refl

  module _ (root : word 14 bytes < classes_of family) where
    no_claim : (fault : Defect) → claim_at (get_or bytes 18 0) (get_or bytes 19 0) ≡ Err fault → front_at bytes ≡ Err fault
    unfolding front_at
    no_claim fault wrong = rw (is, lt-ltb (word 14 bytes) (classes_of family) root, wrong) refl

    right : (claim : Claim) → claim_at (get_or bytes 18 0) (get_or bytes 19 0) ≡ Ok claim → word 20 bytes ≤ classes_of family
        → word 24 bytes ≤ classes_of family
        → front_at bytes ≡ Ok (record { family = family; root = word 14 bytes; claim = claim; lost_count = word 20 bytes; held_count = word 24 bytes })
    unfolding front_at
    right claim same lost held =
        rw (
          is,
          lt-ltb (word 14 bytes) (classes_of family) root,
          same,
          le-leb (word 20 bytes) (classes_of family) lost,
          le-leb (word 24 bytes) (classes_of family) held,
        ) refl

pub returns-in_err-family-clause-front : goal.returns-in_err-family-clause-front
returns-in_err-family-clause-front c =
    let p = err_from_is_err_and c.from_residual.result c.from_residual.ensures.1 in
    rw (p.1, p.2) (no_family c.args.bytes.now c.in_err-family.field-0.0 (sym c.in_err-family.ensures.family))

pub returns-then-root-classes-clause-front : goal.returns-then-root-classes-clause-front
returns-then-root-classes-clause-front c =
    root_beyond c.args.bytes.now c.in_ok-family.family (sym c.in_ok-family.ensures.family)
    (omega (arith, c.if-root-classes.true, c.count_classes-classes.ensures.number, c.word_of-root.ensures))

pub returns-in_err-claim-clause-front : goal.returns-in_err-claim-clause-front
returns-in_err-claim-clause-front c =
    let p = err_from_is_err_and c.from_residual-in_err-claim.result c.from_residual-in_err-claim.ensures.1 in
    rw (p.1, p.2) (no_claim c.args.bytes.now c.in_ok-family.family (sym c.in_ok-family.ensures.family)
    (omega (arith, c.if-root-classes.false, c.count_classes-classes.ensures.number, c.word_of-root.ensures)) c.in_err-claim.field-0.0
    (sym c.in_err-claim.ensures))

pub returns-clause-front : goal.returns-clause-front
returns-clause-front c =
    rw (c.word_of-root.ensures, c.word_of-lost_count.ensures, c.word_of-held_count.ensures)
    (right c.args.bytes.now c.in_ok-family.family (sym c.in_ok-family.ensures.family)
    (omega (arith, c.if-root-classes.false, c.count_classes-classes.ensures.number, c.word_of-root.ensures)) c.in_ok-claim.claim
    (sym c.in_ok-claim.ensures)
    (omega (arith, c.if-lost_count-classes.false, c.count_classes-classes.ensures.number, c.word_of-lost_count.ensures))
    (omega (arith, c.if-held_count-classes.false, c.count_classes-classes.ensures.number, c.word_of-held_count.ensures)))

pub returns-clause-classes : goal.returns-clause-classes
returns-clause-classes c = c.count_classes-classes.ensures.number

pub returns-clause-few : goal.returns-clause-few
returns-clause-few c = c.count_classes-classes.ensures.bound

pub returns-clause-long : goal.returns-clause-long
returns-clause-long c = c.in_ok-family.ensures.long
