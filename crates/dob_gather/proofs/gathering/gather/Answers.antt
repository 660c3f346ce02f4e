-- Part after part is taken, of which each code is that of the value that its class's owner shows, and the digest has taken all of them.
use Rattle.dob_gather.proofs.Common.{◌++◌, ◌∙◌, ◌≡◌, List, ap, arith, length, subst, sym, ℕ, classes_of, ClassTable, AreShownBelow, IsCodeShown, AreFrom}
use Rattle.dob_gather.proofs.Common.{HasTaken, values_of_codes}
use Rattle.dob_dbfile.specs.Format.{digest_of}
use Rattle.dob_gather.proofs.Found.{found_joined}
use Rattle.dob_gather.proofs.Found.{codes_fit, values_shown}
use Rattle.dob_gather.proofs.gathering.gather.Goals as goal
use Rattle.dob_gather.proofs.gathering.gather.Goals.{In_ok-codes}

pub codes_of-requires-clause-owned : goal.codes_of-requires-clause-owned
codes_of-requires-clause-owned g c = λ κs lives. (c.args.classes.family, omega (arith, c.min-class.ensures, c.class_count-count.ensures.number), c.requires.owners)

pub parts-init : goal.parts-init
parts-init g c =
    let shares = c.args.shares.now in (
      omega (arith, c.min-class.ensures),
      c.in_ok-hashed.ensures.hashed,
      subst (λ (codes : List ℕ). AreFrom (IsCodeShown (length shares) shares) 0 c.min-class.result (codes ++ c.in_ok-part.part.items))
          (sym c.in_ok-hashed.ensures.codes) c.in_ok-part.ensures,
    )

pub next-requires-clause-owned : goal.next-requires-clause-owned
next-requires-clause-owned g c = λ κs lives. (c.args.classes.family, omega (arith, c.min-end.ensures, c.class_count-count.ensures.number), c.requires.owners)

pub parts-preserved : goal.parts-preserved
parts-preserved g c =
    let shares = c.args.shares.now in
    let before = c.parts.parts in
    let next = c.in_ok-parts.parts in
    let more = c.in_ok-parts.ensures in (
      omega (arith, c.min-end.ensures),
      more.hashed c.args.classes.family c.class_count-count.result c.parts.invariant.1,
      subst (λ (codes : List ℕ). AreFrom (IsCodeShown (length shares) shares) 0 c.min-end.result (codes ++ next.part.items)) (sym more.codes)
          (found_joined (IsCodeShown (length shares) shares) 0 c.parts.class c.min-end.result (before.hashed.codes ++ before.part.items) next.part.items
          c.parts.invariant.2 more.part),
    )

all : (g : _) (c : In_ok-codes g) → c.parts.class ≡ classes_of c.args.classes.family
all g c = omega (arith, c.parts.invariant.0, c.parts-test.false, c.class_count-count.ensures.number)

are : (g : _) (c : In_ok-codes g) → AreFrom (IsCodeShown (length c.args.shares.now) c.args.shares.now) 0 c.parts.class c.in_ok-codes.field-0.codes
are g c =
    let shares = c.args.shares.now in
    subst (AreFrom (IsCodeShown (length shares) shares) 0 c.parts.class)
    (sym (c.in_ok-codes.ensures.codes ∙ ap (λ (part : List ℕ). c.parts.parts.hashed.codes ++ part) c.deref.ensures.value)) c.parts.invariant.2

pub new-table-requires-clause-whole : goal.new-table-requires-clause-whole
new-table-requires-clause-whole g c =
    let here = (goal.at.new-table-requires-clause-whole g c).In_ok-codes in omega (arith, (are g here).whole, all g here)

pub new-table-requires-clause-codes : goal.new-table-requires-clause-codes
new-table-requires-clause-codes g c =
    let here = (goal.at.new-table-requires-clause-codes g c).In_ok-codes in
    codes_fit (length c.args.shares.now) c.parts.class c.args.shares.now c.in_ok-codes.field-0.codes (are g here)

pub invariant_of-result : goal.invariant_of-result
invariant_of-result g c =
    let here = (goal.at.invariant_of-result g c).In_ok-codes in
    let family = c.args.classes.family in
    let hashed = c.in_ok-codes.field-0 in
    let count : c.class_count-count.result ≡ length hashed.codes = omega (arith, (are g here).whole, all g here, c.class_count-count.ensures.number) in
    record {
      digested = c.end-digest.ensures family hashed.codes
          (subst (λ (k : ℕ). HasTaken hashed.hasher family k hashed.codes) count
          (c.in_ok-codes.ensures.hashed family c.class_count-count.result c.parts.invariant.1))
          ∙ ap digest_of (sym c.new-table.ensures);
    }

pub returns-clause-values : goal.returns-clause-values
returns-clause-values g c =
    let here = (goal.at.returns-clause-values g c).In_ok-codes in
    let shares = c.args.shares.now in
    let codes = c.in_ok-codes.field-0.codes in
    subst (λ (table : ClassTable). AreShownBelow (length shares) (classes_of c.args.classes.family) shares table.values) (sym c.new-table.ensures)
    (subst (λ (m : ℕ). AreShownBelow (length shares) m shares (values_of_codes codes)) (all g here)
    (values_shown (length shares) c.parts.class shares codes (are g here)))
