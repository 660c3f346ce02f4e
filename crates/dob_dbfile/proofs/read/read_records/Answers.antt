-- Piece after piece the codes and the digest grow by the bytes that were read.
use Rattle.dob_dbfile.proofs.Common.{◌*◌, ◌∙◌, ◌≡◌, [], ap, arith, length, refl, rules, subst, sym, ℕ, or-false, err_from_is_err_and, after, HashesNext}
use Rattle.dob_dbfile.proofs.Common.{ReadsCodes}
use Rattle.dob_device.proofs.Streams.{after-after}
use Rattle.dob_dbfile.proofs.Pieces.{reads_none, reads_more, hashes_none, hashes_more, cut_later, few_more}
use Rattle.dob_dbfile.proofs.read.read_records.Goals as goal

pub records-init : goal.records-init
records-init g c =
    let none : length c.new-codes.result ≡ 0 = ap length c.new-codes.ensures in (
      omega (arith, none),
      search rules,
      search rules,
      refl,
      λ stream gives. rw c.new-codes.ensures (reads_none stream [], gives, hashes_none stream c.args.hasher.now),
    )

pub records-preserved : goal.records-preserved
records-preserved g c =
    let counted = c.in_ok-read_piece.ensures.counted in
    let few = few_more c.args.count (length c.records.codes) c.min-records.result 2048 c.records.room c.records.invariant.0 (search rules) in (
      omega (arith, counted, few),
      search rules,
      c.in_ok-read_piece.ensures.fit c.records.invariant.2,
      c.in_ok-read_piece.ensures.failed ∙ or-false _ ∙ c.records.invariant.3,
      λ stream gives.
          let before = c.records.invariant.4 stream gives in
          let read = c.in_ok-read_piece.ensures.codes _ before.1 in
          let hashed = c.in_ok-read_piece.ensures.hashed _ before.1 in (
            subst (λ (n : ℕ). ReadsCodes stream n [] c.read_piece.new.codes) (sym counted)
                (reads_more stream _ _ [] c.records.codes c.read_piece.new.codes before.0 read.0),
            subst (λ (n : ℕ). g.R.Source.gives c.read_piece.new.source (after n stream)) (sym counted)
                (subst (g.R.Source.gives c.read_piece.new.source) (after-after stream _ _) read.1),
            subst (λ (n : ℕ). HashesNext stream n c.args.hasher.now c.read_piece.new.hasher) (sym counted)
                (hashes_more stream _ _ c.args.hasher.now c.records.hasher c.read_piece.new.hasher before.2 hashed),
          ),
    )

pub returns-in_err-read_piece-clause-cut : goal.returns-in_err-read_piece-clause-cut
returns-in_err-read_piece-clause-cut g c = λ stream gives.
    let p = err_from_is_err_and c.from_residual-in_err-read_piece.result c.from_residual-in_err-read_piece.ensures.1 in
    let before = c.records.invariant.4 stream gives in
    let few = few_more c.args.count (length c.records.codes) c.min-records.result 2048 c.records.room c.records.invariant.0 (search rules) in
    let cut = c.in_err-read_piece.ensures.cut _ before.1 in
    rw (p.1, p.2) (cut_later stream (2 * length c.records.codes) (2 * c.args.count) _ c.args.before _ before.0.within few cut)

pub returns-clause-codes : goal.returns-clause-codes
returns-clause-codes g c = λ stream gives.
    let all : length c.records.codes ≡ c.args.count = omega (arith, c.records.invariant.0, c.records-test.false) in
    let done = c.records.invariant.4 stream gives in (
      subst (λ (n : ℕ). ReadsCodes stream (2 * n) [] c.records.codes) all done.0,
      subst (λ (n : ℕ). g.R.Source.gives c.records.source (after (2 * n) stream)) all done.1,
    )

pub returns-clause-hashed : goal.returns-clause-hashed
returns-clause-hashed g c = λ stream gives.
    let all : length c.records.codes ≡ c.args.count = omega (arith, c.records.invariant.0, c.records-test.false) in
    subst (λ (n : ℕ). HashesNext stream (2 * n) c.args.hasher.now c.records.hasher) all (c.records.invariant.4 stream gives).2

pub returns-clause-failed : goal.returns-clause-failed
returns-clause-failed g c = c.records.invariant.3 ∙ sym (or-false _)
