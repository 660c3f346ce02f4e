-- A certificate's file whose claim isn't proved.
use Rattle.dobutsu_c.proofs.Common.{◌≡◌, Err, List, Result, inl, inr, refl, ℕ, Setup, IsRefusal, Refusal, Content, bytes_of, IsVerifyFault}
use Rattle.std.specs.Result.{IfErr}
use Rattle.std.proofs.lemmas.Result.{IfErr-at_err}
use Rattle.dob_certificate.specs.declared.refusal.Refusal.TheVariants as refusal
use Rattle.dob_certfile.specs.Roots.{IsRoot}

-- why what a file says is refused
abbrev pub IsRefusalOf : Content → Refusal → Type 0
IsRefusalOf c given = (p : Setup) × IsRoot c.family c.root p × IsRefusal c.family c.lost c.held p c.claim given

module _ (bytes : List ℕ) (c : Content) (r : Result (Unit {0}) Refusal) (class : ℕ) (file : bytes ≡ bytes_of c) where
  pub by_entry : r ≡ Err (refusal.Unsupported class) → IfErr r (IsRefusalOf c) → IsVerifyFault bytes 30 class
  by_entry is given =
      let told = IfErr-at_err (IsRefusalOf c) is given in
      inr (inr (record { content = c; file = file; root = told.0; is_root = told.1; refused = inl (refl, told.2) }))

  pub by_claim : r ≡ Err refusal.Claim → IfErr r (IsRefusalOf c) → IsVerifyFault bytes 31 class
  by_claim is given =
      let told = IfErr-at_err (IsRefusalOf c) is given in
      inr (inr (record { content = c; file = file; root = told.0; is_root = told.1; refused = inr (refl, told.2) }))
