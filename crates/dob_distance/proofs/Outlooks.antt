-- What an entry says at each lesser depth, and what positions with the same outlook share.
use Rattle.dob_distance.proofs.Common.{◌≡◌, ◌≤◌, arith, refl, true, ℕ, le-leb, leb-true, Profile, Setup, SameOutlook, IsCutOff, Tells, is_draw, HasValue}
use Rattle.dob_distance.proofs.Common.{Value, Draw, Loss, Win}
use Rattle.dob_distance.proofs.Depths.{won_stays, lost_stays, won_not_lost}

-- an entry that is cut off at a depth speaks of each depth up to it
pub tells : (profile : Profile) (n m : ℕ) (p : Setup) (entry : Value) → n ≤ m → IsCutOff profile m p entry → Tells profile n p entry
tells profile n m p (Win d) upto cut = record {
  win = λ yes. won_stays profile d n p (leb-true d n yes) cut.1.0;
  won = λ won. le-leb d n (cut.1.1 n won);
  loss = λ false_is_true. absurd (cc);
  lost = λ lost. absurd (won_not_lost profile d n p cut.1.0 lost);
}
tells profile n m p (Loss d) upto cut = record {
  win = λ false_is_true. absurd (cc);
  won = λ won. absurd (won_not_lost profile n d p won cut.1.0);
  loss = λ yes. lost_stays profile d n p (leb-true d n yes) cut.1.0;
  lost = λ lost. le-leb d n (cut.1.1 n lost);
}
tells profile n m p Draw upto cut = record {
  win = λ false_is_true. absurd (cc);
  won = λ won. absurd (cut.0 (won_stays profile n m p upto won));
  loss = λ false_is_true. absurd (cc);
  lost = λ lost. absurd (cut.1 (lost_stays profile n m p upto lost));
}

-- positions with the same outlook: an entry says the same of both, and they have the same values
pub tells_same : (profile : Profile) (n : ℕ) (p q : Setup) (entry : Value) → SameOutlook profile q p → Tells profile n p entry → Tells profile n q entry
tells_same profile n p q entry same told = grind arith

pub value_same : (profile : Profile) (p q : Setup) (v : Value) → SameOutlook profile q p → HasValue profile p v → HasValue profile q v
value_same profile p q (Win d) same has = ((same.won d).1 has.0, λ n won. has.1 n ((same.won n).0 won))
value_same profile p q (Loss d) same has = ((same.lost d).1 has.0, λ n lost. has.1 n ((same.lost n).0 lost))
value_same profile p q Draw same has = λ n. (λ won. (has n).0 ((same.won n).0 won), λ lost. (has n).1 ((same.lost n).0 lost))

pub draw_is : (v : Value) → is_draw v ≡ true → v ≡ Draw
draw_is Draw h = refl
draw_is _ h = cc
