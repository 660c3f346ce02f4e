-- How far what a settlement says is from the end of a game.
use Rattle.std.specs.Prelude.{ℕ, max}
use Rattle.dob_distance.specs.Distances.{plies_of}
use Rattle.dob_share.specs.declared.news.Settlement.{Settlement}

-- The level of a settlement is the distance of its value now. All settlements of the start are on level 1, though some are losses in 0.
abbrev pub level_of : Settlement → ℕ
level_of s = max (plies_of s.now) 1
