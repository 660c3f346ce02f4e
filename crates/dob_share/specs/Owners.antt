-- Who owns which class, and where it stands among the owner's.
use Rattle.std.specs.Prelude.{ℕ, ◌+◌, ◌*◌, ◌%◌}

-- the owner, among n, of a class
abbrev pub owner_of : ℕ → ℕ → ℕ
owner_of n class = class % n

-- the class at that place among those of owner id, among n
abbrev pub class_of_place : ℕ → ℕ → ℕ → ℕ
class_of_place n id place = place * n + id
