-- The lines of distances and of values, one more at a time.
use Rattle.dob_survey.proofs.Common.{◌++◌, ◌+◌, ◌≡◌, Bool, List, ap, arith, get_or, suc, ℕ}
use Rattle.dob_distance.specs.Codes.{value_of_code}
use Rattle.dob_survey.specs.Reaches.{code_lines, level_line, level_lines, value_line}

-- one distance more
pub one_level : (is_json : Bool) (levels : List ℕ) (distance : ℕ)
    → level_lines is_json levels (distance + 1) ≡ level_lines is_json levels distance ++ level_line is_json distance (get_or levels distance 0)
one_level is_json levels distance = let next : distance + 1 ≡ suc distance = omega arith in ap (level_lines is_json levels) next

-- one code more
pub one_code : (is_json : Bool) (counts : List ℕ) (code : ℕ)
    → code_lines is_json counts (code + 1) ≡ code_lines is_json counts code ++ value_line is_json (value_of_code code) (get_or counts code 0)
one_code is_json counts code = let next : code + 1 ≡ suc code = omega arith in ap (code_lines is_json counts) next
