-- The rows of four constants, one list after the other.
use Rattle.dob_words.proofs.Common.{◌++◌, ◌≡◌, Bool, List, None, Option, Some, arith, is_some, list_any, HasCommandShape, ProfileNames}
use Rattle.dob_words.proofs.Common.{bare_app, dobutsu_app, with_rows}
use Rattle.dob_words.specs.Shapes.{first_app}
use Rattle.std.specs.Option.{option_or}
use Rattle.std.proofs.lemmas.List.Folds.{list_any-append}
use Rattle.clap.specs.declared.builder.Command.{Command}
use Rattle.dob_words.specs.Forms.{Row, first_rows, last_rows, later_rows, middle_rows}

-- something is found in one of two lists where it is found in both of them together
found_in_either : {X Y : Type 0} (p : Y → Bool) (xs ys : List Y) (a b : Option X) → is_some a ≡ list_any p xs → is_some b ≡ list_any p ys
    → is_some (option_or a b) ≡ list_any p (xs ++ ys)
found_in_either p xs ys (Some x) b first second = grind (arith, list_any-append p xs ys)
found_in_either p xs ys None b first second = grind (arith, list_any-append p xs ys)

-- so it is with four
pub found_in_four : {X Y : Type 0} (p : Y → Bool) (ws xs ys zs : List Y) (a b c d : Option X) → is_some a ≡ list_any p ws → is_some b ≡ list_any p xs
    → is_some c ≡ list_any p ys → is_some d ≡ list_any p zs
    → is_some (option_or (option_or (option_or a b) c) d) ≡ list_any p (((ws ++ xs) ++ ys) ++ zs)
found_in_four p ws xs ys zs a b c d first second third fourth =
    let two = found_in_either p ws xs a b first second in
    let three = found_in_either p (ws ++ xs) ys (option_or a b) c two third in
    found_in_either p ((ws ++ xs) ++ ys) zs (option_or (option_or a b) c) d three fourth

-- the program's command has the subcommands of all rows
pub program_of : (profiles : ProfileNames) (ys zs : List Row) (c : Command) → ys ≡ later_rows → zs ≡ last_rows
    → HasCommandShape (with_rows profiles (with_rows profiles (first_app profiles) ys) zs) c → HasCommandShape (dobutsu_app profiles) c
program_of profiles ys zs c third fourth shape = rw (third, fourth) at shape

-- and before them those of the first ones
pub first_of : (profiles : ProfileNames) (ws xs : List Row) (c : Command) → ws ≡ first_rows → xs ≡ middle_rows
    → HasCommandShape (with_rows profiles (with_rows profiles bare_app ws) xs) c → HasCommandShape (first_app profiles) c
first_of profiles ws xs c first second shape = rw (first, second) at shape
