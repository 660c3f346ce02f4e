-- Commands that are made from rows of the table, one row more at a time.
use Rattle.std.proofs.Common.{◌≡◌, ◌∙◌, ◌<◌, ◌≤◌, ◌+◌, ℕ, Bool, List, [], ◌∷◌, ◌++◌, ◌||◌, ap, ap₂, sym, subst, map, take, length, append_assoc}
use Rattle.std.specs.Prelude.{get_or}
use Rattle.std.proofs.lemmas.List.{append-nil, map-append, take_more, take_all}
use Rattle.std.proofs.lemmas.List.Sums.{fold-append}
use Rattle.clap.specs.Words.{AddsArg, AddsSubcommand, App, Rule, with_rule, with_subcommand}
use Rattle.clap.specs.declared.builder.Arg.{Arg}
use Rattle.clap.specs.declared.builder.Command.{Command}
use Rattle.dob_words.specs.Forms.{Row}
use Rattle.dob_words.specs.Shapes.{HasCommandShape, IsRead, ProfileNames, row_app, with_rows, with_rules}

-- none so far
pub no_rules : (app : App) → with_rules app [] ≡ app
no_rules app = ap (λ (rs : List Rule). record app { top = record app.top { rules = rs } }) (append-nil app.top.rules)

-- a command with one more subcommand
pub subcommand_shape : (old sub new : Command) (a b : App) → HasCommandShape a old → HasCommandShape b sub → AddsSubcommand old sub new
    → HasCommandShape (with_subcommand a b.top) new
subcommand_shape old sub new a b first second adds =
    (adds.shape second.1 ∙ ap₂ (λ (x y : App). with_subcommand x y.top) first.0 second.0, adds.globals ∙ ap₂ (λ (x y : Bool). x || y) first.1 second.1)

-- a command with one more argument
pub argument_shape : (old : Command) (arg : Arg) (new : Command) (a : App) (r : Rule) → HasCommandShape a old → IsRead r arg → AddsArg old arg new
    → HasCommandShape (with_rule a r) new
argument_shape old arg new a r first read adds =
    (adds.shape read.1 ∙ ap₂ with_rule first.0 read.0, adds.globals ∙ ap₂ (λ (x y : Bool). x || y) first.1 read.1)

-- one more argument
pub rule_joins : {X Y : Type 0} (rule : Y → Rule) (said : X → Y) (xs : List X) (i : ℕ) (d : X) (app : App) (old new : Command) (arg : Arg) → i < length xs
    → HasCommandShape (with_rules app (map rule (map said (take i xs)))) old → IsRead (rule (said (get_or xs i d))) arg → AddsArg old arg new
    → HasCommandShape (with_rules app (map rule (map said (take (i + 1) xs)))) new
rule_joins rule said xs i d app old new arg low shape read adds =
    subst (λ (a : App). HasCommandShape a new) same (argument_shape old arg new (with_rules app (map rule (map said (take i xs)))) (rule (said (get_or xs i d))) shape read adds)
  where
    more : map rule (map said (take (i + 1) xs)) ≡ map rule (map said (take i xs)) ++ rule (said (get_or xs i d)) ∷ []
    more =
        ap (λ ys. map rule (map said ys)) (take_more xs i d low)
        ∙ (ap (map rule) (map-append said (take i xs) (get_or xs i d ∷ [])) ∙ map-append rule (map said (take i xs)) (said (get_or xs i d) ∷ []))

    same : with_rule (with_rules app (map rule (map said (take i xs)))) (rule (said (get_or xs i d))) ≡ with_rules app (map rule (map said (take (i + 1) xs)))
    same =
        ap (λ (rs : List Rule). record app { top = record app.top { rules = rs } })
        (append_assoc app.top.rules (map rule (map said (take i xs))) (rule (said (get_or xs i d)) ∷ [])
        ∙ ap (λ (rs : List Rule). app.top.rules ++ rs) (sym more))

-- all of them
pub rules_all : {X Y : Type 0} (rule : Y → Rule) (said : X → Y) (xs : List X) (i : ℕ) (app : App) (c : Command) → length xs ≤ i
    → HasCommandShape (with_rules app (map rule (map said (take i xs)))) c → HasCommandShape (with_rules app (map rule (map said xs))) c
rules_all rule said xs i app c far = subst (λ ys. HasCommandShape (with_rules app (map rule (map said ys))) c) (take_all i xs far)

-- none so far
pub rules_none : (app : App) (c : Command) → HasCommandShape app c → HasCommandShape (with_rules app []) c
rules_none app c = subst (λ (a : App). HasCommandShape a c) (sym (no_rules app))

-- one more subcommand
pub row_joins : {X : Type 0} (profiles : ProfileNames) (said : X → Row) (xs : List X) (i : ℕ) (d : X) (app : App) (old new sub : Command) → i < length xs
    → HasCommandShape (with_rows profiles app (map said (take i xs))) old → HasCommandShape (row_app profiles (said (get_or xs i d))) sub → AddsSubcommand old sub new
    → HasCommandShape (with_rows profiles app (map said (take (i + 1) xs))) new
row_joins profiles said xs i d app old new sub low first second adds =
    subst (λ (a : App). HasCommandShape a new) same
    (subcommand_shape old sub new (with_rows profiles app (map said (take i xs))) (row_app profiles (said (get_or xs i d))) first second adds)
  where
    more : map said (take (i + 1) xs) ≡ map said (take i xs) ++ said (get_or xs i d) ∷ []
    more = ap (map said) (take_more xs i d low) ∙ map-append said (take i xs) (get_or xs i d ∷ [])

    same : with_subcommand (with_rows profiles app (map said (take i xs))) (row_app profiles (said (get_or xs i d))).top
        ≡ with_rows profiles app (map said (take (i + 1) xs))
    same =
        sym (ap (with_rows profiles app) more
        ∙ fold-append (λ (a : App) (row : Row). with_subcommand a (row_app profiles row).top) app (map said (take i xs)) (said (get_or xs i d) ∷ []))

-- all of them
pub rows_all : {X : Type 0} (profiles : ProfileNames) (said : X → Row) (xs : List X) (i : ℕ) (app : App) (c : Command) → length xs ≤ i
    → HasCommandShape (with_rows profiles app (map said (take i xs))) c → HasCommandShape (with_rows profiles app (map said xs)) c
rows_all profiles said xs i app c far = subst (λ ys. HasCommandShape (with_rows profiles app (map said ys)) c) (take_all i xs far)
