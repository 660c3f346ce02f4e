-- Answers as JSON: an object on a line, with its fields in this order. None of their texts needs an escape: a position's text and a move's have letters,
-- digits, spaces and signs, and no quote and no backslash.
use Rattle.std.specs.Prelude.{ℕ, Bool, true, false, not, List, [], ◌∷◌, ◌++◌, codes}
use Rattle.std.specs.Fmt.{decimal}
use Rattle.dob_pieces.specs.declared.kind.HandKind.{HandKind}
use Rattle.dob_pieces.specs.declared.kind.Kind.{Kind}
use Rattle.dob_pieces.specs.declared.kind.Kind.TheVariants.{Lion, Giraffe, Elephant, Chick, Hen}
use Rattle.dob_pieces.specs.declared.setup.Setup.{Setup}
use Rattle.dob_pieces.specs.Bytes.{line_feed}
use Rattle.dob_pieces.specs.Pieces.{kind_on_board}
use Rattle.dob_text.specs.MoveText.{move_text, seen, square_text}
use Rattle.dob_text.specs.PositionText.{text_of}
use Rattle.dob_moves.specs.declared.game_move.Move.{Move}
use Rattle.dob_moves.specs.declared.game_move.Move.TheVariants.{Put, Step}
use Rattle.dob_distance.specs.declared.value.Value.{Value}
use Rattle.dob_distance.specs.declared.value.Value.TheVariants.{Draw, Loss, Win}
use Rattle.dob_probe.specs.declared.by_value.ValuedMove.{ValuedMove}

-- a comma where more follows
abbrev pub comma_before : {A : Type 0} → List A → List ℕ
comma_before [] = []
comma_before (x ∷ more) = codes ","

-- ---- fields
abbrev pub position_field : Setup → List ℕ
position_field position = codes "\"position\":\"" ++ (text_of position ++ codes "\"")

-- a draw has no plies
abbrev pub value_fields : Value → List ℕ
value_fields (Win plies) = codes "\"value\":\"win\",\"plies\":" ++ decimal plies
value_fields (Loss plies) = codes "\"value\":\"loss\",\"plies\":" ++ decimal plies
value_fields Draw = codes "\"value\":\"draw\",\"plies\":null"

abbrev pub valued_fields : Setup → Value → List ℕ
valued_fields position value = position_field position ++ (codes "," ++ value_fields value)

abbrev pub kind_name : Kind → List ℕ
kind_name Lion = codes "lion"
kind_name Giraffe = codes "giraffe"
kind_name Elephant = codes "elephant"
kind_name Chick = codes "chick"
kind_name Hen = codes "hen"

abbrev pub truth : Bool → List ℕ
truth true = codes "true"
truth false = codes "false"

-- the fields of a move behind its text: its kind as it was before it, the squares as the text has them, and whether it catches; a drop leaves no square
abbrev pub step_fields : List ℕ → Kind → List ℕ → List ℕ → Bool → List ℕ
step_fields text kind from to catch =
    codes "\"move\":\"" ++ (text ++ (codes "\",\"kind\":\"" ++ (kind_name kind ++ (codes "\",\"from\":" ++ (from ++ (codes ",\"to\":\"" ++ (to
    ++ (codes "\",\"catch\":" ++ truth catch))))))))

abbrev pub put_fields : List ℕ → HandKind → ℕ → List ℕ
put_fields text kind to = step_fields text (kind_on_board kind) (codes "null") (square_text to) false

abbrev pub move_fields : Move → Bool → List ℕ
move_fields (Step kind from to catch grows) second =
    step_fields (move_text (Step kind from to catch grows) second) kind (codes "\"" ++ (square_text (seen second from) ++ codes "\""))
    (square_text (seen second to)) catch
move_fields (Put kind to) second = put_fields (move_text (Put kind to) second) kind (seen second to)

-- ---- objects
abbrev pub valued_object : ValuedMove → List ℕ
valued_object valued = codes "{" ++ (move_fields valued.played false ++ (codes "," ++ (value_fields valued.value ++ codes "}")))

abbrev pub valued_objects : List ValuedMove → List ℕ
valued_objects [] = []
valued_objects (valued ∷ more) = (valued_object valued ++ comma_before more) ++ valued_objects more

-- the moves in turn, whose sides alternate
abbrev pub played_objects : Bool → List Move → List ℕ
played_objects second [] = []
played_objects second (move ∷ more) = ((codes "{" ++ (move_fields move second ++ codes "}")) ++ comma_before more) ++ played_objects (not second) more

-- ---- lines

-- a position and its value
abbrev pub value_object : Setup → Value → List ℕ
value_object position value = codes "{" ++ (valued_fields position value ++ (codes "}" ++ line_feed ∷ []))

-- a position and its moves with their values
abbrev pub moves_object : Setup → List ValuedMove → List ℕ
moves_object position moves =
    codes "{" ++ (position_field position ++ (codes ",\"moves\":[" ++ (valued_objects moves ++ (codes "]}" ++ line_feed ∷ []))))

-- a position, its value and the moves of its line
abbrev pub line_object : Setup → Value → List Move → List ℕ
line_object position value moves =
    codes "{" ++ (valued_fields position value ++ (codes ",\"moves\":[" ++ (played_objects false moves ++ (codes "]}" ++ line_feed ∷ []))))

-- a value and how many classes have it
abbrev pub count_object : Value → ℕ → List ℕ
count_object value classes = codes "{" ++ (value_fields value ++ (codes ",\"classes\":" ++ (decimal classes ++ (codes "}" ++ line_feed ∷ []))))
