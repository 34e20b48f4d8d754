-- The generated rules as tokens, each with the white space in front of it; and when their texts can be written.
use Rattle.std.specs.Prelude.{◌≡◌, ℕ, suc, false, List, [], ◌∷◌, ◌++◌, codes, decimal}
use Rattle.doc_values.specs.Tree.{Forest}
use Rattle.decimals.specs.declared.decimal.Num.TheVariants as num
use Rattle.doc_values.specs.declared.kind.Kind.{Kind}
use Rattle.doc_values.specs.declared.kind.Kind.TheVariants as kind
use Rattle.guard_lexer.specs.declared.token.Mark.TheVariants as m
use Rattle.rule_meaning.specs.Functions.{truth_text}
use Rattle.rule_meaning.specs.Values.{Value}
use Rattle.rule_spelling.specs.Spelling.{ends_in_backslash}
use Rattle.rule_spelling.specs.code.Pieces.{Piece, IsInRange}
use Rattle.rule_spelling.specs.code.Tokens.{space, name, variable, str, pattern, number, mark}
use Rattle.rule_generator.specs.GeneratedRules.{KeptKey, TypeRule, rules_of}

abbrev pub new_line : List ℕ
new_line = codes "\n"

-- `t` and a number
abbrev pub numbered : ℕ → List ℕ
numbered n = codes "t" ++ decimal n

abbrev pub scalar_piece : List ℕ → Kind → List ℕ → List Piece → List Piece
scalar_piece gap kind.Text text rest = str gap text rest
scalar_piece gap kind.Pattern text rest = pattern gap text rest
scalar_piece gap (kind.Whole n) text rest = number gap (num.Whole n) rest
scalar_piece gap (kind.Fraction d) text rest = number gap (num.Fraction d) rest
scalar_piece gap (kind.Truth b) text rest = name gap (truth_text b) rest
scalar_piece gap _ text rest = name gap (codes "null") rest

abbrev pub more_values : List Value → List Piece → List Piece
more_values [] rest = rest
more_values (v ∷ vs) rest = mark [] m.Comma (scalar_piece space v.kind v.text (more_values vs rest))

-- joined by commas
abbrev pub value_pieces : List Value → List Piece → List Piece
value_pieces [] rest = rest
value_pieces (v ∷ vs) rest = scalar_piece [] v.kind v.text (more_values vs rest)

abbrev pub let_pieces : List ℕ → ℕ → List ℕ → List Piece → List Piece
let_pieces gap n type rest =
    name gap (codes "let") (name space (numbered n) (mark space m.Equals (name space (codes "Resources") (mark [] m.Dot (mark [] m.Star (mark [] m.LBracket
    (name space (codes "Type") (mark space m.Same (str space type (mark space m.RBracket rest))))))))))

abbrev pub head_pieces : ℕ → List Piece → List Piece
head_pieces n rest =
    name new_line (codes "rule") (name space (numbered n) (name space (codes "when") (variable space (numbered n) (mark space m.Bang (name [] (codes "empty") (mark space m.LBrace rest))))))

abbrev pub key_pieces : ℕ → KeptKey → List Piece → List Piece
key_pieces n kept rest =
    variable (codes "\n  ") (numbered n) (mark [] m.Dot (name [] (codes "Properties") (mark [] m.Dot (str [] kept.key (name space (codes "IN") (mark space m.LBracket (value_pieces kept.values (mark [] m.RBracket rest))))))))

abbrev pub keys_pieces : ℕ → List KeptKey → List Piece → List Piece
keys_pieces n [] rest = rest
keys_pieces n (kept ∷ more) rest = key_pieces n kept (keys_pieces n more rest)

abbrev pub rule_pieces : List ℕ → ℕ → TypeRule → List Piece → List Piece
rule_pieces gap n rule rest = let_pieces gap n rule.type (head_pieces n (keys_pieces n rule.keys (mark new_line m.RBrace rest)))

-- numbered on
abbrev pub rules_pieces : List ℕ → ℕ → List TypeRule → List Piece
rules_pieces gap n [] = []
rules_pieces gap n (rule ∷ rules) = rule_pieces gap n rule (rules_pieces new_line (suc n) rules)

abbrev pub generated_pieces : Forest → List Piece
generated_pieces tree = rules_pieces [] 1 (rules_of tree)

-- ---- texts that can be written

abbrev pub IsWritable : Kind → List ℕ → Type 0
IsWritable kind.Text text = ends_in_backslash text ≡ false
IsWritable kind.Pattern text = ends_in_backslash text ≡ false
IsWritable (kind.Whole n) text = IsInRange (num.Whole n)
IsWritable (kind.Fraction d) text = IsInRange (num.Fraction d)
IsWritable _ text = Unit {0}

abbrev pub AreWritable : List Value → Type 0
AreWritable [] = Unit {0}
AreWritable (v ∷ vs) = IsWritable v.kind v.text × AreWritable vs

abbrev pub HaveKeys : List KeptKey → Type 0
HaveKeys [] = Unit {0}
HaveKeys (kept ∷ more) = (ends_in_backslash kept.key ≡ false) × AreWritable kept.values × HaveKeys more

abbrev pub HaveSpellings : List TypeRule → Type 0
HaveSpellings [] = Unit {0}
HaveSpellings (rule ∷ rules) = (ends_in_backslash rule.type ≡ false) × HaveKeys rule.keys × HaveSpellings rules
