-- How far a text is looked at for what a place has ahead.
use Rattle.std.specs.Prelude.{ℕ, suc, ◌+◌, Bool, ◌||◌, ◌&&◌, true, false, List, [], ◌∷◌, length, drop, nat_eq, nat_lt, if◌then◌else◌}
use Rattle.yaml_scalars.specs.Lines.{Line, lines, begins_with, is_white, lead, past_white, is_mark}
use Rattle.yaml_scalars.specs.Block.{shown, widest}
use Rattle.yaml_scalars.specs.Scalar.{is_first_column}
use Rattle.yaml_grammar.specs.declared.ahead.Token.{Token}
use Rattle.yaml_grammar.specs.declared.ahead.Token.TheVariants.{End, Dashes, Dots, Tabbed, Stray}
use Rattle.yaml_grammar.specs.Ahead.{is_name, is_passed}

-- how many bytes from a token's first one stand before the one that shows what token it is: behind `!` those of a name, behind
-- `-`, a colon and a carriage return that one
abbrev pub token_shown : List ℕ → ℕ
token_shown [] = 0
token_shown (b ∷ bs) = if nat_eq b 33 then suc (lead is_name bs) else (if nat_eq b 45 || (nat_eq b 58 || nat_eq b 13) then 1 else 0)

-- how many bytes there are up to the first carriage return and with it
abbrev pub first_return : List ℕ → ℕ
first_return [] = 0
first_return (b ∷ bs) = if nat_eq b 13 then 1 else suc (first_return bs)

-- the same of a line that is not passed over: its first token, or in a comment the byte behind a carriage return
abbrev pub content_shown : Bool → List ℕ → ℕ
content_shown fresh bytes = if (fresh || nat_lt 0 (lead is_white bytes)) && begins_with 35 (past_white bytes) then first_return bytes else lead is_white bytes + token_shown (past_white bytes)

-- the place of that byte, in the first of the lines that is neither blank nor a comment, or the text's length
abbrev pub line_seen : ℕ → List Line → ℕ
line_seen size [] = size
line_seen size (l ∷ ls) = if is_mark l.bytes then l.at + 4 else (if is_passed true l.bytes then line_seen size ls else l.at + widest (shown l.bytes) (content_shown true l.bytes))

abbrev pub rest_seen : ℕ → List Line → ℕ
rest_seen size [] = size
rest_seen size (l ∷ ls) = if is_passed false l.bytes then line_seen size ls else l.at + content_shown false l.bytes

abbrev pub ahead_seen : List ℕ → ℕ → ℕ
ahead_seen text i = if is_first_column text i then line_seen (length text) (lines i (drop i text)) else rest_seen (length text) (lines i (drop i text))

-- whether a token is told by the bytes at its place: it is not the text's end and no line `---` or `...`, and no tab and no
-- stray carriage return stands there
abbrev pub is_told : Token → Bool
is_told End = false
is_told Dashes = false
is_told Dots = false
is_told Tabbed = false
is_told Stray = false
is_told _ = true
