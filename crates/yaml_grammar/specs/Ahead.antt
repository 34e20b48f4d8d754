-- What a place has ahead, behind white space, comments and breaks. Sections and productions are those of YAML 1.2.2. Places are byte offsets.
use Rattle.std.specs.Prelude.{ℕ, suc, ◌+◌, Bool, true, false, ◌||◌, ◌&&◌, not, List, [], ◌∷◌, length, drop, nat_eq, nat_lt, nat_le, if◌then◌else◌}
use Rattle.yaml_scalars.specs.Lines.{Line, lines, begins_with, is_white, lead, is_blank, indent, past_white, is_end, is_mark}
use Rattle.yaml_scalars.specs.Plain.{is_unsafe}
use Rattle.yaml_scalars.specs.Scalar.{is_first_column}
use Rattle.yaml_grammar.specs.declared.ahead.Ahead.{Ahead}
use Rattle.yaml_grammar.specs.declared.ahead.Token.{Token}
use Rattle.yaml_grammar.specs.declared.ahead.Token.TheVariants.{End, Dashes, Dots, Dash, Tag, NoTag, Opens, Closes, Comma, Point, Anchor, Percent, Tabbed, Stray, Other}

-- a carriage return that is in no break stands on the line
abbrev pub has_return : List ℕ → Bool
has_return [] = false
has_return (b ∷ bs) = nat_eq b 13 || has_return bs

-- section 6.9.1, a local tag: `!`, a letter and then letters and digits; any other `!` opens none
abbrev pub is_letter : ℕ → Bool
is_letter b = (nat_le 65 b && nat_lt b 91) || (nat_le 97 b && nat_lt b 123)

abbrev pub is_name : ℕ → Bool
is_name b = is_letter b || (nat_le 48 b && nat_lt b 58)

abbrev pub begins_letter : List ℕ → Bool
begins_letter [] = false
begins_letter (b ∷ bs) = is_letter b

-- behind its name white space or the line's end, in flow also one of , ] }
abbrev pub ends_tag : Bool → List ℕ → Bool
ends_tag flow bytes = is_end bytes || (flow && (begins_with 44 bytes || (begins_with 93 bytes || begins_with 125 bytes)))

abbrev pub tag_token : Bool → List ℕ → Token
tag_token flow bytes = if begins_letter bytes && ends_tag flow (drop (lead is_name bytes) bytes) then Tag (lead is_name bytes) else NoTag

-- section 5.3: `&`, `*` and `%` begin nothing that is read, and behind a `#` and at a carriage return there is no content
abbrev pub other_token : ℕ → Token
other_token b = if nat_eq b 38 || nat_eq b 42 then Anchor else (if nat_eq b 37 then Percent else (if nat_eq b 35 || nat_eq b 13 then Stray else Other))

-- chapter 8.2: outside of flow, `-` and `:` are tokens before white space or the line's end
abbrev pub block_token : ℕ → List ℕ → Token
block_token b bs = if nat_eq b 45 && is_end bs then Dash else (if nat_eq b 58 && is_end bs then Point true else (if nat_eq b 33 then tag_token false bs else other_token b))

-- section 7.4: [ ] { } , and : are tokens of flow collections, which their brackets open outside of flow too
abbrev pub token_of : Bool → List ℕ → Token
token_of flow [] = Other
token_of flow (b ∷ bs) =
    if nat_eq b 91 then Opens false else
    (if nat_eq b 123 then Opens true else
    (if not flow then block_token b bs else
    (if nat_eq b 93 then Closes false else
    (if nat_eq b 125 then Closes true else
    (if nat_eq b 44 then Comma else
    (if nat_eq b 58 then Point (is_unsafe true bs) else
    (if nat_eq b 33 then tag_token true bs else other_token b)))))))

-- how many bytes a token takes; those of a scalar are not told here
abbrev pub token_len : Token → ℕ
token_len End = 0
token_len Dashes = 3
token_len Dots = 3
token_len Dash = 1
token_len (Tag len) = suc len
token_len NoTag = 0
token_len (Opens map) = 1
token_len (Closes map) = 1
token_len Comma = 1
token_len (Point loose) = 1
token_len Anchor = 0
token_len Percent = 0
token_len Tabbed = 0
token_len Stray = 0
token_len Other = 0

-- a token at a place. It has a column where it begins a line; else so much white space stands before it.
abbrev pub token_at : Token → Bool → ℕ → ℕ → Ahead
token_at token fresh column at = record { token = token; fresh = fresh; column = column; at = at; behind = at + token_len token }

-- `c-directives-end` (203) or `c-document-end` (204), told by its first byte
abbrev pub mark_of : List ℕ → Token
mark_of bytes = if begins_with 45 bytes then Dashes else Dots

-- `s-l-comments` (79): a blank line, or a comment; at the line's start or behind white space. A carriage return stands in neither.
abbrev pub is_passed : Bool → List ℕ → Bool
is_passed fresh bytes = is_blank bytes || ((fresh || nat_lt 0 (lead is_white bytes)) && (begins_with 35 (past_white bytes) && not (has_return bytes)))

-- section 6.1: outside of flow, a tab stands in the white space before the content
abbrev pub is_tabbed : Bool → List ℕ → Bool
is_tabbed flow bytes = not flow && nat_lt (indent bytes) (lead is_white bytes)

-- a tab there stands in front of content, unless behind it a comment or white space has a carriage return
abbrev pub tab_token : List ℕ → Token
tab_token bytes = if begins_with 35 bytes || begins_with 13 bytes then Stray else Tabbed

-- what a line has behind the white space in front; there is no content behind a tab
abbrev pub content_ahead : Bool → ℕ → List ℕ → Ahead
content_ahead flow at bytes =
    if is_tabbed flow bytes then token_at (tab_token (past_white bytes)) true (indent bytes) (at + indent bytes) else token_at (token_of flow (past_white bytes)) true (lead is_white bytes) (at + lead is_white bytes)

-- the first of the lines that is neither blank nor a comment
abbrev pub line_ahead : Bool → ℕ → List Line → Ahead
line_ahead flow size [] = token_at End true 0 size
line_ahead flow size (l ∷ ls) =
    if is_mark l.bytes then token_at (mark_of l.bytes) true 0 l.at else
    (if is_passed true l.bytes then line_ahead flow size ls else content_ahead flow l.at l.bytes)

-- from a place inside a line
abbrev pub rest_ahead : Bool → ℕ → List Line → Ahead
rest_ahead flow size [] = token_at End true 0 size
rest_ahead flow size (l ∷ ls) =
    if is_passed false l.bytes then line_ahead flow size ls else token_at (token_of flow (past_white l.bytes)) false (lead is_white l.bytes) (l.at + lead is_white l.bytes)

-- what a place of a text has ahead, in flow or outside of it
abbrev pub ahead : List ℕ → Bool → ℕ → Ahead
ahead text flow i = if is_first_column text i then line_ahead flow (length text) (lines i (drop i text)) else rest_ahead flow (length text) (lines i (drop i text))
