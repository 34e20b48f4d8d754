-- The place that is answered where reading stops and no sign counts.
use Rattle.std.specs.Prelude.{ℕ, suc, ◌+◌, ◌-◌, Bool, ◌||◌, ◌&&◌, true, false, List, [], ◌∷◌, length, drop, nat_eq, nat_lt, if◌then◌else◌}
use Rattle.std.specs.Str.{bytes_eq}
use Rattle.yaml_scalars.specs.declared.scalar.ScalarRefusal.{ScalarRefusal}
use Rattle.yaml_scalars.specs.declared.scalar.ScalarRefusal.TheVariants as refusal
use Rattle.yaml_scalars.specs.Lines.{begins_with, is_white, lead}
use Rattle.yaml_scalars.specs.Block.{same, widest}
use Rattle.yaml_scalars.specs.code.Walk.{has_break, line_at}
use Rattle.yaml_grammar.specs.declared.ahead.Ahead.{Ahead}
use Rattle.yaml_grammar.specs.declared.ahead.Token.{Token}
use Rattle.yaml_grammar.specs.declared.ahead.Token.TheVariants.{Stray}
use Rattle.yaml_grammar.specs.declared.stop.Stop.{Stop}
use Rattle.yaml_grammar.specs.declared.stop.Stop.TheVariants as stop
use Rattle.yaml_grammar.specs.Ahead.{is_name}
use Rattle.yaml_grammar.specs.code.AheadSeen.{first_return}
use Rattle.yaml_grammar.specs.code.Steps.{is_dash, is_ending}

-- whether a token is a stray carriage return, or a comment that has one
abbrev pub is_stray : Token → Bool
is_stray Stray = true
is_stray _ = false

-- so many bytes of a mark, of which the first stands in front of some bytes; behind three of them a carriage return too
abbrev pub run_width : ℕ → List ℕ → ℕ
run_width n bs = if nat_eq n 3 && begins_with 13 (drop 2 bs) then 4 else n

-- how many bytes from a token's first one stand before one that shows what it is: behind `!` those of a name, of a mark's bytes
-- as many as there are, behind a colon and a carriage return one
abbrev pub byte_width : ℕ → List ℕ → ℕ
byte_width b bs =
    if nat_eq b 33 then suc (lead is_name (line_at bs)) else (if nat_eq b 45 || nat_eq b 46 then run_width (suc (same b 2 bs)) bs else (if nat_eq b 58 || nat_eq b 13 then 1 else 0))

abbrev pub token_width : List ℕ → ℕ
token_width [] = 0
token_width (b ∷ bs) = byte_width b bs

-- a stray carriage return is looked for behind white space, or in a comment
abbrev pub is_hidden : Ahead → Bool
is_hidden a = is_stray a.token && (a.fresh || nat_lt 0 a.column)

abbrev pub width : Ahead → List ℕ → ℕ
width a bytes = if is_hidden a then first_return bytes else token_width bytes

-- a place, behind a carriage return the next one, or the text's length
abbrev pub past_return : List ℕ → ℕ → ℕ
past_return text p = let q : ℕ = if begins_with 13 (drop p text) then suc p else p in if nat_lt q (length text) then q else length text

-- a place at which a text shows what it has ahead, or its length
abbrev pub told_place : List ℕ → Ahead → ℕ
told_place text a = if is_ending a.token then length text else past_return text (a.at + width a (drop a.at text))

-- a place, or that of the text's last byte where it is the length
abbrev pub within : List ℕ → ℕ → ℕ
within text q = if nat_lt q (length text) then q else length text - 1

abbrev pub last_told : List ℕ → Ahead → ℕ
last_told text a = within text (told_place text a)

-- between brackets, where nothing is ahead, the first of the two
abbrev pub flow_place : List ℕ → Ahead → ℕ
flow_place text a = if is_ending a.token then told_place text a else last_told text a

-- where a `-` ends the text, its length
abbrev pub dash_place : List ℕ → Ahead → ℕ
dash_place text a = if is_dash a.token && nat_eq a.behind (length text) then length text else last_told text a

-- where the text ends in one or two dots that begin a line, its length
abbrev pub ends_in_dots : List ℕ → Ahead → Bool
ends_in_dots text a = nat_eq a.column 0 && (bytes_eq (drop a.at text) (46 ∷ []) || bytes_eq (drop a.at text) (46 ∷ 46 ∷ []))

abbrev pub root_place : List ℕ → Ahead → ℕ
root_place text a = if ends_in_dots text a then length text else last_told text a

-- where a scalar fails at a token: the place where it does, and not before one that shows what is ahead; the text's length where
-- it does at the text's end
abbrev pub failed_place : List ℕ → Ahead → ℕ → ℕ
failed_place text a r = if nat_lt r (length text) then within text (past_return text (widest (a.at + width a (drop a.at text)) r)) else length text

abbrev pub refused_place : List ℕ → Ahead → ScalarRefusal → ℕ
refused_place text a (refusal.Syntax at) = failed_place text a at
refused_place text a refusal.NoMemory = length text
refused_place text a (refusal.ManyDocuments at) = length text

-- where the text ends in a `-` on a line below the one of `|` or `>` at a token, the place of that byte for its length
abbrev pub ends_in_dash : List ℕ → Ahead → Bool
ends_in_dash text a = (begins_with 124 (drop a.at text) || begins_with 62 (drop a.at text)) && (begins_with 45 (drop (length text - 1) text) && has_break (drop a.at text))

abbrev pub torn_place : List ℕ → Ahead → ℕ → ℕ
torn_place text a q = if nat_eq q (length text) && ends_in_dash text a then length text - 1 else q

abbrev pub torn_stop : List ℕ → Ahead → Stop → Stop
torn_stop text a (stop.Unread q) = stop.Unread (torn_place text a q)
torn_stop text a e = e

-- behind a key that no colon follows: the first byte that is no white space, the line's end among them; behind `:` the next
abbrev pub colon_place : List ℕ → ℕ → ℕ
colon_place text e = let p : ℕ = e + lead is_white (line_at (drop e text)) in past_return text (if begins_with 58 (drop p text) then suc p else p)
