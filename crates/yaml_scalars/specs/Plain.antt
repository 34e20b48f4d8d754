-- Plain scalars, YAML 1.2.2, section 7.3.3, over lines.
use Rattle.std.specs.Prelude.{ℕ, suc, ◌+◌, Bool, true, false, ◌||◌, ◌&&◌, not, List, [], ◌∷◌, ◌++◌, length, take, drop, nat_eq, nat_lt, ℤ, pos, negsuc, if◌then◌else◌}
use Rattle.yaml_scalars.specs.declared.scalar.Setting.{Setting}
use Rattle.yaml_scalars.specs.declared.plain_line.Why.{Why}
use Rattle.yaml_scalars.specs.declared.plain_line.Why.TheVariants.{Break, Return, Colon, Comment, Mark}
use Rattle.yaml_scalars.specs.declared.plain_line.Below.{Below}
use Rattle.yaml_scalars.specs.declared.plain_line.Below.TheVariants.{Blank, Outside, Further}
use Rattle.yaml_scalars.specs.Lines.{Line, Outcome, Stands, Fails, begins_with, ends_with, is_white, lead, is_blank, indent, past_white, trimmed, is_mark, is_cut_mark, fold}

-- the least indentation above the parent's, which is -1 at the top
abbrev pub above_of : ℤ → ℕ
above_of (pos n) = suc n
above_of (negsuc n) = 0

-- `c-flow-indicator` (23): , [ ] { }
abbrev pub is_flow_mark : ℕ → Bool
is_flow_mark b = nat_eq b 44 || nat_eq b 91 || nat_eq b 93 || nat_eq b 123 || nat_eq b 125

-- `c-indicator` (22) without - ? : : , [ ] { } # & * ! | > ' " % @ `
abbrev pub is_indicator : ℕ → Bool
is_indicator b = is_flow_mark b || nat_eq b 35 || nat_eq b 38 || nat_eq b 42 || nat_eq b 33 || nat_eq b 124 || nat_eq b 62 || nat_eq b 39 || nat_eq b 34 || nat_eq b 37 || nat_eq b 64 || nat_eq b 96

-- - ? :
abbrev pub is_doubtful : ℕ → Bool
is_doubtful b = nat_eq b 45 || nat_eq b 63 || nat_eq b 58

-- `ns-plain-safe` (127) is not ahead: white space, the line's end, or in flow one of its marks
abbrev pub is_unsafe : Bool → List ℕ → Bool
is_unsafe flow [] = true
is_unsafe flow (b ∷ bs) = is_white b || (flow && is_flow_mark b)

-- `ns-plain-first` (126): a plain scalar begins with no white space and no indicator, and with - ? : only before a byte that is safe. A carriage return is none: in a break it would end the line, and else no scalar has it.
abbrev pub begins_plain : Bool → List ℕ → Bool
begins_plain flow [] = false
begins_plain flow (b ∷ bs) = not (is_white b || is_indicator b || nat_eq b 13) && (not (is_doubtful b) || not (is_unsafe flow bs || begins_with 13 bs))

-- the place that shows that no plain scalar begins: the first byte, or behind - ? : the next one
abbrev pub wrong_begin : ℕ → List ℕ → ℕ
wrong_begin at [] = at
wrong_begin at (b ∷ bs) = if is_doubtful b then suc at else at

-- a plain scalar ends before this byte: `:` before what is not safe, `#` behind white space, in flow one of its marks. A carriage return is no content.
abbrev pub stops : Bool → Bool → ℕ → List ℕ → Bool
stops flow white b bs = (nat_eq b 58 && is_unsafe flow bs) || (nat_eq b 35 && white) || (flow && is_flow_mark b) || nat_eq b 13

-- how many bytes of a line stand before the first such byte
abbrev pub plain_len : Bool → Bool → List ℕ → ℕ
plain_len flow white [] = 0
plain_len flow white (b ∷ bs) = if stops flow white b bs then 0 else suc (plain_len flow (is_white b) bs)

-- what a line has of a plain scalar: these bytes without the white space at their end
abbrev pub content : Bool → List ℕ → List ℕ
content flow bytes = trimmed (take (plain_len flow false bytes) bytes)

-- why a plain scalar ends on its line
abbrev pub why : List ℕ → Why
why [] = Break
why (b ∷ bs) = if nat_eq b 13 then Return else (if nat_eq b 58 then Colon else (if nat_eq b 35 then Comment else Mark))

abbrev pub reason : Bool → List ℕ → Why
reason flow bytes = why (drop (plain_len flow false bytes) bytes)

-- a comment ends the scalar
abbrev pub content_at : ℕ → List ℕ → Below
content_at n bytes = if begins_with 35 bytes then Outside else Further n

-- in block the line is indented above the parent, with no tab in front; in flow with any white space
abbrev pub inside : Setting → List ℕ → Below
inside s bytes =
    if s.flow then content_at (lead is_white bytes) (past_white bytes) else
    (if nat_lt (indent bytes) (above_of s.parent) || begins_with 9 (drop (indent bytes) bytes) then Outside else content_at (indent bytes) (drop (indent bytes) bytes))

-- a line below a plain scalar: blank, outside of it, or one that it goes on over, whose content stands behind so many bytes
abbrev pub below : Setting → List ℕ → Below
below s bytes = if is_blank bytes then Blank else (if is_mark bytes then Outside else inside s bytes)

-- the text and the end with a further line's content, `part`, at a place
abbrev pub joined : Bool → List ℕ → List ℕ → ℕ → List ℕ
joined flow part text k = text ++ (fold k ++ content flow part)

abbrev pub content_end : Bool → List ℕ → ℕ → ℕ
content_end flow part at = at + length (content flow part)

-- in flow the scalar ends on a further line; one that begins with what ends it adds nothing
abbrev pub ends_on : Bool → List ℕ → ℕ → List ℕ → ℕ → ℕ → Outcome
ends_on flow part at text end k = if nat_eq (plain_len flow false part) 0 then Stands text end else Stands (joined flow part text k) (content_end flow part at)

-- the place behind what ends a further line's content
abbrev pub stop_behind : Bool → List ℕ → ℕ → ℕ
stop_behind flow part at = at + plain_len flow false part + 1

-- the place at which a carriage return shows that a further line fails: behind it, where a line feed could stand; but in block behind a `:`, where a break would make the line a key, at it
abbrev pub return_shown : Bool → List ℕ → ℕ → ℕ
return_shown flow part at = if not flow && ends_with 58 (take (plain_len flow false part) part) then at + plain_len flow false part else stop_behind flow part at

-- a further line: the scalar goes on behind it or ends on it. In block a `:` makes the line a key, which no plain scalar of several lines is.
abbrev pub joins : Bool → Why → List ℕ → ℕ → List ℕ → ℕ → ℕ → (List ℕ → ℕ → ℕ → Outcome) → Outcome
joins flow Break part at text end k next = next (joined flow part text k) (content_end flow part at) 0
joins flow Comment part at text end k next = Stands (joined flow part text k) (content_end flow part at)
joins flow Return part at text end k next = Fails (return_shown flow part at)
joins flow Colon part at text end k next = if flow then ends_on flow part at text end k else Fails (stop_behind flow part at)
joins flow Mark part at text end k next = ends_on flow part at text end k

abbrev pub further : Setting → Below → ℕ → List ℕ → List ℕ → ℕ → ℕ → (List ℕ → ℕ → ℕ → Outcome) → Outcome
further s Blank at bytes text end k next = next text end (suc k)
further s Outside at bytes text end k next = Stands text end
further s (Further n) at bytes text end k next = joins s.flow (reason s.flow (drop n bytes)) (drop n bytes) (at + n) text end k next

-- the scalar with a text and an end so far, over the lines below, behind k blank ones
abbrev pub more : Setting → List Line → List ℕ → ℕ → ℕ → Outcome
more s [] text end k = Stands text end
more s (l ∷ ls) text end k = further s (below s l.bytes) l.at l.bytes text end k (more s ls)

-- the first line of a scalar that begins there: behind its break it goes on, but for a key
abbrev pub first : Setting → Why → ℕ → List ℕ → List Line → Outcome
first s Break at bytes ls = if s.one_line then Stands (content s.flow bytes) (content_end s.flow bytes at) else more s ls (content s.flow bytes) (content_end s.flow bytes at) 0
first s Return at bytes ls = Fails (stop_behind s.flow bytes at)
first s Colon at bytes ls = Stands (content s.flow bytes) (content_end s.flow bytes at)
first s Comment at bytes ls = Stands (content s.flow bytes) (content_end s.flow bytes at)
first s Mark at bytes ls = Stands (content s.flow bytes) (content_end s.flow bytes at)

-- the plain scalar where these lines begin; `fresh` where that is a first column, at which no mark is a scalar, and a carriage return behind one makes none of it
abbrev pub plain_on : Setting → Bool → List Line → Outcome
plain_on s fresh [] = Fails 0
plain_on s fresh (l ∷ ls) =
    if fresh && (is_mark l.bytes || is_cut_mark l.bytes) then Fails (l.at + 3) else
    (if begins_plain s.flow l.bytes then first s (reason s.flow l.bytes) l.at l.bytes ls else Fails (wrong_begin l.at l.bytes))
