-- Quoted scalars, YAML 1.2.2, sections 7.3.1 and 7.3.2, over lines.
use Rattle.std.specs.Prelude.{ℕ, zero, suc, ◌+◌, ◌-◌, ◌*◌, Bool, true, false, ◌||◌, ◌&&◌, not, List, [], ◌∷◌, ◌++◌, Option, Some, None, length, take, drop, nat_eq, nat_lt, nat_le, encode_utf8, if◌then◌else◌}
use Rattle.yaml_scalars.specs.declared.escape.Wanted.{Wanted}
use Rattle.yaml_scalars.specs.declared.escape.Wanted.TheVariants.{Character, FirstUnit, SecondUnit}
use Rattle.yaml_scalars.specs.Lines.{Line, Outcome, Stands, Fails, Documents, begins_with, is_white, is_blank, lead, past_white, is_mark, is_cut_mark, newlines, fold}

-- what a byte of a quoted scalar is, by the bytes behind it on its line: itself; the closing quote; with so many bytes behind it another text; a backslash at the line's end; a carriage return, so many bytes behind it; or no part of a scalar, as shows so many bytes behind it
pub data Piece : Type 0 where
  Itself : Piece
  Closes : Piece
  Means : (taken : ℕ) (text : List ℕ) → Piece
  Joins : Piece
  Returns : (behind : ℕ) → Piece
  Wrong : (behind : ℕ) → Piece

-- `ns-dec-digit` and `ns-hex-digit` (36): 0 to 9, A to F, a to f
abbrev pub is_hex : ℕ → Bool
is_hex b = (nat_le 48 b && nat_le b 57) || (nat_le 65 b && nat_le b 70) || (nat_le 97 b && nat_le b 102)

-- what a hexadecimal digit is worth
abbrev pub hex : ℕ → ℕ
hex b = if nat_le b 57 then b - 48 else (if nat_le b 70 then b - 55 else b - 87)

-- the number that so many hexadecimal digits spell, or how many bytes come before the one that shows that they spell none
pub data Digits : Type 0 where
  Number : (n : ℕ) → Digits
  Short : (count : ℕ) → Digits

-- Unicode, section 3.8: high surrogates are D800 to DBFF, low ones DC00 to DFFF
abbrev pub is_high : ℕ → Bool
is_high n = nat_le 55296 n && nat_lt n 56320

abbrev pub is_low : ℕ → Bool
is_low n = nat_le 56320 n && nat_lt n 57344

-- a surrogate or a number above 10FFFF is no character
abbrev pub is_character : ℕ → Bool
is_character n = not (is_high n || is_low n || nat_lt 1114111 n)

-- the least and the greatest number that so many more digits make of one
abbrev pub least : ℕ → ℕ → ℕ
least zero n = n
least (suc k) n = least k (n * 16)

abbrev pub greatest : ℕ → ℕ → ℕ
greatest zero n = n
greatest (suc k) n = greatest k (n * 16 + 15)

-- whether so many more digits make of a number one that is wanted: a character, a unit that is no low surrogate, or a low surrogate. If any of these numbers is wanted, so is the least of them, and of low surrogates the greatest.
abbrev pub may_go_on : Wanted → ℕ → ℕ → Bool
may_go_on Character k n = is_character (least k n)
may_go_on FirstUnit k n = not (is_low (least k n))
may_go_on SecondUnit k n = is_low (greatest k n)

abbrev pub digits : Wanted → ℕ → ℕ → ℕ → List ℕ → Digits
digits w zero n count bs = Number n
digits w (suc k) n count [] = Short count
digits w (suc k) n count (b ∷ bs) = if is_hex b && may_go_on w k (n * 16 + hex b) then digits w k (n * 16 + hex b) (suc count) bs else Short count

-- `ns-esc-8-bit` (59) and `ns-esc-32-bit` (61): x with two digits, U with eight
abbrev pub of_digits : ℕ → Digits → Piece
of_digits taken (Number n) = Means taken (encode_utf8 n)
of_digits taken (Short count) = Wrong (suc count)

-- the second of two surrogates, which together spell one character (Unicode, section 3.8)
abbrev pub of_low : ℕ → Digits → Piece
of_low high (Number n) = Means 11 (encode_utf8 (65536 + (high - 55296) * 1024 + (n - 56320)))
of_low high (Short count) = Wrong (suc count)

-- behind a high surrogate stands the escape of a low one at once
abbrev pub of_pair : ℕ → List ℕ → Piece
of_pair high (v ∷ w ∷ bs) = if nat_eq v 92 then (if nat_eq w 117 then of_low high (digits SecondUnit 4 0 7 bs) else Wrong 7) else Wrong 6
of_pair high (v ∷ []) = if nat_eq v 92 then Wrong 7 else Wrong 6
of_pair high [] = Wrong 6

-- `ns-esc-16-bit` (60): u with four digits
abbrev pub of_unit : Digits → List ℕ → Piece
of_unit (Number n) behind = if is_high n then of_pair n behind else Means 5 (encode_utf8 n)
of_unit (Short count) behind = Wrong (suc count)

-- `c-ns-esc-char` (62): the letters behind a backslash, and the character that each stands for
abbrev pub letter : ℕ → Option ℕ
letter b =
    if nat_eq b 48 then Some 0 else
    (if nat_eq b 97 then Some 7 else
    (if nat_eq b 98 then Some 8 else
    (if nat_eq b 116 || nat_eq b 9 then Some 9 else
    (if nat_eq b 110 then Some 10 else
    (if nat_eq b 118 then Some 11 else
    (if nat_eq b 102 then Some 12 else
    (if nat_eq b 114 then Some 13 else
    (if nat_eq b 101 then Some 27 else
    (if nat_eq b 32 then Some 32 else
    (if nat_eq b 34 then Some 34 else
    (if nat_eq b 47 then Some 47 else
    (if nat_eq b 92 then Some 92 else
    (if nat_eq b 78 then Some 133 else
    (if nat_eq b 95 then Some 160 else
    (if nat_eq b 76 then Some 8232 else
    (if nat_eq b 80 then Some 8233 else None))))))))))))))))

abbrev pub of_letter : Option ℕ → Piece
of_letter (Some n) = Means 1 (encode_utf8 n)
of_letter None = Wrong 1

-- an escape, behind its backslash
abbrev pub escape : List ℕ → Piece
escape [] = Joins
escape (b ∷ bs) =
    if nat_eq b 13 then Returns 1 else
    (if nat_eq b 120 then of_digits 3 (digits Character 2 0 1 bs) else
    (if nat_eq b 117 then of_unit (digits FirstUnit 4 0 1 bs) (drop 4 bs) else
    (if nat_eq b 85 then of_digits 9 (digits Character 8 0 1 bs) else of_letter (letter b))))

-- `nb-double-char` (107): all but the quote and the backslash stands for itself
abbrev pub double : ℕ → List ℕ → Piece
double b bs = if nat_eq b 34 then Closes else (if nat_eq b 92 then escape bs else Itself)

-- `nb-single-char` (118): all but the quote stands for itself, and two quotes for one
abbrev pub single : ℕ → List ℕ → Piece
single b bs = if nat_eq b 39 then (if begins_with 39 bs then Means 1 (39 ∷ []) else Closes) else Itself

abbrev pub piece : ℕ → ℕ → List ℕ → Piece
piece quote b bs = if nat_eq b 13 then Returns 0 else (if nat_eq quote 34 then double b bs else single b bs)

-- what a line adds to a quoted scalar, which has a text then: the rest of it, with the place behind the closing quote; all of the line; all up to a backslash at its end; or nothing, with the place of a carriage return, or of what is no part of a scalar
pub data Part : Type 0 where
  Closed : (text : List ℕ) (end : ℕ) → Part
  Open : (text : List ℕ) → Part
  Joined : (text : List ℕ) → Part
  Returned : (at : ℕ) → Part
  Refused : (at : ℕ) → Part

-- a piece at a place behind a text: literal white space stays only if something follows it on the line. `next` goes on behind this byte and so many others.
abbrev pub add_piece : Piece → ℕ → ℕ → List ℕ → ℕ → (ℕ → List ℕ → ℕ → Part) → Part
add_piece Itself b at text kept next = if is_white b then next 0 (text ++ (b ∷ [])) kept else next 0 (text ++ (b ∷ [])) (suc (length text))
add_piece Closes b at text kept next = Closed text (suc at)
add_piece (Means taken t) b at text kept next = next taken (text ++ t) (length (text ++ t))
add_piece Joins b at text kept next = Joined text
add_piece (Returns n) b at text kept next = Returned (at + n)
add_piece (Wrong n) b at text kept next = Refused (at + n)

-- a line's bytes from a place on, behind so many to be passed over, with the text so far and how many bytes of it stay if the line ends here
abbrev pub line_part : ℕ → ℕ → ℕ → List ℕ → ℕ → List ℕ → Part
line_part quote at skip text kept [] = Open (take kept text)
line_part quote at (suc n) text kept (b ∷ bs) = line_part quote (suc at) n text kept bs
line_part quote at zero text kept (b ∷ bs) = add_piece (piece quote b bs) b at text kept (λ n t k. line_part quote (suc at) n t k bs)

-- the breaks between two lines, with k blank ones between them: behind a backslash only the blank lines count
abbrev pub gap : Bool → ℕ → List ℕ
gap true k = newlines k
gap false k = fold k

-- behind a line: a carriage return shows its fault in the byte behind it, where a line feed could stand
abbrev pub behind_part : Part → (Bool → List ℕ → Outcome) → Outcome
behind_part (Closed text end) next = Stands text end
behind_part (Open text) next = next false text
behind_part (Joined text) next = next true text
behind_part (Returned at) next = Fails (suc at)
behind_part (Refused at) next = Fails at

-- the lines below the first; a text that ends here is too short. Behind the bytes of a mark no break could stand, so a carriage return there shows its fault itself.
abbrev pub quoted_more : ℕ → ℕ → List Line → List ℕ → Bool → ℕ → Outcome
quoted_more quote size [] text joined k = Fails size
quoted_more quote size (l ∷ ls) text joined k =
    if is_mark l.bytes && (l.broken || nat_lt 3 (length l.bytes)) then Documents l.at else
    (if is_cut_mark l.bytes then Fails (l.at + 3) else
    (if is_blank l.bytes then quoted_more quote size ls text joined (suc k) else
    behind_part (line_part quote (l.at + lead is_white l.bytes) 0 (text ++ gap joined k) (length (text ++ gap joined k)) (past_white l.bytes)) (λ j t. quoted_more quote size ls t j 0)))

-- a key ends on its line: no break may stand in it
abbrev pub key_part : Part → ℕ → Outcome
key_part (Closed text end) over = Stands text end
key_part (Open text) over = Fails over
key_part (Joined text) over = Fails over
key_part (Returned at) over = Fails at
key_part (Refused at) over = Fails at

-- the quoted scalar where these lines begin, in a text of a length
abbrev pub quoted_on : Bool → ℕ → List Line → Outcome
quoted_on one_line size [] = Fails size
quoted_on one_line size (l ∷ ls) =
    let quote : ℕ = if begins_with 34 l.bytes then 34 else 39 in
    let part : Part = line_part quote (suc l.at) 0 [] 0 (drop 1 l.bytes) in
    if one_line then key_part part (l.at + length l.bytes) else behind_part part (λ j t. quoted_more quote size ls t j 0)
