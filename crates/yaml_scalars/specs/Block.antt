-- Block scalars, YAML 1.2.2, section 8.1, over lines.
use Rattle.std.specs.Prelude.{ℕ, zero, suc, ◌+◌, ◌-◌, Bool, true, false, ◌||◌, ◌&&◌, not, List, [], ◌∷◌, ◌++◌, Option, Some, None, length, drop, nat_eq, nat_lt, nat_le, ℤ, pos, negsuc, if◌then◌else◌}
use Rattle.yaml_scalars.specs.Lines.{Line, Outcome, Stands, Fails, begins_with, is_white, is_blank, indent, lead, is_mark, newlines, fold}
use Rattle.yaml_scalars.specs.Plain.{above_of}

-- section 8.1.1.2: what is kept of the breaks at the end: one, none or all
pub data Chomp : Type 0 where
  Clip : Chomp
  Strip : Chomp
  Keep : Chomp

-- section 8.1.1: a digit or none, how the end is chomped, and the rest of the line
pub record Header : Type 0 where
  pub digit : Option ℕ
  pub chomp : Chomp
  pub rest : List ℕ

abbrev pub is_digit : ℕ → Bool
is_digit b = nat_le 49 b && nat_le b 57

-- a sign, if it is ahead
abbrev pub with_sign : Header → List ℕ → Header
with_sign h [] = h
with_sign h (b ∷ bs) = if nat_eq b 45 then record { digit = h.digit; chomp = Strip; rest = bs } else (if nat_eq b 43 then record { digit = h.digit; chomp = Keep; rest = bs } else h)

-- a digit, if it is ahead
abbrev pub with_digit : Header → List ℕ → Header
with_digit h [] = h
with_digit h (b ∷ bs) = if is_digit b then record { digit = Some (b - 48); chomp = h.chomp; rest = bs } else h

abbrev pub begins_digit : List ℕ → Bool
begins_digit [] = false
begins_digit (b ∷ bs) = is_digit b

-- at most one digit and at most one sign, in any order
abbrev pub header : List ℕ → Header
header bytes =
    let none : Header = record { digit = None; chomp = Clip; rest = bytes } in
    let digit : Header = with_digit none bytes in
    let sign : Header = with_sign none bytes in
    if begins_digit bytes then with_sign digit digit.rest else with_digit sign sign.rest

-- the place behind a carriage return, counted from n, if there is one
abbrev pub return_behind : ℕ → List ℕ → Option ℕ
return_behind n [] = None
return_behind n (b ∷ bs) = if nat_eq b 13 then Some (suc n) else return_behind (suc n) bs

-- behind the header stands white space, and behind white space a comment. Else this is the place, counted from n, of the byte that shows the fault: behind a carriage return the next one.
abbrev pub header_fault : Bool → ℕ → List ℕ → Option ℕ
header_fault white n [] = None
header_fault white n (b ∷ bs) =
    if is_white b then header_fault true (suc n) bs else
    (if nat_eq b 13 then Some (suc n) else
    (if white && nat_eq b 35 then return_behind (suc n) bs else Some n))

-- a line of the content: no mark, and blank or indented enough
abbrev pub is_content : ℕ → List ℕ → Bool
is_content inner bytes = not (is_mark bytes) && (is_blank bytes || nat_le inner (indent bytes))

-- a line without the indentation; a blank line that has less of it is empty
abbrev pub taken_off : ℕ → List ℕ → List ℕ
taken_off inner bytes = if is_blank bytes && nat_lt (indent bytes) inner then [] else drop inner bytes

-- the last line that is not empty: whether it begins with white space, and whether it has a break
pub record Last : Type 0 where
  pub white : Bool
  pub broken : Bool

abbrev pub begins_white : List ℕ → Bool
begins_white [] = false
begins_white (b ∷ bs) = is_white b

-- section 8.1.2: what joins a line to the last one that is not empty, with e empty lines between them: all breaks
abbrev pub literal_joint : Option Last → ℕ → List ℕ
literal_joint None e = newlines e
literal_joint (Some l) e = newlines (suc e)

-- section 8.1.3: the same, folded unless one of the lines begins with white space
abbrev pub folded_joint : Option Last → Bool → ℕ → List ℕ
folded_joint None white e = newlines e
folded_joint (Some l) white e = if l.white || white then newlines (suc e) else fold e

abbrev pub joint : Bool → Option Last → Bool → ℕ → List ℕ
joint folded last white e = if folded then folded_joint last white e else literal_joint last e

-- the text's end behind the last line that is not empty, if there is one, and e breaks of empty lines
abbrev pub ending : Chomp → Option Last → ℕ → List ℕ
ending Strip last e = []
ending Clip None e = []
ending Clip (Some l) e = if l.broken then 10 ∷ [] else []
ending Keep None e = newlines e
ending Keep (Some l) e = if l.broken then newlines (suc e) else newlines e

-- one more where a line has a break
abbrev pub count_break : Bool → ℕ → ℕ
count_break broken e = if broken then suc e else e

-- the content's lines, with the text so far: the scalar ends before the first line that is no content, or with the text
abbrev pub content_more : Bool → Chomp → ℕ → ℕ → List Line → List ℕ → Option Last → ℕ → Outcome
content_more folded chomp inner size [] text last e = Stands (text ++ ending chomp last e) size
content_more folded chomp inner size (l ∷ ls) text last e =
    if is_content inner l.bytes then by_fault (return_behind 0 l.bytes) (taken_off inner l.bytes) (content_more folded chomp inner size ls) else Stands (text ++ ending chomp last e) l.at where
      by_fault : Option ℕ → List ℕ → (List ℕ → Option Last → ℕ → Outcome) → Outcome
      by_fault (Some n) bytes next = Fails (l.at + n)
      by_fault None [] next = next text last (count_break l.broken e)
      by_fault None (b ∷ bs) next = next (text ++ (joint folded last (is_white b) e ++ (b ∷ bs))) (Some (record { white = is_white b; broken = l.broken })) 0

-- a scalar with nothing but blank lines: no text, but for the breaks that are kept
abbrev pub blank_more : Chomp → ℕ → List Line → ℕ → Outcome
blank_more chomp size [] e = Stands (ending chomp None e) size
blank_more chomp size (l ∷ ls) e = if is_blank l.bytes then blank_more chomp size ls (count_break l.broken e) else Stands (ending chomp None e) l.at

-- how many bytes in front a line shares with a mark
abbrev pub same : ℕ → ℕ → List ℕ → ℕ
same a zero bs = 0
same a (suc n) [] = 0
same a (suc n) (b ∷ bs) = if nat_eq b a then suc (same a n bs) else 0

abbrev pub mark_len : List ℕ → ℕ
mark_len [] = 0
mark_len (b ∷ bs) = if nat_eq b 45 || nat_eq b 46 then suc (same b 2 bs) else 0

-- a line's end may stand behind no byte of a mark and behind all three, where it makes a blank line or a mark
abbrev pub may_end : ℕ → Bool
may_end k = nat_eq k 0 || nat_eq k 3

-- the number of bytes before the one that shows that a line is neither blank nor a mark; in a carriage return where the line may end it is the byte behind it
abbrev pub shown : List ℕ → ℕ
shown bytes = let n : ℕ = lead is_white bytes + mark_len bytes in if begins_with 13 (drop n bytes) && may_end (mark_len bytes) then suc n else n

-- the indentation of the content, where no digit gives it: that of the first line that isn't blank, if it is above the parent's. A blank line before it, the widest with so many spaces, may not have more.
pub data Inner : Type 0 where
  Nothing : Inner
  Wide : (at : ℕ) → Inner
  Indented : (inner : ℕ) → Inner

abbrev pub widest : ℕ → ℕ → ℕ
widest a b = if nat_lt a b then b else a

abbrev pub inner_of : ℕ → ℕ → List Line → Inner
inner_of above wide [] = Nothing
inner_of above wide (l ∷ ls) =
    if is_blank l.bytes then inner_of above (widest wide (indent l.bytes)) ls else
    (if is_mark l.bytes || nat_lt (indent l.bytes) above then Nothing else
    (if nat_lt (indent l.bytes) wide then Wide (l.at + shown l.bytes) else Indented (indent l.bytes)))

-- a digit counts from the parent's indentation, which counts as 0 at the top
abbrev pub base_of : ℤ → ℕ
base_of (pos n) = n
base_of (negsuc n) = 0

abbrev pub by_inner : Bool → Chomp → ℕ → Inner → List Line → Outcome
by_inner folded chomp size Nothing ls = blank_more chomp size ls 0
by_inner folded chomp size (Wide at) ls = Fails at
by_inner folded chomp size (Indented inner) ls = content_more folded chomp inner size ls [] None 0

abbrev pub by_digit : Bool → ℤ → Chomp → ℕ → Option ℕ → List Line → Outcome
by_digit folded parent chomp size (Some d) ls = content_more folded chomp (base_of parent + d) size ls [] None 0
by_digit folded parent chomp size None ls = by_inner folded chomp size (inner_of (above_of parent) 0 ls) ls

-- the block scalar where these lines begin, in a text of a length; its header has a break
abbrev pub block_on : ℤ → ℕ → List Line → Outcome
block_on parent size [] = Fails size
block_on parent size (l ∷ ls) =
    let h : Header = header (drop 1 l.bytes) in
    by_fault (header_fault false 0 h.rest) h where
      by_fault : Option ℕ → Header → Outcome
      by_fault (Some n) h = Fails (l.at + (length l.bytes - length h.rest) + n)
      by_fault None h = if l.broken then by_digit (begins_with 62 l.bytes) parent h.chomp size h.digit ls else Fails size
