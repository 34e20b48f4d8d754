-- The tokens of generated rules spell the generated text, and keep apart; by induction on the rules.
use Rattle.std.proofs.Common.{◌≡◌, ℕ, suc, ◌+◌, ◌^◌, ◌<◌, ◌≤◌, Bool, true, false, List, [], ◌∷◌, ◌++◌, length, codes, decimal, refl, sym, ap, ◌∙◌, subst, arith, append_assoc, length-append, flat_map, ◌||◌}
use Rattle.std.specs.List.{join_by}
use Rattle.doc_values.specs.Limits.{rules_limit}
use Rattle.decimals.specs.Number.{is_digit, AreDigits}
use Rattle.doc_values.specs.Tree.{Forest}
use Rattle.decimals.specs.declared.decimal.Num.TheVariants as num
use Rattle.doc_values.specs.declared.kind.Kind.{Kind}
use Rattle.doc_values.specs.declared.kind.Kind.TheVariants as kind
use Rattle.guard_lexer.specs.Bytes.{is_letter, is_word, Each}
use Rattle.guard_lexer.specs.Forms.{IsName}
use Rattle.guard_lexer.specs.Lexes.{IsTokenList}
use Rattle.guard_lexer.specs.declared.token.Mark.TheVariants as m
use Rattle.guard_lexer.specs.declared.token.TokenKind.TheVariants as k
use Rattle.rule_meaning.specs.Values.{Value}
use Rattle.rule_spelling.specs.Spelling.{scalar_of, quoted, ends_in_backslash}
use Rattle.rule_spelling.specs.code.Pieces.{Piece, AreApart, spelled, tokens_from}
use Rattle.rule_spelling.specs.code.Tokens.{space, name, variable, str, mark}
use Rattle.rule_spelling.proofs.Apart.{apart_fit}
use Rattle.rule_spelling.proofs.Decimals.{decimal_digits}
use Rattle.rule_spelling.proofs.Opened.{White, Loose, Opened, loose_dotted, behind_gap, name_opened, str_opened, pattern_opened, variable_opened, number_opened, mark_opened, spaced, white_space, behind_dot, dot_dotted, closed, opening, loose_opened, truth_name, comma_loose}
use Rattle.rule_spelling.proofs.PieceTokens.{are_tokens}
use Rattle.rule_spelling.proofs.Words.{named, text_word}
use Rattle.rule_generator.specs.GeneratedRules.{KeptKey, TypeRule, value_text, let_line, rule_line, key_line, rule_text, rules_text, rules_of, generated}
use Rattle.rule_generator.specs.code.GeneratedPieces.{new_line, numbered, scalar_piece, more_values, value_pieces, let_pieces, head_pieces, key_pieces, keys_pieces, rule_pieces, rules_pieces, generated_pieces, IsWritable, AreWritable, HaveKeys, HaveSpellings}

-- ---- what the tokens spell

-- a line of a key, digits, the key, its values and what is behind them
abbrev before_values : (d q y : List ℕ) → List ℕ
before_values d q y = codes "\n  " ++ ((codes "%" ++ (codes "t" ++ d)) ++ (codes "." ++ (codes "Properties" ++ (codes "." ++ (q ++ (codes " " ++ (codes "IN" ++ (codes " " ++ (codes "[" ++ y)))))))))

key_joined : (d q v f tail : List ℕ)
    → before_values d q (v ++ (codes "]" ++ (codes "\n" ++ (f ++ tail)))) ≡ codes "\n" ++ (((codes "  %t" ++ d ++ codes ".Properties." ++ q ++ codes " IN [" ++ v ++ codes "]\n") ++ f) ++ tail)
key_joined d q v f tail = simp append_assoc

-- the line of a let, and that of a rule up to its brace
abbrev before_rule : (gap d q y : List ℕ) → List ℕ
before_rule gap d q y =
    gap ++ (codes "let" ++ (codes " " ++ ((codes "t" ++ d) ++ (codes " " ++ (codes "=" ++ (codes " " ++ (codes "Resources" ++ (codes "." ++ (codes "*" ++ (codes "[" ++ (codes " " ++ (codes "Type" ++ (codes " " ++ (codes "==" ++ (codes " " ++ (q
    ++ (codes " " ++ (codes "]" ++ (codes "\n" ++ y)))))))))))))))))))

abbrev before_keys : (d y : List ℕ) → List ℕ
before_keys d y =
    codes "rule" ++ (codes " " ++ ((codes "t" ++ d) ++ (codes " " ++ (codes "when" ++ (codes " " ++ ((codes "%" ++ (codes "t" ++ d)) ++ (codes " " ++ (codes "!" ++ (codes "empty" ++ (codes " " ++ (codes "{" ++ y)))))))))))

let_joined : (gap d q y : List ℕ) → before_rule gap d q y ≡ gap ++ ((codes "let t" ++ d ++ codes " = Resources.*[ Type == " ++ q ++ codes " ]\n") ++ y)
let_joined gap d q y = simp append_assoc

head_joined : (d y : List ℕ) → before_keys d (codes "\n" ++ y) ≡ (codes "rule t" ++ d ++ codes " when %t" ++ d ++ codes " !empty {\n") ++ y
head_joined d y = simp append_assoc

four : (a b c d tail : List ℕ) → (a ++ b ++ c ++ d) ++ tail ≡ a ++ (b ++ (c ++ (d ++ tail)))
four a b c d tail = simp append_assoc

module _ (end : List ℕ) where
  abbrev S : List Piece → List ℕ
  S ps = spelled ps end

  scalar_in : (gap : List ℕ) (kd : Kind) (text : List ℕ) (rest : List Piece) → S (scalar_piece gap kd text rest) ≡ gap ++ (scalar_of kd text ++ S rest)
  scalar_in gap kind.Text text rest = refl
  scalar_in gap kind.Pattern text rest = refl
  scalar_in gap (kind.Whole n) text rest = refl
  scalar_in gap (kind.Fraction d) text rest = refl
  scalar_in gap (kind.Truth b) text rest = refl
  scalar_in gap kind.Null text rest = refl
  scalar_in gap kind.List text rest = refl
  scalar_in gap kind.Map text rest = refl
  scalar_in gap (kind.Limits r) text rest = refl

  more_in : (vs : List Value) (rest : List Piece) → S (more_values vs rest) ≡ flat_map (λ v. codes ", " ++ value_text v) vs ++ S rest
  more_in [] rest = refl
  more_in (v ∷ vs) rest = ap (λ (x : List ℕ). codes "," ++ x) (scalar_in space v.kind v.text (more_values vs rest)) ∙ simp (append_assoc, more_in vs rest)

  values_in : (vs : List Value) (rest : List Piece) → S (value_pieces vs rest) ≡ join_by value_text (codes ", ") vs ++ S rest
  values_in [] rest = refl
  values_in (v ∷ vs) rest = scalar_in [] v.kind v.text (more_values vs rest) ∙ simp (append_assoc, more_in vs rest)

  keys_in : (n : ℕ) (ks : List KeptKey) (rest : List Piece) (tail : List ℕ) → S rest ≡ codes "\n" ++ tail → S (keys_pieces n ks rest) ≡ codes "\n" ++ (flat_map (key_line n) ks ++ tail)
  keys_in n [] rest tail e = e
  keys_in n (kept ∷ ks) rest tail e =
      ap (before_values (decimal n) (quoted kept.key)) (values_in kept.values (mark [] m.RBracket (keys_pieces n ks rest)) ∙ ap (λ (z : List ℕ). join_by value_text (codes ", ") kept.values ++ (codes "]" ++ z)) (keys_in n ks rest tail e))
      ∙ key_joined (decimal n) (quoted kept.key) (join_by value_text (codes ", ") kept.values) (flat_map (key_line n) ks) tail

  rule_in : (gap : List ℕ) (n : ℕ) (r : TypeRule) (rest : List Piece) (tail : List ℕ) → S rest ≡ codes "\n" ++ tail → S (rule_pieces gap n r rest) ≡ gap ++ (rule_text n r ++ tail)
  rule_in gap n r rest tail e =
      let lines : List ℕ = flat_map (key_line n) r.keys in
      ap (λ (y : List ℕ). before_rule gap (decimal n) (quoted r.type) (before_keys (decimal n) y))
      (keys_in n r.keys (mark new_line m.RBrace rest) (codes "}" ++ S rest) refl ∙ ap (λ (z : List ℕ). codes "\n" ++ (lines ++ (codes "}" ++ z))) e)
      ∙ let_joined gap (decimal n) (quoted r.type) (before_keys (decimal n) (codes "\n" ++ (lines ++ (codes "}" ++ (codes "\n" ++ tail)))))
      ∙ ap (λ (z : List ℕ). gap ++ (let_line n r.type ++ z)) (head_joined (decimal n) (lines ++ (codes "}" ++ (codes "\n" ++ tail))))
      ∙ ap (λ (z : List ℕ). gap ++ z) (sym (four (let_line n r.type) (rule_line n) lines (codes "}\n") tail))

rows_in : (n : ℕ) (rs : List TypeRule) → spelled (rules_pieces new_line n rs) new_line ≡ codes "\n" ++ rules_text n rs
rows_in n [] = refl
rows_in n (r ∷ rs) = rule_in new_line new_line n r (rules_pieces new_line (suc n) rs) (rules_text (suc n) rs) (rows_in (suc n) rs)

-- a new line behind the last rule
abbrev pub end_of : List TypeRule → List ℕ
end_of [] = []
end_of (r ∷ rs) = new_line

rules_in : (n : ℕ) (rs : List TypeRule) → spelled (rules_pieces [] n rs) (end_of rs) ≡ rules_text n rs
rules_in n [] = refl
rules_in n (r ∷ rs) = rule_in new_line [] n r (rules_pieces new_line (suc n) rs) (rules_text (suc n) rs) (rows_in (suc n) rs)

-- ---- that they keep apart

digits_words : (ds : List ℕ) → AreDigits ds → Each is_word ds
digits_words [] d = tt
digits_words (b ∷ ds) (e, d) = (word b e, digits_words ds d)
  where
    word : (b : ℕ) → is_digit b ≡ true → is_word b ≡ true
    word b e = ap (λ v. is_letter b || v) e ∙ or_true (is_letter b)
      where
        or_true : (v : Bool) → (v || true) ≡ true
        or_true true = refl
        or_true false = refl

numbered_name : (n : ℕ) → n < 2 ^ 64 → IsName (numbered n)
numbered_name n h = (refl, digits_words (decimal n) (decimal_digits n h))

scalar_opened : (gap : List ℕ) (kd : Kind) (text : List ℕ) (rest : List Piece) → White gap → IsWritable kd text → Loose rest → Opened gap (scalar_piece gap kd text rest)
scalar_opened gap kind.Text text rest w h l = str_opened gap text rest w h (loose_dotted rest l)
scalar_opened gap kind.Pattern text rest w h l = pattern_opened gap text rest w h (loose_dotted rest l)
scalar_opened gap (kind.Whole n) text rest w h l = number_opened gap (num.Whole n) rest w h l
scalar_opened gap (kind.Fraction d) text rest w h l = number_opened gap (num.Fraction d) rest w h l
scalar_opened gap (kind.Truth b) text rest w h l = name_opened gap _ rest w (truth_name b) (loose_dotted rest l)
scalar_opened gap kind.Null text rest w h l = name_opened gap (codes "null") rest w (named (codes "null") refl) (loose_dotted rest l)
scalar_opened gap kind.List text rest w h l = name_opened gap (codes "null") rest w (named (codes "null") refl) (loose_dotted rest l)
scalar_opened gap kind.Map text rest w h l = name_opened gap (codes "null") rest w (named (codes "null") refl) (loose_dotted rest l)
scalar_opened gap (kind.Limits r) text rest w h l = name_opened gap (codes "null") rest w (named (codes "null") refl) (loose_dotted rest l)

more_loose : (vs : List Value) (rest : List Piece) → AreWritable vs → Loose rest → Loose (more_values vs rest)
more_loose [] rest h l = l
more_loose (v ∷ vs) rest (h, hs) l = comma_loose (scalar_piece space v.kind v.text (more_values vs rest)) (scalar_opened space v.kind v.text (more_values vs rest) white_space h (more_loose vs rest hs l))

values_opened : (vs : List Value) (rest : List Piece) → AreWritable vs → Loose rest → Opened [] (value_pieces vs rest)
values_opened [] rest h l = loose_opened [] rest l
values_opened (v ∷ vs) rest (h, hs) l = scalar_opened [] v.kind v.text (more_values vs rest) tt h (more_loose vs rest hs l)

white_line : White new_line
white_line = (refl, tt)

key_loose : (n : ℕ) (kept : KeptKey) (rest : List Piece) → n < 2 ^ 64 → ends_in_backslash kept.key ≡ false → AreWritable kept.values → Loose rest → Loose (key_pieces n kept rest)
key_loose n kept rest small h hv l =
    let end = closed [] m.RBracket 93 rest tt refl refl refl (loose_dotted rest l) in
    let values = values_opened kept.values (mark [] m.RBracket rest) hv end in
    let bracket = opening space m.LBracket 91 (value_pieces kept.values (mark [] m.RBracket rest)) white_space refl refl refl refl values in
    let within = spaced _ (name_opened space (codes "IN") (mark space m.LBracket (value_pieces kept.values (mark [] m.RBracket rest))) white_space (named (codes "IN") refl) (loose_dotted _ bracket)) in
    let after_dot : List Piece = str [] kept.key (name space (codes "IN") (mark space m.LBracket (value_pieces kept.values (mark [] m.RBracket rest)))) in
    let key = dot_dotted [] after_dot tt (behind_dot k.Str (quoted kept.key) (name space (codes "IN") (mark space m.LBracket (value_pieces kept.values (mark [] m.RBracket rest)))) (text_word true kept.key h).0 tt (within.next true k.Str) within.apart) in
    let properties = dot_dotted [] (name [] (codes "Properties") (mark [] m.Dot after_dot)) tt (behind_dot k.Name (codes "Properties") (mark [] m.Dot (str [] kept.key (name space (codes "IN") (mark space m.LBracket (value_pieces kept.values (mark [] m.RBracket rest)))))) (named (codes "Properties") refl) tt (key.next true k.Name (λ e. absurd cc)) key.apart) in
    behind_gap 10 (codes "  ") (key_pieces n kept rest) (variable_opened (codes "\n  ") (numbered n) (mark [] m.Dot (name [] (codes "Properties") (mark [] m.Dot (str [] kept.key (name space (codes "IN") (mark space m.LBracket (value_pieces kept.values (mark [] m.RBracket rest)))))))) (refl, (refl, (refl, tt))) (numbered_name n small) properties)

keys_loose : (n : ℕ) (ks : List KeptKey) (rest : List Piece) → n < 2 ^ 64 → HaveKeys ks → Loose rest → Loose (keys_pieces n ks rest)
keys_loose n [] rest small h l = l
keys_loose n (kept ∷ ks) rest small (h, hv, hs) l = key_loose n kept (keys_pieces n ks rest) small h hv (keys_loose n ks rest small hs l)

head_loose : (n : ℕ) (rest : List Piece) → n < 2 ^ 64 → Loose rest → Loose (head_pieces n rest)
head_loose n rest small l =
    let brace = closed space m.LBrace 123 rest white_space refl refl refl (loose_dotted rest l) in
    let empty = name_opened [] (codes "empty") (mark space m.LBrace rest) tt (named (codes "empty") refl) (loose_dotted _ brace) in
    let bang = spaced _ (mark_opened space m.Bang (name [] (codes "empty") (mark space m.LBrace rest)) white_space refl empty.apart) in
    let var = spaced _ (variable_opened space (numbered n) (mark space m.Bang (name [] (codes "empty") (mark space m.LBrace rest))) white_space (numbered_name n small) (loose_dotted _ bang)) in
    let when = spaced _ (name_opened space (codes "when") (variable space (numbered n) (mark space m.Bang (name [] (codes "empty") (mark space m.LBrace rest)))) white_space (named (codes "when") refl) (loose_dotted _ var)) in
    let rule_name = spaced _ (name_opened space (numbered n) (name space (codes "when") (variable space (numbered n) (mark space m.Bang (name [] (codes "empty") (mark space m.LBrace rest))))) white_space (numbered_name n small) (loose_dotted _ when)) in
    behind_gap 10 [] (head_pieces n rest) (name_opened new_line (codes "rule") (name space (numbered n) (name space (codes "when") (variable space (numbered n) (mark space m.Bang (name [] (codes "empty") (mark space m.LBrace rest)))))) white_line (named (codes "rule") refl) (loose_dotted _ rule_name))

let_opened : (gap : List ℕ) (n : ℕ) (type : List ℕ) (rest : List Piece) → White gap → n < 2 ^ 64 → ends_in_backslash type ≡ false → Loose rest → Opened gap (let_pieces gap n type rest)
let_opened gap n type rest w small h l =
    let end = closed space m.RBracket 93 rest white_space refl refl refl (loose_dotted rest l) in
    let text = spaced _ (str_opened space type (mark space m.RBracket rest) white_space h (loose_dotted _ end)) in
    let same = spaced _ (mark_opened space m.Same (str space type (mark space m.RBracket rest)) white_space (text.next false (k.Mark m.Same)) text.apart) in
    let key = spaced _ (name_opened space (codes "Type") (mark space m.Same (str space type (mark space m.RBracket rest))) white_space (named (codes "Type") refl) (loose_dotted _ same)) in
    let bracket = closed [] m.LBracket 91 (name space (codes "Type") (mark space m.Same (str space type (mark space m.RBracket rest)))) tt refl refl refl (loose_dotted _ key) in
    let star = dot_dotted [] (mark [] m.Star (mark [] m.LBracket (name space (codes "Type") (mark space m.Same (str space type (mark space m.RBracket rest)))))) tt (behind_dot (k.Mark m.Star) (codes "*") (mark [] m.LBracket (name space (codes "Type") (mark space m.Same (str space type (mark space m.RBracket rest))))) refl tt (bracket.next true (k.Mark m.Star)) bracket.apart) in
    let resources = spaced _ (name_opened space (codes "Resources") (mark [] m.Dot (mark [] m.Star (mark [] m.LBracket (name space (codes "Type") (mark space m.Same (str space type (mark space m.RBracket rest))))))) white_space (named (codes "Resources") refl) star) in
    let equals = spaced _ (mark_opened space m.Equals (name space (codes "Resources") (mark [] m.Dot (mark [] m.Star (mark [] m.LBracket (name space (codes "Type") (mark space m.Same (str space type (mark space m.RBracket rest)))))))) white_space (resources.next false (k.Mark m.Equals)) resources.apart) in
    let bound = spaced _ (name_opened space (numbered n) (mark space m.Equals (name space (codes "Resources") (mark [] m.Dot (mark [] m.Star (mark [] m.LBracket (name space (codes "Type") (mark space m.Same (str space type (mark space m.RBracket rest))))))))) white_space (numbered_name n small) (loose_dotted _ equals)) in
    name_opened gap (codes "let") (name space (numbered n) (mark space m.Equals (name space (codes "Resources") (mark [] m.Dot (mark [] m.Star (mark [] m.LBracket (name space (codes "Type") (mark space m.Same (str space type (mark space m.RBracket rest)))))))))) w (named (codes "let") refl) (loose_dotted _ bound)

rule_opened : (gap : List ℕ) (n : ℕ) (r : TypeRule) (rest : List Piece) → White gap → n < 2 ^ 64 → ends_in_backslash r.type ≡ false → HaveKeys r.keys → Loose rest → Opened gap (rule_pieces gap n r rest)
rule_opened gap n r rest w small h hk l =
    let end = closed new_line m.RBrace 125 rest white_line refl refl refl (loose_dotted rest l) in
    let keys = keys_loose n r.keys (mark new_line m.RBrace rest) small hk end in
    let_opened gap n r.type (head_pieces n (keys_pieces n r.keys (mark new_line m.RBrace rest))) w small h (head_loose n (keys_pieces n r.keys (mark new_line m.RBrace rest)) small keys)

rows_loose : (n : ℕ) (rs : List TypeRule) → n + length rs ≤ 2 ^ 64 → HaveSpellings rs → Loose (rules_pieces new_line n rs)
rows_loose n [] small h = record { apart = tt; next = λ dot kd. refl }
rows_loose n (r ∷ rs) small (h, hk, hs) =
    behind_gap 10 [] (rule_pieces new_line n r (rules_pieces new_line (suc n) rs)) (rule_opened new_line n r (rules_pieces new_line (suc n) rs) white_line (omega arith) h hk (rows_loose (suc n) rs (omega arith) hs))

rules_apart : (n : ℕ) (rs : List TypeRule) → n + length rs ≤ 2 ^ 64 → HaveSpellings rs → AreApart false (rules_pieces [] n rs)
rules_apart n [] small h = tt
rules_apart n (r ∷ rs) small (h, hk, hs) = (rule_opened [] n r (rules_pieces new_line (suc n) rs) tt (omega arith) h hk (rows_loose (suc n) rs (omega arith) hs)).apart

-- ---- each rule takes a byte, so there are not too many

one_byte : (n : ℕ) (r : TypeRule) (tail : List ℕ) → 1 + length tail ≤ length (rule_text n r ++ tail)
one_byte n r tail = let e = length-append (rule_text n r) tail in let some : 1 ≤ length (rule_text n r) = omega arith in omega arith

rules_long : (n : ℕ) (rs : List TypeRule) → length rs ≤ length (rules_text n rs)
rules_long n [] = omega arith
rules_long n (r ∷ rs) = let more = rules_long (suc n) rs in let here = one_byte n r (rules_text (suc n) rs) in omega arith

white_end : (rs : List TypeRule) → White (end_of rs)
white_end [] = tt
white_end (r ∷ rs) = white_line

pub tokens_are : (tree : Forest) → HaveSpellings (rules_of tree) → length (generated tree) ≤ rules_limit → IsTokenList (generated tree) (tokens_from 0 (generated_pieces tree))
tokens_are tree h short =
    let rs : List TypeRule = rules_of tree in
    let few : 1 + length rs ≤ 2 ^ 64 = let long = rules_long 1 rs in omega arith in
    let w = white_end rs in
    subst (λ text. IsTokenList text (tokens_from 0 (generated_pieces tree))) (rules_in 1 rs)
    (are_tokens (generated_pieces tree) (end_of rs) (apart_fit false (generated_pieces tree) (end_of rs) (rules_apart 1 rs few h) w) w)
