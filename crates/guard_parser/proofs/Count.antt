-- A text has no more tokens than bytes.
use Rattle.std.proofs.Common.{◌≡◌, ℕ, suc, ◌≤◌, Bool, true, false, ap, arith, List, [], ◌∷◌, ◌++◌, length, Option, None, inl, inr, length-append}
use Rattle.decimals.specs.Number.{minus_text, IsWholePart, fraction_text}
use Rattle.guard_lexer.specs.declared.token.Mark.{Mark}
use Rattle.guard_lexer.specs.declared.token.Mark.TheVariants as m
use Rattle.guard_lexer.specs.declared.token.Token.{Token}
use Rattle.guard_lexer.specs.declared.token.LexRefusal.{LexRefusal}
use Rattle.guard_lexer.specs.Forms.{Form, Name, TypeName, Var, Str, Pat, Numeral, Note, Sign, HasForm, IsName, IsNumeral, form_of, mark_text}
use Rattle.guard_lexer.specs.Lexes.{Takes, Reads, Starts, IsTokenList, is_dot}

name_fills : (bytes : List ℕ) → IsName bytes → 1 ≤ length bytes
name_fills [] h = absurd h
name_fills (b ∷ bs) h = omega arith

whole_fills : (bytes : List ℕ) → IsWholePart bytes → 1 ≤ length bytes
whole_fills [] h = absurd h
whole_fills (b ∷ bs) h = omega arith

same_length : (a b : List ℕ) → a ≡ b → length a ≡ length b
same_length a b e = ap (λ (x : List ℕ). length x) e

numeral_fills : (dot : Bool) (bytes : List ℕ) → IsNumeral dot bytes → 1 ≤ length bytes
numeral_fills true bytes h = whole_fills bytes h
numeral_fills false bytes (p, h) =
    let w = whole_fills p.whole h.whole in
    let e = same_length bytes _ h.joined in
    omega (arith, length-append (minus_text p.minus) (p.whole ++ (fraction_text p.fraction ++ h.exponent)), length-append p.whole (fraction_text p.fraction ++ h.exponent))

mark_fills : (mark : Mark) → 1 ≤ length (mark_text mark)
mark_fills m.LBrace = omega arith
mark_fills m.RBrace = omega arith
mark_fills m.LParen = omega arith
mark_fills m.RParen = omega arith
mark_fills m.LBracket = omega arith
mark_fills m.RBracket = omega arith
mark_fills m.Comma = omega arith
mark_fills m.Bar = omega arith
mark_fills m.Dot = omega arith
mark_fills m.Star = omega arith
mark_fills m.Colon = omega arith
mark_fills m.Equals = omega arith
mark_fills m.Define = omega arith
mark_fills m.Same = omega arith
mark_fills m.Differs = omega arith
mark_fills m.Bang = omega arith
mark_fills m.Less = omega arith
mark_fills m.LessEq = omega arith
mark_fills m.Greater = omega arith
mark_fills m.GreaterEq = omega arith

form_fills : (dot : Bool) (form : Form) (bytes : List ℕ) → HasForm dot form bytes → 1 ≤ length bytes
form_fills dot Name bytes h = name_fills bytes h
form_fills dot TypeName bytes (first, rest, ns, e, h, some, parts) = let x = same_length bytes (first ++ rest) e in let y = name_fills first h in omega (arith, length-append first rest)
form_fills dot Var [] h = absurd h
form_fills dot Var (b ∷ bs) h = omega arith
form_fills dot Str [] h = absurd h
form_fills dot Str (b ∷ bs) h = omega arith
form_fills dot Pat [] h = absurd h
form_fills dot Pat (b ∷ bs) h = omega arith
form_fills dot Numeral bytes h = numeral_fills dot bytes h
form_fills dot Note bytes (rest, e, h) = let x = same_length bytes (60 ∷ 60 ∷ rest) e in omega arith
form_fills dot (Sign mark) bytes e = let x = same_length bytes (mark_text mark) e in let y = mark_fills mark in omega arith

takes_one : (dot : Bool) (at : ℕ) (bytes : List ℕ) (t : Token) (rest : List ℕ) → Takes dot at bytes t rest → suc (length rest) ≤ length bytes
takes_one dot at bytes t rest h =
    let x = form_fills dot (form_of t.kind) h.text h.is.form in
    let y = same_length bytes (h.gap ++ (h.text ++ rest)) h.joined in
    omega (arith, length-append h.gap (h.text ++ rest), length-append h.text rest)

reads_few : (dot : Bool) (at : ℕ) (bytes : List ℕ) (ts : List Token) (end : Option LexRefusal) → Reads dot at bytes ts end → length ts ≤ length bytes
reads_few dot at bytes [] end h = omega arith
reads_few dot at bytes (t ∷ ts) end (rest, h, more) =
    let x = takes_one dot at bytes t rest h in let y = reads_few (is_dot t.kind) t.to rest ts end more in omega arith

starts_few : (text : List ℕ) (at : ℕ) (bytes : List ℕ) → Starts text at bytes → length bytes ≤ length text
starts_few text at bytes (inl (a, e)) = let x = same_length text (239 ∷ 187 ∷ 191 ∷ bytes) e in omega arith
starts_few text at bytes (inr (a, e, none)) = let x = same_length text bytes e in omega arith

pub few_tokens : (text : List ℕ) (tokens : List Token) → IsTokenList text tokens → length tokens ≤ length text
few_tokens text tokens (at, bytes, starts, reads) = let x = starts_few text at bytes starts in let y = reads_few false at bytes tokens None reads in omega arith
