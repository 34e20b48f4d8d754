-- Tokens that a test finds in bytes stand there: names, variables, texts in single quotes, marks, and numbers of one digit; no
-- other tokens are found. By induction on the tokens.
use Rattle.std.proofs.Common.{◌≡◌, ◌+◌, ◌-◌, ◌≤◌, ◌&&◌, ℕ, suc, Bool, true, false, not, List, [], ◌∷◌, ◌++◌, length, take, drop, Option, Some, None, Ok, pos, negsuc, arith, refl, sym, ap, ◌∙◌, subst}
use Rattle.std.specs.Prelude.{◌==◌}
use Rattle.std.specs.Str.{bytes_eq}
use Rattle.std.proofs.lemmas.Bool.Decides.{nat_tests}
use Rattle.std.proofs.lemmas.List.{take-append-drop}
use Rattle.std.proofs.lemmas.Slice.Eq.{bytes_eq-Decides}
use Rattle.decimals.specs.Number.{is_digit, IsNumber}
use Rattle.decimals.specs.declared.decimal.Num.TheVariants as num
use Rattle.guard_lexer.specs.Bytes.{is_letter}
use Rattle.guard_lexer.specs.Forms.{mark_text}
use Rattle.guard_lexer.specs.Lexes.{Reads, is_dot}
use Rattle.guard_lexer.specs.code.Firsts.{IsFirst, IsNext, begins_word, word_kind}
use Rattle.guard_lexer.specs.code.Reach.{begins_numeral, closing, gap_reach, in_name, is_quote, numeral_reach, reach, typed, var_reach}
use Rattle.guard_lexer.specs.declared.token.Mark.{Mark}
use Rattle.guard_lexer.specs.declared.token.Token.{Token}
use Rattle.guard_lexer.specs.declared.token.TokenKind.{TokenKind}
use Rattle.guard_lexer.specs.declared.token.TokenKind.TheVariants as k
use Rattle.guard_lexer.proofs.Firsts.{Found, found, is_first, not_open, quote_found, var_found, word_found}
use Rattle.guard_lexer.proofs.Lists.{is_byte, no_clash, same_byte}
use Rattle.guard_lexer.proofs.NumberFirsts.{front_found}
use Rattle.guard_lexer.proofs.Steps.{next_none, next_some}
use Rattle.json_reader.proofs.Strings.{both}

is-false : (b : Bool) → not b ≡ true → b ≡ false
is-false true e = absurd cc
is-false false e = refl

-- ---- one token

-- one more than a number that there is
abbrev is-behind : Option ℕ → ℕ → Bool
is-behind None n = false
is-behind (Some i) n = n == suc i

behind-some : (o : Option ℕ) (n : ℕ) → is-behind o n ≡ true → (i : ℕ) × (o ≡ Some i) × (n ≡ suc i)
behind-some None n e = absurd cc
behind-some (Some i) n e = (i, refl, same_byte n (suc i) e)

-- the bytes begin with `<`
abbrev is-less-next : List ℕ → Bool
is-less-next [] = false
is-less-next (b ∷ bytes) = b == 60

less-next : (bytes : List ℕ) (c : ℕ) (cs : List ℕ) → bytes ≡ c ∷ cs → c ≡ 60 → is-less-next bytes ≡ true
less-next bytes c cs is less = ap is-less-next is ∙ is_byte c 60 less

-- a token of this kind and this length begins with this byte in front of these
abbrev is-found : Bool → TokenKind → ℕ → ℕ → List ℕ → Bool
is-found dot k.Name n b bytes = is_letter b && (not (typed bytes) && (n == suc (in_name bytes)))
is-found dot k.Var n b bytes = b == 37 && (not (n == 0) && (n == var_reach bytes))
is-found dot k.Str n b bytes = b == 39 && is-behind (closing 39 false bytes) n
is-found dot (k.Whole (pos d)) n b bytes =
    is_digit b && ((d == b - 48) && ((n == 1) && ((numeral_reach dot (b ∷ bytes) == 1) && not (begins_word bytes))))
is-found dot (k.Mark mark) n b bytes =
    bytes_eq (mark_text mark) (take n (b ∷ bytes)) && ((length (mark_text mark) == n) && ((reach dot (b ∷ bytes) == n)
    && (not (is_quote b) && not (b == 60 && is-less-next bytes))))
is-found dot _ n b bytes = false

name-found : (dot : Bool) (n b : ℕ) (bytes : List ℕ) → is-found dot k.Name n b bytes ≡ true → Found dot k.Name (b ∷ bytes) n
name-found dot n b bytes e =
    let letter = both (is_letter b) _ e in
    let rest = both (not (typed bytes)) (n == suc (in_name bytes)) letter.1 in
    subst (λ size. Found dot k.Name (b ∷ bytes) size) (sym (same_byte n (suc (in_name bytes)) rest.1))
    (subst (λ v. Found dot (word_kind v) (b ∷ bytes) (suc (in_name bytes))) (is-false (typed bytes) rest.0) (word_found dot b bytes letter.0))

variable-found : (dot : Bool) (n b : ℕ) (bytes : List ℕ) → is-found dot k.Var n b bytes ≡ true → Found dot k.Var (b ∷ bytes) n
variable-found dot n b bytes e =
    let percent = both (b == 37) _ e in
    let rest = both (not (n == 0)) (n == var_reach bytes) percent.1 in
    let size : n ≡ var_reach bytes = same_byte n (var_reach bytes) rest.1 in
    subst (λ first. Found dot k.Var (first ∷ bytes) n) (sym (same_byte b 37 percent.0))
    (subst (λ m. Found dot k.Var (37 ∷ bytes) m) (sym size) (var_found dot bytes (λ none. no_clash (is_byte n 0 (size ∙ none)) (is-false (n == 0) rest.0))))

text-found : (dot : Bool) (n b : ℕ) (bytes : List ℕ) → is-found dot k.Str n b bytes ≡ true → Found dot k.Str (b ∷ bytes) n
text-found dot n b bytes e =
    let quote = both (b == 39) _ e in
    let end = behind-some (closing 39 false bytes) n quote.1 in
    subst (λ first. Found dot k.Str (first ∷ bytes) n) (sym (same_byte b 39 quote.0))
    (subst (λ m. Found dot k.Str (39 ∷ bytes) m) (sym end.2) (quote_found dot 39 bytes end.0 refl end.1))

one-digit : (b : ℕ) → is_digit b ≡ true → IsNumber (b ∷ []) (num.Whole (pos (b - 48)))
one-digit b digit =
    let small : b ≤ 57 = grind (arith, nat_tests) in
    let worth : b - 48 ≡ 0 + (b - 48) = omega arith in
    record {
      parts = record { minus = false; whole = b ∷ []; fraction = []; down = false; power = [] };
      spelled = record {
        whole = (digit, tt, λ zero-first. refl);
        fraction = tt;
        power = tt;
        exponent = [];
        exponent_is = (refl, refl);
        joined = refl;
      };
      value = (refl, refl, ap (λ n. pos n) worth, record { sfits = omega (arith, small) });
    }

digit-begins : (b : ℕ) → is_digit b ≡ true → begins_numeral b ≡ true
digit-begins b digit = grind (arith, nat_tests)

number-found : (dot : Bool) (d n b : ℕ) (bytes : List ℕ) → is-found dot (k.Whole (pos d)) n b bytes ≡ true → Found dot (k.Whole (pos d)) (b ∷ bytes) n
number-found dot d n b bytes e =
    let digit = both (is_digit b) _ e in
    let value = both (d == b - 48) _ digit.1 in
    let size = both (n == 1) _ value.1 in
    let rest = both (numeral_reach dot (b ∷ bytes) == 1) (not (begins_word bytes)) size.1 in
    subst (λ m. Found dot (k.Whole (pos d)) (b ∷ bytes) m) (sym (same_byte n 1 size.0))
    (subst (λ v. Found dot (k.Whole (pos v)) (b ∷ bytes) 1) (sym (same_byte d (b - 48) value.0))
    (front_found dot (b ∷ bytes) 1 (num.Whole (pos (b - 48))) (digit-begins b digit.0) (sym (same_byte (numeral_reach dot (b ∷ bytes)) 1 rest.0)) (λ none. cc)
    (one-digit b digit.0) (is-false (begins_word bytes) rest.1)))

not-doubled : (b : ℕ) (bytes : List ℕ) → not (b == 60 && is-less-next bytes) ≡ true → (c : ℕ) (cs : List ℕ) → b ≡ 60 → bytes ≡ c ∷ cs → c ≡ 60 → ⊥
not-doubled b bytes e c cs less is next =
    no_clash (ap (λ v. v && is-less-next bytes) (is_byte b 60 less) ∙ less-next bytes c cs is next) (is-false (b == 60 && is-less-next bytes) e)

mark-found : (dot : Bool) (mark : Mark) (n b : ℕ) (bytes : List ℕ) → is-found dot (k.Mark mark) n b bytes ≡ true → Found dot (k.Mark mark) (b ∷ bytes) n
mark-found dot mark n b bytes e =
    let text = both (bytes_eq (mark_text mark) (take n (b ∷ bytes))) _ e in
    let size = both (length (mark_text mark) == n) _ text.1 in
    let most = both (reach dot (b ∷ bytes) == n) _ size.1 in
    let rest = both (not (is_quote b)) (not (b == 60 && is-less-next bytes)) most.1 in
    let same : mark_text mark ≡ take n (b ∷ bytes) = (bytes_eq-Decides (mark_text mark) (take n (b ∷ bytes))).0 text.0 in
    let whole : b ∷ bytes ≡ mark_text mark ++ drop n (b ∷ bytes) = sym (take-append-drop n (b ∷ bytes)) ∙ ap (λ x. x ++ drop n (b ∷ bytes)) (sym same) in
    found dot (k.Mark mark) (b ∷ bytes) (mark_text mark) (drop n (b ∷ bytes)) n whole (same_byte (length (mark_text mark)) n size.0)
    (same_byte (reach dot (b ∷ bytes)) n most.0) refl tt (not_open b bytes (is-false (is_quote b) rest.0) (not-doubled b bytes rest.1)) (λ number _. cc)

token-found : (dot : Bool) (kind : TokenKind) (n b : ℕ) (bytes : List ℕ) → is-found dot kind n b bytes ≡ true → Found dot kind (b ∷ bytes) n
token-found dot k.Name n b bytes e = name-found dot n b bytes e
token-found dot k.Var n b bytes e = variable-found dot n b bytes e
token-found dot k.Str n b bytes e = text-found dot n b bytes e
token-found dot (k.Whole (pos d)) n b bytes e = number-found dot d n b bytes e
token-found dot (k.Whole (negsuc d)) n b bytes e = absurd cc
token-found dot (k.Mark mark) n b bytes e = mark-found dot mark n b bytes e
token-found dot k.TypeName n b bytes e = absurd cc
token-found dot k.Pat n b bytes e = absurd cc
token-found dot (k.Fraction d) n b bytes e = absurd cc
token-found dot k.Note n b bytes e = absurd cc

-- ---- tokens in a row

abbrev is-first : Bool → TokenKind → ℕ → List ℕ → Bool
is-first dot kind n [] = false
is-first dot kind n (b ∷ bytes) = is-found dot kind n b bytes

first-found : (dot : Bool) (kind : TokenKind) (n : ℕ) (bytes : List ℕ) → is-first dot kind n bytes ≡ true → Found dot kind bytes n
first-found dot kind n [] e = absurd cc
first-found dot kind n (b ∷ bytes) e = token-found dot kind n b bytes e

abbrev is-nil : List ℕ → Bool
is-nil [] = true
is-nil (b ∷ bytes) = false

nil-is : (bytes : List ℕ) → is-nil bytes ≡ true → bytes ≡ []
nil-is [] e = refl
nil-is (b ∷ bytes) e = absurd cc

-- the tokens are all that stand in the bytes, the first of which has this place
abbrev pub are-tokens : Bool → ℕ → List ℕ → List Token → Bool
are-tokens dot at bytes [] = is-nil (drop (gap_reach false bytes) bytes)
are-tokens dot at bytes (t ∷ ts) =
    t.from == at + gap_reach false bytes && ((t.to == t.from + (t.to - t.from))
    && (is-first dot t.kind (t.to - t.from) (drop (gap_reach false bytes) bytes) && are-tokens (is_dot t.kind) t.to (drop (t.to - at) bytes) ts))

pub tokens-read : (ts : List Token) (dot : Bool) (at : ℕ) (bytes : List ℕ) → are-tokens dot at bytes ts ≡ true → Reads dot at bytes ts None
tokens-read [] dot at bytes e = next_none bytes (gap_reach false bytes) refl (nil-is (drop (gap_reach false bytes) bytes) e)
tokens-read (t ∷ ts) dot at bytes e =
    let gap = gap_reach false bytes in
    let from = both (t.from == at + gap) _ e in
    let to = both (t.to == t.from + (t.to - t.from)) _ from.1 in
    let rest = both (is-first dot t.kind (t.to - t.from) (drop gap bytes)) _ to.1 in
    let begins : t.from ≡ at + gap = same_byte t.from (at + gap) from.0 in
    let ends : t.to ≡ at + gap + (t.to - t.from) = same_byte t.to (t.from + (t.to - t.from)) to.0 ∙ ap (λ n. n + (t.to - t.from)) begins in
    let first : IsFirst dot (at + gap) (drop gap bytes) (Ok t) =
    is_first dot (at + gap) (drop gap bytes) t t.kind (t.to - t.from) refl begins ends (first-found dot t.kind (t.to - t.from) (drop gap bytes) rest.0) in
    let next : IsNext dot at bytes (Ok (Some t)) = next_some dot at bytes gap t refl first in
    (drop (t.to - at) bytes, next.0, tokens-read ts (is_dot t.kind) t.to (drop (t.to - at) bytes) rest.1)
