-- How many brackets are open, one token further.
use Rattle.std.proofs.Common.{◌≡◌, ℕ, suc, ◌+◌, ◌<◌, ◌≤◌, Bool, true, false, true≢false, refl, ap, sym, ◌∙◌, subst, arith, nat_eq, List, length, get_or}
use Rattle.std.proofs.lemmas.Bool.Decides.{nat_tests}
use Rattle.guard_lexer.specs.declared.token.Token.{Token}
use Rattle.literal_parser.specs.Lexemes.{Lexeme, lexeme_of, lexemes}
use Rattle.literal_parser.specs.Forms.{form, is_opening}
use Rattle.literal_parser.specs.Brackets.{open_behind, open_before, IsShallowTo}
use Rattle.literal_parser.proofs.Places.{at_end}
use Rattle.guard_parser.specs.File.{IsShallow, IsTooDeep}
use Rattle.guard_parser.proofs.Nesting.{bounded}
use Rattle.guard_parser.proofs.TokenForms.{lexeme_there}

shallow_here : (s : ℕ → Lexeme) (i j : ℕ) (v : Bool) → nat_eq i j ≡ v → IsShallowTo s i → (is_opening (form (s i)) ≡ true → open_before s i < 128) → j < suc i
    → is_opening (form (s j)) ≡ true → open_before s j < 128
shallow_here s i j true same before here less opening =
    let e : i ≡ j = grind (arith, nat_tests) in subst (λ k. is_opening (form (s k)) ≡ true → open_before s k < 128) e here opening
shallow_here s i j false same before here less opening = before j (grind (arith, nat_tests)) opening

shallow_next : (s : ℕ → Lexeme) (i : ℕ) → IsShallowTo s i → (is_opening (form (s i)) ≡ true → open_before s i < 128) → IsShallowTo s (suc i)
shallow_next s i before here = λ j less opening. shallow_here s i j (nat_eq i j) refl before here less opening

there : (text : List ℕ) (tokens : List Token) (i : ℕ) (t : Token) → i < length tokens → t ≡ get_or tokens i t → lexemes text tokens i ≡ lexeme_of text t
there text tokens i t less is = lexeme_there text tokens i t less ∙ ap (λ (x : Token). lexeme_of text x) (sym is)

pub one_more : (text : List ℕ) (tokens : List Token) (i : ℕ) (t : Token) (n : ℕ) → i < length tokens → t ≡ get_or tokens i t → n ≡ open_before (lexemes text tokens) i
    → IsShallowTo (lexemes text tokens) i → (is_opening (form (lexeme_of text t)) ≡ true → n < 128)
    → (open_behind (form (lexeme_of text t)) n ≡ open_before (lexemes text tokens) (i + 1)) × IsShallowTo (lexemes text tokens) (i + 1)
one_more text tokens i t n less is count before room =
    let s = lexemes text tokens in let x = there text tokens i t less is in let more : i + 1 ≡ suc i = omega arith in
    let here : is_opening (form (s i)) ≡ true → open_before s i < 128 = λ e. subst (λ k. k < 128) count (room (ap (λ (y : Lexeme). is_opening (form y)) (sym x) ∙ e)) in (
      ap (λ (y : Lexeme). open_behind (form y) n) (sym x) ∙ ap (λ k. open_behind (form (s i)) k) count ∙ ap (λ k. open_before s k) (sym more),
      subst (λ k. IsShallowTo s k) (sym more) (shallow_next s i before here),
    )

pub still_few : (text : List ℕ) (tokens : List Token) (i n : ℕ) → n ≡ open_before (lexemes text tokens) i → IsShallowTo (lexemes text tokens) i → n ≤ 128
still_few text tokens i n count before = let x = bounded (lexemes text tokens) i before in omega arith

pub too_deep : (text : List ℕ) (tokens : List Token) (i : ℕ) (t : Token) (n : ℕ) → i < length tokens → t ≡ get_or tokens i t → n ≡ open_before (lexemes text tokens) i
    → IsShallowTo (lexemes text tokens) i → is_opening (form (lexeme_of text t)) ≡ true → n ≡ 128 → IsTooDeep text tokens t.from
too_deep text tokens i t n less is count before opening full =
    let x = there text tokens i t less is in
    (i, ap (λ (y : Lexeme). is_opening (form y)) x ∙ opening, omega arith, before, ap (λ (y : Lexeme). y.from) (sym x))

-- ---- the first bracket that opens too deep is one

first_is : (text : List ℕ) (tokens : List Token) (i j : ℕ) → is_opening (form (lexemes text tokens i)) ≡ true → 128 ≤ open_before (lexemes text tokens) i
    → IsShallowTo (lexemes text tokens) j → j ≤ i
first_is text tokens i j opening deep before = grind (arith, helper) where
  helper : i < j → ⊥
  helper less = let few = before i less opening in omega arith

pub one_too_deep : (text : List ℕ) (tokens : List Token) (a b : ℕ) → IsTooDeep text tokens a → IsTooDeep text tokens b → a ≡ b
one_too_deep text tokens a b (i, opening, deep, before, is) (j, others, more, shallow, there) =
    let x = first_is text tokens i j opening deep shallow in let y = first_is text tokens j i others more before in
    let same : i ≡ j = omega arith in is ∙ ap (λ k. (lexemes text tokens k).from) same ∙ sym there

-- a bracket that opens too deep is no one where all brackets open within the limit
pub not_both : (text : List ℕ) (tokens : List Token) (at : ℕ) → IsShallow text tokens → IsTooDeep text tokens at → ⊥
not_both text tokens at shallow (i, opening, deep, before, is) =
    let behind : length tokens ≤ i = first_is text tokens i (length tokens) opening deep shallow in
    true≢false (sym opening ∙ ap (λ (y : Lexeme). is_opening (form y)) (at_end text tokens i behind))
