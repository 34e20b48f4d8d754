-- A text has one list of tokens or one refusal of its tokens, and these one syntax or one refusal of it. By the laws of the
-- lexer and of the parser.
use Rattle.std.proofs.Common.{◌≡◌, ◌⊎◌, ◌<◌, ◌≤◌, ℕ, List, length, map, Option, Some, None, Result, Ok, Err, true, false, arith, inl, inr, refl, sym, ap, subst, ◌∙◌}
use Rattle.std.proofs.lemmas.Bool.{cases_lt, cases_order}
use Rattle.std.proofs.lemmas.List.{length-map, get_or_past}
use Rattle.std.proofs.lemmas.Option.{none-some, some_pair_parts}
use Rattle.guard_lexer.specs.Lexes as lex
use Rattle.guard_lexer.specs.declared.token.Token.{Token}
use Rattle.guard_lexer.specs.declared.token.LexRefusal.{LexRefusal}
use Rattle.guard_lexer.specs.declared.token.LexRefusal.TheVariants as lex_refusal
use Rattle.guard_lexer.proofs.Unique.{only_tokens, only_refusal}
use Rattle.guard_syntax.specs.Syntax.{File}
use Rattle.literal_parser.specs.Forms.{form, is_opening}
use Rattle.literal_parser.specs.Lexemes.{lexemes, lexeme_of, ending}
use Rattle.literal_parser.specs.Brackets.{IsShallowTo, open_before}
use Rattle.guard_parser.specs.File.{Rules, IsSpelledBy, IsSpelled, IsShallow, IsTooDeep, IsDeadEnd, IsBadRange}
use Rattle.guard_parser.specs.declared.refusal.ParseRefusal.TheVariants as parse_refusal
use Rattle.guard_parser.proofs.Laws.{one_dead_end_is}
use Rattle.guard_ends.specs.declared.ends.RefusalKind.{RefusalKind}
use Rattle.guard_ends.specs.declared.ends.RefusalKind.TheVariants.{NestTooDeep, Syntax, BadRange}
use Rattle.guard_ends.specs.Inputs.{IsSyntax, RefusesTokens, RefusesSyntax, RefusesText, lex_kind}

-- the same kind and place
abbrev pub AreAlike : (kind : RefusalKind) (at : ℕ) (other : RefusalKind) (place : ℕ) → Type 0
AreAlike kind at other place = (kind ≡ other) × (at ≡ place)

-- the law of the parser
abbrev pub OneSyntax : Type 0
OneSyntax = (text : List ℕ) (tokens : List Token) (f g : File) (p q : Option ℕ) → IsSpelled text tokens f p → IsSpelled text tokens g q → (f ≡ g) × (p ≡ q)

-- Tokens.

pub tokens-one : (text : List ℕ) (ts us : List Token) → lex.IsTokenList text ts → lex.IsTokenList text us → ts ≡ us
tokens-one text ts us (at, bytes, starts, reads) other =
    let read : Result (List Token) LexRefusal = Ok ts in only_tokens (λ (v : List Token). v) read text at bytes starts reads tt us other

tokens-apart : (text : List ℕ) (ts : List Token) (r : LexRefusal) → lex.IsTokenList text ts → lex.IsRefused text r → ⊥
tokens-apart text ts r (at, bytes, starts, reads) bad =
    let read : Result (List Token) LexRefusal = Ok ts in only_refusal (λ (v : List Token). v) read text at bytes starts reads tt r bad

tokens-refused : (text : List ℕ) (q r : LexRefusal) → lex.IsRefused text q → lex.IsRefused text r → (q ≡ lex_refusal.NoMemory) ⊎ (q ≡ r)
tokens-refused text q r (at, bytes, starts, reads) other =
    let read : Result (List Token) LexRefusal = Err q in only_refusal (λ (v : List Token). v) read text at bytes starts tt (inr reads) r other

lex-alike : (text : List ℕ) (kind : RefusalKind) (at : ℕ) (other : RefusalKind) (place : ℕ) → RefusesTokens text kind at → RefusesTokens text other place
    → AreAlike kind at other place
lex-alike text kind at other place (r, named, h) (q, named', h') =
    elim (tokens-refused text r q h h') [
      | inl none ↦ absurd (none-some (kind, at) (sym (ap lex_kind none) ∙ named))
      | inr same ↦ some_pair_parts kind other at place (sym named ∙ (ap lex_kind same ∙ named'))
    ]

-- Brackets.

opening-token : (text : List ℕ) (tokens : List Token) (i : ℕ) → length tokens ≤ i → is_opening (form (lexemes text tokens i)) ≡ false
opening-token text tokens i past =
    let within : length (map (lexeme_of text) tokens) ≤ i = omega (arith, length-map tokens (lexeme_of text)) in
    ap (λ l. is_opening (form l)) (get_or_past (map (lexeme_of text) tokens) i (ending text) within)

deep-apart : (text : List ℕ) (tokens : List Token) (at : ℕ) → IsTooDeep text tokens at → IsShallow text tokens → ⊥
deep-apart text tokens at (i, opens, deep, before, is) shallow =
    elim (cases_lt i (length tokens)) [
      | inl within ↦ absurd (let low : open_before (lexemes text tokens) i < 128 = shallow i within opens in omega arith)
      | inr past ↦ absurd (let both : true ≡ false = sym opens ∙ opening-token text tokens i past in cc)
    ]

deep-one : (text : List ℕ) (tokens : List Token) (at place : ℕ) → IsTooDeep text tokens at → IsTooDeep text tokens place → at ≡ place
deep-one text tokens at place (i, opens, deep, before, is) (j, opens', deep', before', is') =
    elim (cases_order i j) [
      | inl same ↦ is ∙ (ap (λ n. (lexemes text tokens n).from) same ∙ sym is')
      | inr (inl less) ↦ absurd (let low : open_before (lexemes text tokens) i < 128 = before' i less opens in omega arith)
      | inr (inr more) ↦ absurd (let low : open_before (lexemes text tokens) j < 128 = before j more opens' in omega arith)
    ]

-- Syntax.

dead-apart : (text : List ℕ) (tokens : List Token) (at : ℕ) (f : File) (mixed : Option ℕ)
    → IsDeadEnd text tokens at → IsSpelled text tokens f mixed → ⊥
dead-apart text tokens at f mixed (shallow, (k, is, none)) spelled =
    let s = lexemes text tokens in
    let same : length tokens ≡ length (map (lexeme_of text) tokens) = sym (length-map tokens (lexeme_of text)) in
    none (map (lexeme_of text) tokens) (ending text) f mixed refl (λ i _. refl) (subst (λ n. IsSpelledBy s n f mixed) same spelled)
    (subst (λ n. IsShallowTo s n) same shallow)

-- why the parser refuses, by the kind
abbrev pub SyntaxWhy : List ℕ → List Token → RefusalKind → ℕ → Type 0
SyntaxWhy text tokens kind at =
    ((kind ≡ NestTooDeep) × IsTooDeep text tokens at) ⊎ ((kind ≡ Syntax) × IsDeadEnd text tokens at) ⊎ ((kind ≡ BadRange) × IsBadRange text tokens at)

syntax-why : (text : List ℕ) (tokens : List Token) (kind : RefusalKind) (at : ℕ) → RefusesSyntax text tokens kind at → SyntaxWhy text tokens kind at
syntax-why text tokens kind at (parse_refusal.NestTooDeep place, named, h) =
    let same = some_pair_parts NestTooDeep kind place at named in inl (sym same.0, subst (IsTooDeep text tokens) same.1 h)
syntax-why text tokens kind at (parse_refusal.Syntax place, named, h) =
    let same = some_pair_parts Syntax kind place at named in inr (inl (sym same.0, subst (IsDeadEnd text tokens) same.1 h))
syntax-why text tokens kind at (parse_refusal.BadRange place, named, h) =
    let same = some_pair_parts BadRange kind place at named in inr (inr (sym same.0, subst (IsBadRange text tokens) same.1 h))
syntax-why text tokens kind at (parse_refusal.NoMemory, named, h) = absurd (none-some (kind, at) named)

range-one : OneSyntax → (text : List ℕ) (tokens : List Token) (at place : ℕ) → IsBadRange text tokens at → IsBadRange text tokens place → at ≡ place
range-one law text tokens at place (shallow, (f, spelled)) (shallow', (g, spelled')) =
    let same : Some at ≡ Some place = (law text tokens f g (Some at) (Some place) spelled spelled').1 in cc

why-alike : OneSyntax → (text : List ℕ) (tokens : List Token) (kind : RefusalKind) (at : ℕ) (other : RefusalKind) (place : ℕ)
    → SyntaxWhy text tokens kind at → SyntaxWhy text tokens other place → AreAlike kind at other place
why-alike law text tokens kind at other place (inl (k, deep)) (inl (k', deep')) = (k ∙ sym k', deep-one text tokens at place deep deep')
why-alike law text tokens kind at other place (inl (k, deep)) (inr (inl (k', dead))) = absurd (deep-apart text tokens at deep dead.0)
why-alike law text tokens kind at other place (inl (k, deep)) (inr (inr (k', range))) = absurd (deep-apart text tokens at deep range.0)
why-alike law text tokens kind at other place (inr (inl (k, dead))) (inl (k', deep)) = absurd (deep-apart text tokens place deep dead.0)
why-alike law text tokens kind at other place (inr (inl (k, dead))) (inr (inl (k', dead'))) =
    (k ∙ sym k', one_dead_end_is text tokens at place dead dead')
why-alike law text tokens kind at other place (inr (inl (k, dead))) (inr (inr (k', (shallow, (f, spelled))))) =
    absurd (dead-apart text tokens at f (Some place) dead spelled)
why-alike law text tokens kind at other place (inr (inr (k, range))) (inl (k', deep)) = absurd (deep-apart text tokens place deep range.0)
why-alike law text tokens kind at other place (inr (inr (k, (shallow, (f, spelled))))) (inr (inl (k', dead))) =
    absurd (dead-apart text tokens place f (Some at) dead spelled)
why-alike law text tokens kind at other place (inr (inr (k, range))) (inr (inr (k', range'))) =
    (k ∙ sym k', range-one law text tokens at place range range')

-- what is refused so has no syntax
why-apart : OneSyntax → (text : List ℕ) (tokens : List Token) (kind : RefusalKind) (at : ℕ) (f : File)
    → SyntaxWhy text tokens kind at → Rules text tokens f → ⊥
why-apart law text tokens kind at f (inl (k, deep)) spelled = deep-apart text tokens at deep spelled.0
why-apart law text tokens kind at f (inr (inl (k, dead))) spelled = dead-apart text tokens at f None dead spelled.1
why-apart law text tokens kind at f (inr (inr (k, (shallow, (g, spelled'))))) spelled =
    let both : None ≡ Some at = (law text tokens f g None (Some at) spelled.1 spelled').1 in cc

-- Texts.

pub syntax-one : OneSyntax → (text : List ℕ) (f g : File) → IsSyntax text f → IsSyntax text g → f ≡ g
syntax-one law text f g (ts, listed, spelled) (us, listed', spelled') =
    let same : us ≡ ts = tokens-one text us ts listed' listed in
    (law text ts f g None None spelled.1 (subst (λ (ws : List Token). Rules text ws g) same spelled').1).0

pub text-alike : OneSyntax → (text : List ℕ) (kind : RefusalKind) (at : ℕ) (other : RefusalKind) (place : ℕ)
    → RefusesText text kind at → RefusesText text other place → AreAlike kind at other place
text-alike law text kind at other place (inl h) (inl h') = lex-alike text kind at other place h h'
text-alike law text kind at other place (inl (r, named, h)) (inr (us, listed, h')) = absurd (tokens-apart text us r listed h)
text-alike law text kind at other place (inr (ts, listed, h)) (inl (r, named, h')) = absurd (tokens-apart text ts r listed h')
text-alike law text kind at other place (inr (ts, listed, h)) (inr (us, listed', h')) =
    let same : us ≡ ts = tokens-one text us ts listed' listed in
    why-alike law text ts kind at other place (syntax-why text ts kind at h)
    (syntax-why text ts other place (subst (λ (ws : List Token). RefusesSyntax text ws other place) same h'))

pub text-apart : OneSyntax → (text : List ℕ) (kind : RefusalKind) (at : ℕ) (f : File) → RefusesText text kind at → IsSyntax text f → ⊥
text-apart law text kind at f (inl (r, named, h)) (us, listed, spelled) = tokens-apart text us r listed h
text-apart law text kind at f (inr (ts, listed, h)) (us, listed', spelled) =
    let same : us ≡ ts = tokens-one text us ts listed' listed in
    why-apart law text ts kind at f (syntax-why text ts kind at h) (subst (λ (ws : List Token). Rules text ws f) same spelled)
