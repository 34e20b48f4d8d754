-- The lexemes of the text of generated rules are their pieces, so many as stand before their end; and at which of them sites begin. By induction on pieces and rules.
use Rattle.std.proofs.Common.{◌≡◌, ℕ, suc, ◌+◌, ◌<◌, List, [], ◌∷◌, length, get_or, refl, ap, ◌∙◌, arith}
use Rattle.doc_values.specs.declared.kind.Kind.{Kind}
use Rattle.doc_values.specs.declared.kind.Kind.TheVariants as kind
use Rattle.guard_lexer.specs.declared.token.Mark.TheVariants as mark
use Rattle.literal_parser.specs.Lexemes.{End, Lexeme}
use Rattle.rule_generator.specs.GeneratedRules.{KeptKey, TypeRule}
use Rattle.rule_generator.specs.code.GeneratedPieces.{keys_pieces, more_values, new_line, rules_pieces, scalar_piece, value_pieces}
use Rattle.rule_meaning.specs.Values.{Value}
use Rattle.rule_spelling.specs.code.Pieces.{Piece, lexemes_from, tokens_from}
use Rattle.rule_spelling.specs.code.Tokens as token
use Rattle.generator_laws.specs.code.Standing.{Begin, Stands, behind_head, behind_key, behind_keys, behind_let, behind_more, behind_rule, behind_rules, behind_values, first_of_site, rules_firsts}

-- numbers of a list, by their index
begin-each : (first : ℕ → ℕ) (n : ℕ) (xs : List ℕ) → ((j : ℕ) → j < length xs → first (n + j) ≡ get_or xs j 0) → Begin first n xs
begin-each first n [] h = tt
begin-each first n (x ∷ xs) h =
    let here : n ≡ n + 0 = omega arith in
    (ap first here ∙ h 0 (omega arith), begin-each first (suc n) xs (λ j l. let on : suc n + j ≡ n + suc j = omega arith in ap first on ∙ h (suc j) (omega arith)))

pub sites-begin : (rules : List TypeRule) → Begin (first_of_site rules) 0 (0 ∷ rules_firsts 0 rules)
sites-begin rules = begin-each (first_of_site rules) 0 (0 ∷ rules_firsts 0 rules) (λ j l. let same : 0 + j ≡ j = omega arith in ap (first_of_site rules) same)

pub lexemes-stand : (s : ℕ → Lexeme) (end : Lexeme) (at i : ℕ) (ps : List Piece) → end.word ≡ End → ((j : ℕ) → s (i + j) ≡ get_or (lexemes_from at ps) j end) → Stands s i ps
lexemes-stand s end at i [] e h = let here : i ≡ i + 0 = omega arith in ap (λ (j : ℕ). (s j).word) here ∙ ap (λ (x : Lexeme). x.word) (h 0) ∙ e
lexemes-stand s end at i (p ∷ ps) e h =
    let here : i ≡ i + 0 = omega arith in (
      ap (λ (j : ℕ). (s j).word) here ∙ ap (λ (x : Lexeme). x.word) (h 0),
      lexemes-stand s end (at + length p.gap + length p.text) (suc i) ps e (λ j. let on : suc i + j ≡ i + suc j = omega arith in ap s on ∙ h (suc j)),
    )

-- ---- how many there are

pub tokens-long : (at : ℕ) (ps : List Piece) → length (tokens_from at ps) ≡ length ps
tokens-long at [] = refl
tokens-long at (p ∷ ps) = ap (λ (n : ℕ). suc n) (tokens-long (at + length p.gap + length p.text) ps)

scalar-long : (gap : List ℕ) (kd : Kind) (text : List ℕ) (rest : List Piece) → length (scalar_piece gap kd text rest) ≡ suc (length rest)
scalar-long gap kind.Text text rest = refl
scalar-long gap (kind.Whole n) text rest = refl
scalar-long gap (kind.Fraction d) text rest = refl
scalar-long gap (kind.Truth b) text rest = refl
scalar-long gap kind.Null text rest = refl
scalar-long gap kind.List text rest = refl
scalar-long gap kind.Map text rest = refl
scalar-long gap kind.Pattern text rest = refl
scalar-long gap (kind.Limits r) text rest = refl

more-long : (i : ℕ) (vs : List Value) (rest : List Piece) → i + length (more_values vs rest) ≡ behind_more i vs + length rest
more-long i [] rest = refl
more-long i (v ∷ vs) rest = let one = scalar-long token.space v.kind v.text (more_values vs rest) in let more = more-long (suc (suc i)) vs rest in omega arith

values-long : (i : ℕ) (vs : List Value) (rest : List Piece) → i + length (value_pieces vs rest) ≡ behind_values i vs + length rest
values-long i [] rest = refl
values-long i (v ∷ vs) rest = let one = scalar-long [] v.kind v.text (more_values vs rest) in let more = more-long (suc i) vs rest in omega arith

keys-long : (i k : ℕ) (keys : List KeptKey) (rest : List Piece) → i + length (keys_pieces k keys rest) ≡ behind_keys i keys + length rest
keys-long i k [] rest = refl
keys-long i k (kept ∷ keys) rest =
    let values = values-long (suc (suc (suc (suc (suc (suc (suc i))))))) kept.values (token.mark [] mark.RBracket (keys_pieces k keys rest)) in
    let more = keys-long (behind_key i kept) k keys rest in
    omega arith

pub rules-long : (gap : List ℕ) (i k : ℕ) (rules : List TypeRule) → i + length (rules_pieces gap k rules) ≡ behind_rules i rules
rules-long gap i k [] = omega arith
rules-long gap i k (rule ∷ rules) =
    let keys = keys-long (behind_head (behind_let i)) k rule.keys (token.mark new_line mark.RBrace (rules_pieces new_line (suc k) rules)) in
    let more = rules-long new_line (behind_rule i rule) (suc k) rules in
    omega arith
