-- In the text of generated rules at most two brackets are open. By induction on pieces and rules.
use Rattle.std.proofs.Common.{◌≡◌, ℕ, suc, ◌+◌, ◌<◌, ◌≤◌, inl, inr, Bool, true, false, List, [], ◌∷◌, length, Option, Some, None, refl, ap, ◌∙◌, subst, sym, arith, ℤ, bytes_eq, codes, if◌then◌else◌}
use Rattle.std.proofs.lemmas.Bool.{cases_eq, cases_lt}
use Rattle.doc_values.specs.declared.kind.Kind.{Kind}
use Rattle.doc_values.specs.declared.kind.Kind.TheVariants as kind
use Rattle.guard_lexer.specs.declared.token.Mark.TheVariants as mark
use Rattle.guard_lexer.specs.declared.token.TokenKind.{TokenKind}
use Rattle.guard_lexer.specs.declared.token.TokenKind.TheVariants as token_kind
use Rattle.literal_parser.specs.Brackets.{open_before, open_behind}
use Rattle.literal_parser.specs.declared.keyword.Keyword.{Keyword}
use Rattle.literal_parser.specs.declared.keyword.Keyword.TheVariants as kw
use Rattle.literal_parser.specs.Forms.{form, is_index_number, keyword_form, mark_form, name_form, whole_form, word_form}
use Rattle.literal_parser.specs.Lexemes.{Lexeme, Word, keyword_of, name_word, word_of}
use Rattle.rule_generator.specs.GeneratedRules.{KeptKey, TypeRule}
use Rattle.rule_generator.specs.code.GeneratedPieces.{keys_pieces, more_values, new_line, rules_pieces, scalar_piece, value_pieces}
use Rattle.rule_meaning.specs.Values.{Value}
use Rattle.rule_spelling.specs.code.Pieces.{Piece}
use Rattle.rule_spelling.specs.code.Tokens as token
use Rattle.generator_laws.specs.code.Standing.{Stands}

-- how many brackets are open behind a token: marks alone are brackets
abbrev open_after : TokenKind → ℕ → ℕ
open_after (token_kind.Mark sign) d = open_behind (mark_form sign) d
open_after _ d = d

keyword-open : (keyword : Keyword) (d : ℕ) → open_behind (keyword_form keyword) d ≡ d
keyword-open kw.Let d = refl
keyword-open kw.Rule d = refl
keyword-open kw.True d = refl
keyword-open kw.False d = refl
keyword-open kw.Null d = refl
keyword-open kw.When d = refl
keyword-open kw.Some d = refl
keyword-open kw.Or d = refl
keyword-open kw.Not d = refl
keyword-open kw.Keys d = refl
keyword-open kw.This d = refl
keyword-open kw.In d = refl
keyword-open kw.Exists d = refl
keyword-open kw.Empty d = refl
keyword-open kw.IsString d = refl
keyword-open kw.IsList d = refl
keyword-open kw.IsStruct d = refl
keyword-open kw.IsBool d = refl
keyword-open kw.IsInt d = refl
keyword-open kw.IsFloat d = refl
keyword-open kw.IsNull d = refl

name-open : (name : List ℕ) (d : ℕ) → open_behind (name_form name) d ≡ d
name-open name d = by (bytes_eq name (codes "r")) (bytes_eq name (codes "default"))
  where
    by : (a b : Bool) → open_behind (if a then 60 else (if b then 61 else 1)) d ≡ d
    by true b = refl
    by false true = refl
    by false false = refl

word-open : (o : Option Keyword) (name : List ℕ) (d : ℕ) → open_behind (word_form (name_word o name)) d ≡ d
word-open None name d = name-open name d
word-open (Some keyword) name d = keyword-open keyword d

whole-open : (n : ℤ) (d : ℕ) → open_behind (whole_form n) d ≡ d
whole-open n d = by (is_index_number n)
  where
    by : (b : Bool) → open_behind (if b then 6 else 9) d ≡ d
    by true = refl
    by false = refl

opened-after : (kd : TokenKind) (text : List ℕ) (d : ℕ) → open_behind (word_form (word_of kd text)) d ≡ open_after kd d
opened-after token_kind.Name text d = word-open (keyword_of text) text d
opened-after token_kind.TypeName text d = refl
opened-after token_kind.Var text d = refl
opened-after token_kind.Str text d = refl
opened-after token_kind.Pat text d = refl
opened-after token_kind.Note text d = refl
opened-after (token_kind.Whole n) text d = whole-open n d
opened-after (token_kind.Fraction e) text d = refl
opened-after (token_kind.Mark sign) text d = refl

-- before none of the pieces more are open than may be
abbrev AreLow : ℕ → List Piece → Type 0
AreLow d [] = Unit {0}
AreLow d (p ∷ ps) = (d < 128) × AreLow (open_after p.kind d) ps

low-open : (s : ℕ → Lexeme) (i d : ℕ) (ps : List Piece) → Stands s i ps → open_before s i ≡ d → AreLow d ps → (j : ℕ) → i ≤ j → j < i + length ps → open_before s j < 128
low-open s i d [] h e low j l m = absurd (omega arith)
low-open s i d (p ∷ ps) h e low j l m = elim (cases_eq j i) [
  | inl same ↦ let small : d < 128 = low.0 in subst (λ (x : ℕ). open_before s x < 128) (sym same) (subst (λ (x : ℕ). x < 128) (sym e) small)
  | inr other ↦
      let next : open_before s (suc i) ≡ open_after p.kind d =
      ap (λ (x : ℕ). open_behind (form (s i)) x) e ∙ ap (λ (w : Word). open_behind (word_form w) d) h.0 ∙ opened-after p.kind p.text d in
      low-open s (suc i) (open_after p.kind d) ps h.1 next low.1 j (above i j l other) (omega arith)
]
  where
    above : (i j : ℕ) → i ≤ j → (j ≡ i → ⊥) → suc i ≤ j
    above i j l other = elim (cases_lt i j) [
      | inl less ↦ omega arith
      | inr least ↦ absurd (other (omega arith))
    ]

scalar-low : (gap : List ℕ) (kd : Kind) (text : List ℕ) (rest : List Piece) (d : ℕ) → d < 128 → AreLow d rest → AreLow d (scalar_piece gap kd text rest)
scalar-low gap kind.Text text rest d small low = (small, low)
scalar-low gap (kind.Whole n) text rest d small low = (small, low)
scalar-low gap (kind.Fraction e) text rest d small low = (small, low)
scalar-low gap (kind.Truth b) text rest d small low = (small, low)
scalar-low gap kind.Null text rest d small low = (small, low)
scalar-low gap kind.List text rest d small low = (small, low)
scalar-low gap kind.Map text rest d small low = (small, low)
scalar-low gap kind.Pattern text rest d small low = (small, low)
scalar-low gap (kind.Limits r) text rest d small low = (small, low)

more-low : (vs : List Value) (rest : List Piece) (d : ℕ) → d < 128 → AreLow d rest → AreLow d (more_values vs rest)
more-low [] rest d small low = low
more-low (v ∷ vs) rest d small low = (small, scalar-low token.space v.kind v.text (more_values vs rest) d small (more-low vs rest d small low))

values-low : (vs : List Value) (rest : List Piece) (d : ℕ) → d < 128 → AreLow d rest → AreLow d (value_pieces vs rest)
values-low [] rest d small low = low
values-low (v ∷ vs) rest d small low = scalar-low [] v.kind v.text (more_values vs rest) d small (more-low vs rest d small low)

-- the tests of keys stand in one brace
keys-low : (k : ℕ) (keys : List KeptKey) (rest : List Piece) → AreLow 1 rest → AreLow 1 (keys_pieces k keys rest)
keys-low k [] rest low = low
keys-low k (kept ∷ keys) rest low =
    (omega arith, (omega arith, (omega arith, (omega arith, (omega arith, (omega arith, (omega arith, values-low kept.values (token.mark [] mark.RBracket (keys_pieces k keys rest)) 2 (omega arith) (omega arith, keys-low k keys rest low))))))))

rules-low : (gap : List ℕ) (k : ℕ) (rules : List TypeRule) → AreLow 0 (rules_pieces gap k rules)
rules-low gap k [] = tt
rules-low gap k (rule ∷ rules) =
    (omega arith, (omega arith, (omega arith, (omega arith, (omega arith, (omega arith, (omega arith, (omega arith, (omega arith, (omega arith, (omega arith, (omega arith, (omega arith, (omega arith, (omega arith, (omega arith, (omega arith, (omega arith, keys-low k rule.keys (token.mark new_line mark.RBrace (rules_pieces new_line (suc k) rules)) (omega arith, rules-low new_line (suc k) rules)))))))))))))))))))

pub file-low : (s : ℕ → Lexeme) (rules : List TypeRule) → Stands s 0 (rules_pieces [] 1 rules) → (j : ℕ) → j < length (rules_pieces [] 1 rules) → open_before s j < 128
file-low s rules h j l = low-open s 0 0 (rules_pieces [] 1 rules) h refl (rules-low [] 1 rules) j (omega arith) (omega arith)
