use Rattle.std.proofs.Common.{◌≡◌, ℕ, ◌+◌, ◌<◌, ◌≤◌, List, [], Bool, true, false, cond, map, get_or, drop, Option, Some, None, length, option_map, ap, sym, ◌∙◌, Bor}
use Rattle.std.proofs.lemmas.List.{at_drop_more, at_drop_all}
use Rattle.std.specs.Prelude.{find}
use Rattle.std.specs.Str.{bytes_eq}
use Rattle.literal_parser.specs.declared.keyword.Keyword.{Keyword}
use Rattle.literal_parser.specs.declared.keyword.Keyword.TheVariants as kw
use Rattle.literal_parser.specs.Lexemes.{keyword_in}
use Rattle.literal_parser.specs.code.TokenClasses.{spelling}
use Rattle.literal_parser.proofs.lexeme.keyword_among.Goals as goal

abbrev Row : Type 0
Row = Bor (List ℕ) × Keyword

-- a row, where one is asked for and none is meant
abbrev no_row : Row
no_row = (record { ref_ptr = (0, 0); now = [] }, kw.Let)

abbrev found : List ℕ → List Row → Option Keyword
found name rows = keyword_in (map spelling rows) name

-- what is found where the first row's test gives this
abbrev at_first : List ℕ → Row → List Row → Bool → Option Keyword
at_first name row rows b =
    option_map (λ (p : List ℕ × Keyword). p.1) (cond b (Some (spelling row)) (find (λ (p : List ℕ × Keyword). bytes_eq name p.0) (map spelling rows)))

first_found : (name : List ℕ) (rows : List Row) (i : ℕ) (b : Bool) → i < length rows → b ≡ bytes_eq name (get_or rows i no_row).0.now → b ≡ true
    → found name (drop i rows) ≡ found name rows → Some (get_or rows i no_row).1 ≡ found name rows
first_found name rows i b within e hit so_far =
    sym (ap (at_first name (get_or rows i no_row) (drop (i + 1) rows)) (sym e ∙ hit)) ∙ sym (at_drop_more (found name) rows i no_row within) ∙ so_far

first_passed : (name : List ℕ) (rows : List Row) (i : ℕ) (b : Bool) → i < length rows → b ≡ bytes_eq name (get_or rows i no_row).0.now → b ≡ false
    → found name (drop i rows) ≡ found name rows → found name (drop (i + 1) rows) ≡ found name rows
first_passed name rows i b within e miss so_far =
    sym (ap (at_first name (get_or rows i no_row) (drop (i + 1) rows)) (sym e ∙ miss)) ∙ sym (at_drop_more (found name) rows i no_row within) ∙ so_far

none_found : (name : List ℕ) (rows : List Row) (i : ℕ) → length rows ≤ i → found name (drop i rows) ≡ found name rows → None ≡ found name rows
none_found name rows i behind so_far = sym (at_drop_all (found name) rows i behind) ∙ so_far

pub loop-row-preserved : goal.loop-row-preserved
loop-row-preserved c = first_passed c.args.name.now c.args.rows.now c.loop-row.row-index c.eq.result c.loop-row-test.true c.eq.ensures c.if-eq.false c.loop-row.invariant

pub returns-then-eq : goal.returns-then-eq
returns-then-eq c = first_found c.args.name.now c.args.rows.now c.loop-row.row-index c.eq.result c.loop-row-test.true c.eq.ensures c.if-eq.true c.loop-row.invariant

pub returns : goal.returns
returns c = none_found c.args.name.now c.args.rows.now c.loop-row.row-index c.loop-row-test.false c.loop-row.invariant
