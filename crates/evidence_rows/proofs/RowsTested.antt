-- A test of rows, one row further: a row that decides it, and one that does not.
use Rattle.std.proofs.Common.{◌≡◌, ◌+◌, ℕ, suc, ◌<◌, ◌≤◌, Bool, true, false, not, ◌&&◌, ◌||◌, List, [], ◌∷◌, length, drop, get_or, refl, ap, sym, ◌∙◌, add-one, drop-cons, if◌then◌else◌}
use Rattle.std.specs.List.{list_all, list_any}
use Rattle.std.proofs.lemmas.Bool.{true≢false}
use Rattle.std.proofs.lemmas.List.{drop_all}
use mathlib.Core.Bool.{beq}
use Rattle.guard_syntax.specs.declared.row.Row.{Row}
use Rattle.guard_syntax.specs.declared.row.Verdict.{Verdict}
use Rattle.guard_syntax.specs.declared.row.Verdict.TheVariants.{Skip}
use Rattle.rule_meaning.specs.Verdicts.{pass_if, test_verdict}
use Rattle.evidence_rows.specs.code.TestedRows.{holds_for}

module _ (holds : Row → Bool) where
  decided : (any b : Bool) (row : Row) (rows : List Row) → b ≡ holds row → beq b any ≡ true → any ≡ holds_for any holds (row ∷ rows)
  decided true true row rows is same = sym (ap (λ (c : Bool). c || list_any holds rows) (sym is))
  decided true false row rows is same = absurd (true≢false (sym same))
  decided false true row rows is same = absurd (true≢false (sym same))
  decided false false row rows is same = sym (ap (λ (c : Bool). c && list_all holds rows) (sym is))

  left_open : (any b : Bool) (row : Row) (rows : List Row) → b ≡ holds row → beq b any ≡ false → holds_for any holds (row ∷ rows) ≡ holds_for any holds rows
  left_open true true row rows is other = absurd (true≢false other)
  left_open true false row rows is other = ap (λ (c : Bool). c || list_any holds rows) (sym is)
  left_open false true row rows is other = ap (λ (c : Bool). c && list_all holds rows) (sym is)
  left_open false false row rows is other = absurd (true≢false other)

  module _ (any : Bool) (rows : List Row) (i : ℕ) (so_far : holds_for any holds rows ≡ holds_for any holds (drop i rows)) where
    pub row-decides : (b : Bool) (d : Row) → i < length rows → b ≡ holds (get_or rows i d) → beq b any ≡ true → any ≡ holds_for any holds rows
    row-decides b d within is same =
        decided any b (get_or rows i d) (drop (suc i) rows) is same ∙ sym (so_far ∙ ap (holds_for any holds) (drop-cons rows i d within))

    pub row-leaves : (b : Bool) (d : Row) → i < length rows → b ≡ holds (get_or rows i d) → beq b any ≡ false → holds_for any holds rows ≡ holds_for any holds (drop (i + 1) rows)
    row-leaves b d within is other =
        so_far ∙ ap (holds_for any holds) (drop-cons rows i d within) ∙ left_open any b (get_or rows i d) (drop (suc i) rows) is other
        ∙ ap (λ (n : ℕ). holds_for any holds (drop n rows)) (sym (add-one i))

    none-left : (a : Bool) → not a ≡ holds_for a holds []
    none-left true = refl
    none-left false = refl

    pub rows-leave : length rows ≤ i → not any ≡ holds_for any holds rows
    rows-leave past = none-left any ∙ sym (so_far ∙ ap (holds_for any holds) (drop_all i rows past))

-- ---- the verdict

pub tested : (any : Bool) (holds : Row → Bool) (rows : List Row) → (rows ≡ [] → ⊥) → (b : Bool) → b ≡ holds_for any holds rows → pass_if b ≡ test_verdict any holds rows
tested any holds [] some b is = absurd (some refl)
tested true holds (row ∷ rows) some b is = ap pass_if is
tested false holds (row ∷ rows) some b is = ap pass_if is

pub untested : (any : Bool) (holds : Row → Bool) (rows : List Row) → rows ≡ [] → Skip ≡ test_verdict any holds rows
untested any holds [] none = refl
untested any holds (row ∷ rows) none = absurd cc

-- which of two tests it is
pub as-set : (r set : Bool) (one other v : Verdict) → r ≡ set → r ≡ true → v ≡ one → v ≡ (if set then one else other)
as-set r set one other v is on e = e ∙ ap (λ (b : Bool). if b then one else other) (sym on ∙ is)

pub as-each : (r set : Bool) (one other v : Verdict) → r ≡ set → r ≡ false → v ≡ other → v ≡ (if set then one else other)
as-each r set one other v is off e = e ∙ ap (λ (b : Bool). if b then one else other) (sym off ∙ is)
