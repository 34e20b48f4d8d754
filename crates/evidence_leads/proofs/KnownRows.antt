-- What sound lines say of rows and frames is known.
use Rattle.std.proofs.Common.{◌≡◌, ℕ, ◌<◌, ◌≤◌, Bool, true, false, List, [], ◌∷◌, length, get_or, Option, Some, None, nat_lt, slice_get, unwrap_or, zero, suc, refl, arith}
use Rattle.std.specs.List.{list_all}
use Rattle.std.specs.Option.{option_map_or}
use Rattle.std.proofs.lemmas.Bool.{and_parts}
use Rattle.std.proofs.lemmas.Bool.Decides.{nat_tests}
use Rattle.doc_values.specs.Tree.{Forest, IsTree, Nil, Node, size}
use Rattle.evidence_lines.specs.Lines.{line_of}
use Rattle.evidence_lines.specs.declared.line.Line.{Line}
use Rattle.evidence_lines.specs.declared.line.Outcome.{Outcome}
use Rattle.evidence_lines.specs.declared.line.Outcome.TheVariants as says
use Rattle.guard_syntax.specs.declared.row.Ref.{Ref}
use Rattle.guard_syntax.specs.declared.row.Row.{Row}
use Rattle.rule_meaning.specs.Roots.{root_ref}
use Rattle.rule_meaning.specs.StoreModel.{StoreModel, is_known, is_known_ref}
use Rattle.evidence_rules.specs.CitedLines.{value_of}
use Rattle.evidence_lookups.specs.code.Said.{AreSound, is_known_outcome}
use Rattle.evidence_lookups.proofs.SaidKnown.{sound-line, value-said-known}
use Rattle.evidence_truth.specs.code.LineFails.{rows_cited, rows_in, rows_of_line}
use Rattle.evidence_leads.specs.code.Leads.{current_ref}

-- an element of which a test is true for all
pub passes-at : (p : Row → Bool) (xs : List Row) (i : ℕ) (d : Row) → i < length xs → list_all p xs ≡ true → p (get_or xs i d) ≡ true
passes-at p [] i d within all = absurd (omega (arith, within))
passes-at p (x ∷ xs) zero d within all = (and_parts (p x) (list_all p xs) all).0
passes-at p (x ∷ xs) (suc i) d within all = passes-at p xs i d (omega (arith, within)) (and_parts (p x) (list_all p xs) all).1

tree-root : (tree : Forest) → IsTree tree → 0 < size tree
tree-root Nil one = absurd (omega (arith, one.one))
tree-root (Node l kids rest) one = omega arith

pub root-known : (known : StoreModel) → IsTree known.template → is_known_ref known root_ref ≡ true
root-known known tree =
    let within = tree-root known.template tree in
    let inside : nat_lt 0 (size known.template) ≡ true = grind (arith, nat_tests) in
    rw (inside) refl

module _ (known : StoreModel) (lines : List Line) (sound : AreSound known lines) where
  pub line-known : (number : ℕ) → list_all (is_known known) (rows_of_line known lines number) ≡ true
  line-known number = by (line_of lines number) refl
    where
      said : (o : Outcome) → is_known_outcome known o ≡ true → list_all (is_known known) (rows_in o) ≡ true
      said (says.Rows rows) is = is
      said (says.Value v) is = refl
      said (says.Verdict verdict) is = refl

      by : (o : Option Line) → line_of lines number ≡ o → list_all (is_known known) (option_map_or (λ (l : Line). rows_in l.outcome) o []) ≡ true
      by None there = refl
      by (Some l) there = said l.outcome (sound-line known lines sound number l there).known_is

  pub cited-known : (cites : List ℕ) (i : ℕ) → list_all (is_known known) (rows_cited known lines cites i) ≡ true
  cited-known cites i = by (slice_get cites i)
    where
      by : (o : Option ℕ) → list_all (is_known known) (option_map_or (rows_of_line known lines) o []) ≡ true
      by None = refl
      by (Some c) = line-known c

  pub current-known : IsTree known.template → (frame : ℕ) → is_known_ref known (current_ref known lines (Some frame)) ≡ true
  current-known tree frame = by (value_of lines frame) refl
    where
      by : (o : Option Ref) → value_of lines frame ≡ o → is_known_ref known (unwrap_or o root_ref) ≡ true
      by None there = root-known known tree
      by (Some v) there = value-said-known known lines sound frame v there

-- nothing stands past the end
past-end : (xs : List ℕ) (i : ℕ) → length xs ≤ i → slice_get xs i ≡ None
past-end [] i past = refl
past-end (x ∷ xs) zero past = absurd (omega (arith, past))
past-end (x ∷ xs) (suc i) past = past-end xs i (omega (arith, past))

pub got-past : (xs : List ℕ) (i : ℕ) → nat_lt i (length xs) ≡ false → slice_get xs i ≡ None
got-past xs i is = past-end xs i (grind (arith, nat_tests))
