-- What a store knows is known to each store that holds its trees; and the roots of a template and of literals are known where they are trees.
use Rattle.std.proofs.Common.{◌≡◌, ℕ, true, false, true≢false, List, [], ◌∷◌, Option, Some, None, option_and_then, refl, sym, ap, ◌∙◌, arith, nat_lt}
use Rattle.std.specs.List.{list_all}
use Rattle.std.proofs.lemmas.Bool.{and_from, and_parts}
use Rattle.std.proofs.lemmas.Bool.Decides.{nat_tests}
use Rattle.doc_values.specs.Tree.{Forest, IsTree, Nil, Node, size}
use Rattle.evidence_lines.specs.declared.line.Line.{Line}
use Rattle.evidence_lines.specs.declared.line.Outcome.{Outcome}
use Rattle.evidence_lines.specs.declared.line.Outcome.TheVariants as says
use Rattle.guard_syntax.specs.Syntax.{File}
use Rattle.guard_syntax.specs.declared.row.Origin.{Origin}
use Rattle.guard_syntax.specs.declared.row.Origin.TheVariants as origin
use Rattle.guard_syntax.specs.declared.row.Ref.{Ref}
use Rattle.guard_syntax.specs.declared.row.Row.{Row}
use Rattle.guard_syntax.specs.declared.row.Row.TheVariants as row
use Rattle.rule_meaning.specs.Roots.{literal_ref, root_ref}
use Rattle.rule_meaning.specs.StoreModel.{StoreModel, is_known, is_known_ref, literal_at, stands_for, tree_of, value_in}
use Rattle.rule_meaning.specs.Values.{Value}
use Rattle.evidence_truth.specs.code.HeldTrees.{HoldsTrees}
use Rattle.evidence_truth.specs.code.KnownLines.{AreKnown, is_known_outcome}

-- ---- roots

tree-root : (tree : Forest) → IsTree tree → nat_lt 0 (size tree) ≡ true
tree-root Nil one = let none = one.one in absurd (omega (arith, none))
tree-root (Node l kids rest) one = grind (arith, nat_tests)

pub root-known : (known : StoreModel) → IsTree known.template → is_known_ref known root_ref ≡ true
root-known known tree = let there = tree-root known.template tree in rw (there) refl

pub literal-known : (known : StoreModel) (site : ℕ) (tree : Forest) → IsTree tree → literal_at known.file site ≡ Some tree → is_known_ref known (literal_ref site) ≡ true
literal-known known site tree one stands = let there = tree-root tree one in rw (stands, there) refl

-- ---- stores that hold the trees of another

module _ (held known : StoreModel) (holds : HoldsTrees held known) where
  tree-held : (o : Origin) (tree : Forest) → tree_of known o ≡ Some tree → tree_of held o ≡ Some tree
  tree-held origin.Template tree there = ap (λ (t : Forest). Some t) holds.template ∙ there
  tree-held (origin.Literal site) tree there = ap (λ (f : File). literal_at f site) holds.file ∙ there
  tree-held (origin.Made line at) tree there = holds.trees line at tree there

  no-tree : (r : Ref) → tree_of known r.origin ≡ None → is_known_ref known r ≡ true → true ≡ false
  no-tree r none is = let lost : is_known_ref known r ≡ false = rw (none) refl in sym is ∙ lost

  same-stands : (r : Ref) (o : Option Forest) → tree_of known r.origin ≡ o → is_known_ref known r ≡ true → stands_for held r ≡ stands_for known r
  same-stands r None none is = absurd (true≢false (no-tree r none is))
  same-stands r (Some tree) there is = ap (option_and_then (value_in r.node r.key)) (tree-held r.origin tree there ∙ sym there)

  ref-held : (r : Ref) → is_known_ref known r ≡ true → is_known_ref held r ≡ true
  ref-held r is = by (stands_for known r) refl
    where
      by : (o : Option Value) → stands_for known r ≡ o → is_known_ref held r ≡ true
      by None none = let lost : is_known_ref known r ≡ false = rw (none) refl in absurd (true≢false (sym is ∙ lost))
      by (Some v) there = let still = same-stands r (tree_of known r.origin) refl is ∙ there in rw (still) refl

  row-held : (x : Row) → is_known known x ≡ true → is_known held x ≡ true
  row-held (row.Found r) is = ref-held r is
  row-held (row.Missing v step) is = ref-held v is
  row-held (row.Unmade call) is = refl

  rows-held : (rows : List Row) → list_all (is_known known) rows ≡ true → list_all (is_known held) rows ≡ true
  rows-held [] all = refl
  rows-held (r ∷ rows) all =
      let both = and_parts (is_known known r) (list_all (is_known known) rows) all in
      and_from _ _ (row-held r both.0) (rows-held rows both.1)

  outcome-held : (outcome : Outcome) → is_known_outcome known outcome ≡ true → is_known_outcome held outcome ≡ true
  outcome-held (says.Value v) is = ref-held v is
  outcome-held (says.Rows rows) is = rows-held rows is
  outcome-held (says.Verdict verdict) is = refl

  pub lines-held : (lines : List Line) → AreKnown known lines → AreKnown held lines
  lines-held lines all number line stands = outcome-held line.outcome (all number line stands)
