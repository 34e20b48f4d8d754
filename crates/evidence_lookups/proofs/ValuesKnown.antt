-- The root of the template is known; whose a body is.
use Rattle.std.proofs.Common.{◌≡◌, ℕ, ◌<◌, Bool, true, false, List, Some, nat_lt, refl, ap, sym, ◌∙◌, arith, true≢false}
use Rattle.std.specs.Prelude.{slice_index_or}
use Rattle.std.proofs.lemmas.Bool.Decides.{nat_tests}
use Rattle.doc_values.specs.Tree.{Forest, IsTree, Nil, Node, size}
use Rattle.evidence_lines.specs.declared.line.Line.{Line}
use Rattle.guard_syntax.specs.code.Seen.{see_body}
use Rattle.guard_syntax.specs.declared.row.Ref.{Ref}
use Rattle.guard_syntax.specs.declared.syntax.Body.{Body, out-Body}
use Rattle.rule_names.specs.Pieces.{OfBody, piece_at}
use Rattle.rule_meaning.specs.StoreModel.{StoreModel, is_known_ref}
use Rattle.evidence_rules.specs.CitedLines.{body_site}
use Rattle.rule_meaning.specs.Roots.{root_ref}
use Rattle.evidence_lookups.specs.declared.owners.Owner.{Owner}
use Rattle.evidence_lookups.specs.declared.owners.Owners.{Owners}
use Rattle.evidence_lookups.specs.code.Owned.{MarkOwned, IsOwned, marks_of}
use Rattle.evidence_lookups.proofs.PartsSeen.{body-site}

-- a tree has a root
pub tree-root : (tree : Forest) → IsTree tree → 0 < size tree
tree-root Nil one = absurd (omega (arith, one.one))
tree-root (Node l kids rest) one = omega arith

pub root-known : (known : StoreModel) (v : Ref) → v ≡ root_ref → IsTree known.template → is_known_ref known v ≡ true
root-known known v is tree =
    let within = tree-root known.template tree in
    let inside : nat_lt 0 (size known.template) ≡ true = grind (arith, nat_tests) in
    rw (is, inside) refl

-- ---- whose a body is, by the tables

module _ (known : StoreModel) (lines : List Line) (owners : Owners) (o : Owner) (site : ℕ) (b : Body) (owns : Bool) (are : MarkOwned known.file owners)
    (placed : piece_at known.file site ≡ Some (OfBody (see_body b))) (marked : owns ≡ slice_index_or (marks_of owners o) (out-Body b).site false) where
  mark-is : owns ≡ slice_index_or (marks_of owners o) (body_site (see_body b)) false
  mark-is = marked ∙ ap (λ (n : ℕ). slice_index_or (marks_of owners o) n false) (sym (body-site b))

  pub owner-is : owns ≡ true → IsOwned known lines o (see_body b)
  owner-is holds = (are o known lines site (see_body b) refl placed).0 (sym mark-is ∙ holds)

  pub owner-not : owns ≡ false → IsOwned known lines o (see_body b) → ⊥
  owner-not fails owned = true≢false (sym ((are o known lines site (see_body b) refl placed).1 owned) ∙ sym mark-is ∙ fails)
