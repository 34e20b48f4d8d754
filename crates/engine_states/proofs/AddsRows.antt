-- Lines of rows follow by what the lines that they cite say: a case for each kind.
use Rattle.std.proofs.Common.{◌≡◌, ℕ, true, refl, sym, ap, ◌∙◌, subst, arith, List, [], ◌∷◌, Option, Some, option_and_then}
use Rattle.std.specs.Prelude.{◌&&◌, nat_lt}
use Rattle.std.specs.List.{list_all}
use Rattle.std.proofs.lemmas.Bool.Decides.{nat_tests}
use Rattle.doc_values.specs.Tree.{Forest, IsTree, size}
use Rattle.evidence_lines.specs.declared.line.LineKind.TheVariants as kind
use Rattle.evidence_lines.specs.declared.line.Outcome.TheVariants as says
use Rattle.guard_syntax.specs.Syntax.{literal}
use Rattle.guard_syntax.specs.declared.row.Row.{Row}
use Rattle.guard_syntax.specs.declared.row.Row.TheVariants.{Found}
use Rattle.rule_names.specs.EnclosingScopes.{home_of}
use Rattle.rule_names.specs.Pieces.{OfExpr, Piece}
use Rattle.rule_meaning.specs.Roots.{literal_ref}
use Rattle.rule_meaning.specs.StoreModel.{StoreModel, is_known, is_known_ref, literal_at, tree_of_piece}
use Rattle.evidence_rules.specs.Follows.{FollowsRows}
use Rattle.engine_states.specs.code.Adding.{Adds}
use Rattle.engine_states.specs.code.Answers.{StandsIn}
use Rattle.engine_states.specs.code.States.{IsWhole, State}
use Rattle.engine_states.proofs.EnteredLines.{IsTree-root}
use Rattle.engine_states.proofs.Finished.{adds-in}

known-literal : (k : StoreModel) (site : ℕ) (tree : Forest) → literal_at k.file site ≡ Some tree → IsTree tree → is_known_ref k (literal_ref site) ≡ true
known-literal k site tree there one =
    let root = IsTree-root tree one in
    let inside : nat_lt 0 (size tree) ≡ true = grind (arith, nat_tests) in
    rw (there, inside) refl

module _ (s : State) (whole : IsWhole s) (frame site : ℕ) where
  -- the line of a literal
  pub adds-literal : (tree : Forest) (cites : List ℕ) (rows : List Row) → StandsIn s frame (site, OfExpr (literal site tree)) → IsTree tree → cites ≡ []
      → rows ≡ Found (literal_ref site) ∷ [] → Adds s frame site kind.Literal cites (says.Rows rows)
  adds-literal tree cites rows stands one none is =
      adds-in s whole frame (home_of s.known.file site) stands.scope_is site kind.Literal cites (says.Rows rows) refl
      (ap (list_all (is_known s.known)) is
      ∙ ap (λ b. b && true) (known-literal s.known site tree (ap (option_and_then tree_of_piece) stands.there) one))
      (λ at framed. subst (λ (p : Option Piece). FollowsRows s.known s.lines at site kind.Literal p cites rows []) (sym stands.there) (none, is, refl))
