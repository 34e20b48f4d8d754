-- What a line of an expression that stands alone says is known, where it follows.
use Rattle.std.proofs.Common.{◌≡◌, ℕ, ◌<◌, Bool, true, false, nat_lt, List, [], ◌∷◌, rules, arith, Option, Some, refl, ap, ◌∙◌, filter, option_and_then, sym, true≢false}
use Rattle.std.specs.List.{list_all}
use Rattle.std.specs.Prelude.{MatchBool}
use Rattle.std.proofs.lemmas.Bool.{and_from}
use Rattle.std.proofs.lemmas.Bool.Decides.{nat_tests}
use Rattle.std.proofs.lemmas.List.Elements.{All-filter}
use Rattle.std.proofs.lemmas.List.Sums.{AllPass-from_list_all, list_all-from_AllPass}
use Rattle.doc_values.specs.Tree.{Forest, IsTree, size}
use Rattle.evidence_lines.specs.declared.line.Line.{Line}
use Rattle.guard_syntax.specs.code.Seen.{see_expr}
use Rattle.guard_syntax.specs.Syntax as sx
use Rattle.guard_syntax.specs.declared.row.Row.{Row}
use Rattle.guard_syntax.specs.declared.row.Row.TheVariants.{Found}
use Rattle.guard_syntax.specs.declared.syntax.Expr.{Expr, the_lemmas}
use Rattle.guard_syntax.specs.declared.syntax.Expr as expr
use Rattle.rule_names.specs.Pieces.{OfExpr, Piece, piece_at}
use Rattle.rule_meaning.specs.StoreModel.{StoreModel, is_known, is_known_ref, literal_at, tree_of_piece}
use Rattle.rule_meaning.specs.Roots.{literal_ref}
use Rattle.rule_meaning.specs.Verdicts.{is_found}
use Rattle.evidence_lookups.specs.code.FoundRows.{AreFoundBy}
use Rattle.evidence_lookups.specs.code.Said.{AreSound}
use Rattle.evidence_lookups.proofs.SaidKnown.{query-said-known}
use Rattle.evidence_lookups.proofs.ValuesKnown.{tree-root}

literal-seen : (site : ℕ) (tree : Forest) → see_expr (expr.Literal site tree) ≡ sx.literal site tree
literal-seen site tree = search (rules, the_lemmas)

known-literal : (known : StoreModel) (site : ℕ) (tree : Forest) → literal_at known.file site ≡ Some tree → 0 < size tree → is_known_ref known (literal_ref site) ≡ true
known-literal known site tree there root = let inside : nat_lt 0 (size tree) ≡ true = grind (arith, nat_tests) in rw (there, inside) refl

pub literal-known : (known : StoreModel) (site n : ℕ) (e : Expr) (tree : Forest) → piece_at known.file site ≡ Some (OfExpr (see_expr e)) → e ≡ expr.Literal n tree → IsTree tree
    → (cites : List ℕ) (rows : List Row) (b : Bool) → MatchBool b ((cites ≡ []) × (rows ≡ Found (literal_ref site) ∷ [])) ((cites ≡ []) × (rows ≡ Found (literal_ref site) ∷ []) → ⊥)
    → b ≡ true → list_all (is_known known) rows ≡ true
literal-known known site n e tree stands is one cites rows false says is_true = absurd (true≢false (sym is_true))
literal-known known site n e tree stands is one cites rows true says is_true =
    let placed : piece_at known.file site ≡ Some (OfExpr (sx.literal n tree)) = stands ∙ ap (λ (x : sx.Expr). Some (OfExpr x)) (ap see_expr is ∙ literal-seen n tree) in
    let there : literal_at known.file site ≡ Some tree = ap (λ (p : Option Piece). option_and_then tree_of_piece p) placed in
    ap (list_all (is_known known)) says.1 ∙ and_from _ _ (known-literal known site tree there (tree-root tree one)) refl

pub found-known : (known : StoreModel) (lines : List Line) → AreSound known lines → (frame : ℕ) (q : sx.Query) (cites : List ℕ) (rows : List Row) (b : Bool)
    → MatchBool b (AreFoundBy known lines frame q cites rows) (AreFoundBy known lines frame q cites rows → ⊥) → b ≡ true → list_all (is_known known) rows ≡ true
found-known known lines sound frame q (c ∷ []) rows true says is_true =
    ap (list_all (is_known known)) says.2
    ∙ list_all-from_AllPass (is_known known) (filter is_found says.0)
    (All-filter is_found (λ (r : Row). is_known known r ≡ true) says.0 (AllPass-from_list_all (is_known known) says.0 (query-said-known known lines sound frame q c says.0 says.1)))
found-known known lines sound frame q [] rows true says is_true = absurd says
found-known known lines sound frame q (c ∷ d ∷ cs) rows true says is_true = absurd says
found-known known lines sound frame q cites rows false says is_true = absurd (true≢false (sym is_true))
