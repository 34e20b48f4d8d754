-- Arguments by their indexes as the code has them, and their sites: by induction over the list.
use Rattle.std.proofs.Common.{◌≡◌, ℕ, zero, suc, ◌<◌, ◌≤◌, refl, sym, ap, ◌∙◌, arith, List, [], ◌∷◌, length, get_or, map, Some, None, option_map}
use Rattle.std.proofs.lemmas.Option.{none-some}
use Rattle.guard_syntax.specs.Sites.{sites_expr}
use Rattle.guard_syntax.specs.Syntax.{Expr, asked, found, function, literal, query}
use Rattle.guard_syntax.specs.code.Seen.{expr_list, see_expr}
use Rattle.guard_syntax.specs.declared.syntax.Expr as code
use Rattle.rule_names.specs.code.IncreasingSites.{first_site}
use Rattle.rule_names.specs.Uses.{expr_in, expr_site}
use Rattle.scope_frames.specs.code.Cells.{arg_site}

pub expr-listed : (xs : List code.Expr) (i : ℕ) (x : code.Expr) → i < length xs → x ≡ get_or xs i x → expr_in (expr_list (map see_expr xs)) i ≡ Some (see_expr x)
expr-listed [] i x within is = absurd (omega (arith, within))
expr-listed (y ∷ xs) zero x within is = ap (λ (z : code.Expr). Some (see_expr z)) (sym is)
expr-listed (y ∷ xs) (suc i) x within is = expr-listed xs i x (omega (arith, within)) is

pub expr-counted : (xs : List code.Expr) (i : ℕ) (e : Expr) → expr_in (expr_list (map see_expr xs)) i ≡ Some e → i < length xs
expr-counted [] i e is = absurd (none-some e is)
expr-counted (x ∷ xs) zero e is = omega arith
expr-counted (x ∷ xs) (suc i) e is = let rest = expr-counted xs i e is in omega (arith, rest)

expr-past : (xs : List code.Expr) (i : ℕ) → length xs ≤ i → expr_in (expr_list (map see_expr xs)) i ≡ None
expr-past [] i past = refl
expr-past (x ∷ xs) zero past = absurd (omega (arith, past))
expr-past (x ∷ xs) (suc i) past = expr-past xs i (omega (arith, past))

first-expr : (e : Expr) → first_site (sites_expr e) ≡ expr_site e
first-expr (literal n tree) = refl
first-expr (function n name es) = refl
first-expr (asked (query n ss)) = refl
first-expr (found n q) = refl

pub arg-some : (xs : List code.Expr) (i : ℕ) (x : code.Expr) (site : ℕ) → site ≡ first_site (sites_expr (see_expr x)) → i < length xs → x ≡ get_or xs i x
    → Some site ≡ arg_site i (expr_list (map see_expr xs))
arg-some xs i x site own within is = ap (λ (n : ℕ). Some n) (own ∙ first-expr (see_expr x)) ∙ ap (option_map expr_site) (sym (expr-listed xs i x within is))

pub arg-none : (xs : List code.Expr) (i : ℕ) → length xs ≤ i → None ≡ arg_site i (expr_list (map see_expr xs))
arg-none xs i past = ap (option_map expr_site) (sym (expr-past xs i past))
