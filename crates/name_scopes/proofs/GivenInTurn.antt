-- The names that each type of the code gives to the scope around it, part of it by part of it.
use Rattle.std.proofs.Common.{◌≡◌, ℕ, ◌+◌, ◌<◌, ◌≤◌, Bool, List, [], ◌∷◌, ◌++◌, map, drop, get_or, length, Option, sym, ap, ◌∙◌, rules}
use Rattle.std.proofs.lemmas.List.{append-nil, append_assoc, drop_more, drop_all}
use Rattle.std.specs.declared.vec.Vec.{Vec}
use Rattle.std.specs.declared.alloc.Global.{Global}
use Rattle.guard_syntax.specs.Named.{Named}
use Rattle.guard_syntax.specs.Syntax as sx
use Rattle.guard_syntax.specs.declared.syntax.Op.{Op}
use Rattle.guard_syntax.specs.declared.syntax.Body.{the_lemmas}
use Rattle.guard_syntax.specs.declared.syntax.Conds.{Conds, out-Conds}
use Rattle.guard_syntax.specs.declared.syntax.Query.{Query, out-Query}
use Rattle.guard_syntax.specs.declared.syntax.Part.{Part}
use Rattle.guard_syntax.specs.declared.syntax.Part as part
use Rattle.guard_syntax.specs.declared.syntax.Rule.{Rule}
use Rattle.guard_syntax.specs.declared.syntax.Step.{Step}
use Rattle.guard_syntax.specs.declared.syntax.StepForm.{StepForm}
use Rattle.guard_syntax.specs.declared.syntax.Disj.{Disj}
use Rattle.guard_syntax.specs.declared.syntax.Expr.{Expr}
use Rattle.guard_syntax.specs.declared.syntax.Expr as expr
use Rattle.guard_syntax.specs.code.Seen.{Form, see_form, see_step, see_disj, see_conds, see_part, see_query, see_rule, see_expr, see_opt_expr, step_list, disj_list, part_list, expr_list}
use Rattle.rule_names.specs.Scopes.{Given, capture_if, given_rules, given_conds, given_disjs, given_disj, given_parts, given_part, given_query, given_steps, given_step, given_expr, given_opt_expr, given_exprs}
use Rattle.name_scopes.proofs.ScopeShapes.{side-seen}
use Rattle.rule_names.proofs.Shapes.{disj-seen, conds-seen, query-seen, step-seen, function-seen}

-- ---- lists, item by item

pub next : {X : Type 0} (all : List X → List Given) (each : X → List Given) → ((y : X) (ys : List X) → all (y ∷ ys) ≡ each y ++ all ys)
    → (xs : List X) (i : ℕ) (x : X) (start old new : List Given) → i < length xs → x ≡ get_or xs i x → new ≡ old ++ each x → old ++ all (drop i xs) ≡ start
    → new ++ all (drop (i + 1) xs) ≡ start
next all each split xs i x start old new within is added so =
    ap (λ (l : List Given). l ++ all (drop (i + 1) xs)) added
    ∙ append_assoc old (each x) (all (drop (i + 1) xs))
    ∙ ap (λ (l : List Given). old ++ l) (sym (split x (drop (i + 1) xs)) ∙ ap (λ y. all (y ∷ drop (i + 1) xs)) is ∙ ap all (sym (drop_more xs i x within)))
    ∙ so

pub end : {X : Type 0} (all : List X → List Given) → all [] ≡ [] → (xs : List X) (i : ℕ) (start old : List Given) → length xs ≤ i → old ++ all (drop i xs) ≡ start → old ≡ start
end all none xs i start old past so = sym (append-nil old) ∙ ap (λ (l : List Given). old ++ l) (sym none ∙ ap all (sym (drop_all i xs past))) ∙ so

abbrev pub of_disjs : List Disj → List Given
of_disjs xs = given_disjs (disj_list (map see_disj xs))

abbrev pub of_parts : List Part → List Given
of_parts xs = given_parts (part_list (map see_part xs))

abbrev pub of_steps : List Step → List Given
of_steps xs = given_steps (step_list (map see_step xs))

abbrev pub of_exprs : List Expr → List Given
of_exprs xs = given_exprs (expr_list (map see_expr xs))

abbrev pub of_rules : List Rule → List Given
of_rules xs = given_rules (map see_rule xs)

-- ---- what stands in one part

pub conds-given : (c : Conds) (ds : List Disj) → ds ≡ (out-Conds c).parts.items → of_disjs ds ≡ given_conds (see_conds c)
conds-given c ds are = ap of_disjs are ∙ ap (λ (y : sx.Conds). given_conds y) (sym (conds-seen c))

pub disj-given : (d : Disj) (ps : List Part) → ps ≡ d.parts.items → of_parts ps ≡ given_disj (see_disj d)
disj-given d ps are = ap of_parts are ∙ ap (λ (y : sx.Disj). given_disj y) (sym (disj-seen d))

pub query-given : (q : Query) (ss : List Step) → ss ≡ (out-Query q).steps.items → of_steps ss ≡ given_query (see_query q)
query-given q ss are = ap of_steps are ∙ ap (λ (y : sx.Query). given_query y) (sym (query-seen q))

pub part-given : (x : Part) (p : sx.Part) → see_part x ≡ p → given_part p ≡ given_part (see_part x)
part-given x p is = ap (λ (y : sx.Part). given_part y) (sym is)

pub expr-given : (x : Expr) (e : sx.Expr) → see_expr x ≡ e → given_expr e ≡ given_expr (see_expr x)
expr-given x e is = ap (λ (y : sx.Expr). given_expr y) (sym is)

pub function-given : (x : Expr) (site : ℕ) (name : List ℕ) (args : Vec Expr Global) (es : List Expr) → x ≡ expr.Function site name args → es ≡ args.items → of_exprs es ≡ given_expr (see_expr x)
function-given x site name args es is are = ap of_exprs are ∙ expr-given x _ (ap see_expr is ∙ function-seen site name args)

pub asked-given : (x : Expr) (q : Query) → x ≡ expr.Query q → given_query (see_query q) ≡ given_expr (see_expr x)
asked-given x q is = expr-given x (sx.asked (see_query q)) (ap see_expr is ∙ search (rules, the_lemmas))

pub found-given : (x : Expr) (site : ℕ) (q : Query) → x ≡ expr.Found site q → given_query (see_query q) ≡ given_expr (see_expr x)
found-given x site q is = expr-given x (sx.found site (see_query q)) (ap see_expr is ∙ search (rules, the_lemmas))

-- the names of the left side of a test, and then those of its right side
pub test-given : (start first : List Given) (x : Part) (site : ℕ) (any : Bool) (left : Query) (op : Op) (negated : Bool) (right : Option Expr) (message : Option (List ℕ)) → x ≡ part.Test site any left op negated right message
    → first ≡ start ++ given_query (see_query left) → first ++ given_opt_expr (see_opt_expr right) ≡ start ++ given_part (see_part x)
test-given start first x site any left op negated right message is added =
    ap (λ (l : List Given). l ++ given_opt_expr (see_opt_expr right)) added
    ∙ append_assoc start (given_query (see_query left)) (given_opt_expr (see_opt_expr right))
    ∙ ap (λ (l : List Given). start ++ l) (part-given x _ (ap see_part is ∙ side-seen site any left op negated right message))

-- what a step of a form gives
pub form-given : (start : List Given) (s : Step) (fm : StepForm) (fn : Form) → s.form ≡ fm → see_form fm ≡ fn → start ++ given_step (fn s.site) ≡ start ++ given_step (see_step s)
form-given start s fm fn is seen = ap (λ (y : sx.Step). start ++ given_step y) (sym (step-seen s ∙ ap (λ (g : Form). g s.site) (ap see_form is ∙ seen)))

-- the capture of a step of keys, and then the names that its right side gives
pub keys-given : (start first : List Given) (s : Step) (capture : Option Named) (op : Op) (negated : Bool) (e : Expr) (fm : StepForm) → s.form ≡ fm → see_form fm ≡ (λ n. sx.keys n capture op negated (see_expr e))
    → first ≡ start ++ capture_if s.site capture → first ++ given_expr (see_expr e) ≡ start ++ given_step (see_step s)
keys-given start first s capture op negated e fm is seen added =
    ap (λ (l : List Given). l ++ given_expr (see_expr e)) added
    ∙ append_assoc start (capture_if s.site capture) (given_expr (see_expr e))
    ∙ form-given start s fm (λ n. sx.keys n capture op negated (see_expr e)) is seen
