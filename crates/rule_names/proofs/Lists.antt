-- Lists of parts as the code has them: the last that begins at or before a site has what stands there.
use Rattle.std.proofs.Common.{◌≡◌, ℕ, suc, refl, ap, sym, ◌∙◌, subst, List, [], ◌∷◌, ◌++◌, get_or, map, None}
use Rattle.std.specs.List.Sorted.{IsNonDecreasingBy}
use Rattle.guard_syntax.specs.Syntax as sx
use Rattle.guard_syntax.specs.declared.syntax.Let.{Let}
use Rattle.guard_syntax.specs.declared.syntax.Rule.{Rule}
use Rattle.guard_syntax.specs.declared.syntax.Part.{Part}
use Rattle.guard_syntax.specs.declared.syntax.Step.{Step}
use Rattle.guard_syntax.specs.declared.syntax.Disj.{Disj}
use Rattle.guard_syntax.specs.declared.syntax.Expr.{Expr}
use Rattle.guard_syntax.specs.code.Seen.{see_step, see_disj, see_rule, see_let, see_part, see_expr, step_list, disj_list, let_list, part_list, expr_list}
use Rattle.guard_syntax.specs.Sites.{merge, sites_body, sites_lets, sites_let, sites_conds, sites_opt_conds, sites_disjs, sites_disj, sites_parts, sites_part, sites_query, sites_steps, sites_step, sites_expr, sites_opt_expr, sites_exprs, sites_rule, sites_rules}
use Rattle.rule_names.specs.Pieces.{Sited, piece_in, pieces_lets, pieces_let, pieces_disjs, pieces_disj, pieces_parts, pieces_part, pieces_steps, pieces_step, pieces_expr, pieces_exprs, pieces_rule, pieces_rules}
use Rattle.rule_names.specs.code.IncreasingSites.{IsIncreasing, first_site, IsLast, AllBehind}
use Rattle.rule_names.proofs.Parts.{Begins, Ties}
use Rattle.rule_names.proofs.Tied.{tied-let, tied-disj, tied-part, tied-step, tied-expr, tied-rule}
use Rattle.rule_names.proofs.Behind.{all_sites, all_pieces, sorted, rises, chosen, none}

-- ---- each part begins with its own site

pub begins-let : (x : sx.Let) → Begins (sites_let x)
begins-let (sx.assign n name e) = record { rest = sites_expr e; are = refl }

pub begins-rule : (x : sx.Rule) → Begins (sites_rule x)
begins-rule x = record { rest = sites_opt_conds x.cond ++ sites_body x.body; are = refl }

pub begins-body : (x : sx.Body) → Begins (sites_body x)
begins-body (sx.body n ls ds) = record { rest = merge (sites_lets ls) (sites_disjs ds); are = refl }

pub begins-disj : (x : sx.Disj) → Begins (sites_disj x)
begins-disj (sx.disj n ps) = record { rest = sites_parts ps; are = refl }

pub begins-part : (x : sx.Part) → Begins (sites_part x)
begins-part (sx.block n any q b) = record { rest = sites_query q ++ sites_body b; are = refl }
begins-part (sx.guarded n c b) = record { rest = sites_conds c ++ sites_body b; are = refl }
begins-part (sx.kinds n name c b) = record { rest = sites_opt_conds c ++ sites_body b; are = refl }
begins-part (sx.test n any q op negated right message) = record { rest = sites_query q ++ sites_opt_expr right; are = refl }
begins-part (sx.refer n negated name message) = record { rest = []; are = refl }
begins-part (sx.call n negated name es message) = record { rest = sites_exprs es; are = refl }

begins-query : (x : sx.Query) → Begins (sites_query x)
begins-query (sx.query n ss) = record { rest = sites_steps ss; are = refl }

pub begins-step : (x : sx.Step) → Begins (sites_step x)
begins-step (sx.this n) = record { rest = []; are = refl }
begins-step (sx.var n name) = record { rest = []; are = refl }
begins-step (sx.key n name) = record { rest = []; are = refl }
begins-step (sx.index n at) = record { rest = []; are = refl }
begins-step (sx.every n) = record { rest = []; are = refl }
begins-step (sx.items n) = record { rest = []; are = refl }
begins-step (sx.splice n name) = record { rest = []; are = refl }
begins-step (sx.filter n capture c) = record { rest = sites_conds c; are = refl }
begins-step (sx.keys n capture op negated e) = record { rest = sites_expr e; are = refl }

pub begins-expr : (x : sx.Expr) → Begins (sites_expr x)
begins-expr (sx.literal n tree) = record { rest = []; are = refl }
begins-expr (sx.function n name es) = record { rest = sites_exprs es; are = refl }
begins-expr (sx.asked q) = begins-query q
begins-expr (sx.found n q) = record { rest = sites_query q; are = refl }

-- ---- lets

abbrev let_sites : Let → List ℕ
let_sites x = sites_let (see_let x)

abbrev let_pieces : ℕ → Let → List Sited
let_pieces i x = pieces_let (see_let x)

let_begins : (x : Let) → Begins (let_sites x)
let_begins x = begins-let (see_let x)

let_tied : (i : ℕ) (x : Let) → Ties (let_pieces i x) (let_sites x)
let_tied i x = tied-let (see_let x)

lets_sites : (xs : List Let) → all_sites let_sites xs ≡ sites_lets (let_list (map see_let xs))
lets_sites [] = refl
lets_sites (x ∷ xs) = ap (λ (l : List ℕ). let_sites x ++ l) (lets_sites xs)

lets_pieces : (i : ℕ) (xs : List Let) → all_pieces let_pieces i xs ≡ pieces_lets (let_list (map see_let xs))
lets_pieces i [] = refl
lets_pieces i (x ∷ xs) = ap (λ (l : List Sited). let_pieces i x ++ l) (lets_pieces (suc i) xs)

lets_rise : (xs : List Let) → IsIncreasing (sites_lets (let_list (map see_let xs))) → IsIncreasing (all_sites let_sites xs)
lets_rise xs h = subst IsIncreasing (sym (lets_sites xs)) h

pub lets-sorted : (xs : List Let) → IsIncreasing (sites_lets (let_list (map see_let xs))) → IsNonDecreasingBy (λ (x : Let). first_site (sites_let (see_let x))) xs
lets-sorted xs h = sorted let_sites let_pieces let_begins let_tied xs (lets_rise xs h)

pub lets-rise : (n : ℕ) (xs : List Let) (i : ℕ) (x : Let) → IsIncreasing (sites_lets (let_list (map see_let xs))) → IsLast (λ (y : Let). first_site (sites_let (see_let y))) n xs i → x ≡ get_or xs i x → IsIncreasing (sites_let (see_let x))
lets-rise n xs i x h last is = rises let_sites let_pieces let_begins let_tied xs i x (lets_rise xs h) last.within is

pub lets-chosen : (n : ℕ) (xs : List Let) (i : ℕ) (x : Let) → IsIncreasing (sites_lets (let_list (map see_let xs))) → IsLast (λ (y : Let). first_site (sites_let (see_let y))) n xs i → x ≡ get_or xs i x
    → piece_in (pieces_let (see_let x)) n ≡ piece_in (pieces_lets (let_list (map see_let xs))) n
lets-chosen n xs i x h last is = sym (chosen let_sites let_pieces let_begins let_tied n xs i x (lets_rise xs h) last is) ∙ ap (λ (l : List Sited). piece_in l n) (lets_pieces 0 xs)

pub lets-none : (n : ℕ) (xs : List Let) → IsIncreasing (sites_lets (let_list (map see_let xs))) → AllBehind (λ (y : Let). first_site (sites_let (see_let y))) n xs → None ≡ piece_in (pieces_lets (let_list (map see_let xs))) n
lets-none n xs h later = sym (none let_sites let_pieces let_begins let_tied n xs (lets_rise xs h) later) ∙ ap (λ (l : List Sited). piece_in l n) (lets_pieces 0 xs)

-- ---- disjs

abbrev disj_sites : Disj → List ℕ
disj_sites x = sites_disj (see_disj x)

abbrev disj_pieces : ℕ → Disj → List Sited
disj_pieces i x = pieces_disj (see_disj x)

disj_begins : (x : Disj) → Begins (disj_sites x)
disj_begins x = begins-disj (see_disj x)

disj_tied : (i : ℕ) (x : Disj) → Ties (disj_pieces i x) (disj_sites x)
disj_tied i x = tied-disj (see_disj x)

disjs_sites : (xs : List Disj) → all_sites disj_sites xs ≡ sites_disjs (disj_list (map see_disj xs))
disjs_sites [] = refl
disjs_sites (x ∷ xs) = ap (λ (l : List ℕ). disj_sites x ++ l) (disjs_sites xs)

disjs_pieces : (i : ℕ) (xs : List Disj) → all_pieces disj_pieces i xs ≡ pieces_disjs (disj_list (map see_disj xs))
disjs_pieces i [] = refl
disjs_pieces i (x ∷ xs) = ap (λ (l : List Sited). disj_pieces i x ++ l) (disjs_pieces (suc i) xs)

disjs_rise : (xs : List Disj) → IsIncreasing (sites_disjs (disj_list (map see_disj xs))) → IsIncreasing (all_sites disj_sites xs)
disjs_rise xs h = subst IsIncreasing (sym (disjs_sites xs)) h

pub disjs-sorted : (xs : List Disj) → IsIncreasing (sites_disjs (disj_list (map see_disj xs))) → IsNonDecreasingBy (λ (x : Disj). first_site (sites_disj (see_disj x))) xs
disjs-sorted xs h = sorted disj_sites disj_pieces disj_begins disj_tied xs (disjs_rise xs h)

pub disjs-rise : (n : ℕ) (xs : List Disj) (i : ℕ) (x : Disj) → IsIncreasing (sites_disjs (disj_list (map see_disj xs))) → IsLast (λ (y : Disj). first_site (sites_disj (see_disj y))) n xs i → x ≡ get_or xs i x → IsIncreasing (sites_disj (see_disj x))
disjs-rise n xs i x h last is = rises disj_sites disj_pieces disj_begins disj_tied xs i x (disjs_rise xs h) last.within is

pub disjs-chosen : (n : ℕ) (xs : List Disj) (i : ℕ) (x : Disj) → IsIncreasing (sites_disjs (disj_list (map see_disj xs))) → IsLast (λ (y : Disj). first_site (sites_disj (see_disj y))) n xs i → x ≡ get_or xs i x
    → piece_in (pieces_disj (see_disj x)) n ≡ piece_in (pieces_disjs (disj_list (map see_disj xs))) n
disjs-chosen n xs i x h last is = sym (chosen disj_sites disj_pieces disj_begins disj_tied n xs i x (disjs_rise xs h) last is) ∙ ap (λ (l : List Sited). piece_in l n) (disjs_pieces 0 xs)

pub disjs-none : (n : ℕ) (xs : List Disj) → IsIncreasing (sites_disjs (disj_list (map see_disj xs))) → AllBehind (λ (y : Disj). first_site (sites_disj (see_disj y))) n xs → None ≡ piece_in (pieces_disjs (disj_list (map see_disj xs))) n
disjs-none n xs h later = sym (none disj_sites disj_pieces disj_begins disj_tied n xs (disjs_rise xs h) later) ∙ ap (λ (l : List Sited). piece_in l n) (disjs_pieces 0 xs)

-- ---- parts

abbrev part_sites : Part → List ℕ
part_sites x = sites_part (see_part x)

abbrev part_pieces : ℕ → Part → List Sited
part_pieces i x = pieces_part (see_part x)

part_begins : (x : Part) → Begins (part_sites x)
part_begins x = begins-part (see_part x)

part_tied : (i : ℕ) (x : Part) → Ties (part_pieces i x) (part_sites x)
part_tied i x = tied-part (see_part x)

parts_sites : (xs : List Part) → all_sites part_sites xs ≡ sites_parts (part_list (map see_part xs))
parts_sites [] = refl
parts_sites (x ∷ xs) = ap (λ (l : List ℕ). part_sites x ++ l) (parts_sites xs)

parts_pieces : (i : ℕ) (xs : List Part) → all_pieces part_pieces i xs ≡ pieces_parts (part_list (map see_part xs))
parts_pieces i [] = refl
parts_pieces i (x ∷ xs) = ap (λ (l : List Sited). part_pieces i x ++ l) (parts_pieces (suc i) xs)

parts_rise : (xs : List Part) → IsIncreasing (sites_parts (part_list (map see_part xs))) → IsIncreasing (all_sites part_sites xs)
parts_rise xs h = subst IsIncreasing (sym (parts_sites xs)) h

pub parts-sorted : (xs : List Part) → IsIncreasing (sites_parts (part_list (map see_part xs))) → IsNonDecreasingBy (λ (x : Part). first_site (sites_part (see_part x))) xs
parts-sorted xs h = sorted part_sites part_pieces part_begins part_tied xs (parts_rise xs h)

pub parts-rise : (n : ℕ) (xs : List Part) (i : ℕ) (x : Part) → IsIncreasing (sites_parts (part_list (map see_part xs))) → IsLast (λ (y : Part). first_site (sites_part (see_part y))) n xs i → x ≡ get_or xs i x → IsIncreasing (sites_part (see_part x))
parts-rise n xs i x h last is = rises part_sites part_pieces part_begins part_tied xs i x (parts_rise xs h) last.within is

pub parts-chosen : (n : ℕ) (xs : List Part) (i : ℕ) (x : Part) → IsIncreasing (sites_parts (part_list (map see_part xs))) → IsLast (λ (y : Part). first_site (sites_part (see_part y))) n xs i → x ≡ get_or xs i x
    → piece_in (pieces_part (see_part x)) n ≡ piece_in (pieces_parts (part_list (map see_part xs))) n
parts-chosen n xs i x h last is = sym (chosen part_sites part_pieces part_begins part_tied n xs i x (parts_rise xs h) last is) ∙ ap (λ (l : List Sited). piece_in l n) (parts_pieces 0 xs)

pub parts-none : (n : ℕ) (xs : List Part) → IsIncreasing (sites_parts (part_list (map see_part xs))) → AllBehind (λ (y : Part). first_site (sites_part (see_part y))) n xs → None ≡ piece_in (pieces_parts (part_list (map see_part xs))) n
parts-none n xs h later = sym (none part_sites part_pieces part_begins part_tied n xs (parts_rise xs h) later) ∙ ap (λ (l : List Sited). piece_in l n) (parts_pieces 0 xs)

-- ---- exprs

abbrev expr_sites : Expr → List ℕ
expr_sites x = sites_expr (see_expr x)

abbrev expr_pieces : ℕ → Expr → List Sited
expr_pieces i x = pieces_expr (see_expr x)

expr_begins : (x : Expr) → Begins (expr_sites x)
expr_begins x = begins-expr (see_expr x)

expr_tied : (i : ℕ) (x : Expr) → Ties (expr_pieces i x) (expr_sites x)
expr_tied i x = tied-expr (see_expr x)

exprs_sites : (xs : List Expr) → all_sites expr_sites xs ≡ sites_exprs (expr_list (map see_expr xs))
exprs_sites [] = refl
exprs_sites (x ∷ xs) = ap (λ (l : List ℕ). expr_sites x ++ l) (exprs_sites xs)

exprs_pieces : (i : ℕ) (xs : List Expr) → all_pieces expr_pieces i xs ≡ pieces_exprs (expr_list (map see_expr xs))
exprs_pieces i [] = refl
exprs_pieces i (x ∷ xs) = ap (λ (l : List Sited). expr_pieces i x ++ l) (exprs_pieces (suc i) xs)

exprs_rise : (xs : List Expr) → IsIncreasing (sites_exprs (expr_list (map see_expr xs))) → IsIncreasing (all_sites expr_sites xs)
exprs_rise xs h = subst IsIncreasing (sym (exprs_sites xs)) h

pub exprs-sorted : (xs : List Expr) → IsIncreasing (sites_exprs (expr_list (map see_expr xs))) → IsNonDecreasingBy (λ (x : Expr). first_site (sites_expr (see_expr x))) xs
exprs-sorted xs h = sorted expr_sites expr_pieces expr_begins expr_tied xs (exprs_rise xs h)

pub exprs-rise : (n : ℕ) (xs : List Expr) (i : ℕ) (x : Expr) → IsIncreasing (sites_exprs (expr_list (map see_expr xs))) → IsLast (λ (y : Expr). first_site (sites_expr (see_expr y))) n xs i → x ≡ get_or xs i x → IsIncreasing (sites_expr (see_expr x))
exprs-rise n xs i x h last is = rises expr_sites expr_pieces expr_begins expr_tied xs i x (exprs_rise xs h) last.within is

pub exprs-chosen : (n : ℕ) (xs : List Expr) (i : ℕ) (x : Expr) → IsIncreasing (sites_exprs (expr_list (map see_expr xs))) → IsLast (λ (y : Expr). first_site (sites_expr (see_expr y))) n xs i → x ≡ get_or xs i x
    → piece_in (pieces_expr (see_expr x)) n ≡ piece_in (pieces_exprs (expr_list (map see_expr xs))) n
exprs-chosen n xs i x h last is = sym (chosen expr_sites expr_pieces expr_begins expr_tied n xs i x (exprs_rise xs h) last is) ∙ ap (λ (l : List Sited). piece_in l n) (exprs_pieces 0 xs)

pub exprs-none : (n : ℕ) (xs : List Expr) → IsIncreasing (sites_exprs (expr_list (map see_expr xs))) → AllBehind (λ (y : Expr). first_site (sites_expr (see_expr y))) n xs → None ≡ piece_in (pieces_exprs (expr_list (map see_expr xs))) n
exprs-none n xs h later = sym (none expr_sites expr_pieces expr_begins expr_tied n xs (exprs_rise xs h) later) ∙ ap (λ (l : List Sited). piece_in l n) (exprs_pieces 0 xs)

-- ---- rules

abbrev rule_sites : Rule → List ℕ
rule_sites x = sites_rule (see_rule x)

abbrev rule_pieces : ℕ → Rule → List Sited
rule_pieces i x = pieces_rule (see_rule x)

rule_begins : (x : Rule) → Begins (rule_sites x)
rule_begins x = begins-rule (see_rule x)

rule_tied : (i : ℕ) (x : Rule) → Ties (rule_pieces i x) (rule_sites x)
rule_tied i x = tied-rule (see_rule x)

rules_sites : (xs : List Rule) → all_sites rule_sites xs ≡ sites_rules (map see_rule xs)
rules_sites [] = refl
rules_sites (x ∷ xs) = ap (λ (l : List ℕ). rule_sites x ++ l) (rules_sites xs)

rules_pieces : (i : ℕ) (xs : List Rule) → all_pieces rule_pieces i xs ≡ pieces_rules (map see_rule xs)
rules_pieces i [] = refl
rules_pieces i (x ∷ xs) = ap (λ (l : List Sited). rule_pieces i x ++ l) (rules_pieces (suc i) xs)

rules_rise : (xs : List Rule) → IsIncreasing (sites_rules (map see_rule xs)) → IsIncreasing (all_sites rule_sites xs)
rules_rise xs h = subst IsIncreasing (sym (rules_sites xs)) h

pub rules-sorted : (xs : List Rule) → IsIncreasing (sites_rules (map see_rule xs)) → IsNonDecreasingBy (λ (x : Rule). first_site (sites_rule (see_rule x))) xs
rules-sorted xs h = sorted rule_sites rule_pieces rule_begins rule_tied xs (rules_rise xs h)

pub rules-rise : (n : ℕ) (xs : List Rule) (i : ℕ) (x : Rule) → IsIncreasing (sites_rules (map see_rule xs)) → IsLast (λ (y : Rule). first_site (sites_rule (see_rule y))) n xs i → x ≡ get_or xs i x → IsIncreasing (sites_rule (see_rule x))
rules-rise n xs i x h last is = rises rule_sites rule_pieces rule_begins rule_tied xs i x (rules_rise xs h) last.within is

pub rules-chosen : (n : ℕ) (xs : List Rule) (i : ℕ) (x : Rule) → IsIncreasing (sites_rules (map see_rule xs)) → IsLast (λ (y : Rule). first_site (sites_rule (see_rule y))) n xs i → x ≡ get_or xs i x
    → piece_in (pieces_rule (see_rule x)) n ≡ piece_in (pieces_rules (map see_rule xs)) n
rules-chosen n xs i x h last is = sym (chosen rule_sites rule_pieces rule_begins rule_tied n xs i x (rules_rise xs h) last is) ∙ ap (λ (l : List Sited). piece_in l n) (rules_pieces 0 xs)

pub rules-none : (n : ℕ) (xs : List Rule) → IsIncreasing (sites_rules (map see_rule xs)) → AllBehind (λ (y : Rule). first_site (sites_rule (see_rule y))) n xs → None ≡ piece_in (pieces_rules (map see_rule xs)) n
rules-none n xs h later = sym (none rule_sites rule_pieces rule_begins rule_tied n xs (rules_rise xs h) later) ∙ ap (λ (l : List Sited). piece_in l n) (rules_pieces 0 xs)

-- ---- steps of a query

abbrev step_sites : Step → List ℕ
step_sites x = sites_step (see_step x)

abbrev step_pieces : sx.Query → ℕ → Step → List Sited
step_pieces q i x = pieces_step q i (see_step x)

step_begins : (x : Step) → Begins (step_sites x)
step_begins x = begins-step (see_step x)

step_tied : (q : sx.Query) (i : ℕ) (x : Step) → Ties (step_pieces q i x) (step_sites x)
step_tied q i x = tied-step q i (see_step x)

steps_sites : (xs : List Step) → all_sites step_sites xs ≡ sites_steps (step_list (map see_step xs))
steps_sites [] = refl
steps_sites (x ∷ xs) = ap (λ (l : List ℕ). step_sites x ++ l) (steps_sites xs)

steps_pieces : (q : sx.Query) (i : ℕ) (xs : List Step) → all_pieces (step_pieces q) i xs ≡ pieces_steps q i (step_list (map see_step xs))
steps_pieces q i [] = refl
steps_pieces q i (x ∷ xs) = ap (λ (l : List Sited). step_pieces q i x ++ l) (steps_pieces q (suc i) xs)

steps_rise : (xs : List Step) → IsIncreasing (sites_steps (step_list (map see_step xs))) → IsIncreasing (all_sites step_sites xs)
steps_rise xs h = subst IsIncreasing (sym (steps_sites xs)) h

abbrev nowhere : sx.Query
nowhere = sx.query 0 sx.no_steps

pub steps-sorted : (xs : List Step) → IsIncreasing (sites_steps (step_list (map see_step xs))) → IsNonDecreasingBy (λ (x : Step). first_site (sites_step (see_step x))) xs
steps-sorted xs h = sorted step_sites (step_pieces nowhere) step_begins (step_tied nowhere) xs (steps_rise xs h)

pub steps-rise : (n : ℕ) (xs : List Step) (i : ℕ) (x : Step) → IsIncreasing (sites_steps (step_list (map see_step xs))) → IsLast (λ (y : Step). first_site (sites_step (see_step y))) n xs i → x ≡ get_or xs i x → IsIncreasing (sites_step (see_step x))
steps-rise n xs i x h last is = rises step_sites (step_pieces nowhere) step_begins (step_tied nowhere) xs i x (steps_rise xs h) last.within is

pub steps-chosen : (q : sx.Query) (n : ℕ) (xs : List Step) (i : ℕ) (x : Step) → IsIncreasing (sites_steps (step_list (map see_step xs))) → IsLast (λ (y : Step). first_site (sites_step (see_step y))) n xs i → x ≡ get_or xs i x
    → piece_in (pieces_step q i (see_step x)) n ≡ piece_in (pieces_steps q 0 (step_list (map see_step xs))) n
steps-chosen q n xs i x h last is = sym (chosen step_sites (step_pieces q) step_begins (step_tied q) n xs i x (steps_rise xs h) last is) ∙ ap (λ (l : List Sited). piece_in l n) (steps_pieces q 0 xs)

pub steps-none : (q : sx.Query) (n : ℕ) (xs : List Step) → IsIncreasing (sites_steps (step_list (map see_step xs))) → AllBehind (λ (y : Step). first_site (sites_step (see_step y))) n xs → None ≡ piece_in (pieces_steps q 0 (step_list (map see_step xs))) n
steps-none q n xs h later = sym (none step_sites (step_pieces q) step_begins (step_tied q) n xs (steps_rise xs h) later) ∙ ap (λ (l : List Sited). piece_in l n) (steps_pieces q 0 xs)
