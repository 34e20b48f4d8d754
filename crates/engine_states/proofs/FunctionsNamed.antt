-- In a file that is well named the name of each call of a function is that of one: nothing is the matter with a call, by induction over the syntax.
use Rattle.std.proofs.Common.{◌≡◌, ℕ, suc, List, [], ◌∷◌, ◌++◌, Option, Some, None, refl, subst}
use Rattle.guard_syntax.specs.Named.{Named}
use Rattle.guard_syntax.specs.Syntax.{Body, Lets, Let, Conds, OptConds, Disjs, Disj, Parts, Part, Query, Steps, Step, Expr, OptExpr, Exprs, Rule, File, body, no_lets, more_lets, assign, conds, no_conds, with_conds, no_disjs, more_disjs, disj, no_parts, more_parts, block, guarded, kinds, test, refer, call, query, no_steps, more_steps, this, var, key, index, every, items, splice, filter, keys, literal, function, asked, found, no_expr, with_expr, no_exprs, more_exprs}
use Rattle.guard_syntax.specs.declared.function.Function.{Function}
use Rattle.rule_names.specs.Faults.{first_of}
use Rattle.rule_names.specs.Duplicates.{duplicates}
use Rattle.rule_names.specs.WellNamed.{WellNamed}
use Rattle.rule_names.specs.Pieces.{Piece, OfExpr, Sited, pieces_body, pieces_lets, pieces_let, pieces_conds, pieces_opt_conds, pieces_disjs, pieces_disj, pieces_parts, pieces_part, pieces_query, pieces_steps, pieces_step, pieces_expr, pieces_opt_expr, pieces_exprs, pieces_rule, pieces_rules, pieces_file}
use Rattle.rule_names.specs.Scopes.{Given, given_file}
use Rattle.rule_names.specs.Uses.{function_named, place_of, wrong_body, wrong_conds, wrong_disj, wrong_disjs, wrong_expr, wrong_exprs, wrong_function, wrong_let, wrong_lets, wrong_opt_conds, wrong_opt_expr, wrong_part, wrong_parts, wrong_query, wrong_rule, wrong_rules, wrong_step, wrong_steps, wrong_uses}
use Rattle.rule_names.specs.code.Within.{StandsIn}
use Rattle.rule_names.proofs.Shallow.{neither, none-first}
use Rattle.engine_states.proofs.Elements.{none-both}

module _ (rules : List Rule) (places : List ℕ) where
  -- nothing is the matter with a call of a function
  abbrev IsFitExpr : Expr → Type 0
  IsFitExpr (function n name es) = wrong_function rules places (function_named name) name es (place_of rules places n) ≡ []
  IsFitExpr _ = Unit {0}

  abbrev IsFit : Piece → Type 0
  IsFit (OfExpr e) = IsFitExpr e
  IsFit _ = Unit {0}

  abbrev AreFit : List Sited → Type 0
  AreFit [] = Unit {0}
  AreFit (p ∷ ps) = IsFit p.1 × AreFit ps

  both-fit : (ps qs : List Sited) → AreFit ps → AreFit qs → AreFit (ps ++ qs)
  both-fit [] qs one other = other
  both-fit (p ∷ ps) qs one other = (one.0, both-fit ps qs one.1 other)

  later-fit : (ps qs : List Sited) → AreFit (ps ++ qs) → AreFit qs
  later-fit [] qs all = all
  later-fit (p ∷ ps) qs all = later-fit ps qs all.1

  mutual
    fit-body : (v : List Given) (params : List Named) (x : Body) → wrong_body rules places v params x ≡ [] → AreFit (pieces_body x)
    fit-body v params (body n ls ds) none =
        let parts = none-both _ _ none in
        (tt, both-fit (pieces_lets ls) (pieces_disjs ds) (fit-lets _ ls parts.0) (fit-disjs _ ds parts.1))

    fit-lets : (v : List Given) (x : Lets) → wrong_lets rules places v x ≡ [] → AreFit (pieces_lets x)
    fit-lets v no_lets none = tt
    fit-lets v (more_lets l ls) none = let parts = none-both _ _ none in both-fit (pieces_let l) (pieces_lets ls) (fit-let v l parts.0) (fit-lets v ls parts.1)

    fit-let : (v : List Given) (x : Let) → wrong_let rules places v x ≡ [] → AreFit (pieces_let x)
    fit-let v (assign n name e) none = (tt, fit-expr v e none)

    fit-conds : (v : List Given) (x : Conds) → wrong_conds rules places v x ≡ [] → AreFit (pieces_conds x)
    fit-conds v (conds n ds) none = (tt, fit-disjs v ds none)

    fit-opt_conds : (v : List Given) (x : OptConds) → wrong_opt_conds rules places v x ≡ [] → AreFit (pieces_opt_conds x)
    fit-opt_conds v no_conds none = tt
    fit-opt_conds v (with_conds c) none = fit-conds v c none

    fit-disjs : (v : List Given) (x : Disjs) → wrong_disjs rules places v x ≡ [] → AreFit (pieces_disjs x)
    fit-disjs v no_disjs none = tt
    fit-disjs v (more_disjs d ds) none = let parts = none-both _ _ none in both-fit (pieces_disj d) (pieces_disjs ds) (fit-disj v d parts.0) (fit-disjs v ds parts.1)

    fit-disj : (v : List Given) (x : Disj) → wrong_disj rules places v x ≡ [] → AreFit (pieces_disj x)
    fit-disj v (disj n ps) none = (tt, fit-parts v ps none)

    fit-parts : (v : List Given) (x : Parts) → wrong_parts rules places v x ≡ [] → AreFit (pieces_parts x)
    fit-parts v no_parts none = tt
    fit-parts v (more_parts p ps) none = let parts = none-both _ _ none in both-fit (pieces_part p) (pieces_parts ps) (fit-part v p parts.0) (fit-parts v ps parts.1)

    fit-part : (v : List Given) (x : Part) → wrong_part rules places v x ≡ [] → AreFit (pieces_part x)
    fit-part v (block n any q b) none = let parts = none-both _ _ none in (tt, both-fit (pieces_query q) (pieces_body b) (fit-query v q parts.0) (fit-body v [] b parts.1))
    fit-part v (guarded n c b) none = let parts = none-both _ _ none in (tt, both-fit (pieces_conds c) (pieces_body b) (fit-conds v c parts.0) (fit-body v [] b parts.1))
    fit-part v (kinds n name c b) none = let parts = none-both _ _ none in (tt, both-fit (pieces_opt_conds c) (pieces_body b) (fit-opt_conds v c parts.0) (fit-body v [] b parts.1))
    fit-part v (test n any q op negated right message) none =
        let parts = none-both _ _ none in (tt, both-fit (pieces_query q) (pieces_opt_expr right) (fit-query v q parts.0) (fit-opt_expr v right parts.1))
    fit-part v (refer n negated name message) none = (tt, tt)
    fit-part v (call n negated name es message) none = let parts = none-both _ _ none in (tt, fit-exprs v es parts.1)

    fit-query : (v : List Given) (x : Query) → wrong_query rules places v x ≡ [] → AreFit (pieces_query x)
    fit-query v (query n ss) none = (tt, fit-steps v (query n ss) 0 ss none)

    fit-steps : (v : List Given) (q : Query) (i : ℕ) (x : Steps) → wrong_steps rules places v x ≡ [] → AreFit (pieces_steps q i x)
    fit-steps v q i no_steps none = tt
    fit-steps v q i (more_steps p ps) none =
        let parts = none-both _ _ none in both-fit (pieces_step q i p) (pieces_steps q (suc i) ps) (fit-step v q i p parts.0) (fit-steps v q (suc i) ps parts.1)

    fit-step : (v : List Given) (q : Query) (i : ℕ) (x : Step) → wrong_step rules places v x ≡ [] → AreFit (pieces_step q i x)
    fit-step v q i (this m) none = (tt, tt)
    fit-step v q i (var m name) none = (tt, tt)
    fit-step v q i (key m name) none = (tt, tt)
    fit-step v q i (index m at) none = (tt, tt)
    fit-step v q i (every m) none = (tt, tt)
    fit-step v q i (items m) none = (tt, tt)
    fit-step v q i (splice m name) none = (tt, tt)
    fit-step v q i (filter m capture c) none = (tt, fit-conds _ c none)
    fit-step v q i (keys m capture op negated e) none = (tt, fit-expr v e none)

    fit-expr : (v : List Given) (x : Expr) → wrong_expr rules places v x ≡ [] → AreFit (pieces_expr x)
    fit-expr v (literal m tree) none = (tt, tt)
    fit-expr v (function m name es) none = let parts = none-both _ _ none in (parts.0, fit-exprs v es parts.1)
    fit-expr v (asked q) none = fit-query v q none
    fit-expr v (found m q) none = (tt, fit-query v q none)

    fit-opt_expr : (v : List Given) (x : OptExpr) → wrong_opt_expr rules places v x ≡ [] → AreFit (pieces_opt_expr x)
    fit-opt_expr v no_expr none = tt
    fit-opt_expr v (with_expr e) none = fit-expr v e none

    fit-exprs : (v : List Given) (x : Exprs) → wrong_exprs rules places v x ≡ [] → AreFit (pieces_exprs x)
    fit-exprs v no_exprs none = tt
    fit-exprs v (more_exprs e es) none = let parts = none-both _ _ none in both-fit (pieces_expr e) (pieces_exprs es) (fit-expr v e parts.0) (fit-exprs v es parts.1)

  fit-rule : (v : List Given) (r : Rule) → wrong_rule rules places v r ≡ [] → AreFit (pieces_rule r)
  fit-rule v r none =
      let parts = none-both _ _ none in (tt, both-fit (pieces_opt_conds r.cond) (pieces_body r.body) (fit-opt_conds v r.cond parts.0) (fit-body v r.params r.body parts.1))

  fit-rules : (v : List Given) (rs : List Rule) → wrong_rules rules places v rs ≡ [] → AreFit (pieces_rules rs)
  fit-rules v [] none = tt
  fit-rules v (r ∷ rs) none = let parts = none-both _ _ none in both-fit (pieces_rule r) (pieces_rules rs) (fit-rule v r parts.0) (fit-rules v rs parts.1)

file-fit : (f : File) → WellNamed f → AreFit f.rules f.places (pieces_file f)
file-fit f named =
    let none : wrong_uses f ≡ [] = none-first (wrong_uses f) (neither (first_of (duplicates f)) (first_of (wrong_uses f)) named.singles).1 in
    let parts = none-both (wrong_lets f.rules f.places (given_file f) f.lets) _ none in
    let others = none-both (wrong_rules f.rules f.places (given_file f) f.rules) _ parts.1 in (
      tt,
      both-fit f.rules f.places (pieces_lets f.lets) (pieces_rules f.rules ++ pieces_disjs f.loose) (fit-lets f.rules f.places (given_file f) f.lets parts.0)
          (both-fit f.rules f.places (pieces_rules f.rules) (pieces_disjs f.loose) (fit-rules f.rules f.places (given_file f) f.rules others.0) (fit-disjs f.rules f.places (given_file f) f.loose others.1)),
    )

-- nothing is the matter with a call that stands in the file
call-fit : (f : File) → WellNamed f → (site : ℕ) (name : List ℕ) (es : Exprs) → StandsIn f (pieces_expr (function site name es))
    → wrong_function f.rules f.places (function_named name) name es (place_of f.rules f.places site) ≡ []
call-fit f named site name es (before, after, is) =
    let all = later-fit f.rules f.places before (pieces_expr (function site name es) ++ after) (subst (AreFit f.rules f.places) is (file-fit f named)) in
    all.0

-- so its name is that of a function
pub function-there : (f : File) → WellNamed f → (site : ℕ) (name : List ℕ) (es : Exprs) → StandsIn f (pieces_expr (function site name es)) → (g : Function) × (function_named name ≡ Some g)
function-there f named site name es there = by (function_named name) refl (call-fit f named site name es there)
  where
    by : (o : Option Function) → function_named name ≡ o → wrong_function f.rules f.places o name es (place_of f.rules f.places site) ≡ [] → (g : Function) × (function_named name ≡ Some g)
    by None is none = absurd cc
    by (Some g) is none = (g, is)
