-- What is found in a part: the names of the scopes in it, and the faults of the uses in it.
use Rattle.std.specs.Prelude.{ℕ, List, ◌∷◌, ◌++◌}
use Rattle.guard_syntax.specs.Named.{Named}
use Rattle.guard_syntax.specs.Syntax.{Body, Lets, Let, Conds, OptConds, Disjs, Disj, Parts, Part, Query, Steps, Step, Expr, OptExpr, Exprs, Rule, File}
use Rattle.rule_names.specs.Scopes.{Given, names_of, given_conds, given_file, scopes_body, scopes_lets, scopes_let, scopes_conds, scopes_opt_conds, scopes_disjs, scopes_disj, scopes_parts, scopes_part, scopes_query, scopes_steps, scopes_step, scopes_expr, scopes_opt_expr, scopes_exprs, scopes_rules}
use Rattle.rule_names.specs.Uses.{wrong_body, wrong_lets, wrong_let, wrong_conds, wrong_opt_conds, wrong_disjs, wrong_disj, wrong_parts, wrong_part, wrong_query, wrong_steps, wrong_step, wrong_expr, wrong_opt_expr, wrong_exprs, wrong_rules}
use Rattle.name_faults.specs.code.Found.{Firsts, found_from}

module _ (rules : List Rule) (places : List ℕ) (visible : List Given) where
  abbrev pub in_body : Firsts → List Named → Body → Firsts
  in_body best params b = found_from best (scopes_body params b) (wrong_body rules places visible params b)

  -- the conditions of a filter are a scope of their own
  abbrev pub in_filter : Firsts → Conds → Firsts
  in_filter best c = found_from best (names_of (given_conds c) ∷ scopes_conds c) (wrong_conds rules places (given_conds c ++ visible) c)

  abbrev pub in_lets : Firsts → Lets → Firsts
  in_lets best x = found_from best (scopes_lets x) (wrong_lets rules places visible x)

  abbrev pub in_let : Firsts → Let → Firsts
  in_let best x = found_from best (scopes_let x) (wrong_let rules places visible x)

  abbrev pub in_conds : Firsts → Conds → Firsts
  in_conds best x = found_from best (scopes_conds x) (wrong_conds rules places visible x)

  abbrev pub in_opt_conds : Firsts → OptConds → Firsts
  in_opt_conds best x = found_from best (scopes_opt_conds x) (wrong_opt_conds rules places visible x)

  abbrev pub in_disjs : Firsts → Disjs → Firsts
  in_disjs best x = found_from best (scopes_disjs x) (wrong_disjs rules places visible x)

  abbrev pub in_disj : Firsts → Disj → Firsts
  in_disj best x = found_from best (scopes_disj x) (wrong_disj rules places visible x)

  abbrev pub in_parts : Firsts → Parts → Firsts
  in_parts best x = found_from best (scopes_parts x) (wrong_parts rules places visible x)

  abbrev pub in_part : Firsts → Part → Firsts
  in_part best x = found_from best (scopes_part x) (wrong_part rules places visible x)

  abbrev pub in_query : Firsts → Query → Firsts
  in_query best x = found_from best (scopes_query x) (wrong_query rules places visible x)

  abbrev pub in_steps : Firsts → Steps → Firsts
  in_steps best x = found_from best (scopes_steps x) (wrong_steps rules places visible x)

  abbrev pub in_step : Firsts → Step → Firsts
  in_step best x = found_from best (scopes_step x) (wrong_step rules places visible x)

  abbrev pub in_expr : Firsts → Expr → Firsts
  in_expr best x = found_from best (scopes_expr x) (wrong_expr rules places visible x)

  abbrev pub in_opt_expr : Firsts → OptExpr → Firsts
  in_opt_expr best x = found_from best (scopes_opt_expr x) (wrong_opt_expr rules places visible x)

  abbrev pub in_exprs : Firsts → Exprs → Firsts
  in_exprs best x = found_from best (scopes_exprs x) (wrong_exprs rules places visible x)

  abbrev pub in_rules : Firsts → List Rule → Firsts
  in_rules best x = found_from best (scopes_rules x) (wrong_rules rules places visible x)

-- and in what stands in a file
abbrev pub in_items : File → Firsts → Firsts
in_items f best =
    in_disjs f.rules f.places (given_file f) (in_rules f.rules f.places (given_file f) (in_lets f.rules f.places (given_file f) best f.lets) f.rules) f.loose
