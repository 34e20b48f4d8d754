-- Depth falls from a part to those in it, and from a name to what it means: by the table of Depths, which is settled.
use Rattle.std.proofs.Common.{◌≡◌, ℕ, zero, suc, ◌+◌, ◌<◌, ◌≤◌, inl, inr, sym, ap, arith, le_of_eq, List, length, Bool, Option, Some}
use Rattle.std.proofs.lemmas.Bool.{cases_lt}
use Rattle.std.proofs.lemmas.Bool.Decides.{nat_tests}
use Rattle.std.proofs.lemmas.Option.{same_Some, none-some}
use Rattle.guard_syntax.specs.Named.{Named}
use Rattle.guard_syntax.specs.Syntax.{Conds, Expr, Exprs, File, Query, Rule, Step, Steps, call, filter, keys, more_exprs, more_steps, no_exprs, no_steps, query, refer, splice, var}
use Rattle.guard_syntax.specs.declared.syntax.Op.{Op}
use Rattle.rule_names.specs.declared.bind.Bind.TheVariants.{Value, Capture}
use Rattle.rule_names.specs.Depths.{depth_at, depth_body, depth_bound, depth_conds, depth_expr, depth_exprs, depth_opt_conds, depth_part, depth_piece, depth_query, depth_rule, depth_step, depth_steps, depth_target, depths_of, first_of_query, first_steps, larger}
use Rattle.rule_names.specs.Pieces.{AreInOrder, OfRule, OfStep, piece_at}
use Rattle.rule_names.specs.Resolution.{bind_of, target_of}
use Rattle.rule_names.specs.Uses.{expr_in}
use Rattle.rule_names.specs.WellNamed.{WellNamed}
use Rattle.rule_names.proofs.DepthTables.{depth-of-piece}
use Rattle.rule_meaning.specs.Places.{step_in, steps_in}
use Rattle.value_store.proofs.Beyond.{beyond}

below-first : (k m n : ℕ) → k ≤ m → k ≤ larger m n
below-first k m n h = grind (arith, nat_tests)

below-second : (k m n : ℕ) → k ≤ n → k ≤ larger m n
below-second k m n h = grind (arith, nat_tests)

larger-both : (k m a b : ℕ) → k ≤ m → a ≤ b → larger k a ≤ larger m b
larger-both k m a b h g = grind (arith, nat_tests)

-- ---- parts of parts

module _ (f : File) (depths : List ℕ) where
  -- an argument is no deeper than all
  pub argument-shallower : (es : Exprs) (i : ℕ) (e : Expr) → expr_in es i ≡ Some e → depth_expr f depths e ≤ depth_exprs f depths es
  argument-shallower no_exprs i e is = absurd (none-some e is)
  argument-shallower (more_exprs x es) zero e is =
      below-first (depth_expr f depths e) (depth_expr f depths x) (depth_exprs f depths es) (le_of_eq (ap (depth_expr f depths) (sym (same_Some x e is))))
  argument-shallower (more_exprs x es) (suc i) e is =
      below-second (depth_expr f depths e) (depth_expr f depths x) (depth_exprs f depths es) (argument-shallower es i e is)

  -- a step is no deeper than those up to it
  pub step-shallower : (ss : Steps) (i : ℕ) (p : Step) → step_in ss i ≡ Some p → depth_step f depths p ≤ depth_steps f depths (first_steps i ss)
  step-shallower no_steps i p is = absurd (none-some p is)
  step-shallower (more_steps s ss) zero p is = below-first (depth_step f depths p) (depth_step f depths s) 0 (le_of_eq (ap (depth_step f depths) (sym (same_Some s p is))))
  step-shallower (more_steps s ss) (suc i) p is =
      below-second (depth_step f depths p) (depth_step f depths s) (depth_steps f depths (first_steps i ss)) (step-shallower ss i p is)

  -- so it is less deep than the query up to it
  pub step-falls : (q : Query) (i : ℕ) (p : Step) → step_in (steps_in q) i ≡ Some p → depth_step f depths p < depth_query f depths (first_of_query i q)
  step-falls (query n ss) i p is = let inside = step-shallower ss i p is in omega (arith, inside)

  -- so are the conditions of a filter and the right side of a key filter
  pub conditions-fall : (q : Query) (i n : ℕ) (capture : Option Named) (c : Conds) → step_in (steps_in q) i ≡ Some (filter n capture c)
      → depth_conds f depths c < depth_query f depths (first_of_query i q)
  conditions-fall q i n capture c is = step-falls q i (filter n capture c) is

  pub right-falls : (q : Query) (i n : ℕ) (capture : Option Named) (op : Op) (negated : Bool) (e : Expr) → step_in (steps_in q) i ≡ Some (keys n capture op negated e)
      → depth_expr f depths e < depth_query f depths (first_of_query i q)
  right-falls q i n capture op negated e is = step-falls q i (keys n capture op negated e) is

  -- fewer steps are no deeper
  steps-shallower : (ss : Steps) (i j : ℕ) → i ≤ j → depth_steps f depths (first_steps i ss) ≤ depth_steps f depths (first_steps j ss)
  steps-shallower no_steps i j no_more = omega arith
  steps-shallower (more_steps s ss) zero zero no_more = omega arith
  steps-shallower (more_steps s ss) zero (suc j) no_more =
      larger-both (depth_step f depths s) (depth_step f depths s) 0 (depth_steps f depths (first_steps j ss)) (omega arith) (omega arith)
  steps-shallower (more_steps s ss) (suc i) zero no_more = absurd (omega (arith, no_more))
  steps-shallower (more_steps s ss) (suc i) (suc j) no_more =
      larger-both (depth_step f depths s) (depth_step f depths s) (depth_steps f depths (first_steps i ss)) (depth_steps f depths (first_steps j ss)) (omega arith)
      (steps-shallower ss i j (omega (arith, no_more)))

  pub earlier-shallower : (q : Query) (i j : ℕ) → i ≤ j → depth_query f depths (first_of_query i q) ≤ depth_query f depths (first_of_query j q)
  earlier-shallower (query n ss) i j no_more = let less = steps-shallower ss i j no_more in omega (arith, less)

-- ---- what names mean

module _ (f : File) (well : WellNamed f) (ordered : AreInOrder f) where
  -- what stands at a site is no deeper than the table says
  pub told-depth : (site : ℕ) → depth_piece f (depths_of f) (piece_at f site) ≤ depth_at f (depths_of f) site
  told-depth site = elim (cases_lt site (length f.places)) [
    | inl within ↦ le_of_eq (sym (depth-of-piece f well site within))
    | inr past ↦
        let none : depth_piece f (depths_of f) (piece_at f site) ≡ 0 = ap (depth_piece f (depths_of f)) (beyond f site ordered (omega (arith, past))) in
        omega (arith, none)
  ]

  -- what a let has is less deep than the use of its name
  pub value-falls : (site up value : ℕ) (name : List ℕ) → bind_of f site ≡ Some (Value up value)
      → depth_piece f (depths_of f) (piece_at f value) < depth_step f (depths_of f) (var site name)
  value-falls site up value name is =
      let same : depth_bound f (depths_of f) (bind_of f site) ≡ depth_at f (depths_of f) value = ap (depth_bound f (depths_of f)) is in
      let told = told-depth value in
      omega (arith, same, told)

  pub spliced-value-falls : (site up value : ℕ) (name : Named) → bind_of f site ≡ Some (Value up value)
      → depth_piece f (depths_of f) (piece_at f value) < depth_step f (depths_of f) (splice site name)
  spliced-value-falls site up value name is = value-falls site up value name.text is

  -- so is the query up to the step of a capture
  pub capture-falls : (site up step i : ℕ) (q : Query) (name : List ℕ) → bind_of f site ≡ Some (Capture up step) → piece_at f step ≡ Some (OfStep q i)
      → depth_query f (depths_of f) (first_of_query i q) < depth_step f (depths_of f) (var site name)
  capture-falls site up step i q name is there =
      let same : depth_bound f (depths_of f) (bind_of f site) ≡ depth_at f (depths_of f) step = ap (depth_bound f (depths_of f)) is in
      let stands : depth_piece f (depths_of f) (piece_at f step) ≡ depth_query f (depths_of f) (first_of_query i q) = ap (depth_piece f (depths_of f)) there in
      let told = told-depth step in
      omega (arith, same, stands, told)

  pub spliced-capture-falls : (site up step i : ℕ) (q : Query) (name : Named) → bind_of f site ≡ Some (Capture up step) → piece_at f step ≡ Some (OfStep q i)
      → depth_query f (depths_of f) (first_of_query i q) < depth_step f (depths_of f) (splice site name)
  spliced-capture-falls site up step i q name is there = capture-falls site up step i q name.text is there

  -- a rule is no deeper than the table says at the use of its name
  target-depth : (n site : ℕ) (r : Rule) → target_of f n ≡ Some site → piece_at f site ≡ Some (OfRule r) → depth_rule f (depths_of f) r ≤ depth_target f (depths_of f) (target_of f n)
  target-depth n site r is there =
      let same : depth_target f (depths_of f) (target_of f n) ≡ depth_at f (depths_of f) site = ap (depth_target f (depths_of f)) is in
      let stands : depth_piece f (depths_of f) (piece_at f site) ≡ depth_rule f (depths_of f) r = ap (depth_piece f (depths_of f)) there in
      let told = told-depth site in
      omega (arith, same, stands, told)

  -- so it is less deep than a reference to it
  pub referred-falls : (n site : ℕ) (r : Rule) (negated : Bool) (name : List ℕ) (message : Option (List ℕ)) → target_of f n ≡ Some site → piece_at f site ≡ Some (OfRule r)
      → depth_rule f (depths_of f) r < depth_part f (depths_of f) (refer n negated name message)
  referred-falls n site r negated name message is there = let told = target-depth n site r is there in omega (arith, told)

  -- and a called body is less deep than the call, with the arguments that weigh on it
  pub called-falls : (n site : ℕ) (r : Rule) (negated : Bool) (name : List ℕ) (es : Exprs) (message : Option (List ℕ)) → target_of f n ≡ Some site → piece_at f site ≡ Some (OfRule r)
      → depth_body f (depths_of f) r.body + depth_exprs f (depths_of f) es < depth_part f (depths_of f) (call n negated name es message)
  called-falls n site r negated name es message is there =
      let told = target-depth n site r is there in
      let inside = below-second (depth_body f (depths_of f) r.body) (depth_opt_conds f (depths_of f) r.cond) (depth_body f (depths_of f) r.body) (omega arith) in
      omega (arith, told, inside)
