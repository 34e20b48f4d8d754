-- Each part takes a lexeme at least, and each list none or some: by recursion on the syntax.
use Rattle.std.proofs.Common.{◌≡◌, ℕ, ◌≤◌, ◌<◌, inl, inr, Bool, true, false, cond, if◌then◌else◌, refl, arith, List, [], ◌∷◌, Option, Some, None}
use Rattle.doc_values.specs.Tree.{Forest}
use Rattle.guard_syntax.specs.Named.{Named}
use Rattle.guard_syntax.specs.declared.syntax.Op.{Op}
use Rattle.guard_syntax.specs.Syntax.{Body, Lets, Let, Conds, OptConds, Disjs, Disj, Parts, Part, Query, Steps, Step, Expr, OptExpr, Exprs, Rule, body, no_lets, more_lets, assign, conds, no_conds, with_conds, no_disjs, more_disjs, disj, no_parts, more_parts, block, guarded, kinds, test, refer, call, query, no_steps, more_steps, this, var, key, index, every, items, splice, filter, keys, literal, function, asked, found, no_expr, with_expr, no_exprs, more_exprs}
use Rattle.literal_parser.specs.Lexemes.{Lexeme}
use Rattle.literal_parser.specs.States.{State}
use Rattle.literal_parser.specs.Literal.{IsLiteral}
use Rattle.guard_parser.specs.Grammar.{Sort, ALet, ARule, APart, Piece, of_sort, is_sort, body_sort, InRow, IsCapture, IsNote, IsNeg, IsOperator, IsKeysOperator, IsAny, IsNot, IsNames, IsBody, AreLets, AreDisjs, IsLet, IsConds, IsDisjs, IsOptConds, IsDisj, IsOrs, IsPart, IsRight, IsQuery, IsStart, IsSteps, IsStep, IsExpr, IsExprs, IsMoreExprs, IsHead, IsRule, AreRules}
use Rattle.literal_parser.proofs.Steps.{place}

-- each of the pieces takes a lexeme
abbrev pub AllGrow : List Piece → Type 0
AllGrow [] = Unit {0}
AllGrow (p ∷ ps) = (p.from.at < p.to.at) × AllGrow ps

by_sort : (k : Sort) (p : Piece) (ls rs ds : List Piece)
    → AllGrow (if is_sort ALet k then p ∷ ls else ls) → AllGrow (if is_sort ARule k then p ∷ rs else rs) → AllGrow (if is_sort APart k then p ∷ ds else ds)
    → (p.from.at < p.to.at) × AllGrow ls × AllGrow rs × AllGrow ds
by_sort ALet p ls rs ds l r d = (l.0, l.1, r, d)
by_sort ARule p ls rs ds l r d = (r.0, l, r.1, d)
by_sort APart p ls rs ds l r d = (d.0, l, r, d.1)

-- those of the three sorts do, so all do
pub all_grow : (ps : List Piece) → AllGrow (of_sort ALet ps) → AllGrow (of_sort ARule ps) → AllGrow (of_sort APart ps) → AllGrow ps
all_grow [] l r d = tt
all_grow (p ∷ ps) l r d = let q = by_sort p.sort p (of_sort ALet ps) (of_sort ARule ps) (of_sort APart ps) l r d in (q.0, all_grow ps q.1 q.2 q.3)

no_rule_part : (b : Bool) → cond b (Some APart) None ≡ Some ARule → ⊥
no_rule_part true e = absurd cc
no_rule_part false e = absurd cc

no_rule_body : (a b : Bool) → cond a (Some ALet) (cond b (Some APart) None) ≡ Some ARule → ⊥
no_rule_body true b e = absurd cc
no_rule_body false b e = no_rule_part b e

module _ (s : ℕ → Lexeme) where
  -- pieces in a row take what they take together
  pub row_grows : (sort : ℕ → Option Sort) (ps : List Piece) (a b : State) → InRow s sort ps a b → AllGrow ps → a.at ≤ b.at
  row_grows sort [] a b (e, d) all = let h = place d in omega arith
  row_grows sort (p ∷ ps) a b (e, d, h) (g, all) = let k = place d in let r = row_grows sort ps p.to b h all in omega arith

  no_rule : (k : Sort) (p : Piece) (ps : List Piece) (x y : Bool) → cond x (Some ALet) (cond y (Some APart) None) ≡ Some k → ps ≡ [] → (if is_sort ARule k then p ∷ ps else ps) ≡ []
  no_rule ALet p ps x y e h = h
  no_rule ARule p ps x y e h = absurd (no_rule_body x y e)
  no_rule APart p ps x y e h = h

  -- a body has no rules
  pub no_rules : (ps : List Piece) (a b : State) → InRow s body_sort ps a b → of_sort ARule ps ≡ []
  no_rules [] a b h = refl
  no_rules (p ∷ ps) a b (e, d, h) = no_rule p.sort p (of_sort ARule ps) _ _ e (no_rules ps p.to b h)

  body_row_grows : (ps : List Piece) (a b : State) → InRow s body_sort ps a b → AllGrow (of_sort ALet ps) → AllGrow (of_sort APart ps) → a.at ≤ b.at
  body_row_grows ps a b h l d = row_grows body_sort ps a b h (all_grow ps l (rw (no_rules ps a b h) tt) d)

  -- ---- what does not nest

  pub capture_grows : (c : Option Named) (a b : State) → IsCapture s c a b → a.at ≤ b.at
  capture_grows None a b (e, d) = let h = place d in omega arith
  capture_grows (Some n) a b (m, d, f) = let h = place d.2 in let g = place f.1 in omega arith

  pub note_grows : (c : Option (List ℕ)) (a b : State) → IsNote s c a b → a.at ≤ b.at
  note_grows None a b (e, d) = let h = place d in omega arith
  note_grows (Some t) a b d = let h = place d.2 in omega arith

  pub neg_grows : (v : Bool) (a b : State) → IsNeg s v a b → a.at ≤ b.at
  neg_grows true a b d = let h = place d.1 in omega arith
  neg_grows false a b (e, d) = let h = place d in omega arith

  pub operator_grows : (op : Op) (v : Bool) (a b : State) → IsOperator s op v a b → a.at < b.at
  operator_grows op v a b (inl d) = let h = place d.2 in omega arith
  operator_grows op v a b (inr (m, d, f)) = let h = neg_grows v a m d in let g = place f.2 in omega arith

  pub keys_operator_grows : (op : Op) (v : Bool) (a b : State) → IsKeysOperator s op v a b → a.at < b.at
  keys_operator_grows op v a b (inl d) = let h = place d.2 in omega arith
  keys_operator_grows op v a b (inr (m, d, f)) = let h = neg_grows v a m d in let g = place f.2 in omega arith

  pub any_grows : (full v : Bool) (a b : State) → IsAny s full v a b → a.at ≤ b.at
  any_grows full true a b d = let h = place d.1 in omega arith
  any_grows full false a b (e, d) = let h = place d in omega arith

  pub not_grows : (full v : Bool) (a b : State) → IsNot s full v a b → a.at ≤ b.at
  not_grows full true a b d = let h = place d.1 in omega arith
  not_grows full false a b (e, d) = let h = place d in omega arith

  pub names_grow : (ns : List Named) (a b : State) → IsNames s ns a b → a.at ≤ b.at
  names_grow [] a b (e, d) = let h = place d in omega arith
  names_grow (n ∷ ns) a b (c, e, (d, f, g)) = let h = place e.1 in let k = place f.2 in let r = names_grow ns d b g in omega arith

  -- given the same of literals
  module _ (literal_grows : (t : Forest) (a b : State) → IsLiteral s t a b → a.at < b.at) where
    mutual
      pub body_grows : (x : Body) (a b : State) → IsBody s x a b → a.at < b.at
      body_grows (body n ls ds) a z (b, o, (c, e, (d, (ps, row, l, p, f), h))) =
          let i = place o.1 in let j = place e.1 in let k = body_row_grows ps c d row (lets_grow ls _ l) (parts_grow ds _ p) in let m = place h.1 in omega arith

      pub lets_grow : (x : Lets) (ps : List Piece) → AreLets s x ps → AllGrow ps
      lets_grow no_lets [] h = tt
      lets_grow no_lets (p ∷ ps) h = absurd h
      lets_grow (more_lets l ls) [] h = absurd h
      lets_grow (more_lets l ls) (p ∷ ps) (h, k) = (let_grows l p.from p.to h, lets_grow ls ps k)

      pub parts_grow : (x : Disjs) (ps : List Piece) → AreDisjs s x ps → AllGrow ps
      parts_grow no_disjs [] h = tt
      parts_grow no_disjs (p ∷ ps) h = absurd h
      parts_grow (more_disjs d ds) [] h = absurd h
      parts_grow (more_disjs d ds) (p ∷ ps) (h, k) = (disj_grows true d p.from p.to h, parts_grow ds ps k)

      pub let_grows : (x : Let) (a b : State) → IsLet s x a b → a.at < b.at
      let_grows (assign n name e) a z (b, o, (c, f, (d, g, (l, h, k)))) =
          let i = place o.1 in let j = place f.1 in let m = place g.2 in let p = place h.1 in let q = expr_grows true e l z k in omega arith

      pub conds_grow : (x : Conds) (a b : State) → IsConds s x a b → a.at < b.at
      conds_grow (conds n no_disjs) a z h = absurd h
      conds_grow (conds n (more_disjs d ds)) a z (b, o, (l, f, g)) = let p = place o.1 in let r = disj_grows false d b l f in let t = disjs_grow ds l z g in omega arith

      pub disjs_grow : (x : Disjs) (a b : State) → IsDisjs s x a b → a.at ≤ b.at
      disjs_grow no_disjs a b (e, d) = let h = place d in omega arith
      disjs_grow (more_disjs d ds) a b (e, (m, f, g)) = let r = disj_grows false d a m f in let t = disjs_grow ds m b g in omega arith

      pub opt_conds_grow : (x : OptConds) (a b : State) → IsOptConds s x a b → a.at ≤ b.at
      opt_conds_grow no_conds a b (e, d) = let h = place d in omega arith
      opt_conds_grow (with_conds c) a b (m, e, f) = let h = place e.1 in let r = conds_grow c m b f in omega arith

      pub disj_grows : (full : Bool) (x : Disj) (a b : State) → IsDisj s full x a b → a.at < b.at
      disj_grows full (disj n no_parts) a z h = absurd h
      disj_grows full (disj n (more_parts p ps)) a z (b, o, (m, f, g)) = let h = place o.1 in let r = part_grows full p b m f in let t = ors_grow full ps m z g in omega arith

      pub ors_grow : (full : Bool) (x : Parts) (a b : State) → IsOrs s full x a b → a.at ≤ b.at
      ors_grow full no_parts a b (e, d) = let h = place d in omega arith
      ors_grow full (more_parts p ps) a z (b, e, (m, f, g)) = let h = place e.1 in let r = part_grows full p b m f in let t = ors_grow full ps m z g in omega arith

      pub part_grows : (full : Bool) (x : Part) (a b : State) → IsPart s full x a b → a.at < b.at
      part_grows full (block n any q x) a z (v, (b, o, (c, i, (d, f, g)))) =
          let h = place o.1 in let j = any_grows full any b c i in let r = query_grows q c d f in let t = body_grows x d z g in omega arith
      part_grows full (guarded n c x) a z (v, (b, o, (d, e, (l, f, g)))) =
          let h = place o.1 in let j = place e.1 in let r = conds_grow c d l f in let t = body_grows x l z g in omega arith
      part_grows full (kinds n name c x) a z (v, (b, o, (d, e, (l, f, g)))) =
          let h = place o.1 in let j = place e.2 in let r = opt_conds_grow c d l f in let t = body_grows x l z g in omega arith
      part_grows full (test n any q op negated right message) a z (b, o, (c, i, (d, f, (l, g, (m, k, p))))) =
          let h = place o.1 in let j = any_grows full any b c i in let r = query_grows q c d f in let t = operator_grows op negated d l g in
          let u = right_grows op right l m k in let v = note_grows message m z p in omega arith
      part_grows full (refer n negated name message) a z (b, o, (c, i, (d, f, (e, g)))) =
          let h = place o.1 in let j = not_grows full negated b c i in let r = place f.2 in let v = note_grows message d z g in omega arith
      part_grows full (call n negated name es message) a z (b, o, (c, i, (d, f, (l, g, (m, k, (p, q, t)))))) =
          let h = place o.1 in let j = not_grows full negated b c i in let r = place f.2 in let u = place g.1 in let v = exprs_grow es l m k in let w = place q.1 in
          let x = note_grows message p z t in omega arith

      pub right_grows : (op : Op) (x : OptExpr) (a b : State) → IsRight s op x a b → a.at ≤ b.at
      right_grows op no_expr a b (e, d) = let h = place d in omega arith
      right_grows op (with_expr e) a b (v, f) = let h = expr_grows false e a b f in omega arith

      pub query_grows : (x : Query) (a b : State) → IsQuery s x a b → a.at < b.at
      query_grows (query n no_steps) a z h = absurd h
      query_grows (query n (more_steps p ps)) a z (b, o, (m, f, g)) = let h = place o.1 in let r = start_grows p b m f in let t = steps_grow ps m z g in omega arith

      pub start_grows : (x : Step) (a b : State) → IsStart s x a b → a.at < b.at
      start_grows (this n) a z (b, o, f) = let h = place o.1 in let r = place f.1 in omega arith
      start_grows (var n name) a z (b, o, f) = let h = place o.1 in let r = place f.2 in omega arith
      start_grows (key n name) a z (b, o, f) = let h = place o.1 in let r = place f.2 in omega arith
      start_grows (index n i) a z h = absurd h
      start_grows (every n) a z h = absurd h
      start_grows (items n) a z h = absurd h
      start_grows (splice n name) a z h = absurd h
      start_grows (filter n name c) a z h = absurd h
      start_grows (keys n name op v e) a z h = absurd h

      pub steps_grow : (x : Steps) (a b : State) → IsSteps s x a b → a.at ≤ b.at
      steps_grow no_steps a b (e, d) = let h = place d in omega arith
      steps_grow (more_steps p ps) a b (e, (m, f, g)) = let r = step_grows p a m f in let t = steps_grow ps m b g in omega arith

      pub step_grows : (x : Step) (a b : State) → IsStep s x a b → a.at < b.at
      step_grows (this n) a z h = absurd h
      step_grows (var n name) a z h = absurd h
      step_grows (key n name) a z (b, o, (c, e, f)) = let h = place o.1 in let r = place e.1 in let t = place f.2 in omega arith
      step_grows (index n i) a z (b, o, inl (c, e, f)) = let h = place o.1 in let r = place e.1 in let t = place f.2 in omega arith
      step_grows (index n i) a z (b, o, inr (c, e, (d, f, g))) = let h = place o.1 in let r = place e.1 in let t = place f.2 in let u = place g.1 in omega arith
      step_grows (every n) a z (b, o, (c, e, f)) = let h = place o.1 in let r = place e.1 in let t = place f.1 in omega arith
      step_grows (items n) a z (b, o, (c, e, (d, f, g))) = let h = place o.1 in let r = place e.1 in let t = place f.1 in let u = place g.1 in omega arith
      step_grows (splice n name) a z (b, o, (c, e, f)) = let h = place o.1 in let r = place e.1 in let t = place f.2 in omega arith
      step_grows (filter n name x) a z (b, o, (c, e, (l, f, (m, g, i)))) =
          let h = place o.1 in let r = place e.1 in let t = capture_grows name c l f in let u = conds_grow x l m g in let v = place i.1 in omega arith
      step_grows (keys n name op negated x) a z (b, o, (c, e, (l, f, (m, g, (p, i, (q, j, k)))))) =
          let h = place o.1 in let r = place e.1 in let t = capture_grows name c l f in let u = place g.1 in let v = keys_operator_grows op negated m p i in
          let w = expr_grows false x p q j in let y = place k.1 in omega arith

      pub expr_grows : (lone : Bool) (x : Expr) (a b : State) → IsExpr s lone x a b → a.at < b.at
      expr_grows lone (literal n tree) a z (e, (b, o, f)) = let h = place o.1 in let r = literal_grows tree b z f in omega arith
      expr_grows lone (function n name es) a z (e, (b, o, (c, f, (d, g, (l, h, i))))) =
          let j = place o.1 in let r = place f.2 in let t = place g.1 in let u = exprs_grow es d l h in let v = place i.1 in omega arith
      expr_grows lone (asked q) a z (e, (f, g)) = query_grows q a z g
      expr_grows lone (found n q) a z (v, (e, (b, o, (c, f, g)))) = let h = place o.1 in let r = place f.1 in let t = query_grows q c z g in omega arith

      pub exprs_grow : (x : Exprs) (a b : State) → IsExprs s x a b → a.at < b.at
      exprs_grow no_exprs a z h = absurd h
      exprs_grow (more_exprs e es) a z (b, f, g) = let r = expr_grows false e a b f in let t = more_exprs_grow es b z g in omega arith

      pub more_exprs_grow : (x : Exprs) (a b : State) → IsMoreExprs s x a b → a.at ≤ b.at
      more_exprs_grow no_exprs a b (e, d) = let h = place d in omega arith
      more_exprs_grow (more_exprs e es) a z (b, f, (c, g, h)) = let i = place f.1 in let r = expr_grows false e b c g in let t = more_exprs_grow es c z h in omega arith

    pub head_grows : (ps : List Named) (c : OptConds) (a b : State) → IsHead s ps c a b → a.at ≤ b.at
    head_grows [] c a b (e, f) = opt_conds_grow c a b f
    head_grows (n ∷ ns) no_conds a z (b, e, (c, f, (d, g, h))) = let i = place e.1 in let j = place f.2 in let r = names_grow ns c d g in let t = place h.1 in omega arith
    head_grows (n ∷ ns) (with_conds c) a z h = absurd h

    pub rule_grows : (x : Rule) (a b : State) → IsRule s x a b → a.at < b.at
    rule_grows x a z (b, o, (c, e, (d, f, (l, g, h)))) =
        let i = place o.1 in let j = place e.1 in let k = place f.2 in let r = head_grows x.params x.cond d l g in let t = body_grows x.body l z h in omega arith

    pub rules_grow : (x : List Rule) (ps : List Piece) → AreRules s x ps → AllGrow ps
    rules_grow [] [] h = tt
    rules_grow [] (p ∷ ps) h = absurd h
    rules_grow (r ∷ rs) [] h = absurd h
    rules_grow (r ∷ rs) (p ∷ ps) (h, k) = (rule_grows r p.from p.to h, rules_grow rs ps k)
