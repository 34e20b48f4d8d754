-- The sites of a syntax are numbered in the order in which its parts begin, and there is a place for each.
use Rattle.std.proofs.Common.{◌≡◌, ℕ, Bool, true, false, cond, refl, ap, sym, ◌∙◌, subst, arith, List, [], ◌∷◌, length, Option, Some, None, inl, inr}
use Rattle.std.proofs.lemmas.List.{length-append}
use Rattle.guard_syntax.specs.Named.{Named}
use Rattle.guard_syntax.specs.declared.syntax.Op.{Op}
use Rattle.guard_syntax.specs.Syntax.{Body, Lets, Let, Conds, OptConds, Disjs, Disj, Parts, Part, Query, Steps, Step, Expr, OptExpr, Exprs, Rule, body, no_lets, more_lets, assign, conds, no_conds, with_conds, no_disjs, more_disjs, disj, no_parts, more_parts, block, guarded, kinds, test, refer, call, query, no_steps, more_steps, this, var, key, index, every, items, splice, filter, keys, literal, function, asked, found, no_expr, with_expr, no_exprs, more_exprs}
use Rattle.guard_syntax.specs.Sites.{merge, sites_body, sites_lets, sites_let, sites_conds, sites_opt_conds, sites_disjs, sites_disj, sites_parts, sites_part, sites_query, sites_steps, sites_step, sites_expr, sites_opt_expr, sites_exprs, sites_rule, sites_rules}
use Rattle.doc_values.specs.Tree.{Label, Forest, Nil, Node, snoc}
use Rattle.literal_parser.specs.Lexemes.{Lexeme}
use Rattle.literal_parser.specs.Forms.{form, is_let, begins_part}
use Rattle.literal_parser.specs.States.{State, Opens}
use Rattle.literal_parser.specs.Literal.{IsLiteral, AreItems, AreMoreItems, AreEntries, AreMoreEntries, IsNode, IsEntry}
use Rattle.guard_parser.specs.Grammar.{Sort, ALet, ARule, APart, Piece, is_sort, of_sort, body_sort, file_sort, InRow, IsCapture, IsNote, IsNeg, IsOperator, IsKeysOperator, IsAny, IsNot, IsNames, IsBody, AreLets, AreDisjs, IsLet, IsConds, IsDisjs, IsOptConds, IsDisj, IsOrs, IsPart, IsRight, IsQuery, IsStart, IsSteps, IsStep, IsExpr, IsExprs, IsMoreExprs, IsHead, IsRule, AreRules, IsContents}
use Rattle.guard_parser.proofs.Merging.{Counted, then, none, before, behind, Numbered, row_numbered}

pub places : {a b : State} → a ≡ b → a.places ≡ b.places
places e = ap (λ (z : State). z.places) e

module _ (s : ℕ → Lexeme) where
  one : (n : ℕ) (a b : State) → Opens s n a b → Counted a b (n ∷ [])
  one n a b o = record {
    count = 1;
    numbers = ap (λ z. z ∷ []) o.0;
    more = let y = ap (λ (z : State). length z.places) o.1 in omega (arith, length-append a.places ((s a.at).from ∷ []));
  }

  -- ---- what opens no site

  capture_places : (c : Option Named) (a b : State) → IsCapture s c a b → b.places ≡ a.places
  capture_places None a b (e, d) = places d
  capture_places (Some n) a b (m, h, g) = places g.1 ∙ places h.2

  note_places : (c : Option (List ℕ)) (a b : State) → IsNote s c a b → b.places ≡ a.places
  note_places None a b (e, d) = places d
  note_places (Some t) a b h = places h.2

  neg_places : (c : Bool) (a b : State) → IsNeg s c a b → b.places ≡ a.places
  neg_places true a b h = places h.1
  neg_places false a b h = places h.1

  operator_places : (op : Op) (c : Bool) (a b : State) → IsOperator s op c a b → b.places ≡ a.places
  operator_places op c a b (inl h) = places h.2
  operator_places op c a b (inr (m, h, g)) = places g.2 ∙ neg_places c a m h

  keys_operator_places : (op : Op) (c : Bool) (a b : State) → IsKeysOperator s op c a b → b.places ≡ a.places
  keys_operator_places op c a b (inl h) = places h.2
  keys_operator_places op c a b (inr (m, h, g)) = places g.2 ∙ neg_places c a m h

  any_places : (full c : Bool) (a b : State) → IsAny s full c a b → b.places ≡ a.places
  any_places full true a b h = places h.1
  any_places full false a b h = places h.1

  not_places : (full c : Bool) (a b : State) → IsNot s full c a b → b.places ≡ a.places
  not_places full true a b h = places h.1
  not_places full false a b h = places h.1

  names_places : (ns : List Named) (a b : State) → IsNames s ns a b → b.places ≡ a.places
  names_places [] a b h = places h.1
  names_places (n ∷ ns) a b (c, e, (d, f, g)) = names_places ns d b g ∙ places f.2 ∙ places e.1

  abbrev Steady : (State → State → Type 0) → Type 0
  Steady P = (a b : State) → P a b → b.places ≡ a.places

  node_places : (name : Option (List ℕ)) (l : Label) (kids : Forest) (I E : State → State → Type 0) → Steady I → Steady E → Steady (IsNode s name l kids I E)
  node_places name l kids I E i e a b (inl h) = places h.1.2
  node_places name l kids I E i e a b (inr (inl (r, k, h, (c, (p, (c1, f1, (c2, f2, (c3, f3, (c4, f4, (c5, f5, f6)))))), d)))) =
      places d ∙ places f6.2 ∙ places f5.2 ∙ places f4.1 ∙ places f3.2 ∙ places f2.2 ∙ places f1.1
  node_places name l kids I E i e a b (inr (inr (inl (c, f, (d, g, h))))) = places h.1 ∙ i c d g ∙ places f.2
  node_places name l kids I E i e a b (inr (inr (inr (c, f, (d, g, h))))) = places h.1 ∙ e c d g ∙ places f.2

  entry_places : (front : Forest) (l : Label) (kids : Forest) (I E : State → State → Type 0) → Steady I → Steady E → Steady (IsEntry s front l kids I E)
  entry_places front l kids I E i e a b (name, new, (c, f, (d, g, h))) = node_places (Some name) l kids I E i e d b h ∙ places g.1 ∙ places f.2

  mutual
    items_places : (t : Forest) → Steady (AreItems s t)
    items_places Nil a b h = places h.1
    items_places (Node l kids rest) a b (e, (m, f, g)) = more_items_places rest m b g ∙ node_places None l kids _ _ (items_places kids) (entries_places kids) a m f

    more_items_places : (t : Forest) → Steady (AreMoreItems s t)
    more_items_places Nil a b h = places h.1
    more_items_places (Node l kids rest) a b (c, e, (m, f, g)) = more_items_places rest m b g ∙ node_places None l kids _ _ (items_places kids) (entries_places kids) c m f ∙ places e.1

    entries_places : (t : Forest) → Steady (AreEntries s t)
    entries_places Nil a b h = places h.1
    entries_places (Node l kids rest) a b (e, (m, f, g)) = more_entries_places (Node l kids Nil) rest m b g ∙ entry_places Nil l kids _ _ (items_places kids) (entries_places kids) a m f

    more_entries_places : (front t : Forest) → Steady (AreMoreEntries s front t)
    more_entries_places front Nil a b h = places h.1
    more_entries_places front (Node l kids rest) a b (c, e, (m, f, g)) =
        more_entries_places (snoc front l kids) rest m b g ∙ entry_places front l kids _ _ (items_places kids) (entries_places kids) c m f ∙ places e.1

  literal_places : (t : Forest) → Steady (IsLiteral s t)
  literal_places Nil a b h = absurd h
  literal_places (Node l kids Nil) a b h = node_places None l kids _ _ (items_places kids) (entries_places kids) a b h
  literal_places (Node l kids (Node m others rest)) a b h = absurd h

  -- ---- items

  body_has_no_rule : (n : ℕ) → body_sort n ≡ Some ARule → ⊥
  body_has_no_rule n e = helper (is_let n) (begins_part n) e where
    helper : (v w : Bool) → cond v (Some ALet) (cond w (Some APart) None) ≡ Some ARule → ⊥
    helper true w e = cc
    helper false true e = cc
    helper false false e = cc

  not_a_rule : (k : Sort) (n : ℕ) → body_sort n ≡ Some k → is_sort ARule k ≡ false
  not_a_rule ALet n e = refl
  not_a_rule ARule n e = absurd (body_has_no_rule n e)
  not_a_rule APart n e = refl

  pub body_no_rules : (ps : List Piece) (a b : State) → InRow s body_sort ps a b → of_sort ARule ps ≡ []
  body_no_rules [] a b h = refl
  body_no_rules (p ∷ ps) a b h = ap (λ v. cond v (p ∷ of_sort ARule ps) (of_sort ARule ps)) (not_a_rule p.sort (form (s a.at)) h.0) ∙ body_no_rules ps p.to b h.2

  mutual
    pub body_counted : (x : Body) (a b : State) → IsBody s x a b → Counted a b (sites_body x)
    body_counted (body n ls ds) a z (b, o, (c, e, (d, (ps, row, l, p, filled), h))) =
        then (one n a b o) (before (places e.1) (behind (places h.1)
        (row_numbered s body_sort ps c d (sites_lets ls) [] (sites_disjs ds) row (lets_counted ls _ l) (subst (λ x. Numbered x []) (sym (body_no_rules ps c d row)) refl) (parts_counted ds _ p)).all))

    pub lets_counted : (x : Lets) (ps : List Piece) → AreLets s x ps → Numbered ps (sites_lets x)
    lets_counted no_lets [] h = refl
    lets_counted no_lets (p ∷ ps) h = absurd h
    lets_counted (more_lets l ls) [] h = absurd h
    lets_counted (more_lets l ls) (p ∷ ps) h = (sites_let l, sites_lets ls, refl, let_counted l p.from p.to h.0, lets_counted ls ps h.1)

    pub parts_counted : (x : Disjs) (ps : List Piece) → AreDisjs s x ps → Numbered ps (sites_disjs x)
    parts_counted no_disjs [] h = refl
    parts_counted no_disjs (p ∷ ps) h = absurd h
    parts_counted (more_disjs d ds) [] h = absurd h
    parts_counted (more_disjs d ds) (p ∷ ps) h = (sites_disj d, sites_disjs ds, refl, disj_counted true d p.from p.to h.0, parts_counted ds ps h.1)

    let_counted : (x : Let) (a b : State) → IsLet s x a b → Counted a b (sites_let x)
    let_counted (assign n name e) a z (b, o, (c, e1, (d, e2, (i, e3, h)))) =
        then (one n a b o) (before (places e3.1 ∙ places e2.2 ∙ places e1.1) (expr_counted true e i z h))

    conds_counted : (x : Conds) (a b : State) → IsConds s x a b → Counted a b (sites_conds x)
    conds_counted (conds n no_disjs) a z h = absurd h
    conds_counted (conds n (more_disjs d ds)) a z (b, o, (m, f, g)) = then (one n a b o) (then (disj_counted false d b m f) (disjs_counted ds m z g))

    opt_conds_counted : (x : OptConds) (a b : State) → IsOptConds s x a b → Counted a b (sites_opt_conds x)
    opt_conds_counted no_conds a b h = none (places h.1)
    opt_conds_counted (with_conds c) a b (m, e, h) = before (places e.1) (conds_counted c m b h)

    disjs_counted : (x : Disjs) (a b : State) → IsDisjs s x a b → Counted a b (sites_disjs x)
    disjs_counted no_disjs a b h = none (places h.1)
    disjs_counted (more_disjs d ds) a b (e, (m, f, g)) = then (disj_counted false d a m f) (disjs_counted ds m b g)

    disj_counted : (full : Bool) (x : Disj) (a b : State) → IsDisj s full x a b → Counted a b (sites_disj x)
    disj_counted full (disj n no_parts) a z h = absurd h
    disj_counted full (disj n (more_parts p ps)) a z (b, o, (m, f, g)) = then (one n a b o) (then (part_counted full p b m f) (ors_counted full ps m z g))

    ors_counted : (full : Bool) (x : Parts) (a b : State) → IsOrs s full x a b → Counted a b (sites_parts x)
    ors_counted full no_parts a b h = none (places h.1)
    ors_counted full (more_parts p ps) a z (b, e, (m, f, g)) = before (places e.1) (then (part_counted full p b m f) (ors_counted full ps m z g))

    part_counted : (full : Bool) (x : Part) (a b : State) → IsPart s full x a b → Counted a b (sites_part x)
    part_counted full (block n any q x) a z (v, (b, o, (c, h, (m, f, g)))) = then (one n a b o) (before (any_places full any b c h) (then (query_counted q c m f) (body_counted x m z g)))
    part_counted full (guarded n x y) a z (v, (b, o, (c, e, (m, f, g)))) = then (one n a b o) (before (places e.1) (then (conds_counted x c m f) (body_counted y m z g)))
    part_counted full (kinds n name x y) a z (v, (b, o, (c, e, (m, f, g)))) = then (one n a b o) (before (places e.2) (then (opt_conds_counted x c m f) (body_counted y m z g)))
    part_counted full (test n any q op negated x message) a z (b, o, (c, h, (d, f, (i, g, (m, r, t))))) =
        then (one n a b o) (before (any_places full any b c h) (then (query_counted q c d f) (before (operator_places op negated d i g) (behind (note_places message m z t) (right_counted op x i m r)))))
    part_counted full (refer n negated name message) a z (b, o, (c, h, (d, f, (p, t)))) =
        behind (note_places message d z t ∙ places f.2 ∙ not_places full negated b c h) (one n a b o)
    part_counted full (call n negated name es message) a z (b, o, (c, h, (d, f, (i, g, (j, k, (m, r, t)))))) =
        then (one n a b o) (before (places g.1 ∙ places f.2 ∙ not_places full negated b c h) (behind (note_places message m z t ∙ places r.1) (exprs_counted es i j k)))

    right_counted : (op : Op) (x : OptExpr) (a b : State) → IsRight s op x a b → Counted a b (sites_opt_expr x)
    right_counted op no_expr a b h = none (places h.1)
    right_counted op (with_expr e) a b h = expr_counted false e a b h.1

    query_counted : (x : Query) (a b : State) → IsQuery s x a b → Counted a b (sites_query x)
    query_counted (query n no_steps) a z h = absurd h
    query_counted (query n (more_steps p ps)) a z (b, o, (m, f, g)) = then (one n a b o) (then (start_counted p b m f) (steps_counted ps m z g))

    start_counted : (x : Step) (a b : State) → IsStart s x a b → Counted a b (sites_step x)
    start_counted (this n) a z (b, o, f) = behind (places f.1) (one n a b o)
    start_counted (var n name) a z (b, o, f) = behind (places f.2) (one n a b o)
    start_counted (key n name) a z (b, o, f) = behind (places f.2) (one n a b o)
    start_counted (index n i) a z h = absurd h
    start_counted (every n) a z h = absurd h
    start_counted (items n) a z h = absurd h
    start_counted (splice n name) a z h = absurd h
    start_counted (filter n name c) a z h = absurd h
    start_counted (keys n name op negated e) a z h = absurd h

    steps_counted : (x : Steps) (a b : State) → IsSteps s x a b → Counted a b (sites_steps x)
    steps_counted no_steps a b h = none (places h.1)
    steps_counted (more_steps p ps) a b (e, (m, f, g)) = then (step_counted p a m f) (steps_counted ps m b g)

    step_counted : (x : Step) (a b : State) → IsStep s x a b → Counted a b (sites_step x)
    step_counted (this n) a z h = absurd h
    step_counted (var n name) a z h = absurd h
    step_counted (key n name) a z (b, o, (c, e, f)) = behind (places f.2 ∙ places e.1) (one n a b o)
    step_counted (index n i) a z (b, o, inl (c, e, f)) = behind (places f.2 ∙ places e.1) (one n a b o)
    step_counted (index n i) a z (b, o, inr (c, e, (d, f, g))) = behind (places g.1 ∙ places f.2 ∙ places e.1) (one n a b o)
    step_counted (every n) a z (b, o, (c, e, f)) = behind (places f.1 ∙ places e.1) (one n a b o)
    step_counted (items n) a z (b, o, (c, e, (d, f, g))) = behind (places g.1 ∙ places f.1 ∙ places e.1) (one n a b o)
    step_counted (splice n name) a z (b, o, (c, e, f)) = behind (places f.2 ∙ places e.1) (one n a b o)
    step_counted (filter n name x) a z (b, o, (c, e, (d, f, (m, g, h)))) =
        then (one n a b o) (before (capture_places name c d f ∙ places e.1) (behind (places h.1) (conds_counted x d m g)))
    step_counted (keys n name op negated x) a z (b, o, (c, e, (d, f, (i, k, (j, t, (m, g, h)))))) =
        then (one n a b o) (before (keys_operator_places op negated i j t ∙ places k.1 ∙ capture_places name c d f ∙ places e.1) (behind (places h.1) (expr_counted false x j m g)))

    expr_counted : (lone : Bool) (x : Expr) (a b : State) → IsExpr s lone x a b → Counted a b (sites_expr x)
    expr_counted lone (literal n t) a z (v, (b, o, f)) = behind (literal_places t b z f) (one n a b o)
    expr_counted lone (function n name es) a z (v, (b, o, (c, e, (d, f, (m, g, h))))) = then (one n a b o) (before (places f.1 ∙ places e.2) (behind (places h.1) (exprs_counted es d m g)))
    expr_counted lone (asked q) a z (v, (w, h)) = query_counted q a z h
    expr_counted lone (found n q) a z (v, (w, (b, o, (c, e, f)))) = then (one n a b o) (before (places e.1) (query_counted q c z f))

    exprs_counted : (x : Exprs) (a b : State) → IsExprs s x a b → Counted a b (sites_exprs x)
    exprs_counted no_exprs a b h = absurd h
    exprs_counted (more_exprs e es) a b (m, f, g) = then (expr_counted false e a m f) (more_exprs_counted es m b g)

    more_exprs_counted : (x : Exprs) (a b : State) → IsMoreExprs s x a b → Counted a b (sites_exprs x)
    more_exprs_counted no_exprs a b h = none (places h.1)
    more_exprs_counted (more_exprs e es) a z (b, h, (m, f, g)) = before (places h.1) (then (expr_counted false e b m f) (more_exprs_counted es m z g))

  head_counted : (ns : List Named) (c : OptConds) (a b : State) → IsHead s ns c a b → Counted a b (sites_opt_conds c)
  head_counted [] c a b h = opt_conds_counted c a b h.1
  head_counted (n ∷ ns) no_conds a b (c, e, (d, f, (m, g, h))) = none (places h.1 ∙ names_places ns d m g ∙ places f.2 ∙ places e.1)
  head_counted (n ∷ ns) (with_conds c) a b h = absurd h

  rule_counted : (r : Rule) (a b : State) → IsRule s r a b → Counted a b (sites_rule r)
  rule_counted r a z (b, o, (c, e, (d, f, (m, g, h)))) = then (one r.site a b o) (before (places f.2 ∙ places e.1) (then (head_counted r.params r.cond d m g) (body_counted r.body m z h)))

  rules_counted : (x : List Rule) (ps : List Piece) → AreRules s x ps → Numbered ps (sites_rules x)
  rules_counted [] [] h = refl
  rules_counted [] (p ∷ ps) h = absurd h
  rules_counted (r ∷ rs) [] h = absurd h
  rules_counted (r ∷ rs) (p ∷ ps) h = (sites_rule r, sites_rules rs, refl, rule_counted r p.from p.to h.0, rules_counted rs ps h.1)

  pub contents_counted : (ls : Lets) (rs : List Rule) (ds : Disjs) (a b : State) → IsContents s ls rs ds a b → Counted a b (0 ∷ merge (sites_lets ls) (merge (sites_rules rs) (sites_disjs ds)))
  contents_counted ls rs ds a z (b, o, (ps, row, l, r, p)) =
      then (one 0 a b o) (row_numbered s file_sort ps b z (sites_lets ls) (sites_rules rs) (sites_disjs ds) row (lets_counted ls _ l) (rules_counted rs _ r) (parts_counted ds _ p)).all
