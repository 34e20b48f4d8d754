-- Conditions open sites and close none: there are as many places behind them as before, or more.
use Rattle.std.proofs.Common.{◌≡◌, ℕ, ◌≤◌, Bool, true, false, ap, sym, ◌∙◌, arith, true≢false, List, [], ◌∷◌, length, Option, Some, None, inl, inr}
use Rattle.std.proofs.lemmas.List.{length-append}
use Rattle.guard_syntax.specs.Named.{Named}
use Rattle.guard_syntax.specs.declared.syntax.Op.{Op}
use Rattle.guard_syntax.specs.Syntax.{Conds, OptConds, Disjs, Disj, Parts, Part, Query, Steps, Step, Expr, OptExpr, Exprs, conds, no_conds, with_conds, no_disjs, more_disjs, disj, no_parts, more_parts, block, guarded, kinds, test, refer, call, query, no_steps, more_steps, this, var, key, index, every, items, splice, filter, keys, literal, function, asked, found, no_expr, with_expr, no_exprs, more_exprs}
use Rattle.doc_values.specs.Tree.{Label, Forest, Nil, Node, snoc}
use Rattle.literal_parser.specs.Lexemes.{Lexeme}
use Rattle.literal_parser.specs.States.{State, Opens}
use Rattle.literal_parser.specs.Literal.{IsLiteral, AreItems, AreMoreItems, AreEntries, AreMoreEntries, IsNode, IsEntry}
use Rattle.guard_parser.specs.Grammar.{IsCapture, IsNote, IsNeg, IsOperator, IsKeysOperator, IsAny, IsNot, IsNames, IsConds, IsDisjs, IsOptConds, IsDisj, IsOrs, IsPart, IsRight, IsQuery, IsStart, IsSteps, IsStep, IsExpr, IsExprs, IsMoreExprs}
use Rattle.guard_parser.proofs.Numbered.{places}

-- there are as many places, or more
pub record Grows (a b : State) : Type 0 where
  pub more : length a.places ≤ length b.places

pub then : {a b c : State} → Grows a b → Grows b c → Grows a c
then h k = record { more = let x = h.more in let y = k.more in omega arith }

pub none : {a b : State} → b.places ≡ a.places → Grows a b
none e = record { more = let x = ap (λ (z : List ℕ). length z) e in omega arith }

pub before : {a b c : State} → b.places ≡ a.places → Grows b c → Grows a c
before e h = record { more = let x = h.more in let y = ap (λ (z : List ℕ). length z) e in omega arith }

pub behind : {a b c : State} → c.places ≡ b.places → Grows a b → Grows a c
behind e h = record { more = let x = h.more in let y = ap (λ (z : List ℕ). length z) e in omega arith }

module _ (s : ℕ → Lexeme) where
  one : (n : ℕ) (a b : State) → Opens s n a b → Grows a b
  one n a b o = record { more = let y = ap (λ (z : State). length z.places) o.1 in omega (arith, length-append a.places ((s a.at).from ∷ [])) }

  -- ---- what opens no site

  capture_places : (c : Option Named) (a b : State) → IsCapture s c a b → b.places ≡ a.places
  capture_places None a b (e, d) = places d
  capture_places (Some n) a b (m, h, g) = places g.1 ∙ places h.2

  note_places : (c : Option (List ℕ)) (a b : State) → IsNote s c a b → b.places ≡ a.places
  note_places None a b (e, d) = places d
  note_places (Some t) a b h = places h.2

  neg_places : (c : Bool) (a b : State) → IsNeg s c a b → b.places ≡ a.places
  neg_places true a b h = places h.1
  neg_places false a b h = places h.1

  operator_places : (op : Op) (c : Bool) (a b : State) → IsOperator s op c a b → b.places ≡ a.places
  operator_places op c a b (inl h) = places h.2
  operator_places op c a b (inr (m, h, g)) = places g.2 ∙ neg_places c a m h

  keys_operator_places : (op : Op) (c : Bool) (a b : State) → IsKeysOperator s op c a b → b.places ≡ a.places
  keys_operator_places op c a b (inl h) = places h.2
  keys_operator_places op c a b (inr (m, h, g)) = places g.2 ∙ neg_places c a m h

  any_places : (full c : Bool) (a b : State) → IsAny s full c a b → b.places ≡ a.places
  any_places full true a b h = places h.1
  any_places full false a b h = places h.1

  not_places : (full c : Bool) (a b : State) → IsNot s full c a b → b.places ≡ a.places
  not_places full true a b h = places h.1
  not_places full false a b h = places h.1

  pub names_places : (ns : List Named) (a b : State) → IsNames s ns a b → b.places ≡ a.places
  names_places [] a b h = places h.1
  names_places (n ∷ ns) a b (c, e, (d, f, g)) = names_places ns d b g ∙ places f.2 ∙ places e.1

  abbrev Steady : (State → State → Type 0) → Type 0
  Steady P = (a b : State) → P a b → b.places ≡ a.places

  node_places : (name : Option (List ℕ)) (l : Label) (kids : Forest) (I E : State → State → Type 0) → Steady I → Steady E → Steady (IsNode s name l kids I E)
  node_places name l kids I E i e a b (inl h) = places h.1.2
  node_places name l kids I E i e a b (inr (inl (r, k, h, (c, (p, (c1, f1, (c2, f2, (c3, f3, (c4, f4, (c5, f5, f6)))))), d)))) =
      places d ∙ places f6.2 ∙ places f5.2 ∙ places f4.1 ∙ places f3.2 ∙ places f2.2 ∙ places f1.1
  node_places name l kids I E i e a b (inr (inr (inl (c, f, (d, g, h))))) = places h.1 ∙ i c d g ∙ places f.2
  node_places name l kids I E i e a b (inr (inr (inr (c, f, (d, g, h))))) = places h.1 ∙ e c d g ∙ places f.2

  entry_places : (front : Forest) (l : Label) (kids : Forest) (I E : State → State → Type 0) → Steady I → Steady E → Steady (IsEntry s front l kids I E)
  entry_places front l kids I E i e a b (name, new, (c, f, (d, g, h))) = node_places (Some name) l kids I E i e d b h ∙ places g.1 ∙ places f.2

  mutual
    items_places : (t : Forest) → Steady (AreItems s t)
    items_places Nil a b h = places h.1
    items_places (Node l kids rest) a b (e, (m, f, g)) = more_items_places rest m b g ∙ node_places None l kids _ _ (items_places kids) (entries_places kids) a m f

    more_items_places : (t : Forest) → Steady (AreMoreItems s t)
    more_items_places Nil a b h = places h.1
    more_items_places (Node l kids rest) a b (c, e, (m, f, g)) = more_items_places rest m b g ∙ node_places None l kids _ _ (items_places kids) (entries_places kids) c m f ∙ places e.1

    entries_places : (t : Forest) → Steady (AreEntries s t)
    entries_places Nil a b h = places h.1
    entries_places (Node l kids rest) a b (e, (m, f, g)) = more_entries_places (Node l kids Nil) rest m b g ∙ entry_places Nil l kids _ _ (items_places kids) (entries_places kids) a m f

    more_entries_places : (front t : Forest) → Steady (AreMoreEntries s front t)
    more_entries_places front Nil a b h = places h.1
    more_entries_places front (Node l kids rest) a b (c, e, (m, f, g)) =
        more_entries_places (snoc front l kids) rest m b g ∙ entry_places front l kids _ _ (items_places kids) (entries_places kids) c m f ∙ places e.1

  literal_places : (t : Forest) → Steady (IsLiteral s t)
  literal_places Nil a b h = absurd h
  literal_places (Node l kids Nil) a b h = node_places None l kids _ _ (items_places kids) (entries_places kids) a b h
  literal_places (Node l kids (Node m others rest)) a b h = absurd h

  -- ---- conditions

  mutual
    pub conds_grow : (x : Conds) (a b : State) → IsConds s x a b → Grows a b
    conds_grow (conds n no_disjs) a z h = absurd h
    conds_grow (conds n (more_disjs d ds)) a z (b, o, (m, f, g)) = then (one n a b o) (then (disj_grow d b m f) (disjs_grow ds m z g))

    pub opt_conds_grow : (x : OptConds) (a b : State) → IsOptConds s x a b → Grows a b
    opt_conds_grow no_conds a b h = none (places h.1)
    opt_conds_grow (with_conds c) a b (m, e, h) = before (places e.1) (conds_grow c m b h)

    disjs_grow : (x : Disjs) (a b : State) → IsDisjs s x a b → Grows a b
    disjs_grow no_disjs a b h = none (places h.1)
    disjs_grow (more_disjs d ds) a b (e, (m, f, g)) = then (disj_grow d a m f) (disjs_grow ds m b g)

    disj_grow : (x : Disj) (a b : State) → IsDisj s false x a b → Grows a b
    disj_grow (disj n no_parts) a z h = absurd h
    disj_grow (disj n (more_parts p ps)) a z (b, o, (m, f, g)) = then (one n a b o) (then (part_grow p b m f) (ors_grow ps m z g))

    ors_grow : (x : Parts) (a b : State) → IsOrs s false x a b → Grows a b
    ors_grow no_parts a b h = none (places h.1)
    ors_grow (more_parts p ps) a z (b, e, (m, f, g)) = before (places e.1) (then (part_grow p b m f) (ors_grow ps m z g))

    part_grow : (x : Part) (a b : State) → IsPart s false x a b → Grows a b
    part_grow (block n any q x) a z h = absurd (true≢false (sym h.0))
    part_grow (guarded n x y) a z h = absurd (true≢false (sym h.0))
    part_grow (kinds n name x y) a z h = absurd (true≢false (sym h.0))
    part_grow (test n any q op negated x message) a z (b, o, (c, h, (d, f, (i, g, (m, r, t))))) =
        then (one n a b o) (before (any_places false any b c h) (then (query_grow q c d f) (before (operator_places op negated d i g) (behind (note_places message m z t) (right_grow op x i m r)))))
    part_grow (refer n negated name message) a z (b, o, (c, h, (d, f, (p, t)))) =
        behind (note_places message d z t ∙ places f.2 ∙ not_places false negated b c h) (one n a b o)
    part_grow (call n negated name es message) a z (b, o, (c, h, (d, f, (i, g, (j, k, (m, r, t)))))) =
        then (one n a b o) (before (places g.1 ∙ places f.2 ∙ not_places false negated b c h) (behind (note_places message m z t ∙ places r.1) (exprs_grow es i j k)))

    right_grow : (op : Op) (x : OptExpr) (a b : State) → IsRight s op x a b → Grows a b
    right_grow op no_expr a b h = none (places h.1)
    right_grow op (with_expr e) a b h = expr_grow false e a b h.1

    query_grow : (x : Query) (a b : State) → IsQuery s x a b → Grows a b
    query_grow (query n no_steps) a z h = absurd h
    query_grow (query n (more_steps p ps)) a z (b, o, (m, f, g)) = then (one n a b o) (then (start_grow p b m f) (steps_grow ps m z g))

    start_grow : (x : Step) (a b : State) → IsStart s x a b → Grows a b
    start_grow (this n) a z (b, o, f) = behind (places f.1) (one n a b o)
    start_grow (var n name) a z (b, o, f) = behind (places f.2) (one n a b o)
    start_grow (key n name) a z (b, o, f) = behind (places f.2) (one n a b o)
    start_grow (index n i) a z h = absurd h
    start_grow (every n) a z h = absurd h
    start_grow (items n) a z h = absurd h
    start_grow (splice n name) a z h = absurd h
    start_grow (filter n name c) a z h = absurd h
    start_grow (keys n name op negated e) a z h = absurd h

    steps_grow : (x : Steps) (a b : State) → IsSteps s x a b → Grows a b
    steps_grow no_steps a b h = none (places h.1)
    steps_grow (more_steps p ps) a b (e, (m, f, g)) = then (step_grow p a m f) (steps_grow ps m b g)

    step_grow : (x : Step) (a b : State) → IsStep s x a b → Grows a b
    step_grow (this n) a z h = absurd h
    step_grow (var n name) a z h = absurd h
    step_grow (key n name) a z (b, o, (c, e, f)) = behind (places f.2 ∙ places e.1) (one n a b o)
    step_grow (index n i) a z (b, o, inl (c, e, f)) = behind (places f.2 ∙ places e.1) (one n a b o)
    step_grow (index n i) a z (b, o, inr (c, e, (d, f, g))) = behind (places g.1 ∙ places f.2 ∙ places e.1) (one n a b o)
    step_grow (every n) a z (b, o, (c, e, f)) = behind (places f.1 ∙ places e.1) (one n a b o)
    step_grow (items n) a z (b, o, (c, e, (d, f, g))) = behind (places g.1 ∙ places f.1 ∙ places e.1) (one n a b o)
    step_grow (splice n name) a z (b, o, (c, e, f)) = behind (places f.2 ∙ places e.1) (one n a b o)
    step_grow (filter n name x) a z (b, o, (c, e, (d, f, (m, g, h)))) =
        then (one n a b o) (before (capture_places name c d f ∙ places e.1) (behind (places h.1) (conds_grow x d m g)))
    step_grow (keys n name op negated x) a z (b, o, (c, e, (d, f, (i, k, (j, t, (m, g, h)))))) =
        then (one n a b o) (before (keys_operator_places op negated i j t ∙ places k.1 ∙ capture_places name c d f ∙ places e.1) (behind (places h.1) (expr_grow false x j m g)))

    expr_grow : (lone : Bool) (x : Expr) (a b : State) → IsExpr s lone x a b → Grows a b
    expr_grow lone (literal n t) a z (v, (b, o, f)) = behind (literal_places t b z f) (one n a b o)
    expr_grow lone (function n name es) a z (v, (b, o, (c, e, (d, f, (m, g, h))))) = then (one n a b o) (before (places f.1 ∙ places e.2) (behind (places h.1) (exprs_grow es d m g)))
    expr_grow lone (asked q) a z (v, (w, h)) = query_grow q a z h
    expr_grow lone (found n q) a z (v, (w, (b, o, (c, e, f)))) = then (one n a b o) (before (places e.1) (query_grow q c z f))

    exprs_grow : (x : Exprs) (a b : State) → IsExprs s x a b → Grows a b
    exprs_grow no_exprs a b h = absurd h
    exprs_grow (more_exprs e es) a b (m, f, g) = then (expr_grow false e a m f) (more_exprs_grow es m b g)

    more_exprs_grow : (x : Exprs) (a b : State) → IsMoreExprs s x a b → Grows a b
    more_exprs_grow no_exprs a b h = none (places h.1)
    more_exprs_grow (more_exprs e es) a z (b, h, (m, f, g)) = before (places h.1) (then (expr_grow false e b m f) (more_exprs_grow es m z g))
