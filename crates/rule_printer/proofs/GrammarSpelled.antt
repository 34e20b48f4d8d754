-- What lexemes spell can be spelled again, where what they have can be written: by recursion on the syntax.
use Rattle.std.proofs.Common.{◌≡◌, ℕ, Bool, true, false, List, [], ◌∷◌, Option, Some, None, sym, subst, inl, inr}
use Rattle.doc_values.specs.Tree.{Label, Forest, Nil, Node, snoc}
use Rattle.decimals.specs.declared.decimal.Num.{Num}
use Rattle.guard_lexer.specs.Forms.{IsName, IsTypeName}
use Rattle.guard_lexer.specs.Lexes.{IsTokenList}
use Rattle.guard_lexer.specs.declared.token.Token.{Token}
use Rattle.guard_parser.specs.File.{Rules}
use Rattle.guard_parser.specs.Grammar as g
use Rattle.guard_syntax.specs.Named.{Named}
use Rattle.guard_syntax.specs.declared.syntax.Op.{Op}
use Rattle.guard_syntax.specs.Syntax.{Body, Lets, Let, Conds, OptConds, Disjs, Disj, Parts, Part, Query, Steps, Step, Expr, OptExpr, Exprs, Rule, File, body, no_lets, more_lets, assign, conds, no_conds, with_conds, no_disjs, more_disjs, disj, no_parts, more_parts, block, guarded, kinds, test, refer, call, query, no_steps, more_steps, this, var, key, index, every, items, splice, filter, keys, literal, function, asked, found, no_expr, with_expr, no_exprs, more_exprs}
use Rattle.literal_parser.specs.Forms.{is_name, is_any_name, is_rule_name, is_type_name, is_var, is_index, is_key, is_first_key, is_number, text_of, named_of, index_of, number_of}
use Rattle.literal_parser.specs.Lexemes.{Lexeme, lexemes}
use Rattle.literal_parser.specs.Literal as lit
use Rattle.literal_parser.specs.States.{State, Rel, Has, start}
use Rattle.rule_spelling.specs.code.Pieces.{IsInRange, IsNoted}
use Rattle.rule_printer.specs.code.Spellable as p
use Rattle.rule_printer.proofs.SoundWords.{IsSound, lexeme_sound, name_has, any_name_has, rule_name_has, type_has, variable_has, note_has, key_has, first_key_has, number_has, index_has, scalar_has}

module _ (s : ℕ → Lexeme) (sound : (i : ℕ) → IsSound (s i).word) where
  -- ---- what a lexeme has

  has_named : (n : Named) (a b : State) → Has s is_name named_of n a b → IsName n.text
  has_named n a b (e, v, q) = subst (λ (x : Named). IsName x.text) (sym v) (name_has (s a.at).word (sound a.at) e)

  has_rule_name : (n : Named) (a b : State) → Has s is_rule_name named_of n a b → IsName n.text
  has_rule_name n a b (e, v, q) = subst (λ (x : Named). IsName x.text) (sym v) (rule_name_has (s a.at).word (sound a.at) e)

  has_name : (t : List ℕ) (a b : State) → Has s is_name text_of t a b → IsName t
  has_name t a b (e, v, q) = subst IsName (sym v) (name_has (s a.at).word (sound a.at) e)

  has_any_name : (t : List ℕ) (a b : State) → Has s is_any_name text_of t a b → IsName t
  has_any_name t a b (e, v, q) = subst IsName (sym v) (any_name_has (s a.at).word (sound a.at) e)

  has_type : (t : List ℕ) (a b : State) → Has s is_type_name text_of t a b → IsTypeName t
  has_type t a b (e, v, q) = subst IsTypeName (sym v) (type_has (s a.at).word (sound a.at) e)

  has_var : (t : List ℕ) (a b : State) → Has s is_var text_of t a b → IsName t
  has_var t a b (e, v, q) = subst IsName (sym v) (variable_has (s a.at).word (sound a.at) e)

  has_bound : (n : Named) (a b : State) → Has s is_var named_of n a b → IsName n.text
  has_bound n a b (e, v, q) = subst (λ (x : Named). IsName x.text) (sym v) (variable_has (s a.at).word (sound a.at) e)

  has_key : (t : List ℕ) (a b : State) → Has s is_key text_of t a b → p.IsKey t
  has_key t a b (e, v, q) = subst p.IsKey (sym v) (key_has (s a.at).word (sound a.at) e)

  has_first_key : (t : List ℕ) (a b : State) → Has s is_first_key text_of t a b → p.IsKey t
  has_first_key t a b (e, v, q) = subst p.IsKey (sym v) (first_key_has (s a.at).word (sound a.at) e)

  has_index : (n i : ℕ) (a b : State) → Has s is_index index_of i a b → p.IsStep (index n i)
  has_index n i a b (e, v, q) = subst (λ x. p.IsStep (index n x)) (sym v) (index_has (s a.at).word e)

  has_number : (n : Num) (a b : State) → Has s is_number number_of n a b → IsInRange n
  has_number n a b (e, v, q) = subst IsInRange (sym v) (number_has (s a.at).word (sound a.at))

  note_ok : (message : Option (List ℕ)) (a b : State) → g.IsNote s message a b → p.IsMessage message
  note_ok None a b h = tt
  note_ok (Some t) a b (e, v, q) = subst IsNoted (sym v) (note_has (s a.at).word (sound a.at) e)

  capture_ok : (bound : Option Named) (a b : State) → g.IsCapture s bound a b → p.IsCapture bound
  capture_ok None a b h = tt
  capture_ok (Some n) a b (c, h, bar) = has_named n a c h

  -- ---- literals

  record NodeOk (l : Label) (kids : Forest) : Type 0 where
    name : p.IsOptKey l.key
    value : p.IsValue l l.kind
    inside : p.AreValues kids

  none_inside : (kids : Forest) → kids ≡ Nil → p.AreValues kids
  none_inside kids e = subst p.AreValues (sym e) tt

  module _ (name : Option (List ℕ)) (named : p.IsOptKey name) where
    scalar_ok : (l : Label) (x : Lexeme) → l ≡ lit.scalar name x → IsSound x.word → p.IsOptKey l.key × p.IsValue l l.kind
    scalar_ok l x e h = subst (λ (y : Label). p.IsOptKey y.key × p.IsValue y y.kind) (sym e) (named, scalar_has name x h)

  node_ok : (name : Option (List ℕ)) (l : Label) (kids : Forest) (as_items as_entries : Rel) → p.IsOptKey name → ((a b : State) → as_items a b → p.AreValues kids) → ((a b : State) → as_entries a b → p.AreValues kids)
      → (a b : State) → lit.IsNode s name l kids as_items as_entries a b → NodeOk l kids
  node_ok name l kids f t named fs ts a b (inl (none, (e, v, q))) = let h = scalar_ok name named l (s a.at) v (sound a.at) in record { name = h.0; value = h.1; inside = none_inside kids none }
  node_ok name l kids f t named fs ts a b (inr (inl (r, none, v, (c, (w, (b1, tr, (b2, op, (b3, low, (b4, co, (b5, high, cl)))))), q)))) =
      let h = subst (λ (y : Label). p.IsOptKey y.key × p.IsValue y y.kind) (sym v) (named, (has_number r.low b2 b3 low, has_number r.high b4 b5 high)) in
      record { name = h.0; value = h.1; inside = none_inside kids none }
  node_ok name l kids f t named fs ts a b (inr (inr (inl (c, (e, v, q), (d, inner, cl))))) =
      let h = subst (λ (y : Label). p.IsOptKey y.key × p.IsValue y y.kind) (sym v) (named, tt) in record { name = h.0; value = h.1; inside = fs c d inner }
  node_ok name l kids f t named fs ts a b (inr (inr (inr (c, (e, v, q), (d, inner, cl))))) =
      let h = subst (λ (y : Label). p.IsOptKey y.key × p.IsValue y y.kind) (sym v) (named, tt) in record { name = h.0; value = h.1; inside = ts c d inner }

  values_of : (l : Label) (kids rest : Forest) → NodeOk l kids → p.AreValues rest → p.AreValues (Node l kids rest)
  values_of l kids rest h r = (h.name, h.value, h.inside, r)

  mutual
    items_ok : (f : Forest) (a b : State) → lit.AreItems s f a b → p.AreValues f
    items_ok Nil a b h = tt
    items_ok (Node l kids rest) a b (w, (c, h, hs)) =
        values_of l kids rest (node_ok None l kids (lit.AreItems s kids) (lit.AreEntries s kids) tt (λ x y i. items_ok kids x y i) (λ x y i. entries_ok kids x y i) a c h) (more_items_ok rest c b hs)

    more_items_ok : (f : Forest) (a b : State) → lit.AreMoreItems s f a b → p.AreValues f
    more_items_ok Nil a b h = tt
    more_items_ok (Node l kids rest) a b (c, t, (d, h, hs)) =
        values_of l kids rest (node_ok None l kids (lit.AreItems s kids) (lit.AreEntries s kids) tt (λ x y i. items_ok kids x y i) (λ x y i. entries_ok kids x y i) c d h) (more_items_ok rest d b hs)

    entries_ok : (f : Forest) (a b : State) → lit.AreEntries s f a b → p.AreValues f
    entries_ok Nil a b h = tt
    entries_ok (Node l kids rest) a b (w, (c, (name, new, (d, hk, (e, co, h))), hs)) =
        values_of l kids rest (node_ok (Some name) l kids (lit.AreItems s kids) (lit.AreEntries s kids) (has_key name a d hk) (λ x y i. items_ok kids x y i) (λ x y i. entries_ok kids x y i) e c h)
        (more_entries_ok (Node l kids Nil) rest c b hs)

    more_entries_ok : (before f : Forest) (a b : State) → lit.AreMoreEntries s before f a b → p.AreValues f
    more_entries_ok before Nil a b h = tt
    more_entries_ok before (Node l kids rest) a b (z, t, (c, (name, new, (d, hk, (e, co, h))), hs)) =
        values_of l kids rest (node_ok (Some name) l kids (lit.AreItems s kids) (lit.AreEntries s kids) (has_key name z d hk) (λ x y i. items_ok kids x y i) (λ x y i. entries_ok kids x y i) e c h)
        (more_entries_ok (snoc before l kids) rest c b hs)

  literal_ok : (f : Forest) (a b : State) → lit.IsLiteral s f a b → p.IsLiteral f
  literal_ok Nil a b h = h
  literal_ok (Node l kids Nil) a b h =
      let o = node_ok None l kids (lit.AreItems s kids) (lit.AreEntries s kids) tt (λ x y i. items_ok kids x y i) (λ x y i. entries_ok kids x y i) a b h in (o.value, o.inside)
  literal_ok (Node l kids (Node l2 kids2 rest)) a b h = absurd h

  -- ---- conditions

  mutual
    conds_ok : (c : Conds) (a b : State) → g.IsConds s c a b → p.AreConds c
    conds_ok (conds n no_disjs) a b h = h
    conds_ok (conds n (more_disjs d ds)) a b (c, o, (e, h, hs)) = (disj_ok d c e h, disjs_ok ds e b hs)

    disjs_ok : (ds : Disjs) (a b : State) → g.IsDisjs s ds a b → p.AreDisjs ds
    disjs_ok no_disjs a b h = tt
    disjs_ok (more_disjs d ds) a b (w, (c, h, hs)) = (disj_ok d a c h, disjs_ok ds c b hs)

    disj_ok : (d : Disj) (a b : State) → g.IsDisj s false d a b → p.IsDisj d
    disj_ok (disj n no_parts) a b h = h
    disj_ok (disj n (more_parts q ps)) a b (c, o, (d, h, hs)) = (cond_ok q c d h, ors_ok ps d b hs)

    ors_ok : (ps : Parts) (a b : State) → g.IsOrs s false ps a b → p.AreAlternatives ps
    ors_ok no_parts a b h = tt
    ors_ok (more_parts q ps) a b (c, t, (d, h, hs)) = (cond_ok q c d h, ors_ok ps d b hs)

    cond_ok : (q : Part) (a b : State) → g.IsPart s false q a b → p.IsCond q
    cond_ok (block n any q bd) a b (e, h) = absurd cc
    cond_ok (guarded n cs bd) a b (e, h) = absurd cc
    cond_ok (kinds n t cs bd) a b (e, h) = absurd cc
    cond_ok (test n any q op negated right message) a b (c1, o, (c2, an, (c3, hq, (c4, ho, (c5, hr, hn))))) = (query_ok q c2 c3 hq, right_ok op right c4 c5 hr, note_ok message c5 b hn)
    cond_ok (refer n negated t message) a b (c1, o, (c2, nt, (c3, hn, (w, hm)))) = (has_name t c2 c3 hn, note_ok message c3 b hm)
    cond_ok (call n negated t es message) a b (c1, o, (c2, nt, (c3, hn, (c4, lp, (c5, he, (c6, rp, hm)))))) = (has_name t c2 c3 hn, exprs_ok es c4 c5 he, note_ok message c6 b hm)

    query_ok : (q : Query) (a b : State) → g.IsQuery s q a b → p.IsQuery q
    query_ok (query n no_steps) a b h = h
    query_ok (query n (more_steps st ss)) a b (c, o, (d, h, hs)) = (start_ok st c d h, steps_ok ss d b hs)

    start_ok : (st : Step) (a b : State) → g.IsStart s st a b → p.IsStart st
    start_ok (this n) a b h = tt
    start_ok (var n t) a b (c, o, h) = has_var t c b h
    start_ok (key n t) a b (c, o, h) = has_first_key t c b h
    start_ok (index n i) a b h = h
    start_ok (every n) a b h = h
    start_ok (items n) a b h = h
    start_ok (splice n bound) a b h = h
    start_ok (filter n bound c) a b h = h
    start_ok (keys n bound op negated e) a b h = h

    steps_ok : (ss : Steps) (a b : State) → g.IsSteps s ss a b → p.AreSteps ss
    steps_ok no_steps a b h = tt
    steps_ok (more_steps st ss) a b (w, (c, h, hs)) = (step_ok st a c h, steps_ok ss c b hs)

    step_ok : (st : Step) (a b : State) → g.IsStep s st a b → p.IsStep st
    step_ok (this n) a b h = h
    step_ok (var n t) a b h = h
    step_ok (key n t) a b (c, o, (d, dot, h)) = has_key t d b h
    step_ok (index n i) a b (c, o, inl (d, dot, h)) = has_index n i d b h
    step_ok (index n i) a b (c, o, inr (d, lb, (e, h, rb))) = has_index n i d e h
    step_ok (every n) a b h = tt
    step_ok (items n) a b h = tt
    step_ok (splice n bound) a b (c, o, (d, dot, h)) = has_bound bound d b h
    step_ok (filter n bound cs) a b (c, o, (d, lb, (e, hb, (f, hc, rb)))) = (capture_ok bound d e hb, conds_ok cs e f hc)
    step_ok (keys n bound op negated ex) a b (c, o, (d, lb, (e, hb, (f, hk, (i, ho, (j, he, rb)))))) = (capture_ok bound d e hb, expr_ok false ex i j he)

    expr_ok : (lone : Bool) (e : Expr) (a b : State) → g.IsExpr s lone e a b → p.IsExpr e
    expr_ok lone (literal n tree) a b (w, (c, o, h)) = literal_ok tree c b h
    expr_ok lone (function n t es) a b (w, (c, o, (d, hn, (e, lp, (f, he, rp))))) = (has_any_name t c d hn, exprs_ok es e f he)
    expr_ok lone (asked q) a b (w, (v, h)) = query_ok q a b h
    expr_ok lone (found n q) a b (u, (w, (c, o, (d, t, h)))) = query_ok q d b h

    right_ok : (op : Op) (e : OptExpr) (a b : State) → g.IsRight s op e a b → p.IsOptExpr e
    right_ok op no_expr a b h = tt
    right_ok op (with_expr e) a b (w, h) = expr_ok false e a b h

    exprs_ok : (es : Exprs) (a b : State) → g.IsExprs s es a b → p.AreExprs es
    exprs_ok no_exprs a b h = tt
    exprs_ok (more_exprs e es) a b (c, h, hs) = (expr_ok false e a c h, more_exprs_ok es c b hs)

    more_exprs_ok : (es : Exprs) (a b : State) → g.IsMoreExprs s es a b → p.AreExprs es
    more_exprs_ok no_exprs a b h = tt
    more_exprs_ok (more_exprs e es) a b (c, t, (d, h, hs)) = (expr_ok false e c d h, more_exprs_ok es d b hs)

  opt_conds_ok : (c : OptConds) (a b : State) → g.IsOptConds s c a b → p.AreOptConds c
  opt_conds_ok no_conds a b h = tt
  opt_conds_ok (with_conds c) a b (d, t, h) = conds_ok c d b h

  -- ---- blocks

  let_ok : (l : Let) (a b : State) → g.IsLet s l a b → p.IsLet l
  let_ok (assign n bound e) a b (c, o, (d, t, (f, h, (i, eq, he)))) = (has_named bound d f h, expr_ok true e i b he)

  lets_ok : (ls : Lets) (ps : List g.Piece) → g.AreLets s ls ps → p.AreLets ls
  lets_ok no_lets ps h = tt
  lets_ok (more_lets l ls) [] h = absurd h
  lets_ok (more_lets l ls) (q ∷ qs) (h, hs) = (let_ok l q.from q.to h, lets_ok ls qs hs)

  mutual
    body_ok : (bd : Body) (a b : State) → g.IsBody s bd a b → p.IsBody bd
    body_ok (body n ls ds) a b (c, o, (d, t, (e, (ps, row, hl, hd, some), rb))) = (lets_ok ls (g.of_sort g.ALet ps) hl, all_ok ds (g.of_sort g.APart ps) hd)

    all_ok : (ds : Disjs) (ps : List g.Piece) → g.AreDisjs s ds ps → p.AreItems ds
    all_ok no_disjs ps h = tt
    all_ok (more_disjs d ds) [] h = absurd h
    all_ok (more_disjs d ds) (q ∷ qs) (h, hs) = (item_ok d q.from q.to h, all_ok ds qs hs)

    item_ok : (d : Disj) (a b : State) → g.IsDisj s true d a b → p.IsItem d
    item_ok (disj n no_parts) a b h = h
    item_ok (disj n (more_parts q ps)) a b (c, o, (d, h, hs)) = (part_ok q c d h, parts_ok ps d b hs)

    parts_ok : (ps : Parts) (a b : State) → g.IsOrs s true ps a b → p.AreParts ps
    parts_ok no_parts a b h = tt
    parts_ok (more_parts q ps) a b (c, t, (d, h, hs)) = (part_ok q c d h, parts_ok ps d b hs)

    part_ok : (q : Part) (a b : State) → g.IsPart s true q a b → p.IsPart q
    part_ok (block n any q bd) a b (u, (c, o, (d, an, (e, hq, hb)))) = (query_ok q d e hq, body_ok bd e b hb)
    part_ok (guarded n cs bd) a b (u, (c, o, (d, t, (e, hc, hb)))) = (conds_ok cs d e hc, body_ok bd e b hb)
    part_ok (kinds n t cs bd) a b (u, (c, o, (d, ht, (e, hc, hb)))) = (has_type t c d ht, opt_conds_ok cs d e hc, body_ok bd e b hb)
    part_ok (test n any q op negated right message) a b (c1, o, (c2, an, (c3, hq, (c4, ho, (c5, hr, hn))))) = (query_ok q c2 c3 hq, right_ok op right c4 c5 hr, note_ok message c5 b hn)
    part_ok (refer n negated t message) a b (c1, o, (c2, nt, (c3, hn, (w, hm)))) = (has_name t c2 c3 hn, note_ok message c3 b hm)
    part_ok (call n negated t es message) a b (c1, o, (c2, nt, (c3, hn, (c4, lp, (c5, he, (c6, rp, hm)))))) = (has_name t c2 c3 hn, exprs_ok es c4 c5 he, note_ok message c6 b hm)

  -- ---- files

  names_ok : (ns : List Named) (a b : State) → g.IsNames s ns a b → p.AreNames ns
  names_ok [] a b h = tt
  names_ok (n ∷ ns) a b (c, t, (d, h, hs)) = (has_named n c d h, names_ok ns d b hs)

  head_ok : (ns : List Named) (c : OptConds) (a b : State) → g.IsHead s ns c a b → p.AreNames ns × p.AreOptConds c
  head_ok [] c a b (w, h) = (tt, opt_conds_ok c a b h)
  head_ok (n ∷ ns) no_conds a b (c, t, (d, h, (e, hs, rp))) = ((has_named n c d h, names_ok ns d e hs), tt)
  head_ok (n ∷ ns) (with_conds cs) a b h = absurd h

  rule_ok : (r : Rule) (a b : State) → g.IsRule s r a b → p.IsRule r
  rule_ok r a b (c, o, (d, t, (e, h, (f, hd, hb)))) =
      let head = head_ok r.params r.cond e f hd in record { name = has_rule_name r.name d e h; params = head.0; cond = head.1; body = body_ok r.body f b hb }

  rules_ok : (rs : List Rule) (ps : List g.Piece) → g.AreRules s rs ps → p.AreRules rs
  rules_ok [] ps h = tt
  rules_ok (r ∷ rs) [] h = absurd h
  rules_ok (r ∷ rs) (q ∷ qs) (h, hs) = (rule_ok r q.from q.to h, rules_ok rs qs hs)

  contents_ok : (f : File) (a b : State) → g.IsContents s f.lets f.rules f.loose a b → p.HasSpelling f
  contents_ok f a b (c, o, (ps, row, hl, hr, hd)) = record {
    lets = lets_ok f.lets (g.of_sort g.ALet ps) hl;
    rules = rules_ok f.rules (g.of_sort g.ARule ps) hr;
    loose = all_ok f.loose (g.of_sort g.APart ps) hd;
  }

pub file_spelled : (text : List ℕ) (tokens : List Token) (f : File) → IsTokenList text tokens → Rules text tokens f → p.HasSpelling f
file_spelled text tokens f h (shallow, (b, contents, at, places, mixed)) = contents_ok (lexemes text tokens) (lexeme_sound text tokens h) f start b contents
