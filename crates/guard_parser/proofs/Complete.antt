-- What is spelled so is read so: each rule of the grammar, by recursion on the syntax.
use Rattle.std.proofs.Common.{◌≡◌, ℕ, zero, suc, ◌≤◌, ◌<◌, ◌+◌, Bool, true, false, cond, if◌then◌else◌, ◌&&◌, refl, sym, ap, ◌∙◌, subst, arith, inl, inr, List, [], ◌∷◌, Option, Some, None, max}
use Rattle.doc_values.specs.Tree.{Forest}
use Rattle.guard_syntax.specs.Named.{Named}
use Rattle.guard_syntax.specs.declared.syntax.Op.{Op}
use Rattle.guard_syntax.specs.Syntax.{Body, Lets, Let, Conds, OptConds, Disjs, Disj, Parts, Part, Query, Steps, Step, Expr, OptExpr, Exprs, Rule, body, no_lets, more_lets, assign, conds, no_conds, with_conds, no_disjs, more_disjs, disj, no_parts, more_parts, block, guarded, kinds, test, refer, call, query, no_steps, more_steps, this, var, key, index, every, items, splice, filter, keys, literal, function, asked, found, no_expr, with_expr, no_exprs, more_exprs}
use Rattle.literal_parser.specs.Lexemes.{Lexeme}
use Rattle.literal_parser.specs.Forms.{form, is_name, is_rule_name, is_any_name, is_type_name, is_var, is_index, is_note, is_lbrace, is_rbrace, is_lparen, is_rparen, is_lbracket, is_rbracket, is_comma, is_bar, is_dot, is_star, is_assign, is_equality, is_sign, is_let, is_rule, is_when, is_some_word, is_or, is_neg, is_keys, is_this, is_in, is_operator_word, is_key, is_first_key, is_start, is_r, is_constant, begins_query, begins_step, begins_cond, begins_part, is_literal, text_of, named_of, index_of, operator_of, sign_of, is_binary}
use Rattle.literal_parser.specs.States.{State, Opens, Takes, Has}
use Rattle.literal_parser.specs.code.Parser.{Parser}
use Rattle.literal_parser.specs.Literal.{IsLiteral}
use Rattle.literal_parser.specs.code.LiteralReading.{literal_of}
use Rattle.guard_parser.specs.Grammar.{Sort, ALet, ARule, APart, Piece, of_sort, is_sort, body_sort, file_sort, IsFilled, InRow, IsCapture, IsNote, IsNeg, IsOperator, IsKeysOperator, IsAny, IsNot, IsNames, IsBody, AreLets, AreDisjs, IsLet, IsConds, IsDisjs, IsOptConds, IsDisj, IsOrs, IsPart, IsRight, IsQuery, IsStart, IsSteps, IsStep, IsExpr, IsExprs, IsMoreExprs, IsHead, IsRule, AreRules, IsContents}
use Rattle.part_parser.specs.code.Reading.{is_filled, Inner, named_bar, capture, note, neg, worded, operator, keys_operator, dotted, keyed, filtered, bracketed, step, steps, start_step, query_of, tree_expr, applied, asked_expr, expr_of, found_expr, value_of, more_exprs_of, exprs_of, right, tested, called, referred, ruled, judged, headed, cond_of, cond_part, ors, disj_of, disjs, conds_of, opt_conds, guarded_part, kinds_part, bodied, full_part, let_of, body_items, body_end, body_of, inners}
use Rattle.guard_parser.specs.code.FileReading.{names, params, head, rule_of, file_items, contents}
use Rattle.literal_parser.specs.code.LiteralDepth.{deep_forest}
use Rattle.guard_parser.specs.code.Depth.{deep_body, deep_lets, deep_let, deep_conds, deep_opt_conds, deep_disjs, deep_disj, deep_parts, deep_part, deep_query, deep_steps, deep_step, deep_expr, deep_opt_expr, deep_exprs, deep_rule, deep_rules}
use Rattle.literal_parser.proofs.Combine.{Gives, gives, gives_then, gives_if}
use Rattle.literal_parser.proofs.Apart.{apart, implied}
use Rattle.guard_parser.proofs.Facts.{literal_named}
use Rattle.literal_parser.proofs.Steps.{place, here, gives_opens, gives_takes, gives_has, by, by_next}
use Rattle.guard_parser.proofs.Choices.{contrary, pick, literal_chosen, applied_chosen, asked_chosen, found_chosen, expr_chosen, led_chosen, named_chosen}
use Rattle.guard_parser.proofs.Grows as grow

module _ (s : ℕ → Lexeme) where
  -- ---- what does not recurse

  bar_ahead : (name : Named) (a b c : State) → Has s is_name named_of name a b → Takes s is_bar b c → is_bar (form (s (suc a.at))) ≡ true
  bar_ahead name a b c h k = subst (λ n. is_bar (form (s n)) ≡ true) (place h.2) k.0

  pub capture_gives : (c : Option Named) (a b : State) (seen : ℕ) → IsCapture s c a b → Gives (capture s a seen) c b
  unfolding capture named_bar
  capture_gives None a b seen (e, d) = pick s is_name _ _ a seen
      (λ name n. by_next s is_bar false _ _ a n (sym (ap (λ v. v && is_bar (form (s (suc a.at)))) name) ∙ e) (here d))
      (λ name n. here d)
  capture_gives (Some name) a b seen (m, d, f) = by s is_name true _ _ a seen d.0 (by_next s is_bar true _ _ a _ (bar_ahead name a m b d f)
      (gives_then _ (gives_has s is_name named_of name a m _ d) (λ sn. gives_then _ (gives_takes s is_bar m b sn f) (λ sn. gives))))

  pub note_gives : (c : Option (List ℕ)) (a b : State) (seen : ℕ) → IsNote s c a b → Gives (note s a seen) c b
  unfolding note
  note_gives None a b seen (e, d) = by s is_note false _ _ a seen e (here d)
  note_gives (Some t) a b seen d = by s is_note true _ _ a seen d.0 (gives_then _ (gives_has s is_note text_of t a b _ d) (λ sn. gives))

  neg_gives : (v : Bool) (a b : State) (seen : ℕ) → IsNeg s v a b → Gives (neg s a seen) v b
  unfolding neg
  neg_gives true a b seen d = by s is_neg true _ _ a seen d.0 (gives_then _ (gives_takes s is_neg a b _ d) (λ sn. gives))
  neg_gives false a b seen (e, d) = by s is_neg false _ _ a seen e (here d)

  worded_gives : (f : ℕ → Bool) (op : Op) (v : Bool) (a m b : State) (seen : ℕ) → IsNeg s v a m → Has s f operator_of op m b → Gives (worded s f a seen) (op, v) b
  unfolding worded
  worded_gives f op v a m b seen h k = gives_then _ (neg_gives v a m seen h) (λ sn. gives_then _ (gives_has s f operator_of op m b sn k) (λ sn. gives))

  -- no mark begins a word's operator
  neg_apart : (f g : ℕ → Bool) (v : Bool) (op : Op) (a m b : State) → IsNeg s v a m → Has s f operator_of op m b
      → (is_neg (form (s a.at)) ≡ true → g (form (s a.at)) ≡ false) → (f (form (s a.at)) ≡ true → g (form (s a.at)) ≡ false) → g (form (s a.at)) ≡ false
  neg_apart f g true op a m b h k p q = p h.0
  neg_apart f g false op a m b (e, d) k p q = q (subst (λ n. f (form (s n)) ≡ true) (place d) k.0)

  pub operator_gives : (op : Op) (v : Bool) (a b : State) (seen : ℕ) → IsOperator s op v a b → Gives (operator s a seen) (op, v) b
  unfolding operator
  operator_gives op v a b seen (inl d) = by s is_sign true _ _ a seen d.0 (gives_has s is_sign sign_of (op, v) a b _ d)
  operator_gives op v a b seen (inr (m, h, k)) = by s is_sign false _ _ a seen
      (neg_apart is_operator_word is_sign v op a m b h k (apart is_neg is_sign (s a.at) refl) (apart is_operator_word is_sign (s a.at) refl))
      (worded_gives is_operator_word op v a m b _ h k)

  pub keys_operator_gives : (op : Op) (v : Bool) (a b : State) (seen : ℕ) → IsKeysOperator s op v a b → Gives (keys_operator s a seen) (op, v) b
  unfolding keys_operator
  keys_operator_gives op v a b seen (inl d) = by s is_equality true _ _ a seen d.0 (gives_has s is_equality sign_of (op, v) a b _ d)
  keys_operator_gives op v a b seen (inr (m, h, k)) = by s is_equality false _ _ a seen
      (neg_apart is_in is_equality v op a m b h k (apart is_neg is_equality (s a.at) refl) (apart is_in is_equality (s a.at) refl))
      (worded_gives is_in op v a m b _ h k)

  -- an operator is no brace
  operator_begins : (op : Op) (v : Bool) (a b : State) → IsOperator s op v a b → is_lbrace (form (s a.at)) ≡ false
  operator_begins op v a b (inl d) = apart is_sign is_lbrace (s a.at) refl d.0
  operator_begins op v a b (inr (m, h, k)) = neg_apart is_operator_word is_lbrace v op a m b h k (apart is_neg is_lbrace (s a.at) refl) (apart is_operator_word is_lbrace (s a.at) refl)

  names_give : (turns k : ℕ) (ns : List Named) (a b : State) (seen : ℕ) → b.at < k + a.at → IsNames s ns a b → Gives (names s turns k a seen) ns b
  unfolding names
  names_give turns zero ns a b seen room h = let g = grow.names_grow s ns a b h in absurd (omega arith)
  names_give turns (suc k) [] a b seen room (e, d) = by s is_comma false _ _ a seen e (here d)
  names_give turns (suc k) (n ∷ ns) a b seen room (c, e, (d, f, g)) =
      let p = place e.1 in let q = place f.2 in
      by s is_comma true _ _ a seen e.0 (gives_then _ (gives_takes s is_comma a c _ e) (λ sn. gives_then _ (gives_has s is_name named_of n c d sn f) (λ sn.
      gives_then _ (names_give turns k ns d b sn (omega arith) g) (λ sn. gives))))

  -- behind a bracket stands the capture, or what follows none
  captured : (g f : ℕ → Bool) (c : Option Named) (a b : State) → IsCapture s c a b → (is_name (form (s a.at)) ≡ true → g (form (s a.at)) ≡ false)
      → (f (form (s a.at)) ≡ true → g (form (s a.at)) ≡ false) → f (form (s b.at)) ≡ true → g (form (s a.at)) ≡ false
  captured g f None a b (e, d) p q h = q (subst (λ n. f (form (s n)) ≡ true) (place d) h)
  captured g f (Some name) a b (m, d, k) p q h = p d.0

  -- ---- what each begins with

  start_begins : (p : Step) (a b : State) → IsStart s p a b → begins_query (form (s a.at)) ≡ true
  start_begins (this n) a b (m, o, f) = subst (λ k. begins_query (form (s k)) ≡ true) (place o.1) (implied is_this begins_query (s m.at) refl f.0)
  start_begins (var n name) a b (m, o, f) = subst (λ k. begins_query (form (s k)) ≡ true) (place o.1) (implied is_var begins_query (s m.at) refl f.0)
  start_begins (key n name) a b (m, o, f) = subst (λ k. begins_query (form (s k)) ≡ true) (place o.1) (implied is_first_key begins_query (s m.at) refl f.0)
  start_begins (index n i) a b h = absurd h
  start_begins (every n) a b h = absurd h
  start_begins (items n) a b h = absurd h
  start_begins (splice n name) a b h = absurd h
  start_begins (filter n name c) a b h = absurd h
  start_begins (keys n name op v e) a b h = absurd h

  query_begins : (q : Query) (a b : State) → IsQuery s q a b → begins_query (form (s a.at)) ≡ true
  query_begins (query n no_steps) a b h = absurd h
  query_begins (query n (more_steps p ps)) a b (m, o, (c, f, g)) = subst (λ k. begins_query (form (s k)) ≡ true) (place o.1) (start_begins p m c f)

  any_begins : (full v : Bool) (a b : State) → IsAny s full v a b → begins_cond (form (s a.at)) ≡ true
  any_begins full true a b d = implied is_some_word begins_cond (s a.at) refl d.0
  any_begins full false a b (e, d) = led_begins (is_start (form (s a.at))) refl where
    led_begins : (v : Bool) → is_start (form (s a.at)) ≡ v → begins_cond (form (s a.at)) ≡ true
    led_begins true f = implied is_start begins_cond (s a.at) refl f
    led_begins false f = named (is_name (form (s a.at))) refl where
      named : (v : Bool) → is_name (form (s a.at)) ≡ v → begins_cond (form (s a.at)) ≡ true
      named true g = implied is_name begins_cond (s a.at) refl g
      named false g = absurd (contrary e (rw (f, g) refl))

  not_begins : (full v : Bool) (name : List ℕ) (a m b : State) → IsNot s full v a m → Has s is_name text_of name m b → begins_cond (form (s a.at)) ≡ true
  not_begins full true name a m b d f = implied is_neg begins_cond (s a.at) refl d.0
  not_begins full false name a m b (e, d) f = implied is_name begins_cond (s a.at) refl (subst (λ n. is_name (form (s n)) ≡ true) (place d) f.0)

  cond_begins : (p : Part) (a b : State) → IsPart s false p a b → begins_cond (form (s a.at)) ≡ true
  cond_begins (block n any q x) a z (v, h) = absurd cc
  cond_begins (guarded n c x) a z (v, h) = absurd cc
  cond_begins (kinds n name c x) a z (v, h) = absurd cc
  cond_begins (test n any q op negated right message) a z (b, o, (c, i, h)) = subst (λ k. begins_cond (form (s k)) ≡ true) (place o.1) (any_begins false any b c i)
  cond_begins (refer n negated name message) a z (b, o, (c, i, (d, f, g))) = subst (λ k. begins_cond (form (s k)) ≡ true) (place o.1) (not_begins false negated name b c d i f)
  cond_begins (call n negated name es message) a z (b, o, (c, i, (d, f, g))) = subst (λ k. begins_cond (form (s k)) ≡ true) (place o.1) (not_begins false negated name b c d i f)

  disj_begins : (x : Disj) (a b : State) → IsDisj s false x a b → begins_cond (form (s a.at)) ≡ true
  disj_begins (disj n no_parts) a z h = absurd h
  disj_begins (disj n (more_parts p ps)) a z (b, o, (m, f, g)) = subst (λ k. begins_cond (form (s k)) ≡ true) (place o.1) (cond_begins p b m f)

  conds_begin : (x : Conds) (a b : State) → IsConds s x a b → begins_cond (form (s a.at)) ≡ true
  conds_begin (conds n no_disjs) a z h = absurd h
  conds_begin (conds n (more_disjs d ds)) a z (b, o, (l, f, g)) = subst (λ k. begins_cond (form (s k)) ≡ true) (place o.1) (disj_begins d b l f)

  body_begins : (x : Body) (a b : State) → IsBody s x a b → is_lbrace (form (s a.at)) ≡ true
  body_begins (body n ls ds) a z (b, o, (c, e, h)) = subst (λ k. is_lbrace (form (s k)) ≡ true) (place o.1) e.0

  -- ---- items in a row

  -- each of the pieces ends before a place
  abbrev pub AllEnd : ℕ → List Piece → Type 0
  AllEnd end [] = Unit {0}
  AllEnd end (p ∷ ps) = (p.to.at < end) × AllEnd end ps

  row_ends : (sort : ℕ → Option Sort) (end : ℕ) (ps : List Piece) (a b : State) → InRow s sort ps a b → grow.AllGrow ps → b.at < end → AllEnd end ps
  row_ends sort end [] a b h all room = tt
  row_ends sort end (p ∷ ps) a b (e, d, h) (g, all) room = let r = grow.row_grows s sort ps p.to b h all in (omega arith, row_ends sort end ps p.to b h all room)

  ends_if : (end : ℕ) (v : Bool) (p : Piece) (ps : List Piece) → p.to.at < end → AllEnd end ps → AllEnd end (if v then p ∷ ps else ps)
  ends_if end true p ps h k = (h, k)
  ends_if end false p ps h k = k

  sort_ends : (k : Sort) (end : ℕ) (ps : List Piece) → AllEnd end ps → AllEnd end (of_sort k ps)
  sort_ends k end [] h = tt
  sort_ends k end (p ∷ ps) (h, t) = ends_if end (is_sort k p.sort) p (of_sort k ps) h (sort_ends k end ps t)

  -- the readers of an item give these lets, and these parts
  module _ (turns : ℕ) (i : Inner) where
    abbrev pub LetsGiven : Lets → List Piece → Type 0
    LetsGiven no_lets [] = Unit {0}
    LetsGiven (more_lets l ls) (p ∷ ps) = ((seen : ℕ) → Gives (let_of s turns i p.from seen) l p.to) × LetsGiven ls ps
    LetsGiven _ _ = ⊥

    abbrev pub PartsGiven : Disjs → List Piece → Type 0
    PartsGiven no_disjs [] = Unit {0}
    PartsGiven (more_disjs d ds) (p ∷ ps) = ((seen : ℕ) → Gives (disj_of s turns i (full_part s turns i) p.from seen) d p.to) × PartsGiven ds ps
    PartsGiven _ _ = ⊥

    abbrev pub RulesGiven : List Rule → List Piece → Type 0
    RulesGiven [] [] = Unit {0}
    RulesGiven (r ∷ rs) (p ∷ ps) = ((seen : ℕ) → Gives (rule_of s turns i p.from seen) r p.to) × RulesGiven rs ps
    RulesGiven _ _ = ⊥

    let_of_body : (x y : Bool) → cond x (Some ALet) (cond y (Some APart) None) ≡ Some ALet → x ≡ true
    let_of_body true y e = refl
    let_of_body false true e = absurd cc
    let_of_body false false e = absurd cc

    part_of_body : (x y : Bool) → cond x (Some ALet) (cond y (Some APart) None) ≡ Some APart → (x ≡ false) × (y ≡ true)
    part_of_body true y e = absurd cc
    part_of_body false true e = (refl, refl)
    part_of_body false false e = absurd cc

    rule_of_body : (x y : Bool) → cond x (Some ALet) (cond y (Some APart) None) ≡ Some ARule → ⊥
    rule_of_body true y e = absurd cc
    rule_of_body false true e = absurd cc
    rule_of_body false false e = absurd cc

    none_of_body : (x y : Bool) → cond x (Some ALet) (cond y (Some APart) None) ≡ None → (x ≡ false) × (y ≡ false)
    none_of_body true y e = absurd cc
    none_of_body false true e = absurd cc
    none_of_body false false e = (refl, refl)

    -- the first item of a body, and those behind it
    body_item_gives : (v : Sort) (k : ℕ) (q : Piece) (qs rs : List Piece) (ls : Lets) (ds : Disjs) (a b : State) (seen : ℕ)
        → body_sort (form (s a.at)) ≡ Some v → q.from ≡ a → LetsGiven ls (if is_sort ALet v then q ∷ qs else qs) → PartsGiven ds (if is_sort APart v then q ∷ rs else rs)
        → ((ls : Lets) (ds : Disjs) (n : ℕ) → LetsGiven ls qs → PartsGiven ds rs → Gives (body_items s turns i k q.to n) (ls, ds) b)
        → Gives (body_items s turns i (suc k) a seen) (ls, ds) b
    unfolding body_items
    body_item_gives ALet k q qs rs no_lets ds a b seen e d l p rest = absurd l
    body_item_gives ALet k q qs rs (more_lets l ls) ds a b seen e d (h, t) p rest =
        by s is_let true _ _ a seen (let_of_body _ _ e) (gives_then _ (subst (λ z. Gives (let_of s turns i z (max seen a.at)) l q.to) d (h (max seen a.at))) (λ sn.
        gives_then _ (rest ls ds sn t p) (λ sn. gives)))
    body_item_gives ARule k q qs rs ls ds a b seen e d l p rest = absurd (rule_of_body _ _ e)
    body_item_gives APart k q qs rs ls no_disjs a b seen e d l p rest = absurd p
    body_item_gives APart k q qs rs ls (more_disjs x ds) a b seen e d l (h, t) rest =
        by s is_let false _ _ a seen (part_of_body _ _ e).0 (by s begins_part true _ _ a _ (part_of_body (is_let (form (s a.at))) _ e).1 (
        gives_then _ (subst (λ z. Gives (disj_of s turns i (full_part s turns i) z (max (max seen a.at) a.at)) x q.to) d (h (max (max seen a.at) a.at))) (λ sn. gives_then _ (rest ls ds sn l t) (λ sn. gives))))

    body_items_give : (k : ℕ) (ps : List Piece) (ls : Lets) (ds : Disjs) (a b : State) (seen : ℕ) → b.at < k + a.at → grow.AllGrow ps → InRow s body_sort ps a b
        → LetsGiven ls (of_sort ALet ps) → PartsGiven ds (of_sort APart ps) → Gives (body_items s turns i k a seen) (ls, ds) b
    unfolding body_items
    body_items_give zero [] ls ds a b seen room all (e, d) l p = let g = place d in absurd (omega arith)
    body_items_give zero (q ∷ ps) ls ds a b seen room (g, all) (e, d, h) l p = let r = grow.row_grows s body_sort ps q.to b h all in let t = place d in absurd (omega arith)
    body_items_give (suc k) [] no_lets no_disjs a b seen room all (e, d) l p =
        by s is_let false _ _ a seen (none_of_body _ _ e).0 (by s begins_part false _ _ a _ (none_of_body (is_let (form (s a.at))) _ e).1 (here d))
    body_items_give (suc k) [] (more_lets l ls) ds a b seen room all h x p = absurd x
    body_items_give (suc k) [] no_lets (more_disjs d ds) a b seen room all h x p = absurd p
    body_items_give (suc k) (q ∷ ps) ls ds a b seen room (g, all) (e, d, h) l p =
        let t = place d in
        body_item_gives q.sort k q (of_sort ALet ps) (of_sort APart ps) ls ds a b seen e d l p
        (λ ls ds n l p. body_items_give k ps ls ds q.to b n (omega arith) all h l p)

    let_of_file : (x y z : Bool) → cond x (Some ALet) (cond y (Some ARule) (cond z (Some APart) None)) ≡ Some ALet → x ≡ true
    let_of_file true y z e = refl
    let_of_file false true z e = absurd cc
    let_of_file false false true e = absurd cc
    let_of_file false false false e = absurd cc

    rule_of_file : (x y z : Bool) → cond x (Some ALet) (cond y (Some ARule) (cond z (Some APart) None)) ≡ Some ARule → (x ≡ false) × (y ≡ true)
    rule_of_file true y z e = absurd cc
    rule_of_file false true z e = (refl, refl)
    rule_of_file false false true e = absurd cc
    rule_of_file false false false e = absurd cc

    part_of_file : (x y z : Bool) → cond x (Some ALet) (cond y (Some ARule) (cond z (Some APart) None)) ≡ Some APart → (x ≡ false) × (y ≡ false) × (z ≡ true)
    part_of_file true y z e = absurd cc
    part_of_file false true z e = absurd cc
    part_of_file false false true e = (refl, refl, refl)
    part_of_file false false false e = absurd cc

    none_of_file : (x y z : Bool) → cond x (Some ALet) (cond y (Some ARule) (cond z (Some APart) None)) ≡ None → (x ≡ false) × (y ≡ false) × (z ≡ false)
    none_of_file true y z e = absurd cc
    none_of_file false true z e = absurd cc
    none_of_file false false true e = absurd cc
    none_of_file false false false e = (refl, refl, refl)

    -- the first item of a file, and those behind it
    file_item_gives : (v : Sort) (k : ℕ) (q : Piece) (qs us rs : List Piece) (ls : Lets) (ts : List Rule) (ds : Disjs) (a b : State) (seen : ℕ)
        → file_sort (form (s a.at)) ≡ Some v → q.from ≡ a → LetsGiven ls (if is_sort ALet v then q ∷ qs else qs) → RulesGiven ts (if is_sort ARule v then q ∷ us else us)
        → PartsGiven ds (if is_sort APart v then q ∷ rs else rs)
        → ((ls : Lets) (ts : List Rule) (ds : Disjs) (n : ℕ) → LetsGiven ls qs → RulesGiven ts us → PartsGiven ds rs → Gives (file_items s turns i k q.to n) (ls, ts, ds) b)
        → Gives (file_items s turns i (suc k) a seen) (ls, ts, ds) b
    unfolding file_items
    file_item_gives ALet k q qs us rs no_lets ts ds a b seen e d l t p rest = absurd l
    file_item_gives ALet k q qs us rs (more_lets l ls) ts ds a b seen e d (h, g) t p rest =
        by s is_let true _ _ a seen (let_of_file _ _ _ e) (gives_then _ (subst (λ z. Gives (let_of s turns i z (max seen a.at)) l q.to) d (h (max seen a.at))) (λ sn.
        gives_then _ (rest ls ts ds sn g t p) (λ sn. gives)))
    file_item_gives ARule k q qs us rs ls [] ds a b seen e d l t p rest = absurd t
    file_item_gives ARule k q qs us rs ls (r ∷ ts) ds a b seen e d l (h, g) p rest =
        by s is_let false _ _ a seen (rule_of_file _ _ _ e).0 (by s is_rule true _ _ a (max seen a.at) (rule_of_file (is_let (form (s a.at))) _ _ e).1 (
        gives_then _ (subst (λ z. Gives (rule_of s turns i z (max (max seen a.at) a.at)) r q.to) d (h (max (max seen a.at) a.at))) (λ sn. gives_then _ (rest ls ts ds sn l g p) (λ sn. gives))))
    file_item_gives APart k q qs us rs ls ts no_disjs a b seen e d l t p rest = absurd p
    file_item_gives APart k q qs us rs ls ts (more_disjs x ds) a b seen e d l t (h, g) rest =
        by s is_let false _ _ a seen (part_of_file _ _ _ e).0 (by s is_rule false _ _ a (max seen a.at) (part_of_file (is_let (form (s a.at))) _ _ e).1 (
        by s begins_part true _ _ a (max (max seen a.at) a.at) (part_of_file (is_let (form (s a.at))) (is_rule (form (s a.at))) _ e).2 (
        gives_then _ (subst (λ z. Gives (disj_of s turns i (full_part s turns i) z (max (max (max seen a.at) a.at) a.at)) x q.to) d (h (max (max (max seen a.at) a.at) a.at))) (λ sn.
        gives_then _ (rest ls ts ds sn l t g) (λ sn. gives)))))

    file_items_give : (k : ℕ) (ps : List Piece) (ls : Lets) (ts : List Rule) (ds : Disjs) (a b : State) (seen : ℕ) → b.at < k + a.at → grow.AllGrow ps → InRow s file_sort ps a b
        → LetsGiven ls (of_sort ALet ps) → RulesGiven ts (of_sort ARule ps) → PartsGiven ds (of_sort APart ps) → Gives (file_items s turns i k a seen) (ls, ts, ds) b
    unfolding file_items
    file_items_give zero [] ls ts ds a b seen room all (e, d) l t p = let g = place d in absurd (omega arith)
    file_items_give zero (q ∷ ps) ls ts ds a b seen room (g, all) (e, d, h) l t p = let r = grow.row_grows s file_sort ps q.to b h all in let m = place d in absurd (omega arith)
    file_items_give (suc k) [] no_lets [] no_disjs a b seen room all (e, d) l t p =
        by s is_let false _ _ a seen (none_of_file _ _ _ e).0 (by s is_rule false _ _ a _ (none_of_file (is_let (form (s a.at))) _ _ e).1 (
        by s begins_part false _ _ a _ (none_of_file (is_let (form (s a.at))) (is_rule (form (s a.at))) _ e).2 (here d)))
    file_items_give (suc k) [] (more_lets l ls) ts ds a b seen room all h x t p = absurd x
    file_items_give (suc k) [] no_lets (r ∷ ts) ds a b seen room all h x t p = absurd t
    file_items_give (suc k) [] no_lets [] (more_disjs d ds) a b seen room all h x t p = absurd p
    file_items_give (suc k) (q ∷ ps) ls ts ds a b seen room (g, all) (e, d, h) l t p =
        let m = place d in
        file_item_gives q.sort k q (of_sort ALet ps) (of_sort ARule ps) (of_sort APart ps) ls ts ds a b seen e d l t p
        (λ ls ts ds n l t p. file_items_give k ps ls ts ds q.to b n (omega arith) all h l t p)

  -- ---- queries and parts that do not recurse

  and_none : (a b : Bool) → a ≡ false → (a && b) ≡ false
  and_none a b e = rw e refl

  -- `some` begins no literal
  some_no_literal : (x y : Lexeme) → is_some_word (form x) ≡ true → is_literal x y ≡ false
  some_no_literal x y w = literal_named x y (implied is_some_word is_any_name x refl w) (and_none _ _ (apart is_some_word is_r x refl w)) (apart is_some_word is_constant x refl w)

  filled : (ds : Disjs) → IsFilled ds → is_filled ds ≡ true
  filled no_disjs h = absurd h
  filled (more_disjs d ds) h = refl

  module _ (turns : ℕ) (i : Inner) where
    start_gives : ((k : ℕ) → i.number k ≡ k) → (p : Step) (a b : State) (seen : ℕ) → IsStart s p a b → Gives (start_step s turns i a seen) p b
    unfolding start_step
    start_gives exact (this n) a b seen (m, o, f) = gives_then _ (gives_opens s i.number exact n a m seen o) (λ sn. by s is_this true _ _ m sn f.0 (gives_then _ (gives_takes s is_this m b _ f) (λ sn. gives)))
    start_gives exact (var n name) a b seen (m, o, f) = gives_then _ (gives_opens s i.number exact n a m seen o) (λ sn. by s is_this false _ _ m sn (apart is_var is_this (s m.at) refl f.0)
        (by s is_var true _ _ m _ f.0 (gives_then _ (gives_has s is_var text_of name m b _ f) (λ sn. gives))))
    start_gives exact (key n name) a b seen (m, o, f) = gives_then _ (gives_opens s i.number exact n a m seen o) (λ sn. by s is_this false _ _ m sn (apart is_first_key is_this (s m.at) refl f.0)
        (by s is_var false _ _ m _ (apart is_first_key is_var (s m.at) refl f.0) (gives_then _ (gives_has s is_first_key text_of name m b _ f) (λ sn. gives))))
    start_gives exact (index n k) a b seen h = absurd h
    start_gives exact (every n) a b seen h = absurd h
    start_gives exact (items n) a b seen h = absurd h
    start_gives exact (splice n name) a b seen h = absurd h
    start_gives exact (filter n name c) a b seen h = absurd h
    start_gives exact (keys n name op v e) a b seen h = absurd h

    -- an expression, or in a let one that may begin with `some`
    abbrev reader : Bool → Parser Expr
    reader true = value_of s turns i
    reader false = expr_of s turns i

    lone_chosen : (lone : Bool) (x : Expr) (a b : State) (seen : ℕ) → (is_some_word (form (s a.at)) ≡ true → is_lparen (form (s (suc a.at))) ≡ true)
        → ((n : ℕ) → Gives (expr_of s turns i a n) x b) → Gives (reader lone a seen) x b
    lone_chosen true x a b seen e h = expr_chosen s turns i x a b seen e h
    lone_chosen false x a b seen e h = h seen

    -- parts of bodies, or of conditions
    abbrev part_of : Bool → Parser Part
    part_of true = full_part s turns i
    part_of false = cond_part s turns i

    cond_opened : ((k : ℕ) → i.number k ≡ k) → (full : Bool) (n : ℕ) (p : Part) (a b z : State) (seen : ℕ) → Opens s n a b → begins_cond (form (s b.at)) ≡ true
        → ((k : ℕ) → Gives (cond_of s turns i full n b k) p z) → Gives (part_of full a seen) p z
    unfolding full_part cond_part
    cond_opened exact true n p a b z seen o e h = gives_then _ (gives_opens s i.number exact n a b seen o) (λ sn. by s is_when false _ _ b sn (apart begins_cond is_when (s b.at) refl e)
        (by s is_type_name false _ _ b _ (apart begins_cond is_type_name (s b.at) refl e) (h _)))
    cond_opened exact false n p a b z seen o e h = gives_then _ (gives_opens s i.number exact n a b seen o) (λ sn. h sn)

    any_chosen : (full any : Bool) (n : ℕ) (p : Part) (a b z : State) (seen : ℕ) → IsAny s full any a b
        → ((k : ℕ) → Gives (headed s turns i full n any b k) p z) → Gives (cond_of s turns i full n a seen) p z
    unfolding cond_of
    any_chosen full true n p a b z seen d h = by s is_some_word true _ _ a seen d.0 (gives_then _ (gives_takes s is_some_word a b _ d) (λ sn. h sn))
    any_chosen full false n p a b z seen (e, d) h = led_chosen s turns i full n p a z seen e (λ k. subst (λ y. Gives (headed s turns i full n false y k) p z) d (h k))

    not_chosen : (full negated : Bool) (n : ℕ) (name : List ℕ) (p : Part) (a b c z : State) (seen : ℕ) → IsNot s full negated a b → Has s is_name text_of name b c
        → ((k : ℕ) → Gives (ruled s turns i n negated b k) p z) → Gives (cond_of s turns i full n a seen) p z
    unfolding cond_of
    not_chosen full true n name p a b c z seen d f h = by s is_some_word false _ _ a seen (apart is_neg is_some_word (s a.at) refl d.0)
        (by s is_neg true _ _ a _ d.0 (gives_then _ (gives_takes s is_neg a b _ d) (λ sn. h sn)))
    not_chosen full false n name p a b c z seen (e, d) f h = named_chosen s turns i full n p a z seen e (subst (λ m. is_name (form (s m)) ≡ true) (place d) f.0)
        (λ k. subst (λ y. Gives (ruled s turns i n false y k) p z) d (h k))

    judged_tested : (full any : Bool) (n : ℕ) (q : Query) (p : Part) (a z : State) (seen : ℕ) → is_lbrace (form (s a.at)) ≡ false
        → ((k : ℕ) → Gives (tested s turns i n any q a k) p z) → Gives (judged s turns i full n any q a seen) p z
    unfolding judged
    judged_tested true any n q p a z seen e h = by s is_lbrace false _ _ a seen e (h _)
    judged_tested false any n q p a z seen e h = h seen

  -- ---- what recurses, given the same of literals

  module _ (turns : ℕ) (literal_grows : (t : Forest) (a b : State) → IsLiteral s t a b → a.at < b.at)
      (tree_gives : (depth : ℕ) (t : Forest) (a b : State) (seen : ℕ) → deep_forest t ≤ depth → b.at < turns → IsLiteral s t a b → Gives (literal_of s turns depth a seen) t b) where
    inner_tree : (depth : ℕ) (t : Forest) (a b : State) (seen : ℕ) → deep_forest t ≤ depth → b.at < turns → IsLiteral s t a b → Gives ((inners s turns depth).tree a seen) t b
    inner_tree zero t a b seen deep end h = tree_gives zero t a b seen deep end h
    inner_tree (suc depth) t a b seen deep end h = tree_gives (suc depth) t a b seen deep end h

    mutual
      unfolding body_of body_end conds_of disjs disj_of ors bodied full_part guarded_part kinds_part headed judged tested called referred ruled right opt_conds let_of tree_expr applied asked_expr found_expr value_of exprs_of more_exprs_of query_of steps step dotted bracketed keyed filtered

      pub body_gives : (depth : ℕ) (x : Body) (a b : State) (seen : ℕ) → deep_body x ≤ suc depth → b.at < turns → IsBody s x a b → Gives (body_of s turns (inners s turns depth) a seen) x b
      body_gives depth (body n ls ds) a z seen deep end (b, o, (c, e, (d, (ps, row, l, p, f), h))) =
          let m = place h.1 in
          let all = grow.all_grow ps (grow.lets_grow s literal_grows ls _ l) (rw (grow.no_rules s ps c d row) tt) (grow.parts_grow s literal_grows ds _ p) in
          let ends = row_ends body_sort turns ps c d row all (omega arith) in
          gives_then _ (gives_opens s (λ k. k) (λ k. refl) n a b seen o) (λ sn. gives_then _ (gives_takes s is_lbrace b c sn e) (λ sn.
          gives_then _ (body_items_give turns (inners s turns depth) turns ps ls ds c d sn (omega arith) all row
          (lets_given depth ls _ (omega arith) (sort_ends ALet turns ps ends) l) (parts_given depth ds _ (omega arith) (sort_ends APart turns ps ends) p)) (λ sn.
          gives_if _ _ d sn (is_filled ds) true (filled ds f) (gives_then _ (gives_takes s is_rbrace d z sn h) (λ sn. gives)))))

      pub lets_given : (depth : ℕ) (x : Lets) (ps : List Piece) → deep_lets x ≤ depth → AllEnd turns ps → AreLets s x ps → LetsGiven turns (inners s turns depth) x ps
      lets_given depth no_lets [] deep ends h = tt
      lets_given depth no_lets (p ∷ ps) deep ends h = absurd h
      lets_given depth (more_lets l ls) [] deep ends h = absurd h
      lets_given depth (more_lets l ls) (p ∷ ps) deep (end, ends) (h, k) = (λ sn. let_gives depth l p.from p.to sn (omega arith) end h, lets_given depth ls ps (omega arith) ends k)

      pub parts_given : (depth : ℕ) (x : Disjs) (ps : List Piece) → deep_disjs x ≤ depth → AllEnd turns ps → AreDisjs s x ps → PartsGiven turns (inners s turns depth) x ps
      parts_given depth no_disjs [] deep ends h = tt
      parts_given depth no_disjs (p ∷ ps) deep ends h = absurd h
      parts_given depth (more_disjs d ds) [] deep ends h = absurd h
      parts_given depth (more_disjs d ds) (p ∷ ps) deep (end, ends) (h, k) = (λ sn. disj_gives depth true d p.from p.to sn (omega arith) end h, parts_given depth ds ps (omega arith) ends k)

      pub let_gives : (depth : ℕ) (x : Let) (a b : State) (seen : ℕ) → deep_let x ≤ depth → b.at < turns → IsLet s x a b → Gives (let_of s turns (inners s turns depth) a seen) x b
      let_gives depth (assign n name e) a z seen deep end (b, o, (c, f, (d, g, (l, h, k)))) =
          gives_then _ (gives_opens s (λ k. k) (λ k. refl) n a b seen o) (λ sn. gives_then _ (gives_takes s is_let b c sn f) (λ sn. gives_then _ (gives_has s is_name named_of name c d sn g) (λ sn.
          gives_then _ (gives_takes s is_assign d l sn h) (λ sn. gives_then _ (expr_gives depth true e l z sn deep end k) (λ sn. gives)))))

      pub conds_give : (depth : ℕ) (x : Conds) (a b : State) (seen : ℕ) → deep_conds x ≤ depth → b.at < turns → IsConds s x a b → Gives (conds_of s turns (inners s turns depth) a seen) x b
      conds_give depth (conds n no_disjs) a z seen deep end h = absurd h
      conds_give depth (conds n (more_disjs d ds)) a z seen deep end (b, o, (l, f, g)) =
          let q = grow.disjs_grow s literal_grows ds l z g in
          gives_then _ (gives_opens s (λ k. k) (λ k. refl) n a b seen o) (λ sn. gives_then _ (disj_gives depth false d b l sn (omega arith) (omega arith) f) (λ sn.
          gives_then _ (disjs_give depth turns ds l z sn (omega arith) (omega arith) end g) (λ sn. gives)))

      pub disjs_give : (depth k : ℕ) (x : Disjs) (a b : State) (seen : ℕ) → deep_disjs x ≤ depth → b.at < k + a.at → b.at < turns → IsDisjs s x a b
          → Gives (disjs s turns (inners s turns depth) k a seen) x b
      disjs_give depth zero x a b seen deep room end h = let g = grow.disjs_grow s literal_grows x a b h in absurd (omega arith)
      disjs_give depth (suc k) no_disjs a b seen deep room end (e, d) = by s begins_cond false _ _ a seen e (here d)
      disjs_give depth (suc k) (more_disjs d ds) a b seen deep room end (e, (m, f, g)) =
          let p = grow.disj_grows s literal_grows false d a m f in let q = grow.disjs_grow s literal_grows ds m b g in
          by s begins_cond true _ _ a seen e (gives_then _ (disj_gives depth false d a m _ (omega arith) (omega arith) f) (λ sn.
          gives_then _ (disjs_give depth k ds m b sn (omega arith) (omega arith) end g) (λ sn. gives)))

      pub opt_conds_give : (depth : ℕ) (x : OptConds) (a b : State) (seen : ℕ) → deep_opt_conds x ≤ depth → b.at < turns → IsOptConds s x a b → Gives (opt_conds s turns (inners s turns depth) a seen) x b
      opt_conds_give depth no_conds a b seen deep end (e, d) = by s is_when false _ _ a seen e (here d)
      opt_conds_give depth (with_conds c) a b seen deep end (m, e, f) =
          by s is_when true _ _ a seen e.0 (gives_then _ (gives_takes s is_when a m _ e) (λ sn. gives_then _ (conds_give depth c m b sn deep end f) (λ sn. gives)))

      pub disj_gives : (depth : ℕ) (full : Bool) (x : Disj) (a b : State) (seen : ℕ) → deep_disj x ≤ depth → b.at < turns → IsDisj s full x a b
          → Gives (disj_of s turns (inners s turns depth) (part_of turns (inners s turns depth) full) a seen) x b
      disj_gives depth full (disj n no_parts) a z seen deep end h = absurd h
      disj_gives depth full (disj n (more_parts p ps)) a z seen deep end (b, o, (m, f, g)) =
          let q = grow.ors_grow s literal_grows full ps m z g in
          gives_then _ (gives_opens s (λ k. k) (λ k. refl) n a b seen o) (λ sn. gives_then _ (part_gives depth full p b m sn (omega arith) (omega arith) f) (λ sn.
          gives_then _ (ors_give depth full turns ps m z sn (omega arith) (omega arith) end g) (λ sn. gives)))

      pub ors_give : (depth : ℕ) (full : Bool) (k : ℕ) (x : Parts) (a b : State) (seen : ℕ) → deep_parts x ≤ depth → b.at < k + a.at → b.at < turns → IsOrs s full x a b
          → Gives (ors s turns (inners s turns depth) (part_of turns (inners s turns depth) full) k a seen) x b
      ors_give depth full zero x a b seen deep room end h = let g = grow.ors_grow s literal_grows full x a b h in absurd (omega arith)
      ors_give depth full (suc k) no_parts a b seen deep room end (e, d) = by s is_or false _ _ a seen e (here d)
      ors_give depth full (suc k) (more_parts p ps) a b seen deep room end (c, e, (m, f, g)) =
          let t = place e.1 in let r = grow.part_grows s literal_grows full p c m f in let q = grow.ors_grow s literal_grows full ps m b g in
          by s is_or true _ _ a seen e.0 (gives_then _ (gives_takes s is_or a c _ e) (λ sn. gives_then _ (part_gives depth full p c m sn (omega arith) (omega arith) f) (λ sn.
          gives_then _ (ors_give depth full k ps m b sn (omega arith) (omega arith) end g) (λ sn. gives))))

      pub part_gives : (depth : ℕ) (full : Bool) (x : Part) (a b : State) (seen : ℕ) → deep_part x ≤ depth → b.at < turns → IsPart s full x a b
          → Gives (part_of turns (inners s turns depth) full a seen) x b
      part_gives depth false (block n any q x) a z seen deep end (v, h) = absurd cc
      part_gives zero true (block n any q (body m ls ds)) a z seen deep end (v, h) = absurd (omega arith)
      part_gives (suc depth) true (block n any q x) a z seen deep end (v, (b, o, (c, i, (d, f, g)))) =
          let t = grow.body_grows s literal_grows x d z g in
          cond_opened turns (inners s turns (suc depth)) (λ k. refl) true n _ a b z seen o (any_begins true any b c i) (λ k.
          any_chosen turns (inners s turns (suc depth)) true any n _ b c z k i (λ k.
          gives_then _ (query_gives (suc depth) q c d k (omega arith) (omega arith) f) (λ sn. by s is_lbrace true _ _ d sn (body_begins x d z g)
          (gives_then _ (body_gives depth x d z _ (omega arith) end g) (λ sn. gives)))))
      part_gives depth false (guarded n c x) a z seen deep end (v, h) = absurd cc
      part_gives zero true (guarded n c (body m ls ds)) a z seen deep end (v, h) = absurd (omega arith)
      part_gives (suc depth) true (guarded n c x) a z seen deep end (v, (b, o, (d, e, (l, f, g)))) =
          let t = grow.body_grows s literal_grows x l z g in
          gives_then _ (gives_opens s (λ k. k) (λ k. refl) n a b seen o) (λ sn. by s is_when true _ _ b sn e.0 (gives_then _ (gives_takes s is_when b d _ e) (λ sn.
          gives_then _ (conds_give (suc depth) c d l sn (omega arith) (omega arith) f) (λ sn. gives_then _ (body_gives depth x l z sn (omega arith) end g) (λ sn. gives)))))
      part_gives depth false (kinds n name c x) a z seen deep end (v, h) = absurd cc
      part_gives zero true (kinds n name c (body m ls ds)) a z seen deep end (v, h) = absurd (omega arith)
      part_gives (suc depth) true (kinds n name c x) a z seen deep end (v, (b, o, (d, e, (l, f, g)))) =
          let t = grow.body_grows s literal_grows x l z g in
          gives_then _ (gives_opens s (λ k. k) (λ k. refl) n a b seen o) (λ sn. by s is_when false _ _ b sn (apart is_type_name is_when (s b.at) refl e.0) (by s is_type_name true _ _ b _ e.0
          (gives_then _ (gives_has s is_type_name text_of name b d _ e) (λ sn. gives_then _ (opt_conds_give (suc depth) c d l sn (omega arith) (omega arith) f) (λ sn.
          gives_then _ (body_gives depth x l z sn (omega arith) end g) (λ sn. gives))))))
      part_gives depth full (test n any q op negated e message) a z seen deep end (b, o, (c, i, (d, f, (l, g, (m, k, p))))) =
          let t = grow.note_grows s message m z p in let u = grow.right_grows s literal_grows op e l m k in let v = grow.operator_grows s op negated d l g in
          cond_opened turns (inners s turns depth) (λ k. refl) full n _ a b z seen o (any_begins full any b c i) (λ sn.
          any_chosen turns (inners s turns depth) full any n _ b c z sn i (λ sn.
          gives_then _ (query_gives depth q c d sn (omega arith) (omega arith) f) (λ sn. judged_tested turns (inners s turns depth) full any n q _ d z sn (operator_begins op negated d l g) (λ sn.
          gives_then _ (operator_gives op negated d l sn g) (λ sn. gives_then _ (right_gives depth op e l m sn (omega arith) (omega arith) k) (λ sn.
          gives_then _ (note_gives message m z sn p) (λ sn. gives)))))))
      part_gives depth full (refer n negated name message) a z seen deep end (b, o, (c, i, (d, f, (e, g)))) =
          cond_opened turns (inners s turns depth) (λ k. refl) full n _ a b z seen o (not_begins full negated name b c d i f) (λ sn.
          not_chosen turns (inners s turns depth) full negated n name _ b c d z sn i f (λ sn.
          gives_then _ (gives_has s is_name text_of name c d sn f) (λ sn. by s is_lparen false _ _ d sn e (gives_then _ (note_gives message d z _ g) (λ sn. gives)))))
      part_gives zero full (call n negated name es message) a z seen deep end h = absurd (omega arith)
      part_gives (suc depth) full (call n negated name es message) a z seen deep end (b, o, (c, i, (d, f, (l, g, (m, k, (p, q, t)))))) =
          let u = place q.1 in let v = grow.note_grows s message p z t in
          cond_opened turns (inners s turns (suc depth)) (λ k. refl) full n _ a b z seen o (not_begins full negated name b c d i f) (λ sn.
          not_chosen turns (inners s turns (suc depth)) full negated n name _ b c d z sn i f (λ sn.
          gives_then _ (gives_has s is_name text_of name c d sn f) (λ sn. by s is_lparen true _ _ d sn g.0 (gives_then _ (gives_takes s is_lparen d l _ g) (λ sn.
          gives_then _ (exprs_give depth es l m sn (omega arith) (omega arith) k) (λ sn. gives_then _ (gives_takes s is_rparen m p sn q) (λ sn.
          gives_then _ (note_gives message p z sn t) (λ sn. gives))))))))

      pub right_gives : (depth : ℕ) (op : Op) (x : OptExpr) (a b : State) (seen : ℕ) → deep_opt_expr x ≤ depth → b.at < turns → IsRight s op x a b
          → Gives (right s turns (inners s turns depth) op a seen) x b
      right_gives depth op no_expr a b seen deep end (e, d) = gives_if _ _ a seen (is_binary op) false e (here d)
      right_gives depth op (with_expr e) a b seen deep end (v, f) = gives_if _ _ a seen (is_binary op) true v (gives_then _ (expr_gives depth false e a b seen deep end f) (λ sn. gives))

      pub query_gives : (depth : ℕ) (x : Query) (a b : State) (seen : ℕ) → deep_query x ≤ depth → b.at < turns → IsQuery s x a b → Gives (query_of s turns (inners s turns depth) a seen) x b
      query_gives depth (query n no_steps) a z seen deep end h = absurd h
      query_gives depth (query n (more_steps p ps)) a z seen deep end (b, o, (m, f, g)) =
          let q = grow.steps_grow s literal_grows ps m z g in
          gives_then _ (gives_opens s (λ k. k) (λ k. refl) n a b seen o) (λ sn. gives_then _ (start_gives turns (inners s turns depth) (λ k. refl) p b m sn f) (λ sn.
          gives_then _ (steps_give depth turns ps m z sn (omega arith) (omega arith) end g) (λ sn. gives)))

      pub steps_give : (depth k : ℕ) (x : Steps) (a b : State) (seen : ℕ) → deep_steps x ≤ depth → b.at < k + a.at → b.at < turns → IsSteps s x a b
          → Gives (steps s turns (inners s turns depth) k a seen) x b
      steps_give depth zero x a b seen deep room end h = let g = grow.steps_grow s literal_grows x a b h in absurd (omega arith)
      steps_give depth (suc k) no_steps a b seen deep room end (e, d) = by s begins_step false _ _ a seen e (here d)
      steps_give depth (suc k) (more_steps p ps) a b seen deep room end (e, (m, f, g)) =
          let r = grow.step_grows s literal_grows p a m f in let q = grow.steps_grow s literal_grows ps m b g in
          by s begins_step true _ _ a seen e (gives_then _ (step_gives depth p a m _ (omega arith) (omega arith) f) (λ sn.
          gives_then _ (steps_give depth k ps m b sn (omega arith) (omega arith) end g) (λ sn. gives)))

      pub step_gives : (depth : ℕ) (x : Step) (a b : State) (seen : ℕ) → deep_step x ≤ depth → b.at < turns → IsStep s x a b → Gives (step s turns (inners s turns depth) a seen) x b
      step_gives depth (this n) a z seen deep end h = absurd h
      step_gives depth (var n name) a z seen deep end h = absurd h
      step_gives depth (key n name) a z seen deep end (b, o, (c, e, f)) =
          gives_then _ (gives_opens s (λ k. k) (λ k. refl) n a b seen o) (λ sn. by s is_dot true _ _ b sn e.0 (gives_then _ (gives_takes s is_dot b c _ e) (λ sn.
          by s is_star false _ _ c sn (apart is_key is_star (s c.at) refl f.0) (by s is_index false _ _ c _ (apart is_key is_index (s c.at) refl f.0)
          (by s is_var false _ _ c _ (apart is_key is_var (s c.at) refl f.0) (gives_then _ (gives_has s is_key text_of name c z _ f) (λ sn. gives)))))))
      step_gives depth (index n i) a z seen deep end (b, o, inl (c, e, f)) =
          gives_then _ (gives_opens s (λ k. k) (λ k. refl) n a b seen o) (λ sn. by s is_dot true _ _ b sn e.0 (gives_then _ (gives_takes s is_dot b c _ e) (λ sn.
          by s is_star false _ _ c sn (apart is_index is_star (s c.at) refl f.0) (by s is_index true _ _ c _ f.0 (gives_then _ (gives_has s is_index index_of i c z _ f) (λ sn. gives))))))
      step_gives depth (index n i) a z seen deep end (b, o, inr (c, e, (d, f, g))) =
          gives_then _ (gives_opens s (λ k. k) (λ k. refl) n a b seen o) (λ sn. by s is_dot false _ _ b sn (apart is_lbracket is_dot (s b.at) refl e.0) (gives_then _ (gives_takes s is_lbracket b c _ e) (λ sn.
          by s is_star false _ _ c sn (apart is_index is_star (s c.at) refl f.0) (by s is_index true _ _ c _ f.0 (gives_then _ (gives_has s is_index index_of i c d _ f) (λ sn.
          gives_then _ (gives_takes s is_rbracket d z sn g) (λ sn. gives)))))))
      step_gives depth (every n) a z seen deep end (b, o, (c, e, f)) =
          gives_then _ (gives_opens s (λ k. k) (λ k. refl) n a b seen o) (λ sn. by s is_dot true _ _ b sn e.0 (gives_then _ (gives_takes s is_dot b c _ e) (λ sn.
          by s is_star true _ _ c sn f.0 (gives_then _ (gives_takes s is_star c z _ f) (λ sn. gives)))))
      step_gives depth (items n) a z seen deep end (b, o, (c, e, (d, f, g))) =
          gives_then _ (gives_opens s (λ k. k) (λ k. refl) n a b seen o) (λ sn. by s is_dot false _ _ b sn (apart is_lbracket is_dot (s b.at) refl e.0) (gives_then _ (gives_takes s is_lbracket b c _ e) (λ sn.
          by s is_star true _ _ c sn f.0 (gives_then _ (gives_takes s is_star c d _ f) (λ sn. gives_then _ (gives_takes s is_rbracket d z sn g) (λ sn. gives))))))
      step_gives depth (splice n name) a z seen deep end (b, o, (c, e, f)) =
          gives_then _ (gives_opens s (λ k. k) (λ k. refl) n a b seen o) (λ sn. by s is_dot true _ _ b sn e.0 (gives_then _ (gives_takes s is_dot b c _ e) (λ sn.
          by s is_star false _ _ c sn (apart is_var is_star (s c.at) refl f.0) (by s is_index false _ _ c _ (apart is_var is_index (s c.at) refl f.0)
          (by s is_var true _ _ c _ f.0 (gives_then _ (gives_has s is_var named_of name c z _ f) (λ sn. gives)))))))
      step_gives zero (filter n name x) a z seen deep end h = absurd (omega arith)
      step_gives (suc depth) (filter n name x) a z seen deep end (b, o, (c, e, (l, f, (m, g, h)))) =
          let t = place h.1 in
          gives_then _ (gives_opens s (λ k. k) (λ k. refl) n a b seen o) (λ sn. by s is_dot false _ _ b sn (apart is_lbracket is_dot (s b.at) refl e.0) (gives_then _ (gives_takes s is_lbracket b c _ e) (λ sn.
          by s is_star false _ _ c sn (captured is_star begins_cond name c l f (apart is_name is_star (s c.at) refl) (apart begins_cond is_star (s c.at) refl) (conds_begin x l m g))
          (by s is_index false _ _ c _ (captured is_index begins_cond name c l f (apart is_name is_index (s c.at) refl) (apart begins_cond is_index (s c.at) refl) (conds_begin x l m g))
          (gives_then _ (capture_gives name c l _ f) (λ sn. by s is_keys false _ _ l sn (apart begins_cond is_keys (s l.at) refl (conds_begin x l m g))
          (gives_then _ (conds_give depth x l m _ (omega arith) (omega arith) g) (λ sn. gives_then _ (gives_takes s is_rbracket m z sn h) (λ sn. gives)))))))))
      step_gives zero (keys n name op negated x) a z seen deep end h = absurd (omega arith)
      step_gives (suc depth) (keys n name op negated x) a z seen deep end (b, o, (c, e, (l, f, (m, g, (p, i, (q, j, k)))))) =
          let t = place k.1 in
          gives_then _ (gives_opens s (λ k. k) (λ k. refl) n a b seen o) (λ sn. by s is_dot false _ _ b sn (apart is_lbracket is_dot (s b.at) refl e.0) (gives_then _ (gives_takes s is_lbracket b c _ e) (λ sn.
          by s is_star false _ _ c sn (captured is_star is_keys name c l f (apart is_name is_star (s c.at) refl) (apart is_keys is_star (s c.at) refl) g.0)
          (by s is_index false _ _ c _ (captured is_index is_keys name c l f (apart is_name is_index (s c.at) refl) (apart is_keys is_index (s c.at) refl) g.0)
          (gives_then _ (capture_gives name c l _ f) (λ sn. by s is_keys true _ _ l sn g.0
          (gives_then _ (gives_takes s is_keys l m _ g) (λ sn. gives_then _ (keys_operator_gives op negated m p sn i) (λ sn.
          gives_then _ (expr_gives depth false x p q sn (omega arith) (omega arith) j) (λ sn. gives_then _ (gives_takes s is_rbracket q z sn k) (λ sn. gives)))))))))))

      pub expr_gives : (depth : ℕ) (lone : Bool) (x : Expr) (a b : State) (seen : ℕ) → deep_expr x ≤ depth → b.at < turns → IsExpr s lone x a b
          → Gives (reader turns (inners s turns depth) lone a seen) x b
      expr_gives depth lone (literal n t) a z seen deep end (e, (b, o, f)) =
          lone_chosen turns (inners s turns depth) lone _ a z seen (λ w. absurd (contrary e (some_no_literal (s a.at) (s (suc a.at)) w))) (λ sn.
          literal_chosen s turns (inners s turns depth) _ a z sn e (λ sn. gives_then _ (gives_opens s (λ k. k) (λ k. refl) n a b sn o) (λ sn. gives_then _ (inner_tree depth t b z sn deep end f) (λ sn. gives))))
      expr_gives zero lone (function n name es) a z seen deep end h = absurd (omega arith)
      expr_gives (suc depth) lone (function n name es) a z seen deep end (e, (b, o, (c, f, (d, g, (l, h, i))))) =
          let t = place i.1 in
          let paren = subst (λ m. is_lparen (form (s m)) ≡ true) (place f.2) g.0 in
          let behind = subst (λ m. is_lparen (form (s (suc m))) ≡ true) (place o.1) paren in
          lone_chosen turns (inners s turns (suc depth)) lone _ a z seen (λ w. behind) (λ sn.
          applied_chosen s turns (inners s turns (suc depth)) _ a z sn refl e (subst (λ m. is_any_name (form (s m)) ≡ true) (place o.1) f.0) behind (λ sn.
          gives_then _ (gives_opens s (λ k. k) (λ k. refl) n a b sn o) (λ sn. gives_then _ (gives_has s is_any_name text_of name b c sn f) (λ sn. gives_then _ (gives_takes s is_lparen c d sn g) (λ sn.
          gives_then _ (exprs_give depth es d l sn (omega arith) (omega arith) h) (λ sn. gives_then _ (gives_takes s is_rparen l z sn i) (λ sn. gives)))))))
      expr_gives depth lone (asked q) a z seen deep end (e, (f, g)) =
          lone_chosen turns (inners s turns depth) lone _ a z seen (λ w. absurd (contrary w (apart begins_query is_some_word (s a.at) refl (query_begins q a z g)))) (λ sn.
          asked_chosen s turns (inners s turns depth) _ a z sn (query_begins q a z g) e f (λ sn. gives_then _ (query_gives depth q a z sn deep end g) (λ sn. gives)))
      expr_gives depth false (found n q) a z seen deep end (v, h) = absurd cc
      expr_gives depth true (found n q) a z seen deep end (v, (e, (b, o, (c, f, g)))) =
          found_chosen s turns (inners s turns depth) _ a z seen e (subst (λ m. is_some_word (form (s m)) ≡ true) (place o.1) f.0) (λ sn.
          gives_then _ (gives_opens s (λ k. k) (λ k. refl) n a b sn o) (λ sn. gives_then _ (gives_takes s is_some_word b c sn f) (λ sn. gives_then _ (query_gives depth q c z sn deep end g) (λ sn. gives))))

      pub exprs_give : (depth : ℕ) (x : Exprs) (a b : State) (seen : ℕ) → deep_exprs x ≤ depth → b.at < turns → IsExprs s x a b → Gives (exprs_of s turns (inners s turns depth) a seen) x b
      exprs_give depth no_exprs a z seen deep end h = absurd h
      exprs_give depth (more_exprs e es) a z seen deep end (b, f, g) =
          let q = grow.more_exprs_grow s literal_grows es b z g in
          gives_then _ (expr_gives depth false e a b seen (omega arith) (omega arith) f) (λ sn. gives_then _ (more_exprs_give depth turns es b z sn (omega arith) (omega arith) end g) (λ sn. gives))

      pub more_exprs_give : (depth k : ℕ) (x : Exprs) (a b : State) (seen : ℕ) → deep_exprs x ≤ depth → b.at < k + a.at → b.at < turns → IsMoreExprs s x a b
          → Gives (more_exprs_of s turns (inners s turns depth) k a seen) x b
      more_exprs_give depth zero x a b seen deep room end h = let g = grow.more_exprs_grow s literal_grows x a b h in absurd (omega arith)
      more_exprs_give depth (suc k) no_exprs a b seen deep room end (e, d) = by s is_comma false _ _ a seen e (here d)
      more_exprs_give depth (suc k) (more_exprs e es) a b seen deep room end (c, f, (m, g, h)) =
          let t = place f.1 in let r = grow.expr_grows s literal_grows false e c m g in let q = grow.more_exprs_grow s literal_grows es m b h in
          by s is_comma true _ _ a seen f.0 (gives_then _ (gives_takes s is_comma a c _ f) (λ sn. gives_then _ (expr_gives depth false e c m sn (omega arith) (omega arith) g) (λ sn.
          gives_then _ (more_exprs_give depth k es m b sn (omega arith) (omega arith) end h) (λ sn. gives))))

    -- ---- rules and the file

    head_gives : (depth : ℕ) (ps : List Named) (c : OptConds) (a b : State) (seen : ℕ) → deep_opt_conds c ≤ depth → b.at < turns → IsHead s ps c a b
        → Gives (head s turns (inners s turns depth) a seen) (ps, c) b
    unfolding head params
    head_gives depth [] c a b seen deep end (e, f) = by s is_lparen false _ _ a seen e (gives_then _ (opt_conds_give depth c a b _ deep end f) (λ sn. gives))
    head_gives depth (n ∷ ns) no_conds a z seen deep end (b, e, (c, f, (d, g, h))) =
        let t = place h.1 in let u = place f.2 in
        by s is_lparen true _ _ a seen e.0 (gives_then _ (gives_then _ (gives_takes s is_lparen a b _ e) (λ sn. gives_then _ (gives_has s is_name named_of n b c sn f) (λ sn.
        gives_then _ (names_give turns turns ns c d sn (omega arith) g) (λ sn. gives_then _ (gives_takes s is_rparen d z sn h) (λ sn. gives))))) (λ sn. gives))
    head_gives depth (n ∷ ns) (with_conds c) a z seen deep end h = absurd h

    pub rule_gives : (depth : ℕ) (x : Rule) (a b : State) (seen : ℕ) → deep_rule x ≤ suc depth → b.at < turns → IsRule s x a b
        → Gives (rule_of s turns (inners s turns (suc depth)) a seen) x b
    unfolding rule_of
    rule_gives depth x a z seen deep end (b, o, (c, e, (d, f, (l, g, h)))) =
        let t = grow.body_grows s literal_grows x.body l z h in
        gives_then _ (gives_opens s (λ k. k) (λ k. refl) x.site a b seen o) (λ sn. gives_then _ (gives_takes s is_rule b c sn e) (λ sn. gives_then _ (gives_has s is_rule_name named_of x.name c d sn f) (λ sn.
        gives_then _ (head_gives (suc depth) x.params x.cond d l sn (omega arith) (omega arith) g) (λ sn. gives_then _ (body_gives depth x.body l z sn (omega arith) end h) (λ sn. gives)))))

    rules_given : (depth : ℕ) (x : List Rule) (ps : List Piece) → deep_rules x ≤ suc depth → AllEnd turns ps → AreRules s x ps → RulesGiven turns (inners s turns (suc depth)) x ps
    rules_given depth [] [] deep ends h = tt
    rules_given depth [] (p ∷ ps) deep ends h = absurd h
    rules_given depth (r ∷ rs) [] deep ends h = absurd h
    rules_given depth (r ∷ rs) (p ∷ ps) deep (end, ends) (h, k) = (λ sn. rule_gives depth r p.from p.to sn (omega arith) end h, rules_given depth rs ps (omega arith) ends k)

    -- a file whose brackets nest no deeper than a number is read
    pub contents_gives : (depth : ℕ) (ls : Lets) (rs : List Rule) (ds : Disjs) (a b : State) (seen : ℕ) → deep_lets ls ≤ suc depth → deep_rules rs ≤ suc depth → deep_disjs ds ≤ suc depth
        → b.at < turns → IsContents s ls rs ds a b → Gives (contents s turns (inners s turns (suc depth)) a seen) (ls, rs, ds) b
    unfolding contents
    contents_gives depth ls rs ds a z seen dl dr dd end (b, o, (ps, row, l, r, p)) =
        let all = grow.all_grow ps (grow.lets_grow s literal_grows ls _ l) (grow.rules_grow s literal_grows rs _ r) (grow.parts_grow s literal_grows ds _ p) in
        let ends = row_ends file_sort turns ps b z row all end in
        gives_then _ (gives_opens s (λ k. k) (λ k. refl) 0 a b seen o) (λ sn. file_items_give turns (inners s turns (suc depth)) turns ps ls rs ds b z sn (omega arith) all row
        (lets_given (suc depth) ls _ dl (sort_ends ALet turns ps ends) l) (rules_given depth rs _ dr (sort_ends ARule turns ps ends) r) (parts_given (suc depth) ds _ dd (sort_ends APart turns ps ends) p))
