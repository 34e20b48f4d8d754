-- A part leads to lesser parts alone: each edge of a file between two parts leads to one of a lesser size, by induction over the syntax.
use Rattle.std.proofs.Common.{◌≡◌, ℕ, suc, ◌+◌, ◌*◌, ◌<◌, ◌≤◌, arith, List, [], ◌∷◌, ◌++◌, length, Option, Some, None}
use Rattle.guard_syntax.specs.Named.{Named}
use Rattle.guard_syntax.specs.Syntax.{Body, Lets, Let, Conds, OptConds, Disjs, Disj, Parts, Part, Query, Steps, Step, Expr, OptExpr, Exprs, Rule, File, body, no_lets, more_lets, assign, conds, no_conds, with_conds, no_disjs, more_disjs, disj, no_parts, more_parts, block, guarded, kinds, test, refer, call, query, no_steps, more_steps, this, var, key, index, every, items, splice, filter, keys, literal, function, asked, found, no_expr, with_expr, no_exprs, more_exprs}
use Rattle.rule_names.specs.declared.binder.Binder.{Binder}
use Rattle.rule_names.specs.declared.binder.Binder.TheVariants.{Let as LetBinder, Capture, Param}
use Rattle.rule_names.specs.Pieces.{AreInOrder, OfFile, pieces_file, pieces_body, pieces_lets, pieces_let, pieces_conds, pieces_opt_conds, pieces_disjs, pieces_disj, pieces_parts, pieces_part, pieces_query, pieces_steps, pieces_step, pieces_expr, pieces_opt_expr, pieces_exprs, pieces_rule, pieces_rules}
use Rattle.rule_names.specs.ReferenceGraph.{Edge, to_each, body_site, conds_site, value_sites, disj_site, disj_sites, part_site, part_sites, expr_sites, opt_conds_site, opt_expr_site, step_site, last_site, to_last, rule_node, to_binder, to_variable, to_rule, from_capture, to_before, edges_of_body, edges_of_lets, edges_of_let, edges_of_conds, edges_of_opt_conds, edges_of_disjs, edges_of_disj, edges_of_parts, edges_of_part, edges_of_query, edges_of_steps, edges_of_step, edges_of_expr, edges_of_opt_expr, edges_of_exprs, edges_of_rule, edges_of_rules, edges_of_file}
use Rattle.rule_names.specs.Scopes.{Given, given_named, given_body, given_conds, given_file}
use Rattle.rule_names.specs.Uses.{rule_named, query_site, expr_site}
use Rattle.rule_names.specs.code.Within.{StandsIn}
use Rattle.rule_names.proofs.PiecesStand.{IsAmong-whole}
use Rattle.rule_names.proofs.Sizes.{size_body, size_lets, size_conds, size_opt_conds, size_disjs, size_disj, size_parts, size_part, size_query, size_steps, size_step, size_expr, size_opt_expr, size_exprs, size_at, step-some, first-stands, last-stands, behind-stands, body-size, conds-size, disj-size, part-size, query-size, expr-size, AreFrom, all-from, next-from, step-total, last-total}

module _ (f : File) where
  -- an edge between parts leads to a lesser one
  abbrev pub FallsBy : ℕ → ℕ → Type 0
  FallsBy from to = from < length f.places → to < length f.places → size_at f to < size_at f from

  abbrev pub Fall : List Edge → Type 0
  Fall [] = Unit {0}
  Fall (w ∷ ws) = FallsBy w.0 w.1 × Fall ws

  fall-append : (xs ys : List Edge) → Fall xs → Fall ys → Fall (xs ++ ys)
  fall-append [] ys h k = k
  fall-append (x ∷ xs) ys h k = (h.0, fall-append xs ys h.1 k)

  -- an edge of a name
  from-name : (from to : ℕ) → length f.places ≤ from → FallsBy from to
  from-name from to l a b = absurd (omega (arith, l, a))

  to-name : (from to : ℕ) → length f.places ≤ to → FallsBy from to
  to-name from to l a b = absurd (omega (arith, l, b))

  each-from-name : (from : ℕ) (nodes : List ℕ) → length f.places ≤ from → Fall (to_each from nodes)
  each-from-name from [] l = tt
  each-from-name from (x ∷ xs) l = (from-name from x l, each-from-name from xs l)

  -- an edge to a part of a size
  to-part : (from to k : ℕ) → size_at f to ≡ k → k < size_at f from → FallsBy from to
  to-part from to k e l a b = omega (arith, e, l)

  module _ (order : AreInOrder f) where
    -- ---- edges from a part to the parts in it

    to-values : (from : ℕ) (ls : Lets) → StandsIn f (pieces_lets ls) → size_lets ls < size_at f from → Fall (to_each from (value_sites ls))
    to-values from no_lets s l = tt
    to-values from (more_lets (assign n name e) ls) s l =
        let here = behind-stands f _ (pieces_expr e) (first-stands f (pieces_let (assign n name e)) (pieces_lets ls) s) in (
          to-part from (expr_site e) (size_expr e) (expr-size f order e here) (omega (arith, l)),
          to-values from ls (last-stands f (pieces_let (assign n name e)) (pieces_lets ls) s) (omega (arith, l)),
        )

    to-disjs : (from : ℕ) (ds : Disjs) → StandsIn f (pieces_disjs ds) → size_disjs ds < size_at f from → Fall (to_each from (disj_sites ds))
    to-disjs from no_disjs s l = tt
    to-disjs from (more_disjs d ds) s l = (
      to-part from (disj_site d) (size_disj d) (disj-size f order d (first-stands f (pieces_disj d) (pieces_disjs ds) s)) (omega (arith, l)),
      to-disjs from ds (last-stands f (pieces_disj d) (pieces_disjs ds) s) (omega (arith, l)),
    )

    to-parts : (from : ℕ) (ps : Parts) → StandsIn f (pieces_parts ps) → size_parts ps < size_at f from → Fall (to_each from (part_sites ps))
    to-parts from no_parts s l = tt
    to-parts from (more_parts p ps) s l = (
      to-part from (part_site p) (size_part p) (part-size f order p (first-stands f (pieces_part p) (pieces_parts ps) s)) (omega (arith, l)),
      to-parts from ps (last-stands f (pieces_part p) (pieces_parts ps) s) (omega (arith, l)),
    )

    to-exprs : (from : ℕ) (es : Exprs) → StandsIn f (pieces_exprs es) → size_exprs es < size_at f from → Fall (to_each from (expr_sites es))
    to-exprs from no_exprs s l = tt
    to-exprs from (more_exprs e es) s l = (
      to-part from (expr_site e) (size_expr e) (expr-size f order e (first-stands f (pieces_expr e) (pieces_exprs es) s)) (omega (arith, l)),
      to-exprs from es (last-stands f (pieces_expr e) (pieces_exprs es) s) (omega (arith, l)),
    )

    to-query : (from : ℕ) (q : Query) (more : List ℕ) → StandsIn f (pieces_query q) → size_query q < size_at f from → Fall (to_each from more) → Fall (to_each from (query_site q ∷ more))
    to-query from q more s l h = (to-part from (query_site q) (size_query q) (query-size f order q s) l, h)

    to-conds : (from : ℕ) (c : Conds) (more : List ℕ) → StandsIn f (pieces_conds c) → size_conds c < size_at f from → Fall (to_each from more) → Fall (to_each from (conds_site c ∷ more))
    to-conds from c more s l h = (to-part from (conds_site c) (size_conds c) (conds-size f order c s) l, h)

    to-opt_conds : (from : ℕ) (c : OptConds) (more : List ℕ) → StandsIn f (pieces_opt_conds c) → size_opt_conds c < size_at f from → Fall (to_each from more) → Fall (to_each from (opt_conds_site c ++ more))
    to-opt_conds from no_conds more s l h = h
    to-opt_conds from (with_conds c) more s l h = to-conds from c more s l h

    to-body : (from : ℕ) (b : Body) → StandsIn f (pieces_body b) → size_body b < size_at f from → Fall (to_each from (body_site b ∷ []))
    to-body from b s l = (to-part from (body_site b) (size_body b) (body-size f order b s) l, tt)

    to-opt_expr : (from : ℕ) (e : OptExpr) → StandsIn f (pieces_opt_expr e) → size_opt_expr e < size_at f from → Fall (to_each from (opt_expr_site e))
    to-opt_expr from no_expr s l = tt
    to-opt_expr from (with_expr e) s l = (to-part from (expr_site e) (size_expr e) (expr-size f order e s) l, tt)

    -- ---- edges to names and from them

    abbrev rules : List Rule
    rules = f.rules

    abbrev count : ℕ
    count = length f.places

    fall-binder : (n : ℕ) (by : Binder) → Fall (to_binder rules count n by)
    fall-binder n (LetBinder site) = (to-name n (2 * count + site) (omega arith), tt)
    fall-binder n (Capture site) = (to-name n (2 * count + site) (omega arith), tt)
    fall-binder n (Param i) = tt

    fall-variable : (n : ℕ) (g : Option Given) → Fall (to_variable rules count n g)
    fall-variable n None = tt
    fall-variable n (Some g) = fall-binder n g.by

    fall-reference : (n : ℕ) (r : Option Rule) → Fall (to_rule rules count n r)
    fall-reference n None = tt
    fall-reference n (Some r) = (to-name n (count + r.site) (omega arith), tt)

    fall-capture : (n : ℕ) (name : Option Named) → Fall (from_capture rules count n name)
    fall-capture n None = tt
    fall-capture n (Some name) = (from-name (2 * count + n) n (omega arith), tt)

    -- a step leads to the one before it, if there is one; those before it have a size together
    abbrev Before : ℕ → Option ℕ → Type 0
    Before t None = Unit {0}
    Before t (Some before) = size_at f before ≡ t

    fall-before : (n t : ℕ) (before : Option ℕ) → Before t before → t < size_at f n → Fall (to_before rules count n before)
    fall-before n t None e l = tt
    fall-before n t (Some before) e l = (to-part n before t e l, tt)

    -- ---- the edges of each part

    mutual
      fall-body : (visible : List Given) (params : List Named) (x : Body) → StandsIn f (pieces_body x) → Fall (edges_of_body rules count visible params x)
      fall-body visible params (body n ls ds) s =
          let e = body-size f order (body n ls ds) s in
          let rest = behind-stands f _ (pieces_lets ls ++ pieces_disjs ds) s in
          let lets = first-stands f (pieces_lets ls) (pieces_disjs ds) rest in
          let disjs = last-stands f (pieces_lets ls) (pieces_disjs ds) rest in
          fall-append (to_each n (value_sites ls)) _ (to-values n ls lets (omega (arith, e)))
          (fall-append (to_each n (disj_sites ds)) _ (to-disjs n ds disjs (omega (arith, e)))
          (fall-append (edges_of_lets rules count (given_body params (body n ls ds) ++ visible) ls) _
          (fall-lets (given_body params (body n ls ds) ++ visible) ls lets) (fall-disjs (given_body params (body n ls ds) ++ visible) ds disjs)))

      fall-lets : (visible : List Given) (x : Lets) → StandsIn f (pieces_lets x) → Fall (edges_of_lets rules count visible x)
      fall-lets visible no_lets s = tt
      fall-lets visible (more_lets l ls) s =
          fall-append (edges_of_let rules count visible l) _ (fall-let visible l (first-stands f (pieces_let l) (pieces_lets ls) s)) (fall-lets visible ls (last-stands f (pieces_let l) (pieces_lets ls) s))

      fall-let : (visible : List Given) (x : Let) → StandsIn f (pieces_let x) → Fall (edges_of_let rules count visible x)
      fall-let visible (assign n name e) s = (from-name (2 * count + n) (expr_site e) (omega arith), fall-expr visible e (behind-stands f _ (pieces_expr e) s))

      fall-conds : (visible : List Given) (x : Conds) → StandsIn f (pieces_conds x) → Fall (edges_of_conds rules count visible x)
      fall-conds visible (conds n ds) s =
          let e = conds-size f order (conds n ds) s in
          let rest = behind-stands f _ (pieces_disjs ds) s in
          fall-append (to_each n (disj_sites ds)) _ (to-disjs n ds rest (omega (arith, e))) (fall-disjs visible ds rest)

      fall-opt_conds : (visible : List Given) (x : OptConds) → StandsIn f (pieces_opt_conds x) → Fall (edges_of_opt_conds rules count visible x)
      fall-opt_conds visible no_conds s = tt
      fall-opt_conds visible (with_conds c) s = fall-conds visible c s

      fall-disjs : (visible : List Given) (x : Disjs) → StandsIn f (pieces_disjs x) → Fall (edges_of_disjs rules count visible x)
      fall-disjs visible no_disjs s = tt
      fall-disjs visible (more_disjs d ds) s =
          fall-append (edges_of_disj rules count visible d) _ (fall-disj visible d (first-stands f (pieces_disj d) (pieces_disjs ds) s)) (fall-disjs visible ds (last-stands f (pieces_disj d) (pieces_disjs ds) s))

      fall-disj : (visible : List Given) (x : Disj) → StandsIn f (pieces_disj x) → Fall (edges_of_disj rules count visible x)
      fall-disj visible (disj n ps) s =
          let e = disj-size f order (disj n ps) s in
          let rest = behind-stands f _ (pieces_parts ps) s in
          fall-append (to_each n (part_sites ps)) _ (to-parts n ps rest (omega (arith, e))) (fall-parts visible ps rest)

      fall-parts : (visible : List Given) (x : Parts) → StandsIn f (pieces_parts x) → Fall (edges_of_parts rules count visible x)
      fall-parts visible no_parts s = tt
      fall-parts visible (more_parts p ps) s =
          fall-append (edges_of_part rules count visible p) _ (fall-part visible p (first-stands f (pieces_part p) (pieces_parts ps) s)) (fall-parts visible ps (last-stands f (pieces_part p) (pieces_parts ps) s))

      fall-part : (visible : List Given) (x : Part) → StandsIn f (pieces_part x) → Fall (edges_of_part rules count visible x)
      fall-part visible (block n any q b) s =
          let e = part-size f order (block n any q b) s in
          let rest = behind-stands f _ (pieces_query q ++ pieces_body b) s in
          let head = first-stands f (pieces_query q) (pieces_body b) rest in
          let inner = last-stands f (pieces_query q) (pieces_body b) rest in
          fall-append (to_each n (query_site q ∷ body_site b ∷ [])) _ (to-query n q (body_site b ∷ []) head (omega (arith, e)) (to-body n b inner (omega (arith, e))))
          (fall-append (edges_of_query rules count visible q) _ (fall-query visible q head) (fall-body visible [] b inner))
      fall-part visible (guarded n c b) s =
          let e = part-size f order (guarded n c b) s in
          let rest = behind-stands f _ (pieces_conds c ++ pieces_body b) s in
          let head = first-stands f (pieces_conds c) (pieces_body b) rest in
          let inner = last-stands f (pieces_conds c) (pieces_body b) rest in
          fall-append (to_each n (conds_site c ∷ body_site b ∷ [])) _ (to-conds n c (body_site b ∷ []) head (omega (arith, e)) (to-body n b inner (omega (arith, e))))
          (fall-append (edges_of_conds rules count visible c) _ (fall-conds visible c head) (fall-body visible [] b inner))
      fall-part visible (kinds n name c b) s =
          let e = part-size f order (kinds n name c b) s in
          let rest = behind-stands f _ (pieces_opt_conds c ++ pieces_body b) s in
          let head = first-stands f (pieces_opt_conds c) (pieces_body b) rest in
          let inner = last-stands f (pieces_opt_conds c) (pieces_body b) rest in
          fall-append (to_each n (opt_conds_site c ++ body_site b ∷ [])) _ (to-opt_conds n c (body_site b ∷ []) head (omega (arith, e)) (to-body n b inner (omega (arith, e))))
          (fall-append (edges_of_opt_conds rules count visible c) _ (fall-opt_conds visible c head) (fall-body visible [] b inner))
      fall-part visible (test n any q op negated right message) s =
          let e = part-size f order (test n any q op negated right message) s in
          let rest = behind-stands f _ (pieces_query q ++ pieces_opt_expr right) s in
          let left = first-stands f (pieces_query q) (pieces_opt_expr right) rest in
          let other = last-stands f (pieces_query q) (pieces_opt_expr right) rest in
          fall-append (to_each n (query_site q ∷ opt_expr_site right)) _ (to-query n q (opt_expr_site right) left (omega (arith, e)) (to-opt_expr n right other (omega (arith, e))))
          (fall-append (edges_of_query rules count visible q) _ (fall-query visible q left) (fall-opt_expr visible right other))
      fall-part visible (refer n negated name message) s = fall-reference n (rule_named rules name)
      fall-part visible (call n negated name es message) s =
          let e = part-size f order (call n negated name es message) s in
          let rest = behind-stands f _ (pieces_exprs es) s in
          fall-append (to_rule rules count n (rule_named rules name)) _ (fall-reference n (rule_named rules name))
          (fall-append (to_each n (expr_sites es)) _ (to-exprs n es rest (omega (arith, e))) (fall-exprs visible es rest))

      fall-query : (visible : List Given) (x : Query) → StandsIn f (pieces_query x) → Fall (edges_of_query rules count visible x)
      fall-query visible (query n ss) s =
          let e = query-size f order (query n ss) s in
          let rest = behind-stands f _ (pieces_steps (query n ss) 0 ss) s in
          fall-append (to_last n ss) _ (fall-last n ss e rest) (fall-steps visible (query n ss) 0 0 None ss (all-from f order n ss) tt rest)

      fall-last : (n : ℕ) (ss : Steps) → size_at f n ≡ suc (size_steps ss) → StandsIn f (pieces_steps (query n ss) 0 ss) → Fall (to_last n ss)
      fall-last n no_steps e s = tt
      fall-last n (more_steps p ps) e s =
          let last = last-total f order (query n (more_steps p ps)) 0 0 p ps (all-from f order n (more_steps p ps)) s in
          (to-part n (last_site (step_site p) ps) (0 + (size_step p + size_steps ps)) last (omega (arith, e)), tt)

      -- steps behind those of a query before an index
      fall-steps : (visible : List Given) (q : Query) (i t : ℕ) (before : Option ℕ) (x : Steps) → AreFrom f order q i t x → Before t before → StandsIn f (pieces_steps q i x) → Fall (edges_of_steps rules count visible before x)
      fall-steps visible q i t before no_steps are known s = tt
      fall-steps visible q i t before (more_steps p ps) are known s =
          let here = first-stands f (pieces_step q i p) (pieces_steps q (suc i) ps) s in
          let total = step-total f order q i t p ps are here in
          let some = step-some p in
          fall-append (to_before rules count (step_site p) before) _ (fall-before (step_site p) t before known (omega (arith, total, some)))
          (fall-append (edges_of_step rules count visible p) _ (fall-step visible q i p (omega (arith, total)) here)
          (fall-steps visible q (suc i) (t + size_step p) (Some (step_site p)) ps (next-from f order q i t p ps are) total (last-stands f (pieces_step q i p) (pieces_steps q (suc i) ps) s)))

      fall-step : (visible : List Given) (q : Query) (i : ℕ) (x : Step) → size_step x ≤ size_at f (step_site x) → StandsIn f (pieces_step q i x) → Fall (edges_of_step rules count visible x)
      fall-step visible q i (this n) l s = tt
      fall-step visible q i (var n name) l s = fall-variable n (given_named visible name)
      fall-step visible q i (key n name) l s = tt
      fall-step visible q i (index n at) l s = tt
      fall-step visible q i (every n) l s = tt
      fall-step visible q i (items n) l s = tt
      fall-step visible q i (splice n name) l s = fall-variable n (given_named visible name.text)
      fall-step visible q i (filter n capture c) l s =
          let rest = behind-stands f _ (pieces_conds c) s in
          fall-append (from_capture rules count n capture) _ (fall-capture n capture)
          (fall-append (to_each n (conds_site c ∷ [])) _ (to-conds n c [] rest (omega (arith, l)) tt) (fall-conds (given_conds c ++ visible) c rest))
      fall-step visible q i (keys n capture op negated e) l s =
          let rest = behind-stands f _ (pieces_expr e) s in
          fall-append (from_capture rules count n capture) _ (fall-capture n capture)
          (to-part n (expr_site e) (size_expr e) (expr-size f order e rest) (omega (arith, l)), fall-expr visible e rest)

      fall-expr : (visible : List Given) (x : Expr) → StandsIn f (pieces_expr x) → Fall (edges_of_expr rules count visible x)
      fall-expr visible (literal n tree) s = tt
      fall-expr visible (function n name es) s =
          let e = expr-size f order (function n name es) s in
          let rest = behind-stands f _ (pieces_exprs es) s in
          fall-append (to_each n (expr_sites es)) _ (to-exprs n es rest (omega (arith, e))) (fall-exprs visible es rest)
      fall-expr visible (asked q) s = fall-query visible q s
      fall-expr visible (found n q) s =
          let e = expr-size f order (found n q) s in
          let rest = behind-stands f _ (pieces_query q) s in
          fall-append (to_each n (query_site q ∷ [])) _ (to-query n q [] rest (omega (arith, e)) tt) (fall-query visible q rest)

      fall-opt_expr : (visible : List Given) (x : OptExpr) → StandsIn f (pieces_opt_expr x) → Fall (edges_of_opt_expr rules count visible x)
      fall-opt_expr visible no_expr s = tt
      fall-opt_expr visible (with_expr e) s = fall-expr visible e s

      fall-exprs : (visible : List Given) (x : Exprs) → StandsIn f (pieces_exprs x) → Fall (edges_of_exprs rules count visible x)
      fall-exprs visible no_exprs s = tt
      fall-exprs visible (more_exprs e es) s =
          fall-append (edges_of_expr rules count visible e) _ (fall-expr visible e (first-stands f (pieces_expr e) (pieces_exprs es) s)) (fall-exprs visible es (last-stands f (pieces_expr e) (pieces_exprs es) s))

    fall-rule : (visible : List Given) (r : Rule) → StandsIn f (pieces_rule r) → Fall (edges_of_rule rules count visible r)
    fall-rule visible r s =
        let rest = behind-stands f _ (pieces_opt_conds r.cond ++ pieces_body r.body) s in
        fall-append (to_each (rule_node rules count r.site) (opt_conds_site r.cond ++ body_site r.body ∷ [])) _ (each-from-name (count + r.site) (opt_conds_site r.cond ++ body_site r.body ∷ []) (omega arith))
        (fall-append (edges_of_opt_conds rules count visible r.cond) _ (fall-opt_conds visible r.cond (first-stands f (pieces_opt_conds r.cond) (pieces_body r.body) rest))
        (fall-body visible r.params r.body (last-stands f (pieces_opt_conds r.cond) (pieces_body r.body) rest)))

    fall-rules : (visible : List Given) (rs : List Rule) → StandsIn f (pieces_rules rs) → Fall (edges_of_rules rules count visible rs)
    fall-rules visible [] s = tt
    fall-rules visible (r ∷ rs) s =
        fall-append (edges_of_rule rules count visible r) _ (fall-rule visible r (first-stands f (pieces_rule r) (pieces_rules rs) s)) (fall-rules visible rs (last-stands f (pieces_rule r) (pieces_rules rs) s))

    pub fall-file : Fall (edges_of_file f)
    fall-file =
        let all = behind-stands f (0, OfFile) (pieces_lets f.lets ++ (pieces_rules f.rules ++ pieces_disjs f.loose)) (IsAmong-whole (pieces_file f)) in
        let items = last-stands f (pieces_lets f.lets) (pieces_rules f.rules ++ pieces_disjs f.loose) all in
        fall-append (edges_of_lets rules count (given_file f) f.lets) _ (fall-lets (given_file f) f.lets (first-stands f (pieces_lets f.lets) (pieces_rules f.rules ++ pieces_disjs f.loose) all))
        (fall-append (edges_of_rules rules count (given_file f) f.rules) _ (fall-rules (given_file f) f.rules (first-stands f (pieces_rules f.rules) (pieces_disjs f.loose) items))
        (fall-disjs (given_file f) f.loose (last-stands f (pieces_rules f.rules) (pieces_disjs f.loose) items)))
