-- Names lead to parts alone: each edge of a file begins at a part or ends at one, by induction over the syntax.
use Rattle.std.proofs.Common.{◌≡◌, ℕ, zero, suc, ◌+◌, ◌*◌, ◌<◌, ◌≤◌, ◌⊎◌, inl, inr, Bool, true, false, cond, refl, ap, sym, ◌∙◌, subst, List, [], ◌∷◌, ◌++◌, length, get_or, set, arith, replicate, Option, Some, None}
use Rattle.std.specs.Prelude.{◌==◌, nat_lt, ◌&&◌}
use Rattle.std.specs.List.{Contains}
use Rattle.std.proofs.lemmas.Bool.{cases_lt}
use Rattle.std.proofs.lemmas.Bool.Decides.{nat_tests}
use Rattle.std.proofs.lemmas.List.{set_past, length-set, length-replicate}
use Rattle.guard_syntax.specs.Named.{Named}
use Rattle.guard_syntax.specs.Sites.{upto, merge, sites_body, sites_lets, sites_let, sites_conds, sites_opt_conds, sites_disjs, sites_disj, sites_parts, sites_part, sites_query, sites_steps, sites_step, sites_expr, sites_opt_expr, sites_exprs, sites_rule, sites_rules, sites_file}
use Rattle.guard_syntax.specs.Syntax.{Body, Lets, Let, Conds, OptConds, Disjs, Disj, Parts, Part, Query, Steps, Step, Expr, OptExpr, Exprs, Rule, File, body, no_lets, more_lets, assign, conds, no_conds, with_conds, no_disjs, more_disjs, disj, no_parts, more_parts, block, guarded, kinds, test, refer, call, query, no_steps, more_steps, this, var, key, index, every, items, splice, filter, keys, literal, function, asked, found, no_expr, with_expr, no_exprs, more_exprs}
use Rattle.rule_names.specs.declared.binder.Binder.{Binder}
use Rattle.rule_names.specs.declared.binder.Binder.TheVariants.{Let as LetBinder, Capture, Param}
use Rattle.rule_names.specs.Graphs.{Graph, Names}
use Rattle.rule_names.specs.Pieces.{AreInOrder}
use Rattle.rule_names.specs.Scopes.{given_named, Given, given_body, given_conds, given_file}
use Rattle.rule_names.specs.Uses.{rule_named, query_site, expr_site}
use Rattle.rule_names.specs.ReferenceGraph.{Edge, to_each, body_site, conds_site, value_sites, disj_sites, part_sites, expr_sites, opt_conds_site, opt_expr_site, step_site, to_last, rule_node, to_binder, to_variable, to_rule, from_capture, to_before, edges_of_body, edges_of_lets, edges_of_let, edges_of_conds, edges_of_opt_conds, edges_of_disjs, edges_of_disj, edges_of_parts, edges_of_part, edges_of_query, edges_of_steps, edges_of_step, edges_of_expr, edges_of_opt_expr, edges_of_exprs, edges_of_rule, edges_of_rules, edges_of_file, with_edge, with_edges, graph_of}
use Rattle.reference_graph.proofs.Additions.{named-after}
use Rattle.reference_graph.proofs.Marking.{not-in-none}
use Rattle.reference_graph.proofs.Reversals.{nothing-there}
use Rattle.rule_names.proofs.Increases.{times, times-append, times-merge}

-- ---- sites below a number

pub record Below (n : ℕ) (sites : List ℕ) : Type 0 where
  pub none : (m : ℕ) → n ≤ m → times m sites ≡ 0

same : (m : ℕ) → (m == m) ≡ true
same m = grind (arith, nat_tests)

below-head : {n x : ℕ} {xs : List ℕ} → Below n (x ∷ xs) → x < n
below-head {n = n} {x = x} {xs = xs} h = elim (cases_lt x n) [
  | inl l ↦ l
  | inr l ↦
      let zero : cond (x == x) 1 0 + times x xs ≡ 0 = h.none x l in
      let one : cond {A = ℕ} (x == x) 1 0 ≡ 1 = ap (λ (v : Bool). cond {A = ℕ} v 1 0) (same x) in
      absurd (omega arith)
]

below-tail : {n x : ℕ} {xs : List ℕ} → Below n (x ∷ xs) → Below n xs
below-tail {x = x} {xs = xs} h = record { none = λ m l. let zero : cond (x == m) 1 0 + times m xs ≡ 0 = h.none m l in omega arith }

below-front : {n : ℕ} (xs ys : List ℕ) → Below n (xs ++ ys) → Below n xs
below-front xs ys h = record { none = λ m l. let zero = h.none m l in omega (arith, times-append m xs ys) }

below-back : {n : ℕ} (xs ys : List ℕ) → Below n (xs ++ ys) → Below n ys
below-back xs ys h = record { none = λ m l. let zero = h.none m l in omega (arith, times-append m xs ys) }

below-first : {n : ℕ} (xs ys : List ℕ) → Below n (merge xs ys) → Below n xs
below-first xs ys h = record { none = λ m l. let zero = h.none m l in omega (arith, times-merge m xs ys) }

below-second : {n : ℕ} (xs ys : List ℕ) → Below n (merge xs ys) → Below n ys
below-second xs ys h = record { none = λ m l. let zero = h.none m l in omega (arith, times-merge m xs ys) }

-- so many numbers are below their end
not-beyond : (m a k : ℕ) → a + k ≤ m → times m (upto a k) ≡ 0
not-beyond m a zero h = refl
not-beyond m a (suc k) h =
    let rest : times m (upto (suc a) k) ≡ 0 = not-beyond m (suc a) k (omega arith) in
    let other : (a == m) ≡ false = grind (arith, nat_tests) in
    let none : cond {A = ℕ} (a == m) 1 0 ≡ 0 = ap (λ (v : Bool). cond {A = ℕ} v 1 0) other in
    omega arith

upto-below : (n : ℕ) → Below n (upto 0 n)
upto-below n = record { none = λ m l. not-beyond m 0 n (omega arith) }

-- ---- edges that begin or end at a part

abbrev Fine : ℕ → List Edge → Type 0
Fine n [] = Unit {0}
Fine n (w ∷ ws) = ((w.0 < n) ⊎ (w.1 < n)) × Fine n ws

fine-append : (n : ℕ) (xs ys : List Edge) → Fine n xs → Fine n ys → Fine n (xs ++ ys)
fine-append n [] ys h k = k
fine-append n (x ∷ xs) ys h k = (h.0, fine-append n xs ys h.1 k)

fine-from : (n from : ℕ) (nodes : List ℕ) → from < n → Fine n (to_each from nodes)
fine-from n from [] l = tt
fine-from n from (x ∷ xs) l = (inl l, fine-from n from xs l)

fine-last : (n from : ℕ) (ss : Steps) → from < n → Fine n (to_last from ss)
fine-last n from no_steps l = tt
fine-last n from (more_steps p ps) l = (inl l, tt)

query-below : {n : ℕ} (q : Query) → Below n (sites_query q) → query_site q < n
query-below (query m ss) h = below-head h

expr-below : {n : ℕ} (e : Expr) → Below n (sites_expr e) → expr_site e < n
expr-below (literal m tree) h = below-head h
expr-below (function m name es) h = below-head h
expr-below (asked q) h = query-below q h
expr-below (found m q) h = below-head h

step-below : {n : ℕ} (p : Step) → Below n (sites_step p) → step_site p < n
step-below (this m) h = below-head h
step-below (var m name) h = below-head h
step-below (key m name) h = below-head h
step-below (index m i) h = below-head h
step-below (every m) h = below-head h
step-below (items m) h = below-head h
step-below (splice m name) h = below-head h
step-below (filter m capture c) h = below-head h
step-below (keys m capture op negated e) h = below-head h

conds-below : {n : ℕ} (c : Conds) → Below n (sites_conds c) → conds_site c < n
conds-below (conds m ds) h = below-head h

body-below : {n : ℕ} (b : Body) → Below n (sites_body b) → body_site b < n
body-below (body m ls ds) h = below-head h

module _ (rules : List Rule) (count : ℕ) where
  fine-binder : (site : ℕ) (by : Binder) → site < count → Fine count (to_binder rules count site by)
  fine-binder site (LetBinder s) l = (inl l, tt)
  fine-binder site (Capture s) l = (inl l, tt)
  fine-binder site (Param i) l = tt

  fine-variable : (site : ℕ) (g : Option Given) → site < count → Fine count (to_variable rules count site g)
  fine-variable site None l = tt
  fine-variable site (Some g) l = fine-binder site g.by l

  fine-reference : (site : ℕ) (r : Option Rule) → site < count → Fine count (to_rule rules count site r)
  fine-reference site None l = tt
  fine-reference site (Some r) l = (inl l, tt)

  fine-capture : (site : ℕ) (name : Option Named) → site < count → Fine count (from_capture rules count site name)
  fine-capture site None l = tt
  fine-capture site (Some name) l = (inr l, tt)

  fine-before : (site : ℕ) (before : Option ℕ) → site < count → Fine count (to_before rules count site before)
  fine-before site None l = tt
  fine-before site (Some before) l = (inl l, tt)

  mutual
    fine-body : (visible : List Given) (params : List Named) (b : Body) → Below count (sites_body b) → Fine count (edges_of_body rules count visible params b)
    fine-body visible params (body n ls ds) h =
        let own : n < count = below-head h in
        let rest : Below count (merge (sites_lets ls) (sites_disjs ds)) = below-tail h in
        fine-append count (to_each n (value_sites ls)) _ (fine-from count n (value_sites ls) own)
        (fine-append count (to_each n (disj_sites ds)) _ (fine-from count n (disj_sites ds) own)
        (fine-append count (edges_of_lets rules count (given_body params (body n ls ds) ++ visible) ls) _
        (fine-lets (given_body params (body n ls ds) ++ visible) ls (below-first (sites_lets ls) (sites_disjs ds) rest))
        (fine-disjs (given_body params (body n ls ds) ++ visible) ds (below-second (sites_lets ls) (sites_disjs ds) rest))))

    fine-lets : (visible : List Given) (x : Lets) → Below count (sites_lets x) → Fine count (edges_of_lets rules count visible x)
    fine-lets visible no_lets h = tt
    fine-lets visible (more_lets l ls) h =
        fine-append count (edges_of_let rules count visible l) _ (fine-let visible l (below-front (sites_let l) (sites_lets ls) h)) (fine-lets visible ls (below-back (sites_let l) (sites_lets ls) h))

    fine-let : (visible : List Given) (x : Let) → Below count (sites_let x) → Fine count (edges_of_let rules count visible x)
    fine-let visible (assign n name e) h =
        let rest : Below count (sites_expr e) = below-tail h in
        (inr (expr-below e rest), fine-expr visible e rest)

    fine-conds : (visible : List Given) (x : Conds) → Below count (sites_conds x) → Fine count (edges_of_conds rules count visible x)
    fine-conds visible (conds n ds) h =
        let own : n < count = below-head h in
        let rest : Below count (sites_disjs ds) = below-tail h in
        fine-append count (to_each n (disj_sites ds)) _ (fine-from count n (disj_sites ds) own) (fine-disjs visible ds rest)

    fine-opt_conds : (visible : List Given) (x : OptConds) → Below count (sites_opt_conds x) → Fine count (edges_of_opt_conds rules count visible x)
    fine-opt_conds visible no_conds h = tt
    fine-opt_conds visible (with_conds c) h = fine-conds visible c h

    fine-disjs : (visible : List Given) (x : Disjs) → Below count (sites_disjs x) → Fine count (edges_of_disjs rules count visible x)
    fine-disjs visible no_disjs h = tt
    fine-disjs visible (more_disjs d ds) h =
        fine-append count (edges_of_disj rules count visible d) _ (fine-disj visible d (below-front (sites_disj d) (sites_disjs ds) h)) (fine-disjs visible ds (below-back (sites_disj d) (sites_disjs ds) h))

    fine-disj : (visible : List Given) (x : Disj) → Below count (sites_disj x) → Fine count (edges_of_disj rules count visible x)
    fine-disj visible (disj n ps) h =
        let own : n < count = below-head h in
        let rest : Below count (sites_parts ps) = below-tail h in
        fine-append count (to_each n (part_sites ps)) _ (fine-from count n (part_sites ps) own) (fine-parts visible ps rest)

    fine-parts : (visible : List Given) (x : Parts) → Below count (sites_parts x) → Fine count (edges_of_parts rules count visible x)
    fine-parts visible no_parts h = tt
    fine-parts visible (more_parts p ps) h =
        fine-append count (edges_of_part rules count visible p) _ (fine-part visible p (below-front (sites_part p) (sites_parts ps) h)) (fine-parts visible ps (below-back (sites_part p) (sites_parts ps) h))

    fine-part : (visible : List Given) (x : Part) → Below count (sites_part x) → Fine count (edges_of_part rules count visible x)
    fine-part visible (block n any q b) h =
        let own : n < count = below-head h in
        let rest : Below count (sites_query q ++ sites_body b) = below-tail h in
        fine-append count (to_each n (query_site q ∷ body_site b ∷ [])) _ (fine-from count n (query_site q ∷ body_site b ∷ []) own)
        (fine-append count (edges_of_query rules count visible q) _ (fine-query visible q (below-front (sites_query q) (sites_body b) rest)) (fine-body visible [] b (below-back (sites_query q) (sites_body b) rest)))
    fine-part visible (guarded n c b) h =
        let own : n < count = below-head h in
        let rest : Below count (sites_conds c ++ sites_body b) = below-tail h in
        fine-append count (to_each n (conds_site c ∷ body_site b ∷ [])) _ (fine-from count n (conds_site c ∷ body_site b ∷ []) own)
        (fine-append count (edges_of_conds rules count visible c) _ (fine-conds visible c (below-front (sites_conds c) (sites_body b) rest)) (fine-body visible [] b (below-back (sites_conds c) (sites_body b) rest)))
    fine-part visible (kinds n name c b) h =
        let own : n < count = below-head h in
        let rest : Below count (sites_opt_conds c ++ sites_body b) = below-tail h in
        fine-append count (to_each n (opt_conds_site c ++ body_site b ∷ [])) _ (fine-from count n (opt_conds_site c ++ body_site b ∷ []) own)
        (fine-append count (edges_of_opt_conds rules count visible c) _ (fine-opt_conds visible c (below-front (sites_opt_conds c) (sites_body b) rest)) (fine-body visible [] b (below-back (sites_opt_conds c) (sites_body b) rest)))
    fine-part visible (test n any q op negated right message) h =
        let own : n < count = below-head h in
        let rest : Below count (sites_query q ++ sites_opt_expr right) = below-tail h in
        fine-append count (to_each n (query_site q ∷ opt_expr_site right)) _ (fine-from count n (query_site q ∷ opt_expr_site right) own)
        (fine-append count (edges_of_query rules count visible q) _ (fine-query visible q (below-front (sites_query q) (sites_opt_expr right) rest))
        (fine-opt_expr visible right (below-back (sites_query q) (sites_opt_expr right) rest)))
    fine-part visible (refer n negated name message) h = fine-reference n (rule_named rules name) (below-head h)
    fine-part visible (call n negated name es message) h =
        let own : n < count = below-head h in
        let rest : Below count (sites_exprs es) = below-tail h in
        fine-append count (to_rule rules count n (rule_named rules name)) _ (fine-reference n (rule_named rules name) own)
        (fine-append count (to_each n (expr_sites es)) _ (fine-from count n (expr_sites es) own) (fine-exprs visible es rest))

    fine-query : (visible : List Given) (x : Query) → Below count (sites_query x) → Fine count (edges_of_query rules count visible x)
    fine-query visible (query n ss) h =
        let own : n < count = below-head h in
        let rest : Below count (sites_steps ss) = below-tail h in
        fine-append count (to_last n ss) _ (fine-last count n ss own) (fine-steps visible None ss rest)

    fine-steps : (visible : List Given) (before : Option ℕ) (x : Steps) → Below count (sites_steps x) → Fine count (edges_of_steps rules count visible before x)
    fine-steps visible before no_steps h = tt
    fine-steps visible before (more_steps p ps) h =
        let here = below-front (sites_step p) (sites_steps ps) h in
        fine-append count (to_before rules count (step_site p) before) _ (fine-before (step_site p) before (step-below p here))
        (fine-append count (edges_of_step rules count visible p) _ (fine-step visible p here) (fine-steps visible (Some (step_site p)) ps (below-back (sites_step p) (sites_steps ps) h)))

    fine-step : (visible : List Given) (x : Step) → Below count (sites_step x) → Fine count (edges_of_step rules count visible x)
    fine-step visible (this n) h = tt
    fine-step visible (var n name) h = fine-variable n (given_named visible name) (below-head h)
    fine-step visible (key n name) h = tt
    fine-step visible (index n i) h = tt
    fine-step visible (every n) h = tt
    fine-step visible (items n) h = tt
    fine-step visible (splice n name) h = fine-variable n (given_named visible name.text) (below-head h)
    fine-step visible (filter n capture c) h =
        let own : n < count = below-head h in
        let rest : Below count (sites_conds c) = below-tail h in
        fine-append count (from_capture rules count n capture) _ (fine-capture n capture own) (inl own, fine-conds (given_conds c ++ visible) c rest)
    fine-step visible (keys n capture op negated e) h =
        let own : n < count = below-head h in
        let rest : Below count (sites_expr e) = below-tail h in
        fine-append count (from_capture rules count n capture) _ (fine-capture n capture own) (inl own, fine-expr visible e rest)

    fine-expr : (visible : List Given) (x : Expr) → Below count (sites_expr x) → Fine count (edges_of_expr rules count visible x)
    fine-expr visible (literal n tree) h = tt
    fine-expr visible (function n name es) h =
        let own : n < count = below-head h in
        let rest : Below count (sites_exprs es) = below-tail h in
        fine-append count (to_each n (expr_sites es)) _ (fine-from count n (expr_sites es) own) (fine-exprs visible es rest)
    fine-expr visible (asked q) h = fine-query visible q h
    fine-expr visible (found n q) h =
        let own : n < count = below-head h in
        let rest : Below count (sites_query q) = below-tail h in
        (inl own, fine-query visible q rest)

    fine-opt_expr : (visible : List Given) (x : OptExpr) → Below count (sites_opt_expr x) → Fine count (edges_of_opt_expr rules count visible x)
    fine-opt_expr visible no_expr h = tt
    fine-opt_expr visible (with_expr e) h = fine-expr visible e h

    fine-exprs : (visible : List Given) (x : Exprs) → Below count (sites_exprs x) → Fine count (edges_of_exprs rules count visible x)
    fine-exprs visible no_exprs h = tt
    fine-exprs visible (more_exprs e es) h =
        fine-append count (edges_of_expr rules count visible e) _ (fine-expr visible e (below-front (sites_expr e) (sites_exprs es) h)) (fine-exprs visible es (below-back (sites_expr e) (sites_exprs es) h))

  -- the name of a rule leads to its conditions and to its body
  fine-rule-parts : (from : ℕ) (c : OptConds) (b : Body) → Below count (sites_opt_conds c) → Below count (sites_body b) → Fine count (to_each from (opt_conds_site c ++ body_site b ∷ []))
  fine-rule-parts from no_conds b h k = (inr (body-below b k), tt)
  fine-rule-parts from (with_conds c) b h k = (inr (conds-below c h), (inr (body-below b k), tt))

  fine-rule : (visible : List Given) (r : Rule) → Below count (sites_rule r) → Fine count (edges_of_rule rules count visible r)
  fine-rule visible r h =
      let rest : Below count (sites_opt_conds r.cond ++ sites_body r.body) = below-tail h in
      let in-conds = below-front (sites_opt_conds r.cond) (sites_body r.body) rest in
      let in-body = below-back (sites_opt_conds r.cond) (sites_body r.body) rest in
      fine-append count (to_each (rule_node rules count r.site) (opt_conds_site r.cond ++ body_site r.body ∷ [])) _ (fine-rule-parts (rule_node rules count r.site) r.cond r.body in-conds in-body)
      (fine-append count (edges_of_opt_conds rules count visible r.cond) _ (fine-opt_conds visible r.cond in-conds) (fine-body visible r.params r.body in-body))

  fine-rules : (visible : List Given) (rs : List Rule) → Below count (sites_rules rs) → Fine count (edges_of_rules rules count visible rs)
  fine-rules visible [] h = tt
  fine-rules visible (r ∷ rs) h =
      fine-append count (edges_of_rule rules count visible r) _ (fine-rule visible r (below-front (sites_rule r) (sites_rules rs) h)) (fine-rules visible rs (below-back (sites_rule r) (sites_rules rs) h))

fine-file : (f : File) → AreInOrder f → Fine (length f.places) (edges_of_file f)
fine-file f order =
    let count = length f.places in
    let all : Below count (sites_file f) = subst (Below count) (sym order) (upto-below count) in
    let rest : Below count (merge (sites_lets f.lets) (merge (sites_rules f.rules) (sites_disjs f.loose))) = below-tail all in
    let items = below-second (sites_lets f.lets) (merge (sites_rules f.rules) (sites_disjs f.loose)) rest in
    fine-append count (edges_of_lets f.rules count (given_file f) f.lets) _ (fine-lets f.rules count (given_file f) f.lets (below-first (sites_lets f.lets) (merge (sites_rules f.rules) (sites_disjs f.loose)) rest))
    (fine-append count (edges_of_rules f.rules count (given_file f) f.rules) _ (fine-rules f.rules count (given_file f) f.rules (below-first (sites_rules f.rules) (sites_disjs f.loose) items))
    (fine-disjs f.rules count (given_file f) f.loose (below-second (sites_rules f.rules) (sites_disjs f.loose) items)))

-- ---- the graph of edges

named-more : (g : Graph) (a b x y : ℕ) → Names (set g a (get_or g a [] ++ b ∷ [])) x y → Names g x y ⊎ ((a ≡ x) × (b ≡ y))
named-more g a b x y h = elim (cases_lt a (length g)) [
  | inl l ↦ named-after g a b l x y h
  | inr l ↦ inl (subst (λ (k : Graph). Names k x y) (set_past g a (get_or g a [] ++ b ∷ []) l) h)
]

edge-names : (v : Bool) (g : Graph) (w : Edge) (x y : ℕ) → Names (cond v (set g w.0 (get_or g w.0 [] ++ w.1 ∷ [])) g) x y → Names g x y ⊎ ((w.0 ≡ x) × (w.1 ≡ y))
edge-names true g w x y h = named-more g w.0 w.1 x y h
edge-names false g w x y h = inl h

edge-length : (v : Bool) (g : Graph) (w : Edge) → length (cond v (set g w.0 (get_or g w.0 [] ++ w.1 ∷ [])) g) ≡ length g
edge-length true g w = length-set g w.0 (get_or g w.0 [] ++ w.1 ∷ [])
edge-length false g w = refl

edges-length : (g : Graph) (ws : List Edge) → length (with_edges g ws) ≡ length g
edges-length g [] = refl
edges-length g (w ∷ ws) = edges-length (with_edge g w) ws ∙ edge-length (nat_lt w.0 (length g) && nat_lt w.1 (length g)) g w

edges-fine : (n : ℕ) (g : Graph) (ws : List Edge) → ((x y : ℕ) → Names g x y → (x < n) ⊎ (y < n)) → Fine n ws → (x y : ℕ) → Names (with_edges g ws) x y → (x < n) ⊎ (y < n)
edges-fine n g [] start h x y k = start x y k
edges-fine n g (w ∷ ws) start h x y k =
    edges-fine n (with_edge g w) ws
    (λ a b m. elim (edge-names (nat_lt w.0 (length g) && nat_lt w.1 (length g)) g w a b m) [
      | inl o ↦ start a b o
      | inr e ↦ elim h.0 [ inl l ↦ inl (subst (λ (z : ℕ). z < n) e.0 l) | inr l ↦ inr (subst (λ (z : ℕ). z < n) e.1 l) ]
    ])
    h.1 x y k

pub graph-length : (f : File) → length (graph_of f) ≡ 3 * length f.places
graph-length f = edges-length (replicate (3 * length f.places) []) (edges_of_file f) ∙ length-replicate {A = List ℕ} (3 * length f.places) []

-- what a name leads to is a part
pub to-parts : (f : File) → AreInOrder f → (a b : ℕ) → Names (graph_of f) a b → length f.places ≤ a → b < length f.places
to-parts f order a b h name =
    elim (edges-fine (length f.places) (replicate (3 * length f.places) []) (edges_of_file f)
    (λ x y k. absurd (not-in-none y (subst (λ (row : List ℕ). Contains row y) (nothing-there (3 * length f.places) x) k))) (fine-file f order) a b h) [
      | inl l ↦ absurd (omega arith)
      | inr l ↦ l
    ]
