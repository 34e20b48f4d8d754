-- The edges of a part, behind what stood before, part of it by part of it.
use Rattle.std.proofs.Common.{◌≡◌, ℕ, ◌+◌, ◌<◌, ◌≤◌, Bool, List, [], ◌∷◌, ◌++◌, map, drop, get_or, length, Option, Some, None, refl, sym, ap, ◌∙◌, rules}
use Rattle.std.proofs.lemmas.List.{append-nil, append_assoc, map-append, drop_more, drop_all}
use Rattle.std.specs.declared.vec.Vec.{Vec}
use Rattle.std.specs.declared.alloc.Global.{Global}
use Rattle.doc_values.specs.Tree.{Forest}
use Rattle.guard_syntax.specs.Named.{Named}
use Rattle.guard_syntax.specs.Syntax as sx
use Rattle.guard_syntax.specs.declared.syntax.Op.{Op}
use Rattle.guard_syntax.specs.declared.syntax.Body.{Body, out-Body, the_lemmas}
use Rattle.guard_syntax.specs.declared.syntax.Conds.{Conds, out-Conds}
use Rattle.guard_syntax.specs.declared.syntax.Query.{Query, out-Query}
use Rattle.guard_syntax.specs.declared.syntax.Let.{Let}
use Rattle.guard_syntax.specs.declared.syntax.Part.{Part}
use Rattle.guard_syntax.specs.declared.syntax.Part as part
use Rattle.guard_syntax.specs.declared.syntax.Step.{Step}
use Rattle.guard_syntax.specs.declared.syntax.StepForm.{StepForm}
use Rattle.guard_syntax.specs.declared.syntax.Disj.{Disj}
use Rattle.guard_syntax.specs.declared.syntax.Rule.{Rule}
use Rattle.guard_syntax.specs.declared.syntax.RawFile.{RawFile}
use Rattle.guard_syntax.specs.declared.syntax.Expr.{Expr}
use Rattle.guard_syntax.specs.declared.syntax.Expr as expr
use Rattle.guard_syntax.specs.code.Seen.{Form, see_form, see_step, see_disj, see_let, see_body, see_conds, see_opt_conds, see_part, see_query, see_rule, see_file, see_expr, see_opt_expr, step_list, disj_list, let_list, part_list, expr_list}
use Rattle.rule_names.specs.Scopes.{Given, given_file}
use Rattle.rule_names.specs.ReferenceGraph.{Edge, to_each, to_last, to_before, to_rule, from_capture, variable_node, rule_node, body_site, conds_site, disj_sites, part_sites, expr_sites, opt_conds_site, opt_expr_site, edges_of_file, edges_of_rules, edges_of_rule, edges_of_body, edges_of_lets, edges_of_let, edges_of_conds, edges_of_opt_conds, edges_of_disjs, edges_of_disj, edges_of_parts, edges_of_part, edges_of_query, edges_of_steps, edges_of_step, edges_of_expr, edges_of_opt_expr, edges_of_exprs}
use Rattle.rule_names.specs.Uses.{rule_named, expr_site, query_site}
use Rattle.rule_names.proofs.Shapes.{let-seen, disj-seen, body-seen, conds-seen, query-seen, step-seen, block-seen, when-seen, kinds-seen, call-seen, function-seen}
use Rattle.name_scopes.proofs.ScopeShapes.{side-seen}
use Rattle.reference_cycles.proofs.LastSteps.{site-seen}
use Rattle.reference_cycles.specs.code.FileEdges.{items_edges}
use Rattle.reference_cycles.specs.code.FilterEdges.{edges_of_filter}
use Rattle.reference_cycles.specs.code.OwnEdges.{own_edges}

-- two lists behind a third
pub in-turn : (start middle xs ys : List Edge) → middle ≡ start ++ xs → middle ++ ys ≡ start ++ (xs ++ ys)
in-turn start middle xs ys is = ap (λ (l : List Edge). l ++ ys) is ∙ append_assoc start xs ys

-- three lists behind a fourth
pub three-in-turn : (start first second xs ys zs : List Edge) → first ≡ start ++ xs → second ≡ first ++ ys → second ++ zs ≡ start ++ (xs ++ (ys ++ zs))
three-in-turn start first second xs ys zs is are = in-turn first second ys zs are ∙ in-turn start first xs (ys ++ zs) is

-- nothing behind a list
pub nothing : (start : List Edge) → start ≡ start ++ []
nothing start = sym (append-nil start)

-- ---- lists, item by item

next : {X : Type 0} (all : List X → List Edge) (each : X → List Edge) → ((y : X) (ys : List X) → all (y ∷ ys) ≡ each y ++ all ys)
    → (xs : List X) (i : ℕ) (x : X) (start old new : List Edge) → i < length xs → x ≡ get_or xs i x → new ≡ old ++ each x → old ++ all (drop i xs) ≡ start
    → new ++ all (drop (i + 1) xs) ≡ start
next all each split xs i x start old new within is added so =
    in-turn old new (each x) (all (drop (i + 1) xs)) added
    ∙ ap (λ (l : List Edge). old ++ l) (sym (split x (drop (i + 1) xs)) ∙ ap (λ y. all (y ∷ drop (i + 1) xs)) is ∙ ap all (sym (drop_more xs i x within)))
    ∙ so

end : {X : Type 0} (all : List X → List Edge) → all [] ≡ [] → (xs : List X) (i : ℕ) (start old : List Edge) → length xs ≤ i → old ++ all (drop i xs) ≡ start → old ≡ start
end all none xs i start old past so = nothing old ∙ ap (λ (l : List Edge). old ++ l) (sym none ∙ ap all (sym (drop_all i xs past))) ∙ so

-- ---- parts without a lemma of their own

refer_seen : (site : ℕ) (negated : Bool) (name : List ℕ) (message : Option (List ℕ)) → see_part (part.Refer site negated name message) ≡ sx.refer site negated name message
refer_seen site negated name message = search (rules, the_lemmas)

-- ---- the edges from a part itself

module _ (rules : List sx.Rule) (count : ℕ) where
  -- whatever a part is seen as
  own_as : (start : List Edge) (x : Part) (p : sx.Part) → see_part x ≡ p → start ++ own_edges rules count p ≡ start ++ own_edges rules count (see_part x)
  own_as start x p is = ap (λ (y : sx.Part). start ++ own_edges rules count y) (sym is)

  pub block-own : (start middle : List Edge) (x : Part) (site : ℕ) (any : Bool) (head : Query) (inner : Body) → x ≡ part.Block site any head inner
      → middle ≡ start ++ to_each site ((out-Query head).site ∷ []) → middle ++ to_each site ((out-Body inner).site ∷ []) ≡ start ++ own_edges rules count (see_part x)
  block-own start middle x site any head inner is added =
      in-turn start middle (to_each site ((out-Query head).site ∷ [])) (to_each site ((out-Body inner).site ∷ [])) added
      ∙ ap (λ (q : sx.Query). start ++ to_each site (query_site q ∷ (out-Body inner).site ∷ [])) (sym (query-seen head))
      ∙ ap (λ (b : sx.Body). start ++ to_each site (query_site (see_query head) ∷ body_site b ∷ [])) (sym (body-seen inner))
      ∙ own_as start x _ (ap see_part is ∙ block-seen site any head inner)

  pub when-own : (start middle : List Edge) (x : Part) (site : ℕ) (cond : Conds) (inner : Body) → x ≡ part.When site cond inner
      → middle ≡ start ++ to_each site ((out-Conds cond).site ∷ []) → middle ++ to_each site ((out-Body inner).site ∷ []) ≡ start ++ own_edges rules count (see_part x)
  when-own start middle x site cond inner is added =
      in-turn start middle (to_each site ((out-Conds cond).site ∷ [])) (to_each site ((out-Body inner).site ∷ [])) added
      ∙ ap (λ (c : sx.Conds). start ++ to_each site (conds_site c ∷ (out-Body inner).site ∷ [])) (sym (conds-seen cond))
      ∙ ap (λ (b : sx.Body). start ++ to_each site (conds_site (see_conds cond) ∷ body_site b ∷ [])) (sym (body-seen inner))
      ∙ own_as start x _ (ap see_part is ∙ when-seen site cond inner)

  pub kinds-own : (start middle : List Edge) (x : Part) (site : ℕ) (name : List ℕ) (cond : Option Conds) (inner : Body) → x ≡ part.Kinds site name cond inner
      → middle ≡ start ++ to_each site (opt_conds_site (see_opt_conds cond)) → middle ++ to_each site ((out-Body inner).site ∷ []) ≡ start ++ own_edges rules count (see_part x)
  kinds-own start middle x site name cond inner is added =
      in-turn start middle (to_each site (opt_conds_site (see_opt_conds cond))) (to_each site ((out-Body inner).site ∷ [])) added
      ∙ ap (λ (l : List Edge). start ++ l) (sym (map-append (λ (to : ℕ). let edge : Edge = (site, to) in edge) (opt_conds_site (see_opt_conds cond)) ((out-Body inner).site ∷ [])))
      ∙ ap (λ (b : sx.Body). start ++ to_each site (opt_conds_site (see_opt_conds cond) ++ body_site b ∷ [])) (sym (body-seen inner))
      ∙ own_as start x _ (ap see_part is ∙ kinds-seen site name cond inner)

  pub test-own : (start middle : List Edge) (x : Part) (site : ℕ) (any : Bool) (left : Query) (op : Op) (negated : Bool) (right : Option Expr) (message : Option (List ℕ)) → x ≡ part.Test site any left op negated right message
      → middle ≡ start ++ to_each site ((out-Query left).site ∷ []) → middle ++ to_each site (opt_expr_site (see_opt_expr right)) ≡ start ++ own_edges rules count (see_part x)
  test-own start middle x site any left op negated right message is added =
      in-turn start middle (to_each site ((out-Query left).site ∷ [])) (to_each site (opt_expr_site (see_opt_expr right))) added
      ∙ ap (λ (q : sx.Query). start ++ to_each site (query_site q ∷ opt_expr_site (see_opt_expr right))) (sym (query-seen left))
      ∙ own_as start x _ (ap see_part is ∙ side-seen site any left op negated right message)

  pub refer-own : (start : List Edge) (x : Part) (site : ℕ) (negated : Bool) (name text : List ℕ) (message : Option (List ℕ)) → x ≡ part.Refer site negated name message → text ≡ name
      → start ++ to_rule rules count site (rule_named rules text) ≡ start ++ own_edges rules count (see_part x)
  refer-own start x site negated name text message is same =
      ap (λ (t : List ℕ). start ++ to_rule rules count site (rule_named rules t)) same ∙ own_as start x (sx.refer site negated name message) (ap see_part is ∙ refer_seen site negated name message)

  pub call-own : (start middle : List Edge) (x : Part) (site : ℕ) (negated : Bool) (name text : List ℕ) (args : Vec Expr Global) (message : Option (List ℕ)) (es : List Expr) → x ≡ part.Call site negated name args message → text ≡ name → es ≡ args.items
      → middle ≡ start ++ to_rule rules count site (rule_named rules text) → middle ++ to_each site (expr_sites (expr_list (map see_expr es))) ≡ start ++ own_edges rules count (see_part x)
  call-own start middle x site negated name text args message es is same are added =
      in-turn start middle (to_rule rules count site (rule_named rules text)) (to_each site (expr_sites (expr_list (map see_expr es)))) added
      ∙ ap (λ (t : List ℕ). start ++ (to_rule rules count site (rule_named rules t) ++ to_each site (expr_sites (expr_list (map see_expr es))))) same
      ∙ ap (λ (l : List Expr). start ++ (to_rule rules count site (rule_named rules name) ++ to_each site (expr_sites (expr_list (map see_expr l))))) are
      ∙ own_as start x _ (ap see_part is ∙ call-seen site negated name args message)

module _ (rules : List sx.Rule) (count : ℕ) (visible : List Given) where
  abbrev pub of_lets : List Let → List Edge
  of_lets xs = edges_of_lets rules count visible (let_list (map see_let xs))

  abbrev pub of_disjs : List Disj → List Edge
  of_disjs xs = edges_of_disjs rules count visible (disj_list (map see_disj xs))

  abbrev pub of_parts : List Part → List Edge
  of_parts xs = edges_of_parts rules count visible (part_list (map see_part xs))

  abbrev pub of_steps : Option ℕ → List Step → List Edge
  of_steps before xs = edges_of_steps rules count visible before (step_list (map see_step xs))

  abbrev pub of_exprs : List Expr → List Edge
  of_exprs xs = edges_of_exprs rules count visible (expr_list (map see_expr xs))

  abbrev pub of_rules : List Rule → List Edge
  of_rules xs = edges_of_rules rules count visible (map see_rule xs)

  pub lets-next : (xs : List Let) (i : ℕ) (x : Let) (n site : ℕ) (start old middle new : List Edge) → i < length xs → x ≡ get_or xs i x → n ≡ variable_node rules count x.site → site ≡ expr_site (see_expr x.value)
      → middle ≡ old ++ to_each n (site ∷ []) → new ≡ middle ++ edges_of_expr rules count visible (see_expr x.value)
      → old ++ of_lets (drop i xs) ≡ start → new ++ of_lets (drop (i + 1) xs) ≡ start
  lets-next xs i x n site start old middle new within is node at first second so =
      next of_lets (λ (y : Let). edges_of_let rules count visible (see_let y)) (λ y ys. refl) xs i x start old new within is
      (second ∙ in-turn old middle (to_each n (site ∷ [])) (edges_of_expr rules count visible (see_expr x.value)) first
      ∙ ap (λ (m : ℕ). old ++ (to_each m (site ∷ []) ++ edges_of_expr rules count visible (see_expr x.value))) node
      ∙ ap (λ (m : ℕ). old ++ (to_each (variable_node rules count x.site) (m ∷ []) ++ edges_of_expr rules count visible (see_expr x.value))) at
      ∙ ap (λ (y : sx.Let). old ++ edges_of_let rules count visible y) (sym (let-seen x))) so

  pub lets-end : (xs : List Let) (i : ℕ) (start old : List Edge) → length xs ≤ i → old ++ of_lets (drop i xs) ≡ start → old ≡ start
  lets-end xs i start old past so = end of_lets refl xs i start old past so

  pub disjs-next : (xs : List Disj) (i : ℕ) (x : Disj) (ps qs : List Part) (start old middle new : List Edge) → i < length xs → x ≡ get_or xs i x → ps ≡ x.parts.items → qs ≡ x.parts.items
      → middle ≡ old ++ to_each x.site (part_sites (part_list (map see_part ps))) → new ≡ middle ++ of_parts qs
      → old ++ of_disjs (drop i xs) ≡ start → new ++ of_disjs (drop (i + 1) xs) ≡ start
  disjs-next xs i x ps qs start old middle new within is are be first second so =
      next of_disjs (λ (y : Disj). edges_of_disj rules count visible (see_disj y)) (λ y ys. refl) xs i x start old new within is
      (second ∙ in-turn old middle (to_each x.site (part_sites (part_list (map see_part ps)))) (of_parts qs) first
      ∙ ap (λ (l : List Part). old ++ (to_each x.site (part_sites (part_list (map see_part l))) ++ of_parts qs)) are
      ∙ ap (λ (l : List Part). old ++ (to_each x.site (part_sites (part_list (map see_part x.parts.items))) ++ of_parts l)) be
      ∙ ap (λ (y : sx.Disj). old ++ edges_of_disj rules count visible y) (sym (disj-seen x))) so

  pub disjs-end : (xs : List Disj) (i : ℕ) (start old : List Edge) → length xs ≤ i → old ++ of_disjs (drop i xs) ≡ start → old ≡ start
  disjs-end xs i start old past so = end of_disjs refl xs i start old past so

  pub parts-next : (xs : List Part) (i : ℕ) (x : Part) (start old new : List Edge) → i < length xs → x ≡ get_or xs i x → new ≡ old ++ edges_of_part rules count visible (see_part x)
      → old ++ of_parts (drop i xs) ≡ start → new ++ of_parts (drop (i + 1) xs) ≡ start
  parts-next xs i x start old new within is added so =
      next of_parts (λ (y : Part). edges_of_part rules count visible (see_part y)) (λ y ys. refl) xs i x start old new within is added so

  pub parts-end : (xs : List Part) (i : ℕ) (start old : List Edge) → length xs ≤ i → old ++ of_parts (drop i xs) ≡ start → old ≡ start
  parts-end xs i start old past so = end of_parts refl xs i start old past so

  pub exprs-next : (xs : List Expr) (i : ℕ) (x : Expr) (start old new : List Edge) → i < length xs → x ≡ get_or xs i x → new ≡ old ++ edges_of_expr rules count visible (see_expr x)
      → old ++ of_exprs (drop i xs) ≡ start → new ++ of_exprs (drop (i + 1) xs) ≡ start
  exprs-next xs i x start old new within is added so =
      next of_exprs (λ (y : Expr). edges_of_expr rules count visible (see_expr y)) (λ y ys. refl) xs i x start old new within is added so

  pub exprs-end : (xs : List Expr) (i : ℕ) (start old : List Edge) → length xs ≤ i → old ++ of_exprs (drop i xs) ≡ start → old ≡ start
  exprs-end xs i start old past so = end of_exprs refl xs i start old past so

  pub rules-next : (xs : List Rule) (i : ℕ) (x : Rule) (start old new : List Edge) → i < length xs → x ≡ get_or xs i x → new ≡ old ++ edges_of_rule rules count visible (see_rule x)
      → old ++ of_rules (drop i xs) ≡ start → new ++ of_rules (drop (i + 1) xs) ≡ start
  rules-next xs i x start old new within is added so =
      next of_rules (λ (y : Rule). edges_of_rule rules count visible (see_rule y)) (λ y ys. refl) xs i x start old new within is added so

  pub rules-end : (xs : List Rule) (i : ℕ) (start old : List Edge) → length xs ≤ i → old ++ of_rules (drop i xs) ≡ start → old ≡ start
  rules-end xs i start old past so = end of_rules refl xs i start old past so

  -- ---- steps, each with the one before it

  pub steps-next : (xs : List Step) (i : ℕ) (x : Step) (before : Option ℕ) (start old middle new : List Edge) → i < length xs → x ≡ get_or xs i x
      → middle ≡ old ++ to_before rules count x.site before → new ≡ middle ++ edges_of_step rules count visible (see_step x)
      → old ++ of_steps before (drop i xs) ≡ start → new ++ of_steps (Some x.site) (drop (i + 1) xs) ≡ start
  steps-next xs i x before start old middle new within is first second so =
      let rest = drop (i + 1) xs in
      three-in-turn old middle new (to_before rules count x.site before) (edges_of_step rules count visible (see_step x)) (of_steps (Some x.site) rest) first second
      ∙ ap (λ (n : ℕ). old ++ (to_before rules count n before ++ (edges_of_step rules count visible (see_step x) ++ of_steps (Some n) rest))) (sym (site-seen x))
      ∙ ap (λ (l : List Step). old ++ of_steps before l) (ap (λ (y : Step). y ∷ rest) is ∙ sym (drop_more xs i x within))
      ∙ so

  pub steps-end : (xs : List Step) (i : ℕ) (before : Option ℕ) (start old : List Edge) → length xs ≤ i → old ++ of_steps before (drop i xs) ≡ start → old ≡ start
  steps-end xs i before start old past so = end (of_steps before) refl xs i start old past so

  pub query-steps : (start middle : List Edge) (q : Query) (ss ts : List Step) → ss ≡ (out-Query q).steps.items → ts ≡ (out-Query q).steps.items
      → middle ≡ start ++ to_last (out-Query q).site (step_list (map see_step ss)) → middle ++ of_steps None ts ≡ start ++ edges_of_query rules count visible (see_query q)
  query-steps start middle q ss ts are be added =
      in-turn start middle (to_last (out-Query q).site (step_list (map see_step ss))) (of_steps None ts) added
      ∙ ap (λ (l : List Step). start ++ (to_last (out-Query q).site (step_list (map see_step l)) ++ of_steps None ts)) are
      ∙ ap (λ (l : List Step). start ++ (to_last (out-Query q).site (step_list (map see_step (out-Query q).steps.items)) ++ of_steps None l)) be
      ∙ ap (λ (y : sx.Query). start ++ edges_of_query rules count visible y) (sym (query-seen q))

  -- ---- conditions

  pub conds-edges : (start middle : List Edge) (c : Conds) (ds es : List Disj) → ds ≡ (out-Conds c).parts.items → es ≡ (out-Conds c).parts.items
      → middle ≡ start ++ to_each (out-Conds c).site (disj_sites (disj_list (map see_disj ds))) → middle ++ of_disjs es ≡ start ++ edges_of_conds rules count visible (see_conds c)
  conds-edges start middle c ds es are be added =
      in-turn start middle (to_each (out-Conds c).site (disj_sites (disj_list (map see_disj ds)))) (of_disjs es) added
      ∙ ap (λ (l : List Disj). start ++ (to_each (out-Conds c).site (disj_sites (disj_list (map see_disj l))) ++ of_disjs es)) are
      ∙ ap (λ (l : List Disj). start ++ (to_each (out-Conds c).site (disj_sites (disj_list (map see_disj (out-Conds c).parts.items))) ++ of_disjs l)) be
      ∙ ap (λ (y : sx.Conds). start ++ edges_of_conds rules count visible y) (sym (conds-seen c))

  pub some-conds : (start : List Edge) (o : Option Conds) (c : Conds) → o ≡ Some c → start ++ edges_of_conds rules count visible (see_conds c) ≡ start ++ edges_of_opt_conds rules count visible (see_opt_conds o)
  some-conds start o c is = ap (λ (x : Option Conds). start ++ edges_of_opt_conds rules count visible (see_opt_conds x)) (sym is)

  pub no-conds : (start : List Edge) (o : Option Conds) → o ≡ None → start ≡ start ++ edges_of_opt_conds rules count visible (see_opt_conds o)
  no-conds start o is = nothing start ∙ ap (λ (x : Option Conds). start ++ edges_of_opt_conds rules count visible (see_opt_conds x)) (sym is)

  -- ---- parts

  -- the edges from a part itself, and then those from what is in it
  part_as : (start first : List Edge) (inner : List Edge) (x : Part) (p : sx.Part) → see_part x ≡ p → own_edges rules count p ++ inner ≡ edges_of_part rules count visible p
      → first ≡ start ++ own_edges rules count (see_part x) → first ++ inner ≡ start ++ edges_of_part rules count visible (see_part x)
  part_as start first inner x p is so added =
      in-turn start first (own_edges rules count (see_part x)) inner added
      ∙ ap (λ (l : List Edge). start ++ l) (ap (λ (y : sx.Part). own_edges rules count y ++ inner) is ∙ so ∙ ap (λ (y : sx.Part). edges_of_part rules count visible y) (sym is))

  pub block-edges : (start first second : List Edge) (x : Part) (site : ℕ) (any : Bool) (head : Query) (inner : Body) → x ≡ part.Block site any head inner
      → first ≡ start ++ own_edges rules count (see_part x) → second ≡ first ++ edges_of_query rules count visible (see_query head)
      → second ++ edges_of_body rules count visible [] (see_body inner) ≡ start ++ edges_of_part rules count visible (see_part x)
  block-edges start first second x site any head inner is added more =
      in-turn first second (edges_of_query rules count visible (see_query head)) (edges_of_body rules count visible [] (see_body inner)) more
      ∙ part_as start first (edges_of_query rules count visible (see_query head) ++ edges_of_body rules count visible [] (see_body inner)) x _ (ap see_part is ∙ block-seen site any head inner) refl added

  pub when-edges : (start first second : List Edge) (x : Part) (site : ℕ) (cond : Conds) (inner : Body) → x ≡ part.When site cond inner
      → first ≡ start ++ own_edges rules count (see_part x) → second ≡ first ++ edges_of_conds rules count visible (see_conds cond)
      → second ++ edges_of_body rules count visible [] (see_body inner) ≡ start ++ edges_of_part rules count visible (see_part x)
  when-edges start first second x site cond inner is added more =
      in-turn first second (edges_of_conds rules count visible (see_conds cond)) (edges_of_body rules count visible [] (see_body inner)) more
      ∙ part_as start first (edges_of_conds rules count visible (see_conds cond) ++ edges_of_body rules count visible [] (see_body inner)) x _ (ap see_part is ∙ when-seen site cond inner) refl added

  pub kinds-edges : (start first second : List Edge) (x : Part) (site : ℕ) (name : List ℕ) (cond : Option Conds) (inner : Body) → x ≡ part.Kinds site name cond inner
      → first ≡ start ++ own_edges rules count (see_part x) → second ≡ first ++ edges_of_opt_conds rules count visible (see_opt_conds cond)
      → second ++ edges_of_body rules count visible [] (see_body inner) ≡ start ++ edges_of_part rules count visible (see_part x)
  kinds-edges start first second x site name cond inner is added more =
      in-turn first second (edges_of_opt_conds rules count visible (see_opt_conds cond)) (edges_of_body rules count visible [] (see_body inner)) more
      ∙ part_as start first (edges_of_opt_conds rules count visible (see_opt_conds cond) ++ edges_of_body rules count visible [] (see_body inner)) x _ (ap see_part is ∙ kinds-seen site name cond inner) refl added

  pub test-edges : (start first second : List Edge) (x : Part) (site : ℕ) (any : Bool) (left : Query) (op : Op) (negated : Bool) (right : Option Expr) (message : Option (List ℕ)) → x ≡ part.Test site any left op negated right message
      → first ≡ start ++ own_edges rules count (see_part x) → second ≡ first ++ edges_of_query rules count visible (see_query left)
      → second ++ edges_of_opt_expr rules count visible (see_opt_expr right) ≡ start ++ edges_of_part rules count visible (see_part x)
  test-edges start first second x site any left op negated right message is added more =
      in-turn first second (edges_of_query rules count visible (see_query left)) (edges_of_opt_expr rules count visible (see_opt_expr right)) more
      ∙ part_as start first (edges_of_query rules count visible (see_query left) ++ edges_of_opt_expr rules count visible (see_opt_expr right)) x _ (ap see_part is ∙ side-seen site any left op negated right message) refl added

  pub refer-edges : (start first : List Edge) (x : Part) (site : ℕ) (negated : Bool) (name : List ℕ) (message : Option (List ℕ)) → x ≡ part.Refer site negated name message
      → first ≡ start ++ own_edges rules count (see_part x) → first ≡ start ++ edges_of_part rules count visible (see_part x)
  refer-edges start first x site negated name message is added =
      nothing first ∙ part_as start first [] x (sx.refer site negated name message) (ap see_part is ∙ refer_seen site negated name message) (append-nil (to_rule rules count site (rule_named rules name))) added

  pub call-edges : (start first : List Edge) (x : Part) (site : ℕ) (negated : Bool) (name : List ℕ) (args : Vec Expr Global) (message : Option (List ℕ)) (es : List Expr) → x ≡ part.Call site negated name args message → es ≡ args.items
      → first ≡ start ++ own_edges rules count (see_part x) → first ++ of_exprs es ≡ start ++ edges_of_part rules count visible (see_part x)
  call-edges start first x site negated name args message es is are added =
      ap (λ (l : List Expr). first ++ of_exprs l) are
      ∙ part_as start first (of_exprs args.items) x (sx.call site negated name (expr_list (map see_expr args.items)) message) (ap see_part is ∙ call-seen site negated name args message)
      (append_assoc (to_rule rules count site (rule_named rules name)) (to_each site (expr_sites (expr_list (map see_expr args.items)))) (of_exprs args.items)) added

  -- ---- steps

  pub form-edges : (start ls : List Edge) (s : Step) (fm : StepForm) (fn : Form) → s.form ≡ fm → see_form fm ≡ fn → ls ≡ edges_of_step rules count visible (fn s.site) → start ++ ls ≡ start ++ edges_of_step rules count visible (see_step s)
  form-edges start ls s fm fn is seen so = ap (λ (l : List Edge). start ++ l) (so ∙ ap (λ (y : sx.Step). edges_of_step rules count visible y) (sym (step-seen s ∙ ap (λ (g : Form). g s.site) (ap see_form is ∙ seen))))

  pub filter-step : (start first : List Edge) (s : Step) (capture : Option Named) (c : Conds) (fm : StepForm) → s.form ≡ fm → see_form fm ≡ (λ n. sx.filter n capture (see_conds c))
      → first ≡ start ++ from_capture rules count s.site capture
      → first ++ edges_of_filter rules count visible s.site (see_conds c) ≡ start ++ edges_of_step rules count visible (see_step s)
  filter-step start first s capture c fm is seen added =
      in-turn start first (from_capture rules count s.site capture) (edges_of_filter rules count visible s.site (see_conds c)) added
      ∙ form-edges start (from_capture rules count s.site capture ++ edges_of_filter rules count visible s.site (see_conds c)) s fm (λ n. sx.filter n capture (see_conds c)) is seen refl

  pub keys-step : (start first second : List Edge) (s : Step) (capture : Option Named) (op : Op) (negated : Bool) (e : Expr) (site : ℕ) (fm : StepForm) → s.form ≡ fm → see_form fm ≡ (λ n. sx.keys n capture op negated (see_expr e)) → site ≡ expr_site (see_expr e)
      → first ≡ start ++ from_capture rules count s.site capture → second ≡ first ++ to_each s.site (site ∷ [])
      → second ++ edges_of_expr rules count visible (see_expr e) ≡ start ++ edges_of_step rules count visible (see_step s)
  keys-step start first second s capture op negated e site fm is seen at added more =
      three-in-turn start first second (from_capture rules count s.site capture) (to_each s.site (site ∷ [])) (edges_of_expr rules count visible (see_expr e)) added more
      ∙ ap (λ (n : ℕ). start ++ (from_capture rules count s.site capture ++ (to_each s.site (n ∷ []) ++ edges_of_expr rules count visible (see_expr e)))) at
      ∙ form-edges start (from_capture rules count s.site capture ++ (to_each s.site (expr_site (see_expr e) ∷ []) ++ edges_of_expr rules count visible (see_expr e))) s fm (λ n. sx.keys n capture op negated (see_expr e)) is seen refl

  -- ---- expressions

  expr_as : (start : List Edge) (x : Expr) (e : sx.Expr) → see_expr x ≡ e → start ++ edges_of_expr rules count visible e ≡ start ++ edges_of_expr rules count visible (see_expr x)
  expr_as start x e is = ap (λ (y : sx.Expr). start ++ edges_of_expr rules count visible y) (sym is)

  pub literal-edges : (start : List Edge) (x : Expr) (e : Expr) (site : ℕ) (tree : Forest) → x ≡ e → see_expr e ≡ sx.literal site tree → start ≡ start ++ edges_of_expr rules count visible (see_expr x)
  literal-edges start x e site tree is seen = nothing start ∙ expr_as start x (sx.literal site tree) (ap see_expr is ∙ seen)

  pub function-edges : (start first : List Edge) (x : Expr) (site : ℕ) (name : List ℕ) (args : Vec Expr Global) (es fs : List Expr) → x ≡ expr.Function site name args → es ≡ args.items → fs ≡ args.items
      → first ≡ start ++ to_each site (expr_sites (expr_list (map see_expr es))) → first ++ of_exprs fs ≡ start ++ edges_of_expr rules count visible (see_expr x)
  function-edges start first x site name args es fs is are be added =
      in-turn start first (to_each site (expr_sites (expr_list (map see_expr es)))) (of_exprs fs) added
      ∙ ap (λ (l : List Expr). start ++ (to_each site (expr_sites (expr_list (map see_expr l))) ++ of_exprs fs)) are
      ∙ ap (λ (l : List Expr). start ++ (to_each site (expr_sites (expr_list (map see_expr args.items))) ++ of_exprs l)) be
      ∙ expr_as start x _ (ap see_expr is ∙ function-seen site name args)

  asked_seen : (q : Query) → see_expr (expr.Query q) ≡ sx.asked (see_query q)
  asked_seen q = search (rules, the_lemmas)

  pub asked-edges : (start : List Edge) (x : Expr) (q : Query) → x ≡ expr.Query q → start ++ edges_of_query rules count visible (see_query q) ≡ start ++ edges_of_expr rules count visible (see_expr x)
  asked-edges start x q is = expr_as start x (sx.asked (see_query q)) (ap see_expr is ∙ asked_seen q)

  found_seen : (site : ℕ) (q : Query) → see_expr (expr.Found site q) ≡ sx.found site (see_query q)
  found_seen site q = search (rules, the_lemmas)

  pub found-edges : (start first : List Edge) (x : Expr) (site : ℕ) (q : Query) → x ≡ expr.Found site q → first ≡ start ++ to_each site ((out-Query q).site ∷ [])
      → first ++ edges_of_query rules count visible (see_query q) ≡ start ++ edges_of_expr rules count visible (see_expr x)
  found-edges start first x site q is added =
      in-turn start first (to_each site ((out-Query q).site ∷ [])) (edges_of_query rules count visible (see_query q)) added
      ∙ ap (λ (y : sx.Query). start ++ (to_each site (query_site y ∷ []) ++ edges_of_query rules count visible (see_query q))) (sym (query-seen q))
      ∙ expr_as start x (sx.found site (see_query q)) (ap see_expr is ∙ found_seen site q)

  pub some-expr : (start : List Edge) (o : Option Expr) (e : Expr) → o ≡ Some e → start ++ edges_of_expr rules count visible (see_expr e) ≡ start ++ edges_of_opt_expr rules count visible (see_opt_expr o)
  some-expr start o e is = ap (λ (x : Option Expr). start ++ edges_of_opt_expr rules count visible (see_opt_expr x)) (sym is)

  pub no-expr : (start : List Edge) (o : Option Expr) → o ≡ None → start ≡ start ++ edges_of_opt_expr rules count visible (see_opt_expr o)
  no-expr start o is = nothing start ∙ ap (λ (x : Option Expr). start ++ edges_of_opt_expr rules count visible (see_opt_expr x)) (sym is)

  -- ---- a rule

  pub rule-edges : (start first second third : List Edge) (r : Rule) (n : ℕ) (params : List Named) → params ≡ r.params → n ≡ rule_node rules count r.site
      → first ≡ start ++ to_each n (opt_conds_site (see_opt_conds r.cond))
      → second ≡ first ++ to_each n ((out-Body r.body).site ∷ [])
      → third ≡ second ++ edges_of_opt_conds rules count visible (see_opt_conds r.cond)
      → third ++ edges_of_body rules count visible params (see_body r.body) ≡ start ++ edges_of_rule rules count visible (see_rule r)
  rule-edges start first second third r n params are node one two three =
      let cond = edges_of_opt_conds rules count visible (see_opt_conds r.cond) in
      let sites = opt_conds_site (see_opt_conds r.cond) in
      let body = edges_of_body rules count visible params (see_body r.body) in
      in-turn second third cond body three
      ∙ three-in-turn start first second (to_each n sites) (to_each n ((out-Body r.body).site ∷ [])) (cond ++ body) one two
      ∙ ap (λ (l : List Edge). start ++ l) (sym (append_assoc (to_each n sites) (to_each n ((out-Body r.body).site ∷ [])) (cond ++ body))
      ∙ ap (λ (l : List Edge). l ++ (cond ++ body)) (sym (map-append (λ (to : ℕ). let edge : Edge = (n, to) in edge) sites ((out-Body r.body).site ∷ []))))
      ∙ ap (λ (b : sx.Body). start ++ (to_each n (sites ++ body_site b ∷ []) ++ (cond ++ body))) (sym (body-seen r.body))
      ∙ ap (λ (l : List Named). start ++ (to_each n (sites ++ body_site (see_body r.body) ∷ []) ++ (cond ++ edges_of_body rules count visible l (see_body r.body)))) are
      ∙ ap (λ (m : ℕ). start ++ (to_each m (sites ++ body_site (see_body r.body) ∷ []) ++ (cond ++ edges_of_body rules count visible r.params (see_body r.body)))) node

  -- ---- a file

  pub items-edges : (f : RawFile) (ls : List Let) (rs : List Rule) (ds : List Disj) (start first second : List Edge) → ls ≡ f.lets.items → rs ≡ f.rules.items → ds ≡ f.loose.items
      → first ≡ start ++ of_lets ls → second ≡ first ++ of_rules rs → second ++ of_disjs ds ≡ start ++ items_edges rules count visible (see_file f)
  items-edges f ls rs ds start first second are be loose added more =
      three-in-turn start first second (of_lets ls) (of_rules rs) (of_disjs ds) added more
      ∙ ap (λ (xs : List Let). start ++ (of_lets xs ++ (of_rules rs ++ of_disjs ds))) are
      ∙ ap (λ (xs : List Rule). start ++ (of_lets f.lets.items ++ (of_rules xs ++ of_disjs ds))) be
      ∙ ap (λ (xs : List Disj). start ++ (of_lets f.lets.items ++ (of_rules f.rules.items ++ of_disjs xs))) loose

pub file-edges : (f : sx.File) (rules : List sx.Rule) (count : ℕ) (own visible : List Given) → rules ≡ f.rules → count ≡ length f.places → own ≡ given_file f → visible ≡ own → items_edges rules count visible f ≡ edges_of_file f
file-edges f rules count own visible same size named is =
    ap (λ (v : List Given). items_edges rules count v f) (is ∙ named)
    ∙ ap (λ (r : List sx.Rule). items_edges r count (given_file f) f) same
    ∙ ap (λ (n : ℕ). items_edges f.rules n (given_file f) f) size
