-- What the uses in a part mean, behind what stood before, part of it by part of it.
use Rattle.std.proofs.Common.{◌≡◌, ℕ, ◌+◌, ◌<◌, ◌≤◌, Bool, List, [], ◌∷◌, ◌++◌, map, drop, get_or, length, Option, Some, None, refl, sym, ap, ◌∙◌, rules}
use Rattle.std.proofs.lemmas.List.{append-nil, append_assoc, drop_more, drop_all}
use Rattle.std.specs.declared.vec.Vec.{Vec}
use Rattle.std.specs.declared.alloc.Global.{Global}
use Rattle.guard_syntax.specs.Named.{Named}
use Rattle.doc_values.specs.Tree.{Forest}
use Rattle.guard_syntax.specs.Syntax as sx
use Rattle.guard_syntax.specs.declared.syntax.Op.{Op}
use Rattle.guard_syntax.specs.declared.syntax.Body.{Body, out-Body, the_lemmas}
use Rattle.guard_syntax.specs.declared.syntax.Conds.{Conds, out-Conds}
use Rattle.guard_syntax.specs.declared.syntax.Query.{Query, out-Query}
use Rattle.guard_syntax.specs.declared.syntax.Let.{Let}
use Rattle.guard_syntax.specs.declared.syntax.Part.{Part}
use Rattle.guard_syntax.specs.declared.syntax.Part as part
use Rattle.guard_syntax.specs.declared.syntax.Step.{Step}
use Rattle.guard_syntax.specs.declared.syntax.StepForm.{StepForm}
use Rattle.guard_syntax.specs.declared.syntax.Disj.{Disj}
use Rattle.guard_syntax.specs.declared.syntax.Rule.{Rule}
use Rattle.guard_syntax.specs.declared.syntax.RawFile.{RawFile}
use Rattle.guard_syntax.specs.declared.syntax.Expr.{Expr}
use Rattle.guard_syntax.specs.declared.syntax.Expr as expr
use Rattle.guard_syntax.specs.code.Seen.{Form, see_form, see_step, see_disj, see_let, see_body, see_conds, see_opt_conds, see_part, see_query, see_rule, see_file, see_expr, see_opt_expr, step_list, disj_list, let_list, part_list, expr_list}
use Rattle.rule_names.specs.Scopes.{Given, given_body, given_conds, given_file}
use Rattle.rule_names.specs.Resolution.{Linked, Scopes, link_rule, links_in, links_rules, links_rule, links_body, links_lets, links_let, links_conds, links_opt_conds, links_disjs, links_disj, links_parts, links_part, links_query, links_steps, links_step, links_expr, links_opt_expr, links_exprs}
use Rattle.rule_names.specs.Uses.{rule_named}
use Rattle.name_resolution.specs.code.FileLinks.{items_links}
use Rattle.rule_names.proofs.Shapes.{let-seen, disj-seen, body-seen, conds-seen, query-seen, step-seen, block-seen, when-seen, kinds-seen, call-seen, function-seen}
use Rattle.name_scopes.proofs.ScopeShapes.{side-seen}

-- two lists behind a third
pub in-turn : (start middle xs ys : List Linked) → middle ≡ start ++ xs → middle ++ ys ≡ start ++ (xs ++ ys)
in-turn start middle xs ys is = ap (λ (l : List Linked). l ++ ys) is ∙ append_assoc start xs ys

-- nothing behind a list
nothing : (start : List Linked) → start ≡ start ++ []
nothing start = sym (append-nil start)

-- ---- lists, item by item

next : {X : Type 0} (all : List X → List Linked) (each : X → List Linked) → ((y : X) (ys : List X) → all (y ∷ ys) ≡ each y ++ all ys)
    → (xs : List X) (i : ℕ) (x : X) (start old new : List Linked) → i < length xs → x ≡ get_or xs i x → new ≡ old ++ each x → old ++ all (drop i xs) ≡ start
    → new ++ all (drop (i + 1) xs) ≡ start
next all each split xs i x start old new within is added so =
    in-turn old new (each x) (all (drop (i + 1) xs)) added
    ∙ ap (λ (l : List Linked). old ++ l) (sym (split x (drop (i + 1) xs)) ∙ ap (λ y. all (y ∷ drop (i + 1) xs)) is ∙ ap all (sym (drop_more xs i x within)))
    ∙ so

end : {X : Type 0} (all : List X → List Linked) → all [] ≡ [] → (xs : List X) (i : ℕ) (start old : List Linked) → length xs ≤ i → old ++ all (drop i xs) ≡ start → old ≡ start
end all none xs i start old past so = nothing old ∙ ap (λ (l : List Linked). old ++ l) (sym none ∙ ap all (sym (drop_all i xs past))) ∙ so

module _ (f : sx.File) (scopes : Scopes) where
  abbrev pub of_lets : List Let → List Linked
  of_lets xs = links_lets f scopes (let_list (map see_let xs))

  abbrev pub of_disjs : List Disj → List Linked
  of_disjs xs = links_disjs f scopes (disj_list (map see_disj xs))

  abbrev pub of_parts : List Part → List Linked
  of_parts xs = links_parts f scopes (part_list (map see_part xs))

  abbrev pub of_steps : List Step → List Linked
  of_steps xs = links_steps f scopes (step_list (map see_step xs))

  abbrev pub of_exprs : List Expr → List Linked
  of_exprs xs = links_exprs f scopes (expr_list (map see_expr xs))

  abbrev pub of_rules : List Rule → List Linked
  of_rules xs = links_rules f scopes (map see_rule xs)

  pub lets-next : (xs : List Let) (i : ℕ) (x : Let) (start old new : List Linked) → i < length xs → x ≡ get_or xs i x → new ≡ old ++ links_expr f scopes (see_expr x.value)
      → old ++ of_lets (drop i xs) ≡ start → new ++ of_lets (drop (i + 1) xs) ≡ start
  lets-next xs i x start old new within is added so =
      next of_lets (λ (y : Let). links_let f scopes (see_let y)) (λ y ys. refl) xs i x start old new within is
      (added ∙ ap (λ (y : sx.Let). old ++ links_let f scopes y) (sym (let-seen x))) so

  pub lets-end : (xs : List Let) (i : ℕ) (start old : List Linked) → length xs ≤ i → old ++ of_lets (drop i xs) ≡ start → old ≡ start
  lets-end xs i start old past so = end of_lets refl xs i start old past so

  pub disjs-next : (xs : List Disj) (i : ℕ) (x : Disj) (ps : List Part) (start old new : List Linked) → i < length xs → x ≡ get_or xs i x → ps ≡ x.parts.items → new ≡ old ++ of_parts ps
      → old ++ of_disjs (drop i xs) ≡ start → new ++ of_disjs (drop (i + 1) xs) ≡ start
  disjs-next xs i x ps start old new within is are added so =
      next of_disjs (λ (y : Disj). links_disj f scopes (see_disj y)) (λ y ys. refl) xs i x start old new within is
      (added ∙ ap (λ (l : List Part). old ++ of_parts l) are ∙ ap (λ (y : sx.Disj). old ++ links_disj f scopes y) (sym (disj-seen x))) so

  pub disjs-end : (xs : List Disj) (i : ℕ) (start old : List Linked) → length xs ≤ i → old ++ of_disjs (drop i xs) ≡ start → old ≡ start
  disjs-end xs i start old past so = end of_disjs refl xs i start old past so

  pub parts-next : (xs : List Part) (i : ℕ) (x : Part) (start old new : List Linked) → i < length xs → x ≡ get_or xs i x → new ≡ old ++ links_part f scopes (see_part x)
      → old ++ of_parts (drop i xs) ≡ start → new ++ of_parts (drop (i + 1) xs) ≡ start
  parts-next xs i x start old new within is added so =
      next of_parts (λ (y : Part). links_part f scopes (see_part y)) (λ y ys. refl) xs i x start old new within is added so

  pub parts-end : (xs : List Part) (i : ℕ) (start old : List Linked) → length xs ≤ i → old ++ of_parts (drop i xs) ≡ start → old ≡ start
  parts-end xs i start old past so = end of_parts refl xs i start old past so

  pub steps-next : (xs : List Step) (i : ℕ) (x : Step) (start old new : List Linked) → i < length xs → x ≡ get_or xs i x → new ≡ old ++ links_step f scopes (see_step x)
      → old ++ of_steps (drop i xs) ≡ start → new ++ of_steps (drop (i + 1) xs) ≡ start
  steps-next xs i x start old new within is added so =
      next of_steps (λ (y : Step). links_step f scopes (see_step y)) (λ y ys. refl) xs i x start old new within is added so

  pub steps-end : (xs : List Step) (i : ℕ) (start old : List Linked) → length xs ≤ i → old ++ of_steps (drop i xs) ≡ start → old ≡ start
  steps-end xs i start old past so = end of_steps refl xs i start old past so

  pub exprs-next : (xs : List Expr) (i : ℕ) (x : Expr) (start old new : List Linked) → i < length xs → x ≡ get_or xs i x → new ≡ old ++ links_expr f scopes (see_expr x)
      → old ++ of_exprs (drop i xs) ≡ start → new ++ of_exprs (drop (i + 1) xs) ≡ start
  exprs-next xs i x start old new within is added so =
      next of_exprs (λ (y : Expr). links_expr f scopes (see_expr y)) (λ y ys. refl) xs i x start old new within is added so

  pub exprs-end : (xs : List Expr) (i : ℕ) (start old : List Linked) → length xs ≤ i → old ++ of_exprs (drop i xs) ≡ start → old ≡ start
  exprs-end xs i start old past so = end of_exprs refl xs i start old past so

  pub rules-next : (xs : List Rule) (i : ℕ) (x : Rule) (params : List Named) (start old middle new : List Linked) → i < length xs → x ≡ get_or xs i x → params ≡ x.params
      → middle ≡ old ++ links_opt_conds f scopes (see_opt_conds x.cond) → new ≡ middle ++ links_body f scopes params (see_body x.body)
      → old ++ of_rules (drop i xs) ≡ start → new ++ of_rules (drop (i + 1) xs) ≡ start
  rules-next xs i x params start old middle new within is are first second so =
      next of_rules (λ (y : Rule). links_rule f scopes (see_rule y)) (λ y ys. refl) xs i x start old new within is
      (second ∙ in-turn old middle (links_opt_conds f scopes (see_opt_conds x.cond)) (links_body f scopes params (see_body x.body)) first
      ∙ ap (λ (l : List Named). old ++ (links_opt_conds f scopes (see_opt_conds x.cond) ++ links_body f scopes l (see_body x.body))) are) so

  pub rules-end : (xs : List Rule) (i : ℕ) (start old : List Linked) → length xs ≤ i → old ++ of_rules (drop i xs) ≡ start → old ≡ start
  rules-end xs i start old past so = end of_rules refl xs i start old past so

  pub query-steps : (start : List Linked) (q : Query) (ss : List Step) → ss ≡ (out-Query q).steps.items → start ++ of_steps ss ≡ start ++ links_query f scopes (see_query q)
  query-steps start q ss are = ap (λ (l : List Step). start ++ of_steps l) are ∙ ap (λ (y : sx.Query). start ++ links_query f scopes y) (sym (query-seen q))

  -- ---- conditions

  pub conds-links : (start : List Linked) (c : Conds) (ds : List Disj) → ds ≡ (out-Conds c).parts.items → start ++ of_disjs ds ≡ start ++ links_conds f scopes (see_conds c)
  conds-links start c ds are = ap (λ (l : List Disj). start ++ of_disjs l) are ∙ ap (λ (y : sx.Conds). start ++ links_conds f scopes y) (sym (conds-seen c))

  pub some-conds : (start : List Linked) (o : Option Conds) (c : Conds) (ds : List Disj) → o ≡ Some c → ds ≡ (out-Conds c).parts.items → start ++ of_disjs ds ≡ start ++ links_opt_conds f scopes (see_opt_conds o)
  some-conds start o c ds is are = conds-links start c ds are ∙ ap (λ (x : Option Conds). start ++ links_opt_conds f scopes (see_opt_conds x)) (sym is)

  pub no-conds : (start : List Linked) (o : Option Conds) → o ≡ None → start ≡ start ++ links_opt_conds f scopes (see_opt_conds o)
  no-conds start o is = nothing start ∙ ap (λ (x : Option Conds). start ++ links_opt_conds f scopes (see_opt_conds x)) (sym is)

  -- ---- parts

  -- whatever a part is seen as
  part_as : (start : List Linked) (x : Part) (p : sx.Part) → see_part x ≡ p → start ++ links_part f scopes p ≡ start ++ links_part f scopes (see_part x)
  part_as start x p is = ap (λ (y : sx.Part). start ++ links_part f scopes y) (sym is)

  pub block-links : (start middle : List Linked) (x : Part) (site : ℕ) (any : Bool) (head : Query) (inner : Body) → x ≡ part.Block site any head inner
      → middle ≡ start ++ links_query f scopes (see_query head) → middle ++ links_body f scopes [] (see_body inner) ≡ start ++ links_part f scopes (see_part x)
  block-links start middle x site any head inner is added =
      in-turn start middle (links_query f scopes (see_query head)) (links_body f scopes [] (see_body inner)) added ∙ part_as start x _ (ap see_part is ∙ block-seen site any head inner)

  pub when-links : (start middle : List Linked) (x : Part) (site : ℕ) (cond : Conds) (inner : Body) (ds : List Disj) → x ≡ part.When site cond inner → ds ≡ (out-Conds cond).parts.items
      → middle ≡ start ++ of_disjs ds → middle ++ links_body f scopes [] (see_body inner) ≡ start ++ links_part f scopes (see_part x)
  when-links start middle x site cond inner ds is are added =
      in-turn start middle (links_conds f scopes (see_conds cond)) (links_body f scopes [] (see_body inner)) (added ∙ conds-links start cond ds are)
      ∙ part_as start x _ (ap see_part is ∙ when-seen site cond inner)

  pub kinds-links : (start middle : List Linked) (x : Part) (site : ℕ) (name : List ℕ) (cond : Option Conds) (inner : Body) → x ≡ part.Kinds site name cond inner
      → middle ≡ start ++ links_opt_conds f scopes (see_opt_conds cond) → middle ++ links_body f scopes [] (see_body inner) ≡ start ++ links_part f scopes (see_part x)
  kinds-links start middle x site name cond inner is added =
      in-turn start middle (links_opt_conds f scopes (see_opt_conds cond)) (links_body f scopes [] (see_body inner)) added ∙ part_as start x _ (ap see_part is ∙ kinds-seen site name cond inner)

  pub test-links : (start middle : List Linked) (x : Part) (site : ℕ) (any : Bool) (left : Query) (op : Op) (negated : Bool) (right : Option Expr) (message : Option (List ℕ)) → x ≡ part.Test site any left op negated right message
      → middle ≡ start ++ links_query f scopes (see_query left) → middle ++ links_opt_expr f scopes (see_opt_expr right) ≡ start ++ links_part f scopes (see_part x)
  test-links start middle x site any left op negated right message is added =
      in-turn start middle (links_query f scopes (see_query left)) (links_opt_expr f scopes (see_opt_expr right)) added ∙ part_as start x _ (ap see_part is ∙ side-seen site any left op negated right message)

  refer_seen : (site : ℕ) (negated : Bool) (name : List ℕ) (message : Option (List ℕ)) → see_part (part.Refer site negated name message) ≡ sx.refer site negated name message
  refer_seen site negated name message = search (rules, the_lemmas)

  pub refer-links : (start : List Linked) (x : Part) (site : ℕ) (negated : Bool) (name text : List ℕ) (message : Option (List ℕ)) → x ≡ part.Refer site negated name message → text ≡ name
      → start ++ link_rule f site (rule_named f.rules text) ≡ start ++ links_part f scopes (see_part x)
  refer-links start x site negated name text message is same =
      ap (λ (t : List ℕ). start ++ link_rule f site (rule_named f.rules t)) same ∙ part_as start x (sx.refer site negated name message) (ap see_part is ∙ refer_seen site negated name message)

  pub call-links : (start middle : List Linked) (x : Part) (site : ℕ) (negated : Bool) (name text : List ℕ) (args : Vec Expr Global) (message : Option (List ℕ)) (es : List Expr) → x ≡ part.Call site negated name args message → text ≡ name → es ≡ args.items
      → middle ≡ start ++ link_rule f site (rule_named f.rules text) → middle ++ of_exprs es ≡ start ++ links_part f scopes (see_part x)
  call-links start middle x site negated name text args message es is same are added =
      in-turn start middle (link_rule f site (rule_named f.rules text)) (of_exprs es) added
      ∙ ap (λ (t : List ℕ). start ++ (link_rule f site (rule_named f.rules t) ++ of_exprs es)) same
      ∙ ap (λ (l : List Expr). start ++ (link_rule f site (rule_named f.rules name) ++ of_exprs l)) are
      ∙ part_as start x _ (ap see_part is ∙ call-seen site negated name args message)

  -- ---- steps

  pub form-links : (start ls : List Linked) (s : Step) (fm : StepForm) (fn : Form) → s.form ≡ fm → see_form fm ≡ fn → ls ≡ links_step f scopes (fn s.site) → start ++ ls ≡ start ++ links_step f scopes (see_step s)
  form-links start ls s fm fn is seen so = ap (λ (l : List Linked). start ++ l) (so ∙ ap (λ (y : sx.Step). links_step f scopes y) (sym (step-seen s ∙ ap (λ (g : Form). g s.site) (ap see_form is ∙ seen))))

  -- ---- expressions

  expr_as : (start : List Linked) (x : Expr) (e : sx.Expr) → see_expr x ≡ e → start ++ links_expr f scopes e ≡ start ++ links_expr f scopes (see_expr x)
  expr_as start x e is = ap (λ (y : sx.Expr). start ++ links_expr f scopes y) (sym is)

  pub literal-links : (start : List Linked) (x : Expr) (e : Expr) (site : ℕ) (tree : Forest) → x ≡ e → see_expr e ≡ sx.literal site tree → start ≡ start ++ links_expr f scopes (see_expr x)
  literal-links start x e site tree is seen = nothing start ∙ expr_as start x (sx.literal site tree) (ap see_expr is ∙ seen)

  pub function-links : (start : List Linked) (x : Expr) (site : ℕ) (name : List ℕ) (args : Vec Expr Global) (es : List Expr) → x ≡ expr.Function site name args → es ≡ args.items
      → start ++ of_exprs es ≡ start ++ links_expr f scopes (see_expr x)
  function-links start x site name args es is are = ap (λ (l : List Expr). start ++ of_exprs l) are ∙ expr_as start x _ (ap see_expr is ∙ function-seen site name args)

  asked_seen : (q : Query) → see_expr (expr.Query q) ≡ sx.asked (see_query q)
  asked_seen q = search (rules, the_lemmas)

  pub asked-links : (start : List Linked) (x : Expr) (q : Query) → x ≡ expr.Query q → start ++ links_query f scopes (see_query q) ≡ start ++ links_expr f scopes (see_expr x)
  asked-links start x q is = expr_as start x (sx.asked (see_query q)) (ap see_expr is ∙ asked_seen q)

  found_seen : (site : ℕ) (q : Query) → see_expr (expr.Found site q) ≡ sx.found site (see_query q)
  found_seen site q = search (rules, the_lemmas)

  pub found-links : (start : List Linked) (x : Expr) (site : ℕ) (q : Query) → x ≡ expr.Found site q → start ++ links_query f scopes (see_query q) ≡ start ++ links_expr f scopes (see_expr x)
  found-links start x site q is = expr_as start x (sx.found site (see_query q)) (ap see_expr is ∙ found_seen site q)

  pub some-expr : (start : List Linked) (o : Option Expr) (e : Expr) → o ≡ Some e → start ++ links_expr f scopes (see_expr e) ≡ start ++ links_opt_expr f scopes (see_opt_expr o)
  some-expr start o e is = ap (λ (x : Option Expr). start ++ links_opt_expr f scopes (see_opt_expr x)) (sym is)

  pub no-expr : (start : List Linked) (o : Option Expr) → o ≡ None → start ≡ start ++ links_opt_expr f scopes (see_opt_expr o)
  no-expr start o is = nothing start ∙ ap (λ (x : Option Expr). start ++ links_opt_expr f scopes (see_opt_expr x)) (sym is)

  -- ---- scopes

  pub body-links : (b : Body) (params : List Named) (ls : List Let) (ds : List Disj) (own : List Given) (inner : Scopes) (start first : List Linked)
      → ls ≡ (out-Body b).lets.items → ds ≡ (out-Body b).parts.items
      → own ≡ given_body params (see_body b) → inner ≡ own ∷ scopes
      → first ≡ start ++ links_lets f inner (let_list (map see_let ls))
      → first ++ links_disjs f inner (disj_list (map see_disj ds)) ≡ start ++ links_body f scopes params (see_body b)
  body-links b params ls ds own inner start first are be named seen added =
      let l = let_list (map see_let (out-Body b).lets.items) in
      let d = disj_list (map see_disj (out-Body b).parts.items) in
      let within : inner ≡ given_body params (see_body b) ∷ scopes = seen ∙ ap (λ (g : List Given). g ∷ scopes) named in
      in-turn start first (links_lets f inner (let_list (map see_let ls))) (links_disjs f inner (disj_list (map see_disj ds))) added
      ∙ ap (λ (xs : List Let). start ++ (links_lets f inner (let_list (map see_let xs)) ++ links_disjs f inner (disj_list (map see_disj ds)))) are
      ∙ ap (λ (xs : List Disj). start ++ (links_lets f inner l ++ links_disjs f inner (disj_list (map see_disj xs)))) be
      ∙ ap (λ (s : Scopes). start ++ (links_lets f s l ++ links_disjs f s d)) within
      ∙ ap (λ (x : sx.Body). start ++ (links_lets f (given_body params x ∷ scopes) l ++ links_disjs f (given_body params x ∷ scopes) d)) (body-seen b)
      ∙ ap (λ (x : sx.Body). start ++ links_body f scopes params x) (sym (body-seen b))

  pub filter-links : (c : Conds) (ds : List Disj) (own : List Given) (inner : Scopes) (start : List Linked)
      → ds ≡ (out-Conds c).parts.items → own ≡ given_conds (see_conds c) → inner ≡ own ∷ scopes
      → start ++ links_disjs f inner (disj_list (map see_disj ds)) ≡ start ++ links_conds f (given_conds (see_conds c) ∷ scopes) (see_conds c)
  filter-links c ds own inner start are named seen =
      ap (λ (l : List Disj). start ++ links_disjs f inner (disj_list (map see_disj l))) are
      ∙ ap (λ (y : sx.Conds). start ++ links_conds f inner y) (sym (conds-seen c))
      ∙ ap (λ (s : Scopes). start ++ links_conds f s (see_conds c)) (seen ∙ ap (λ (g : List Given). g ∷ scopes) named)

-- what stands in a file
pub items-links : (f : RawFile) (scopes : Scopes) (ls : List Let) (rs : List Rule) (ds : List Disj) (start first second : List Linked)
    → ls ≡ f.lets.items → rs ≡ f.rules.items → ds ≡ f.loose.items
    → first ≡ start ++ of_lets (see_file f) scopes ls
    → second ≡ first ++ of_rules (see_file f) scopes rs
    → second ++ of_disjs (see_file f) scopes ds ≡ start ++ items_links (see_file f) scopes
items-links f scopes ls rs ds start first second are be loose added more =
    let s = see_file f in
    in-turn first second (of_rules s scopes rs) (of_disjs s scopes ds) more
    ∙ in-turn start first (of_lets s scopes ls) (of_rules s scopes rs ++ of_disjs s scopes ds) added
    ∙ ap (λ (xs : List Let). start ++ (of_lets s scopes xs ++ (of_rules s scopes rs ++ of_disjs s scopes ds))) are
    ∙ ap (λ (xs : List Rule). start ++ (of_lets s scopes f.lets.items ++ (of_rules s scopes xs ++ of_disjs s scopes ds))) be
    ∙ ap (λ (xs : List Disj). start ++ (of_lets s scopes f.lets.items ++ (of_rules s scopes f.rules.items ++ of_disjs s scopes xs))) loose

pub file-links : (f : RawFile) (own : List Given) (scopes : Scopes) → own ≡ given_file (see_file f) → scopes ≡ own ∷ [] → items_links (see_file f) scopes ≡ links_in (see_file f)
file-links f own scopes named is = ap (items_links (see_file f)) (is ∙ ap (λ (g : List Given). g ∷ []) named)
