-- The scopes of parts, noted in a table: those in each type of the code, by those in its own parts.
use Rattle.std.proofs.Common.{◌≡◌, ℕ, ◌+◌, ◌<◌, ◌≤◌, Bool, List, [], ◌∷◌, ◌++◌, map, drop, get_or, length, Option, refl, sym, ap, ◌∙◌, rules}
use Rattle.std.proofs.lemmas.List.{drop_more, drop_all}
use Rattle.guard_syntax.specs.Named.{Named}
use Rattle.guard_syntax.specs.Syntax as sx
use Rattle.guard_syntax.specs.declared.syntax.Op.{Op}
use Rattle.guard_syntax.specs.declared.syntax.Body.{Body, out-Body, the_lemmas}
use Rattle.guard_syntax.specs.declared.syntax.Conds.{Conds, out-Conds}
use Rattle.guard_syntax.specs.declared.syntax.Query.{Query, out-Query}
use Rattle.guard_syntax.specs.declared.syntax.Let.{Let}
use Rattle.guard_syntax.specs.declared.syntax.Part.{Part}
use Rattle.guard_syntax.specs.declared.syntax.Part as part
use Rattle.guard_syntax.specs.declared.syntax.Step.{Step}
use Rattle.guard_syntax.specs.declared.syntax.StepForm.{StepForm}
use Rattle.guard_syntax.specs.declared.syntax.StepForm as form
use Rattle.guard_syntax.specs.declared.syntax.Disj.{Disj}
use Rattle.guard_syntax.specs.declared.syntax.Rule.{Rule}
use Rattle.guard_syntax.specs.declared.syntax.Expr.{Expr}
use Rattle.guard_syntax.specs.declared.syntax.Expr as expr
use Rattle.std.specs.declared.vec.Vec.{Vec}
use Rattle.std.specs.declared.alloc.Global.{Global}
use Rattle.doc_values.specs.Tree.{Forest}
use Rattle.guard_syntax.specs.code.Seen.{Form, see_step, see_form, see_disj, see_let, see_body, see_conds, see_opt_conds, see_part, see_query, see_rule, see_expr, see_opt_expr, step_list, disj_list, let_list, part_list, expr_list}
use Rattle.guard_syntax.specs.Sites.{sites_part}
use Rattle.rule_names.specs.EnclosingScopes.{Homed, with_home, with_homes, homes_rules, homes_rule, homes_body, homes_lets, homes_let, homes_conds, homes_opt_conds, homes_disjs, homes_disj, homes_parts, homes_part, homes_query, homes_steps, homes_step, homes_expr, homes_opt_expr, homes_exprs}
use Rattle.rule_names.specs.code.IncreasingSites.{first_site}
use Rattle.rule_names.proofs.Shapes.{let-seen, disj-seen, body-seen, conds-seen, query-seen, step-seen, block-seen, when-seen, kinds-seen, call-seen, function-seen}
use Rattle.name_scopes.proofs.ScopeShapes.{side-seen}

with-append : (t : List ℕ) (xs ys : List Homed) → with_homes t (xs ++ ys) ≡ with_homes (with_homes t xs) ys
with-append t [] ys = refl
with-append t (x ∷ xs) ys = with-append (with_home t x) xs ys

-- two parts, one after another
pub in-turn : (t m a : List ℕ) (xs ys : List Homed) → m ≡ with_homes t xs → a ≡ with_homes m ys → a ≡ with_homes t (xs ++ ys)
in-turn t m a xs ys is so = so ∙ ap (λ (l : List ℕ). with_homes l ys) is ∙ sym (with-append t xs ys)

-- a part's own site, and what is in it
own-one : (t k a : List ℕ) (n home : ℕ) (xs : List Homed) → k ≡ with_home t (n, home) → a ≡ with_homes k xs → a ≡ with_homes t ((n, home) ∷ xs)
own-one t k a n home xs noted so = so ∙ ap (λ (l : List ℕ). with_homes l xs) noted

own-two : (t k m a : List ℕ) (n home : ℕ) (xs ys : List Homed) → k ≡ with_home t (n, home) → m ≡ with_homes k xs → a ≡ with_homes m ys → a ≡ with_homes t ((n, home) ∷ (xs ++ ys))
own-two t k m a n home xs ys noted is so = own-one t k a n home (xs ++ ys) noted (in-turn k m a xs ys is so)

-- ---- lists, item by item

pub next : {X : Type 0} (all : List X → List Homed) (each : X → List Homed) → ((y : X) (ys : List X) → all (y ∷ ys) ≡ each y ++ all ys)
    → (xs : List X) (i : ℕ) (x : X) (start t a : List ℕ) → i < length xs → x ≡ get_or xs i x → a ≡ with_homes t (each x) → with_homes t (all (drop i xs)) ≡ start
    → with_homes a (all (drop (i + 1) xs)) ≡ start
next all each split xs i x start t a within is found so =
    ap (λ (l : List ℕ). with_homes l (all (drop (i + 1) xs))) found
    ∙ sym (with-append t (each x) (all (drop (i + 1) xs)))
    ∙ ap (with_homes t) (sym (split x (drop (i + 1) xs)) ∙ ap (λ y. all (y ∷ drop (i + 1) xs)) is ∙ ap all (sym (drop_more xs i x within)))
    ∙ so

pub end : {X : Type 0} (all : List X → List Homed) → all [] ≡ [] → (xs : List X) (i : ℕ) (start t : List ℕ) → length xs ≤ i → with_homes t (all (drop i xs)) ≡ start → t ≡ start
end all none xs i start t past so = ap (with_homes t) (sym none ∙ ap all (sym (drop_all i xs past))) ∙ so

module _ (home : ℕ) where
  abbrev pub of_lets : List Let → List Homed
  of_lets xs = homes_lets home (let_list (map see_let xs))

  abbrev pub of_disjs : List Disj → List Homed
  of_disjs xs = homes_disjs home (disj_list (map see_disj xs))

  abbrev pub of_parts : List Part → List Homed
  of_parts xs = homes_parts home (part_list (map see_part xs))

  abbrev pub of_steps : List Step → List Homed
  of_steps xs = homes_steps home (step_list (map see_step xs))

  abbrev pub of_exprs : List Expr → List Homed
  of_exprs xs = homes_exprs home (expr_list (map see_expr xs))

  abbrev pub of_rules : List Rule → List Homed
  of_rules xs = homes_rules home (map see_rule xs)

  pub lets-next : (xs : List Let) (i : ℕ) (x : Let) (start t k a : List ℕ) → i < length xs → x ≡ get_or xs i x
      → k ≡ with_home t (x.site, home) → a ≡ with_homes k (homes_expr home (see_expr x.value)) → with_homes t (of_lets (drop i xs)) ≡ start → with_homes a (of_lets (drop (i + 1) xs)) ≡ start
  lets-next xs i x start t k a within is noted inner so =
      next of_lets (λ (y : Let). homes_let home (see_let y)) (λ y ys. refl) xs i x start t a within is
      (own-one t k a x.site home (homes_expr home (see_expr x.value)) noted inner ∙ ap (λ (y : sx.Let). with_homes t (homes_let home y)) (sym (let-seen x))) so

  pub disjs-next : (xs : List Disj) (i : ℕ) (x : Disj) (ps : List Part) (start t k a : List ℕ) → i < length xs → x ≡ get_or xs i x → ps ≡ x.parts.items
      → k ≡ with_home t (x.site, home) → a ≡ with_homes k (of_parts ps) → with_homes t (of_disjs (drop i xs)) ≡ start → with_homes a (of_disjs (drop (i + 1) xs)) ≡ start
  disjs-next xs i x ps start t k a within is are noted inner so =
      next of_disjs (λ (y : Disj). homes_disj home (see_disj y)) (λ y ys. refl) xs i x start t a within is
      (own-one t k a x.site home (of_parts x.parts.items) noted (inner ∙ ap (λ (l : List Part). with_homes k (of_parts l)) are) ∙ ap (λ (y : sx.Disj). with_homes t (homes_disj home y)) (sym (disj-seen x))) so

  pub rules-next : (xs : List Rule) (i : ℕ) (x : Rule) (start t k m a : List ℕ) → i < length xs → x ≡ get_or xs i x
      → k ≡ with_home t (x.site, home) → m ≡ with_homes k (homes_opt_conds home (see_opt_conds x.cond)) → a ≡ with_homes m (homes_body home (see_body x.body))
      → with_homes t (of_rules (drop i xs)) ≡ start → with_homes a (of_rules (drop (i + 1) xs)) ≡ start
  rules-next xs i x start t k m a within is noted cond inner so =
      next of_rules (λ (y : Rule). homes_rule home (see_rule y)) (λ y ys. refl) xs i x start t a within is
      (own-two t k m a x.site home (homes_opt_conds home (see_opt_conds x.cond)) (homes_body home (see_body x.body)) noted cond inner) so

  -- ---- bodies, conditions and queries

  pub body-homes : (b : Body) (ls : List Let) (ds : List Disj) (t k m a : List ℕ) → ls ≡ (out-Body b).lets.items → ds ≡ (out-Body b).parts.items
      → k ≡ with_home t ((out-Body b).site, home) → m ≡ with_homes k (homes_lets (out-Body b).site (let_list (map see_let ls))) → a ≡ with_homes m (homes_disjs (out-Body b).site (disj_list (map see_disj ds)))
      → a ≡ with_homes t (homes_body home (see_body b))
  body-homes b ls ds t k m a are be noted lets parts =
      let o = out-Body b in
      own-two t k m a o.site home (homes_lets o.site (let_list (map see_let o.lets.items))) (homes_disjs o.site (disj_list (map see_disj o.parts.items))) noted
      (lets ∙ ap (λ (l : List Let). with_homes k (homes_lets o.site (let_list (map see_let l)))) are)
      (parts ∙ ap (λ (l : List Disj). with_homes m (homes_disjs o.site (disj_list (map see_disj l)))) be)
      ∙ ap (λ (y : sx.Body). with_homes t (homes_body home y)) (sym (body-seen b))

  pub conds-homes : (c : Conds) (ds : List Disj) (t k a : List ℕ) → ds ≡ (out-Conds c).parts.items → k ≡ with_home t ((out-Conds c).site, home) → a ≡ with_homes k (of_disjs ds)
      → a ≡ with_homes t (homes_conds home (see_conds c))
  conds-homes c ds t k a are noted inner =
      own-one t k a (out-Conds c).site home (of_disjs (out-Conds c).parts.items) noted (inner ∙ ap (λ (l : List Disj). with_homes k (of_disjs l)) are)
      ∙ ap (λ (y : sx.Conds). with_homes t (homes_conds home y)) (sym (conds-seen c))

  pub query-homes : (q : Query) (ss : List Step) (t k a : List ℕ) → ss ≡ (out-Query q).steps.items → k ≡ with_home t ((out-Query q).site, home) → a ≡ with_homes k (of_steps ss)
      → a ≡ with_homes t (homes_query home (see_query q))
  query-homes q ss t k a are noted inner =
      own-one t k a (out-Query q).site home (of_steps (out-Query q).steps.items) noted (inner ∙ ap (λ (l : List Step). with_homes k (of_steps l)) are)
      ∙ ap (λ (y : sx.Query). with_homes t (homes_query home y)) (sym (query-seen q))

  -- ---- parts

  abbrev is_part : Part → List ℕ → List ℕ → Type 0
  is_part x t a = a ≡ with_homes t (homes_part home (see_part x))

  own-part : (x : Part) (p : sx.Part) (at : ℕ) (xs : List Homed) (t k a : List ℕ) → see_part x ≡ p → homes_part home p ≡ (first_site (sites_part p), home) ∷ xs
      → at ≡ first_site (sites_part (see_part x)) → k ≡ with_home t (at, home) → a ≡ with_homes k xs → is_part x t a
  own-part x p at xs t k a seen split begins noted so =
      own-one t k a (first_site (sites_part p)) home xs (noted ∙ ap (λ (n : ℕ). with_home t (n, home)) (begins ∙ ap (λ (y : sx.Part). first_site (sites_part y)) seen)) so
      ∙ ap (with_homes t) (sym split ∙ ap (homes_part home) (sym seen))

  pub block-homes : (x : Part) (site : ℕ) (any : Bool) (head : Query) (inner : Body) (at : ℕ) (t k m a : List ℕ) → x ≡ part.Block site any head inner
      → at ≡ first_site (sites_part (see_part x)) → k ≡ with_home t (at, home) → m ≡ with_homes k (homes_query home (see_query head)) → a ≡ with_homes m (homes_body home (see_body inner)) → is_part x t a
  block-homes x site any head inner at t k m a is begins noted h b =
      own-part x _ at _ t k a (ap see_part is ∙ block-seen site any head inner) refl begins noted (in-turn k m a (homes_query home (see_query head)) (homes_body home (see_body inner)) h b)

  pub when-homes : (x : Part) (site : ℕ) (cond : Conds) (inner : Body) (at : ℕ) (t k m a : List ℕ) → x ≡ part.When site cond inner
      → at ≡ first_site (sites_part (see_part x)) → k ≡ with_home t (at, home) → m ≡ with_homes k (homes_conds home (see_conds cond)) → a ≡ with_homes m (homes_body home (see_body inner)) → is_part x t a
  when-homes x site cond inner at t k m a is begins noted h b =
      own-part x _ at _ t k a (ap see_part is ∙ when-seen site cond inner) refl begins noted (in-turn k m a (homes_conds home (see_conds cond)) (homes_body home (see_body inner)) h b)

  pub kinds-homes : (x : Part) (site : ℕ) (name : List ℕ) (cond : Option Conds) (inner : Body) (at : ℕ) (t k m a : List ℕ) → x ≡ part.Kinds site name cond inner
      → at ≡ first_site (sites_part (see_part x)) → k ≡ with_home t (at, home) → m ≡ with_homes k (homes_opt_conds home (see_opt_conds cond)) → a ≡ with_homes m (homes_body home (see_body inner)) → is_part x t a
  kinds-homes x site name cond inner at t k m a is begins noted h b =
      own-part x _ at _ t k a (ap see_part is ∙ kinds-seen site name cond inner) refl begins noted (in-turn k m a (homes_opt_conds home (see_opt_conds cond)) (homes_body home (see_body inner)) h b)

  pub test-homes : (x : Part) (site : ℕ) (any : Bool) (left : Query) (op : Op) (negated : Bool) (right : Option Expr) (message : Option (List ℕ)) (at : ℕ) (t k m a : List ℕ)
      → x ≡ part.Test site any left op negated right message → at ≡ first_site (sites_part (see_part x)) → k ≡ with_home t (at, home) → m ≡ with_homes k (homes_query home (see_query left))
      → a ≡ with_homes m (homes_opt_expr home (see_opt_expr right)) → is_part x t a
  test-homes x site any left op negated right message at t k m a is begins noted h b =
      own-part x _ at _ t k a (ap see_part is ∙ side-seen site any left op negated right message) refl begins noted (in-turn k m a (homes_query home (see_query left)) (homes_opt_expr home (see_opt_expr right)) h b)

  pub refer-homes : (x : Part) (site : ℕ) (negated : Bool) (name : List ℕ) (message : Option (List ℕ)) (at : ℕ) (t k : List ℕ) → x ≡ part.Refer site negated name message
      → at ≡ first_site (sites_part (see_part x)) → k ≡ with_home t (at, home) → is_part x t k
  refer-homes x site negated name message at t k is begins noted =
      own-part x (sx.refer site negated name message) at [] t k k (ap see_part is ∙ search (rules, the_lemmas)) refl begins noted refl

  pub call-homes : (x : Part) (site : ℕ) (negated : Bool) (name : List ℕ) (args : Vec Expr Global) (message : Option (List ℕ)) (es : List Expr) (at : ℕ) (t k a : List ℕ) → x ≡ part.Call site negated name args message
      → es ≡ args.items → at ≡ first_site (sites_part (see_part x)) → k ≡ with_home t (at, home) → a ≡ with_homes k (of_exprs es) → is_part x t a
  call-homes x site negated name args message es at t k a is are begins noted inner =
      own-part x _ at _ t k a (ap see_part is ∙ call-seen site negated name args message) refl begins noted (inner ∙ ap (λ (l : List Expr). with_homes k (of_exprs l)) are)

  -- ---- steps

  pub step-homes : (s : Step) (fm : StepForm) (fn : Form) (xs : List Homed) (t k a : List ℕ) → s.form ≡ fm → see_form fm ≡ fn → homes_step home (fn s.site) ≡ (s.site, home) ∷ xs
      → k ≡ with_home t (s.site, home) → a ≡ with_homes k xs → a ≡ with_homes t (homes_step home (see_step s))
  step-homes s fm fn xs t k a is seen split noted so =
      own-one t k a s.site home xs noted so
      ∙ ap (with_homes t) (sym split ∙ ap (homes_step home) (sym (step-seen s ∙ ap (λ (f : Form). f s.site) (ap see_form is ∙ seen))))

  pub filter-homes : (s : Step) (capture : Option Named) (c : Conds) (t k a : List ℕ) → s.form ≡ form.Filter capture c → k ≡ with_home t (s.site, home)
      → a ≡ with_homes k (homes_conds s.site (see_conds c)) → a ≡ with_homes t (homes_step home (see_step s))
  filter-homes s capture c t k a is noted so = step-homes s (form.Filter capture c) (λ n. sx.filter n capture (see_conds c)) _ t k a is (search (rules, the_lemmas)) refl noted so

  pub keys-homes : (s : Step) (capture : Option Named) (op : Op) (negated : Bool) (e : Expr) (t k a : List ℕ) → s.form ≡ form.Keys capture op negated e → k ≡ with_home t (s.site, home)
      → a ≡ with_homes k (homes_expr home (see_expr e)) → a ≡ with_homes t (homes_step home (see_step s))
  keys-homes s capture op negated e t k a is noted so = step-homes s (form.Keys capture op negated e) (λ n. sx.keys n capture op negated (see_expr e)) _ t k a is (search (rules, the_lemmas)) refl noted so

  -- ---- expressions

  abbrev is_expr : Expr → List ℕ → List ℕ → Type 0
  is_expr x t a = a ≡ with_homes t (homes_expr home (see_expr x))

  pub literal-homes : (x : Expr) (site : ℕ) (tree : Forest) (t k : List ℕ) → x ≡ expr.Literal site tree → k ≡ with_home t (site, home) → is_expr x t k
  literal-homes x site tree t k is noted = noted ∙ ap (λ (y : sx.Expr). with_homes t (homes_expr home y)) (sym (ap see_expr is ∙ literal_seen))
    where
      literal_seen : see_expr (expr.Literal site tree) ≡ sx.literal site tree
      literal_seen = search (rules, the_lemmas)

  pub function-homes : (x : Expr) (site : ℕ) (name : List ℕ) (args : Vec Expr Global) (es : List Expr) (t k a : List ℕ) → x ≡ expr.Function site name args → es ≡ args.items
      → k ≡ with_home t (site, home) → a ≡ with_homes k (of_exprs es) → is_expr x t a
  function-homes x site name args es t k a is are noted inner =
      own-one t k a site home (of_exprs args.items) noted (inner ∙ ap (λ (l : List Expr). with_homes k (of_exprs l)) are)
      ∙ ap (λ (y : sx.Expr). with_homes t (homes_expr home y)) (sym (ap see_expr is ∙ function-seen site name args))

  pub asked-homes : (x : Expr) (q : Query) (t a : List ℕ) → x ≡ expr.Query q → a ≡ with_homes t (homes_query home (see_query q)) → is_expr x t a
  asked-homes x q t a is so = so ∙ ap (λ (y : sx.Expr). with_homes t (homes_expr home y)) (sym (ap see_expr is ∙ asked_seen))
    where
      asked_seen : see_expr (expr.Query q) ≡ sx.asked (see_query q)
      asked_seen = search (rules, the_lemmas)

  pub found-homes : (x : Expr) (site : ℕ) (q : Query) (t k a : List ℕ) → x ≡ expr.Found site q → k ≡ with_home t (site, home) → a ≡ with_homes k (homes_query home (see_query q)) → is_expr x t a
  found-homes x site q t k a is noted so =
      own-one t k a site home (homes_query home (see_query q)) noted so ∙ ap (λ (y : sx.Expr). with_homes t (homes_expr home y)) (sym (ap see_expr is ∙ found_seen))
    where
      found_seen : see_expr (expr.Found site q) ≡ sx.found site (see_query q)
      found_seen = search (rules, the_lemmas)
