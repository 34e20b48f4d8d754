-- What a walk finds in each type of the code, by what it finds in its own parts.
use Rattle.std.proofs.Common.{◌≡◌, ℕ, zero, suc, ◌+◌, ◌<◌, ◌≤◌, Bool, refl, sym, ap, ◌∙◌, subst, rules, List, [], ◌∷◌, ◌++◌, length, get_or, map, take, Option, Some, add-one}
use Rattle.std.specs.declared.vec.Vec.{Vec}
use Rattle.std.specs.declared.alloc.Global.{Global}
use Rattle.std.proofs.lemmas.List.{take_all}
use Rattle.doc_values.specs.Tree.{Forest}
use Rattle.guard_syntax.specs.Named.{Named}
use Rattle.guard_syntax.specs.Syntax as sx
use Rattle.guard_syntax.specs.declared.syntax.Op.{Op}
use Rattle.guard_syntax.specs.declared.syntax.Body.{Body, out-Body, the_lemmas}
use Rattle.guard_syntax.specs.declared.syntax.Conds.{Conds, out-Conds}
use Rattle.guard_syntax.specs.declared.syntax.Query.{Query, out-Query}
use Rattle.guard_syntax.specs.declared.syntax.Let.{Let}
use Rattle.guard_syntax.specs.declared.syntax.Part.{Part}
use Rattle.guard_syntax.specs.declared.syntax.Part as part
use Rattle.guard_syntax.specs.declared.syntax.Step.{Step}
use Rattle.guard_syntax.specs.declared.syntax.StepForm.{StepForm}
use Rattle.guard_syntax.specs.declared.syntax.StepForm as form
use Rattle.guard_syntax.specs.declared.syntax.Disj.{Disj}
use Rattle.guard_syntax.specs.declared.syntax.Rule.{Rule}
use Rattle.guard_syntax.specs.declared.syntax.Expr.{Expr}
use Rattle.guard_syntax.specs.declared.syntax.Expr as expr
use Rattle.guard_syntax.specs.code.Seen.{Form, see_step, see_form, see_disj, see_let, see_body, see_conds, see_opt_conds, see_part, see_query, see_rule, see_expr, see_opt_expr, step_list, disj_list, let_list, part_list, expr_list}
use Rattle.rule_names.specs.Depths.{larger, capped, first_steps, depth_bound, depth_target, depth_body, depth_lets, depth_let, depth_conds, depth_opt_conds, depth_disjs, depth_disj, depth_parts, depth_part, depth_query, depth_steps, depth_step, depth_expr, depth_opt_expr, depth_exprs, depth_rule, depth_piece}
use Rattle.rule_names.specs.code.Forms.{pieces_form}
use Rattle.rule_names.specs.Resolution.{bind_of, target_of}
use Rattle.name_table.specs.code.Measured.{Measured, noted}
use Rattle.rule_names.specs.Pieces.{Sited, Piece, OfStep, OfQuery, OfRule, pieces_body, pieces_lets, pieces_let, pieces_conds, pieces_opt_conds, pieces_disjs, pieces_disj, pieces_parts, pieces_part, pieces_query, pieces_steps, pieces_step, pieces_expr, pieces_opt_expr, pieces_exprs, pieces_rule}
use Rattle.rule_names.proofs.Capping.{capped-suc, capped-sum}
use Rattle.name_table.proofs.Measuring.{measured-none, with-value, measured-deeper, measured-both, plain-site, noted-site, items-value, items-next}
use Rattle.name_scopes.proofs.ScopeShapes.{side-seen}
use Rattle.rule_names.proofs.Shapes.{let-seen, disj-seen, body-seen, conds-seen, query-seen, step-seen, block-seen, when-seen, kinds-seen, call-seen, function-seen, form-shaped}

refer_seen : (site : ℕ) (negated : Bool) (name : List ℕ) (message : Option (List ℕ)) → see_part (part.Refer site negated name message) ≡ sx.refer site negated name message
refer_seen site negated name message = search (rules, the_lemmas)

-- the steps up to the one at an index are one more than that index
pub first-steps : (xs : List Step) (i : ℕ) → first_steps i (step_list (map see_step xs)) ≡ step_list (map see_step (take (suc i) xs))
first-steps [] zero = refl
first-steps [] (suc i) = refl
first-steps (x ∷ xs) zero = refl
first-steps (x ∷ xs) (suc i) = ap (sx.more_steps (see_step x)) (first-steps xs i)

module _ (f : sx.File) (depths : List ℕ) where
  abbrev M : List Sited → ℕ → List ℕ → List ℕ → ℕ → Type 0
  M ps d b a r = Measured f depths ps d b a r

  -- ---- parts of a list

  abbrev pub OfLets : List Let → List ℕ → List ℕ → ℕ → Type 0
  OfLets xs b a r = M (pieces_lets (let_list (map see_let xs))) (depth_lets f depths (let_list (map see_let xs))) b a r

  abbrev pub OfDisjs : List Disj → List ℕ → List ℕ → ℕ → Type 0
  OfDisjs xs b a r = M (pieces_disjs (disj_list (map see_disj xs))) (depth_disjs f depths (disj_list (map see_disj xs))) b a r

  abbrev pub OfParts : List Part → List ℕ → List ℕ → ℕ → Type 0
  OfParts xs b a r = M (pieces_parts (part_list (map see_part xs))) (depth_parts f depths (part_list (map see_part xs))) b a r

  abbrev pub OfExprs : List Expr → List ℕ → List ℕ → ℕ → Type 0
  OfExprs xs b a r = M (pieces_exprs (expr_list (map see_expr xs))) (depth_exprs f depths (expr_list (map see_expr xs))) b a r

  abbrev pub OfSteps : sx.Query → List Step → List ℕ → List ℕ → ℕ → Type 0
  OfSteps q xs b a r = M (pieces_steps q 0 (step_list (map see_step xs))) (depth_steps f depths (step_list (map see_step xs))) b a r

  -- all have been walked
  pub all-walked : {X : Type 0} (P : List X → Type 0) (xs : List X) (i : ℕ) → length xs ≤ i → P (take i xs) → P xs
  all-walked P xs i past h = subst P (take_all i xs past) h

  pub let-measured : (x : Let) (b a : List ℕ) (r : ℕ) → M (pieces_expr (see_expr x.value)) (depth_expr f depths (see_expr x.value)) b a r → M (pieces_let (see_let x)) (depth_let f depths (see_let x)) b a r
  let-measured x b a r m = subst (λ (y : sx.Let). M (pieces_let y) (depth_let f depths y) b a r) (sym (let-seen x)) (plain-site f depths x.site _ _ _ b a r refl m)

  pub lets-next : (xs : List Let) (i : ℕ) (x : Let) (b m a : List ℕ) (r s t : ℕ) → i < length xs → x ≡ get_or xs i x → OfLets (take i xs) b m r
      → M (pieces_expr (see_expr x.value)) (depth_expr f depths (see_expr x.value)) m a s → t ≡ larger r s → OfLets (take (i + 1) xs) b a t
  lets-next xs i x b m a r s t within at before now is =
      items-next f depths (λ (k : ℕ) (l : List Let). pieces_lets (let_list (map see_let l))) (λ (k : ℕ) (y : Let). pieces_let (see_let y)) (λ (l : List Let). depth_lets f depths (let_list (map see_let l))) (λ (y : Let). depth_let f depths (see_let y))
      (λ k. refl) (λ k y ys. refl) refl (λ y ys. refl) xs i x b m a r s t within at before (let-measured x m a s now) is

  pub disj-measured : (d : Disj) (ps : List Part) (b a : List ℕ) (r : ℕ) → ps ≡ d.parts.items → OfParts ps b a r → M (pieces_disj (see_disj d)) (depth_disj f depths (see_disj d)) b a r
  disj-measured d ps b a r are m =
      subst (λ (y : sx.Disj). M (pieces_disj y) (depth_disj f depths y) b a r) (sym (disj-seen d))
      (plain-site f depths d.site _ _ _ b a r refl (subst (λ (l : List Part). OfParts l b a r) are m))

  pub disjs-next : (xs : List Disj) (i : ℕ) (x : Disj) (b m a : List ℕ) (r s t : ℕ) → i < length xs → x ≡ get_or xs i x → OfDisjs (take i xs) b m r
      → M (pieces_disj (see_disj x)) (depth_disj f depths (see_disj x)) m a s → t ≡ larger r s → OfDisjs (take (i + 1) xs) b a t
  disjs-next xs i x b m a r s t within at before now is =
      items-next f depths (λ (k : ℕ) (l : List Disj). pieces_disjs (disj_list (map see_disj l))) (λ (k : ℕ) (y : Disj). pieces_disj (see_disj y)) (λ (l : List Disj). depth_disjs f depths (disj_list (map see_disj l))) (λ (y : Disj). depth_disj f depths (see_disj y))
      (λ k. refl) (λ k y ys. refl) refl (λ y ys. refl) xs i x b m a r s t within at before now is

  pub parts-next : (xs : List Part) (i : ℕ) (x : Part) (b m a : List ℕ) (r s t : ℕ) → i < length xs → x ≡ get_or xs i x → OfParts (take i xs) b m r
      → M (pieces_part (see_part x)) (depth_part f depths (see_part x)) m a s → t ≡ larger r s → OfParts (take (i + 1) xs) b a t
  parts-next xs i x b m a r s t within at before now is =
      items-next f depths (λ (k : ℕ) (l : List Part). pieces_parts (part_list (map see_part l))) (λ (k : ℕ) (y : Part). pieces_part (see_part y)) (λ (l : List Part). depth_parts f depths (part_list (map see_part l))) (λ (y : Part). depth_part f depths (see_part y))
      (λ k. refl) (λ k y ys. refl) refl (λ y ys. refl) xs i x b m a r s t within at before now is

  pub exprs-next : (xs : List Expr) (i : ℕ) (x : Expr) (b m a : List ℕ) (r s t : ℕ) → i < length xs → x ≡ get_or xs i x → OfExprs (take i xs) b m r
      → M (pieces_expr (see_expr x)) (depth_expr f depths (see_expr x)) m a s → t ≡ larger r s → OfExprs (take (i + 1) xs) b a t
  exprs-next xs i x b m a r s t within at before now is =
      items-next f depths (λ (k : ℕ) (l : List Expr). pieces_exprs (expr_list (map see_expr l))) (λ (k : ℕ) (y : Expr). pieces_expr (see_expr y)) (λ (l : List Expr). depth_exprs f depths (expr_list (map see_expr l))) (λ (y : Expr). depth_expr f depths (see_expr y))
      (λ k. refl) (λ k y ys. refl) refl (λ y ys. refl) xs i x b m a r s t within at before now is

  -- ---- a query

  step_depth : (q : Query) (ss : List Step) (i : ℕ) → ss ≡ (out-Query q).steps.items → depth_piece f depths (Some (OfStep (see_query q) i)) ≡ suc (depth_steps f depths (step_list (map see_step (take (i + 1) ss))))
  step_depth q ss i are =
      ap (λ (y : sx.Query). depth_piece f depths (Some (OfStep y i))) (query-seen q)
      ∙ ap (λ (y : sx.Steps). suc (depth_steps f depths y)) (first-steps (out-Query q).steps.items i)
      ∙ ap (λ (l : List Step). suc (depth_steps f depths (step_list (map see_step (take (suc i) l))))) (sym are)
      ∙ ap (λ (k : ℕ). suc (depth_steps f depths (step_list (map see_step (take k ss))))) (sym (add-one i))

  step_pieces : (q : sx.Query) (i : ℕ) (x : Step) → pieces_step q i (see_step x) ≡ (x.site, OfStep q i) ∷ pieces_form (see_form x.form)
  step_pieces q i x = ap (pieces_step q i) (step-seen x) ∙ (form-shaped x.form).pieces q i x.site

  pub steps-next : (q : Query) (xs : List Step) (i : ℕ) (x : Step) (b m k a : List ℕ) (r s t w : ℕ) → xs ≡ (out-Query q).steps.items → i < length xs → x ≡ get_or xs i x → OfSteps (see_query q) (take i xs) b m r
      → M (pieces_form (see_form x.form)) (depth_step f depths (see_step x)) m k s → t ≡ larger r s → w ≡ capped (suc t) → a ≡ noted k x.site w → OfSteps (see_query q) (take (i + 1) xs) b a t
  steps-next q xs i x b m k a r s t w are within at before now is deep noted_is =
      let pieces = λ (j : ℕ) (l : List Step). pieces_steps (see_query q) j (step_list (map see_step l)) in
      let own = λ (j : ℕ) (y : Step). pieces_step (see_query q) j (see_step y) in
      let depth = λ (l : List Step). depth_steps f depths (step_list (map see_step l)) in
      let one = λ (y : Step). depth_step f depths (see_step y) in
      let value : t ≡ capped (depth (take (i + 1) xs)) =
      items-value f depths pieces own depth one (λ j. refl) (λ j y ys. refl) refl (λ y ys. refl) xs i x r s t within at before.value now.value is in
      let inside : M ((x.site, OfStep (see_query q) i) ∷ pieces_form (see_form x.form)) (one x) m a s =
      noted-site f depths x.site (OfStep (see_query q) i) (pieces_form (see_form x.form)) (one x) (suc (depth (take (i + 1) xs))) m k a s w now (step_depth q xs i are)
      (deep ∙ ap (λ (n : ℕ). capped (suc n)) value ∙ capped-suc (depth (take (i + 1) xs))) noted_is in
      items-next f depths pieces own depth one (λ j. refl) (λ j y ys. refl) refl (λ y ys. refl) xs i x b m a r s t within at before
      (subst (λ (ps : List Sited). M ps (one x) m a s) (sym (step_pieces (see_query q) i x)) inside) is

  pub query-measured : (q : Query) (ss : List Step) (b m a : List ℕ) (r w : ℕ) → ss ≡ (out-Query q).steps.items → OfSteps (see_query q) ss b m r → w ≡ capped (suc r) → a ≡ noted m (out-Query q).site w
      → M (pieces_query (see_query q)) (depth_query f depths (see_query q)) b a w
  query-measured q ss b m a r w are x deep noted_is =
      let seen = sx.query (out-Query q).site (step_list (map see_step (out-Query q).steps.items)) in
      let walked : OfSteps seen (out-Query q).steps.items b m r =
      subst (λ (y : sx.Query). OfSteps y (out-Query q).steps.items b m r) (query-seen q) (subst (λ (l : List Step). OfSteps (see_query q) l b m r) are x) in
      let whole : M (pieces_steps seen 0 (step_list (map see_step (out-Query q).steps.items))) (depth_query f depths seen) b m w = measured-deeper f depths _ _ b m r w walked deep in
      subst (λ (y : sx.Query). M (pieces_query y) (depth_query f depths y) b a w) (sym (query-seen q))
      (noted-site f depths (out-Query q).site (OfQuery seen) _ _ (depth_query f depths seen) b m a w w whole refl whole.value noted_is)

  -- ---- steps

  pub step-measured : (s : Step) (fm : StepForm) (fn : Form) (b a : List ℕ) (r : ℕ) → s.form ≡ fm → see_form fm ≡ fn → M (pieces_form fn) (depth_step f depths (fn s.site)) b a r
      → M (pieces_form (see_form s.form)) (depth_step f depths (see_step s)) b a r
  step-measured s fm fn b a r is seen m =
      subst (λ (y : sx.Step). M (pieces_form (see_form s.form)) (depth_step f depths y) b a r) (sym (step-seen s))
      (subst (λ (y : Form). M (pieces_form y) (depth_step f depths (y s.site)) b a r) (sym (ap see_form is ∙ seen)) m)

  pub quiet-step : (s : Step) (fm : StepForm) (fn : Form) (b : List ℕ) → s.form ≡ fm → see_form fm ≡ fn → pieces_form fn ≡ [] → depth_step f depths (fn s.site) ≡ 0
      → M (pieces_form (see_form s.form)) (depth_step f depths (see_step s)) b b 0
  quiet-step s fm fn b is seen none zero_is =
      step-measured s fm fn b b 0 is seen
      (subst (λ (ps : List Sited). M ps (depth_step f depths (fn s.site)) b b 0) (sym none) (subst (λ (k : ℕ). M [] k b b 0) (sym zero_is) (measured-none f depths b)))

  pub var-step : (s : Step) (name : List ℕ) (b : List ℕ) (r w : ℕ) → s.form ≡ form.Var name → r ≡ depth_bound f depths (bind_of f s.site) → w ≡ capped (suc r)
      → M (pieces_form (see_form s.form)) (depth_step f depths (see_step s)) b b w
  var-step s name b r w is known deep =
      step-measured s (form.Var name) (λ n. sx.var n name) b b w is (search (rules, the_lemmas))
      (with-value f depths [] 0 _ b b 0 w (measured-none f depths b) (deep ∙ ap (λ (n : ℕ). capped (suc n)) known))

  pub splice-step : (s : Step) (name : Named) (b : List ℕ) (r w : ℕ) → s.form ≡ form.Splice name → r ≡ depth_bound f depths (bind_of f s.site) → w ≡ capped (suc r)
      → M (pieces_form (see_form s.form)) (depth_step f depths (see_step s)) b b w
  splice-step s name b r w is known deep =
      step-measured s (form.Splice name) (λ n. sx.splice n name) b b w is (search (rules, the_lemmas))
      (with-value f depths [] 0 _ b b 0 w (measured-none f depths b) (deep ∙ ap (λ (n : ℕ). capped (suc n)) known))

  pub filter-step : (s : Step) (capture : Option Named) (c : Conds) (b a : List ℕ) (r : ℕ) → s.form ≡ form.Filter capture c → M (pieces_conds (see_conds c)) (depth_conds f depths (see_conds c)) b a r
      → M (pieces_form (see_form s.form)) (depth_step f depths (see_step s)) b a r
  filter-step s capture c b a r is m = step-measured s (form.Filter capture c) (λ n. sx.filter n capture (see_conds c)) b a r is (search (rules, the_lemmas)) m

  pub keys-step : (s : Step) (capture : Option Named) (op : Op) (negated : Bool) (e : Expr) (b a : List ℕ) (r : ℕ) → s.form ≡ form.Keys capture op negated e → M (pieces_expr (see_expr e)) (depth_expr f depths (see_expr e)) b a r
      → M (pieces_form (see_form s.form)) (depth_step f depths (see_step s)) b a r
  keys-step s capture op negated e b a r is m = step-measured s (form.Keys capture op negated e) (λ n. sx.keys n capture op negated (see_expr e)) b a r is (search (rules, the_lemmas)) m

  -- ---- bodies and conditions

  pub conds-measured : (c : Conds) (ds : List Disj) (b a : List ℕ) (r : ℕ) → ds ≡ (out-Conds c).parts.items → OfDisjs ds b a r → M (pieces_conds (see_conds c)) (depth_conds f depths (see_conds c)) b a r
  conds-measured c ds b a r are m =
      subst (λ (y : sx.Conds). M (pieces_conds y) (depth_conds f depths y) b a r) (sym (conds-seen c))
      (plain-site f depths (out-Conds c).site _ _ _ b a r refl (subst (λ (l : List Disj). OfDisjs l b a r) are m))

  pub body-measured : (x : Body) (ls : List Let) (ds : List Disj) (b m a : List ℕ) (r s t : ℕ) → ls ≡ (out-Body x).lets.items → ds ≡ (out-Body x).parts.items → OfLets ls b m r → OfDisjs ds m a s → t ≡ larger r s
      → M (pieces_body (see_body x)) (depth_body f depths (see_body x)) b a t
  body-measured x ls ds b m a r s t are be lets parts is =
      subst (λ (y : sx.Body). M (pieces_body y) (depth_body f depths y) b a t) (sym (body-seen x))
      (plain-site f depths (out-Body x).site _ _ _ b a t refl
      (measured-both f depths _ _ _ _ b m a r s t (subst (λ (l : List Let). OfLets l b m r) are lets) (subst (λ (l : List Disj). OfDisjs l m a s) be parts) is))

  -- ---- parts

  two_measured : (p : sx.Part) (n : ℕ) (o : Piece) (ps qs : List Sited) (d e : ℕ) (b m a : List ℕ) (r s t w : ℕ) → pieces_part p ≡ (n, o) ∷ (ps ++ qs) → depth_part f depths p ≡ suc (larger d e) → depth_piece f depths (Some o) ≡ 0
      → M ps d b m r → M qs e m a s → t ≡ larger r s → w ≡ capped (suc t) → M (pieces_part p) (depth_part f depths p) b a w
  two_measured p n o ps qs d e b m a r s t w are be none x y is deep =
      subst (λ (l : List Sited). M l (depth_part f depths p) b a w) (sym are)
      (subst (λ (k : ℕ). M ((n, o) ∷ (ps ++ qs)) k b a w) (sym be)
      (plain-site f depths n o (ps ++ qs) (suc (larger d e)) b a w none (measured-deeper f depths (ps ++ qs) (larger d e) b a t w (measured-both f depths ps qs d e b m a r s t x y is) deep)))

  abbrev part_is : Part → List ℕ → List ℕ → ℕ → Type 0
  part_is x b a w = M (pieces_part (see_part x)) (depth_part f depths (see_part x)) b a w

  seen_as : (x : Part) (p : sx.Part) (b a : List ℕ) (w : ℕ) → see_part x ≡ p → M (pieces_part p) (depth_part f depths p) b a w → part_is x b a w
  seen_as x p b a w is m = subst (λ (y : sx.Part). M (pieces_part y) (depth_part f depths y) b a w) (sym is) m

  pub block-measured : (x : Part) (site : ℕ) (any : Bool) (head : Query) (inner : Body) (b m a : List ℕ) (r s t w : ℕ) → x ≡ part.Block site any head inner
      → M (pieces_query (see_query head)) (depth_query f depths (see_query head)) b m r → M (pieces_body (see_body inner)) (depth_body f depths (see_body inner)) m a s → t ≡ larger r s → w ≡ capped (suc t) → part_is x b a w
  block-measured x site any head inner b m a r s t w is h k both deep =
      seen_as x _ b a w (ap see_part is ∙ block-seen site any head inner)
      (two_measured (sx.block site any (see_query head) (see_body inner)) site _ _ _ _ _ b m a r s t w refl refl refl h k both deep)

  pub when-measured : (x : Part) (site : ℕ) (cond : Conds) (inner : Body) (b m a : List ℕ) (r s t w : ℕ) → x ≡ part.When site cond inner
      → M (pieces_conds (see_conds cond)) (depth_conds f depths (see_conds cond)) b m r → M (pieces_body (see_body inner)) (depth_body f depths (see_body inner)) m a s → t ≡ larger r s → w ≡ capped (suc t) → part_is x b a w
  when-measured x site cond inner b m a r s t w is h k both deep =
      seen_as x _ b a w (ap see_part is ∙ when-seen site cond inner)
      (two_measured (sx.guarded site (see_conds cond) (see_body inner)) site _ _ _ _ _ b m a r s t w refl refl refl h k both deep)

  pub kinds-measured : (x : Part) (site : ℕ) (name : List ℕ) (cond : Option Conds) (inner : Body) (b m a : List ℕ) (r s t w : ℕ) → x ≡ part.Kinds site name cond inner
      → M (pieces_opt_conds (see_opt_conds cond)) (depth_opt_conds f depths (see_opt_conds cond)) b m r → M (pieces_body (see_body inner)) (depth_body f depths (see_body inner)) m a s → t ≡ larger r s → w ≡ capped (suc t) → part_is x b a w
  kinds-measured x site name cond inner b m a r s t w is h k both deep =
      seen_as x _ b a w (ap see_part is ∙ kinds-seen site name cond inner)
      (two_measured (sx.kinds site name (see_opt_conds cond) (see_body inner)) site _ _ _ _ _ b m a r s t w refl refl refl h k both deep)

  pub test-measured : (x : Part) (site : ℕ) (any : Bool) (left : Query) (op : Op) (negated : Bool) (right : Option Expr) (message : Option (List ℕ)) (b m a : List ℕ) (r s t w : ℕ) → x ≡ part.Test site any left op negated right message
      → M (pieces_query (see_query left)) (depth_query f depths (see_query left)) b m r → M (pieces_opt_expr (see_opt_expr right)) (depth_opt_expr f depths (see_opt_expr right)) m a s → t ≡ larger r s → w ≡ capped (suc t) → part_is x b a w
  test-measured x site any left op negated right message b m a r s t w is h k both deep =
      seen_as x _ b a w (ap see_part is ∙ side-seen site any left op negated right message)
      (two_measured (sx.test site any (see_query left) op negated (see_opt_expr right) message) site _ _ _ _ _ b m a r s t w refl refl refl h k both deep)

  pub refer-measured : (x : Part) (site : ℕ) (negated : Bool) (name : List ℕ) (message : Option (List ℕ)) (b : List ℕ) (r w : ℕ) → x ≡ part.Refer site negated name message
      → r ≡ depth_target f depths (target_of f site) → w ≡ capped (suc r) → part_is x b b w
  refer-measured x site negated name message b r w is known deep =
      seen_as x _ b b w (ap see_part is ∙ refer_seen site negated name message)
      (plain-site f depths site _ [] _ b b w refl (with-value f depths [] 0 _ b b 0 w (measured-none f depths b) (deep ∙ ap (λ (n : ℕ). capped (suc n)) known)))

  pub call-measured : (x : Part) (site : ℕ) (negated : Bool) (name : List ℕ) (args : Vec Expr Global) (message : Option (List ℕ)) (es : List Expr) (b a : List ℕ) (r s w : ℕ) → x ≡ part.Call site negated name args message
      → es ≡ args.items → OfExprs es b a s → r ≡ depth_target f depths (target_of f site) → w ≡ capped (suc (r + s)) → part_is x b a w
  call-measured x site negated name args message es b a r s w is are m known deep =
      let walked : OfExprs args.items b a s = subst (λ (l : List Expr). OfExprs l b a s) are m in
      let target = depth_target f depths (target_of f site) in
      let exprs = depth_exprs f depths (expr_list (map see_expr args.items)) in
      seen_as x _ b a w (ap see_part is ∙ call-seen site negated name args message)
      (plain-site f depths site _ _ _ b a w refl (with-value f depths _ _ (suc (target + exprs)) b a s w walked
      (deep ∙ ap (λ (n : ℕ). capped (suc (n + s))) known ∙ ap (λ (n : ℕ). capped (suc (target + n))) walked.value ∙ capped-sum target exprs)))

  -- ---- expressions

  abbrev expr_is : Expr → List ℕ → List ℕ → ℕ → Type 0
  expr_is x b a w = M (pieces_expr (see_expr x)) (depth_expr f depths (see_expr x)) b a w

  expr_as : (x : Expr) (e : sx.Expr) (b a : List ℕ) (w : ℕ) → see_expr x ≡ e → M (pieces_expr e) (depth_expr f depths e) b a w → expr_is x b a w
  expr_as x e b a w is m = subst (λ (y : sx.Expr). M (pieces_expr y) (depth_expr f depths y) b a w) (sym is) m

  pub literal-measured : (x : Expr) (site : ℕ) (tree : Forest) (b a : List ℕ) → x ≡ expr.Literal site tree → a ≡ noted b site 1 → expr_is x b a 1
  literal-measured x site tree b a is noted_is =
      expr_as x (sx.literal site tree) b a 1 (ap see_expr is ∙ search (rules, the_lemmas))
      (noted-site f depths site _ [] 1 1 b b a 1 1 (with-value f depths [] 0 1 b b 0 1 (measured-none f depths b) refl) refl refl noted_is)

  pub function-measured : (x : Expr) (site : ℕ) (name : List ℕ) (args : Vec Expr Global) (es : List Expr) (b m a : List ℕ) (r w : ℕ) → x ≡ expr.Function site name args → es ≡ args.items → OfExprs es b m r
      → w ≡ capped (suc r) → a ≡ noted m site w → expr_is x b a w
  function-measured x site name args es b m a r w is are exprs deep noted_is =
      let walked : OfExprs args.items b m r = subst (λ (l : List Expr). OfExprs l b m r) are exprs in
      let whole = measured-deeper f depths _ _ b m r w walked deep in
      expr_as x _ b a w (ap see_expr is ∙ function-seen site name args)
      (noted-site f depths site _ _ _ _ b m a w w whole refl whole.value noted_is)

  pub query-expr : (x : Expr) (q : Query) (b a : List ℕ) (w : ℕ) → x ≡ expr.Query q → M (pieces_query (see_query q)) (depth_query f depths (see_query q)) b a w → expr_is x b a w
  query-expr x q b a w is m = expr_as x (sx.asked (see_query q)) b a w (ap see_expr is ∙ search (rules, the_lemmas)) m

  pub found-measured : (x : Expr) (site : ℕ) (q : Query) (b m a : List ℕ) (r w : ℕ) → x ≡ expr.Found site q → M (pieces_query (see_query q)) (depth_query f depths (see_query q)) b m r
      → w ≡ capped (suc r) → a ≡ noted m site w → expr_is x b a w
  found-measured x site q b m a r w is walked deep noted_is =
      let whole = measured-deeper f depths _ _ b m r w walked deep in
      expr_as x (sx.found site (see_query q)) b a w (ap see_expr is ∙ search (rules, the_lemmas))
      (noted-site f depths site _ _ _ _ b m a w w whole refl whole.value noted_is)

  -- ---- rules

  pub rule-measured : (x : Rule) (b m k a : List ℕ) (r s t w : ℕ) → M (pieces_opt_conds (see_opt_conds x.cond)) (depth_opt_conds f depths (see_opt_conds x.cond)) b m r
      → M (pieces_body (see_body x.body)) (depth_body f depths (see_body x.body)) m k s → t ≡ larger r s → w ≡ capped (suc t) → a ≡ noted k x.site w → M (pieces_rule (see_rule x)) (depth_rule f depths (see_rule x)) b a w
  rule-measured x b m k a r s t w h i both deep noted_is =
      let whole = measured-deeper f depths _ _ b k t w (measured-both f depths _ _ _ _ b m k r s t h i both) deep in
      noted-site f depths x.site (OfRule (see_rule x)) _ _ (depth_rule f depths (see_rule x)) b k a w w whole refl whole.value noted_is
