-- What was appended for the parts of a part, one behind the other, is the text of the part.
use Rattle.std.proofs.Common.{◌≡◌, ℕ, suc, Bool, true, false, List, [], ◌∷◌, ◌++◌, drop, get_or, length, Option, cond, codes, refl, sym, ap, ◌∙◌, rules, append_assoc, append-nil, ◌<◌, arith, nat_eq, true≢false}
use Rattle.std.proofs.lemmas.Bool.Decides.{nat_tests}
use Rattle.std.proofs.lemmas.Result.{on_ok_weaker}
use Rattle.std.proofs.lemmas.List.{drop_more}
use Rattle.std.specs.Prelude.{Result, Ok, Err, OnOk, is_ok, decimal}
use Rattle.std.specs.declared.vec.Vec.{Vec}
use Rattle.std.specs.declared.alloc.Global.{Global}
use Rattle.guard_syntax.specs.Named.{Named}
use Rattle.guard_syntax.specs.Syntax as sx
use Rattle.guard_syntax.specs.declared.syntax.Body.{Body, the_lemmas}
use Rattle.guard_syntax.specs.declared.syntax.Conds.{Conds}
use Rattle.guard_syntax.specs.declared.syntax.Disj.{Disj}
use Rattle.guard_syntax.specs.declared.syntax.Expr.{Expr}
use Rattle.guard_syntax.specs.declared.syntax.Expr as expr
use Rattle.guard_syntax.specs.declared.syntax.Let.{Let}
use Rattle.guard_syntax.specs.declared.syntax.Op.{Op}
use Rattle.guard_syntax.specs.declared.syntax.Part.{Part}
use Rattle.guard_syntax.specs.declared.syntax.Part as part
use Rattle.guard_syntax.specs.declared.syntax.Query.{Query, out-Query}
use Rattle.guard_syntax.specs.declared.syntax.Step.{Step}
use Rattle.guard_syntax.specs.declared.syntax.StepForm.{StepForm}
use Rattle.guard_syntax.specs.declared.syntax.StepForm as form
use Rattle.guard_syntax.specs.code.Seen.{see_body, see_conds, see_disj, see_expr, see_form, see_let, see_opt_conds, see_opt_expr, see_part, see_query, see_step}
use Rattle.rule_names.proofs.Shapes.{block-seen, call-seen, disj-seen, function-seen, kinds-seen, let-seen, query-seen, step-seen, when-seen}
use Rattle.rule_words.specs.WordText.{capture_text, head_text, note_text, operator_text, space_behind, word_if}
use Rattle.rule_words.specs.code.Appended.{space_in}
use Rattle.rule_words.proofs.QueryStarts.{of_steps}
use Rattle.rule_printer.specs.RuleText.{asked_text, body_text, cond_text, conds_text, disj_line, expr_text, let_line, opt_conds_text, opt_expr_text, part_text, query_text, steps_text}
use Rattle.rule_printer.specs.code.Printing.{step_in}
use Rattle.rule_printer.proofs.BlockTexts.{of_body_parts}
use Rattle.rule_printer.proofs.PartTexts.{of_exprs, refer_seen, test_seen, two}

asked_seen : (q : Query) → see_expr (expr.Query q) ≡ sx.asked (see_query q)
asked_seen q = search (rules, the_lemmas)

found_seen : (site : ℕ) (q : Query) → see_expr (expr.Found site q) ≡ sx.found site (see_query q)
found_seen site q = search (rules, the_lemmas)

-- ---- steps

form_text : (first : Bool) (s : Step) (f : StepForm) (y : ℕ → sx.Step) → s.form ≡ f → see_form f ≡ y → step_in first (see_step s) ≡ step_in first (y s.site)
form_text first s f y is seen = ap (step_in first) (step-seen s ∙ ap (λ (g : StepForm). see_form g s.site) is ∙ ap (λ (z : ℕ → sx.Step). z s.site) seen)

this_text : (first : Bool) (n : ℕ) → step_in first (sx.this n) ≡ codes "this"
this_text true n = refl
this_text false n = refl

every_text : (first : Bool) (n : ℕ) → step_in first (sx.every n) ≡ codes ".*"
every_text true n = refl
every_text false n = refl

all_items_text : (first : Bool) (n : ℕ) → step_in first (sx.items n) ≡ codes "[*]"
all_items_text true n = refl
all_items_text false n = refl

index_text : (first : Bool) (i n : ℕ) → step_in first (sx.index n i) ≡ codes "." ++ decimal i
index_text true i n = refl
index_text false i n = refl

var_text : (first : Bool) (n : ℕ) (name : List ℕ) → step_in first (sx.var n name) ≡ codes "%" ++ name
var_text true n name = refl
var_text false n name = refl

splice_text : (first : Bool) (n : ℕ) (name : Named) → step_in first (sx.splice n name) ≡ codes ".%" ++ name.text
splice_text true n name = refl
splice_text false n name = refl

filter_text : (first : Bool) (n : ℕ) (capture : Option Named) (c : sx.Conds) → step_in first (sx.filter n capture c) ≡ codes "[ " ++ (capture_text capture ++ (conds_text c ++ codes " ]"))
filter_text true n capture c = refl
filter_text false n capture c = refl

keys_text : (first : Bool) (n : ℕ) (capture : Option Named) (op : Op) (negated : Bool) (e : sx.Expr)
    → step_in first (sx.keys n capture op negated e) ≡ codes "[ " ++ (capture_text capture ++ (codes "keys " ++ (operator_text op negated ++ (codes " " ++ (expr_text e ++ codes " ]")))))
keys_text true n capture op negated e = refl
keys_text false n capture op negated e = refl

-- ---- queries

-- the first step, and those behind it
steps_from : (ss : List Step) (x : Step) → 0 < length ss → x ≡ get_or ss 0 x → ss ≡ x ∷ drop 1 ss
steps_from ss x some is = drop_more ss 0 x some ∙ ap (λ y. y ∷ drop 1 ss) (sym is)

steps_seen : (q : Query) (ss : List Step) (x : Step) → ss ≡ (out-Query q).steps.items → 0 < length ss → x ≡ get_or ss 0 x
    → see_query q ≡ sx.query (out-Query q).site (sx.more_steps (see_step x) (of_steps (drop 1 ss)))
steps_seen q ss x are some is = query-seen q ∙ ap (λ (l : List Step). sx.query (out-Query q).site (of_steps l)) (sym are ∙ steps_from ss x some is)

pub some_steps : (ss : List Step) (empty : Bool) → empty ≡ nat_eq (length ss) 0 → empty ≡ false → 0 < length ss
some_steps [] empty e f = absurd (true≢false (sym e ∙ f))
some_steps (x ∷ ss) empty e f = omega arith

not_none : (n : ℕ) → nat_eq (suc n) 0 ≡ true → ⊥
not_none n e = grind (arith, nat_tests, e)

pub no_steps : (ss : List Step) (empty : Bool) → empty ≡ nat_eq (length ss) 0 → empty ≡ true → ss ≡ []
no_steps [] empty e f = refl
no_steps (x ∷ ss) empty e f = absurd (not_none (length ss) (sym e ∙ f))

none_seen : (q : Query) (ss : List Step) → ss ≡ (out-Query q).steps.items → ss ≡ [] → see_query q ≡ sx.query (out-Query q).site sx.no_steps
none_seen q ss are none = query-seen q ∙ ap (λ (l : List Step). sx.query (out-Query q).site (of_steps l)) (sym are ∙ none)

-- what is appended where there is room is appended by a call that ends well
pub all_room : {T E : Type 0} (r : Result T E) (b c x : List ℕ) → c ≡ cond (is_ok r) x b → OnOk r (c ≡ x)
all_room (Ok v) b c x h = h
all_room (Err e) b c x h = tt

module _ {T E : Type 0} (r : Result T E) where
  -- behind what was appended, what a call appends
  behind : (a b c x y : List ℕ) → b ≡ a ++ x → OnOk r (c ≡ b ++ y) → OnOk r (c ≡ a ++ (x ++ y))
  behind a b c x y p = on_ok_weaker r (two a b c x y p)

  shown : (a b x y : List ℕ) → y ≡ x → OnOk r (b ≡ a ++ x) → OnOk r (b ≡ a ++ y)
  shown a b x y e = on_ok_weaker r (λ (p : b ≡ a ++ x). p ∙ ap (λ (l : List ℕ). a ++ l) (sym e))

  -- what a call appends, behind what is known in another form
  pub appended_to : (a b c x : List ℕ) → b ≡ a → OnOk r (c ≡ b ++ x) → OnOk r (c ≡ a ++ x)
  appended_to a b c x e = on_ok_weaker r (λ (p : c ≡ b ++ x). p ∙ ap (λ (l : List ℕ). l ++ x) e)

  -- a step of one text
  worded : (first : Bool) (s : Step) (f : StepForm) (y : ℕ → sx.Step) (x a b : List ℕ) → s.form ≡ f → see_form f ≡ y → ((n : ℕ) → step_in first (y n) ≡ x) → OnOk r (b ≡ a ++ x)
      → OnOk r (b ≡ a ++ step_in first (see_step s))
  worded first s f y x a b is seen text h = shown a b x _ (form_text first s f y is seen ∙ text s.site) h

  pub this-added : (first : Bool) (s : Step) (a b : List ℕ) → s.form ≡ form.This → OnOk r (b ≡ a ++ codes "this") → OnOk r (b ≡ a ++ step_in first (see_step s))
  this-added first s a b is h = worded first s form.This (λ i. sx.this i) (codes "this") a b is (search (rules, the_lemmas)) (this_text first) h

  pub every-added : (first : Bool) (s : Step) (a b : List ℕ) → s.form ≡ form.Every → OnOk r (b ≡ a ++ codes ".*") → OnOk r (b ≡ a ++ step_in first (see_step s))
  every-added first s a b is h = worded first s form.Every (λ i. sx.every i) (codes ".*") a b is (search (rules, the_lemmas)) (every_text first) h

  pub items-added : (first : Bool) (s : Step) (a b : List ℕ) → s.form ≡ form.Items → OnOk r (b ≡ a ++ codes "[*]") → OnOk r (b ≡ a ++ step_in first (see_step s))
  items-added first s a b is h = worded first s form.Items (λ i. sx.items i) (codes "[*]") a b is (search (rules, the_lemmas)) (all_items_text first) h

  pub index-added : (first : Bool) (s : Step) (n : ℕ) (a b : List ℕ) → s.form ≡ form.Index n → OnOk r (b ≡ a ++ (codes "." ++ decimal n)) → OnOk r (b ≡ a ++ step_in first (see_step s))
  index-added first s n a b is h = worded first s (form.Index n) (λ i. sx.index i n) (codes "." ++ decimal n) a b is (search (rules, the_lemmas)) (index_text first n) h

  pub key-added : (first : Bool) (s : Step) (name n : List ℕ) (a b : List ℕ) → s.form ≡ form.Key name → n ≡ name → ((i : ℕ) → OnOk r (b ≡ a ++ step_in first (sx.key i n))) → OnOk r (b ≡ a ++ step_in first (see_step s))
  key-added first s name n a b is named h =
      shown a b (step_in first (sx.key s.site n)) _ (form_text first s (form.Key name) (λ i. sx.key i name) is (search (rules, the_lemmas)) ∙ ap (λ (l : List ℕ). step_in first (sx.key s.site l)) (sym named)) (h s.site)

  pub var-added : (first : Bool) (s : Step) (name n : List ℕ) (a b c : List ℕ) → s.form ≡ form.Var name → n ≡ name → b ≡ a ++ codes "%" → OnOk r (c ≡ b ++ n) → OnOk r (c ≡ a ++ step_in first (see_step s))
  var-added first s name n a b c is named h k =
      shown a c _ _ (form_text first s (form.Var name) (λ i. sx.var i name) is (search (rules, the_lemmas)) ∙ var_text first s.site name ∙ ap (λ l. codes "%" ++ l) (sym named)) (behind a b c _ _ h k)

  pub splice-added : (first : Bool) (s : Step) (name : Named) (n : List ℕ) (a b c : List ℕ) → s.form ≡ form.Splice name → n ≡ name.text → b ≡ a ++ codes ".%" → OnOk r (c ≡ b ++ n) → OnOk r (c ≡ a ++ step_in first (see_step s))
  splice-added first s name n a b c is named h k =
      shown a c _ _ (form_text first s (form.Splice name) (λ i. sx.splice i name) is (search (rules, the_lemmas)) ∙ splice_text first s.site name ∙ ap (λ l. codes ".%" ++ l) (sym named)) (behind a b c _ _ h k)

  pub filter-added : (first : Bool) (s : Step) (capture : Option Named) (cond : Conds) (a b c d e : List ℕ)
      → s.form ≡ form.Filter capture cond → b ≡ a ++ codes "[ " → c ≡ b ++ capture_text capture → d ≡ c ++ conds_text (see_conds cond) → OnOk r (e ≡ d ++ codes " ]")
      → OnOk r (e ≡ a ++ step_in first (see_step s))
  filter-added first s capture cond a b c d e is h k l m =
      shown a e _ _ (form_text first s (form.Filter capture cond) (λ i. sx.filter i capture (see_conds cond)) is (search (rules, the_lemmas)) ∙ filter_text first s.site capture (see_conds cond))
      (behind a b e _ _ h (behind b c e _ _ k (behind c d e _ _ l m)))

  pub keys-added : (first : Bool) (s : Step) (capture : Option Named) (op : Op) (negated : Bool) (right : Expr) (a b c d e f g h : List ℕ)
      → s.form ≡ form.Keys capture op negated right → b ≡ a ++ codes "[ " → c ≡ b ++ capture_text capture → d ≡ c ++ codes "keys " → e ≡ d ++ operator_text op negated
      → f ≡ e ++ codes " " → g ≡ f ++ expr_text (see_expr right) → OnOk r (h ≡ g ++ codes " ]") → OnOk r (h ≡ a ++ step_in first (see_step s))
  keys-added first s capture op negated right a b c d e f g h is h1 h2 h3 h4 h5 h6 h7 =
      shown a h _ _
      (form_text first s (form.Keys capture op negated right) (λ i. sx.keys i capture op negated (see_expr right)) is (search (rules, the_lemmas)) ∙ keys_text first s.site capture op negated (see_expr right))
      (behind a b h _ _ h1 (behind b c h _ _ h2 (behind c d h _ _ h3 (behind d e h _ _ h4 (behind e f h _ _ h5 (behind f g h _ _ h6 h7))))))

  pub query-added : (q : Query) (ss : List Step) (x : Step) (a b c : List ℕ) → ss ≡ (out-Query q).steps.items → 0 < length ss → x ≡ get_or ss 0 x → b ≡ a ++ step_in true (see_step x)
      → OnOk r (c ≡ b ++ steps_text (of_steps (drop 1 ss))) → OnOk r (c ≡ a ++ query_text (see_query q))
  query-added q ss x a b c are some is h k = shown a c _ _ (ap (λ (y : sx.Query). query_text y) (steps_seen q ss x are some is)) (behind a b c _ _ h k)

  pub asked-added : (q : Query) (ss : List Step) (x : Step) (a b c d : List ℕ) → ss ≡ (out-Query q).steps.items → 0 < length ss → x ≡ get_or ss 0 x → b ≡ a ++ step_in true (see_step x)
      → c ≡ b ++ space_in (of_steps ss) → OnOk r (d ≡ c ++ steps_text (of_steps (drop 1 ss))) → OnOk r (d ≡ a ++ asked_text (see_query q))
  asked-added q ss x a b c d are some is h k l =
      shown a d _ _ (ap (λ (y : sx.Query). asked_text y) (steps_seen q ss x are some is))
      (behind a b d _ _ h (behind b c d _ _ (k ∙ ap (λ (l : List Step). b ++ space_in (of_steps l)) (steps_from ss x some is)) l))

  -- ---- parts

  pub test-added : (x : Part) (site : ℕ) (any : Bool) (left : Query) (op : Op) (negated : Bool) (right : Option Expr) (message : Option (List ℕ)) (a b c d e f g : List ℕ)
      → x ≡ part.Test site any left op negated right message → b ≡ a ++ word_if any (codes "some ") → c ≡ b ++ query_text (see_query left) → d ≡ c ++ codes " " → e ≡ d ++ operator_text op negated
      → f ≡ e ++ opt_expr_text (see_opt_expr right) → OnOk r (g ≡ f ++ note_text message) → OnOk r (g ≡ a ++ cond_text (see_part x))
  test-added x site any left op negated right message a b c d e f g is h1 h2 h3 h4 h5 h6 =
      shown a g _ _ (ap (λ (p : sx.Part). cond_text p) (ap see_part is ∙ test_seen site any left op negated right message))
      (behind a b g _ _ h1 (behind b c g _ _ h2 (behind c d g _ _ h3 (behind d e g _ _ h4 (behind e f g _ _ h5 h6)))))

  pub refer-added : (x : Part) (site : ℕ) (negated : Bool) (name n : List ℕ) (message : Option (List ℕ)) (a b c d : List ℕ)
      → x ≡ part.Refer site negated name message → n ≡ name → b ≡ a ++ word_if negated (codes "not ") → c ≡ b ++ n → OnOk r (d ≡ c ++ note_text message) → OnOk r (d ≡ a ++ cond_text (see_part x))
  refer-added x site negated name n message a b c d is named h k l =
      shown a d _ _ (ap (λ (p : sx.Part). cond_text p) (ap see_part is ∙ refer_seen site negated name message))
      (behind a b d _ _ h (behind b c d _ _ (k ∙ ap (λ l. b ++ l) named) l))

  pub call-added : (x : Part) (site : ℕ) (negated : Bool) (name n : List ℕ) (args : Vec Expr Global) (es : List Expr) (message : Option (List ℕ)) (a b c d e f g : List ℕ)
      → x ≡ part.Call site negated name args message → n ≡ name → es ≡ args.items → b ≡ a ++ word_if negated (codes "not ") → c ≡ b ++ n → d ≡ c ++ codes "(" → e ≡ d ++ of_exprs es → f ≡ e ++ codes ")"
      → OnOk r (g ≡ f ++ note_text message) → OnOk r (g ≡ a ++ cond_text (see_part x))
  call-added x site negated name n args es message a b c d e f g is named are h1 h2 h3 h4 h5 h6 =
      shown a g _ _ (ap (λ (p : sx.Part). cond_text p) (ap see_part is ∙ call-seen site negated name args message))
      (behind a b g _ _ h1 (behind b c g _ _ (h2 ∙ ap (λ l. b ++ l) named) (behind c d g _ _ h3 (behind d e g _ _ (h4 ∙ ap (λ (l : List Expr). d ++ of_exprs l) are) (behind e f g _ _ h5 h6)))))

  -- ---- expressions

  pub function-added : (x : Expr) (site : ℕ) (name n m : List ℕ) (args : Vec Expr Global) (es : List Expr) (a b c d e f : List ℕ)
      → x ≡ expr.Function site name args → n ≡ name → m ≡ name → es ≡ args.items → b ≡ a ++ n → c ≡ b ++ space_behind m → d ≡ c ++ codes "(" → e ≡ d ++ of_exprs es → OnOk r (f ≡ e ++ codes ")")
      → OnOk r (f ≡ a ++ expr_text (see_expr x))
  function-added x site name n m args es a b c d e f is named again are h1 h2 h3 h4 h5 =
      shown a f _ _ (ap (λ (y : sx.Expr). expr_text y) (ap see_expr is ∙ function-seen site name args))
      (behind a b f _ _ (h1 ∙ ap (λ l. a ++ l) named) (behind b c f _ _ (h2 ∙ ap (λ l. b ++ space_behind l) again) (behind c d f _ _ h3 (behind d e f _ _ (h4 ∙ ap (λ (l : List Expr). d ++ of_exprs l) are) h5))))

  pub query-asked-added : (x : Expr) (q : Query) (a b : List ℕ) → x ≡ expr.Query q → OnOk r (b ≡ a ++ asked_text (see_query q)) → OnOk r (b ≡ a ++ expr_text (see_expr x))
  query-asked-added x q a b is h = shown a b (asked_text (see_query q)) _ (ap (λ (y : sx.Expr). expr_text y) (ap see_expr is ∙ asked_seen q)) h

  pub found-added : (x : Expr) (site : ℕ) (q : Query) (a b c : List ℕ) → x ≡ expr.Found site q → b ≡ a ++ codes "some " → OnOk r (c ≡ b ++ query_text (see_query q)) → OnOk r (c ≡ a ++ expr_text (see_expr x))
  found-added x site q a b c is h k = shown a c _ _ (ap (λ (y : sx.Expr). expr_text y) (ap see_expr is ∙ found_seen site q)) (behind a b c _ _ h k)

  -- ---- lines

  pub let-added : (l : Let) (margin n : List ℕ) (a b c d e f g : List ℕ) → n ≡ l.name.text → b ≡ a ++ margin → c ≡ b ++ codes "let " → d ≡ c ++ n → e ≡ d ++ codes " = " → f ≡ e ++ expr_text (see_expr l.value)
      → OnOk r (g ≡ f ++ codes "\n") → OnOk r (g ≡ a ++ (let_line margin (see_let l)).1)
  let-added l margin n a b c d e f g named h1 h2 h3 h4 h5 h6 =
      let name = l.name.text in
      let value = expr_text (see_expr l.value) in
      on_ok_weaker r
      (λ (p : g ≡ b ++ (codes "let " ++ (name ++ (codes " = " ++ (value ++ codes "\n"))))). two a b g margin _ h1 p ∙ ap (λ (y : List ℕ). a ++ (margin ++ y)) (line_end name value) ∙ ap (λ (y : sx.Let). a ++ (let_line margin y).1) (sym (let-seen l)))
      (behind b c g _ _ h2 (behind c d g _ _ (h3 ∙ ap (λ (y : List ℕ). c ++ y) named) (behind d e g _ _ h4 (behind e f g _ _ h5 h6)))) where
        line_end : (name value : List ℕ) → codes "let " ++ (name ++ (codes " = " ++ (value ++ codes "\n"))) ≡ (codes "let " ++ (name ++ (codes " = " ++ value))) ++ codes "\n"
        line_end name value =
            ap (λ (y : List ℕ). codes "let " ++ y) (ap (λ (y : List ℕ). name ++ y) (ap (λ (y : List ℕ). codes " = " ++ y) refl ∙ sym (append_assoc (codes " = ") value (codes "\n"))) ∙ sym (append_assoc name (codes " = " ++ value) (codes "\n")))
            ∙ sym (append_assoc (codes "let ") (name ++ (codes " = " ++ value)) (codes "\n"))

  pub disj-added : (x : Disj) (margin : List ℕ) (ps : List Part) (a b c d : List ℕ) → ps ≡ x.parts.items → b ≡ a ++ margin → c ≡ b ++ of_body_parts margin ps → OnOk r (d ≡ c ++ codes "\n")
      → OnOk r (d ≡ a ++ (disj_line margin (see_disj x)).1)
  disj-added x margin ps a b c d are h k l =
      shown a d _ _ (ap (λ (y : sx.Disj). (disj_line margin y).1) (disj-seen x) ∙ ap (λ (y : List Part). margin ++ (of_body_parts margin y ++ codes "\n")) (sym are)) (behind a b d _ _ h (behind b c d _ _ k l))

  -- ---- blocks

  pub block-added : (x : Part) (margin : List ℕ) (site : ℕ) (any : Bool) (head : Query) (inner : Body) (a b c d : List ℕ) → x ≡ part.Block site any head inner → b ≡ a ++ word_if any (codes "some ")
      → c ≡ b ++ head_text (see_query head) (query_text (see_query head)) → OnOk r (d ≡ c ++ body_text margin (see_body inner)) → OnOk r (d ≡ a ++ part_text margin (see_part x))
  block-added x margin site any head inner a b c d is h k l =
      shown a d _ _ (ap (λ (y : sx.Part). part_text margin y) (ap see_part is ∙ block-seen site any head inner)) (behind a b d _ _ h (behind b c d _ _ k l))

  pub when-added : (x : Part) (margin : List ℕ) (site : ℕ) (cond : Conds) (inner : Body) (a b c d : List ℕ) → x ≡ part.When site cond inner → b ≡ a ++ codes "when "
      → c ≡ b ++ conds_text (see_conds cond) → OnOk r (d ≡ c ++ body_text margin (see_body inner)) → OnOk r (d ≡ a ++ part_text margin (see_part x))
  when-added x margin site cond inner a b c d is h k l =
      shown a d _ _ (ap (λ (y : sx.Part). part_text margin y) (ap see_part is ∙ when-seen site cond inner)) (behind a b d _ _ h (behind b c d _ _ k l))

  pub kinds-added : (x : Part) (margin : List ℕ) (site : ℕ) (name n : List ℕ) (cond : Option Conds) (inner : Body) (a b c d : List ℕ) → x ≡ part.Kinds site name cond inner → n ≡ name → b ≡ a ++ n
      → c ≡ b ++ opt_conds_text (see_opt_conds cond) → OnOk r (d ≡ c ++ body_text margin (see_body inner)) → OnOk r (d ≡ a ++ part_text margin (see_part x))
  kinds-added x margin site name n cond inner a b c d is named h k l =
      shown a d _ _ (ap (λ (y : sx.Part). part_text margin y) (ap see_part is ∙ kinds-seen site name cond inner)) (behind a b d _ _ (h ∙ ap (λ (y : List ℕ). a ++ y) named) (behind b c d _ _ k l))

-- ---- what has no text

pub query-empty : (q : Query) (ss : List Step) (a : List ℕ) → ss ≡ (out-Query q).steps.items → ss ≡ [] → a ≡ a ++ query_text (see_query q)
query-empty q ss a are none = sym (append-nil a) ∙ ap (λ (y : sx.Query). a ++ query_text y) (sym (none_seen q ss are none))

pub asked-empty : (q : Query) (ss : List Step) (a : List ℕ) → ss ≡ (out-Query q).steps.items → ss ≡ [] → a ≡ a ++ asked_text (see_query q)
asked-empty q ss a are none = sym (append-nil a) ∙ ap (λ (y : sx.Query). a ++ asked_text y) (sym (none_seen q ss are none))
