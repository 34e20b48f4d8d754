use Rattle.std.proofs.Common.{◌≡◌, ℕ, ap, sym, ◌∙◌, subst, arith, rules, refl, List, [], ◌∷◌, map, get_or, Option, Some}
use Rattle.guard_syntax.specs.Syntax as sx
use Rattle.guard_syntax.specs.code.Seen.{Form, see_query, see_conds, see_form, see_expr, see_opt_conds, expr_list}
use Rattle.guard_syntax.specs.Sites.{sites_opt_conds}
use Rattle.guard_syntax.specs.declared.syntax.Conds.{Conds, the_lemmas}
use Rattle.guard_syntax.specs.declared.syntax.Step.{Step}
use Rattle.guard_syntax.specs.declared.syntax.StepForm.{StepForm}
use Rattle.guard_syntax.specs.declared.syntax.StepForm as form
use Rattle.guard_syntax.specs.declared.syntax.Expr.{Expr}
use Rattle.rule_names.specs.code.Forms.{pieces_form}
use Rattle.rule_names.specs.Pieces.{Sited, OfExpr, piece_in, pieces_opt_conds, pieces_expr, pieces_exprs}
use Rattle.rule_names.proofs.Parts.{here, elsewhere}
use Rattle.rule_names.specs.code.IncreasingSites.{IsIncreasing}
use Rattle.rule_names.proofs.Lists.{lets-sorted, lets-rise, lets-chosen, lets-none, disjs-sorted, disjs-rise, disjs-chosen, disjs-none, parts-sorted, parts-rise, parts-chosen, parts-none, exprs-sorted, exprs-rise, exprs-chosen, exprs-none, steps-sorted, steps-rise, steps-chosen, steps-none}
use Rattle.rule_names.proofs.Shapes.{let-here, let-inner, let-rise, disj-here, disj-inner, disj-rise, conds-rise, body-lets-rise, body-parts-rise, body-in-lets, body-not-lets, body-in-parts, body-not-parts, block-rise, block-head, block-body, when-rise, when-conds, when-body, kinds-rise, kinds-conds, kinds-body, test-rise, test-left, test-right, call-rise, function-rise, query-rise, query-inner, function-seen, step-here, step-inner, step-rise}
use Rattle.rule_names.proofs.find.+find.Goals as goal

pub in_body-last_site-requires : goal.in_body-last_site-requires
in_body-last_site-requires t c = lets-sorted _ (body-lets-rise c.args.body.now _ c.as_slice-lets.ensures.value c.requires)

pub in_body-last_site-requires-2 : goal.in_body-last_site-requires-2
in_body-last_site-requires-2 t c = disjs-sorted _ (body-parts-rise c.args.body.now _ c.as_slice-parts.ensures.value c.requires)

pub in_body-in_lets-requires : goal.in_body-in_lets-requires
in_body-in_lets-requires t c = (search (rules, the_lemmas), body-lets-rise c.args.body.now _ c.as_slice-lets.ensures.value c.requires)

pub in_body-in_disjs-requires : goal.in_body-in_disjs-requires
in_body-in_disjs-requires t c = (search (rules, the_lemmas), body-parts-rise c.args.body.now _ c.as_slice-parts.ensures.value c.requires)

pub in_body-in_disjs-requires-else-gt : goal.in_body-in_disjs-requires-else-gt
in_body-in_disjs-requires-else-gt t c = (search (rules, the_lemmas), body-parts-rise c.args.body.now _ c.as_slice-parts.ensures.value c.requires)

pub in_body-in_lets-requires-in-None-in_disjs : goal.in_body-in_lets-requires-in-None-in_disjs
in_body-in_lets-requires-in-None-in_disjs t c = (search (rules, the_lemmas), body-lets-rise c.args.body.now _ c.as_slice-lets.ensures.value c.requires)

pub in_body-returns-in-Some : goal.in_body-returns-in-Some
in_body-returns-in-Some t c = body-in-lets c.args.site c.args.body.now _ _ c.as_slice-lets.ensures.value c.if-body-site.false c.in-Some.ensures

pub in_body-returns-in-None : goal.in_body-returns-in-None
in_body-returns-in-None t c = c.in_disjs.ensures ∙ body-not-lets c.args.site c.args.body.now _ _ c.as_slice-lets.ensures.value c.as_slice-parts.ensures.value c.if-body-site.false c.in-None.ensures

pub in_body-returns-in-Some-in_disjs : goal.in_body-returns-in-Some-in_disjs
in_body-returns-in-Some-in_disjs t c = body-in-parts c.args.site c.args.body.now _ _ c.as_slice-parts.ensures.value c.if-body-site.false c.requires c.in-Some-in_disjs.ensures

pub in_body-returns-in-None-in_disjs : goal.in_body-returns-in-None-in_disjs
in_body-returns-in-None-in_disjs t c = c.in_lets-in-None-in_disjs.ensures ∙ body-not-parts c.args.site c.args.body.now _ _ c.as_slice-lets.ensures.value c.as_slice-parts.ensures.value c.if-body-site.false c.in-None-in_disjs.ensures

pub in_conds-in_disjs-requires : goal.in_conds-in_disjs-requires
in_conds-in_disjs-requires t c = (search (rules, the_lemmas), conds-rise c.args.conds.now _ c.deref.ensures.value c.requires)

pub in_disjs-last_to-requires : goal.in_disjs-last_to-requires
in_disjs-last_to-requires t c = disjs-sorted _ c.requires

pub in_disjs-in_parts-requires : goal.in_disjs-in_parts-requires
in_disjs-in_parts-requires t c = (search (rules, the_lemmas), disj-rise c.index-disjs-index.result _ c.deref.ensures.value (disjs-rise c.args.site c.args.disjs.now c.in-Some.index c.index-disjs-index.result c.requires c.in-Some.ensures c.index-disjs-index.is))

pub in_disjs-returns-then-found-site : goal.in_disjs-returns-then-found-site
in_disjs-returns-then-found-site t c = sym (disj-here c.args.site c.index-disjs-index.result c.if-found-site.true) ∙ disjs-chosen c.args.site c.args.disjs.now c.in-Some.index c.index-disjs-index.result c.requires c.in-Some.ensures c.index-disjs-index.is

pub in_disjs-returns-else-found-site : goal.in_disjs-returns-else-found-site
in_disjs-returns-else-found-site t c = c.in_parts.ensures ∙ disj-inner c.args.site c.index-disjs-index.result _ c.deref.ensures.value c.if-found-site.false ∙ disjs-chosen c.args.site c.args.disjs.now c.in-Some.index c.index-disjs-index.result c.requires c.in-Some.ensures c.index-disjs-index.is

pub in_disjs-returns-in-None : goal.in_disjs-returns-in-None
in_disjs-returns-in-None t c = disjs-none c.args.site c.args.disjs.now c.requires c.in-None.ensures

pub in_expr-in_exprs-requires : goal.in_expr-in_exprs-requires
in_expr-in_exprs-requires t c = (search (rules, the_lemmas), function-rise c.args.expr.now c.in-Function.own c.in-Function.name c.in-Function.args _ c.in-Function.is c.deref.ensures.value c.requires)

pub in_exprs-last_to-requires : goal.in_exprs-last_to-requires
in_exprs-last_to-requires t c = exprs-sorted _ c.requires

pub in_exprs-in_expr-requires : goal.in_exprs-in_expr-requires
in_exprs-in_expr-requires t c = (search (rules, the_lemmas), exprs-rise c.args.site c.args.exprs.now c.in-Some.index c.index-exprs-index.result c.requires c.in-Some.ensures c.index-exprs-index.is)

pub in_exprs-returns-in-Some : goal.in_exprs-returns-in-Some
in_exprs-returns-in-Some t c = c.in_expr.ensures ∙ exprs-chosen c.args.site c.args.exprs.now c.in-Some.index c.index-exprs-index.result c.requires c.in-Some.ensures c.index-exprs-index.is

pub in_exprs-returns-in-None : goal.in_exprs-returns-in-None
in_exprs-returns-in-None t c = exprs-none c.args.site c.args.exprs.now c.requires c.in-None.ensures

pub in_lets-last_to-requires : goal.in_lets-last_to-requires
in_lets-last_to-requires t c = lets-sorted _ c.requires

pub in_lets-in_expr-requires : goal.in_lets-in_expr-requires
in_lets-in_expr-requires t c = (search (rules, the_lemmas), let-rise c.index-lets-index.result (lets-rise c.args.site c.args.lets.now c.in-Some.index c.index-lets-index.result c.requires c.in-Some.ensures c.index-lets-index.is))

pub in_lets-returns-then-found-site : goal.in_lets-returns-then-found-site
in_lets-returns-then-found-site t c = sym (let-here c.args.site c.index-lets-index.result c.if-found-site.true) ∙ lets-chosen c.args.site c.args.lets.now c.in-Some.index c.index-lets-index.result c.requires c.in-Some.ensures c.index-lets-index.is

pub in_lets-returns-else-found-site : goal.in_lets-returns-else-found-site
in_lets-returns-else-found-site t c = c.in_expr.ensures ∙ let-inner c.args.site c.index-lets-index.result c.if-found-site.false ∙ lets-chosen c.args.site c.args.lets.now c.in-Some.index c.index-lets-index.result c.requires c.in-Some.ensures c.index-lets-index.is

pub in_lets-returns-in-None : goal.in_lets-returns-in-None
in_lets-returns-in-None t c = lets-none c.args.site c.args.lets.now c.requires c.in-None.ensures

pub in_part-in_body-requires : goal.in_part-in_body-requires
in_part-in_body-requires t c = (search (rules, the_lemmas), (block-rise c.args.part.now c.in-Block.site c.in-Block.any c.in-Block.head c.in-Block.body c.in-Block.is c.requires).1)

pub in_part-in_query-requires : goal.in_part-in_query-requires
in_part-in_query-requires t c = (search (rules, the_lemmas), (block-rise c.args.part.now c.in-Block.site c.in-Block.any c.in-Block.head c.in-Block.body c.in-Block.is c.requires).0)

pub in_part-in_body-requires-then-body-site-2 : goal.in_part-in_body-requires-then-body-site-2
in_part-in_body-requires-then-body-site-2 t c = (search (rules, the_lemmas), (when-rise c.args.part.now c.in-When.site c.in-When.cond c.in-When.body c.in-When.is c.requires).1)

pub in_part-in_conds-requires : goal.in_part-in_conds-requires
in_part-in_conds-requires t c = (search (rules, the_lemmas), (when-rise c.args.part.now c.in-When.site c.in-When.cond c.in-When.body c.in-When.is c.requires).0)

pub in_part-in_body-requires-then-body-site-3 : goal.in_part-in_body-requires-then-body-site-3
in_part-in_body-requires-then-body-site-3 t c = (search (rules, the_lemmas), (kinds-rise c.args.part.now c.in-Kinds.site c.in-Kinds.name c.in-Kinds.cond c.in-Kinds.body c.in-Kinds.is c.requires).1)

pub in_part-returns-then-body-site-3 : goal.in_part-returns-then-body-site-3
in_part-returns-then-body-site-3 t c = c.in_body-then-body-site-3.ensures ∙ kinds-body c.args.site c.args.part.now c.in-Kinds.site c.in-Kinds.name c.in-Kinds.cond c.in-Kinds.body c.in-Kinds.is c.requires (λ e. c.if-site.false (c.site.ensures ∙ e)) c.if-body-site-3.true

pub in_part-in_conds-requires-in-Some : goal.in_part-in_conds-requires-in-Some
in_part-in_conds-requires-in-Some t c = (search (rules, the_lemmas), subst (λ (o : Option Conds). IsIncreasing (sites_opt_conds (see_opt_conds o))) c.in-Some.is (kinds-rise c.args.part.now c.in-Kinds.site c.in-Kinds.name c.in-Kinds.cond c.in-Kinds.body c.in-Kinds.is c.requires).0)

pub in_part-in_expr-requires : goal.in_part-in_expr-requires
in_part-in_expr-requires t c = (search (rules, the_lemmas), (test-rise c.args.part.now c.in-Test.site c.in-Test.any c.in-Test.left c.in-Test.op c.in-Test.not c.in-Test.right c.in-Test.note c.in-Some-right.expr c.in-Test.is c.in-Some-right.is c.requires).1)

pub in_part-in_query-requires-else-site-2 : goal.in_part-in_query-requires-else-site-2
in_part-in_query-requires-else-site-2 t c = (search (rules, the_lemmas), (test-rise c.args.part.now c.in-Test.site c.in-Test.any c.in-Test.left c.in-Test.op c.in-Test.not c.in-Test.right c.in-Test.note c.in-Some-right.expr c.in-Test.is c.in-Some-right.is c.requires).0)

pub in_part-in_exprs-requires : goal.in_part-in_exprs-requires
in_part-in_exprs-requires t c = (search (rules, the_lemmas), call-rise c.args.part.now c.in-Call.site c.in-Call.not c.in-Call.name c.in-Call.args c.in-Call.note _ c.in-Call.is c.deref.ensures.value c.requires)

pub in_part-returns-then-body-site : goal.in_part-returns-then-body-site
in_part-returns-then-body-site t c = c.in_body.ensures ∙ block-body c.args.site c.args.part.now c.in-Block.site c.in-Block.any c.in-Block.head c.in-Block.body c.in-Block.is c.requires (λ e. c.if-site.false (c.site.ensures ∙ e)) c.if-body-site.true

pub in_part-returns-else-body-site : goal.in_part-returns-else-body-site
in_part-returns-else-body-site t c = c.in_query.ensures ∙ block-head c.args.site c.args.part.now c.in-Block.site c.in-Block.any c.in-Block.head c.in-Block.body c.in-Block.is c.requires (λ e. c.if-site.false (c.site.ensures ∙ e)) c.if-body-site.false

pub in_part-returns-then-body-site-2 : goal.in_part-returns-then-body-site-2
in_part-returns-then-body-site-2 t c = c.in_body-then-body-site-2.ensures ∙ when-body c.args.site c.args.part.now c.in-When.site c.in-When.cond c.in-When.body c.in-When.is c.requires (λ e. c.if-site.false (c.site.ensures ∙ e)) c.if-body-site-2.true

pub in_part-returns-else-body-site-2 : goal.in_part-returns-else-body-site-2
in_part-returns-else-body-site-2 t c = c.in_conds.ensures ∙ when-conds c.args.site c.args.part.now c.in-When.site c.in-When.cond c.in-When.body c.in-When.is c.requires (λ e. c.if-site.false (c.site.ensures ∙ e)) c.if-body-site-2.false

pub in_part-returns-in-Some : goal.in_part-returns-in-Some
in_part-returns-in-Some t c = c.in_conds-in-Some.ensures ∙ ap (λ (o : Option Conds). piece_in (pieces_opt_conds (see_opt_conds o)) c.args.site) (sym c.in-Some.is) ∙ kinds-conds c.args.site c.args.part.now c.in-Kinds.site c.in-Kinds.name c.in-Kinds.cond c.in-Kinds.body c.in-Kinds.is c.requires (λ e. c.if-site.false (c.site.ensures ∙ e)) c.if-body-site-3.false

pub in_part-returns-in-None : goal.in_part-returns-in-None
in_part-returns-in-None t c = ap (λ (o : Option Conds). piece_in (pieces_opt_conds (see_opt_conds o)) c.args.site) (sym c.in-None.is) ∙ kinds-conds c.args.site c.args.part.now c.in-Kinds.site c.in-Kinds.name c.in-Kinds.cond c.in-Kinds.body c.in-Kinds.is c.requires (λ e. c.if-site.false (c.site.ensures ∙ e)) c.if-body-site-3.false

pub in_part-returns-then-site-2 : goal.in_part-returns-then-site-2
in_part-returns-then-site-2 t c = c.in_expr.ensures ∙ test-right c.args.site c.args.part.now c.in-Test.site c.in-Test.any c.in-Test.left c.in-Test.op c.in-Test.not c.in-Test.right c.in-Test.note c.in-Some-right.expr c.in-Test.is c.in-Some-right.is c.requires (λ e. c.if-site.false (c.site.ensures ∙ e)) (let e = c.site-in-Some-right.ensures in let f = c.if-site-2.true in omega arith)

pub in_part-returns-else-site-2 : goal.in_part-returns-else-site-2
in_part-returns-else-site-2 t c = c.in_query-else-site-2.ensures ∙ test-left c.args.site c.args.part.now c.in-Test.site c.in-Test.any c.in-Test.left c.in-Test.op c.in-Test.not c.in-Test.right c.in-Test.note c.in-Some-right.expr c.in-Test.is c.in-Some-right.is c.requires (λ e. c.if-site.false (c.site.ensures ∙ e)) (let e = c.site-in-Some-right.ensures in let f = c.if-site-2.false in omega arith)

pub in_parts-last_to-requires : goal.in_parts-last_to-requires
in_parts-last_to-requires t c = parts-sorted _ c.requires

pub in_parts-in_part-requires : goal.in_parts-in_part-requires
in_parts-in_part-requires t c = (search (rules, the_lemmas), parts-rise c.args.site c.args.parts.now c.in-Some.index c.index-parts-index.result c.requires c.in-Some.ensures c.index-parts-index.is)

pub in_parts-returns-in-Some : goal.in_parts-returns-in-Some
in_parts-returns-in-Some t c = c.in_part.ensures ∙ parts-chosen c.args.site c.args.parts.now c.in-Some.index c.index-parts-index.result c.requires c.in-Some.ensures c.index-parts-index.is

pub in_parts-returns-in-None : goal.in_parts-returns-in-None
in_parts-returns-in-None t c = parts-none c.args.site c.args.parts.now c.requires c.in-None.ensures

pub in_query-last_to-requires : goal.in_query-last_to-requires
in_query-last_to-requires t c = steps-sorted _ (query-rise c.args.query.now c.deref.result.now c.deref.ensures.value c.requires)

pub in_query-in_form-requires : goal.in_query-in_form-requires
in_query-in_form-requires t c = (search (rules, the_lemmas), step-rise c.index-found.result.now (steps-rise c.args.site c.deref.result.now c.in-Some.index c.index-found.result.now (query-rise c.args.query.now c.deref.result.now c.deref.ensures.value c.requires) c.in-Some.ensures (c.index-found.ensures ∙ ap (λ (xs : List Step). get_or xs c.in-Some.index c.index-found.result.now) (sym c.deref.ensures.value))))

pub in_query-returns-then-found-site : goal.in_query-returns-then-found-site
in_query-returns-then-found-site t c = sym (step-here c.args.site c.in-Some.index (see_query c.args.query.now) c.index-found.result.now c.if-found-site.true) ∙ steps-chosen (see_query c.args.query.now) c.args.site c.deref.result.now c.in-Some.index c.index-found.result.now (query-rise c.args.query.now c.deref.result.now c.deref.ensures.value c.requires) c.in-Some.ensures (c.index-found.ensures ∙ ap (λ (xs : List Step). get_or xs c.in-Some.index c.index-found.result.now) (sym c.deref.ensures.value)) ∙ query-inner c.args.site c.args.query.now c.deref.result.now c.deref.ensures.value c.if-query-site.false

pub in_query-returns-else-found-site : goal.in_query-returns-else-found-site
in_query-returns-else-found-site t c = c.in_form.ensures ∙ step-inner c.args.site c.in-Some.index (see_query c.args.query.now) c.index-found.result.now c.if-found-site.false ∙ steps-chosen (see_query c.args.query.now) c.args.site c.deref.result.now c.in-Some.index c.index-found.result.now (query-rise c.args.query.now c.deref.result.now c.deref.ensures.value c.requires) c.in-Some.ensures (c.index-found.ensures ∙ ap (λ (xs : List Step). get_or xs c.in-Some.index c.index-found.result.now) (sym c.deref.ensures.value)) ∙ query-inner c.args.site c.args.query.now c.deref.result.now c.deref.ensures.value c.if-query-site.false

pub in_query-returns-in-None : goal.in_query-returns-in-None
in_query-returns-in-None t c = steps-none (see_query c.args.query.now) c.args.site c.deref.result.now (query-rise c.args.query.now c.deref.result.now c.deref.ensures.value c.requires) c.in-None.ensures ∙ query-inner c.args.site c.args.query.now c.deref.result.now c.deref.ensures.value c.if-query-site.false

-- what stands in a form, by the syntax that it is seen as
by_form : (n : ℕ) (f g : StepForm) (fn : Form) → f ≡ g → see_form g ≡ fn → piece_in (pieces_form fn) n ≡ piece_in (pieces_form (see_form f)) n
by_form n f g fn is seen = ap (λ (s : Form). piece_in (pieces_form s) n) (sym (ap see_form is ∙ seen))

pub in_form-returns-in-Filter : goal.in_form-returns-in-Filter
in_form-returns-in-Filter t c = c.in_conds.ensures ∙ by_form c.args.site c.args.form.now (form.Filter c.in-Filter.field-0 c.in-Filter.conds) (λ n. sx.filter n c.in-Filter.field-0 (see_conds c.in-Filter.conds)) c.in-Filter.is (search (rules, the_lemmas))

pub in_form-returns-in-Keys : goal.in_form-returns-in-Keys
in_form-returns-in-Keys t c =
    c.in_expr.ensures ∙ by_form c.args.site c.args.form.now (form.Keys c.in-Keys.capture c.in-Keys.op c.in-Keys.not c.in-Keys.right) (λ n. sx.keys n c.in-Keys.capture c.in-Keys.op c.in-Keys.not (see_expr c.in-Keys.right)) c.in-Keys.is (search (rules, the_lemmas))

pub in_form-returns-in-This : goal.in_form-returns-in-This
in_form-returns-in-This t c = by_form c.args.site c.args.form.now form.This (λ n. sx.this n) c.in-This.is (search (rules, the_lemmas))

pub in_form-returns-in-Var : goal.in_form-returns-in-Var
in_form-returns-in-Var t c = by_form c.args.site c.args.form.now (form.Var c.in-Var.field-0) (λ n. sx.var n c.in-Var.field-0) c.in-Var.is (search (rules, the_lemmas))

pub in_form-returns-in-Key : goal.in_form-returns-in-Key
in_form-returns-in-Key t c = by_form c.args.site c.args.form.now (form.Key c.in-Key.field-0) (λ n. sx.key n c.in-Key.field-0) c.in-Key.is (search (rules, the_lemmas))

pub in_form-returns-in-Index : goal.in_form-returns-in-Index
in_form-returns-in-Index t c = by_form c.args.site c.args.form.now (form.Index c.in-Index.field-0) (λ n. sx.index n c.in-Index.field-0) c.in-Index.is (search (rules, the_lemmas))

pub in_form-returns-in-Every : goal.in_form-returns-in-Every
in_form-returns-in-Every t c = by_form c.args.site c.args.form.now form.Every (λ n. sx.every n) c.in-Every.is (search (rules, the_lemmas))

pub in_form-returns-in-Items : goal.in_form-returns-in-Items
in_form-returns-in-Items t c = by_form c.args.site c.args.form.now form.Items (λ n. sx.items n) c.in-Items.is (search (rules, the_lemmas))

pub in_form-returns-in-Splice : goal.in_form-returns-in-Splice
in_form-returns-in-Splice t c = by_form c.args.site c.args.form.now (form.Splice c.in-Splice.field-0) (λ n. sx.splice n c.in-Splice.field-0) c.in-Splice.is (search (rules, the_lemmas))

-- what stands in an expression, at its own site and behind it
expr_here : (n : ℕ) (x : Expr) (e : sx.Expr) (m : ℕ) (ps : List Sited) → see_expr x ≡ e → pieces_expr e ≡ (m, OfExpr e) ∷ ps → m ≡ n → Some (OfExpr (see_expr x)) ≡ piece_in (pieces_expr (see_expr x)) n
expr_here n x e m ps seen are is =
    ap (λ (y : sx.Expr). Some (OfExpr y)) seen ∙ sym (ap (λ (l : List Sited). piece_in l n) are ∙ here n m (OfExpr e) ps is) ∙ ap (λ (y : sx.Expr). piece_in (pieces_expr y) n) (sym seen)

expr_inner : (n : ℕ) (x : Expr) (e : sx.Expr) (m : ℕ) (ps : List Sited) → see_expr x ≡ e → pieces_expr e ≡ (m, OfExpr e) ∷ ps → (m ≡ n → ⊥) → piece_in ps n ≡ piece_in (pieces_expr (see_expr x)) n
expr_inner n x e m ps seen are other = sym (ap (λ (l : List Sited). piece_in l n) are ∙ elsewhere n m (OfExpr e) ps other) ∙ ap (λ (y : sx.Expr). piece_in (pieces_expr y) n) (sym seen)

pub in_expr-returns-then-own-site : goal.in_expr-returns-then-own-site
in_expr-returns-then-own-site t c =
    expr_here c.args.site c.args.expr.now (sx.literal c.in-Literal.own c.in-Literal.tree) c.in-Literal.own [] (ap see_expr c.in-Literal.is ∙ search (rules, the_lemmas)) refl c.if-own-site.true

pub in_expr-returns-else-own-site : goal.in_expr-returns-else-own-site
in_expr-returns-else-own-site t c =
    expr_inner c.args.site c.args.expr.now (sx.literal c.in-Literal.own c.in-Literal.tree) c.in-Literal.own [] (ap see_expr c.in-Literal.is ∙ search (rules, the_lemmas)) refl c.if-own-site.false

pub in_expr-returns-then-own-site-2 : goal.in_expr-returns-then-own-site-2
in_expr-returns-then-own-site-2 t c =
    expr_here c.args.site c.args.expr.now _ c.in-Function.own _ (ap see_expr c.in-Function.is ∙ function-seen c.in-Function.own c.in-Function.name c.in-Function.args) refl c.if-own-site-2.true

pub in_expr-returns-else-own-site-2 : goal.in_expr-returns-else-own-site-2
in_expr-returns-else-own-site-2 t c =
    c.in_exprs.ensures ∙ ap (λ (l : List Expr). piece_in (pieces_exprs (expr_list (map see_expr l))) c.args.site) c.deref.ensures.value
    ∙ expr_inner c.args.site c.args.expr.now _ c.in-Function.own (pieces_exprs (expr_list (map see_expr c.in-Function.args.items))) (ap see_expr c.in-Function.is ∙ function-seen c.in-Function.own c.in-Function.name c.in-Function.args) refl c.if-own-site-2.false
