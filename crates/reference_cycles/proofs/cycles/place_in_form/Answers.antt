use Rattle.std.proofs.Common.{◌≡◌, ℕ, Some, refl, sym, ap, ◌∙◌, rules}
use Rattle.guard_syntax.specs.code.Seen.{Form, see_conds, see_expr, see_form}
use Rattle.guard_syntax.specs.Syntax as sx
use Rattle.guard_syntax.specs.declared.syntax.StepForm.{StepForm}
use Rattle.guard_syntax.specs.declared.syntax.StepForm as form
use Rattle.guard_syntax.specs.declared.syntax.Body.{the_lemmas}
use Rattle.rule_names.specs.Cycles.{place_in_step}
use Rattle.reference_cycles.proofs.cycles.place_in_form.Goals as goal

-- the place in a form, by the syntax that it is seen as
by_form : (f g : StepForm) (fn : Form) (at place n : ℕ) → f ≡ g → see_form g ≡ fn → at ≡ place_in_step place (Some (fn n)) → at ≡ place_in_step place (Some (see_form f n))
by_form f g fn at place n is seen so = so ∙ ap (λ (s : Form). place_in_step place (Some (s n))) (sym (ap see_form is ∙ seen))

pub returns-in-Splice : goal.returns-in-Splice
returns-in-Splice c = λ n. by_form c.args.form.now (form.Splice c.in-Splice.name) (λ k. sx.splice k c.in-Splice.name) c.at.result c.args.place n c.in-Splice.is (search (rules, the_lemmas)) c.at.ensures

pub returns-in-This : goal.returns-in-This
returns-in-This c = λ n. by_form c.args.form.now form.This (λ k. sx.this k) c.args.place c.args.place n c.in-This.is (search (rules, the_lemmas)) refl

pub returns-in-Var : goal.returns-in-Var
returns-in-Var c = λ n. by_form c.args.form.now (form.Var c.in-Var.field-0) (λ k. sx.var k c.in-Var.field-0) c.args.place c.args.place n c.in-Var.is (search (rules, the_lemmas)) refl

pub returns-in-Key : goal.returns-in-Key
returns-in-Key c = λ n. by_form c.args.form.now (form.Key c.in-Key.field-0) (λ k. sx.key k c.in-Key.field-0) c.args.place c.args.place n c.in-Key.is (search (rules, the_lemmas)) refl

pub returns-in-Index : goal.returns-in-Index
returns-in-Index c = λ n. by_form c.args.form.now (form.Index c.in-Index.field-0) (λ k. sx.index k c.in-Index.field-0) c.args.place c.args.place n c.in-Index.is (search (rules, the_lemmas)) refl

pub returns-in-Every : goal.returns-in-Every
returns-in-Every c = λ n. by_form c.args.form.now form.Every (λ k. sx.every k) c.args.place c.args.place n c.in-Every.is (search (rules, the_lemmas)) refl

pub returns-in-Items : goal.returns-in-Items
returns-in-Items c = λ n. by_form c.args.form.now form.Items (λ k. sx.items k) c.args.place c.args.place n c.in-Items.is (search (rules, the_lemmas)) refl

pub returns-in-Filter : goal.returns-in-Filter
returns-in-Filter c = λ n. by_form c.args.form.now (form.Filter c.in-Filter.field-0 c.in-Filter.field-1) (λ k. sx.filter k c.in-Filter.field-0 (see_conds c.in-Filter.field-1)) c.args.place c.args.place n c.in-Filter.is (search (rules, the_lemmas)) refl

pub returns-in-Keys : goal.returns-in-Keys
returns-in-Keys c = λ n. by_form c.args.form.now (form.Keys c.in-Keys.capture c.in-Keys.op c.in-Keys.not c.in-Keys.right) (λ k. sx.keys k c.in-Keys.capture c.in-Keys.op c.in-Keys.not (see_expr c.in-Keys.right)) c.args.place c.args.place n c.in-Keys.is (search (rules, the_lemmas)) refl
