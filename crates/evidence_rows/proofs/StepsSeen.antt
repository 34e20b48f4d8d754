-- Steps by their forms.
use Rattle.std.proofs.Common.{◌≡◌, ℕ, Bool, List, Option, false, refl, ap, sym, subst, ◌∙◌}
use Rattle.guard_syntax.specs.Syntax as sx
use Rattle.guard_syntax.specs.code.Seen.{Form, body_step, conds_step, disj_step, expr_step, form_step, let_step, part_step, query_step, see_conds, see_expr, see_form, see_step, step_step}
use Rattle.guard_syntax.specs.Named.{Named}
use Rattle.guard_syntax.specs.declared.syntax.Conds.{Conds, out-Conds}
use Rattle.guard_syntax.specs.declared.syntax.Expr.{Expr}
use Rattle.guard_syntax.specs.declared.syntax.Expr.TheOpen.{StepForm-F}
use Rattle.guard_syntax.specs.declared.syntax.Op.{Op}
use Rattle.guard_syntax.specs.declared.syntax.Step.{Step}
use Rattle.guard_syntax.specs.declared.syntax.StepForm.{StepForm, fold-roll-StepForm}
use Rattle.guard_syntax.specs.declared.syntax.StepForm.TheVariants.{rolls-Every, rolls-Filter, rolls-Index, rolls-Items, rolls-Key, rolls-Keys, rolls-Splice, rolls-This, rolls-Var}
use Rattle.guard_syntax.specs.declared.syntax.StepForm as form
use Rattle.evidence_rules.specs.Follows.{conds_site}
use Rattle.rule_meaning.specs.Places.{is_filter}
use Rattle.rule_names.proofs.Shapes.{conds-seen, step-seen}

-- ---- forms, each by its layer, in which its parts are syntax

this-form : see_form form.This ≡ (λ n. sx.this n)
this-form =
    ap see_form (sym rolls-This)
    ∙ fold-roll-StepForm sx.Expr sx.Part Form sx.Body sx.Conds sx.Disj sx.Let sx.Query sx.Step expr_step part_step form_step body_step conds_step disj_step let_step query_step step_step StepForm-F.This

var-form : (name : List ℕ) → see_form (form.Var name) ≡ (λ n. sx.var n name)
var-form name =
    ap see_form (sym (rolls-Var name))
    ∙ fold-roll-StepForm sx.Expr sx.Part Form sx.Body sx.Conds sx.Disj sx.Let sx.Query sx.Step expr_step part_step form_step body_step conds_step disj_step let_step query_step step_step (StepForm-F.Var name)

key-form : (name : List ℕ) → see_form (form.Key name) ≡ (λ n. sx.key n name)
key-form name =
    ap see_form (sym (rolls-Key name))
    ∙ fold-roll-StepForm sx.Expr sx.Part Form sx.Body sx.Conds sx.Disj sx.Let sx.Query sx.Step expr_step part_step form_step body_step conds_step disj_step let_step query_step step_step (StepForm-F.Key name)

index-form : (i : ℕ) → see_form (form.Index i) ≡ (λ n. sx.index n i)
index-form i =
    ap see_form (sym (rolls-Index i))
    ∙ fold-roll-StepForm sx.Expr sx.Part Form sx.Body sx.Conds sx.Disj sx.Let sx.Query sx.Step expr_step part_step form_step body_step conds_step disj_step let_step query_step step_step (StepForm-F.Index i)

every-form : see_form form.Every ≡ (λ n. sx.every n)
every-form =
    ap see_form (sym rolls-Every)
    ∙ fold-roll-StepForm sx.Expr sx.Part Form sx.Body sx.Conds sx.Disj sx.Let sx.Query sx.Step expr_step part_step form_step body_step conds_step disj_step let_step query_step step_step StepForm-F.Every

items-form : see_form form.Items ≡ (λ n. sx.items n)
items-form =
    ap see_form (sym rolls-Items)
    ∙ fold-roll-StepForm sx.Expr sx.Part Form sx.Body sx.Conds sx.Disj sx.Let sx.Query sx.Step expr_step part_step form_step body_step conds_step disj_step let_step query_step step_step StepForm-F.Items

splice-form : (name : Named) → see_form (form.Splice name) ≡ (λ n. sx.splice n name)
splice-form name =
    ap see_form (sym (rolls-Splice name))
    ∙ fold-roll-StepForm sx.Expr sx.Part Form sx.Body sx.Conds sx.Disj sx.Let sx.Query sx.Step expr_step part_step form_step body_step conds_step disj_step let_step query_step step_step (StepForm-F.Splice name)

filter-form : (capture : Option Named) (conditions : Conds) → see_form (form.Filter capture conditions) ≡ (λ n. sx.filter n capture (see_conds conditions))
filter-form capture conditions =
    ap see_form (sym (rolls-Filter capture conditions))
    ∙ fold-roll-StepForm sx.Expr sx.Part Form sx.Body sx.Conds sx.Disj sx.Let sx.Query sx.Step expr_step part_step form_step body_step conds_step disj_step let_step query_step step_step (StepForm-F.Filter capture conditions)

keys-form : (capture : Option Named) (op : Op) (negated : Bool) (right : Expr) → see_form (form.Keys capture op negated right) ≡ (λ n. sx.keys n capture op negated (see_expr right))
keys-form capture op negated right =
    ap see_form (sym (rolls-Keys capture op negated right))
    ∙ fold-roll-StepForm sx.Expr sx.Part Form sx.Body sx.Conds sx.Disj sx.Let sx.Query sx.Step expr_step part_step form_step body_step conds_step disj_step let_step query_step step_step (StepForm-F.Keys capture op negated right)

-- ---- steps, by their forms

by-form : (s : Step) (f : StepForm) (t : ℕ → sx.Step) → s.form ≡ f → see_form f ≡ t → see_step s ≡ t s.site
by-form s f t is seen = step-seen s ∙ ap (λ (g : StepForm). see_form g s.site) is ∙ ap (λ (g : Form). g s.site) seen

pub var-seen : (s : Step) (name : List ℕ) → s.form ≡ form.Var name → see_step s ≡ sx.var s.site name
var-seen s name is = by-form s (form.Var name) (λ n. sx.var n name) is (var-form name)

pub splice-seen : (s : Step) (name : Named) → s.form ≡ form.Splice name → see_step s ≡ sx.splice s.site name
splice-seen s name is = by-form s (form.Splice name) (λ n. sx.splice n name) is (splice-form name)

pub filter-seen : (s : Step) (capture : Option Named) (conditions : Conds) → s.form ≡ form.Filter capture conditions → see_step s ≡ sx.filter s.site capture (see_conds conditions)
filter-seen s capture conditions is = by-form s (form.Filter capture conditions) (λ n. sx.filter n capture (see_conds conditions)) is (filter-form capture conditions)

pub keys-seen : (s : Step) (capture : Option Named) (op : Op) (negated : Bool) (right : Expr) → s.form ≡ form.Keys capture op negated right → see_step s ≡ sx.keys s.site capture op negated (see_expr right)
keys-seen s capture op negated right is = by-form s (form.Keys capture op negated right) (λ n. sx.keys n capture op negated (see_expr right)) is (keys-form capture op negated right)

-- ---- those that are not

-- neither a filter nor a key filter
abbrev pub IsOther : sx.Step → Type 0
IsOther (sx.filter n capture conditions) = ⊥
IsOther (sx.keys n capture op negated right) = ⊥
IsOther _ = Unit {0}

-- nothing further is named
abbrev pub NamesNothing : sx.Step → Type 0
NamesNothing (sx.var n name) = ⊥
NamesNothing (sx.splice n name) = ⊥
NamesNothing (sx.filter n capture conditions) = ⊥
NamesNothing (sx.keys n capture op negated right) = ⊥
NamesNothing _ = Unit {0}

pub not-filter : (t : sx.Step) → IsOther t → is_filter t ≡ false
not-filter (sx.filter n capture conditions) other = absurd other
not-filter _ other = refl

module _ (P : sx.Step → Type 0) (n : ℕ) (this : P (sx.this n)) (key : (name : List ℕ) → P (sx.key n name)) (index : (i : ℕ) → P (sx.index n i)) (every : P (sx.every n)) (items : P (sx.items n)) where
  simple : (f : StepForm) → ((name : List ℕ) → f ≡ form.Var name → P (see_form f n)) → ((name : Named) → f ≡ form.Splice name → P (see_form f n))
      → ((capture : Option Named) (conditions : Conds) → f ≡ form.Filter capture conditions → ⊥)
      → ((capture : Option Named) (op : Op) (negated : Bool) (right : Expr) → f ≡ form.Keys capture op negated right → ⊥) → P (see_form f n)
  simple form.This var splice no_filter no_keys = subst (λ (g : Form). P (g n)) (sym this-form) this
  simple (form.Var name) var splice no_filter no_keys = var name refl
  simple (form.Key name) var splice no_filter no_keys = subst (λ (g : Form). P (g n)) (sym (key-form name)) (key name)
  simple (form.Index i) var splice no_filter no_keys = subst (λ (g : Form). P (g n)) (sym (index-form i)) (index i)
  simple form.Every var splice no_filter no_keys = subst (λ (g : Form). P (g n)) (sym every-form) every
  simple form.Items var splice no_filter no_keys = subst (λ (g : Form). P (g n)) (sym items-form) items
  simple (form.Splice name) var splice no_filter no_keys = splice name refl
  simple (form.Filter capture conditions) var splice no_filter no_keys = absurd (no_filter capture conditions refl)
  simple (form.Keys capture op negated right) var splice no_filter no_keys = absurd (no_keys capture op negated right refl)

pub other-seen : (s : Step) → ((capture : Option Named) (conditions : Conds) → s.form ≡ form.Filter capture conditions → ⊥)
    → ((capture : Option Named) (op : Op) (negated : Bool) (right : Expr) → s.form ≡ form.Keys capture op negated right → ⊥) → IsOther (see_step s)
other-seen s no_filter no_keys = subst IsOther (sym (step-seen s)) (simple IsOther s.site tt (λ name. tt) (λ i. tt) tt tt s.form var splice no_filter no_keys)
  where
    var : (name : List ℕ) → s.form ≡ form.Var name → IsOther (see_form s.form s.site)
    var name is = subst IsOther (sym (var-seen s name is) ∙ step-seen s) tt

    splice : (name : Named) → s.form ≡ form.Splice name → IsOther (see_form s.form s.site)
    splice name is = subst IsOther (sym (splice-seen s name is) ∙ step-seen s) tt

pub nothing-seen : (s : Step) → ((name : List ℕ) → s.form ≡ form.Var name → ⊥) → ((name : Named) → s.form ≡ form.Splice name → ⊥)
    → ((capture : Option Named) (conditions : Conds) → s.form ≡ form.Filter capture conditions → ⊥)
    → ((capture : Option Named) (op : Op) (negated : Bool) (right : Expr) → s.form ≡ form.Keys capture op negated right → ⊥) → NamesNothing (see_step s)
nothing-seen s no_var no_splice no_filter no_keys =
    subst NamesNothing (sym (step-seen s))
    (simple NamesNothing s.site tt (λ name. tt) (λ i. tt) tt tt s.form (λ name is. absurd (no_var name is)) (λ name is. absurd (no_splice name is)) no_filter no_keys)

-- ---- conditions

pub conds-site : (c : Conds) → conds_site (see_conds c) ≡ (out-Conds c).site
conds-site c = ap conds_site (conds-seen c)
