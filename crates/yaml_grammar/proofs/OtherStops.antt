-- What is so of the place where reading stops and no sign counts, where it stops for another reason. By the cases of what stops it.
use Rattle.std.proofs.Common.{◌≡◌, ℕ, inl, inr, Bool, List, refl, sym, subst}
use Rattle.std.specs.Prelude.{Result, Ok, Err, Option, Some, option_map}
use Rattle.doc_values.specs.declared.builder.BuildRefusal.{BuildRefusal}
use Rattle.doc_values.specs.declared.builder.BuildRefusal.TheVariants as build
use Rattle.doc_values.specs.Unfinished.{Unfinished}
use Rattle.yaml_grammar.specs.declared.ahead.Ahead.{Ahead}
use Rattle.yaml_grammar.specs.declared.form.Form.{Form}
use Rattle.yaml_grammar.specs.declared.stage.Position.{Position}
use Rattle.yaml_grammar.specs.declared.stop.Stop.{Stop}
use Rattle.yaml_grammar.specs.declared.stop.Stop.TheVariants as stop
use Rattle.yaml_grammar.specs.Signs as sign
use Rattle.yaml_grammar.specs.Signs.{Sign, Reading}
use Rattle.yaml_grammar.specs.code.Refused.{of_build, of_sign}
use Rattle.yaml_grammar.specs.code.Steps.{Gives, Deep, Opened, TagBegun, Completes}
use Rattle.yaml_grammar.specs.code.Twins.{OnUnread}
use Rattle.yaml_grammar.proofs.Gains.{told}

module _ (holds : ℕ → Type 0) where
  sign_on : (s : Sign) → OnUnread holds (Err (of_sign s))
  sign_on (sign.Tab at) = tt
  sign_on (sign.Anchor at) = tt
  sign_on (sign.Tag at) = tt
  sign_on (sign.Directive at) = tt
  sign_on (sign.ManyDocuments at) = tt
  sign_on (sign.DuplicateKey at) = tt
  sign_on (sign.TooDeep at) = tt

  pub signed_on : (o : Option Sign) (e : Stop) → Some e ≡ option_map of_sign o → OnUnread holds (Err e)
  signed_on o e h = let t = told o e h in subst (λ z. OnUnread holds (Err z)) t.2 (sign_on t.0)

  build_on : (r : BuildRefusal) → OnUnread holds (Err (of_build r))
  build_on build.NoMemory = tt
  build_on (build.TooDeep at) = tt
  build_on (build.DuplicateKey at) = tt

  pub built_on : (r : BuildRefusal) (e : Stop) → e ≡ of_build r → OnUnread holds (Err e)
  built_on r e h = subst (λ z. OnUnread holds (Err z)) (sym h) (build_on r)

  pub memory_on : (e : Stop) → e ≡ stop.NoMemory → OnUnread holds (Err e)
  memory_on e h = subst (λ z. OnUnread holds (Err z)) (sym h) tt

  pub deep_on : (u : Unfinished) (at : ℕ) (e : Stop) → Deep u at e → OnUnread holds (Err e)
  deep_on u at e (inl h) = memory_on e h
  deep_on u at e (inr (h, d)) = subst (λ z. OnUnread holds (Err z)) (sym h) tt

  pub opened_on : (map : Bool) (a : Ahead) (fs gs : List Form) (u w : Unfinished) (r : Result Position Stop) → Opened map a fs u gs w r → OnUnread holds r
  opened_on map a fs gs u w (Ok p) h = tt
  opened_on map a fs gs u w (Err e) h = deep_on u a.at e h

  pub tag_on : (text : List ℕ) (f : Form) (a : Ahead) (fs gs : List Form) (u w : Unfinished) (r : Result Position Stop) → TagBegun text f a fs u gs w r → OnUnread holds r
  tag_on text f a fs gs u w (Ok p) h = tt
  tag_on text f a fs gs u w (Err e) h = deep_on u a.at e h

  pub completed_on : (at : ℕ) (u w : Unfinished) (r : Result Position Stop) → Completes at u w r → OnUnread holds r
  completed_on at u w (Ok p) h = tt
  completed_on at u w (Err e) h = memory_on e h

  -- where something may follow, it stops for want of memory or at a sign
  pub living_on : (text : List ℕ) (P : Reading → Type 0) (n : ℕ) (fs : List Form) (w : Unfinished) (r : Result Position Stop) → (v : Reading) → P v → Gives text P n fs w r → OnUnread holds r
  living_on text P n fs w (Ok p) v h g = tt
  living_on text P n fs w (Err (stop.Unread q)) v h g = absurd (g v h)
  living_on text P n fs w (Err (stop.Tab at)) v h g = tt
  living_on text P n fs w (Err (stop.Anchor at)) v h g = tt
  living_on text P n fs w (Err (stop.Tag at)) v h g = tt
  living_on text P n fs w (Err (stop.Directive at)) v h g = tt
  living_on text P n fs w (Err (stop.ManyDocuments at)) v h g = tt
  living_on text P n fs w (Err (stop.DuplicateKey at)) v h g = tt
  living_on text P n fs w (Err (stop.TooDeep at)) v h g = tt
  living_on text P n fs w (Err stop.NoMemory) v h g = tt

  -- by the place that is said
  pub unread_on : (r : Result Position Stop) → ((q : ℕ) → r ≡ Err (stop.Unread q) → holds q) → OnUnread holds r
  unread_on (Ok p) f = tt
  unread_on (Err (stop.Unread q)) f = f q refl
  unread_on (Err (stop.Tab at)) f = tt
  unread_on (Err (stop.Anchor at)) f = tt
  unread_on (Err (stop.Tag at)) f = tt
  unread_on (Err (stop.Directive at)) f = tt
  unread_on (Err (stop.ManyDocuments at)) f = tt
  unread_on (Err (stop.DuplicateKey at)) f = tt
  unread_on (Err (stop.TooDeep at)) f = tt
  unread_on (Err stop.NoMemory) f = tt

pub on_from : (holds some : ℕ → Type 0) (r : Result Position Stop) → ((q : ℕ) → holds q → some q) → OnUnread holds r → OnUnread some r
on_from holds some (Ok p) f h = tt
on_from holds some (Err (stop.Unread q)) f h = f q h
on_from holds some (Err (stop.Tab at)) f h = tt
on_from holds some (Err (stop.Anchor at)) f h = tt
on_from holds some (Err (stop.Tag at)) f h = tt
on_from holds some (Err (stop.Directive at)) f h = tt
on_from holds some (Err (stop.ManyDocuments at)) f h = tt
on_from holds some (Err (stop.DuplicateKey at)) f h = tt
on_from holds some (Err (stop.TooDeep at)) f h = tt
on_from holds some (Err stop.NoMemory) f h = tt
