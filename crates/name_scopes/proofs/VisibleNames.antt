-- What gives a name where a scope stands in others.
use Rattle.std.proofs.Common.{◌≡◌, ℕ, rules, List, [], ◌∷◌, ◌++◌, Option, Some, None, refl, ap, sym, ◌∙◌}
use Rattle.std.specs.Prelude.{option_map}
use Rattle.std.specs.Option.{option_or}
use Rattle.std.specs.Borrow.{Bor}
use Rattle.std.specs.Str.{bytes_eq}
use Rattle.std.proofs.lemmas.List.Folds.{find-append}
use Rattle.name_scopes.specs.declared.scope_chain.ScopeChain.{ScopeChain, out-ScopeChain, the_lemmas}
use Rattle.rule_names.specs.declared.binder.Binder.{Binder}
use Rattle.rule_names.specs.Scopes.{Given, given_named}
use Rattle.name_scopes.specs.code.Seen.{see_given}
use Rattle.name_scopes.specs.code.Binders.{binder_named}
use Rattle.rule_names.specs.Resolution.{Meant, Scopes, here_or, meant_in, one_out}
use Rattle.name_scopes.specs.code.ScopeChains.{scopes_in, visible_in}

map_or : {X Y : Type 0} (f : X → Y) (x y : Option X) → option_map f (option_or x y) ≡ option_or (option_map f x) (option_map f y)
map_or f None y = refl
map_or f (Some x) y = refl

-- the names of a scope come before those of the scopes around it
binder_append : (own outer : List Given) (name : List ℕ) → binder_named (own ++ outer) name ≡ option_or (binder_named own name) (binder_named outer name)
binder_append own outer name =
    ap (λ (o : Option Given). option_map (λ (g : Given). g.by) o) (find-append (λ (g : Given). bytes_eq name g.name.text) own outer)
    ∙ map_or (λ (g : Given). g.by) _ _

abbrev around : Option (Bor ScopeChain) → List Given
around None = []
around (Some outer) = visible_in outer.now

abbrev own : ScopeChain → List Given
own m = see_given (out-ScopeChain m).own.now.names.items

visible : (m : ScopeChain) → visible_in m ≡ own m ++ around (out-ScopeChain m).outer
visible m = search (rules, the_lemmas)

pub own-binder : (m : ScopeChain) (name : List ℕ) (binder : Binder) → Some binder ≡ binder_named (own m) name → Some binder ≡ binder_named (visible_in m) name
own-binder m name binder found =
    ap (λ (o : Option Binder). option_or o (binder_named (around (out-ScopeChain m).outer) name)) found
    ∙ sym (binder_append (own m) (around (out-ScopeChain m).outer) name) ∙ ap (λ (v : List Given). binder_named v name) (sym (visible m))

pub outer-binder : (m : ScopeChain) (outer : Bor ScopeChain) (name : List ℕ) → (out-ScopeChain m).outer ≡ Some outer → None ≡ binder_named (own m) name
    → binder_named (visible_in outer.now) name ≡ binder_named (visible_in m) name
outer-binder m outer name is none =
    ap (λ (o : Option Binder). option_or o (binder_named (visible_in outer.now) name)) none
    ∙ ap (λ (o : Option (Bor ScopeChain)). option_or (binder_named (own m) name) (binder_named (around o) name)) (sym is)
    ∙ sym (binder_append (own m) (around (out-ScopeChain m).outer) name) ∙ ap (λ (v : List Given). binder_named v name) (sym (visible m))

-- ---- how far out

abbrev scopes_behind : Option (Bor ScopeChain) → Scopes
scopes_behind None = []
scopes_behind (Some outer) = scopes_in outer.now

scopes : (m : ScopeChain) → scopes_in m ≡ own m ∷ scopes_behind (out-ScopeChain m).outer
scopes m = search (rules, the_lemmas)

not_here : (o : Option Given) (outer : Option Meant) → None ≡ option_map (λ (g : Given). g.by) o → outer ≡ None → None ≡ here_or o outer
not_here None outer none behind = ap (λ (m : Option Meant). option_map one_out m) (sym behind)
not_here (Some g) outer none behind = absurd cc

-- a name that neither a scope nor those around it have
pub nowhere : (m : ScopeChain) (outer : Bor ScopeChain) (name : List ℕ) → (out-ScopeChain m).outer ≡ Some outer → None ≡ binder_named (own m) name
    → meant_in (scopes_in outer.now) name ≡ None → None ≡ meant_in (scopes_in m) name
nowhere m outer name is none behind =
    not_here (given_named (own m) name) (meant_in (scopes_in outer.now) name) none behind
    ∙ ap (λ (o : Option (Bor ScopeChain)). meant_in (own m ∷ scopes_behind o) name) (sym is)
    ∙ ap (λ (s : Scopes). meant_in s name) (sym (scopes m))
