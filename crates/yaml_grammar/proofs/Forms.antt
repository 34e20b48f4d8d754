-- The innermost of the open collections: its form and its level.
use Rattle.std.proofs.Common.{◌≡◌, ℕ, ◌<◌, Bool, true, false, List, [], ◌∷◌, Option, Some, None, length, refl, sym, ◌∙◌, subst, arith}
use Rattle.doc_values.specs.Tree.{Forest, is_map}
use Rattle.doc_values.specs.Unfinished.{Level, Unfinished, in_map, open_kind, IsKeyThere, AwaitsValue, AwaitsKey, MayEnd, MayHold}
use Rattle.yaml_grammar.specs.declared.form.Form.{Form}
use Rattle.yaml_grammar.specs.declared.form.Form.TheVariants.{Root, Flow, FlowTagged, Items, Entries, Tagged}
use Rattle.yaml_grammar.specs.code.Rest.{top}
use Rattle.yaml_grammar.specs.Flow.{may_miss}
use Rattle.yaml_grammar.specs.code.Steps.{Agrees, IsBlock, IsFlow, has_keys}

pub map_kind : (m : Bool) → is_map (open_kind m) ≡ m
map_kind true = refl
map_kind false = refl

-- what holds of all levels under such a form holds where that is the innermost
pub inside : (P : List Form → List Level → Type 0) (f : Form) (fs : List Form) (outer : List Level) → top fs ≡ f → (f ≡ Root → ⊥) → Agrees fs outer
    → ((gs : List Form) (x : Level) (xs : List Level) → P (f ∷ gs) (x ∷ xs)) → P fs outer
inside P f [] outer e n a h = absurd (n (sym e))
inside P f (g ∷ gs) [] e n a h = absurd a
inside P f (g ∷ gs) (x ∷ xs) e n a h = subst (λ z. P (z ∷ gs) (x ∷ xs)) (sym e) (h gs x xs)

pub flow_inside : (P : List Form → List Level → Type 0) (mp : Bool) (fs : List Form) (outer : List Level) → top fs ≡ Flow mp → Agrees fs outer
    → ((gs : List Form) (x : Level) (xs : List Level) → P (Flow mp ∷ gs) (x ∷ xs)) → P fs outer
flow_inside P mp fs outer e a h = inside P (Flow mp) fs outer e (λ r. absurd (cc)) a h

-- a key awaits in a map, and none in a list
pub in_map_of : (f : Form) (fs : List Form) (outer : List Level) → top fs ≡ f → (f ≡ Root → ⊥) → Agrees fs outer → in_map outer ≡ has_keys f
in_map_of f fs outer e n a = inside (λ gs xs. Agrees gs xs → in_map xs ≡ has_keys f) f fs outer e n a (λ gs x xs b. b.0) a

pub open_any : (f : Form) (fs : List Form) (outer : List Level) → top fs ≡ f → (f ≡ Root → ⊥) → Agrees fs outer → 0 < length outer
open_any f fs outer e n a = inside (λ gs xs. 0 < length xs) f fs outer e n a (λ gs x xs. omega arith)

held : (done : Forest) (key : Option (List ℕ)) (f : Form) (fs : List Form) (outer : List Level) → top fs ≡ f → (f ≡ Root → ⊥) → Agrees fs outer → IsKeyThere (has_keys f) key → MayHold outer done key
held done key f fs outer e n a k = inside (λ gs xs. Agrees gs xs → MayHold xs done key) f fs outer e n a (λ gs x xs b. subst (λ q. IsKeyThere q key) (sym b.0) k) a

pub awaits_item : (f : Form) (fs : List Form) (u : Unfinished) → top fs ≡ f → (f ≡ Root → ⊥) → has_keys f ≡ false → Agrees fs u.outer → u.key ≡ None → AwaitsValue u
awaits_item f fs u e n m a k = held u.done u.key f fs u.outer e n a (subst (λ q. IsKeyThere q u.key) (sym m) k)

pub awaits_value : (f : Form) (fs : List Form) (outer : List Level) (done : Forest) (t : List ℕ) → top fs ≡ f → (f ≡ Root → ⊥) → has_keys f ≡ true → Agrees fs outer → MayHold outer done (Some t)
awaits_value f fs outer done t e n m a = held done (Some t) f fs outer e n a (subst (λ q. IsKeyThere q (Some t)) (sym m) (t, refl))

pub awaits_key : (f : Form) (fs : List Form) (u : Unfinished) → top fs ≡ f → (f ≡ Root → ⊥) → has_keys f ≡ true → Agrees fs u.outer → u.key ≡ None → AwaitsKey u
awaits_key f fs u e n m a k = (in_map_of f fs u.outer e n a ∙ m, k)

pub may_end : (f : Form) (fs : List Form) (u : Unfinished) → top fs ≡ f → (f ≡ Root → ⊥) → Agrees fs u.outer → u.key ≡ None → MayEnd u
may_end f fs u e n a k = (open_any f fs u.outer e n a, k)

-- the forms that are no list between flow brackets
pub apart_root : Root ≡ Flow false → ⊥
apart_root e = cc

pub apart_open : Root ≡ Flow true → ⊥
apart_open e = cc

pub apart_map : Flow true ≡ Flow false → ⊥
apart_map e = cc

pub apart_flow_tagged : (m : ℕ) → FlowTagged m ≡ Flow false → ⊥
apart_flow_tagged m e = cc

pub apart_items : (m : ℕ) → Items m ≡ Flow false → ⊥
apart_items m e = cc

pub apart_entries : (m : ℕ) → Entries m ≡ Flow false → ⊥
apart_entries m e = cc

pub apart_tagged : (at above : ℕ) (shares : Bool) → Tagged at above shares ≡ Flow false → ⊥
apart_tagged at above shares e = cc

-- what is no form of flow is one outside of it
pub block_of : (f : Form) → ((m : Bool) → f ≡ Flow m → ⊥) → ((at : ℕ) → f ≡ FlowTagged at → ⊥) → IsBlock f
block_of Root n t = tt
block_of (Flow m) n t = n m refl
block_of (FlowTagged at) n t = t at refl
block_of (Items m) n t = tt
block_of (Entries m) n t = tt
block_of (Tagged at above shares) n t = tt

-- in flow a node may be missing, but for one of a list
pub flow_misses : (f : Form) → IsFlow f → (f ≡ Flow false → ⊥) → may_miss f ≡ true
flow_misses Root w n = absurd w
flow_misses (Flow true) w n = refl
flow_misses (Flow false) w n = absurd (n refl)
flow_misses (FlowTagged at) w n = refl
flow_misses (Items m) w n = absurd w
flow_misses (Entries m) w n = absurd w
flow_misses (Tagged at above shares) w n = absurd w
