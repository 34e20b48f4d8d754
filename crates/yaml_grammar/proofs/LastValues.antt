-- The last value so far: what it is behind each part that is read, and that no tag without its node ends there.
use Rattle.std.proofs.Common.{◌≡◌, ℕ, ◌<◌, Bool, true, false, List, [], ◌∷◌, Option, Some, None, refl, sym, ap, ◌∙◌, subst, true≢false, arith}
use Rattle.doc_values.specs.declared.kind.Kind.{Kind}
use Rattle.doc_values.specs.Tree.{Label, Forest, Nil, Node, snoc}
use Rattle.doc_values.specs.Unfinished.{Level, Unfinished, with_value, with_end}
use Rattle.yaml_grammar.specs.declared.ahead.Token.TheVariants.{Tag}
use Rattle.yaml_grammar.specs.declared.form.Form.{Form}
use Rattle.yaml_grammar.specs.declared.form.Form.TheVariants.{Root, Flow, FlowTagged, Items, Entries, Tagged}
use Rattle.yaml_grammar.specs.Ahead.{ahead}
use Rattle.yaml_grammar.specs.Nodes.{is_tagged}
use Rattle.yaml_grammar.specs.Blocks.{or_else, last_place, ends_name}
use Rattle.yaml_grammar.specs.code.Rest.{top}
use Rattle.yaml_grammar.specs.code.Steps.{IsBlock, IsFlow, IsSpelled, last_open, IsCalm, Lasts, with_scalar, is_ending}

some_first : (o z : Option ℕ) (p : ℕ) → or_else (or_else o (Some p)) z ≡ or_else o (Some p)
some_first None z p = refl
some_first (Some q) z p = refl

last_snoc : (f : Forest) (l : Label) (kids : Forest) → last_place (snoc f l kids) ≡ or_else (last_place kids) (Some l.at)
last_snoc Nil l kids = refl
last_snoc (Node m ks rest) l kids = ap (λ o. or_else o (or_else (last_place ks) (Some m.at))) (last_snoc rest l kids) ∙ some_first (last_place kids) (or_else (last_place ks) (Some m.at)) l.at

-- a complete value is the last
pub last_done : (outer : List Level) (done : Forest) (p : ℕ) → last_place done ≡ Some p → last_open outer done ≡ Some p
last_done [] done p h = h
last_done (x ∷ xs) done p h = ap (λ o. or_else o (Some x.label.at)) h

-- where a collection ends it stays the last
popped : (x : Level) (xs : List Level) (done : Forest) → last_open xs (snoc x.before x.label done) ≡ last_open (x ∷ xs) done
popped x [] done = last_snoc x.before x.label done
popped x (y ∷ ys) done = ap (λ o. or_else o (Some y.label.at)) (last_snoc x.before x.label done) ∙ some_first (last_place done) (Some y.label.at) x.label.at

pub ended_lasts : (u : Unfinished) → Lasts u (with_end u)
ended_lasts u = by_outer u.outer u.done u.key where
  by_outer : (outer : List Level) (done : Forest) (key : Option (List ℕ)) → Lasts (record { outer = outer; done = done; key = key }) (with_end (record { outer = outer; done = done; key = key }))
  by_outer [] done key = (refl, (λ i h. h))
  by_outer (x ∷ xs) done key = (popped x xs done, (λ i h. last_snoc x.before x.label done ∙ ap (λ o. or_else o (Some x.label.at)) h))

pub same_lasts : (u : Unfinished) → Lasts u u
same_lasts u = (refl, (λ i h. h))

pub then_lasts : (u w x : Unfinished) → Lasts u w → Lasts w x → Lasts u x
then_lasts u w x a b = (b.0 ∙ a.0, (λ i h. b.1 i (a.1 i h)))

-- a value behind the others
pub value_last : (k : Kind) (t : List ℕ) (at : ℕ) (u : Unfinished) → last_place (with_value k t at u).done ≡ Some at
value_last k t at u = last_snoc u.done (record { kind = k; text = t; key = u.key; at = at }) Nil

scalar_last : (c : Bool) (k : Kind) (t : List ℕ) (at : ℕ) (u : Unfinished) → last_open (with_scalar c k t at u).outer (with_scalar c k t at u).done ≡ Some at
scalar_last false k t at u = last_done u.outer (with_scalar false k t at u).done at (last_snoc u.done _ Nil)
scalar_last true k t at u = last_done u.outer (with_scalar true k t at u).done at (last_snoc u.done _ _)

-- ---- no tag without its node ends there

pub scalar_calm : (text : List ℕ) (c : Bool) (k : Kind) (t : List ℕ) (at j : ℕ) (u : Unfinished) → at < j → IsCalm text (with_scalar c k t at u) j
scalar_calm text c k t at j u l len tag (h, n) =
    let here : Some at ≡ Some j = sym (scalar_last c k t at u) ∙ h in
    let same : at ≡ j = cc in
    absurd (omega (arith, l, same))

pub unnamed_calm : (text : List ℕ) (u : Unfinished) (i : ℕ) → ends_name text i ≡ false → IsCalm text u i
unnamed_calm text u i e len tag (h, n) = true≢false (sym n ∙ e)

pub flow_calm : (text : List ℕ) (fs : List Form) (f : Form) (u : Unfinished) (i : ℕ) → top fs ≡ f → IsFlow f → IsBlock (top fs) → IsCalm text u i
flow_calm text fs f u i e w b = absurd (no_block f w (subst IsBlock e b)) where
  no_block : (f : Form) → IsFlow f → IsBlock f → ⊥
  no_block Root w b = w
  no_block (Flow m) w b = b
  no_block (FlowTagged m) w b = b
  no_block (Items m) w b = w
  no_block (Entries m) w b = w
  no_block (Tagged at ab sh) w b = w

pub missing_calm : (text : List ℕ) (f : Form) (u : Unfinished) (i : ℕ) → IsBlock f → (f ≡ Root → ⊥) → IsSpelled text f i → (is_tagged f ≡ true → (len : ℕ) → (ahead text false i).token ≡ Tag len → ⊥) → IsCalm text u i
missing_calm text Root u i b r s n = absurd (r refl)
missing_calm text (Flow m) u i b r s n = absurd b
missing_calm text (FlowTagged m) u i b r s n = absurd b
missing_calm text (Items m) u i b r s n = unnamed_calm text u i s
missing_calm text (Entries m) u i b r s n = unnamed_calm text u i s
missing_calm text (Tagged at ab sh) u i b r s n = λ len tag bare. n refl len tag

pub ending_calm : (text : List ℕ) (u : Unfinished) (i : ℕ) → is_ending (ahead text false i).token ≡ true → IsCalm text u i
ending_calm text u i e len tag bare = true≢false (sym e ∙ ap is_ending tag)

-- nor where blocks ended
pub lasts_calm : (text : List ℕ) (u w : Unfinished) (i : ℕ) → Lasts u w → IsCalm text u i → IsCalm text w i
lasts_calm text u w i l c len tag (h, n) = c len tag (sym l.0 ∙ h, n)
