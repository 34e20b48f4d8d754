-- Each event keeps an unfinished tree well formed, by cases on the open collections.
use Rattle.std.proofs.Common.{◌≡◌, ℕ, ◌<◌, Bool, true, false, List, [], ◌∷◌, length, refl, sym, ◌∙◌, subst, arith, Option, None, Some}
use Rattle.std.proofs.lemmas.Bool.{true≢false}
use Rattle.doc_values.specs.declared.kind.Kind.{Kind}
use Rattle.doc_values.specs.Tree.{Label, Forest, Nil, Node, snoc, joined, has_key, is_map, holds_values, has_text, IsKeyed, AreValues, IsTree}
use Rattle.doc_values.specs.Unfinished.{Level, Unfinished, start, with_value, with_open, open_kind, with_key, with_end, in_map, IsKeyThere, AwaitsValue, AwaitsKey, MayEnd, IsComplete}
use Rattle.doc_values.specs.code.WellFormed.{IsPending, IsUnfinished}
use Rattle.doc_values.specs.code.Laws.{joined-Nil, joined-snoc}

-- a value more at the end
pub AreValues-snoc : (b : Bool) (before f : Forest) (l : Label) (kids : Forest) → AreValues b before f → IsKeyed b (joined before f) l.key → (has_text l.kind ≡ false → l.text ≡ []) → (holds_values l.kind ≡ false → kids ≡ Nil) → AreValues (is_map l.kind) Nil kids → AreValues b before (snoc f l kids)
AreValues-snoc b before Nil l kids v k t h i = (subst (λ g. IsKeyed b g l.key) (joined-Nil before) k, t, h, i, tt)
AreValues-snoc b before (Node m ks rest) l kids (mk, mt, mh, mi, more) k t h i =
    (mk, mt, mh, mi, AreValues-snoc b (snoc before m ks) rest l kids more (subst (λ g. IsKeyed b g l.key) (sym (joined-snoc before m ks rest)) k) t h i)

keyed_if : (b : Bool) (done : Forest) (key : Option (List ℕ)) → IsKeyThere b key → IsPending b done key → IsKeyed b done key
keyed_if true done (Some k) there p = p
keyed_if true done None (k, e) p = absurd (cc)
keyed_if false done key there p = there

-- where a value is awaited, its key is there and new
keyed : (outer : List Level) (done : Forest) (key : Option (List ℕ)) → AwaitsValue (record { outer = outer; done = done; key = key }) → IsPending (in_map outer) done key → IsKeyed (in_map outer) done key
keyed [] done key (none, e) p = e
keyed (v ∷ vs) done key there p = keyed_if (is_map v.label.kind) done key there p

no_pending : (b : Bool) (done : Forest) → IsPending b done None
no_pending true done = tt
no_pending false done = refl

pub IsUnfinished-start : IsUnfinished start
IsUnfinished-start = record { levels = tt; values = tt; pending = refl; shallow = omega arith }

pub IsUnfinished-value : (kind : Kind) (text : List ℕ) (at : ℕ) (u : Unfinished) → AwaitsValue u → holds_values kind ≡ false → (has_text kind ≡ false → text ≡ []) → IsUnfinished u → IsUnfinished (with_value kind text at u)
IsUnfinished-value kind text at u there plain no_text w = record {
  levels = w.levels;
  values = AreValues-snoc (in_map u.outer) Nil u.done (record { kind = kind; text = text; key = u.key; at = at }) Nil w.values (keyed u.outer u.done u.key there w.pending) no_text (λ _. refl) tt;
  pending = no_pending (in_map u.outer) (snoc u.done (record { kind = kind; text = text; key = u.key; at = at }) Nil);
  shallow = w.shallow;
}

holds_open : (m : Bool) → holds_values (open_kind m) ≡ true
holds_open true = refl
holds_open false = refl

pub IsUnfinished-open : (m : Bool) (at : ℕ) (u : Unfinished) → AwaitsValue u → length u.outer < 128 → IsUnfinished u → IsUnfinished (with_open (open_kind m) at u)
IsUnfinished-open m at u there room w = record {
  levels = (keyed u.outer u.done u.key there w.pending, refl, holds_open m, w.values, w.levels);
  values = tt;
  pending = no_pending (is_map (open_kind m)) Nil;
  shallow = omega arith;
}

pub IsUnfinished-key : (text : List ℕ) (u : Unfinished) → AwaitsKey u → has_key u.done text ≡ false → IsUnfinished u → IsUnfinished (with_key text u)
IsUnfinished-key text u (map, none) new w = record { levels = w.levels; values = w.values; pending = subst (λ b. IsPending b u.done (Some text)) (sym map) new; shallow = w.shallow }

ended_well : (outer : List Level) (done : Forest) (key : Option (List ℕ)) → 0 < length outer → IsUnfinished (record { outer = outer; done = done; key = key }) → IsUnfinished (with_end (record { outer = outer; done = done; key = key }))
ended_well [] done key some w = absurd (omega arith)
ended_well (v ∷ vs) done key some w =
    let l = w.levels in
    let deep = w.shallow in
    record {
      levels = l.4;
      values = AreValues-snoc (in_map vs) Nil v.before v.label done l.3 l.0 (λ _. l.1) (λ none. absurd (true≢false (sym l.2 ∙ none))) w.values;
      pending = no_pending (in_map vs) (snoc v.before v.label done);
      shallow = omega arith;
    }

pub IsUnfinished-end : (u : Unfinished) → MayEnd u → IsUnfinished u → IsUnfinished (with_end u)
IsUnfinished-end u (some, none) w = ended_well u.outer u.done u.key some w

-- a complete tree is well formed
pub IsUnfinished-complete : (u : Unfinished) → IsComplete u → IsUnfinished u → IsTree u.done
IsUnfinished-complete u (none, one) w = record { one = one; values = subst (λ (v : List Level). AreValues (in_map v) Nil u.done) none w.values }
