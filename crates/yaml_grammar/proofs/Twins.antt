-- What was found in a text stands in each text that is the same as far as was looked at. By the cases of what is found.
use Rattle.std.proofs.Common.{◌≡◌, ℕ, zero, suc, ◌+◌, ◌-◌, ◌<◌, ◌≤◌, Bool, true, false, ◌||◌, not, cond, List, [], ◌∷◌, ◌++◌, take, drop, get_or, length, refl, sym, ap, ◌∙◌, subst, arith}
use Rattle.std.specs.Prelude.{slice_index}
use Rattle.std.specs.Str.{IsCharBoundary}
use Rattle.std.proofs.lemmas.List.{length-append}
use Rattle.yaml_scalars.specs.declared.scalar.Setting.{Setting}
use Rattle.yaml_scalars.specs.Lines.{Stands, Fails}
use Rattle.yaml_scalars.specs.Scalar.{scalar_at, is_typed, begins_quoted, begins_block}
use Rattle.yaml_laws.specs.code.Agreement.{AgreesTo, scalar_shown}
use Rattle.yaml_laws.proofs.AgreeLess.{breaks_alike}
use Rattle.yaml_laws.proofs.ScalarLaw.{quoted_same, block_same}
use Rattle.yaml_laws.proofs.ScalarStays.{scalar_stays}
use Rattle.yaml_grammar.specs.declared.ahead.Ahead.{Ahead}
use Rattle.yaml_grammar.specs.declared.form.Form.{Form}
use Rattle.yaml_grammar.specs.declared.form.Form.TheVariants.{Root, Flow, FlowTagged, Items, Entries, Tagged}
use Rattle.yaml_grammar.specs.Ahead.{ahead}
use Rattle.yaml_grammar.specs.Nodes.{tag_name, get_att, follows_get_att, starts_scalar, scalar_ahead}
use Rattle.yaml_grammar.specs.code.AheadSeen.{ahead_seen}
use Rattle.yaml_grammar.specs.code.Steps.{IsBehind, SameScalar}
use Rattle.yaml_grammar.specs.code.Twins.{IsTwin}
use Rattle.yaml_grammar.proofs.AheadOrder.{seen_least}
use Rattle.yaml_grammar.proofs.AheadStays.{ahead_stays}
use Rattle.std.specs.Str.{bytes_eq}

-- ---- bytes of two texts

get_same : (before u v : List ℕ) (b i : ℕ) → i ≤ length before → get_or (before ++ (b ∷ u)) i 0 ≡ get_or (before ++ (b ∷ v)) i 0
get_same [] u v b zero l = refl
get_same [] u v b (suc i) l = absurd (omega (arith, l))
get_same (x ∷ before) u v b zero l = refl
get_same (x ∷ before) u v b (suc i) l = get_same before u v b i (omega (arith, l))

take_same : (before u v : List ℕ) (n : ℕ) → n ≤ length before → take n (before ++ u) ≡ take n (before ++ v)
take_same before u v zero l = refl
take_same [] u v (suc n) l = absurd (omega (arith, l))
take_same (x ∷ before) u v (suc n) l = ap (λ t. x ∷ t) (take_same before u v n (omega (arith, l)))

part_same : (before u v : List ℕ) (k n : ℕ) → k + n ≤ length before → take n (drop k (before ++ u)) ≡ take n (drop k (before ++ v))
part_same before u v zero n l = take_same before u v n (omega (arith, l))
part_same [] u v (suc k) n l = absurd (omega (arith, l))
part_same (x ∷ before) u v (suc k) n l = part_same before u v k n (omega (arith, l))

module _ (text : List ℕ) (place : ℕ) (other : List ℕ) (m : IsTwin text place other) where
  pub twin_within : place < length text
  twin_within = by_front m.agrees where
    by_front : AgreesTo place text other → place < length text
    by_front (before, behind, more, b, e, f, size) = let n = ap (λ (t : List ℕ). length t) e in omega (arith, n, size, length-append before (b ∷ behind))

  pub twin_room : place < length other
  twin_room = by_front m.agrees where
    by_front : AgreesTo place text other → place < length other
    by_front (before, behind, more, b, e, f, size) = let n = ap (λ (t : List ℕ). length t) f in omega (arith, n, size, length-append before (b ∷ more))

  -- where a text may be cut
  pub twin_cut : (j : ℕ) → j ≤ place → IsCharBoundary text j → IsCharBoundary other j
  twin_cut j l (w, c) = (let r = twin_room in omega (arith, r, l), (λ s g. subst (λ n. 192 ≤ n) same (c (let r = twin_within in omega (arith, r, l)) (subst (λ n. 128 ≤ n) (sym same) g)))) where
    same : slice_index text j ≡ slice_index other j
    same = by_front m.agrees where
      by_front : AgreesTo place text other → slice_index text j ≡ slice_index other j
      by_front (before, behind, more, b, e, f, size) = ap (λ t. slice_index t j) e ∙ get_same before behind more b j (omega (arith, size, l)) ∙ sym (ap (λ t. slice_index t j) f)

  -- a tag's name
  pub twin_name : (at behind : ℕ) → at < behind → behind ≤ place → tag_name other at behind ≡ tag_name text at behind
  twin_name at behind o l = by_front m.agrees where
    by_front : AgreesTo place text other → tag_name other at behind ≡ tag_name text at behind
    by_front (before, rest, more, b, e, f, size) =
        let n = behind - (at + 1) in
        ap (λ (t : List ℕ). take n (drop (at + 1) t)) f ∙ part_same before (b ∷ more) (b ∷ rest) (at + 1) n (omega (arith, o, l, size)) ∙ sym (ap (λ (t : List ℕ). take n (drop (at + 1) t)) e)

  -- what is ahead
  pub twin_ahead : (flow : Bool) (i : ℕ) → i ≤ length text → ahead_seen text i ≤ place → ahead other flow i ≡ ahead text flow i
  twin_ahead flow i within near = by_front m.agrees where
    by_front : AgreesTo place text other → ahead other flow i ≡ ahead text flow i
    by_front (before, behind, more, b, e, f, size) =
        let least = seen_least text i within in
        let low : i ≤ length before = omega (arith, least, near, size) in
        let near2 : ahead_seen (before ++ (b ∷ behind)) i ≤ length before = subst (λ t. ahead_seen t i ≤ length before) e (omega (arith, near, size)) in
        let feed = breaks_alike before behind more b text other place e f size m.breaks in
        ap (λ t. ahead t flow i) f ∙ ahead_stays before behind more b feed flow i low near2 ∙ sym (ap (λ t. ahead t flow i) e)

  -- a scalar
  twin_at : (s : Setting) (at : ℕ) (t : List ℕ) (e : ℕ) → at ≤ place → scalar_shown s text at e ≤ place → scalar_at s text at ≡ Stands t e → scalar_at s other at ≡ Stands t e
  twin_at s at t e low near h = by_front m.agrees where
    by_front : AgreesTo place text other → scalar_at s other at ≡ Stands t e
    by_front (before, behind, more, b, w, f, size) =
        let near2 : scalar_shown s (before ++ (b ∷ behind)) at e ≤ length before = subst (λ x. scalar_shown s x at e ≤ length before) w (omega (arith, near, size)) in
        let feed = breaks_alike before behind more b text other place w f size m.breaks in
        ap (λ x. scalar_at s x at) f ∙ scalar_stays s before behind more b at t e (omega (arith, low, size)) feed near2 (ap (λ x. scalar_at s x at) (sym w) ∙ h)

  pub twin_quoted : (at : ℕ) → at ≤ place → begins_quoted (drop at other) ≡ begins_quoted (drop at text)
  twin_quoted at l = by_front m.agrees where
    by_front : AgreesTo place text other → begins_quoted (drop at other) ≡ begins_quoted (drop at text)
    by_front (before, behind, more, b, e, f, size) =
        ap (λ t. begins_quoted (drop at t)) f ∙ quoted_same before b more behind at (omega (arith, size, l)) ∙ sym (ap (λ t. begins_quoted (drop at t)) e)

  twin_block : (s : Setting) (at : ℕ) → at ≤ place → begins_block s (drop at other) ≡ begins_block s (drop at text)
  twin_block s at l = by_front m.agrees where
    by_front : AgreesTo place text other → begins_block s (drop at other) ≡ begins_block s (drop at text)
    by_front (before, behind, more, b, e, f, size) =
        ap (λ t. begins_block s (drop at t)) f ∙ block_same s before b more behind at (omega (arith, size, l)) ∙ sym (ap (λ t. begins_block s (drop at t)) e)

  twin_typed : (s : Setting) (at : ℕ) → at ≤ place → is_typed s other at ≡ is_typed s text at
  twin_typed s at l =
      ap (λ q. not (s.one_line || (q || begins_block s (drop at other)))) (twin_quoted at l) ∙ ap (λ q. not (s.one_line || (begins_quoted (drop at text) || q))) (twin_block s at l)

  -- what stands at a token
  pub twin_ahead_scalar : (s : Setting) (a : Ahead) (t : List ℕ) (e : ℕ) → a.at ≤ place → scalar_shown s text a.at e ≤ place → scalar_ahead text s a ≡ Stands t e → scalar_ahead other s a ≡ Stands t e
  twin_ahead_scalar s a t e low near h = by_start (starts_scalar a.token) h where
    by_start : (q : Bool) → cond q (scalar_at s text a.at) (Fails a.at) ≡ Stands t e → cond q (scalar_at s other a.at) (Fails a.at) ≡ Stands t e
    by_start true g = twin_at s a.at t e low near g
    by_start false g = g

  pub twin_scalar : (s : Setting) (a : Ahead) (t : List ℕ) (e : ℕ) → a.at ≤ place → scalar_shown s text a.at e ≤ place → e ≤ place → scalar_ahead text s a ≡ Stands t e → SameScalar text other s a
  twin_scalar s a t e low near last h = record {
    scalar = twin_ahead_scalar s a t e low near h ∙ sym h;
    typed = twin_typed s a.at low;
    last = λ u j k. twin_cut j (let z : e ≡ j = end_is t u e j (sym h ∙ k) in omega (arith, last, z));
  } where
    end_is : (t u : List ℕ) (e j : ℕ) → Stands t e ≡ Stands u j → e ≡ j
    end_is t u e j z = cc

  -- at another token none does, in either
  pub twin_other : (s : Setting) (a : Ahead) → a.at ≤ place → starts_scalar a.token ≡ false → SameScalar text other s a
  twin_other s a low n = record {
    scalar = ap (λ q. cond q (scalar_at s other a.at) (Fails a.at)) n ∙ sym (ap (λ q. cond q (scalar_at s text a.at) (Fails a.at)) n);
    typed = twin_typed s a.at low;
    last = λ u j k. absurd (fails_not a.at u j (sym (ap (λ q. cond q (scalar_at s text a.at) (Fails a.at)) n) ∙ k));
  } where
    fails_not : (p : ℕ) (u : List ℕ) (j : ℕ) → Fails p ≡ Stands u j → ⊥
    fails_not p u j z = cc

  -- whether the tag in front is `!GetAtt`
  pub twin_cuts : (f : Form) (i : ℕ) → IsBehind f i → i ≤ place → follows_get_att other f i ≡ follows_get_att text f i
  twin_cuts Root i o l = refl
  twin_cuts (Flow mp) i o l = refl
  twin_cuts (FlowTagged at) i o l = ap (λ (t : List ℕ). bytes_eq t get_att) (twin_name at i o l)
  twin_cuts (Items c) i o l = refl
  twin_cuts (Entries c) i o l = refl
  twin_cuts (Tagged at above shares) i o l = ap (λ (t : List ℕ). bytes_eq t get_att) (twin_name at i o l)
