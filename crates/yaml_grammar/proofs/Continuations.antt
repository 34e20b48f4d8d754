-- What makes a document of a text that breaks off behind a key, or in a scalar that more bytes complete: a colon behind the key, and brackets.
use Rattle.std.proofs.Common.{◌≡◌, ℕ, ◌+◌, ◌<◌, ◌≤◌, inl, inr, Bool, true, false, cond, nat_eq, arith, List, [], ◌∷◌, ◌++◌, Option, Some, None, drop, length, refl, sym, ap, ◌∙◌, subst, true≢false, append-nil, length-append}
use Rattle.std.proofs.lemmas.Bool.Decides.{nat_tests}
use Rattle.std.specs.List.{before_first, after_first}
use Rattle.doc_values.specs.declared.kind.Kind.{Kind}
use Rattle.doc_values.specs.declared.kind.Kind.TheVariants as kind
use Rattle.doc_values.specs.Tree.{Forest, Nil, Node, Label, snoc, joined, has_key}
use Rattle.doc_values.specs.Unfinished.{Level}
use Rattle.yaml_scalars.specs.Lines.{Stands, Fails, lines, begins_with, is_white, is_blank, lead, past_white}
use Rattle.yaml_scalars.specs.Scalar.{is_first_column, scalar_at, is_typed, HasKind}
use Rattle.yaml_laws.proofs.Agree.{drop_before, drop_size}
use Rattle.yaml_laws.proofs.BlockShown.{blank_not}
use Rattle.yaml_laws.proofs.Longer.{no_feed, one_line}
use Rattle.yaml_laws.proofs.PlainDead.{drop_whole}
use Rattle.yaml_laws.proofs.QuotedLaw.{lead_whole}
use Rattle.yaml_laws.proofs.ScalarFollowed.{key_followed}
use Rattle.yaml_laws.proofs.ScalarLaw.{column_longer}
use Rattle.yaml_grammar.specs.declared.ahead.Token.TheVariants.{Point}
use Rattle.yaml_grammar.specs.declared.form.Form.{Form}
use Rattle.yaml_grammar.specs.declared.form.Form.TheVariants.{Root, Flow, FlowTagged, Items, Entries, Tagged}
use Rattle.yaml_grammar.specs.Ahead.{token_of, token_at, is_passed, line_ahead, rest_ahead, ahead}
use Rattle.yaml_grammar.specs.Nodes.{setting_of, as_key, follows_get_att, leaf, collection, is_cut, is_dot, starts_scalar, scalar_ahead, IsScalar, IsValue}
use Rattle.yaml_grammar.specs.Signs.{Tree, Reach, To}
use Rattle.yaml_grammar.specs.Yaml.{IsNode, IsEnd, Spells}
use Rattle.yaml_grammar.specs.code.Closers.{closers, in_flow, MayBegin}
use Rattle.yaml_grammar.specs.code.Rest.{top, Ends, Awaits}
use Rattle.yaml_grammar.specs.code.Steps.{Agrees, Nests, LiesIn, IsBlock}
use Rattle.yaml_grammar.proofs.AheadLonger.{ahead_longer}
use Rattle.yaml_grammar.proofs.Completions.{over_end, closes}
use Rattle.yaml_grammar.proofs.Looks.{passed_other}

-- ---- outside of flow no bracket is open

pub block_below : (f : Form) (g : Form) → IsBlock f → LiesIn f g → IsBlock g
block_below Root g b l = absurd l
block_below (Flow m) g b l = absurd b
block_below (FlowTagged at) g b l = absurd b
block_below (Items c) Root b l = tt
block_below (Items c) (Flow m) b l = absurd l
block_below (Items c) (FlowTagged at) b l = absurd l
block_below (Items c) (Items m) b l = tt
block_below (Items c) (Entries m) b l = tt
block_below (Items c) (Tagged at ab sh) b l = tt
block_below (Entries c) Root b l = tt
block_below (Entries c) (Flow m) b l = absurd l
block_below (Entries c) (FlowTagged at) b l = absurd l
block_below (Entries c) (Items m) b l = tt
block_below (Entries c) (Entries m) b l = tt
block_below (Entries c) (Tagged at ab sh) b l = tt
block_below (Tagged p a s) Root b l = tt
block_below (Tagged p a s) (Flow m) b l = absurd l
block_below (Tagged p a s) (FlowTagged at) b l = absurd l
block_below (Tagged p a s) (Items m) b l = tt
block_below (Tagged p a s) (Entries m) b l = tt
block_below (Tagged p a s) (Tagged at ab sh) b l = absurd l

pub block_closers : (fs : List Form) → Nests fs → IsBlock (top fs) → closers fs ≡ []
block_closers [] o b = refl
block_closers (Root ∷ fs) o b = absurd o.0
block_closers (Flow m ∷ fs) o b = absurd b
block_closers (FlowTagged at ∷ fs) o b = absurd b
block_closers (Items m ∷ fs) o b = block_closers fs o.2 (block_below (Items m) (top fs) b o.0)
block_closers (Entries m ∷ fs) o b = block_closers fs o.2 (block_below (Entries m) (top fs) b o.0)
block_closers (Tagged at ab sh ∷ fs) o b = block_closers fs o.2 (block_below (Tagged at ab sh) (top fs) b o.0)

-- there the document may end wherever it may
pub block_ends : (fs : List Form) (outer : List Level) (done : Forest) (text : List ℕ) (i : ℕ) → IsEnd text i → IsBlock (top fs) → Agrees fs outer → Nests fs → (tree : Forest) × Ends text fs outer done i (Tree tree)
block_ends [] [] done text i e b a o = (done, inl (e, refl))
block_ends [] (x ∷ xs) done text i e b a o = absurd a
block_ends (f ∷ fs) [] done text i e b a o = absurd a
block_ends (Root ∷ fs) (x ∷ xs) done text i e b a o = absurd o.0
block_ends (Flow m ∷ fs) (x ∷ xs) done text i e b a o = absurd b
block_ends (FlowTagged at ∷ fs) (x ∷ xs) done text i e b a o = absurd b
block_ends (Items m ∷ fs) (x ∷ xs) done text i e b (k, a) (l, s, o) = let r = block_ends fs xs (snoc x.before x.label (joined done Nil)) text i e (block_below (Items m) (top fs) b l) a o in (r.0, (Nil, To i, (refl, refl), r.1))
block_ends (Entries m ∷ fs) (x ∷ xs) done text i e b (k, a) (l, s, o) = let r = block_ends fs xs (snoc x.before x.label (joined done Nil)) text i e (block_below (Entries m) (top fs) b l) a o in (r.0, (Nil, To i, (refl, inl refl), r.1))
block_ends (Tagged at ab sh ∷ fs) (x ∷ xs) done text i e b (k, a) (l, s, o) = let r = block_ends fs xs (snoc x.before x.label (joined done Nil)) text i e (block_below (Tagged at ab sh) (top fs) b l) a o in (r.0, (Nil, To i, (refl, refl), r.1))

-- ---- a colon behind a key

white_feedless : (w : List ℕ) → is_blank w ≡ true → no_feed (w ++ (58 ∷ [])) ≡ true
white_feedless [] h = refl
white_feedless (b ∷ w) h = by_white (is_white b) refl h (λ g. white_feedless w g) where
  by_white : (q : Bool) → is_white b ≡ q → cond q (is_blank w) false ≡ true → (is_blank w ≡ true → no_feed (w ++ (58 ∷ [])) ≡ true) → cond (nat_eq b 10) false (no_feed (w ++ (58 ∷ []))) ≡ true
  by_white true e h r = let n : nat_eq b 10 ≡ false = grind (arith, nat_tests, e) in ap (λ q. cond q false (no_feed (w ++ (58 ∷ [])))) n ∙ r h
  by_white false e h r = absurd (true≢false (sym h))

-- it is what stands ahead of the key's end
pub colon_ahead : (text : List ℕ) (e : ℕ) → e ≤ length text → is_blank (drop e text) ≡ true → is_first_column text e ≡ false → ahead (text ++ (58 ∷ [])) false e ≡ token_at (Point true) false (length (drop e text)) (e + length (drop e text))
colon_ahead text e low white stale =
    let size = length (text ++ (58 ∷ [])) in
    let there : drop e (text ++ (58 ∷ [])) ≡ drop e text ++ (58 ∷ []) = drop_before e text (58 ∷ []) low in
    let n : lead is_white (drop e text ++ (58 ∷ [])) ≡ length (drop e text) = lead_whole (drop e text) 58 [] white refl in
    let rest : past_white (drop e text ++ (58 ∷ [])) ≡ 58 ∷ [] = ap (λ k. drop k (drop e text ++ (58 ∷ []))) n ∙ drop_whole (drop e text) (58 ∷ []) in
    let full : is_blank (drop e text ++ (58 ∷ [])) ≡ false = blank_not (drop e text ++ (58 ∷ [])) (omega (arith, n, length-append (drop e text) (58 ∷ []))) in
    let out : is_passed false (drop e text ++ (58 ∷ [])) ≡ false = passed_other false (drop e text ++ (58 ∷ [])) full (ap (begins_with 35) rest) in
    ap (λ q. cond q (line_ahead false size (lines e (drop e (text ++ (58 ∷ []))))) (rest_ahead false size (lines e (drop e (text ++ (58 ∷ [])))))) (column_longer text (58 ∷ []) e low ∙ stale)
    ∙ ap (λ ls. rest_ahead false size ls) (ap (lines e) there ∙ one_line e (drop e text ++ (58 ∷ [])) (white_feedless (drop e text) white))
    ∙ ap (λ q. cond q (line_ahead false size []) (token_at (token_of false (past_white (drop e text ++ (58 ∷ [])))) false (lead is_white (drop e text ++ (58 ∷ []))) (e + lead is_white (drop e text ++ (58 ∷ []))))) out
    ∙ ap (λ t. token_at (token_of false t) false (lead is_white (drop e text ++ (58 ∷ []))) (e + lead is_white (drop e text ++ (58 ∷ [])))) rest ∙ ap (λ k. token_at (Point true) false k (e + k)) n

-- the key stands at the same token, with the colon behind the text
key_at : (text : List ℕ) (i : ℕ) (t : List ℕ) (e : ℕ) → i ≤ length text → scalar_ahead text (as_key false) (ahead text false i) ≡ Stands t e → (ahead text false i).at < e → e ≤ length text → is_blank (drop e text) ≡ true
    → (scalar_ahead (text ++ (58 ∷ [])) (as_key false) (ahead (text ++ (58 ∷ [])) false i) ≡ Stands t e) × ((ahead (text ++ (58 ∷ [])) false i).fresh ≡ (ahead text false i).fresh) × ((ahead (text ++ (58 ∷ [])) false i).column ≡ (ahead text false i).column)
key_at text i t e low h before within white = by_start (starts_scalar (ahead text false i).token) refl h where
  fails_not : (p : ℕ) → Fails p ≡ Stands t e → ⊥
  fails_not p h = cc

  by_start : (q : Bool) → starts_scalar (ahead text false i).token ≡ q → cond q (scalar_at (as_key false) text (ahead text false i).at) (Fails (ahead text false i).at) ≡ Stands t e
      → (scalar_ahead (text ++ (58 ∷ [])) (as_key false) (ahead (text ++ (58 ∷ [])) false i) ≡ Stands t e) × ((ahead (text ++ (58 ∷ [])) false i).fresh ≡ (ahead text false i).fresh) × ((ahead (text ++ (58 ∷ [])) false i).column ≡ (ahead text false i).column)
  by_start false s h = absurd (fails_not (ahead text false i).at h)
  by_start true s h =
      let both = ahead_longer 58 [] refl false text i low refl s in
      let key = key_followed (as_key false) text [] (ahead text false i).at t e refl (omega (arith, before, within)) within white refl h in (
        ap (λ q. cond q (scalar_at (as_key false) (text ++ (58 ∷ [])) (ahead (text ++ (58 ∷ [])) false i).at) (Fails (ahead (text ++ (58 ∷ [])) false i).at)) both.3 ∙ ap (scalar_at (as_key false) (text ++ (58 ∷ []))) both.0 ∙ key,
        both.1,
        both.2,
      )

pub colon_completes : (m : ℕ) (fs : List Form) (x : Level) (xs : List Level) (done : Forest) (text : List ℕ) (i : ℕ) (t : List ℕ) (e : ℕ) → i ≤ length text → (ahead text false i).fresh ≡ true → (ahead text false i).column ≡ m
    → scalar_ahead text (as_key false) (ahead text false i) ≡ Stands t e → (ahead text false i).at < e → e ≤ length text → is_blank (drop e text) ≡ true → is_first_column text e ≡ false → has_key done t ≡ false → Agrees (Entries m ∷ fs) (x ∷ xs) → Nests (Entries m ∷ fs)
    → (tree : Forest) × Ends (text ++ (58 ∷ [])) (Entries m ∷ fs) (x ∷ xs) done i (Tree tree)
colon_completes m fs x xs done text i t e low fresh column h before within white stale new agrees nests =
    let k = key_at text i t e low h before within white in
    let c = colon_ahead text e within white stale in
    let p = length (text ++ (58 ∷ [])) in
    let end : p ≡ (ahead (text ++ (58 ∷ [])) false e).behind = (let z : length (text ++ (58 ∷ [])) ≡ e + length (drop e text) + 1 = omega (arith, length-append text (58 ∷ []), drop_size e text within) in z) ∙ sym (ap (λ a. a.behind) c) in
    let null = leaf kind.Null [] (Some t) p in
    let g = Node null Nil Nil in
    let below = block_closers fs nests.2 (block_below (Entries m) (top fs) tt nests.0) in
    let r = closes fs xs (snoc x.before x.label (joined done g)) (text ++ (58 ∷ [])) p (over_end (text ++ (58 ∷ []))) agrees.1 nests.2 in
    let over : Ends (text ++ (58 ∷ [])) fs xs (snoc x.before x.label (joined done g)) p (Tree r.0) = subst (λ w. Ends w fs xs (snoc x.before x.label (joined done g)) p (Tree r.0)) (ap (λ z. (text ++ (58 ∷ [])) ++ z) below ∙ append-nil (text ++ (58 ∷ []))) r.1 in
    (r.0, (g, To p, (Some t, p, To p, (t, (e, k.0, ap (λ a. a.fresh) c, ap (λ a. a.token) c, end), (k.1 ∙ fresh, k.2 ∙ column), new, refl), inl (refl, refl, refl), (refl, inl refl)), over))

-- ---- a scalar that ends with the text

pub value_of : (cut : Bool) (d : ℕ) (k : Kind) (t : List ℕ) (key : Option (List ℕ)) (at j : ℕ) → (cut ≡ true → d < 128) → (l : Label) × (kids : Forest) × IsValue cut d k t key at j l kids (To j)
value_of false d k t key at j f = (leaf k t key at, Nil, (refl, refl, refl))
value_of true d k t key at j f = (collection false key at, Node (leaf kind.Text (before_first is_dot t) None at) Nil (Node (leaf kind.Text (after_first is_dot t) None at) Nil Nil), inl (f refl, refl, refl, refl))

pub node_of : (text : List ℕ) (f : Form) (d : ℕ) (key : Option (List ℕ)) (l : Label) (kids : Forest) (i : ℕ) (r : Reach) → MayBegin f (ahead text (in_flow f) i) → IsScalar text (setting_of f) (follows_get_att text f i) d (ahead text (in_flow f) i) key l kids r → IsNode text (Spells text kids) f d key l kids i r
node_of text Root d key l kids i r b h = inl (b tt, inl h)
node_of text (Flow map) d key l kids i r b h = inr (inl h)
node_of text (FlowTagged at) d key l kids i r b h = inr (inl h)
node_of text (Items m) d key l kids i r b h = inr (inl (b tt, inl h))
node_of text (Entries m) d key l kids i r b h = inr (inl (b tt, inl h))
node_of text (Tagged at above shares) d key l kids i r b h = inr (inl (b tt, inl h))

-- where a value may stand, a scalar that ends with a text completes it, with the brackets behind it
pub scalar_completes : (text : List ℕ) (fs : List Form) (outer : List Level) (done : Forest) (key : Option (List ℕ)) (i : ℕ) (t : List ℕ) (k : Kind) → Agrees fs outer → Nests fs → MayBegin (top fs) (ahead (text ++ closers fs) (in_flow (top fs)) i)
    → scalar_ahead (text ++ closers fs) (setting_of (top fs)) (ahead (text ++ closers fs) (in_flow (top fs)) i) ≡ Stands t (length text)
    → HasKind (is_typed (setting_of (top fs)) (text ++ closers fs) (ahead (text ++ closers fs) (in_flow (top fs)) i).at) t k
    → (is_cut (follows_get_att (text ++ closers fs) (top fs) i) k t ≡ true → length outer < 128) → (tree : Forest) × Awaits (text ++ closers fs) fs outer done key i (Tree tree)
scalar_completes text fs outer done key i t k agrees nests may stands has room =
    let v = value_of (is_cut (follows_get_att (text ++ closers fs) (top fs) i) k t) (length outer) k t key (ahead (text ++ closers fs) (in_flow (top fs)) i).at (length text) room in
    let n = node_of (text ++ closers fs) (top fs) (length outer) key v.0 v.1 i (To (length text)) may (inl (t, k, length text, stands, has, v.2)) in
    let c = closes fs outer (snoc done v.0 v.1) text (length text) (over_end text) agrees nests in
    (c.0, (v.0, v.1, To (length text), n, c.1))
