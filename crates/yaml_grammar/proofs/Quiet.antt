-- Where no further entry of an open block begins at a token: by columns, over the stack of forms.
use Rattle.std.proofs.Common.{◌≡◌, ℕ, suc, ◌<◌, ◌≤◌, ◌⊎◌, inl, inr, Bool, true, false, ◌||◌, ◌&&◌, not, List, [], ◌∷◌, Some, None, length, refl, sym, ap, ◌∙◌, subst, true≢false, nat_eq, nat_lt, nat_le, arith}
use Rattle.std.proofs.lemmas.Bool.{ltb-true}
use Rattle.std.proofs.lemmas.Bool.Decides.{nat_tests}
use Rattle.doc_values.specs.Tree.{Forest, Nil, Node, snoc}
use Rattle.doc_values.specs.code.Laws.{joined-Nil}
use Rattle.doc_values.specs.Unfinished.{Level}
use Rattle.yaml_grammar.specs.declared.ahead.Ahead.{Ahead}
use Rattle.yaml_grammar.specs.declared.ahead.Token.{Token}
use Rattle.yaml_grammar.specs.declared.ahead.Token.TheVariants.{End, Dashes, Dots, Dash, Tag, NoTag, Opens, Closes, Comma, Point, Anchor, Percent, Tabbed, Stray, Other}
use Rattle.yaml_grammar.specs.declared.form.Form.{Form}
use Rattle.yaml_grammar.specs.declared.form.Form.TheVariants.{Root, Flow, FlowTagged, Items, Entries, Tagged}
use Rattle.yaml_grammar.specs.Ahead.{ahead}
use Rattle.yaml_grammar.specs.Nodes.{as_key, starts_scalar, node_sign}
use Rattle.yaml_grammar.specs.Signs.{Sign, Reach, To, Reading, Refused}
use Rattle.yaml_grammar.specs.Blocks.{takes_scalar, takes_mapping, takes_sequence, takes_tag}
use Rattle.yaml_grammar.specs.Yaml.{Spells, IsEnd, late_sign, sign_behind, end_sign}
use Rattle.yaml_grammar.specs.code.Rest.{top, Over, Inside, Ends}
use Rattle.yaml_grammar.specs.code.Steps.{Agrees, Nests, IsBlock, NoKey, Missed, is_dash, is_ending, ends_before}
use Rattle.yaml_grammar.proofs.Rests.{none_some, no_scalar, closes}

-- all are blocks with a column below this
abbrev pub IsBelow : ℕ → Form → Type 0
IsBelow n Root = ⊥
IsBelow n (Flow map) = ⊥
IsBelow n (FlowTagged at) = ⊥
IsBelow n (Items m) = m < n
IsBelow n (Entries m) = m < n
IsBelow n (Tagged at ab sh) = Unit {0}

abbrev pub AllBelow : ℕ → List Form → Type 0
AllBelow n [] = Unit {0}
AllBelow n (f ∷ fs) = IsBelow n f × AllBelow n fs

-- what stands around a form stands below this
abbrev pub IsOver : Form → ℕ → Type 0
IsOver Root n = ⊥
IsOver (Flow map) n = ⊥
IsOver (FlowTagged at) n = ⊥
IsOver (Items m) n = m < n
IsOver (Entries m) n = m ≤ n
IsOver (Tagged at ab sh) n = ab ≤ n

pub nests_below : (f : Form) (fs : List Form) (n : ℕ) → Nests (f ∷ fs) → IsOver f n → AllBelow n fs
nests_below f [] n ns o = tt
nests_below Root (g ∷ gs) n ns o = absurd o
nests_below (Flow m) (g ∷ gs) n ns o = absurd o
nests_below (FlowTagged m) (g ∷ gs) n ns o = absurd o
nests_below (Items m) (Root ∷ gs) n (l, s, (k, r, ns)) o = absurd k
nests_below (Items m) (Flow q ∷ gs) n (l, s, ns) o = absurd l
nests_below (Items m) (FlowTagged q ∷ gs) n (l, s, ns) o = absurd l
nests_below (Items m) (Items k ∷ gs) n (l, s, ns) o = (omega (arith, l, o), nests_below (Items k) gs n ns (omega (arith, l, o)))
nests_below (Items m) (Entries k ∷ gs) n (l, s, ns) o = (omega (arith, l, o), nests_below (Entries k) gs n ns (omega (arith, l, o)))
nests_below (Items m) (Tagged at ab sh ∷ gs) n (l, s, ns) o = (tt, nests_below (Tagged at ab sh) gs n ns (omega (arith, l, o)))
nests_below (Entries m) (Root ∷ gs) n (l, s, (k, r, ns)) o = absurd k
nests_below (Entries m) (Flow q ∷ gs) n (l, s, ns) o = absurd l
nests_below (Entries m) (FlowTagged q ∷ gs) n (l, s, ns) o = absurd l
nests_below (Entries m) (Items k ∷ gs) n (l, s, ns) o = (omega (arith, l, o), nests_below (Items k) gs n ns (omega (arith, l, o)))
nests_below (Entries m) (Entries k ∷ gs) n (l, s, ns) o = (omega (arith, l, o), nests_below (Entries k) gs n ns (omega (arith, l, o)))
nests_below (Entries m) (Tagged at ab sh ∷ gs) n (l, s, ns) o = (tt, nests_below (Tagged at ab sh) gs n ns (omega (arith, l, o)))
nests_below (Tagged at ab sh) (Root ∷ gs) n (l, s, (k, r, ns)) o = absurd k
nests_below (Tagged at ab sh) (Flow q ∷ gs) n (l, s, ns) o = absurd l
nests_below (Tagged at ab sh) (FlowTagged q ∷ gs) n (l, s, ns) o = absurd l
nests_below (Tagged at ab sh) (Items k ∷ gs) n (l, s, ns) o = (let e = l.0 in omega (arith, e, o), nests_below (Items k) gs n ns (let e = l.0 in omega (arith, e, o)))
nests_below (Tagged at ab sh) (Entries k ∷ gs) n (l, s, ns) o = (omega (arith, l, o), nests_below (Entries k) gs n ns (omega (arith, l, o)))
nests_below (Tagged at ab sh) (Tagged b n' s' ∷ gs) n (l, s, ns) o = absurd l

-- ---- whether the document ends at a token

pub ending_word : (t : Token) → is_ending t ≡ true → starts_scalar t ≡ false
ending_word End e = refl
ending_word Dashes e = refl
ending_word Dots e = refl
ending_word Dash e = refl
ending_word (Tag l) e = refl
ending_word NoTag e = refl
ending_word (Opens m) e = refl
ending_word (Closes m) e = refl
ending_word Comma e = refl
ending_word (Point l) e = absurd (true≢false (sym e))
ending_word Anchor e = refl
ending_word Percent e = refl
ending_word Tabbed e = refl
ending_word Stray e = refl
ending_word Other e = absurd (true≢false (sym e))

pub ending_unsigned : (tagged : Bool) (at : ℕ) (t : Token) → is_ending t ≡ true → node_sign tagged at t ≡ None
ending_unsigned tagged at End e = refl
ending_unsigned tagged at Dashes e = refl
ending_unsigned tagged at Dots e = refl
ending_unsigned tagged at Dash e = refl
ending_unsigned tagged at (Tag len) e = absurd (true≢false (sym e))
ending_unsigned tagged at NoTag e = absurd (true≢false (sym e))
ending_unsigned tagged at (Opens m) e = refl
ending_unsigned tagged at (Closes m) e = refl
ending_unsigned tagged at Comma e = refl
ending_unsigned tagged at (Point l) e = refl
ending_unsigned tagged at Anchor e = absurd (true≢false (sym e))
ending_unsigned tagged at Percent e = refl
ending_unsigned tagged at Tabbed e = refl
ending_unsigned tagged at Stray e = refl
ending_unsigned tagged at Other e = refl

pub signed_inside : (tagged : Bool) (at : ℕ) (t : Token) (s : Sign) → node_sign tagged at t ≡ Some s → is_ending t ≡ false
signed_inside tagged at t s e = by_end (is_ending t) refl where
  by_end : (q : Bool) → is_ending t ≡ q → is_ending t ≡ false
  by_end true h = absurd (none_some _ s (ending_unsigned tagged at t h) e)
  by_end false h = h

pub word_inside : (t : Token) → starts_scalar t ≡ true → is_ending t ≡ false
word_inside t s = by_end (is_ending t) refl where
  by_end : (q : Bool) → is_ending t ≡ q → is_ending t ≡ false
  by_end true e = absurd (true≢false (sym s ∙ ending_word t e))
  by_end false e = e

pub no_sign : (a b : Ahead) (t : Token) → is_ending t ≡ false → sign_behind a b t ≡ None
no_sign a b End e = refl
no_sign a b Dashes e = absurd (true≢false e)
no_sign a b Dots e = absurd (true≢false e)
no_sign a b Dash e = refl
no_sign a b (Tag l) e = refl
no_sign a b NoTag e = refl
no_sign a b (Opens m) e = refl
no_sign a b (Closes m) e = refl
no_sign a b Comma e = refl
no_sign a b (Point l) e = refl
no_sign a b Anchor e = refl
no_sign a b Percent e = refl
no_sign a b Tabbed e = absurd (true≢false e)
no_sign a b Stray e = refl
no_sign a b Other e = refl

module _ (text : List ℕ) where
  pub end_ending : (i : ℕ) → IsEnd text i → is_ending (ahead text false i).token ≡ true
  end_ending i (inl e) = ap is_ending e
  end_ending i (inr (e, g)) = ap is_ending e

  pub inside_at : (i : ℕ) → is_ending (ahead text false i).token ≡ false → Inside text i
  inside_at i e = ((λ h. true≢false (sym (end_ending i h) ∙ e)), no_sign (ahead text false i) (ahead text false (ahead text false i).behind) (ahead text false i).token e)

  pub sign_ending : (i : ℕ) (s : Sign) → end_sign text i ≡ Some s → is_ending (ahead text false i).token ≡ true
  sign_ending i s h = by_end (is_ending (ahead text false i).token) refl where
    by_end : (q : Bool) → is_ending (ahead text false i).token ≡ q → is_ending (ahead text false i).token ≡ true
    by_end true e = e
    by_end false e = absurd (let no : None ≡ Some s = sym (inside_at i e).1 ∙ h in cc)

  -- the document's end is no sign
  pub end_only : (i : ℕ) → IsEnd text i → end_sign text i ≡ None
  end_only i (inl e) = ap (sign_behind (ahead text false i) (ahead text false (ahead text false i).behind)) e
  end_only i (inr (e, g)) =
      let b : Ahead = ahead text false (ahead text false i).behind in
      ap (sign_behind (ahead text false i) b) e ∙ ap (late_sign (ahead text false i).at b) g

  pub no_word_at : (a : Ahead) → starts_scalar a.token ≡ false → Missed text (as_key false) a
  no_word_at a e t j st = no_scalar text a e (as_key false) t j st

  pub no_key_at : (a : Ahead) → starts_scalar a.token ≡ false → NoKey text a
  no_key_at a e t p (j, st, f, tk, b) = no_word_at a e t j st

  pub no_key_dash : (a : Ahead) → a.token ≡ Dash → NoKey text a
  no_key_dash a e = no_key_at a (ap starts_scalar e)

  no_word_dash : (a : Ahead) → a.token ≡ Dash → Missed text (as_key false) a
  no_word_dash a e = no_word_at a (ap starts_scalar e)

  no_tag_dash : (a : Ahead) → a.token ≡ Dash → (len : ℕ) → a.token ≡ Tag len → ⊥
  no_tag_dash a e len t = absurd (let no : Tag len ≡ Dash = sym t ∙ e in cc)

  -- no further entry of a block begins at a token, and no key that stands before, and no tag
  abbrev pub IsQuiet : Ahead → Form → Type 0
  IsQuiet a Root = ⊥
  IsQuiet a (Flow map) = ⊥
  IsQuiet a (FlowTagged at) = ⊥
  IsQuiet a (Items m) = a.fresh ≡ true → a.column ≡ m → a.token ≡ Dash → ⊥
  IsQuiet a (Entries m) = a.fresh ≡ true → a.column ≡ m → Missed text (as_key false) a × (node_sign false a.at a.token ≡ None) × ((len : ℕ) → a.token ≡ Tag len → ⊥)
  IsQuiet a (Tagged at ab sh) = Unit {0}

  abbrev pub AreQuiet : Ahead → List Form → Type 0
  AreQuiet a [] = Unit {0}
  AreQuiet a (f ∷ fs) = IsQuiet a f × AreQuiet a fs

  rest_quiet : (g : Forest) (f : Form) (d : ℕ) (before : Forest) (i : ℕ) (r : Reach) → IsQuiet (ahead text false i) f → Spells text g f d false before i r → (g ≡ Nil) × (r ≡ To i)
  rest_quiet g Root d before i r q sp = absurd q
  rest_quiet g (Flow m) d before i r q sp = absurd q
  rest_quiet g (FlowTagged m) d before i r q sp = absurd q
  rest_quiet Nil (Items m) d before i r q (e, h) = (refl, h)
  rest_quiet Nil (Entries m) d before i r q (e, inl h) = (refl, h)
  rest_quiet Nil (Entries m) d before i r q (e, inr (s, ((fr, col), inl (inl (t, j, st, again, es))), h)) = absurd ((q fr col).0 t j st)
  rest_quiet Nil (Entries m) d before i r q (e, inr (s, ((fr, col), inl (inr sg)), h)) = absurd (none_some _ s (q fr col).1 sg)
  rest_quiet Nil (Entries m) d before i r q (e, inr (s, ((fr, col), inr (len, tag, bare, es)), h)) = absurd ((q fr col).2 len tag)
  rest_quiet Nil (Tagged at ab sh) d before i r q (e, h) = (refl, h)
  rest_quiet (Node l kids rest) (Tagged at ab sh) d before i r q (key, p, z, (e, ek, ep), n, sp) = absurd (true≢false (sym e))
  rest_quiet (Node l kids rest) (Items m) d before i r q (key, p, z, (t, (fr, col), ek, ep), n, sp) = absurd (q fr col t)
  rest_quiet (Node l kids rest) (Entries m) d before i r q (key, p, z, (t, k, (fr, col), hk, ek), n, sp) = absurd ((q fr col).0 t k.0 k.1)

  -- a block without another entry ends
  pub ends_pop : (f : Form) (fs : List Form) (x : Level) (xs : List Level) (done : Forest) (i : ℕ) (v : Reading) → IsQuiet (ahead text false i) f
      → Ends text (f ∷ fs) (x ∷ xs) done i v → Ends text fs xs (snoc x.before x.label done) i v
  ends_pop f fs x xs done i v q (g, r, sp, en) = let t = rest_quiet g f (suc (length xs)) done i r q sp in closes text g fs x xs done i r v t.0 t.1 en

  pub pop_ends : (f : Form) (fs : List Form) (x : Level) (xs : List Level) (done : Forest) (i : ℕ) (v : Reading) → IsQuiet (ahead text false i) f
      → Ends text fs xs (snoc x.before x.label done) i v → Ends text (f ∷ fs) (x ∷ xs) done i v
  pop_ends f fs x xs done i v q en =
      (Nil, To i, tail f q, subst (λ h. Ends text fs xs (snoc x.before x.label h) i v) (sym (joined-Nil done)) en) where
        tail : (f : Form) → IsQuiet (ahead text false i) f → Spells text Nil f (suc (length xs)) false done i (To i)
        tail Root q = absurd q
        tail (Flow m) q = absurd q
        tail (FlowTagged m) q = absurd q
        tail (Items m) q = (refl, refl)
        tail (Entries m) q = (refl, inl refl)
        tail (Tagged at ab sh) q = (refl, refl)

  -- where no block has another entry, what follows is what follows the root
  pub ends_over : (fs : List Form) (outer : List Level) (done : Forest) (i : ℕ) (v : Reading) → AreQuiet (ahead text false i) fs → Ends text fs outer done i v → (g : Forest) × Over text g i v
  ends_over [] [] done i v q h = (done, h)
  ends_over [] (x ∷ xs) done i v q h = absurd h
  ends_over (f ∷ fs) [] done i v q h = absurd h
  ends_over (f ∷ fs) (x ∷ xs) done i v q h = ends_over fs xs (snoc x.before x.label done) i v q.1 (ends_pop f fs x xs done i v q.0 h)

  pub over_ends : (fs : List Form) (outer : List Level) (done : Forest) (i : ℕ) (s : Sign) → AreQuiet (ahead text false i) fs → Agrees fs outer → end_sign text i ≡ Some s → Ends text fs outer done i (Refused s)
  over_ends [] [] done i s q a e = inr (s, e, refl)
  over_ends [] (x ∷ xs) done i s q a e = absurd a
  over_ends (f ∷ fs) [] done i s q a e = absurd a
  over_ends (f ∷ fs) (x ∷ xs) done i s q a e = pop_ends f fs x xs done i (Refused s) q.0 (over_ends fs xs (snoc x.before x.label done) i s q.1 a.1 e)

  not_over : (g : Forest) (i : ℕ) (v : Reading) → Inside text i → Over text g i v → ⊥
  not_over g i v n (inl (e, h)) = n.0 e
  not_over g i v n (inr (s, e, h)) = absurd (let no : None ≡ Some s = sym n.1 ∙ e in cc)

  -- and where the document does not end either, nothing follows
  pub quiet_none : (fs : List Form) (outer : List Level) (done : Forest) (i : ℕ) (v : Reading) → AreQuiet (ahead text false i) fs → Inside text i → Ends text fs outer done i v → ⊥
  quiet_none fs outer done i v q n h = let o = ends_over fs outer done i v q h in not_over o.0 i v n o.1

  -- ---- where blocks are quiet

  below_quiet : (a : Ahead) (fs : List Form) (n : ℕ) → AllBelow n fs → (a.fresh ≡ true → n ≤ a.column) → AreQuiet a fs
  below_quiet a [] n b h = tt
  below_quiet a (Root ∷ fs) n b h = absurd b.0
  below_quiet a (Flow m ∷ fs) n b h = absurd b.0
  below_quiet a (FlowTagged m ∷ fs) n b h = absurd b.0
  below_quiet a (Items m ∷ fs) n (b, bs) h = ((λ fr col t. let l = h fr in omega (arith, b, l, col)), below_quiet a fs n bs h)
  below_quiet a (Tagged at ab sh ∷ fs) n (b, bs) h = (tt, below_quiet a fs n bs h)
  below_quiet a (Entries m ∷ fs) n (b, bs) h = ((λ fr col. absurd (let l = h fr in omega (arith, b, l, col))), below_quiet a fs n bs h)

  below_tag : (a : Ahead) (fs : List Form) (at ab : ℕ) (sh : Bool) → Nests (Tagged at ab sh ∷ fs) → (a.fresh ≡ true → ab ≤ a.column) → AreQuiet a fs
  below_tag a fs at ab sh ns h = below_quiet a fs ab (nests_below (Tagged at ab sh) fs ab ns (omega arith)) h

  -- on a line that is indented more than the innermost, or in a line
  pub deep_quiet : (a : Ahead) (fs : List Form) (m : ℕ) → Nests fs → (top fs ≡ Items m) ⊎ (top fs ≡ Entries m) → (a.fresh ≡ true → m < a.column) → AreQuiet a fs
  deep_quiet a [] m ns t h = tt
  deep_quiet a (f ∷ fs) m ns (inl e) h = subst (λ g. Nests (g ∷ fs) → AreQuiet a (g ∷ fs)) (sym e) (λ ks. below_quiet a (Items m ∷ fs) (suc m) (omega arith, nests_below (Items m) fs (suc m) ks (omega arith)) h) ns
  deep_quiet a (f ∷ fs) m ns (inr e) h = subst (λ g. Nests (g ∷ fs) → AreQuiet a (g ∷ fs)) (sym e) (λ ks. below_quiet a (Entries m ∷ fs) (suc m) (omega arith, nests_below (Entries m) fs (suc m) ks (omega arith)) h) ns

  -- what stands behind something else on its line
  pub line_quiet : (a : Ahead) (fs : List Form) → Nests fs → IsBlock (top fs) → a.fresh ≡ false → AreQuiet a fs
  line_quiet a [] ns b e = tt
  line_quiet a (Root ∷ fs) ns b e = absurd ns.0
  line_quiet a (Flow m ∷ fs) ns b e = absurd b
  line_quiet a (FlowTagged m ∷ fs) ns b e = absurd b
  line_quiet a (Items m ∷ fs) ns b e = deep_quiet a (Items m ∷ fs) m ns (inl refl) (λ fr. absurd (true≢false (sym fr ∙ e)))
  line_quiet a (Tagged at ab sh ∷ fs) ns b e = (tt, below_tag a fs at ab sh ns (λ fr. absurd (true≢false (sym fr ∙ e))))
  line_quiet a (Entries m ∷ fs) ns b e = deep_quiet a (Entries m ∷ fs) m ns (inr refl) (λ fr. absurd (true≢false (sym fr ∙ e)))

  -- around the innermost, where it has an entry
  pub entry_quiet : (a : Ahead) (fs : List Form) (m : ℕ) → Nests (Entries m ∷ fs) → m ≤ a.column → AreQuiet a fs
  entry_quiet a fs m ns l = below_quiet a fs m (nests_below (Entries m) fs m ns (omega arith)) (λ f. l)

  tag_quiet : (a : Ahead) (fs : List Form) (at ab : ℕ) (sh : Bool) → Nests (Tagged at ab sh ∷ fs) → a.token ≡ Dash → ab ≤ suc a.column → (sh ≡ false → ab ≤ a.column) → AreQuiet a fs
  tag_quiet a [] at ab sh ns t l h = tt
  tag_quiet a (Root ∷ fs) at ab sh (k, s, (n, r, ns)) t l h = absurd n
  tag_quiet a (Flow q ∷ fs) at ab sh (k, s, ns) t l h = absurd k
  tag_quiet a (FlowTagged q ∷ fs) at ab sh (k, s, ns) t l h = absurd k
  tag_quiet a (Items c ∷ fs) at ab sh (k, s, ns) t l h = let e = k.0 in below_quiet a (Items c ∷ fs) ab (omega (arith, e), nests_below (Items c) fs ab ns (omega (arith, e))) (λ f. h k.1)
  tag_quiet a (Entries c ∷ fs) at ab sh (k, s, ns) t l h = ((λ f col. (no_word_dash a t, ap (node_sign false a.at) t, no_tag_dash a t)), entry_quiet a fs c ns (omega (arith, k, l)))
  tag_quiet a (Tagged b n s' ∷ fs) at ab sh (k, s, ns) t l h = absurd k

  pub item_quiet : (a : Ahead) (fs : List Form) (m : ℕ) → Nests (Items m ∷ fs) → m ≤ a.column → a.token ≡ Dash → AreQuiet a fs
  item_quiet a [] m ns l t = tt
  item_quiet a (Root ∷ fs) m (k, s, (n, r, ns)) l t = absurd n
  item_quiet a (Flow q ∷ fs) m (k, s, ns) l t = absurd k
  item_quiet a (FlowTagged q ∷ fs) m (k, s, ns) l t = absurd k
  item_quiet a (Items c ∷ fs) m (k, s, ns) l t = below_quiet a (Items c ∷ fs) m (k, nests_below (Items c) fs m ns k) (λ f. l)
  item_quiet a (Tagged b ab sh ∷ fs) m (k, s, ns) l t = (tt, tag_quiet a fs b ab sh ns t (let e = k.0 in omega (arith, e, l)) (λ f. let e = k.1 f in omega (arith, e, l)))
  item_quiet a (Entries c ∷ fs) m (k, s, ns) l t = ((λ f col. (no_word_dash a t, ap (node_sign false a.at) t, no_tag_dash a t)), entry_quiet a fs c ns (omega (arith, k, l)))

  -- where a node may begin
  either : (q : Bool) (m n : ℕ) → (not q || nat_lt m n) ≡ true → q ≡ true → m < n
  either true m n h e = ltb-true m n h
  either false m n h e = absurd (true≢false (sym e))

  le_of : (m n : ℕ) → nat_le m n ≡ true → m ≤ n
  le_of m n h = grind (arith, nat_tests)

  either_le : (q : Bool) (m n : ℕ) → (not q || nat_le m n) ≡ true → q ≡ true → m ≤ n
  either_le true m n h e = le_of m n h
  either_le false m n h e = absurd (true≢false (sym e))

  both : (q r : Bool) → (q && r) ≡ true → (q ≡ true) × (r ≡ true)
  both true true h = (refl, refl)
  both true false h = absurd (cc)
  both false r h = absurd (cc)

  pub node_quiet : (a : Ahead) (f : Form) (fs : List Form) → top fs ≡ f → Nests fs → takes_scalar f a ≡ true → AreQuiet a fs
  node_quiet a f [] e ns h = tt
  node_quiet a Root (g ∷ fs) e ns h = subst (λ z. Nests (z ∷ fs) → AreQuiet a (z ∷ fs)) (sym e) (λ ks. absurd ks.0) ns
  node_quiet a (Flow m) (g ∷ fs) e ns h = absurd (cc)
  node_quiet a (FlowTagged m) (g ∷ fs) e ns h = absurd (cc)
  node_quiet a (Items m) (g ∷ fs) e ns h = deep_quiet a (g ∷ fs) m ns (inl e) (λ fr. either a.fresh m a.column h fr)
  node_quiet a (Tagged at ab sh) (g ∷ fs) e ns h =
      subst (λ z. Nests (z ∷ fs) → AreQuiet a (z ∷ fs)) (sym e) (λ ks. (tt, below_tag a fs at ab sh ks (λ fr. let b = either_le a.fresh ab a.column h fr in b))) ns
  node_quiet a (Entries m) (g ∷ fs) e ns h = deep_quiet a (g ∷ fs) m ns (inr e) (λ fr. either a.fresh m a.column h fr)

  -- a mapping begins where a scalar may
  pub mapping_takes : (f : Form) (a : Ahead) → takes_mapping f a ≡ true → takes_scalar f a ≡ true
  mapping_takes Root a h = h
  mapping_takes (Flow m) a h = h
  mapping_takes (FlowTagged m) a h = h
  mapping_takes (Items m) a h = h
  mapping_takes (Tagged at ab sh) a h = by_line a.fresh (nat_le ab a.column) h where
    by_line : (q r : Bool) → (q && r) ≡ true → (not q || r) ≡ true
    by_line true true e = refl
    by_line true false e = absurd (cc)
    by_line false r e = refl
  mapping_takes (Entries m) a h = by_line a.fresh (nat_lt m a.column) h where
    by_line : (q r : Bool) → (q && r) ≡ true → (not q || r) ≡ true
    by_line true true e = refl
    by_line true false e = absurd (cc)
    by_line false r e = refl

  -- a tag begins where a scalar may
  pub tag_takes : (f : Form) (a : Ahead) → takes_tag f a ≡ true → takes_scalar f a ≡ true
  tag_takes Root a h = h
  tag_takes (Flow m) a h = h
  tag_takes (FlowTagged m) a h = h
  tag_takes (Items m) a h = h
  tag_takes (Entries m) a h = h
  tag_takes (Tagged at ab sh) a h = absurd (cc)

  -- a sequence behind a tag may share the column of a key
  pub shared : (q : Bool) (ab c : ℕ) (sh : Bool) → (q && (nat_le ab c || (sh && nat_eq ab (suc c)))) ≡ true → (q ≡ true) × (ab ≤ suc c) × (sh ≡ false → ab ≤ c)
  shared q ab c sh h = by_le (nat_le ab c) refl (both q (nat_le ab c || (sh && nat_eq ab (suc c))) h).0 (both q (nat_le ab c || (sh && nat_eq ab (suc c))) h).1 where
    by_le : (r : Bool) → nat_le ab c ≡ r → q ≡ true → (r || (sh && nat_eq ab (suc c))) ≡ true → (q ≡ true) × (ab ≤ suc c) × (sh ≡ false → ab ≤ c)
    by_le true e k g = let l = le_of ab c e in (k, omega (arith, l), (λ f. l))
    by_le false e k g =
        let w = both sh (nat_eq ab (suc c)) g in
        let same : ab ≡ suc c = let x = w.1 in grind (arith, nat_tests) in
        (k, omega (arith, same), (λ f. absurd (true≢false (sym w.0 ∙ f))))

  pub sequence_quiet : (a : Ahead) (f : Form) (fs : List Form) → top fs ≡ f → Nests fs → a.token ≡ Dash → takes_sequence f a ≡ true → AreQuiet a fs
  sequence_quiet a f [] e ns t h = tt
  sequence_quiet a Root (g ∷ fs) e ns t h = node_quiet a Root (g ∷ fs) e ns h
  sequence_quiet a (Flow m) (g ∷ fs) e ns t h = absurd (cc)
  sequence_quiet a (FlowTagged m) (g ∷ fs) e ns t h = absurd (cc)
  sequence_quiet a (Items m) (g ∷ fs) e ns t h = node_quiet a (Items m) (g ∷ fs) e ns h
  sequence_quiet a (Tagged at ab sh) (g ∷ fs) e ns t h =
      let w = shared a.fresh ab a.column sh h in
      subst (λ z. Nests (z ∷ fs) → AreQuiet a (z ∷ fs)) (sym e) (λ ks. (tt, tag_quiet a fs at ab sh ks t w.1 w.2)) ns
  sequence_quiet a (Entries m) (g ∷ fs) e ns t h =
      let l : m ≤ a.column = let b = both a.fresh (nat_le m a.column) h in let le = b.1 in grind (arith, nat_tests) in
      subst (λ z. Nests (z ∷ fs) → AreQuiet a (z ∷ fs)) (sym e) (λ ks. ((λ fr col. (no_word_dash a t, ap (node_sign false a.at) t, no_tag_dash a t)), entry_quiet a fs m ks l)) ns

  -- a block that ends before a line has no entry there
  less_or : (c m : ℕ) (q : Bool) → (nat_lt c m || (nat_eq c m && q)) ≡ true → c ≡ m → q ≡ true
  less_or c m q h e = by_less (nat_lt c m) refl h where
    by_less : (r : Bool) → nat_lt c m ≡ r → (r || (nat_eq c m && q)) ≡ true → q ≡ true
    by_less true k g = absurd (let l = ltb-true c m k in omega (arith, l, e))
    by_less false k g = (both (nat_eq c m) q g).1

  pub ended_quiet : (a : Ahead) (f : Form) → IsBlock f → ends_before f a ≡ true → IsQuiet a f
  ended_quiet a Root b h = absurd (cc)
  ended_quiet a (Flow m) b h = absurd (cc)
  ended_quiet a (FlowTagged m) b h = absurd (cc)
  ended_quiet a (Items m) b h = λ fr col t. true≢false (sym (less_or a.column m (not (is_dash a.token)) h col) ∙ ap (λ k. not (is_dash k)) t)
  ended_quiet a (Tagged at ab sh) b h = tt
  ended_quiet a (Entries m) b h = λ fr col. absurd (let l = ltb-true a.column m h in omega (arith, l, col))
