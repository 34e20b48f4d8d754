-- Where the first byte of what is ahead shows that no document follows, in each text that agrees through it. By the cases of forms.
use Rattle.std.proofs.Common.{◌≡◌, ℕ, suc, ◌<◌, ◌≤◌, ◌⊎◌, inl, inr, Bool, true, false, nat_eq, arith, List, [], ◌∷◌, drop, length, refl, sym, ap, ◌∙◌, true≢false}
use Rattle.std.proofs.lemmas.Bool.Decides.{nat_tests}
use Rattle.doc_values.specs.Tree.{Forest, Nil, Node, snoc, joined}
use Rattle.doc_values.specs.Unfinished.{Level, Unfinished}
use Rattle.yaml_scalars.specs.Lines.{begins_with}
use Rattle.yaml_scalars.specs.code.Walk.{line_at}
use Rattle.yaml_laws.specs.code.Agreement.{AgreesTo}
use Rattle.yaml_laws.proofs.AgreeLess.{agrees_here}
use Rattle.yaml_laws.proofs.PlainDead.{drop_whole}
use Rattle.yaml_grammar.specs.declared.ahead.Ahead.{Ahead}
use Rattle.yaml_grammar.specs.declared.ahead.Token.TheVariants.{End, Dots, Dash, Closes, Comma}
use Rattle.yaml_grammar.specs.declared.form.Form.{Form}
use Rattle.yaml_grammar.specs.declared.form.Form.TheVariants.{Root, Flow, FlowTagged, Items, Entries, Tagged}
use Rattle.yaml_grammar.specs.Ahead.{token_of, ahead}
use Rattle.yaml_grammar.specs.Nodes.{as_key, is_marked, starts_scalar}
use Rattle.yaml_grammar.specs.Signs.{Sign, ManyDocuments, Reach, To, Shows, Tree, Refused, Then}
use Rattle.yaml_grammar.specs.Yaml.{Spells}
use Rattle.yaml_grammar.specs.code.AheadSeen.{is_told}
use Rattle.yaml_grammar.specs.code.Rest.{top, Over, Ends}
use Rattle.yaml_grammar.specs.code.Twins.{IsStill}
use Rattle.yaml_grammar.specs.code.Steps.{Nests, IsBlock, Open}
use Rattle.yaml_grammar.proofs.FirstBytes.{begins_alike}
use Rattle.yaml_grammar.proofs.FirstTokens.{Begun, first_byte, first_plain, first_told, first_mark, is_shut, shut_scalar, ends_word, flow_word, word_comma, word_closes, dash_byte}
use Rattle.yaml_grammar.proofs.Quiet.{IsQuiet, AreQuiet, line_quiet, deep_quiet, entry_quiet}
use Rattle.yaml_grammar.proofs.Gains.{none_follows, marked_after_gives}
use Rattle.yaml_grammar.proofs.Rests.{closes, no_scalar, marked_word}

-- ---- no further entry

module _ (text : List ℕ) where
  abbrev pub AreStill : Ahead → List Form → Type 0
  AreStill a [] = Unit {0}
  AreStill a (f ∷ fs) = IsStill text a f × AreStill a fs

  quiet_still : (a : Ahead) (f : Form) → IsQuiet text a f → IsStill text a f
  quiet_still a Root q = q
  quiet_still a (Flow m) q = q
  quiet_still a (FlowTagged m) q = q
  quiet_still a (Items m) q = q
  quiet_still a (Entries m) q = λ fr col. (q fr col).0
  quiet_still a (Tagged at ab sh) q = tt

  pub quiets_still : (a : Ahead) (fs : List Form) → AreQuiet text a fs → AreStill a fs
  quiets_still a [] q = tt
  quiets_still a (f ∷ fs) q = (quiet_still a f q.0, quiets_still a fs q.1)

  rest_still : (g : Forest) (f : Form) (d : ℕ) (before : Forest) (i : ℕ) (r : Reach) → IsStill text (ahead text false i) f → Spells text g f d false before i r → ((g ≡ Nil) × (r ≡ To i)) ⊎ ((s : Sign) × (r ≡ Shows s))
  rest_still g Root d before i r q sp = absurd q
  rest_still g (Flow m) d before i r q sp = absurd q
  rest_still g (FlowTagged m) d before i r q sp = absurd q
  rest_still Nil (Items m) d before i r q (e, h) = inl (refl, h)
  rest_still Nil (Entries m) d before i r q (e, inl h) = inl (refl, h)
  rest_still Nil (Entries m) d before i r q (e, inr (s, k, h)) = inr (s, h)
  rest_still Nil (Tagged at ab sh) d before i r q (e, h) = inl (refl, h)
  rest_still (Node l kids rest) (Tagged at ab sh) d before i r q (key, p, z, (e, ek, ep), n, sp) = absurd (true≢false (sym e))
  rest_still (Node l kids rest) (Items m) d before i r q (key, p, z, (t, (fr, col), ek, ep), n, sp) = absurd (q fr col t)
  rest_still (Node l kids rest) (Entries m) d before i r q (key, p, z, (t, k, (fr, col), hk, ek), n, sp) = absurd (q fr col t k.0 k.1)

  tree_refused : (t : Forest) (s : Sign) → Tree t ≡ Refused s → ⊥
  tree_refused t s e = absurd (cc)

  -- so a tree that follows is the root's
  still_over : (fs : List Form) (outer : List Level) (done : Forest) (i : ℕ) (t : Forest) → AreStill (ahead text false i) fs → Ends text fs outer done i (Tree t) → (g : Forest) × Over text g i (Tree t)
  still_over [] [] done i t q h = (done, h)
  still_over [] (x ∷ xs) done i t q h = absurd h
  still_over (f ∷ fs) [] done i t q h = absurd h
  still_over (f ∷ fs) (x ∷ xs) done i t q (g, r, sp, en) = by_reach r (rest_still g f (suc (length xs)) done i r q.0 sp) en (still_over fs xs (snoc x.before x.label done) i t q.1) where
    by_reach : (r : Reach) → ((g ≡ Nil) × (r ≡ To i)) ⊎ ((s : Sign) × (r ≡ Shows s)) → Then r (λ k. Ends text fs xs (snoc x.before x.label (joined done g)) k (Tree t)) (λ s. Tree t ≡ Refused s)
        → (Ends text fs xs (snoc x.before x.label done) i (Tree t) → (h : Forest) × Over text h i (Tree t)) → (h : Forest) × Over text h i (Tree t)
    by_reach r (inl (eg, er)) en next = next (closes text g fs x xs done i r (Tree t) eg er en)
    by_reach (Shows s) (inr k) en next = absurd (tree_refused t s en)
    by_reach (To j) (inr (s, k)) en next = absurd (cc)

  pub still_pop : (f : Form) (fs : List Form) (x : Level) (xs : List Level) (done : Forest) (i : ℕ) (t : Forest) → IsStill text (ahead text false i) f → Ends text (f ∷ fs) (x ∷ xs) done i (Tree t) → Ends text fs xs (snoc x.before x.label done) i (Tree t)
  still_pop f fs x xs done i t q (g, r, sp, en) = by_reach r (rest_still g f (suc (length xs)) done i r q sp) en where
    by_reach : (r : Reach) → ((g ≡ Nil) × (r ≡ To i)) ⊎ ((s : Sign) × (r ≡ Shows s)) → Then r (λ k. Ends text fs xs (snoc x.before x.label (joined done g)) k (Tree t)) (λ s. Tree t ≡ Refused s) → Ends text fs xs (snoc x.before x.label done) i (Tree t)
    by_reach r (inl (eg, er)) en = closes text g fs x xs done i r (Tree t) eg er en
    by_reach (Shows s) (inr k) en = absurd (tree_refused t s en)
    by_reach (To j) (inr (s, k)) en = absurd (cc)

  no_over : (g : Forest) (i : ℕ) (t : Forest) → ((ahead text false i).token ≡ End → ⊥) → ((ahead text false i).token ≡ Dots → ⊥) → Over text g i (Tree t) → ⊥
  no_over g i t e d (inl (inl h, k)) = e h
  no_over g i t e d (inl (inr (h, z), k)) = d h
  no_over g i t e d (inr (s, h, k)) = tree_refused t s k

  pub still_none : (fs : List Form) (outer : List Level) (done : Forest) (i : ℕ) (t : Forest) → AreStill (ahead text false i) fs → ((ahead text false i).token ≡ End → ⊥) → ((ahead text false i).token ≡ Dots → ⊥) → Ends text fs outer done i (Tree t) → ⊥
  still_none fs outer done i t q e d h = let o = still_over fs outer done i t q h in no_over o.0 i t e d o.1

-- ---- what another text has ahead

-- the same place, column and freshness, and a token that begins with the same byte, or a mark
pub record IsFirst (text other : List ℕ) (flow : Bool) (i : ℕ) : Type 0 where
  pub byte : ℕ
  pub this : List ℕ
  pub that : List ℕ
  pub here : begins_with byte (drop (ahead text flow i).at text) ≡ true
  pub there : begins_with byte (drop (ahead other flow i).at other) ≡ true
  pub token : (ahead text flow i).token ≡ token_of flow (byte ∷ this)
  pub at : (ahead other flow i).at ≡ (ahead text flow i).at
  pub column : (ahead other flow i).column ≡ (ahead text flow i).column
  pub fresh : (ahead other flow i).fresh ≡ (ahead text flow i).fresh
  pub told : is_told (ahead text flow i).token ≡ true
  pub same : ((ahead other flow i).token ≡ token_of flow (byte ∷ that)) ⊎ (is_marked (ahead other flow i).token ≡ true)

pub first_same : (text other : List ℕ) (flow : Bool) (i : ℕ) → i ≤ (ahead text flow i).at → is_told (ahead text flow i).token ≡ true → AgreesTo (ahead text flow i).at text other → IsFirst text other flow i
first_same text other flow i low told agrees = by_byte (first_byte text flow i told) where
  by_byte : Begun text flow (ahead text flow i) → IsFirst text other flow i
  by_byte (b, rest, e, black, tok) = by_alike (begins_alike text other flow i (ahead text flow i).at b rest agrees e (agrees_here (ahead text flow i).at text other agrees feed) black low refl) where
    plain : (b ≡ 13 → ⊥) × (b ≡ 35 → ⊥)
    plain = first_plain flow b (line_at rest) (sym (ap is_told tok) ∙ told)

    feed : begins_with 13 (drop (ahead text flow i).at text) ≡ false
    feed = ap (begins_with 13) e ∙ by_test (nat_eq b 13) refl where
      by_test : (q : Bool) → nat_eq b 13 ≡ q → q ≡ false
      by_test true h = absurd (plain.0 (grind (arith, nat_tests, h)))
      by_test false h = refl

    itself : nat_eq b b ≡ true
    itself = grind (arith, nat_tests)

    there : (n : ℕ) → n ≡ (ahead text flow i).at → begins_with b (drop n other) ≡ true
    there n k = by_front agrees where
      head_same : (c d : ℕ) (us vs : List ℕ) → c ∷ us ≡ d ∷ vs → c ≡ d
      head_same c d us vs z = cc

      by_front : AgreesTo (ahead text flow i).at text other → begins_with b (drop n other) ≡ true
      by_front (before, behind, more, c, f, g, size) =
          let in_text : drop (ahead text flow i).at text ≡ c ∷ behind = ap (λ k. drop k text) (sym size) ∙ ap (drop (length before)) f ∙ drop_whole before (c ∷ behind) in
          let in_other : drop n other ≡ c ∷ more = ap (λ k. drop k other) (k ∙ sym size) ∙ ap (drop (length before)) g ∙ drop_whole before (c ∷ more) in
          let same : c ≡ b = head_same c b behind rest (sym in_text ∙ e) in
          ap (begins_with b) in_other ∙ grind (arith, nat_tests, same)

    by_alike : (b ≡ 35) ⊎ (((ahead other flow i).at ≡ (ahead text flow i).at) × ((ahead other flow i).column ≡ (ahead text flow i).column) × ((ahead other flow i).fresh ≡ (ahead text flow i).fresh)
        × (((ahead other flow i).token ≡ (ahead text flow i).token) ⊎ ((is_marked (ahead other flow i).token ≡ true) ⊎ ((z : List ℕ) × ((ahead other flow i).token ≡ token_of flow (b ∷ z)))))) → IsFirst text other flow i
    by_alike (inl h) = absurd (plain.1 h)
    by_alike (inr (p, c, f, inl s)) = record { byte = b; this = line_at rest; that = line_at rest; here = ap (begins_with b) e ∙ itself; there = there (ahead other flow i).at p; token = tok; at = p; column = c; fresh = f; told = told; same = inl (s ∙ tok) }
    by_alike (inr (p, c, f, inr (inl m))) = record { byte = b; this = line_at rest; that = []; here = ap (begins_with b) e ∙ itself; there = there (ahead other flow i).at p; token = tok; at = p; column = c; fresh = f; told = told; same = inr m }
    by_alike (inr (p, c, f, inr (inr (z, s)))) = record { byte = b; this = line_at rest; that = z; here = ap (begins_with b) e ∙ itself; there = there (ahead other flow i).at p; token = tok; at = p; column = c; fresh = f; told = told; same = inl s }

-- ---- outside of flow

begins_same : (b c : ℕ) (xs : List ℕ) → begins_with b xs ≡ true → begins_with c xs ≡ true → b ≡ c
begins_same b c [] h k = absurd (true≢false (sym h))
begins_same b c (x ∷ xs) h k = grind (arith, nat_tests)

module _ (text other : List ℕ) (i : ℕ) (low : i ≤ (ahead text false i).at) (told : is_told (ahead text false i).token ≡ true) (agrees : AgreesTo (ahead text false i).at text other) where
  first : IsFirst text other false i
  first = first_same text other false i low told agrees

  no_end : (ahead other false i).token ≡ End → ⊥
  no_end e = by_same first.same where
    plain : (first.byte ≡ 13 → ⊥) × (first.byte ≡ 35 → ⊥)
    plain = first_plain false first.byte first.this (sym (ap is_told first.token) ∙ told)

    by_same : ((ahead other false i).token ≡ token_of false (first.byte ∷ first.that)) ⊎ (is_marked (ahead other false i).token ≡ true) → ⊥
    by_same (inl s) = true≢false (sym (first_told false first.byte first.that plain.0 plain.1) ∙ ap is_told (sym s ∙ e))
    by_same (inr m) = true≢false (sym m ∙ ap is_marked e)

  -- a line `...` begins at the first column, with a dot
  dots_at : (ahead other false i).token ≡ Dots → ((ahead text false i).fresh ≡ true) × ((ahead text false i).column ≡ 0) × (first.byte ≡ 46)
  dots_at d = let m = first_mark other false i (ap is_marked d) in (sym first.fresh ∙ m.0, sym first.column ∙ m.1, begins_same first.byte 46 (drop (ahead other false i).at other) first.there (m.2 d))

  -- behind a complete node, on its line
  pub line_dead : (fs : List Form) (outer : List Level) (done t : Forest) → Nests fs → IsBlock (top fs) → (ahead text false i).fresh ≡ false → Ends other fs outer done i (Tree t) → ⊥
  line_dead fs outer done t ns block f =
      still_none other fs outer done i t (quiets_still other (ahead other false i) fs (line_quiet other (ahead other false i) fs ns block (first.fresh ∙ f))) no_end (λ d. true≢false (sym (dots_at d).0 ∙ f))

  -- on a line that is indented more than the innermost block
  pub deep_dead : (fs : List Form) (outer : List Level) (done t : Forest) (m : ℕ) → Nests fs → (top fs ≡ Items m) ⊎ (top fs ≡ Entries m) → m < (ahead text false i).column → Ends other fs outer done i (Tree t) → ⊥
  deep_dead fs outer done t m ns block l =
      let same = first.column in
      still_none other fs outer done i t (quiets_still other (ahead other false i) fs (deep_quiet other (ahead other false i) fs m ns block (λ f. omega (arith, same, l)))) no_end (λ d. (let z = (dots_at d).1 in omega (arith, z, l)))

  -- where only a key may stand, and no scalar begins with the byte
  pub key_dead : (m : ℕ) (fs : List Form) (outer : List Level) (done t : Forest) → Nests (Entries m ∷ fs) → (ahead text false i).column ≡ m → is_shut (ahead text false i).token ≡ true → Ends other (Entries m ∷ fs) outer done i (Tree t) → ⊥
  key_dead m fs outer done t ns col shut =
      let same = first.column in
      still_none other (Entries m ∷ fs) outer done i t ((λ fr c t2 j st. no_scalar other (ahead other false i) scalar (as_key false) t2 j st), quiets_still other (ahead other false i) fs (entry_quiet other (ahead other false i) fs m ns (omega (arith, same, col)))) no_end
      (λ d. true≢false (sym (ap is_shut (sym first.token) ∙ shut) ∙ ap (λ b. is_shut (token_of false (b ∷ first.this))) (dots_at d).2)) where
        scalar : starts_scalar (ahead other false i).token ≡ false
        scalar = by_same first.same where
          by_same : ((ahead other false i).token ≡ token_of false (first.byte ∷ first.that)) ⊎ (is_marked (ahead other false i).token ≡ true) → starts_scalar (ahead other false i).token ≡ false
          by_same (inl s) = ap starts_scalar s ∙ shut_scalar false first.byte first.this first.that (sym (ap is_shut first.token) ∙ shut)
          by_same (inr k) = marked_word (ahead other false i).token k

  -- a block that ended before the line, whatever stands behind the first byte
  abbrev pub IsPast : Form → Type 0
  IsPast Root = ⊥
  IsPast (Flow map) = ⊥
  IsPast (FlowTagged at) = ⊥
  IsPast (Items m) = ((ahead text false i).column < m) ⊎ (begins_with 45 (drop (ahead text false i).at text) ≡ false)
  IsPast (Entries m) = (ahead text false i).column < m
  IsPast (Tagged at ab sh) = Unit {0}

  abbrev pub ArePast : List Form → Type 0
  ArePast [] = Unit {0}
  ArePast (f ∷ fs) = IsPast f × ArePast fs

  past_still : (f : Form) → IsPast f → IsStill other (ahead other false i) f
  past_still Root q = q
  past_still (Flow m) q = q
  past_still (FlowTagged m) q = q
  past_still (Tagged at ab sh) q = tt
  past_still (Entries m) q = λ fr col. absurd (let same = first.column in omega (arith, same, col, q))
  past_still (Items m) (inl l) = λ fr col d. (let same = first.column in omega (arith, same, col, l))
  past_still (Items m) (inr n) = λ fr col d. by_same d first.same where
    by_same : (ahead other false i).token ≡ Dash → ((ahead other false i).token ≡ token_of false (first.byte ∷ first.that)) ⊎ (is_marked (ahead other false i).token ≡ true) → ⊥
    by_same d (inl s) = true≢false (sym first.here ∙ ap (λ b. begins_with b (drop (ahead text false i).at text)) (dash_byte first.byte first.that (sym s ∙ d)) ∙ n)
    by_same d (inr k) = true≢false (sym k ∙ ap is_marked d)

  pasts_still : (fs : List Form) → ArePast fs → AreStill other (ahead other false i) fs
  pasts_still [] q = tt
  pasts_still (f ∷ fs) q = (past_still f q.0, pasts_still fs q.1)

  -- behind the root, where no line `...` may begin
  pub root_dead : (fs : List Form) (outer : List Level) (done t : Forest) → ArePast fs → (0 < (ahead text false i).column) ⊎ (begins_with 46 (drop (ahead text false i).at text) ≡ false) → Ends other fs outer done i (Tree t) → ⊥
  root_dead fs outer done t q n = still_none other fs outer done i t (pasts_still fs q) no_end (λ d. dotted d n) where
    dotted : (ahead other false i).token ≡ Dots → (0 < (ahead text false i).column) ⊎ (begins_with 46 (drop (ahead text false i).at text) ≡ false) → ⊥
    dotted d (inl l) = let z = (dots_at d).1 in omega (arith, z, l)
    dotted d (inr n) = true≢false (sym first.here ∙ ap (λ b. begins_with b (drop (ahead text false i).at text)) (dots_at d).2 ∙ n)

-- ---- between brackets

module _ (text other : List ℕ) (i : ℕ) (low : i ≤ (ahead text true i).at) (told : is_told (ahead text true i).token ≡ true) (agrees : AgreesTo (ahead text true i).at text other) where
  inside : IsFirst text other true i
  inside = first_same text other true i low told agrees

  -- behind a complete node, where neither a comma nor the closing bracket stands
  pub after_dead : (map : Bool) (fs : List Form) (u : Unfinished) (t : Forest) → top fs ≡ Flow map → Open fs u → ((ahead text true i).token ≡ Comma → ⊥) → ((ahead text true i).token ≡ Closes map → ⊥) → Ends other fs u.outer u.done i (Tree t) → ⊥
  after_dead map fs u t f o comma closed h = by_same inside.same where
    -- the mark is a sign
    marks : is_marked (ahead other true i).token ≡ true → ⊥
    marks k = let z = (marked_after_gives other map fs u i (ahead other true i).at (ahead other true i) refl refl k f o).1 (Tree t) h in no_tree t z where
      no_tree : (t : Forest) → Tree t ≡ Refused (ManyDocuments (ahead other true i).at) → ⊥
      no_tree t z = absurd (cc)

    words : (ahead other true i).token ≡ token_of true (inside.byte ∷ inside.that) → ends_word (ahead other true i).token ≡ ends_word (ahead text true i).token
    words s = ap ends_word s ∙ flow_word inside.byte inside.this inside.that ∙ sym (ap ends_word inside.token)

    by_mark : (q : Bool) → is_marked (ahead other true i).token ≡ q → (ahead other true i).token ≡ token_of true (inside.byte ∷ inside.that) → ⊥
    by_mark true k s = marks k
    by_mark false k s =
        none_follows other map fs u.outer u.done i (ahead other true i) refl (λ e. comma (word_comma (ahead text true i).token (sym (words s) ∙ ap ends_word e)))
        (λ e. closed (word_closes map (ahead text true i).token (sym (words s) ∙ ap ends_word e))) k f o.0 (Tree t) h

    by_same : ((ahead other true i).token ≡ token_of true (inside.byte ∷ inside.that)) ⊎ (is_marked (ahead other true i).token ≡ true) → ⊥
    by_same (inl s) = by_mark (is_marked (ahead other true i).token) refl s
    by_same (inr k) = marks k
