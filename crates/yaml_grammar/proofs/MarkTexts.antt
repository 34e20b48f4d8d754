-- A document may begin as a byte order mark does: some character with its first byte is a document, and so is the mark itself. By the bytes of a character.
use Rattle.std.proofs.Common.{◌≡◌, ℕ, zero, suc, ◌+◌, ◌<◌, ◌≤◌, ◌⊎◌, inl, inr, Bool, true, false, ◌&&◌, cond, nat_eq, nat_lt, ◌/◌, ◌%◌, arith, List, [], ◌∷◌, ◌++◌, take, drop, length, refl, sym, ap, ◌∙◌, subst, true≢false}
use Rattle.std.proofs.lemmas.Bool.{cases_lt}
use Rattle.std.proofs.lemmas.Bool.Decides.{nat_tests}
use Rattle.std.proofs.lemmas.Str.{IsUtf8-encode, IsUtf8-append, encode_ascii}
use Rattle.std.proofs.Math.Utf8.{encode, encodes, scalar, scalars}
use Rattle.std.specs.Prelude.{None}
use Rattle.std.specs.Str.{IsUtf8}
use Rattle.doc_values.specs.declared.kind.Kind.TheVariants as kind
use Rattle.doc_values.specs.Tree.{Forest, Nil, Node}
use Rattle.yaml_scalars.specs.Lines.{Stands, lines, begins_with, is_white, trimmed}
use Rattle.yaml_scalars.specs.Plain.{stops, plain_len, why, first, plain_on}
use Rattle.yaml_scalars.specs.Scalar.{begins_order_mark, scalar_at, is_typed}
use Rattle.yaml_laws.proofs.Longer.{no_feed, one_line, rest_of}
use Rattle.yaml_grammar.specs.declared.ahead.Ahead.{Ahead}
use Rattle.yaml_grammar.specs.declared.ahead.Token.TheVariants.{Dashes, Other}
use Rattle.yaml_grammar.specs.declared.form.Form.TheVariants.{Root}
use Rattle.yaml_grammar.specs.Ahead.{token_at, line_ahead, ahead}
use Rattle.yaml_grammar.specs.Blocks.{takes_scalar}
use Rattle.yaml_grammar.specs.Nodes.{leaf, setting_of, follows_get_att, IsScalar, IsCollection}
use Rattle.yaml_grammar.specs.Signs.{To}
use Rattle.yaml_grammar.specs.Yaml.{IsRoot, IsStart, IsYaml, Spells, text_start}
use Rattle.yaml_grammar.specs.Places.{IsDead}
use Rattle.yaml_grammar.specs.code.Twins.{IsTwin, IsPast}
use Rattle.yaml_grammar.proofs.DeadPlaces.{NoTwin, dead_past}
use Rattle.yaml_grammar.proofs.LetterKinds.{letter_kind}

-- ---- a character that begins with that byte

abbrev ThreeBytes : ℕ → Type 0
ThreeBytes x = (b c : ℕ) × (encode x ≡ 239 ∷ b ∷ c ∷ []) × (128 ≤ b) × (128 ≤ c)

three_bytes : (x : ℕ) (rest : List ℕ) → begins_with 239 (encode x ++ rest) ≡ true → ThreeBytes x
unfolding lib.Utf8.encode
three_bytes x rest h = by_tests (nat_lt x 128) refl (nat_lt x 2048) refl (nat_lt x 65536) refl h where
  same : (k : ℕ) → nat_eq k 239 ≡ true → k ≡ 239
  same k e = grind (arith, nat_tests, e)

  by_tests : (p : Bool) → nat_lt x 128 ≡ p → (q : Bool) → nat_lt x 2048 ≡ q → (r : Bool) → nat_lt x 65536 ≡ r
      → begins_with 239 (cond p (x ∷ []) (cond q ((192 + x / 64) ∷ (128 + x % 64) ∷ []) (cond r ((224 + x / 4096) ∷ (128 + (x / 64) % 64) ∷ (128 + x % 64) ∷ []) ((240 + x / 262144) ∷ (128 + (x / 4096) % 64) ∷ (128 + (x / 64) % 64) ∷ (128 + x % 64) ∷ []))) ++ rest) ≡ true
      → ThreeBytes x
  by_tests true i q j r k h = let e = same x h in let l : x < 128 = grind (arith, nat_tests, i) in absurd (omega (arith, e, l))
  by_tests false i true j r k h = let e = same (192 + x / 64) h in let l : x < 2048 = grind (arith, nat_tests, j) in absurd (omega (arith, e, l))
  by_tests false i false j true k h =
      let e = same (224 + x / 4096) h in (
        128 + (x / 64) % 64,
        128 + x % 64,
        ap (λ p. cond p (x ∷ []) (cond (nat_lt x 2048) ((192 + x / 64) ∷ (128 + x % 64) ∷ []) (cond (nat_lt x 65536) ((224 + x / 4096) ∷ (128 + (x / 64) % 64) ∷ (128 + x % 64) ∷ []) ((240 + x / 262144) ∷ (128 + (x / 4096) % 64) ∷ (128 + (x / 64) % 64) ∷ (128 + x % 64) ∷ [])))) i
            ∙ ap (λ q. cond q ((192 + x / 64) ∷ (128 + x % 64) ∷ []) (cond (nat_lt x 65536) ((224 + x / 4096) ∷ (128 + (x / 64) % 64) ∷ (128 + x % 64) ∷ []) ((240 + x / 262144) ∷ (128 + (x / 4096) % 64) ∷ (128 + (x / 64) % 64) ∷ (128 + x % 64) ∷ []))) j
            ∙ ap (λ r. cond r ((224 + x / 4096) ∷ (128 + (x / 64) % 64) ∷ (128 + x % 64) ∷ []) ((240 + x / 262144) ∷ (128 + (x / 4096) % 64) ∷ (128 + (x / 64) % 64) ∷ (128 + x % 64) ∷ [])) k
            ∙ ap (λ n. n ∷ (128 + (x / 64) % 64) ∷ (128 + x % 64) ∷ []) e,
        omega arith,
        omega arith,
      )
  by_tests false i false j false k h = let e = same (240 + x / 262144) h in absurd (omega (arith, e))

-- ---- as a document, with a letter behind it

undashed : Other ≡ Dashes → ⊥
undashed e = absurd (cc)

module _ (b c : ℕ) (hb : 128 ≤ b) (hc : 128 ≤ c) where
  abbrev Text : List ℕ
  Text = 239 ∷ b ∷ c ∷ 97 ∷ []

  -- no byte of a break, no white space, no colon and no `#`
  other : (k : ℕ) (n : ℕ) → 128 ≤ n → k < 128 → nat_eq n k ≡ false
  other k n h l = by_test (nat_eq n k) refl where
    by_test : (q : Bool) → nat_eq n k ≡ q → q ≡ false
    by_test true e = let z : n ≡ k = grind (arith, nat_tests, e) in absurd (omega (arith, z, h, l))
    by_test false e = refl

  feedless : no_feed Text ≡ true
  feedless =
      let b10 = other 10 b hb (omega arith) in
      let c10 = other 10 c hc (omega arith) in
      ap (λ q. cond q false (no_feed (c ∷ 97 ∷ []))) b10 ∙ ap (λ q. cond q false (no_feed (97 ∷ []))) c10

  one : lines 0 Text ≡ rest_of 0 Text ∷ []
  one = one_line 0 Text feedless

  here : ahead Text false 0 ≡ token_at Other true 0 0
  here = ap (line_ahead false 4) one

  goes : (n : ℕ) → 128 ≤ n → (white : Bool) (ys : List ℕ) → stops false white n ys ≡ false
  goes n h white ys =
      let n58 = other 58 n h (omega arith) in
      let n35 = other 35 n h (omega arith) in
      let n13 = other 13 n h (omega arith) in
      rw (n58, n35, n13) refl

  long : plain_len false false Text ≡ 4
  long = ap suc (ap (λ q. cond q 0 (suc (plain_len false (is_white b) (c ∷ 97 ∷ [])))) (goes b hb false (c ∷ 97 ∷ [])) ∙ ap suc (ap (λ q. cond q 0 (suc (plain_len false (is_white c) (97 ∷ [])))) (goes c hc (is_white b) (97 ∷ [])) ∙ ap suc (last (is_white c)))) where
    last : (white : Bool) → plain_len false white (97 ∷ []) ≡ 1
    last true = refl
    last false = refl

  stands : scalar_at (setting_of Root) Text 0 ≡ Stands Text 4
  stands =
      ap (plain_on (setting_of Root) true) one
      ∙ ap (λ n. first (setting_of Root) (why (drop n Text)) 0 Text []) long
      ∙ whole long where
        whole : plain_len false false Text ≡ 4 → first (setting_of Root) (why []) 0 Text [] ≡ Stands Text 4
        whole e = ap (λ t. Stands t (0 + length t)) (ap (λ n. trimmed (take n Text)) e)

  abbrev tree : Forest
  tree = Node (leaf kind.Text Text None 0) Nil Nil

  root : IsRoot Text (leaf kind.Text Text None 0) Nil 0 (To 4)
  root = inr (inl (subst (λ (a : Ahead). (takes_scalar Root a ≡ true) × (IsScalar Text (setting_of Root) (follows_get_att Text Root 0) 0 a None (leaf kind.Text Text None 0) Nil (To 4) ⊎ IsCollection (Spells Text Nil) 0 a None (leaf kind.Text Text None 0) (To 4))) (sym here)
      (refl, inl (inl (Text, kind.Text, 4, stands, letter_kind (is_typed (setting_of Root) Text 0) Text refl, (refl, refl, refl))))))

  document : begins_order_mark Text ≡ false → IsYaml Text tree
  document m = (leaf kind.Text Text None 0, Nil, 0, 4, start, root, inl refl, refl) where
    from : text_start Text ≡ 0
    from = ap (λ q. cond q 3 0) m

    start : IsStart Text 0
    start = inr ((λ d. undashed (sym (ap (λ (a : Ahead). a.token) here) ∙ ap (λ n. (ahead Text false n).token) (sym from) ∙ d)), sym from) where
      undashed : Other ≡ Dashes → ⊥
      undashed e = absurd (cc)

-- the mark itself, with a letter behind it
marked : IsYaml (239 ∷ 187 ∷ 191 ∷ 97 ∷ []) (Node (leaf kind.Text (97 ∷ []) None 3) Nil Nil)
marked =
    (leaf kind.Text (97 ∷ []) None 3, Nil, 3, 4, inr ((λ d. undashed d), refl), inr (inl (refl, inl (inl (97 ∷ [], kind.Text, 4, refl, letter_kind (is_typed (setting_of Root) (239 ∷ 187 ∷ 191 ∷ 97 ∷ []) 3) (97 ∷ []) refl, (refl, refl, refl))))), inl refl, refl)

some_document : (b c : ℕ) → 128 ≤ b → 128 ≤ c → (tree : Forest) × IsYaml (239 ∷ b ∷ c ∷ 97 ∷ []) tree
some_document b c hb hc = by_mark (begins_order_mark (239 ∷ b ∷ c ∷ 97 ∷ [])) refl where
  parts : (p q : Bool) → (p && q) ≡ true → (p ≡ true) × (q ≡ true)
  parts true true h = (refl, refl)
  parts true false h = absurd (true≢false (sym h))
  parts false q h = absurd (true≢false (sym h))

  byte_is : (n k : ℕ) → nat_eq n k ≡ true → n ≡ k
  byte_is n k e = grind (arith, nat_tests, e)

  by_mark : (q : Bool) → begins_order_mark (239 ∷ b ∷ c ∷ 97 ∷ []) ≡ q → (tree : Forest) × IsYaml (239 ∷ b ∷ c ∷ 97 ∷ []) tree
  by_mark false e = (tree b c hb hc, document b c hb hc e)
  by_mark true e =
      let p = parts (nat_eq b 187) (nat_eq c 191) e in
      subst (λ k. (tree : Forest) × IsYaml (239 ∷ k ∷ c ∷ 97 ∷ []) tree) (sym (byte_is b 187 p.0))
      (subst (λ k. (tree : Forest) × IsYaml (239 ∷ 187 ∷ k ∷ 97 ∷ []) tree) (sym (byte_is c 191 p.1)) (Node (leaf kind.Text (97 ∷ []) None 3) Nil Nil, marked))

-- ---- so a text that begins so is not dead within those bytes

alike : (b c p : ℕ) (rest : List ℕ) → p < 2 → IsUtf8 (239 ∷ b ∷ c ∷ 97 ∷ []) → IsTwin (239 ∷ b ∷ c ∷ rest) p (239 ∷ b ∷ c ∷ 97 ∷ [])
alike b c zero rest l u = record { utf8 = u; marks = refl; agrees = ([], b ∷ c ∷ rest, b ∷ c ∷ 97 ∷ [], 239, refl, refl, refl); breaks = refl }
alike b c (suc zero) rest l u = record { utf8 = u; marks = refl; agrees = (239 ∷ [], c ∷ rest, c ∷ 97 ∷ [], b, refl, refl, refl); breaks = refl }
alike b c (suc (suc p)) rest l u = absurd (omega (arith, l))

pub mark_twin : (text : List ℕ) (p : ℕ) → IsUtf8 text → p < 2 → begins_with 239 text ≡ true → NoTwin text p → ⊥
mark_twin text p ([], (s, e)) l h none = true≢false (sym h ∙ ap (begins_with 239) (sym e))
mark_twin text p (x ∷ cs, (s, e)) l h none = by_bytes (three_bytes x (encodes cs) (ap (begins_with 239) e ∙ h)) where
  first_scalar : (q r : Bool) → (q && r) ≡ true → q ≡ true
  first_scalar true r k = refl
  first_scalar false r k = absurd (true≢false (sym k))

  letter : IsUtf8 (97 ∷ [])
  letter = subst IsUtf8 (encode_ascii 97 (omega arith)) (IsUtf8-encode 97 refl)

  by_bytes : ThreeBytes x → ⊥
  by_bytes (b, c, w, hb, hc) =
      let d = some_document b c hb hc in
      let utf8 : IsUtf8 (239 ∷ b ∷ c ∷ 97 ∷ []) = subst IsUtf8 (ap (λ y. y ++ (97 ∷ [])) w) (IsUtf8-append (encode x) (97 ∷ []) (IsUtf8-encode x (first_scalar (scalar x) (scalars cs) s)) letter) in
      let whole : 239 ∷ b ∷ c ∷ encodes cs ≡ text = sym (ap (λ y. y ++ encodes cs) w) ∙ e in
      none (239 ∷ b ∷ c ∷ 97 ∷ []) (subst (λ y. IsTwin y p (239 ∷ b ∷ c ∷ 97 ∷ [])) whole (alike b c p (encodes cs) l utf8)) d.0 d.1

-- a text that begins so has three bytes
pub three_front : (text : List ℕ) → IsUtf8 text → begins_with 239 text ≡ true → (b c : ℕ) × (rest : List ℕ) × (239 ∷ b ∷ c ∷ rest ≡ text)
three_front text ([], (s, e)) h = absurd (true≢false (sym h ∙ ap (begins_with 239) (sym e)))
three_front text (x ∷ cs, (s, e)) h = by_bytes (three_bytes x (encodes cs) (ap (begins_with 239) e ∙ h)) where
  by_bytes : ThreeBytes x → (b c : ℕ) × (rest : List ℕ) × (239 ∷ b ∷ c ∷ rest ≡ text)
  by_bytes (b, c, w, hb, hc) = (b, c, encodes cs, sym (ap (λ y. y ++ encodes cs) w) ∙ e)

-- past a place of which no twin is a document all is dead
pub past_less : (text : List ℕ) (p q : ℕ) → IsPast text p q → p ≤ q
past_less text p q (inl l) = omega (arith, l)
past_less text p q (inr (e, h)) = omega (arith, e)

pub twins_dead : (text : List ℕ) (p q : ℕ) → IsUtf8 text → q < length text → IsPast text p q → NoTwin text p → IsDead text q
twins_dead text p q utf8 l past none = by_mark (begins_with 239 text) refl (cases_lt q 2) where
  by_mark : (m : Bool) → begins_with 239 text ≡ m → (q < 2) ⊎ (2 ≤ q) → IsDead text q
  by_mark false e c = dead_past text p q l (inr e) past none
  by_mark true e (inr k) = dead_past text p q l (inl k) past none
  by_mark true e (inl k) = let o = past_less text p q past in absurd (mark_twin text p utf8 (omega (arith, k, o)) e none)
