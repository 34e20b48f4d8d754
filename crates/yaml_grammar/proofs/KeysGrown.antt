-- A key that breaks off is completed to one that none before has: with a colon behind it outside of brackets, between them with a break and the brackets. By the cases of keys.
use Rattle.std.proofs.Common.{◌≡◌, ℕ, suc, ◌-◌, ◌<◌, ◌≤◌, Bool, true, false, ◌||◌, ◌&&◌, cond, nat_eq, arith, List, [], ◌∷◌, ◌++◌, drop, get_or, length, refl, sym, ap, ◌∙◌, subst, true≢false, append_assoc, append-nil, length-append}
use Rattle.std.proofs.lemmas.Bool.Decides.{nat_tests}
use Rattle.std.specs.Prelude.{slice_index}
use Rattle.doc_values.specs.Tree.{Forest}
use Rattle.doc_values.specs.Unfinished.{Level}
use Rattle.yaml_scalars.specs.Lines.{Stands, Fails, each, ends_with, is_blank}
use Rattle.yaml_scalars.specs.Scalar.{begins_order_mark, is_first_column, scalar_at}
use Rattle.yaml_laws.specs.code.Refusals.{is_ascii}
use Rattle.yaml_laws.proofs.EscapeLonger.{is_fit}
use Rattle.yaml_laws.proofs.KeyGrown.{key_long}
use Rattle.yaml_laws.proofs.Longer.{no_feed}
use Rattle.yaml_grammar.specs.declared.ahead.Token.TheVariants.{End}
use Rattle.yaml_grammar.specs.declared.form.Form.{Form}
use Rattle.yaml_grammar.specs.declared.form.Form.TheVariants.{Entries, Flow}
use Rattle.yaml_grammar.specs.Ahead.{ahead}
use Rattle.yaml_grammar.specs.Nodes.{as_key, scalar_ahead, starts_scalar}
use Rattle.yaml_grammar.specs.Signs.{Tree}
use Rattle.yaml_grammar.specs.code.Closers.{closers}
use Rattle.yaml_grammar.specs.code.Rest.{Ends, Enters}
use Rattle.yaml_grammar.specs.code.Steps.{Agrees, Nests}
use Rattle.yaml_grammar.proofs.AheadEnds.{end_flows, seam_get}
use Rattle.yaml_grammar.proofs.AheadLonger.{BothBegin, ahead_longer}
use Rattle.yaml_grammar.proofs.Completions.{end_ahead}
use Rattle.yaml_grammar.proofs.Continuations.{colon_completes}
use Rattle.yaml_grammar.proofs.DashKeys.{all_sizes, fresh_key}
use Rattle.yaml_grammar.proofs.FlowKeys.{key_closes}
use Rattle.yaml_grammar.proofs.Values.{closers_ascii}

-- ---- the text with the bytes that complete the key

-- no line begins behind a byte of ASCII that is no line feed
no_order_mark : (x : ℕ) (g : List ℕ) → nat_eq x 191 ≡ false → (nat_eq (suc (length g)) 3 && begins_order_mark (g ++ (x ∷ []))) ≡ false
no_order_mark x [] n = refl
no_order_mark x (a ∷ []) n = refl
no_order_mark x (a ∷ b ∷ []) n = by_tests (nat_eq a 239) (nat_eq b 187) (nat_eq x 191) n where
  by_tests : (p q r : Bool) → r ≡ false → (p && (q && r)) ≡ false
  by_tests true true r e = e
  by_tests true false r e = refl
  by_tests false q r e = refl
no_order_mark x (a ∷ b ∷ c ∷ g) n = let z : nat_eq (suc (suc (suc (suc (length g))))) 3 ≡ false = grind (arith, nat_tests) in ap (λ q. q && begins_order_mark (a ∷ b ∷ c ∷ (g ++ (x ∷ [])))) z

stale_last : (g : List ℕ) (x : ℕ) → nat_eq x 10 ≡ false → nat_eq x 191 ≡ false → is_first_column (g ++ (x ∷ [])) (length (g ++ (x ∷ []))) ≡ false
stale_last g x feed mark =
    let n : length (g ++ (x ∷ [])) ≡ suc (length g) = length-append g (x ∷ []) ∙ omega arith in
    let p : suc (length g) - 1 ≡ length g = omega arith in
    let z : nat_eq (suc (length g)) 0 ≡ false = grind (arith, nat_tests) in
    ap (is_first_column (g ++ (x ∷ []))) n ∙ ap (λ q. (nat_eq (suc (length g)) 0 || q) || nat_eq (slice_index (g ++ (x ∷ [])) (suc (length g) - 1)) 10) (no_order_mark x g mark)
    ∙ ap (λ q. (q || false) || nat_eq (slice_index (g ++ (x ∷ [])) (suc (length g) - 1)) 10) z ∙ ap (λ b. nat_eq b 10) (ap (λ k. get_or (g ++ (x ∷ [])) k 0) p ∙ seam_get g [] x) ∙ feed

last_feed : (m : List ℕ) (x : ℕ) → no_feed (m ++ (x ∷ [])) ≡ true → nat_eq x 10 ≡ false
last_feed [] x h = by_byte (nat_eq x 10) h where
  by_byte : (q : Bool) → cond q false true ≡ true → q ≡ false
  by_byte true e = sym e
  by_byte false e = refl
last_feed (b ∷ m) x h = by_byte (nat_eq b 10) h (λ g. last_feed m x g) where
  by_byte : (q : Bool) → cond q false (no_feed (m ++ (x ∷ []))) ≡ true → (no_feed (m ++ (x ∷ [])) ≡ true → nat_eq x 10 ≡ false) → nat_eq x 10 ≡ false
  by_byte true e f = absurd (true≢false (sym e))
  by_byte false e f = f e

last_small : (m : List ℕ) (x : ℕ) → each is_ascii (m ++ (x ∷ [])) ≡ true → is_ascii x ≡ true
last_small [] x h = by_byte (is_ascii x) h where
  by_byte : (q : Bool) → cond q true false ≡ true → q ≡ true
  by_byte true e = refl
  by_byte false e = e
last_small (b ∷ m) x h = by_byte (is_ascii b) h (λ g. last_small m x g) where
  by_byte : (q : Bool) → cond q (each is_ascii (m ++ (x ∷ []))) false ≡ true → (each is_ascii (m ++ (x ∷ [])) ≡ true → is_ascii x ≡ true) → is_ascii x ≡ true
  by_byte true e f = f e
  by_byte false e f = absurd (true≢false (sym e))

last_byte : (c : ℕ) (before : List ℕ) (b : ℕ) → ends_with c (before ++ (b ∷ [])) ≡ nat_eq b c
last_byte c [] b = refl
last_byte c (d ∷ []) b = refl
last_byte c (d ∷ e ∷ before) b = last_byte c (e ∷ before) b

fit_feed : (c : ℕ) (v : List ℕ) → is_fit c ≡ true → no_feed v ≡ true → no_feed (c ∷ v) ≡ true
fit_feed c v h g = let z : nat_eq c 10 ≡ false = grind (arith, nat_tests, h) in ap (λ q. cond q false (no_feed v)) z ∙ g

each_both : (x y : List ℕ) → each is_ascii x ≡ true → each is_ascii y ≡ true → each is_ascii (x ++ y) ≡ true
each_both [] y h g = g
each_both (b ∷ x) y h g = by_byte (is_ascii b) h (λ i. each_both x y i g) where
  by_byte : (q : Bool) → cond q (each is_ascii x) false ≡ true → (each is_ascii x ≡ true → each is_ascii (x ++ y) ≡ true) → cond q (each is_ascii (x ++ y)) false ≡ true
  by_byte true e f = f e
  by_byte false e f = absurd (true≢false (sym e))

over : (t : List ℕ) → drop (length t) t ≡ []
over [] = refl
over (b ∷ t) = over t

-- what a longer text with the key has
abbrev IsKeyed : Bool → List ℕ → ℕ → ℕ → Type 0
IsKeyed flow text i n =
    (w t : List ℕ) × (each is_ascii w ≡ true) × (ends_with 13 (text ++ w) ≡ false) × (is_first_column (text ++ w) (length (text ++ w)) ≡ false)
    × BothBegin (ahead text flow i) (ahead (text ++ w) flow i) × (scalar_ahead (text ++ w) (as_key flow) (ahead (text ++ w) flow i) ≡ Stands t (length (text ++ w))) × (n < length t)

keyed : (flow : Bool) (text : List ℕ) (i n : ℕ) → i ≤ length text → starts_scalar (ahead text flow i).token ≡ true → (ahead text flow i).at < length text → ends_with 13 text ≡ false → scalar_at (as_key flow) text (ahead text flow i).at ≡ Fails (length text) → IsKeyed flow text i n
keyed flow text i n low starts within last fails = by_key (key_long (as_key flow) refl text (ahead text flow i).at within n last fails) where
  by_key : (c : ℕ) × (v t : List ℕ) × (is_fit c ≡ true) × (no_feed v ≡ true) × (each is_ascii (c ∷ v) ≡ true) × ((m : List ℕ) × (x : ℕ) × (c ∷ v ≡ m ++ (x ∷ [])) × (nat_eq x 13 ≡ false))
      × (scalar_at (as_key flow) (text ++ (c ∷ v)) (ahead text flow i).at ≡ Stands t (length (text ++ (c ∷ v)))) × (suc n ≤ length t) → IsKeyed flow text i n
  by_key (c, v, t, fit, feed, small, (m, x, is, return), stands, long) =
      let both = ahead_longer c v fit flow text i low feed starts in
      let whole : text ++ (c ∷ v) ≡ (text ++ m) ++ (x ∷ []) = ap (λ w. text ++ w) is ∙ sym (append_assoc text m (x ∷ [])) in
      let ascii = last_small m x (sym (ap (each is_ascii) is) ∙ small) in
      let mark : nat_eq x 191 ≡ false = grind (arith, nat_tests, ascii) in
      let line : nat_eq x 10 ≡ false = last_feed m x (sym (ap no_feed is) ∙ fit_feed c v fit feed) in (
        c ∷ v,
        t,
        small,
        ap (ends_with 13) whole ∙ last_byte 13 (text ++ m) x ∙ return,
        ap (λ y. is_first_column y (length y)) whole ∙ stale_last (text ++ m) x line mark,
        both,
        ap (λ q. cond q (scalar_at (as_key flow) (text ++ (c ∷ v)) (ahead (text ++ (c ∷ v)) flow i).at) (Fails (ahead (text ++ (c ∷ v)) flow i).at)) both.3 ∙ ap (scalar_at (as_key flow) (text ++ (c ∷ v))) both.0 ∙ stands,
        omega (arith, long),
      )

-- ---- the entry

module _ (fs : List Form) (x : Level) (xs : List Level) (done : Forest) (text : List ℕ) (i : ℕ) (low : i ≤ length text) where
  -- outside of brackets
  pub key_completes : (m : ℕ) → (ahead text false i).fresh ≡ true → (ahead text false i).column ≡ m → starts_scalar (ahead text false i).token ≡ true → (ahead text false i).at < length text → ends_with 13 text ≡ false → scalar_at (as_key false) text (ahead text false i).at ≡ Fails (length text)
      → Agrees (Entries m ∷ fs) (x ∷ xs) → Nests (Entries m ∷ fs) → (more : List ℕ) × (each is_ascii more ≡ true) × (tree : Forest) × Ends (text ++ more) (Entries m ∷ fs) (x ∷ xs) done i (Tree tree)
  key_completes m fresh column starts within last fails agrees nests = by_key (keyed false text i (all_sizes done) low starts within last fails) where
    by_key : IsKeyed false text i (all_sizes done) → (more : List ℕ) × (each is_ascii more ≡ true) × (tree : Forest) × Ends (text ++ more) (Entries m ∷ fs) (x ∷ xs) done i (Tree tree)
    by_key (w, t, small, return, stale, both, stands, long) =
        let size = length-append text w in
        let at_is = both.0 in
        let r =
        colon_completes m fs x xs done (text ++ w) i t (length (text ++ w)) (omega (arith, low, size)) (both.1 ∙ fresh) (both.2 ∙ column) stands (omega (arith, at_is, within, size)) (omega arith) (ap is_blank (over (text ++ w))) stale (fresh_key done t long) agrees nests in
        (w ++ (58 ∷ []), each_both w (58 ∷ []) small refl, r.0, subst (λ y. Ends y (Entries m ∷ fs) (x ∷ xs) done i (Tree r.0)) (append_assoc text w (58 ∷ [])) r.1)

  -- between them
  pub flow_key_completes : starts_scalar (ahead text true i).token ≡ true → (ahead text true i).at < length text → ends_with 13 text ≡ false → scalar_at (as_key true) text (ahead text true i).at ≡ Fails (length text)
      → Agrees (Flow true ∷ fs) (x ∷ xs) → Nests (Flow true ∷ fs) → (more : List ℕ) × (each is_ascii more ≡ true) × (tree : Forest) × Enters (text ++ more) (Flow true ∷ fs) (x ∷ xs) done i (Tree tree)
  flow_key_completes starts within last fails agrees nests = by_key (keyed true text i (all_sizes done) low starts within last fails) where
    by_key : IsKeyed true text i (all_sizes done) → (more : List ℕ) × (each is_ascii more ≡ true) × (tree : Forest) × Enters (text ++ more) (Flow true ∷ fs) (x ∷ xs) done i (Tree tree)
    by_key (w, t, small, return, stale, both, stands, long) =
        let size = length-append text w in
        let at_is = both.0 in
        let end : (ahead (text ++ w) true (length (text ++ w))).token ≡ End = end_flows false true (text ++ w) (length (text ++ w)) (sym (ap (λ y. (ahead y false (length (text ++ w))).token) (append-nil (text ++ w))) ∙ end_ahead (text ++ w)) in
        let r = key_closes fs x xs done i t (length (text ++ w)) (text ++ w) (omega (arith, low, size)) return stands (omega (arith, at_is, within, size)) (omega arith) end (fresh_key done t long) agrees nests in
        let tail = closers (Flow true ∷ fs) in
        let is : ((text ++ w) ++ (10 ∷ [])) ++ closers (Flow true ∷ fs) ≡ text ++ ((w ++ (10 ∷ [])) ++ closers (Flow true ∷ fs)) = ap (λ y. y ++ closers (Flow true ∷ fs)) (append_assoc text w (10 ∷ [])) ∙ append_assoc text (w ++ (10 ∷ [])) (closers (Flow true ∷ fs)) in
        ((w ++ (10 ∷ [])) ++ closers (Flow true ∷ fs), each_both (w ++ (10 ∷ [])) (closers (Flow true ∷ fs)) (each_both w (10 ∷ []) small refl) (closers_ascii (Flow true ∷ fs)), r.0, subst (λ y. Enters y (Flow true ∷ fs) (x ∷ xs) done i (Tree r.0)) is r.1)
