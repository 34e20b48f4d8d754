-- A `-` at a text's end, where another entry of a block mapping may stand, begins a key that none before has with letters and a colon behind it. By induction on the letters.
use Rattle.std.proofs.Common.{◌≡◌, ℕ, zero, suc, ◌+◌, ◌-◌, ◌<◌, ◌≤◌, Bool, true, false, ◌||◌, ◌&&◌, cond, nat_eq, arith, List, [], ◌∷◌, ◌++◌, Option, Some, None, take, drop, get_or, length, refl, sym, ap, ◌∙◌, subst, append_assoc, length-append, length-drop}
use Rattle.std.proofs.lemmas.Bool.Decides.{nat_tests}
use Rattle.std.proofs.lemmas.List.{take_all}
use Rattle.std.proofs.lemmas.Slice.Eq.{bytes_eq-Decides}
use Rattle.std.specs.Prelude.{slice_index}
use Rattle.std.specs.Str.{bytes_eq}
use Rattle.doc_values.specs.Tree.{Forest, Nil, Node, key_is, has_key}
use Rattle.doc_values.specs.Unfinished.{Level}
use Rattle.yaml_scalars.specs.declared.plain_line.Why.TheVariants.{Break}
use Rattle.yaml_scalars.specs.Lines.{Stands, Fails, lines, is_mark, is_cut_mark, keep, trimmed, is_blank}
use Rattle.yaml_scalars.specs.Plain.{plain_len, content, why, reason, first, plain_on}
use Rattle.yaml_scalars.specs.Scalar.{is_first_column, begins_order_mark, begins_quoted, begins_block, plain_scalar, quoted_scalar, block_scalar, scalar_at}
use Rattle.yaml_laws.proofs.Agree.{drop_before}
use Rattle.yaml_laws.proofs.Longer.{rest_of, no_feed, one_line}
use Rattle.yaml_grammar.specs.declared.ahead.Token.TheVariants.{Dash}
use Rattle.yaml_grammar.specs.declared.form.Form.{Form}
use Rattle.yaml_grammar.specs.declared.form.Form.TheVariants.{Entries}
use Rattle.yaml_grammar.specs.Ahead.{ahead}
use Rattle.yaml_grammar.specs.Nodes.{as_key, scalar_ahead}
use Rattle.yaml_grammar.specs.Signs.{Tree}
use Rattle.yaml_grammar.specs.code.Closers.{letters}
use Rattle.yaml_grammar.specs.code.Rest.{Ends}
use Rattle.yaml_grammar.specs.code.Steps.{Agrees, Nests}
use Rattle.yaml_grammar.proofs.AheadEnds.{seam_get}
use Rattle.yaml_grammar.proofs.AheadLonger.{BothBegin, ahead_longer}
use Rattle.yaml_grammar.proofs.Continuations.{colon_completes}
use Rattle.yaml_grammar.proofs.Dashes.{dash_longer}

-- ---- letters

letters_feed : (n : ℕ) → no_feed (letters n) ≡ true
letters_feed zero = refl
letters_feed (suc n) = letters_feed n

letters_long : (n : ℕ) → length (letters n) ≡ n
letters_long zero = refl
letters_long (suc n) = ap suc (letters_long n)

letters_go : (white : Bool) (n : ℕ) → plain_len false white (letters n) ≡ n
letters_go white zero = refl
letters_go white (suc n) = ap suc (letters_go false n)

letters_keep : (n : ℕ) → trimmed (letters n) ≡ letters n
letters_keep zero = refl
letters_keep (suc n) = ap (keep 97) (letters_keep n) ∙ some n where
  some : (n : ℕ) → keep 97 (letters n) ≡ 97 ∷ letters n
  some zero = refl
  some (suc n) = refl

-- ---- the key

unmarked : (n : ℕ) → (is_mark (45 ∷ letters (suc n)) || is_cut_mark (45 ∷ letters (suc n))) ≡ false
unmarked zero = refl
unmarked (suc n) = refl

key_content : (n : ℕ) → content false (45 ∷ letters (suc n)) ≡ 45 ∷ letters (suc n)
key_content n =
    let len : plain_len false false (45 ∷ letters (suc n)) ≡ suc (suc n) = ap suc (letters_go false (suc n)) in
    let size : length (45 ∷ letters (suc n)) ≡ suc (suc n) = ap suc (letters_long (suc n)) in
    ap (λ k. trimmed (take k (45 ∷ letters (suc n)))) len ∙ ap trimmed (take_all (suc (suc n)) (45 ∷ letters (suc n)) (omega (arith, size))) ∙ ap (keep 45) (letters_keep (suc n))

key_breaks : (n : ℕ) → reason false (45 ∷ letters (suc n)) ≡ Break
key_breaks n = ap (λ k. why (drop k (45 ∷ letters (suc n)))) (ap suc (letters_go false (suc n))) ∙ ap why (past (suc n)) where
  past : (n : ℕ) → drop n (letters n) ≡ []
  past zero = refl
  past (suc n) = past n

key_on : (fresh : Bool) (at n : ℕ) → plain_on (as_key false) fresh (rest_of at (45 ∷ letters (suc n)) ∷ []) ≡ Stands (45 ∷ letters (suc n)) (at + suc (suc n))
key_on fresh at n =
    ap (λ q. cond (fresh && q) (Fails (at + 3)) (first (as_key false) (reason false (45 ∷ letters (suc n))) at (45 ∷ letters (suc n)) [])) (unmarked n) ∙ by_fresh fresh
    ∙ ap (λ w. first (as_key false) w at (45 ∷ letters (suc n)) []) (key_breaks n) ∙ ap (λ (y : List ℕ). Stands y (at + length y)) (key_content n) ∙ ap (λ k. Stands (45 ∷ letters (suc n)) (at + suc k)) (letters_long (suc n)) where
      by_fresh : (q : Bool) → cond (q && false) (Fails (at + 3)) (first (as_key false) (reason false (45 ∷ letters (suc n))) at (45 ∷ letters (suc n)) []) ≡ first (as_key false) (reason false (45 ∷ letters (suc n))) at (45 ∷ letters (suc n)) []
      by_fresh true = refl
      by_fresh false = refl

key_stands : (text : List ℕ) (at n : ℕ) → at ≤ length text → drop at text ≡ 45 ∷ [] → scalar_at (as_key false) (text ++ letters (suc n)) at ≡ Stands (45 ∷ letters (suc n)) (at + suc (suc n))
key_stands text at n low e =
    let there : drop at (text ++ letters (suc n)) ≡ 45 ∷ letters (suc n) = drop_before at text (letters (suc n)) low ∙ ap (λ t. t ++ letters (suc n)) e in
    ap (λ d. cond (begins_quoted d) (quoted_scalar (as_key false) (text ++ letters (suc n)) at) (cond (begins_block (as_key false) d) (block_scalar (as_key false) (text ++ letters (suc n)) at) (plain_scalar (as_key false) (text ++ letters (suc n)) at))) there
    ∙ ap (λ d. plain_on (as_key false) (is_first_column (text ++ letters (suc n)) at) (lines at d)) there ∙ ap (plain_on (as_key false) (is_first_column (text ++ letters (suc n)) at)) (one_line at (45 ∷ letters (suc n)) (letters_feed (suc n)))
    ∙ key_on (is_first_column (text ++ letters (suc n)) at) at n

-- ---- a key that none before has

abbrev pub key_size : Option (List ℕ) → ℕ
key_size None = 0
key_size (Some k) = length k

-- all keys together
abbrev pub all_sizes : Forest → ℕ
all_sizes Nil = 0
all_sizes (Node l kids rest) = key_size l.key + all_sizes rest

pub fresh_key : (before : Forest) (k : List ℕ) → all_sizes before < length k → has_key before k ≡ false
fresh_key Nil k l = refl
fresh_key (Node m kids rest) k l = by_key m.key l (λ g. fresh_key rest k g) where
  not_same : (j k : List ℕ) → length j < length k → bytes_eq j k ≡ false
  not_same j k l = by_test (bytes_eq j k) refl where
    by_test : (q : Bool) → bytes_eq j k ≡ q → q ≡ false
    by_test false e = refl
    by_test true e = absurd (let same : j ≡ k = (bytes_eq-Decides j k).0 e in let z = ap (λ (t : List ℕ). length t) same in omega (arith, l, z))

  by_key : (o : Option (List ℕ)) → key_size o + all_sizes rest < length k → (all_sizes rest < length k → has_key rest k ≡ false) → (key_is o k || has_key rest k) ≡ false
  by_key None l r = let rest_of_it : 0 + all_sizes rest < length k = l in r (omega (arith, rest_of_it))
  by_key (Some j) l r =
      let both : length j + all_sizes rest < length k = l in
      ap (λ q. q || has_key rest k) (not_same j k (omega (arith, both))) ∙ r (omega (arith, both))

-- ---- the entry

-- behind a letter begins no line
letters_last : (n : ℕ) → letters (suc n) ≡ letters n ++ (97 ∷ [])
letters_last zero = refl
letters_last (suc n) = ap (λ t. 97 ∷ t) (letters_last n)

no_order_mark : (g : List ℕ) → (nat_eq (suc (length g)) 3 && begins_order_mark (g ++ (97 ∷ []))) ≡ false
no_order_mark [] = refl
no_order_mark (a ∷ []) = refl
no_order_mark (a ∷ b ∷ []) = by_tests (nat_eq a 239) (nat_eq b 187) where
  by_tests : (p q : Bool) → (true && (p && (q && false))) ≡ false
  by_tests true true = refl
  by_tests true false = refl
  by_tests false q = refl
no_order_mark (a ∷ b ∷ c ∷ g) = let z : nat_eq (suc (suc (suc (suc (length g))))) 3 ≡ false = grind (arith, nat_tests) in ap (λ q. q && begins_order_mark (a ∷ b ∷ c ∷ (g ++ (97 ∷ [])))) z

stale_of : (g : List ℕ) → is_first_column (g ++ (97 ∷ [])) (length (g ++ (97 ∷ []))) ≡ false
stale_of g =
    let n : length (g ++ (97 ∷ [])) ≡ suc (length g) = length-append g (97 ∷ []) ∙ omega arith in
    let p : suc (length g) - 1 ≡ length g = omega arith in
    let z : nat_eq (suc (length g)) 0 ≡ false = grind (arith, nat_tests) in
    ap (is_first_column (g ++ (97 ∷ []))) n ∙ ap (λ q. (nat_eq (suc (length g)) 0 || q) || nat_eq (slice_index (g ++ (97 ∷ [])) (suc (length g) - 1)) 10) (no_order_mark g)
    ∙ ap (λ q. (q || false) || nat_eq (slice_index (g ++ (97 ∷ [])) (suc (length g) - 1)) 10) z ∙ ap (λ b. nat_eq b 10) (ap (λ k. get_or (g ++ (97 ∷ [])) k 0) p ∙ seam_get g [] 97)

stale : (front : List ℕ) (n : ℕ) → is_first_column (front ++ letters (suc n)) (length (front ++ letters (suc n))) ≡ false
stale front n = ap (λ t. is_first_column t (length t)) (ap (λ t. front ++ t) (letters_last n) ∙ sym (append_assoc front (letters n) (97 ∷ []))) ∙ stale_of (front ++ letters n)

pub dash_key_completes : (m : ℕ) (fs : List Form) (x : Level) (xs : List Level) (done : Forest) (text : List ℕ) (i : ℕ) → i ≤ length text → (ahead text false i).fresh ≡ true → (ahead text false i).column ≡ m → (ahead text false i).token ≡ Dash → drop (ahead text false i).at text ≡ 45 ∷ [] → Agrees (Entries m ∷ fs) (x ∷ xs) → Nests (Entries m ∷ fs)
    → (n : ℕ) × (tree : Forest) × Ends ((text ++ letters n) ++ (58 ∷ [])) (Entries m ∷ fs) (x ∷ xs) done i (Tree tree)
dash_key_completes m fs x xs done text i low fresh column h e agrees nests =
    let one = dash_longer text i low h e in
    let two = ahead_longer 97 (letters (all_sizes done)) refl false (text ++ (97 ∷ [])) i (omega (arith, low, length-append text (97 ∷ []))) (letters_feed (all_sizes done)) one.3 in
    let is : (text ++ (97 ∷ [])) ++ (97 ∷ letters (all_sizes done)) ≡ text ++ letters (suc (suc (all_sizes done))) = append_assoc text (97 ∷ []) (97 ∷ letters (all_sizes done)) in
    let size : (ahead text false i).at + 1 ≡ length text = (let z = ap (λ (t : List ℕ). length t) e in omega (arith, z, length-drop (ahead text false i).at text)) in
    let both : BothBegin (ahead text false i) (ahead (text ++ letters (suc (suc (all_sizes done)))) false i) = subst (λ t. BothBegin (ahead text false i) (ahead t false i)) is (two.0 ∙ one.0, two.1 ∙ one.1, two.2 ∙ one.2, two.3) in
    let long : length (text ++ letters (suc (suc (all_sizes done)))) ≡ (ahead text false i).at + suc (suc (suc (all_sizes done))) = (let y = letters_long (suc (suc (all_sizes done))) in omega (arith, size, y, length-append text (letters (suc (suc (all_sizes done)))))) in
    let scalar = key_stands text (ahead text false i).at (suc (all_sizes done)) (omega (arith, size)) e in
    let stands : scalar_ahead (text ++ letters (suc (suc (all_sizes done)))) (as_key false) (ahead (text ++ letters (suc (suc (all_sizes done)))) false i) ≡ Stands (45 ∷ letters (suc (suc (all_sizes done)))) (length (text ++ letters (suc (suc (all_sizes done))))) =
    ap (λ q. cond q (scalar_at (as_key false) (text ++ letters (suc (suc (all_sizes done)))) (ahead (text ++ letters (suc (suc (all_sizes done)))) false i).at) (Fails (ahead (text ++ letters (suc (suc (all_sizes done)))) false i).at)) both.3
    ∙ ap (scalar_at (as_key false) (text ++ letters (suc (suc (all_sizes done))))) both.0 ∙ scalar ∙ ap (Stands (45 ∷ letters (suc (suc (all_sizes done))))) (sym long) in
    let new = fresh_key done (45 ∷ letters (suc (suc (all_sizes done)))) (let y = letters_long (suc (suc (all_sizes done))) in omega (arith, y)) in
    let nil : is_blank (drop (length (text ++ letters (suc (suc (all_sizes done))))) (text ++ letters (suc (suc (all_sizes done))))) ≡ true = ap is_blank (over (text ++ letters (suc (suc (all_sizes done))))) in
    let at_is = both.0 in
    let r =
    colon_completes m fs x xs done (text ++ letters (suc (suc (all_sizes done)))) i (45 ∷ letters (suc (suc (all_sizes done)))) (length (text ++ letters (suc (suc (all_sizes done))))) (omega (arith, low, length-append text (letters (suc (suc (all_sizes done)))))) (both.1 ∙ fresh) (both.2 ∙ column) stands
    (omega (arith, at_is, long)) (omega arith) nil (stale text (suc (all_sizes done))) new agrees nests in
    (suc (suc (all_sizes done)), r.0, r.1) where
      over : (t : List ℕ) → drop (length t) t ≡ []
      over [] = refl
      over (b ∷ t) = over t
