-- A scalar that stands at the text's end stands with more behind the text: a key with a colon, and in flow any scalar with a bracket or a comma.
use Rattle.std.proofs.Common.{◌≡◌, ℕ, ◌<◌, ◌≤◌, Bool, true, false, ◌||◌, ◌&&◌, not, cond, nat_eq, arith, List, [], ◌∷◌, ◌++◌, drop, length, refl, sym, ap, ◌∙◌, true≢false, append-nil, length-drop}
use Rattle.std.proofs.lemmas.Bool.Decides.{nat_tests}
use Rattle.yaml_scalars.specs.declared.scalar.Setting.{Setting}
use Rattle.yaml_scalars.specs.Lines.{Outcome, Stands, begins_with, ends_with, is_blank}
use Rattle.yaml_scalars.specs.Plain.{is_flow_mark, is_unsafe}
use Rattle.yaml_scalars.specs.Scalar.{begins_quoted, begins_block, plain_scalar, quoted_scalar, block_scalar, scalar_at}
use Rattle.yaml_scalars.specs.code.Walk.{line_at, has_break, behind}
use Rattle.yaml_laws.specs.code.Endings.{last_mark}
use Rattle.yaml_laws.proofs.Agree.{drop_before}
use Rattle.yaml_laws.proofs.FlowFed.{plain_fed}
use Rattle.yaml_laws.proofs.KeyLines.{ends_past}
use Rattle.yaml_laws.proofs.Longer.{no_feed}
use Rattle.yaml_laws.proofs.PlainClosed.{plain_closed}
use Rattle.yaml_laws.proofs.PlainEnds.{plain_unmarked}
use Rattle.yaml_laws.proofs.PlainFollowed.{plain_keyed}
use Rattle.yaml_laws.proofs.QuotedFollowed.{IsApart, quoted_followed}

-- ---- the same kind of scalar

begins_longer : (k : ℕ) (xs y : List ℕ) → 0 < length xs → begins_with k (xs ++ y) ≡ begins_with k xs
begins_longer k [] y l = absurd (omega (arith, l))
begins_longer k (x ∷ xs) y l = refl

some_ahead : (text : List ℕ) (at : ℕ) → at < length text → 0 < length (drop at text)
some_ahead text at l = omega (arith, l, length-drop at text)

pub quoted_longer : (text y : List ℕ) (at : ℕ) → at < length text → begins_quoted (drop at (text ++ y)) ≡ begins_quoted (drop at text)
quoted_longer text y at l =
    let xs = drop at text in
    let some = some_ahead text at l in
    ap begins_quoted (drop_before at text y (omega (arith, l))) ∙ ap (λ q. q || begins_with 39 (drop at text ++ y)) (begins_longer 34 (drop at text) y some) ∙ ap (λ q. begins_with 34 (drop at text) || q) (begins_longer 39 (drop at text) y some)

pub block_longer : (s : Setting) (text y : List ℕ) (at : ℕ) → at < length text → begins_block s (drop at (text ++ y)) ≡ begins_block s (drop at text)
block_longer s text y at l =
    let some = some_ahead text at l in
    ap (begins_block s) (drop_before at text y (omega (arith, l))) ∙ ap (λ q. not (s.flow || s.one_line) && (q || begins_with 62 (drop at text ++ y))) (begins_longer 124 (drop at text) y some)
    ∙ ap (λ q. not (s.flow || s.one_line) && (begins_with 124 (drop at text) || q)) (begins_longer 62 (drop at text) y some)

pub kind_longer : (s : Setting) (text y : List ℕ) (at : ℕ) (o p : Outcome) → at < length text → (begins_quoted (drop at text) ≡ true → quoted_scalar s text at ≡ o → quoted_scalar s (text ++ y) at ≡ p) → (begins_quoted (drop at text) ≡ false → begins_block s (drop at text) ≡ true → block_scalar s text at ≡ o → block_scalar s (text ++ y) at ≡ p)
    → (begins_quoted (drop at text) ≡ false → begins_block s (drop at text) ≡ false → plain_scalar s text at ≡ o → plain_scalar s (text ++ y) at ≡ p) → scalar_at s text at ≡ o → scalar_at s (text ++ y) at ≡ p
kind_longer s text y at o p l f g k h =
    ap (λ q. cond q (quoted_scalar s (text ++ y) at) (cond (begins_block s (drop at (text ++ y))) (block_scalar s (text ++ y) at) (plain_scalar s (text ++ y) at))) (quoted_longer text y at l)
    ∙ ap (λ q. cond (begins_quoted (drop at text)) (quoted_scalar s (text ++ y) at) (cond q (block_scalar s (text ++ y) at) (plain_scalar s (text ++ y) at))) (block_longer s text y at l) ∙ by_kind (begins_quoted (drop at text)) (begins_block s (drop at text)) refl refl h where
      by_kind : (q r : Bool) → begins_quoted (drop at text) ≡ q → begins_block s (drop at text) ≡ r → cond q (quoted_scalar s text at) (cond r (block_scalar s text at) (plain_scalar s text at)) ≡ o → cond q (quoted_scalar s (text ++ y) at) (cond r (block_scalar s (text ++ y) at) (plain_scalar s (text ++ y) at)) ≡ p
      by_kind true r a b h = f a h
      by_kind false true a b h = g a b h
      by_kind false false a b h = k a b h

-- ---- quoted scalars

pub none_meets : (q : Bool) → (q && false) ≡ false
none_meets true = refl
none_meets false = refl

pub quoted_longer_text : (s : Setting) (text y : List ℕ) (at : ℕ) (t : List ℕ) (e : ℕ) → at ≤ length text → e ≤ length text → begins_with 39 y ≡ false → IsApart at text y → quoted_scalar s text at ≡ Stands t e → quoted_scalar s (text ++ y) at ≡ Stands t e
quoted_longer_text s text y at t e low near n a h = quoted_followed s text [] y at t e low near (λ z. n) (none_meets (ends_with 13 (drop at text))) a (ap (λ w. quoted_scalar s w at) (append-nil text) ∙ h)

-- ---- a key

no_block : (s : Setting) (xs : List ℕ) → s.one_line ≡ true → begins_block s xs ≡ true → ⊥
no_block s xs one h = true≢false (sym h ∙ ap (λ o. not (s.flow || o) && (begins_with 124 xs || begins_with 62 xs)) one ∙ by_flow s.flow) where
  by_flow : (f : Bool) → (not (f || true) && (begins_with 124 xs || begins_with 62 xs)) ≡ false
  by_flow true = refl
  by_flow false = refl

pub key_followed : (s : Setting) (text z : List ℕ) (at : ℕ) (t : List ℕ) (e : ℕ) → s.one_line ≡ true → at < length text → e ≤ length text → is_blank (drop e text) ≡ true → is_unsafe s.flow (line_at z) ≡ true → scalar_at s text at ≡ Stands t e → scalar_at s (text ++ (58 ∷ z)) at ≡ Stands t e
key_followed s text z at t e one low near white loose h =
    kind_longer s text (58 ∷ z) at (Stands t e) (Stands t e) low
    (λ q g. quoted_longer_text s text (58 ∷ z) at t e (omega (arith, low)) near refl (none_meets (ends_with 13 (drop at text))) g)
    (λ q b g. absurd (no_block s (drop at text) one b))
    (λ q b g. plain_keyed s text z at t e one (omega (arith, low)) white loose g) h

-- ---- a scalar in flow

pub feed_none : (w : List ℕ) → has_break w ≡ false → no_feed w ≡ true
feed_none [] h = refl
feed_none (b ∷ w) h = by_byte (nat_eq b 10) h (λ g. feed_none w g) where
  by_byte : (q : Bool) → (q || has_break w) ≡ false → (has_break w ≡ false → no_feed w ≡ true) → cond q false (no_feed w) ≡ true
  by_byte true g r = absurd (true≢false g)
  by_byte false g r = r g

in_flow : (s : Setting) → s.flow ≡ true → s ≡ record { parent = s.parent; flow = true; one_line = s.one_line }
in_flow s e = ap (λ (q : Bool). record { parent = s.parent; flow = q; one_line = s.one_line }) e

no_flow_block : (s : Setting) (xs : List ℕ) → s.flow ≡ true → begins_block s xs ≡ true → ⊥
no_flow_block s xs flow h = true≢false (sym h ∙ ap (λ f. not (f || s.one_line) && (begins_with 124 xs || begins_with 62 xs)) flow)

pub flow_followed : (s : Setting) (text : List ℕ) (c : ℕ) (tail : List ℕ) (at : ℕ) (t : List ℕ) (e : ℕ) → s.flow ≡ true → is_flow_mark c ≡ true → has_break tail ≡ false → at < length text → e ≤ length text → last_mark (behind at (drop at text)) ≡ false → scalar_at s text at ≡ Stands t e → scalar_at s (text ++ (c ∷ tail)) at ≡ Stands t e
flow_followed s text c tail at t e flow mark one low near last h =
    let is = in_flow s flow in
    let new : Setting = record { parent = s.parent; flow = true; one_line = s.one_line } in
    let quote : nat_eq c 39 ≡ false = grind (arith, nat_tests, mark) in
    let feed : nat_eq c 10 ≡ false = grind (arith, nat_tests, mark) in
    let apart : (ends_with 13 (drop at text) && nat_eq c 10) ≡ false = ap (λ q. ends_with 13 (drop at text) && q) feed ∙ none_meets (ends_with 13 (drop at text)) in
    kind_longer s text (c ∷ tail) at (Stands t e) (Stands t e) low
    (λ q g. quoted_longer_text s text (c ∷ tail) at t e (omega (arith, low)) near quote apart g)
    (λ q b g. absurd (no_flow_block s (drop at text) flow b))
    (λ q b g. ap (λ w. plain_scalar w (text ++ (c ∷ tail)) at) is ∙ plain_closed c tail mark s.parent s.one_line text at t e (feed_none tail one) (omega (arith, low)) last (sym (ap (λ w. plain_scalar w text at) is) ∙ g)) h

-- one that ends with the text
pub flow_closed : (s : Setting) (text : List ℕ) (c : ℕ) (tail : List ℕ) (at : ℕ) (t : List ℕ) → s.flow ≡ true → is_flow_mark c ≡ true → has_break tail ≡ false → at < length text → scalar_at s text at ≡ Stands t (length text) → scalar_at s (text ++ (c ∷ tail)) at ≡ Stands t (length text)
flow_closed s text c tail at t flow mark one low h =
    let is = in_flow s flow in
    let quote : nat_eq c 39 ≡ false = grind (arith, nat_tests, mark) in
    let feed : nat_eq c 10 ≡ false = grind (arith, nat_tests, mark) in
    let apart : (ends_with 13 (drop at text) && nat_eq c 10) ≡ false = ap (λ q. ends_with 13 (drop at text) && q) feed ∙ none_meets (ends_with 13 (drop at text)) in
    kind_longer s text (c ∷ tail) at (Stands t (length text)) (Stands t (length text)) low
    (λ q g. quoted_longer_text s text (c ∷ tail) at t (length text) (omega (arith, low)) (omega arith) quote apart g)
    (λ q b g. absurd (no_flow_block s (drop at text) flow b))
    (λ q b g.
    let last = plain_unmarked s text at t (omega (arith, low)) g in
    ap (λ w. plain_scalar w (text ++ (c ∷ tail)) at) is ∙ plain_closed c tail mark s.parent s.one_line text at t (length text) (feed_none tail one) (omega (arith, low)) last (sym (ap (λ w. plain_scalar w text at) is) ∙ g)) h

-- one with a further line behind the text, which begins with such a mark
pub flow_fed : (s : Setting) (text : List ℕ) (c : ℕ) (tail : List ℕ) (at : ℕ) (t : List ℕ) (e : ℕ) → s.flow ≡ true → is_flow_mark c ≡ true → ends_with 13 text ≡ false → at < length text → e ≤ length text → scalar_at s text at ≡ Stands t e → scalar_at s (text ++ (10 ∷ c ∷ tail)) at ≡ Stands t e
flow_fed s text c tail at t e flow mark last low near h =
    let is = in_flow s flow in
    let apart : (ends_with 13 (drop at text) && true) ≡ false = ap (λ q. q && true) (ends_past at text last) in
    kind_longer s text (10 ∷ c ∷ tail) at (Stands t e) (Stands t e) low
    (λ q g. quoted_longer_text s text (10 ∷ c ∷ tail) at t e (omega (arith, low)) near refl apart g)
    (λ q b g. absurd (no_flow_block s (drop at text) flow b))
    (λ q b g. ap (λ w. plain_scalar w (text ++ (10 ∷ c ∷ tail)) at) is ∙ plain_fed c mark s.parent s.one_line text tail at t e (omega (arith, low)) last (sym (ap (λ w. plain_scalar w text at) is) ∙ g)) h
