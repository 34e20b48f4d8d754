-- Values that have a spelling, by the table of pairs: what stands in them does not matter, and each is the same as itself. By their kinds.
use Rattle.std.proofs.Common.{◌≡◌, ℕ, suc, ◌^◌, Bool, true, false, ◌||◌, ℤ, pos, ◌*ℤ◌, List, [], ◌∷◌, refl, sym, ap, ap₂, ◌∙◌, ◌⊎◌, inl, inr, true≢false}
use Rattle.std.specs.Prelude.{◌&&◌, not, Some, None, if◌then◌else◌}
use Rattle.std.specs.List.{list_any}
use Rattle.std.specs.Option.{option_map_or}
use Rattle.std.specs.Ordering.{int_eq}
use Rattle.std.specs.Str.{bytes_eq}
use Rattle.std.proofs.lemmas.Bool.Decides.{Decides-int_eq}
use Rattle.std.proofs.lemmas.Slice.Eq.{bytes_eq-Decides}
use Rattle.doc_values.specs.Tree.{Nil}
use Rattle.doc_values.specs.declared.kind.Kind.{Kind}
use Rattle.doc_values.specs.declared.kind.Kind.TheVariants as kind
use Rattle.generator_laws.specs.code.GeneratedSyntax.{items_of}
use Rattle.rule_generator.specs.GeneratedRules.{is_plain, is_same}
use Rattle.rule_generator.proofs.Distinct.{tested}
use Rattle.rule_meaning.specs.Pairs.{equal, equal_by, is_yes, same_items, same_maps, told}
use Rattle.rule_meaning.specs.Values.{Value, is_list, is_text, values_in}
use Rattle.rule_spelling.specs.Spelling.{ends_in_backslash}

pub yes-told : (b : Bool) → is_yes (told b) ≡ b
yes-told true = refl
yes-told false = refl

-- what stands in a value that has a spelling does not matter
plain-by : (f g i j : Bool) (x : Kind) (lt : List ℕ) (y : Kind) (rt : List ℕ) → is_plain x lt ≡ true → equal_by f g x lt y rt ≡ equal_by i j x lt y rt
plain-by f g i j kind.Null lt kind.Null rt h = refl
plain-by f g i j kind.Null lt (kind.Truth c) rt h = refl
plain-by f g i j kind.Null lt (kind.Whole m) rt h = refl
plain-by f g i j kind.Null lt (kind.Fraction e) rt h = refl
plain-by f g i j kind.Null lt kind.Text rt h = refl
plain-by f g i j kind.Null lt kind.List rt h = refl
plain-by f g i j kind.Null lt kind.Map rt h = refl
plain-by f g i j kind.Null lt kind.Pattern rt h = refl
plain-by f g i j kind.Null lt (kind.Limits r) rt h = refl
plain-by f g i j (kind.Truth b) lt kind.Null rt h = refl
plain-by f g i j (kind.Truth b) lt (kind.Truth c) rt h = refl
plain-by f g i j (kind.Truth b) lt (kind.Whole m) rt h = refl
plain-by f g i j (kind.Truth b) lt (kind.Fraction e) rt h = refl
plain-by f g i j (kind.Truth b) lt kind.Text rt h = refl
plain-by f g i j (kind.Truth b) lt kind.List rt h = refl
plain-by f g i j (kind.Truth b) lt kind.Map rt h = refl
plain-by f g i j (kind.Truth b) lt kind.Pattern rt h = refl
plain-by f g i j (kind.Truth b) lt (kind.Limits r) rt h = refl
plain-by f g i j (kind.Whole n) lt kind.Null rt h = refl
plain-by f g i j (kind.Whole n) lt (kind.Truth c) rt h = refl
plain-by f g i j (kind.Whole n) lt (kind.Whole m) rt h = refl
plain-by f g i j (kind.Whole n) lt (kind.Fraction e) rt h = refl
plain-by f g i j (kind.Whole n) lt kind.Text rt h = refl
plain-by f g i j (kind.Whole n) lt kind.List rt h = refl
plain-by f g i j (kind.Whole n) lt kind.Map rt h = refl
plain-by f g i j (kind.Whole n) lt kind.Pattern rt h = refl
plain-by f g i j (kind.Whole n) lt (kind.Limits r) rt h = refl
plain-by f g i j (kind.Fraction d) lt kind.Null rt h = refl
plain-by f g i j (kind.Fraction d) lt (kind.Truth c) rt h = refl
plain-by f g i j (kind.Fraction d) lt (kind.Whole m) rt h = refl
plain-by f g i j (kind.Fraction d) lt (kind.Fraction e) rt h = refl
plain-by f g i j (kind.Fraction d) lt kind.Text rt h = refl
plain-by f g i j (kind.Fraction d) lt kind.List rt h = refl
plain-by f g i j (kind.Fraction d) lt kind.Map rt h = refl
plain-by f g i j (kind.Fraction d) lt kind.Pattern rt h = refl
plain-by f g i j (kind.Fraction d) lt (kind.Limits r) rt h = refl
plain-by f g i j kind.Text lt kind.Null rt h = refl
plain-by f g i j kind.Text lt (kind.Truth c) rt h = refl
plain-by f g i j kind.Text lt (kind.Whole m) rt h = refl
plain-by f g i j kind.Text lt (kind.Fraction e) rt h = refl
plain-by f g i j kind.Text lt kind.Text rt h = refl
plain-by f g i j kind.Text lt kind.List rt h = refl
plain-by f g i j kind.Text lt kind.Map rt h = refl
plain-by f g i j kind.Text lt kind.Pattern rt h = refl
plain-by f g i j kind.Text lt (kind.Limits r) rt h = refl
plain-by f g i j kind.List lt y rt h = absurd (true≢false (sym h))
plain-by f g i j kind.Map lt y rt h = absurd (true≢false (sym h))
plain-by f g i j kind.Pattern lt y rt h = absurd (true≢false (sym h))
plain-by f g i j (kind.Limits r) lt y rt h = absurd (true≢false (sym h))

-- its kind is no list
pub plain-no-list : (k : Kind) (text : List ℕ) → is_plain k text ≡ true → is_list k ≡ false
plain-no-list kind.Null text h = refl
plain-no-list (kind.Truth b) text h = refl
plain-no-list (kind.Whole n) text h = refl
plain-no-list (kind.Fraction d) text h = refl
plain-no-list kind.Text text h = refl
plain-no-list kind.List text h = absurd (true≢false (sym h))
plain-no-list kind.Map text h = absurd (true≢false (sym h))
plain-no-list kind.Pattern text h = absurd (true≢false (sym h))
plain-no-list (kind.Limits r) text h = absurd (true≢false (sym h))

-- it is the same as itself
own-by : (l m : Bool) (k : Kind) (text : List ℕ) → is_plain k text ≡ true → is_yes (equal_by l m k text k text) ≡ true
own-by l m kind.Null text h = refl
own-by l m (kind.Truth true) text h = refl
own-by l m (kind.Truth false) text h = refl
own-by l m (kind.Whole n) text h = yes-told (int_eq n n) ∙ (Decides-int_eq n n).1 refl
own-by l m (kind.Fraction d) text h =
    let product : ℤ = d.units *ℤ pos (10 ^ d.scale) in
    yes-told (int_eq product product) ∙ (Decides-int_eq product product).1 refl
own-by l m kind.Text text h = yes-told (bytes_eq text text) ∙ (bytes_eq-Decides text text).1 refl
own-by l m kind.List text h = absurd (true≢false (sym h))
own-by l m kind.Map text h = absurd (true≢false (sym h))
own-by l m kind.Pattern text h = absurd (true≢false (sym h))
own-by l m (kind.Limits r) text h = absurd (true≢false (sym h))

pub own-value : (v : Value) → is_plain v.kind v.text ≡ true → is_same v v ≡ true
own-value v h = own-by (same_items v.contents v.contents) (same_maps v.contents v.contents) v.kind v.text h

-- against the items of a literal
pub items-same : (v : Value) (at : ℕ → ℕ) (i : ℕ) (vs : List Value) → is_plain v.kind v.text ≡ true → list_any (λ item. is_yes (equal v item)) (values_in (items_of at i vs)) ≡ list_any (is_same v) vs
items-same v at i [] h = refl
items-same v at i (w ∷ vs) h = ap₂ (λ (a b : Bool). a || b) (ap is_yes (plain-by (same_items v.contents Nil) (same_maps v.contents Nil) (same_items v.contents w.contents) (same_maps v.contents w.contents) v.kind v.text w.kind w.text h)) (items-same v at (suc i) vs h)

-- ---- types

-- a value is a text
text-by : (l m : Bool) (k : Kind) (text type : List ℕ) → is_yes (equal_by l m k text kind.Text type) ≡ (is_text k && bytes_eq text type)
text-by l m kind.Null text type = refl
text-by l m (kind.Truth b) text type = refl
text-by l m (kind.Whole n) text type = refl
text-by l m (kind.Fraction d) text type = refl
text-by l m kind.Text text type = yes-told (bytes_eq text type)
text-by l m kind.List text type = refl
text-by l m kind.Map text type = refl
text-by l m kind.Pattern text type = refl
text-by l m (kind.Limits r) text type = refl

pub equals-text : (v : Value) (type : List ℕ) → is_yes (equal v (record { kind = kind.Text; text = type; contents = Nil })) ≡ (is_text v.kind && bytes_eq v.text type)
equals-text v type = text-by (same_items v.contents Nil) (same_maps v.contents Nil) v.kind v.text type

-- a text that is a type has a spelling as the type has
pub type-spelled : (k : Kind) (text type : List ℕ) → ends_in_backslash type ≡ false
    → (is_text k && bytes_eq text type) ≡ option_map_or (λ t. bytes_eq t type) (if is_text k && not (ends_in_backslash text) then Some text else None) false
type-spelled k text type h = by (is_text k) (tested (bytes_eq text type))
  where
    apart : (b : Bool) → bytes_eq text type ≡ false → bytes_eq text type ≡ option_map_or (λ t. bytes_eq t type) (if b then Some text else None) false
    apart true e = refl
    apart false e = e

    by : (b : Bool) → (bytes_eq text type ≡ true) ⊎ (bytes_eq text type ≡ false)
        → (b && bytes_eq text type) ≡ option_map_or (λ t. bytes_eq t type) (if b && not (ends_in_backslash text) then Some text else None) false
    by false e = refl
    by true (inl e) =
        let spelled : ends_in_backslash text ≡ false = ap ends_in_backslash ((bytes_eq-Decides text type).0 e) ∙ h in
        sym (ap (λ b. option_map_or (λ t. bytes_eq t type) (if not b then Some text else None) false) spelled)
    by true (inr e) = apart (not (ends_in_backslash text)) e
