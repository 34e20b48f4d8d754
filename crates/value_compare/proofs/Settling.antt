-- What is asked of right values one after another: of those so far, of all where it is settled, and of all at the end.
use Rattle.std.proofs.Common.{◌≡◌, ℕ, ◌+◌, ◌<◌, ◌≤◌, Bool, true, false, List, [], length, take, get_or, refl, sym, ap, ◌∙◌}
use mathlib.Core.Bool.{beq}
use Rattle.std.specs.Prelude.{◌&&◌, ◌||◌, not}
use Rattle.std.proofs.lemmas.List.{take_all}
use Rattle.std.specs.List.{list_all, list_any}
use Rattle.guard_syntax.specs.declared.syntax.Op.TheVariants as op
use Rattle.rule_meaning.specs.Pairs.{is_no, is_yes}
use Rattle.rule_meaning.specs.RowTests.{binary, is_in, is_member_of_some, is_not_in, is_some_right}
use Rattle.rule_meaning.specs.Values.{Value, is_list, values_in}
use Rattle.value_compare.specs.code.Settled.{answer_to, ends, items_settled, settled}
use Rattle.value_compare.specs.declared.members.Asked.{Asked}
use Rattle.value_compare.specs.declared.members.Asked.TheVariants.{Equal, Member}
use Rattle.value_compare.proofs.Walks.{all_hit, all_more, any_hit, any_more}

is-not : (b : Bool) → not b ≡ false → b ≡ true
is-not true e = refl
is-not false e = sym e

is-so : (b : Bool) → not b ≡ true → b ≡ false
is-so true e = sym e
is-so false e = refl

pub same_as : (a b : Bool) → beq a b ≡ true → a ≡ b
same_as true true e = refl
same_as true false e = sym e
same_as false true e = e
same_as false false e = refl

pub other_than : (a b : Bool) → beq a b ≡ false → a ≡ not b
other_than true true e = e
other_than true false e = refl
other_than false true e = refl
other_than false false e = sym e

module _ (what : Asked) (l : Value) where
  pub settled-none : (n : Bool) → settled n what l [] ≡ n
  settled-none true = refl
  settled-none false = refl

  module _ (rs : List Value) where
    -- one right value more
    pub settled-more : (n : Bool) (i : ℕ) (r : Value) → i < length rs → get_or rs i r ≡ r → settled n what l (take i rs) ≡ n → ends n (answer_to what l r) ≡ false → settled n what l (take (i + 1) rs) ≡ n
    settled-more true i r within is before here = all_more (λ (x : Value). is_no (answer_to what l x)) rs i r within is before (is-not (is_no (answer_to what l r)) here)
    settled-more false i r within is before here = any_more (λ (x : Value). is_yes (answer_to what l x)) rs i r within is before here

    pub settled-hit : (n : Bool) (i : ℕ) (r : Value) → i < length rs → get_or rs i r ≡ r → ends n (answer_to what l r) ≡ true → settled n what l rs ≡ not n
    settled-hit true i r within is here = all_hit (λ (x : Value). is_no (answer_to what l x)) rs i r within is (is-so (is_no (answer_to what l r)) here)
    settled-hit false i r within is here = any_hit (λ (x : Value). is_yes (answer_to what l x)) rs i r within is here

    pub settled-end : (n : Bool) (i : ℕ) → length rs ≤ i → settled n what l (take i rs) ≡ n → settled n what l rs ≡ n
    settled-end n i past before = ap (settled n what l) (sym (take_all i rs past)) ∙ before

-- `==` and `!=`, where there is a right value
pub equals-settled : (n : Bool) (l : Value) (rs : List Value) → is_some_right rs ≡ true → settled n Equal l rs ≡ binary op.Eq n l rs
equals-settled true l rs some = sym (ap (λ (b : Bool). b && list_all (λ (r : Value). is_no (answer_to Equal l r)) rs) some)
equals-settled false l rs some = refl

abbrev within_list : Bool → Bool → Bool → Bool
within_list true itself items = not itself && items
within_list false itself items = itself || items

-- ---- the items of a list

module _ (rs : List Value) where
  pub items-none : (n : Bool) → items_settled n rs [] ≡ true
  items-none true = refl
  items-none false = refl

  module _ (xs : List Value) where
    pub items-more : (n : Bool) (i : ℕ) (x : Value) → i < length xs → get_or xs i x ≡ x → items_settled n rs (take i xs) ≡ true → settled false Member x rs ≡ not n → items_settled n rs (take (i + 1) xs) ≡ true
    items-more true i x within is before here = ap not (any_more (is_member_of_some rs) xs i x within is (is-so (list_any (is_member_of_some rs) (take i xs)) before) here)
    items-more false i x within is before here = all_more (is_member_of_some rs) xs i x within is before here

    pub items-hit : (n : Bool) (i : ℕ) (x : Value) → i < length xs → get_or xs i x ≡ x → settled false Member x rs ≡ n → items_settled n rs xs ≡ false
    items-hit true i x within is here = ap not (any_hit (is_member_of_some rs) xs i x within is here)
    items-hit false i x within is here = all_hit (is_member_of_some rs) xs i x within is here

    pub items-end : (n : Bool) (i : ℕ) → length xs ≤ i → items_settled n rs (take i xs) ≡ true → items_settled n rs xs ≡ true
    items-end n i past before = ap (items_settled n rs) (sym (take_all i xs past)) ∙ before

-- ---- `IN` and `!IN`, where there is a right value

module _ (l : Value) (rs : List Value) (some : is_some_right rs ≡ true) where
  -- no list
  pub within-single : (n : Bool) → is_list l.kind ≡ false → settled n Member l rs ≡ binary op.Within n l rs
  within-single true e = sym (ap (λ (b : Bool). is_not_in b l rs) e ∙ ap (λ (b : Bool). b && list_all (λ (r : Value). is_no (answer_to Member l r)) rs) some)
  within-single false e = sym (ap (λ (b : Bool). is_in b l rs) e)

  module _ (list : is_list l.kind ≡ true) where
    whole : (n : Bool) (m : Bool) → settled false Member l rs ≡ m → binary op.Within n l rs ≡ within_list n m (items_settled n rs (values_in l.contents))
    whole true m e =
        ap (λ (b : Bool). is_not_in b l rs) list ∙ ap (λ (b : Bool). b && (not (is_member_of_some rs l) && items_settled true rs (values_in l.contents))) some
        ∙ ap (λ (b : Bool). not b && items_settled true rs (values_in l.contents)) e
    whole false m e =
        ap (λ (b : Bool). is_in b l rs) list ∙ ap (λ (b : Bool). b || (is_some_right rs && items_settled false rs (values_in l.contents))) e
        ∙ ap (λ (b : Bool). m || (b && items_settled false rs (values_in l.contents))) some

    -- itself a member
    pub within-member : (n : Bool) → settled false Member l rs ≡ true → not n ≡ binary op.Within n l rs
    within-member true e = sym (whole true true e)
    within-member false e = sym (whole false true e)

    pub within-items : (n : Bool) (items : List Value) → items ≡ values_in l.contents → settled false Member l rs ≡ false → items_settled n rs items ≡ binary op.Within n l rs
    within-items true items same e = ap (items_settled true rs) same ∙ sym (whole true false e)
    within-items false items same e = ap (items_settled false rs) same ∙ sym (whole false false e)
