-- Behind a key between brackets stands a token that is neither a colon nor ends the key: its first byte shows that, and that no tree follows. By the cases of what may stand behind a key.
use Rattle.std.proofs.Common.{◌≡◌, ℕ, suc, ◌+◌, ◌<◌, ◌≤◌, ◌⊎◌, inl, inr, Bool, true, false, ◌||◌, ◌&&◌, not, cond, nat_eq, nat_lt, arith, List, [], ◌∷◌, drop, length, refl, sym, ap, ◌∙◌, subst, true≢false, length-drop}
use Rattle.std.proofs.lemmas.Bool.{cases_lt}
use Rattle.std.proofs.lemmas.Bool.Decides.{nat_tests}
use Rattle.std.specs.Prelude.{Err, Option, Some}
use Rattle.std.specs.Str.{IsCharBoundary, IsUtf8}
use Rattle.doc_values.specs.Tree.{Forest, has_key, snoc}
use Rattle.doc_values.specs.Unfinished.{Level, Unfinished}
use Rattle.yaml_scalars.specs.Lines.{Stands, begins_with, ends_with, lead}
use Rattle.yaml_scalars.specs.Plain.{is_unsafe}
use Rattle.yaml_scalars.specs.Scalar.{begins_quoted}
use Rattle.yaml_scalars.specs.code.Walk.{line_at}
use Rattle.yaml_laws.specs.code.Agreement.{AgreesTo, scalar_shown}
use Rattle.yaml_laws.proofs.AgreeLess.{agrees_less}
use Rattle.yaml_grammar.specs.declared.ahead.Ahead.{Ahead}
use Rattle.yaml_grammar.specs.declared.ahead.Token.{Token}
use Rattle.yaml_grammar.specs.declared.ahead.Token.TheVariants.{End, Dashes, Dots, Dash, Tag, NoTag, Opens, Closes, Comma, Point, Anchor, Percent, Tabbed, Stray, Other}
use Rattle.yaml_grammar.specs.declared.form.Form.{Form}
use Rattle.yaml_grammar.specs.declared.form.Form.TheVariants.{Flow}
use Rattle.yaml_grammar.specs.declared.stop.Stop.TheVariants.{Unread}
use Rattle.yaml_grammar.specs.Ahead.{is_name, begins_letter, ends_tag, tag_token, other_token, token_of, ahead}
use Rattle.yaml_grammar.specs.Flow.{IsColon, ends_key}
use Rattle.yaml_grammar.specs.Nodes.{as_key, is_marked, node_sign, scalar_ahead, setting_of}
use Rattle.yaml_grammar.specs.Signs.{Sign, ManyDocuments, Reach, Refused, Tree}
use Rattle.yaml_grammar.specs.code.AheadSeen.{ahead_seen, first_return, is_told}
use Rattle.yaml_grammar.specs.code.Rest.{top, Awaits, Enters, Follows}
use Rattle.yaml_grammar.specs.code.StopPlaces.{is_stray, flow_place, last_told, past_return, told_place, token_width, width}
use Rattle.yaml_grammar.specs.code.Steps.{IsSeen, Open, is_ending, is_open}
use Rattle.yaml_grammar.specs.code.Twins.{IsTwin, NoEntry, Stops}
use Rattle.yaml_grammar.proofs.FirstDead.{IsFirst, first_same}
use Rattle.yaml_grammar.proofs.FirstTokens.{Begun, ends_word, first_byte, flow_word, word_closes, word_comma}
use Rattle.yaml_grammar.proofs.Fixed.{scalar_from, scalar_to, starts_of}
use Rattle.yaml_grammar.proofs.Forms.{flow_inside}
use Rattle.yaml_grammar.proofs.LastBytes.{stray_told, stray_within}
use Rattle.yaml_grammar.proofs.Lengthened.{told_at}
use Rattle.yaml_grammar.proofs.PlainOut.{ahead_from}
use Rattle.yaml_grammar.proofs.Rests.{ends_marked, enters_key, enters_no_colon, marked_unsigned, marked_word, no_documents, no_scalar, none_some}
use Rattle.yaml_grammar.proofs.ScalarOut.{shut_out}
use Rattle.yaml_grammar.proofs.Stopped.{last_return, within_end, within_here}
use Rattle.yaml_grammar.proofs.StoppedKeys.{no_colon_stops, no_colon_twin}
use Rattle.yaml_grammar.proofs.Twins.{twin_ahead_scalar}

-- ---- tokens

-- whether a token is a colon
abbrev is_point : Token → Bool
is_point (Point loose) = true
is_point _ = false

-- the first byte tells it
point_first : (b : ℕ) (xs ys : List ℕ) → is_point (token_of true (b ∷ xs)) ≡ is_point (token_of true (b ∷ ys))
point_first b xs ys =
    pick (nat_eq b 91) (Opens false) (cond (nat_eq b 123) (Opens true) (inner xs)) (Opens false) (cond (nat_eq b 123) (Opens true) (inner ys)) refl
    (pick (nat_eq b 123) (Opens true) (inner xs) (Opens true) (inner ys) refl
    (pick (nat_eq b 93) (Closes false) (second xs) (Closes false) (second ys) refl
    (pick (nat_eq b 125) (Closes true) (third xs) (Closes true) (third ys) refl
    (pick (nat_eq b 44) Comma (fourth xs) Comma (fourth ys) refl
    (pick (nat_eq b 58) (Point (is_unsafe true xs)) (fifth xs) (Point (is_unsafe true ys)) (fifth ys) refl (pick (nat_eq b 33) (tag_token true xs) (other_token b) (tag_token true ys) (other_token b) (tag xs ∙ sym (tag ys)) refl)))))) where
      pick : (q : Bool) (s t u v : Token) → is_point s ≡ is_point u → is_point t ≡ is_point v → is_point (cond q s t) ≡ is_point (cond q u v)
      pick true s t u v h k = h
      pick false s t u v h k = k

      fifth : List ℕ → Token
      fifth zs = cond (nat_eq b 33) (tag_token true zs) (other_token b)

      fourth : List ℕ → Token
      fourth zs = cond (nat_eq b 58) (Point (is_unsafe true zs)) (fifth zs)

      third : List ℕ → Token
      third zs = cond (nat_eq b 44) Comma (fourth zs)

      second : List ℕ → Token
      second zs = cond (nat_eq b 125) (Closes true) (third zs)

      inner : List ℕ → Token
      inner zs = cond (nat_eq b 93) (Closes false) (second zs)

      tag : (zs : List ℕ) → is_point (tag_token true zs) ≡ false
      tag zs = by_test (begins_letter zs && ends_tag true (drop (lead is_name zs) zs)) where
        by_test : (q : Bool) → is_point (cond q (Tag (lead is_name zs)) NoTag) ≡ false
        by_test true = refl
        by_test false = refl

-- one that something follows which may follow a colon in a plain scalar
abbrev is_bound : Token → Bool
is_bound (Point loose) = not loose
is_bound _ = false

bound_first : (b : ℕ) (xs : List ℕ) → is_bound (token_of true (b ∷ xs)) ≡ true → (nat_eq b 58 ≡ true) × (is_unsafe true xs ≡ false)
bound_first b xs =
    pick (nat_eq b 91) (Opens false) (cond (nat_eq b 123) (Opens true) inner) none (pick (nat_eq b 123) (Opens true) inner none (pick (nat_eq b 93) (Closes false) second none (pick (nat_eq b 125) (Closes true) third none (pick (nat_eq b 44) Comma fourth none (colon (nat_eq b 58) refl))))) where
      Says : Token → Type 0
      Says t = is_bound t ≡ true → (nat_eq b 58 ≡ true) × (is_unsafe true xs ≡ false)

      pick : (q : Bool) (s t : Token) → Says s → Says t → Says (cond q s t)
      pick true s t h k = h
      pick false s t h k = k

      none : false ≡ true → (nat_eq b 58 ≡ true) × (is_unsafe true xs ≡ false)
      none h = absurd (true≢false (sym h))

      tag : Says (tag_token true xs)
      tag = by_test (begins_letter xs && ends_tag true (drop (lead is_name xs) xs)) where
        by_test : (q : Bool) → Says (cond q (Tag (lead is_name xs)) NoTag)
        by_test true = none
        by_test false = none

      other : Says (other_token b)
      other =
          pick (nat_eq b 38 || nat_eq b 42) Anchor (cond (nat_eq b 37) Percent (cond (nat_eq b 35 || nat_eq b 13) Stray Other)) none
          (pick (nat_eq b 37) Percent (cond (nat_eq b 35 || nat_eq b 13) Stray Other) none (pick (nat_eq b 35 || nat_eq b 13) Stray Other none none))

      fifth : Token
      fifth = cond (nat_eq b 33) (tag_token true xs) (other_token b)

      fourth : Token
      fourth = cond (nat_eq b 58) (Point (is_unsafe true xs)) fifth

      third : Token
      third = cond (nat_eq b 44) Comma fourth

      second : Token
      second = cond (nat_eq b 125) (Closes true) third

      inner : Token
      inner = cond (nat_eq b 93) (Closes false) second

      safe : (q : Bool) → not q ≡ true → q ≡ false
      safe true h = absurd (true≢false (sym h))
      safe false h = refl

      colon : (q : Bool) → nat_eq b 58 ≡ q → Says (cond q (Point (is_unsafe true xs)) fifth)
      colon true e = λ h. (e, safe (is_unsafe true xs) h)
      colon false e = pick (nat_eq b 33) (tag_token true xs) (other_token b) tag other

-- a mark ends a key
pub marked_ends : (t : Token) → is_marked t ≡ true → ends_key t ≡ true
marked_ends Dashes h = refl
marked_ends Dots h = refl
marked_ends End h = absurd (true≢false (sym h))
marked_ends Dash h = absurd (true≢false (sym h))
marked_ends (Tag n) h = absurd (true≢false (sym h))
marked_ends NoTag h = absurd (true≢false (sym h))
marked_ends (Opens q) h = absurd (true≢false (sym h))
marked_ends (Closes q) h = absurd (true≢false (sym h))
marked_ends Comma h = absurd (true≢false (sym h))
marked_ends (Point q) h = absurd (true≢false (sym h))
marked_ends Anchor h = absurd (true≢false (sym h))
marked_ends Percent h = absurd (true≢false (sym h))
marked_ends Tabbed h = absurd (true≢false (sym h))
marked_ends Stray h = absurd (true≢false (sym h))
marked_ends Other h = absurd (true≢false (sym h))

-- what ends one is a comma, the closing bracket or a mark
key_ends : (t : Token) → ends_key t ≡ true → ((t ≡ Comma) ⊎ (t ≡ Closes true)) ⊎ (is_marked t ≡ true)
key_ends Comma h = inl (inl refl)
key_ends (Closes true) h = inl (inr refl)
key_ends (Closes false) h = absurd (true≢false (sym h))
key_ends Dashes h = inr refl
key_ends Dots h = inr refl
key_ends End h = absurd (true≢false (sym h))
key_ends Dash h = absurd (true≢false (sym h))
key_ends (Tag n) h = absurd (true≢false (sym h))
key_ends NoTag h = absurd (true≢false (sym h))
key_ends (Opens q) h = absurd (true≢false (sym h))
key_ends (Point q) h = absurd (true≢false (sym h))
key_ends Anchor h = absurd (true≢false (sym h))
key_ends Percent h = absurd (true≢false (sym h))
key_ends Tabbed h = absurd (true≢false (sym h))
key_ends Stray h = absurd (true≢false (sym h))
key_ends Other h = absurd (true≢false (sym h))

not_opens : (t : Token) → is_marked t ≡ true → (map : Bool) → t ≡ Opens map → ⊥
not_opens t h map e = true≢false (sym h ∙ ap is_marked e)

not_tag : (t : Token) → is_marked t ≡ true → (len : ℕ) → t ≡ Tag len → ⊥
not_tag t h len e = true≢false (sym h ∙ ap is_marked e)

point_open : (t : Token) → is_point t ≡ true → is_open t ≡ true
point_open (Point q) h = refl
point_open End h = refl
point_open Dashes h = refl
point_open Dots h = refl
point_open Comma h = absurd (true≢false (sym h))
point_open (Closes q) h = absurd (true≢false (sym h))
point_open Dash h = absurd (true≢false (sym h))
point_open (Tag n) h = absurd (true≢false (sym h))
point_open NoTag h = absurd (true≢false (sym h))
point_open (Opens q) h = absurd (true≢false (sym h))
point_open Anchor h = absurd (true≢false (sym h))
point_open Percent h = absurd (true≢false (sym h))
point_open Tabbed h = absurd (true≢false (sym h))
point_open Stray h = absurd (true≢false (sym h))
point_open Other h = absurd (true≢false (sym h))

-- ---- a mark behind a key

tree_not_refused : (t : Forest) (s : Sign) → Tree t ≡ Refused s → ⊥
tree_not_refused t s e = absurd (cc)

-- where a value may stand no tree follows at a mark: the value is missing, and behind it the mark is a sign
value_marked : (other : List ℕ) (fs : List Form) (x : Level) (xs : List Level) (done : Forest) (key : Option (List ℕ)) (i : ℕ) (t : Forest) → is_marked (ahead other true i).token ≡ true → Awaits other (Flow true ∷ fs) (x ∷ xs) done key i (Tree t) → ⊥
value_marked other fs x xs done key i t mark (l, kids, r, inl (may, (el, ek, er)), h) =
    tree_not_refused t (ManyDocuments (ahead other true i).at) (ends_marked other true fs x xs (snoc done l kids) i (Tree t) mark (subst (λ z. Follow z) er h)) where
      Follow : Reach → Type 0
      Follow z = Follows other (Flow true ∷ fs) (x ∷ xs) (snoc done l kids) (Tree t) z
value_marked other fs x xs done key i t mark (l, kids, r, inr (inl (inl (word, k, j, st, kind, value))), h) = no_scalar other (ahead other true i) (marked_word (ahead other true i).token mark) (setting_of (Flow true)) word j st
value_marked other fs x xs done key i t mark (l, kids, r, inr (inl (inr (p, d, er))), h) = no_documents other (ahead other true i) (marked_word (ahead other true i).token mark) (setting_of (Flow true)) p d
value_marked other fs x xs done key i t mark (l, kids, r, inr (inr (inl (map, e, w))), h) = not_opens (ahead other true i).token mark map e
value_marked other fs x xs done key i t mark (l, kids, r, inr (inr (inr (inl (len, e, may, w)))), h) = not_tag (ahead other true i).token mark len e
value_marked other fs x xs done key i t mark (l, kids, r, inr (inr (inr (inr (s, e, er)))), h) = none_some (node_sign false (ahead other true i).at (ahead other true i).token) s (marked_unsigned false (ahead other true i).at (ahead other true i).token mark) e

-- ---- another text

module _ (text other : List ℕ) (e : ℕ) (low : e ≤ (ahead text true e).at) (told : is_told (ahead text true e).token ≡ true) (agrees : AgreesTo (ahead text true e).at text other) (shut : is_open (ahead text true e).token ≡ false) (bare : ends_key (ahead text true e).token ≡ false) where
  inside : IsFirst text other true e
  inside = first_same text other true e low told agrees

  -- a colon, or what ends a key, stands there only as a mark
  colon_marked : (quoted : Bool) (p : ℕ) → IsColon other quoted e p → is_marked (ahead other true e).token ≡ true
  colon_marked quoted p (inl (loose, tok, allowed, ep)) = by_same inside.same where
    by_same : ((ahead other true e).token ≡ token_of true (inside.byte ∷ inside.that)) ⊎ (is_marked (ahead other true e).token ≡ true) → is_marked (ahead other true e).token ≡ true
    by_same (inl s) = absurd (true≢false (sym (point_open (ahead text true e).token (ap is_point inside.token ∙ point_first inside.byte inside.this inside.that ∙ sym (ap is_point s) ∙ ap is_point tok)) ∙ shut))
    by_same (inr m) = m
  colon_marked quoted p (inr (ends, ep)) = by_kind (key_ends (ahead other true e).token ends) inside.same where
    by_word : ends_word (ahead other true e).token ≡ ends_word (ahead text true e).token → ((ahead other true e).token ≡ Comma) ⊎ ((ahead other true e).token ≡ Closes true) → ⊥
    by_word word (inl k) = true≢false (sym (ap ends_key (word_comma (ahead text true e).token (sym word ∙ ap ends_word k))) ∙ bare)
    by_word word (inr k) = true≢false (sym (ap ends_key (word_closes true (ahead text true e).token (sym word ∙ ap ends_word k))) ∙ bare)

    by_kind : (((ahead other true e).token ≡ Comma) ⊎ ((ahead other true e).token ≡ Closes true)) ⊎ (is_marked (ahead other true e).token ≡ true)
        → ((ahead other true e).token ≡ token_of true (inside.byte ∷ inside.that)) ⊎ (is_marked (ahead other true e).token ≡ true) → is_marked (ahead other true e).token ≡ true
    by_kind (inr m) s = m
    by_kind (inl k) (inr m) = m
    by_kind (inl k) (inl s) = absurd (by_word (ap ends_word s ∙ flow_word inside.byte inside.this inside.that ∙ sym (ap ends_word inside.token)) k)

  -- so no tree follows there
  pub key_tail_dead : (fs : List Form) (x : Level) (xs : List Level) (done : Forest) (i : ℕ) (word : List ℕ) (t : Forest) → ((ahead other true i).token ≡ Closes true → ⊥) → scalar_ahead other (as_key true) (ahead other true i) ≡ Stands word e → has_key done word ≡ false
      → Enters other (Flow true ∷ fs) (x ∷ xs) done i (Tree t) → ⊥
  key_tail_dead fs x xs done i word t closed st fresh h = by_mark (is_marked (ahead other true e).token) refl where
    by_mark : (q : Bool) → is_marked (ahead other true e).token ≡ q → ⊥
    by_mark true m = value_marked other fs x xs done (Some word) e t m (enters_key other true fs x xs done i (Tree t) word e e refl closed st fresh (inr (marked_ends (ahead other true e).token m, refl)) h)
    by_mark false m = enters_no_colon other true fs x xs done i (Tree t) word e refl closed st fresh (λ p c. true≢false (sym (colon_marked (begins_quoted (drop (ahead other true i).at other)) p c) ∙ m)) h

-- ---- the place

-- behind a carriage return that does not end the text there is another byte
past_within : (text : List ℕ) (p : ℕ) → p < length text → ends_with 13 text ≡ false → past_return text p < length text
past_within text p l last = by_return (begins_with 13 (drop p text)) refl where
  here : (q : ℕ) → q < length text → cond (nat_lt q (length text)) q (length text) < length text
  here q k = by_test (nat_lt q (length text)) refl where
    by_test : (r : Bool) → nat_lt q (length text) ≡ r → cond r q (length text) < length text
    by_test true e = k
    by_test false e = let z : length text ≤ q = grind (arith, nat_tests, e) in absurd (omega (arith, z, k))

  by_order : begins_with 13 (drop p text) ≡ true → (suc p < length text) ⊎ (length text ≤ suc p) → suc p < length text
  by_order r (inl k) = k
  by_order r (inr k) = absurd (true≢false (sym r ∙ last_return text p (omega (arith, k, l)) last))

  by_return : (r : Bool) → begins_with 13 (drop p text) ≡ r → cond (nat_lt (cond r (suc p) p) (length text)) (cond r (suc p) p) (length text) < length text
  by_return true r = here (suc p) (by_order r (cases_lt (suc p) (length text)))
  by_return false r = here p l

-- a colon that something follows is shown by that byte
bound_told : (text : List ℕ) (e : ℕ) → (ahead text true e).token ≡ Point false → ends_with 13 text ≡ false → told_place text (ahead text true e) < length text
bound_told text e tok last = by_byte (first_byte text true e (ap is_told tok)) where
  Far : List ℕ → ℕ
  Far rest = (ahead text true e).at + width (ahead text true e) rest

  narrow : (rest : List ℕ) → width (ahead text true e) (58 ∷ rest) ≡ 1
  narrow rest = ap (λ z. cond (is_stray z && ((ahead text true e).fresh || nat_lt 0 (ahead text true e).column)) (first_return (58 ∷ rest)) (token_width (58 ∷ rest))) tok

  some : (rest : List ℕ) → is_unsafe true (line_at rest) ≡ false → 0 < length rest
  some [] h = absurd (true≢false h)
  some (x ∷ rest) h = omega arith

  by_byte : Begun text true (ahead text true e) → told_place text (ahead text true e) < length text
  by_byte (b, rest, d, black, is) =
      let k = bound_first b (line_at rest) (sym (ap is_bound is) ∙ ap is_bound tok) in
      let c : b ≡ 58 = grind (arith, nat_tests, k.0) in
      let w : width (ahead text true e) (drop (ahead text true e).at text) ≡ 1 = ap (width (ahead text true e)) (d ∙ ap (λ z. z ∷ rest) c) ∙ narrow rest in
      let size = ap (λ (xs : List ℕ). length xs) d in
      let more = some rest k.1 in
      let p = past_within text ((ahead text true e).at + 1) (omega (arith, size, more, length-drop (ahead text true e).at text)) last in
      subst (λ z. cond (is_ending z) (length text) (past_return text (Far (drop (ahead text true e).at text))) < length text) (sym tok) (subst (λ n. past_return text ((ahead text true e).at + n) < length text) (sym w) p)

open_point : (t : Token) → is_ending t ≡ false → is_open t ≡ true → (loose : Bool) × (t ≡ Point loose)
open_point (Point loose) e o = (loose, refl)
open_point End e o = absurd (true≢false e)
open_point Dashes e o = absurd (true≢false e)
open_point Dots e o = absurd (true≢false e)
open_point Tabbed e o = absurd (true≢false e)
open_point Dash e o = absurd (true≢false (sym o))
open_point (Tag n) e o = absurd (true≢false (sym o))
open_point NoTag e o = absurd (true≢false (sym o))
open_point (Opens q) e o = absurd (true≢false (sym o))
open_point (Closes q) e o = absurd (true≢false (sym o))
open_point Comma e o = absurd (true≢false (sym o))
open_point Anchor e o = absurd (true≢false (sym o))
open_point Percent e o = absurd (true≢false (sym o))
open_point Stray e o = absurd (true≢false (sym o))
open_point Other e o = absurd (true≢false (sym o))

module _ (text : List ℕ) (utf8 : IsUtf8 text) (i : ℕ) (a : Ahead) (seen : IsSeen text true i a) (cut : IsCharBoundary text i) (t : List ℕ) (e : ℕ) (st : scalar_ahead text (as_key true) a ≡ Stands t e) (less : a.at < e) (there : IsCharBoundary text e) (quoted : Bool) (none : (p : ℕ) → IsColon text quoted e p → ⊥) (q : ℕ) (place : q ≡ flow_place text (ahead text true e)) where
  from : ahead_seen text i ≤ e
  from = scalar_from text true i a seen cut (as_key true) t e st less there

  some : 0 < length text
  some = let l = less in let b = there.0 in omega (arith, l, b)

  -- where something is ahead behind the key, what is ahead of it is looked at within the text
  pub tail_within : ends_with 13 text ≡ false → is_ending (ahead text true e).token ≡ false → ahead_seen text i < length text
  tail_within last go = by_token (stray_told (ahead text true e).token go) where
    by_order : (ahead text true e).token ≡ Stray → (ahead_seen text e < length text) ⊎ (length text ≤ ahead_seen text e) → ahead_seen text i < length text
    by_order k (inl l) = let f = from in let s = scalar_to text true i a seen cut (as_key true) t e st less there in omega (arith, f, s, l)
    by_order k (inr g) = absurd (stray_within text true e utf8 there last k g)

    by_token : (is_told (ahead text true e).token ≡ true) ⊎ ((ahead text true e).token ≡ Stray) → ahead_seen text i < length text
    by_token (inl told) = let w = told_at text true e told in let l = ahead_from text e there.0 in let f = from in omega (arith, w, l, f)
    by_token (inr k) = by_order k (cases_lt (ahead_seen text e) (length text))

  tight : (loose : Bool) → (ahead text true e).token ≡ Point loose → loose ≡ false
  tight false k = refl
  tight true k = absurd (none (ahead text true e).behind (inl (true, k, refl, refl)))

  -- and so is the place
  pub tail_place : ends_with 13 text ≡ false → is_ending (ahead text true e).token ≡ false → q < length text
  tail_place last go = by_order (place ∙ ap (λ z. cond z (told_place text (ahead text true e)) (last_told text (ahead text true e))) go) (cases_lt (told_place text (ahead text true e)) (length text)) where
    by_order : q ≡ last_told text (ahead text true e) → (told_place text (ahead text true e) < length text) ⊎ (length text ≤ told_place text (ahead text true e)) → q < length text
    by_order k (inl l) = let w = k ∙ within_here text (told_place text (ahead text true e)) l in omega (arith, w, l)
    by_order k (inr l) = let w = k ∙ within_end text (told_place text (ahead text true e)) l in let z = some in omega (arith, w, z)

  module _ (fs : List Form) (u : Unfinished) (closed : a.token ≡ Closes true → ⊥) (form : top fs ≡ Flow true) (open_ : Open fs u) (fresh : has_key u.done t ≡ false) (eq : quoted ≡ begins_quoted (drop a.at text)) where
    bare : ends_key (ahead text true e).token ≡ false
    bare = by_test (ends_key (ahead text true e).token) refl where
      by_test : (r : Bool) → ends_key (ahead text true e).token ≡ r → r ≡ false
      by_test true h = absurd (none e (inr (h, refl)))
      by_test false h = refl

    told_at_place : q ≡ told_place text (ahead text true e) → Stops text i (NoEntry i a fs u) (Err (Unread q))
    told_at_place k = no_colon_stops text fs u i a quoted t e q seen cut closed form open_ st less there fresh eq none k

    -- the last byte
    module _ (last : suc q ≡ length text) (feed : ends_with 13 text ≡ false) (shut : is_open (ahead text true e).token ≡ false) (other : List ℕ) (m : IsTwin text q other) where
      key_near : a.at ≤ q
      key_near = let l = less in let b = there.0 in omega (arith, l, b, last)

      shown : (ahead text true e).at < length text → scalar_shown (as_key true) text a.at e ≤ q
      shown l =
          let b = there.0 in
          let k = less in
          let w = shut_out (as_key true) text a.at t e refl (omega (arith, b, k)) b (starts_of text (as_key true) a t e st).1 shut in
          omega (arith, w, l, last)

      agrees : (ahead text true e).at < length text → AgreesTo (ahead text true e).at text other
      agrees l = by_order (cases_lt (ahead text true e).at q) where
        by_order : ((ahead text true e).at < q) ⊎ (q ≤ (ahead text true e).at) → AgreesTo (ahead text true e).at text other
        by_order (inl k) = (agrees_less (ahead text true e).at q text other k m.agrees).0
        by_order (inr k) = let z : q ≡ (ahead text true e).at = omega (arith, k, l, last) in subst (λ n. AgreesTo n text other) z m.agrees

      by_byte : is_told (ahead text true e).token ≡ true → NoEntry i a fs u other
      by_byte told = λ seen2 v h.
          let l = told_at text true e told in
          let stands = twin_ahead_scalar text q other m (as_key true) a t e key_near (shown l) st in
          flow_inside (λ hs ys. Enters other hs ys u.done i (Tree v) → ⊥) true fs u.outer form open_.0
          (λ gs x xs k. key_tail_dead text other e (ahead_from text e there.0) told (agrees l) shut bare gs x xs u.done i t v (λ z. closed (ap (λ (b : Ahead). b.token) seen2.0 ∙ z)) (subst (λ (b : Ahead). scalar_ahead other (as_key true) b ≡ Stands t e) seen2.0 stands) fresh k) h

      by_stray : (ahead text true e).token ≡ Stray → NoEntry i a fs u other
      by_stray k = no_colon_twin text fs u i a quoted t e seen cut closed form open_ st less there fresh eq none q other m (by_order (cases_lt (ahead_seen text e) (length text))) where
        by_order : (ahead_seen text e < length text) ⊎ (length text ≤ ahead_seen text e) → ahead_seen text e ≤ q
        by_order (inl l) = omega (arith, l, last)
        by_order (inr g) = absurd (stray_within text true e utf8 there feed k g)

      last_none : (is_told (ahead text true e).token ≡ true) ⊎ ((ahead text true e).token ≡ Stray) → NoEntry i a fs u other
      last_none (inl told) = by_byte told
      last_none (inr k) = by_stray k

    pub tail_stops : Stops text i (NoEntry i a fs u) (Err (Unread q))
    tail_stops = by_ending (is_ending (ahead text true e).token) refl place where
      at_last : is_ending (ahead text true e).token ≡ false → length text ≤ told_place text (ahead text true e) → suc q ≡ length text → Stops text i (NoEntry i a fs u) (Err (Unread q))
      at_last go far l = by_return (ends_with 13 text) refl (is_open (ahead text true e).token) refl where
        by_return : (r : Bool) → ends_with 13 text ≡ r → (o : Bool) → is_open (ahead text true e).token ≡ o → Stops text i (NoEntry i a fs u) (Err (Unread q))
        by_return true f o h = inl (inr (l, (λ z. absurd (true≢false (sym f ∙ z)))))
        by_return false f true h = absurd (let p = open_point (ahead text true e).token go h in let b = bound_told text e (p.1 ∙ ap Point (tight p.0 p.1)) f in omega (arith, b, far))
        by_return false f false h =
            let w = tail_within f go in
            inr (omega (arith, l), (q, inr (refl, last_return text q l f), omega (arith, w, l), (λ other m. last_none l f h other m (stray_told (ahead text true e).token go))))

      by_order : is_ending (ahead text true e).token ≡ false → q ≡ last_told text (ahead text true e) → (told_place text (ahead text true e) < length text) ⊎ (length text ≤ told_place text (ahead text true e)) → Stops text i (NoEntry i a fs u) (Err (Unread q))
      by_order go k (inl l) = told_at_place (k ∙ within_here text (told_place text (ahead text true e)) l)
      by_order go k (inr l) = let w = k ∙ within_end text (told_place text (ahead text true e)) l in let z = some in at_last go l (omega (arith, w, z))

      by_ending : (r : Bool) → is_ending (ahead text true e).token ≡ r → q ≡ cond r (told_place text (ahead text true e)) (last_told text (ahead text true e)) → Stops text i (NoEntry i a fs u) (Err (Unread q))
      by_ending true go k = told_at_place k
      by_ending false go k = by_order go k (cases_lt (told_place text (ahead text true e)) (length text))
