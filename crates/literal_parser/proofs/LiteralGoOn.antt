-- A literal that ends at the end of the lexemes can be gone on with.
use Rattle.std.proofs.Common.{◌≡◌, ℕ, zero, suc, ◌≤◌, ◌<◌, ◌+◌, max, Bool, true, false, cond, ◌&&◌, ◌||◌, refl, sym, ap, ◌∙◌, subst, arith, List, [], ◌∷◌, length, true≢false, nat_eq, Option, Some, None}
use Rattle.std.specs.Prelude.{pos, bytes_eq, codes}
use Rattle.std.proofs.lemmas.Bool.Decides.{nat_tests}
use Rattle.std.proofs.lemmas.Slice.Eq.{bytes_eq-Decides}
use Rattle.doc_values.specs.Tree.{Forest, Nil, Node, snoc, has_key, key_is}
use Rattle.decimals.specs.declared.decimal.Range.{Range}
use Rattle.doc_values.specs.declared.kind.Kind.TheVariants as kind
use Rattle.guard_lexer.specs.declared.token.Mark.TheVariants as m
use Rattle.literal_parser.specs.Lexemes.{Lexeme, Word, Name, Whole, Str, Sign}
use Rattle.literal_parser.specs.Forms.{form, is_lbrace, is_rbrace, is_lbracket, is_rbracket, is_comma, is_colon, is_r, is_number, is_key, is_scalar, is_constant, is_opening_end, is_closing_end, is_square, opens_range, text_of, number_of}
use Rattle.literal_parser.specs.States.{State, past, ranged}
use Rattle.literal_parser.specs.code.Parser.{Read, Fail, Parser, and_then, ◌>>=◌, ◌>>◌, pure, stop, note_range, takes, has, choose_pair}
use Rattle.literal_parser.specs.Literal.{scalar, holder, is_mixed}
use Rattle.literal_parser.specs.code.LiteralReading.{Tree, has_room, bounds, range, bounded, list, map_of, node, more_items, items_of, valued, entry, more_entries, entries_of, within, literal_of}
use Rattle.literal_parser.proofs.Combine.{Gives, gives, gives_then}
use Rattle.literal_parser.proofs.Steps.{gives_has, gives_ranged, by_pair}
use Rattle.literal_parser.proofs.Apart.{implied}
use Rattle.literal_parser.proofs.Places.{no_bracket}
use Rattle.literal_parser.proofs.GoOn as go
use Rattle.literal_parser.specs.Brackets.{open_before}
use Rattle.literal_parser.proofs.Levels.{Sub, Stands, stays_level, opens_none, goes_up, has_place, stands_next, stands_agreed, stands_at}
use Rattle.literal_parser.proofs.GoOn.{any, same_number, sub_any, sub_same, only, Side, clear}
use Rattle.literal_parser.proofs.GoOnSteps as step
use Rattle.literal_parser.proofs.GoOnSteps.{then, then_lives, takes_live, has_live, closes_live, has_closing, has_up_lives, pure_live, ranged_live, or_first, made}
use Rattle.literal_parser.proofs.GoOnSides as side
use Rattle.literal_parser.proofs.GoOnSides.{or_end}

-- ---- a key that no entry has

key_size : Option (List ℕ) → ℕ
key_size None = 0
key_size (Some key) = length key

keys_size : Forest → ℕ
keys_size Nil = 0
keys_size (Node l kids rest) = key_size l.key + keys_size rest

longer_text : ℕ → List ℕ
longer_text zero = 97 ∷ []
longer_text (suc k) = 97 ∷ longer_text k

longer_is : (k : ℕ) → length (longer_text k) ≡ suc k
unfolding longer_text
longer_is zero = refl
longer_is (suc k) = ap (λ i. suc i) (longer_is k)

texts_differ : (a b : List ℕ) → length a < length b → bytes_eq a b ≡ false
texts_differ a b less = helper (bytes_eq a b) refl where
  helper : (v : Bool) → bytes_eq a b ≡ v → bytes_eq a b ≡ false
  helper true e = let same = ap (λ (x : List ℕ). length x) ((bytes_eq-Decides a b).0 e) in absurd (omega arith)
  helper false e = e

key_differs : (k : Option (List ℕ)) (text : List ℕ) → key_size k < length text → key_is k text ≡ false
unfolding key_size
key_differs None text less = refl
key_differs (Some key) text less = texts_differ key text less

new_key : (f : Forest) (text : List ℕ) → keys_size f < length text → has_key f text ≡ false
unfolding keys_size
new_key Nil text less = refl
new_key (Node l kids rest) text less = ap (λ v. v || has_key rest text) (key_differs l.key text (omega arith)) ∙ new_key rest text (omega arith)

fresh : Forest → List ℕ
fresh f = longer_text (keys_size f)

fresh_is : (f : Forest) → has_key f (fresh f) ≡ false
unfolding fresh
fresh_is f = new_key f (longer_text (keys_size f)) (omega (arith, longer_is (keys_size f)))

-- a word for each place of a literal
abbrev pub nought : Word
nought = Whole (pos 0)

abbrev pub quoted : Word
quoted = Str []

abbrev pub opening : Word
opening = Name (codes "r")

abbrev pub shut_list : Side
shut_list = clear (only (Sign m.RBracket))

abbrev pub shut_map : Side
shut_map = clear (only (Sign m.RBrace))

module _ (s : ℕ → Lexeme) (n : ℕ) (ends : form (s n) ≡ 0) (l : ℕ) where
  -- behind the opening bracket of a range
  bounds_behind : (ℕ → Lexeme) → Bool → Parser Range
  bounds_behind w low_in = do
    low ← has w is_number number_of
    takes w is_comma
    high ← has w is_number number_of
    high_in ← has w is_closing_end (λ x. is_square (form x))
    pure (record { low = low; high = high; low_in = low_in; high_in = high_in })

  behind_live : {floor : ℕ} (low_in : Bool) → go.Live s n (suc l) l floor true (clear (only nought)) (clear any) (bounds_behind s low_in) (λ w. bounds_behind w low_in)
  unfolding bounds_behind
  behind_live low_in =
      then s n ends (has_live s n ends is_number number_of nought any refl refl refl) (λ low.
      then s n ends (takes_live s n ends is_comma (Sign m.Comma) any refl refl refl) (λ u.
      then s n ends (has_live s n ends is_number number_of nought any refl refl refl) (λ high.
      then s n ends (has_closing s n ends is_closing_end (λ x. is_square (form x)) (Sign m.RParen) any refl refl refl) (λ high_in. pure_live s n ends _) refl) refl) refl) refl

  bounds_lives : go.Lives s n l l 0 true (clear any) (clear any) (bounds s) bounds
  unfolding bounds bounds_behind
  bounds_lives = then_lives s n ends (has_up_lives s n ends is_opening_end (λ x. is_square (form x)) any refl refl) (λ low_in. behind_live low_in) refl

  -- behind the `r`
  ranged_of : Option (List ℕ) → Lexeme → (ℕ → Lexeme) → Parser Tree
  ranged_of name r w = do
    b ← bounds w
    note_range (is_mixed b) r.from
    pure (holder (kind.Limits b) name r, Nil)

  ranged_lives : (name : Option (List ℕ)) (r : Lexeme) → go.Lives s n l l 0 true (clear any) (clear any) (ranged_of name r s) (ranged_of name r)
  unfolding ranged_of
  ranged_lives name r = then_lives s n ends bounds_lives (λ b. then s n ends (ranged_live s n ends {side = clear any} (is_mixed b) r.from) (λ u. pure_live s n ends _) refl) refl

  range_inside : (name : Option (List ℕ)) (st : State) (seen : ℕ) → suc st.at < n → is_r (form (s st.at)) ≡ true → go.Tight s n (λ x. false) st seen
      → go.LivesAt s n l l true (clear (only opening)) (clear any) (range s name st seen) (λ w. range w name) st
  unfolding range ranged_of
  range_inside name st seen less is tight = side.has_inside s n ends {mid = clear any} is_r (λ x. x) (λ r. ranged_of name r s) (λ r. ranged_of name r) st seen less is (step.past_tight s n ends (λ x. false) (λ x. false) st seen (omega arith) tight) refl (stays_level is_r l refl)
      (ranged_lives name (s st.at) (past st) (max seen st.at) (omega arith) (omega arith) (step.past_tight s n ends (λ x. false) (λ x. false) st seen (omega arith) tight))

  -- behind an `r` at the end only a bracket that stands directly behind it goes on
  range_mended : l < 128 → (name : Option (List ℕ)) (st : State) → suc st.at ≡ n → is_r (form (s st.at)) ≡ true → st.at < n
      → go.Mended s n l l (clear (only opening)) (clear any) (λ w. choose_pair w opens_range (range w name) stop) st
  unfolding range bounds bounds_behind
  range_mended place name st last is less =
      let b = (behind_live {floor = 0} false).starts (past (past st)) (let far : n ≤ suc (suc st.at) = omega arith in far) in
      let bracket : Lexeme = record { word = Sign m.LParen; from = (s st.at).to; to = (s n).from } in record {
        more = bracket ∷ b.more;
        value = (holder (kind.Limits b.value) name (s st.at), Nil);
        last = ranged (is_mixed b.value) (s st.at).from b.last;
        ends = let l = b.ends in omega arith;
        flows = λ shallow level w agree spells.
            let at_end : Stands w l n = stands_agreed s w n agree l n (omega arith) shallow (subst (λ i. open_before s i ≡ l) last (stays_level is_r l refl (s st.at) is (open_before s st.at) level)) in
            let behind : Stands w (suc l) (suc n) = stands_next w is_opening_end l (suc l) n (goes_up is_opening_end l refl) (has_place is_opening_end l place) (ap (λ x. is_opening_end (form x)) spells.0) at_end in
            b.flows w (subst (λ i. go.Spells s n w i b.more) (let e : suc n ≡ suc (suc st.at) = omega arith in e) spells.1) (stands_at w (suc l) (suc n) (suc (suc st.at)) (omega arith) behind);
        goes = λ w agree spells meets.
            let here : w st.at ≡ s st.at = agree st.at less in
            let there : w (suc st.at) ≡ bracket = ap w last ∙ spells.0 in
            let y = b.goes w (subst (λ i. go.Spells s n w i b.more) (let e : suc n ≡ suc (suc st.at) = omega arith in e) spells.1) meets in (
              (λ e. absurd (omega arith), λ h. absurd (true≢false (sym h.1))),
              λ k. by_pair w opens_range true (range w name) stop st k (adjacent (w st.at) (w (suc st.at)) here there) (gives_then _
                  (gives_has w is_r (λ x. x) (s st.at) st (past st) _ (ap (λ x. is_r (form x)) here ∙ is, sym here, refl)) (λ sn. gives_then _ {a = b.value}
                  (gives_then _ (gives_has w is_opening_end (λ x. is_square (form x)) false (past st) (past (past st)) sn
                  (ap (λ x. is_opening_end (form x)) there, ap (λ x. is_square (form x)) (sym there), refl)) (λ sn. y.1 sn))
                  (λ sn. gives_then _ (gives_ranged (is_mixed b.value) (s st.at).from b.last _ sn refl) (λ sn. gives)))),
            );
      } where
        adjacent : (x y : Lexeme) → x ≡ s st.at → y ≡ record { word = Sign m.LParen; from = (s st.at).to; to = (s n).from } → opens_range x y ≡ true
        adjacent x y e f = ap (λ z. opens_range z y) e ∙ ap (λ z. opens_range (s st.at) z) f ∙ ap (λ v. v && nat_eq (s st.at).to (s st.at).to) is
            ∙ same_number (s st.at).to (nat_eq (s st.at).to (s st.at).to) refl

  range_at : l < 128 → (name : Option (List ℕ)) (st : State) (seen : ℕ) → st.at < n → is_r (form (s st.at)) ≡ true → go.Tight s n (λ x. false) st seen
      → go.LivesAt s n l l true (clear (only opening)) (clear any) (choose_pair s opens_range (range s name) stop st seen) (λ w. choose_pair w opens_range (range w name) stop) st
  unfolding choose_pair
  range_at place name st seen less is tight = helper (nat_eq (suc st.at) n) refl where
    ended : (v : Bool) → v ≡ false → suc st.at ≡ n
        → go.LivesAt s n l l true (clear (only opening)) (clear any) ((cond v (range s name) stop) st (max seen (suc st.at))) (λ w. choose_pair w opens_range (range w name) stop) st
    ended true e last = absurd (true≢false e)
    ended false e last = record { lives = λ far before. range_mended place name st last is less }

    helper : (v : Bool) → nat_eq (suc st.at) n ≡ v
        → go.LivesAt s n l l true (clear (only opening)) (clear any) (choose_pair s opens_range (range s name) stop st seen) (λ w. choose_pair w opens_range (range w name) stop) st
    helper true e = let last : suc st.at ≡ n = grind (arith, nat_tests) in
        ended (opens_range (s st.at) (s (suc st.at)))
        (sym (no_bracket (s st.at) (s (suc st.at)) (ap (λ i. is_opening_end (form (s i))) last ∙ ap is_opening_end ends))) last
    helper false e = let before : suc st.at < n = grind (arith, nat_tests) in
        step.pair_at s n ends opens_range _ _ _ _ st seen before
        (λ v. range_inside name st _ before is (go.tight_next s n st seen before (λ x. false) tight))
        (λ v. step.stop_at s n ends true (clear (only opening)) (clear any) _ st _ (go.tight_next s n st seen before (λ x. false) tight))

  module _ (turns : ℕ) (room : n < turns) where
    abbrev pub Items : ℕ → Parser Forest → ((ℕ → Lexeme) → Parser Forest) → Type 0
    Items k p q = (floor : ℕ) → go.Live s n k k floor false shut_list shut_list p q

    abbrev pub Entries : ℕ → Parser Forest → ((ℕ → Lexeme) → Parser Forest) → Type 0
    Entries k p q = (floor : ℕ) → go.Live s n k k floor false shut_map shut_map p q

    module _ (may : Bool) (place : may ≡ true → l < 128) (is es : Parser Forest) (iw ew : (ℕ → Lexeme) → Parser Forest) (items_live : Items (suc l) is iw) (entries_live : Entries (suc l) es ew) where
      list_lives : {floor : ℕ} (name : Option (List ℕ)) → go.Lives s n l l floor true (clear any) (clear any) (list s turns may is es name) (λ w. list w turns true (iw w) (ew w) name)
      unfolding list
      list_lives name = then_lives s n ends (has_up_lives s n ends is_lbracket (holder kind.List name) any refl refl) (λ x. then s n ends (items_live _) (λ kids.
          then s n ends (closes_live s n ends is_rbracket (Sign m.RBracket) any refl refl refl) (λ u. pure_live s n ends _) refl) refl) refl

      map_lives : {floor : ℕ} (name : Option (List ℕ)) → go.Lives s n l l floor true (clear any) (clear any) (map_of s turns may is es name) (λ w. map_of w turns true (iw w) (ew w) name)
      unfolding map_of
      map_lives name = then_lives s n ends (has_up_lives s n ends is_lbrace (holder kind.Map name) any refl refl) (λ x. then s n ends (entries_live _) (λ kids.
          then s n ends (closes_live s n ends is_rbrace (Sign m.RBrace) any refl refl refl) (λ u. pure_live s n ends _) refl) refl) refl

      bounded_at : (name : Option (List ℕ)) (st : State) (seen : ℕ) → st.at < n → is_r (form (s st.at)) ≡ true → go.Tight s n (λ x. false) st seen
          → go.LivesAt s n l l true (clear (only opening)) (clear any) (bounded s turns may is es name st seen) (λ w. bounded w turns true (iw w) (ew w) name) st
      unfolding bounded
      bounded_at name st seen less is tight = by may place where
        by : (v : Bool) → (v ≡ true → l < 128) → go.LivesAt s n l l true (clear (only opening)) (clear any) ((cond {A = Parser Tree} v (choose_pair s opens_range (range s name) stop) stop) st seen)
            (λ w. choose_pair w opens_range (range w name) stop) st
        by true room = range_at (room refl) name st seen less is tight
        by false room = step.stop_at s n ends true (clear (only opening)) (clear any) _ st seen tight

      node_live : {floor : ℕ} (name : Option (List ℕ)) → go.Live s n l l floor true (clear (only nought)) (clear any) (node s turns may is es name) (λ w. node w turns true (iw w) (ew w) name)
      unfolding node
      node_live name = or_first s n ends any is_scalar refl refl (then s n ends (has_live s n ends is_scalar (scalar name) nought any refl refl refl) (λ l. pure_live s n ends _) refl)
          (λ st seen above within tight. step.choose_strict_at s n ends {h = any} {g = any} is_lbracket _ _ _ _ st seen within refl
          (λ v less. list_lives {floor = 0} name st _ (omega arith) within (go.tight_at s n (λ x. false) st seen within tight))
          (λ v. let t = go.tight_at s n (λ x. false) st seen within tight in step.choose_strict_at s n ends {h = any} {g = any} is_lbrace _ _ _ _ st _ within refl
          (λ v less. map_lives {floor = 0} name st _ (omega arith) within (go.tight_at s n (λ x. false) st _ within t))
          (λ v. let t = go.tight_at s n (λ x. false) st _ within t in step.choose_strict_at s n ends {h = only opening} {g = any} is_r _ _ _ _ st _ within refl
          (λ v less. bounded_at name st _ less v (go.tight_at s n (λ x. false) st _ within t))
          (λ v. step.stop_at s n ends true (clear any) (clear any) _ st _ (go.tight_at s n (λ x. false) st _ within t)))))

      more_items_live : (k floor : ℕ) → n < k + floor → 0 < k → go.Live s n l l floor false shut_list shut_list (more_items s turns may is es k) (λ w. more_items w turns true (iw w) (ew w) k)
      unfolding more_items
      more_items_live zero floor left some = absurd (omega arith)
      more_items_live (suc k) floor left some = or_end s n ends {h = only (Sign m.Comma)} is_comma k floor left refl refl refl
          (λ i left some. then s n ends (takes_live s n ends is_comma (Sign m.Comma) any refl refl refl) (λ u. then s n ends (node_live None) (λ x.
          then s n ends (more_items_live k _ (omega arith) some) (λ rest. pure_live s n ends _) refl) refl) refl)
          (pure_live s n ends _)

      items_of_live : Items l (items_of s turns may is es) (λ w. items_of w turns true (iw w) (ew w))
      unfolding items_of
      items_of_live floor = or_first s n ends (only nought) is_rbracket refl refl (pure_live s n ends _)
          (then s n ends (node_live None) (λ x. then s n ends (more_items_live turns _ (omega arith) (omega arith)) (λ rest. pure_live s n ends _) refl) refl).lives

      valued_live : {floor : ℕ} (name : List ℕ) → go.Live s n l l floor true (clear (only (Sign m.Colon))) (clear any) (valued s turns may is es name) (λ w. valued w turns true (iw w) (ew w) name)
      unfolding valued
      valued_live name = then s n ends (takes_live s n ends is_colon (Sign m.Colon) any refl refl refl) (λ u. node_live (Some name)) refl

      entry_at : (before : Forest) (st : State) (seen : ℕ) → st.at ≤ n → go.Tight s n (λ x. false) st seen
          → go.LivesAt s n l l true (clear (only quoted)) (clear any) (entry s turns may is es before st seen) (λ w. entry w turns true (iw w) (ew w) before) st
      unfolding entry has
      entry_at before st seen inside tight = helper (is_key (form (s st.at))) refl (has_key before (text_of (s st.at))) refl where
        after : List ℕ → (ℕ → Lexeme) → Parser Tree
        after name w = cond (has_key before name) stop (valued w turns true (iw w) (ew w) name)

        second : (u : Bool) → is_key (form (s st.at)) ≡ true → has_key before (text_of (s st.at)) ≡ u → st.at < n
            → go.LivesAt s n l l true (clear (only quoted)) (clear any)
            ((cond u stop (valued s turns may is es (text_of (s st.at)))) (past st) (max seen st.at)) (λ w. entry w turns true (iw w) (ew w) before) st
        second true good e less = step.failed s n ends true (clear (only quoted)) (clear any) _ st _ (λ less far. step.early s n ends st seen less tight far)
        second false good e less = go.lives_behind s n {mid = clear (only (Sign m.Colon))} after _
            (step.had s n ends is_key text_of (clear (only quoted)) (clear (only (Sign m.Colon))) st (max seen st.at) less good (step.past_tight s n ends (λ x. false) (λ x. false) st seen less tight) refl (stays_level is_key l refl))
            (subst (λ v. go.LivesAt s n l l true (clear (only (Sign m.Colon))) (clear any) (valued s turns may is es (text_of (s st.at)) (past st) (max seen st.at))
            (λ w. cond v stop (valued w turns true (iw w) (ew w) (text_of (s st.at)))) (past st)) (sym e)
            ((valued_live {floor = 0} (text_of (s st.at))).lives (past st) (max seen st.at) (omega arith) less (step.past_tight s n ends (λ x. false) (λ x. false) st seen less tight)))
            (λ late. subst (λ v. go.Begun s n l l (only (Sign m.Colon)) any (λ w. cond v stop (valued w turns true (iw w) (ew w) (text_of (s st.at)))) (past st)) (sym e)
            ((valued_live {floor = 0} (text_of (s st.at))).starts (past st) late))

        helper : (v : Bool) → is_key (form (s st.at)) ≡ v → (u : Bool) → has_key before (text_of (s st.at)) ≡ u
            → go.LivesAt s n l l true (clear (only quoted)) (clear any)
            (and_then (cond v (Read (text_of (s st.at)) (past st) (max seen st.at)) (Fail (max seen st.at))) (λ name. cond (has_key before name) stop (valued s turns may is es name)))
            (λ w. entry w turns true (iw w) (ew w) before) st
        helper false miss u e = step.failed s n ends true (clear (only quoted)) (clear any) _ st _ (λ less far. step.early s n ends st seen less tight far)
        helper true good u e = subst (λ v. go.LivesAt s n l l true (clear (only quoted)) (clear any) ((cond v stop (valued s turns may is es (text_of (s st.at)))) (past st) (max seen st.at))
            (λ w. entry w turns true (iw w) (ew w) before) st) (sym e) (second u good e (step.inside s n ends is_key st.at inside refl good))

      entry_starts : (before : Forest) → go.Starts s n l l (only quoted) any (λ w. entry w turns true (iw w) (ew w) before)
      unfolding entry
      entry_starts before st late =
          let key = fresh before in
          let b = (valued_live {floor = 0} key).starts (past st) (let l : n ≤ suc st.at = omega arith in l) in record {
            more = made s n ends (Str key) ∷ b.more;
            value = b.value;
            last = b.last;
            ends = let e = b.ends in omega arith;
            flows = λ w spells stands. b.flows w spells.1 (stands_next w is_key l l st.at (stays_level is_key l refl) (opens_none is_key l refl) (ap (λ x. is_key (form x)) spells.0) stands);
            goes = λ w spells meets. let y = b.goes w spells.1 meets in (
              (ap (λ x. only quoted (form x)) spells.0, ap (λ (x : Lexeme). x.from) spells.0),
              λ k. gives_then _ (gives_has w is_key text_of key st (past st) k (ap (λ x. is_key (form x)) spells.0, ap text_of (sym spells.0), refl))
                  (λ sn. subst (λ v. Gives ((cond v stop (valued w turns true (iw w) (ew w) key)) (past st) sn) b.value b.last) (sym (fresh_is before)) (y.1 sn)),
            );
          }

      entry_live : {floor : ℕ} (before : Forest) → go.Live s n l l floor true (clear (only quoted)) (clear any) (entry s turns may is es before) (λ w. entry w turns true (iw w) (ew w) before)
      entry_live before = record { lives = λ st seen above inside tight. entry_at before st seen inside tight; starts = entry_starts before }

      more_entries_live : (k floor : ℕ) → n < k + floor → 0 < k → (before : Forest)
          → go.Live s n l l floor false shut_map shut_map (more_entries s turns may is es k before) (λ w. more_entries w turns true (iw w) (ew w) k before)
      unfolding more_entries
      more_entries_live zero floor left some before = absurd (omega arith)
      more_entries_live (suc k) floor left some before = or_end s n ends {h = only (Sign m.Comma)} is_comma k floor left refl refl refl
          (λ i left some. then s n ends (takes_live s n ends is_comma (Sign m.Comma) any refl refl refl) (λ u. then s n ends (entry_live before) (λ x.
          then s n ends (more_entries_live k _ (omega arith) some (snoc before x.0 x.1)) (λ rest. pure_live s n ends _) refl) refl) refl)
          (pure_live s n ends _)

      entries_of_live : Entries l (entries_of s turns may is es) (λ w. entries_of w turns true (iw w) (ew w))
      unfolding entries_of
      entries_of_live floor = or_first s n ends (only quoted) is_rbrace refl refl (pure_live s n ends _)
          (then s n ends (entry_live Nil) (λ x. then s n ends (more_entries_live turns _ (omega arith) (omega arith) (Node x.0 x.1 Nil)) (λ rest. pure_live s n ends _) refl) refl).lives

module _ (s : ℕ → Lexeme) (n : ℕ) (ends : form (s n) ≡ 0) (turns : ℕ) (room : n < turns) where
  -- nothing stands in brackets, or what begins so
  items_start : (l d : ℕ) → go.Starts s n l l (only (Sign m.RBracket)) (only (Sign m.RBracket)) (λ w. (within w turns (suc d)).0)
  unfolding items_of
  items_start l d = step.first_starts s n ends is_rbracket _ _ refl (step.pure_starts s n ends Nil _)

  entries_start : (l d : ℕ) → go.Starts s n l l (only (Sign m.RBrace)) (only (Sign m.RBrace)) (λ w. (within w turns (suc d)).1)
  unfolding entries_of
  entries_start l d = step.first_starts s n ends is_rbrace _ _ refl (step.pure_starts s n ends Nil _)

  place_left : (l d : ℕ) → l + d ≡ 128 → has_room d ≡ true → l < 128
  place_left l zero e may = absurd (true≢false (sym may))
  place_left l (suc d) e may = omega arith

  -- with deeper brackets where s ends: so many are open, and so many more may open in s
  within_live : (d e l : ℕ) → d < e → l + d ≡ 129 → Items s n ends l turns room l (within s turns d).0 (λ w. (within w turns e).0) × Entries s n ends l turns room l (within s turns d).1 (λ w. (within w turns e).1)
  within_live d zero l less all = absurd (omega arith)
  within_live zero (suc e) l less all = (
    λ floor. record { lives = λ st seen above inside tight. step.stop_at s n ends false shut_list shut_list _ st seen tight; starts = items_start l e },
    λ floor. record { lives = λ st seen above inside tight. step.stop_at s n ends false shut_map shut_map _ st seen tight; starts = entries_start l e },
  )
  within_live (suc d) (suc zero) l less all = absurd (omega arith)
  within_live (suc d) (suc (suc e)) l less all = let i = within_live d (suc e) (suc l) (omega arith) (omega arith) in (
    items_of_live s n ends l turns room (has_room d) (place_left l d (omega arith)) (within s turns d).0 (within s turns d).1 (λ w. (within w turns (suc e)).0) (λ w. (within w turns (suc e)).1) i.0 i.1,
    entries_of_live s n ends l turns room (has_room d) (place_left l d (omega arith)) (within s turns d).0 (within s turns d).1 (λ w. (within w turns (suc e)).0) (λ w. (within w turns (suc e)).1) i.0 i.1,
  )

  pub literal_live : {floor : ℕ} (d e l : ℕ) → d < e → l + d ≡ 128 → go.Live s n l l floor true (clear (only nought)) (clear any) (literal_of s turns d) (λ w. literal_of w turns e)
  unfolding literal_of
  literal_live d zero l less all = absurd (omega arith)
  literal_live d (suc e) l less all = let i = within_live d (suc e) (suc l) less (omega arith) in
      then s n ends (node_live s n ends l turns room (has_room d) (place_left l d all) (within s turns d).0 (within s turns d).1 (λ w. (within w turns (suc e)).0) (λ w. (within w turns (suc e)).1) i.0 i.1 None) (λ x. pure_live s n ends _) refl

  pub literal_start : {l : ℕ} (e : ℕ) → go.Starts s n l l (only nought) any (λ w. literal_of w turns e)
  unfolding literal_of node
  literal_start e = step.then_starts s n ends (step.first_starts s n ends is_scalar _ _ refl
      (step.then_starts s n ends (step.has_starts s n ends is_scalar (scalar None) nought any refl refl) (λ l. step.pure_starts s n ends _ any) refl)) (λ x. step.pure_starts s n ends _ any) refl

  -- a value of one lexeme
  constant_at : (d e l : ℕ) (from : Side) (here : ℕ → Bool) (st : State) (seen : ℕ) → st.at < n → is_scalar (form (s st.at)) ≡ true
      → go.Tight s n (λ x. false) (past st) (max (max seen st.at) st.at) → Sub here from.next → go.LivesAt s n l l true from (clear here) (literal_of s turns d st seen) (λ w. literal_of w turns e) st
  unfolding literal_of node
  constant_at d e l from here st seen less is after sub =
      let inside : st.at ≤ n = omega arith in
      go.lives_then s n _ (step.choose_strict_at s n ends {v = true} {h = from.here} {g = from.here} is_scalar _ _ _ _ st seen inside refl
      (λ v less. go.lives_then s n _ (step.had_at s n ends is_scalar (scalar None) _ (clear here) st _ inside refl is after sub (stays_level is_scalar l refl))
      (λ l b sn late grows near. step.pure_at s n ends (clear here) _ b sn late near) (λ l b late. step.pure_starts s n ends _ here b late))
      (λ v. absurd (true≢false (sym is ∙ v))))
      (λ x b sn late grows near. step.pure_at s n ends (clear here) _ b sn late near) (λ l b late. step.pure_starts s n ends _ here b late)

  -- a literal, which may be a constant at the end
  pub literal_near : {floor : ℕ} (d e l : ℕ) → d < e → l + d ≡ 128 → (here : ℕ → Bool) → go.Live s n l l floor true (record { near = is_constant; next = here; here = only nought }) (clear here) (literal_of s turns d) (λ w. literal_of w turns e)
  literal_near {floor} d e l less all here = record {
    lives = λ st seen above inside tight. helper st seen above inside tight (is_constant (form (s st.at))) refl;
    starts = λ st late. let b = (literal_live {floor = 0} d e l less all).starts st late in record {
      more = b.more;
      value = b.value;
      last = b.last;
      ends = b.ends;
      flows = b.flows;
      goes = λ w spells meets. b.goes w spells (refl, meets.1);
    };
  } where
    helper : (st : State) (seen : ℕ) → floor ≤ st.at → st.at ≤ n → go.Tight s n is_constant st seen → (v : Bool) → is_constant (form (s st.at)) ≡ v
        → go.LivesAt s n l l true (record { near = is_constant; next = here; here = only nought }) (clear here) (literal_of s turns d st seen) (λ w. literal_of w turns e) st
    helper st seen above inside tight true is = let less = step.inside s n ends is_constant st.at inside refl is in
        constant_at d e l _ here st seen less (implied is_constant is_scalar (s st.at) refl is) (step.past_tight s n ends is_constant (λ x. false) st (max seen st.at) less (go.tight_at s n is_constant st seen inside tight)) (sub_same here)
    helper st seen above inside tight false miss = side.from_near s n ends miss (side.sided_at s n ends refl refl refl refl refl (sub_any here)
        ((literal_live {floor = floor} d e l less all).lives st seen above inside (side.tight_none s n ends is_constant st seen miss tight)))
