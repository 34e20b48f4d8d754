-- A literal is read alike with any number of turns above that of the lexemes.
use Rattle.std.proofs.Common.{◌≡◌, ℕ, zero, suc, ◌+◌, ◌<◌, ◌≤◌, max, Bool, true, false, refl, arith, List, Option, Some, None}
use Rattle.doc_values.specs.Tree.{Forest, Nil, Node, snoc, has_key}
use Rattle.doc_values.specs.declared.kind.Kind.TheVariants as kind
use Rattle.literal_parser.specs.Lexemes.{Lexeme}
use Rattle.literal_parser.specs.Forms.{form, is_lbrace, is_rbrace, is_lbracket, is_rbracket, is_comma, is_colon, is_r, is_number, is_key, is_scalar, is_opening_end, is_closing_end, is_square, opens_range, text_of, number_of}
use Rattle.literal_parser.specs.States.{State}
use Rattle.literal_parser.specs.code.Parser.{Parser, choose}
use Rattle.literal_parser.specs.Literal.{scalar, holder, is_mixed}
use Rattle.literal_parser.specs.code.LiteralReading.{bounds, range, bounded, list, map_of, node, more_items, items_of, valued, entry, more_entries, entries_of, within, literal_of}
use Rattle.literal_parser.proofs.Steady.{HasRoom, Steady, AreSteady, steady_then, steady_if, pure_steady, stop_steady, takes_steady, has_steady, choose_steady, pair_steady, ranged_steady}

module _ (s : ℕ → Lexeme) (n : ℕ) (ends : form (s n) ≡ 0) where
  bounds_steady : {free : ℕ} → AreSteady s n ends free true (bounds s) (bounds s)
  unfolding bounds
  bounds_steady st seen near few = steady_then s n ends _ _ (has_steady s n ends is_opening_end (λ x. is_square (form x)) refl st seen near few) (λ i a sn near few far. steady_then s n ends _ _ (has_steady s n ends is_number number_of refl a sn near few) (λ low b sn near few far.
      steady_then s n ends _ _ (takes_steady s n ends is_comma refl b sn near few) (λ u c sn near few far. steady_then s n ends _ _ (has_steady s n ends is_number number_of refl c sn near few) (λ high l sn near few far.
      steady_then s n ends _ _ (has_steady s n ends is_closing_end (λ x. is_square (form x)) refl l sn near few) (λ j m sn near few far. pure_steady s n ends _ m sn near few)))))

  range_steady : {free : ℕ} (name : Option (List ℕ)) → AreSteady s n ends free true (range s name) (range s name)
  unfolding range
  range_steady name st seen near few = steady_then s n ends _ _ (has_steady s n ends is_r (λ x. x) refl st seen near few) (λ r a sn near few far. steady_then s n ends _ _ (bounds_steady a sn near few) (λ b c sn near few far.
      steady_then s n ends _ _ (ranged_steady s n ends (is_mixed b) r.from c sn near few) (λ u l sn near few far. pure_steady s n ends _ l sn near few)))

  module _ (turns larger : ℕ) (enough : n < turns) (plenty : n < larger) (room : Bool) (is iw es ew : Parser Forest) (items_steady : AreSteady s n ends 5 false is iw) (entries_steady : AreSteady s n ends 5 false es ew) where
    list_steady : {free : ℕ} (name : Option (List ℕ)) → AreSteady s n ends free true (list s turns room is es name) (list s larger room iw ew name)
    unfolding list
    list_steady name st seen near few = steady_then s n ends _ _ (has_steady s n ends is_lbracket (holder kind.List name) refl st seen near few) (λ l a sn near few far. steady_then s n ends _ _ (items_steady a sn near few) (λ kids b sn near few far.
        steady_then s n ends _ _ (takes_steady s n ends is_rbracket refl b sn near few) (λ u c sn near few far. pure_steady s n ends _ c sn near few)))

    map_steady : {free : ℕ} (name : Option (List ℕ)) → AreSteady s n ends free true (map_of s turns room is es name) (map_of s larger room iw ew name)
    unfolding map_of
    map_steady name st seen near few = steady_then s n ends _ _ (has_steady s n ends is_lbrace (holder kind.Map name) refl st seen near few) (λ l a sn near few far. steady_then s n ends _ _ (entries_steady a sn near few) (λ kids b sn near few far.
        steady_then s n ends _ _ (takes_steady s n ends is_rbrace refl b sn near few) (λ u c sn near few far. pure_steady s n ends _ c sn near few)))

    bounded_steady : {free : ℕ} (name : Option (List ℕ)) → AreSteady s n ends free true (bounded s turns room is es name) (bounded s larger room iw ew name)
    unfolding bounded
    bounded_steady name st seen near few = steady_if s n ends {u = true} room _ _ _ _ st seen (pair_steady s n ends {u = true} opens_range _ _ _ _ (range_steady name) (λ st seen near few. stop_steady s n ends seen) st seen near few) (stop_steady s n ends seen)

    node_steady : {free : ℕ} (name : Option (List ℕ)) → AreSteady s n ends free true (node s turns room is es name) (node s larger room iw ew name)
    unfolding node
    node_steady name = choose_steady s n ends is_scalar _ _ _ _
        (λ st seen near few. steady_then s n ends _ _ (has_steady s n ends is_scalar (scalar name) refl st seen near few) (λ l a sn near few far. pure_steady s n ends _ a sn near few))
        (choose_steady s n ends is_lbracket _ _ _ _ (list_steady name) (choose_steady s n ends is_lbrace _ _ _ _ (map_steady name)
        (choose_steady s n ends is_r _ _ _ _ (bounded_steady name) (λ st seen near few. stop_steady s n ends seen))))

    more_items_steady : (k m : ℕ) (st : State) (seen : ℕ) → n < k + st.at → n < m + st.at → st.at ≤ n → HasRoom 5 st → Steady s n ends 5 false st (more_items s turns room is es k st seen) (more_items s larger room iw ew m st seen)
    unfolding more_items choose
    more_items_steady zero m st seen left right near few = absurd (omega arith)
    more_items_steady (suc k) zero st seen left right near few = absurd (omega arith)
    more_items_steady (suc k) (suc m) st seen left right near few = steady_if s n ends {v = true} (is_comma (form (s st.at))) _ _ _ _ st (max seen st.at)
        (steady_then s n ends _ _ (takes_steady s n ends is_comma refl st _ near few) (λ u a sn near few one. steady_then s n ends _ _ (node_steady None a sn near few) (λ x b sn near few two.
        steady_then s n ends _ _ (more_items_steady k m b sn (omega arith) (omega arith) near few) (λ rest c sn near few far. pure_steady s n ends _ c sn near few))))
        (pure_steady s n ends _ st _ near few)

    items_of_steady : AreSteady s n ends 5 false (items_of s turns room is es) (items_of s larger room iw ew)
    unfolding items_of
    items_of_steady = choose_steady s n ends is_rbracket _ _ _ _ (λ st seen near few. pure_steady s n ends _ st seen near few)
        (λ st seen near few. steady_then s n ends _ _ (node_steady None st seen near few) (λ x b sn near few far. steady_then s n ends _ _ (more_items_steady turns larger b sn (omega arith) (omega arith) near few) (λ rest c sn near few far. pure_steady s n ends _ c sn near few)))

    valued_steady : {free : ℕ} (name : List ℕ) → AreSteady s n ends free true (valued s turns room is es name) (valued s larger room iw ew name)
    unfolding valued
    valued_steady name st seen near few = steady_then s n ends _ _ (takes_steady s n ends is_colon refl st seen near few) (λ u a sn near few far. node_steady (Some name) a sn near few)

    entry_steady : {free : ℕ} (before : Forest) → AreSteady s n ends free true (entry s turns room is es before) (entry s larger room iw ew before)
    unfolding entry
    entry_steady before st seen near few = steady_then s n ends _ _ (has_steady s n ends is_key text_of refl st seen near few) (λ name a sn near few far. steady_if s n ends {v = true} (has_key before name) _ _ _ _ a sn (stop_steady s n ends sn) (valued_steady name a sn near few))

    more_entries_steady : (k m : ℕ) (before : Forest) (st : State) (seen : ℕ) → n < k + st.at → n < m + st.at → st.at ≤ n → HasRoom 5 st
        → Steady s n ends 5 false st (more_entries s turns room is es k before st seen) (more_entries s larger room iw ew m before st seen)
    unfolding more_entries choose
    more_entries_steady zero m before st seen left right near few = absurd (omega arith)
    more_entries_steady (suc k) zero before st seen left right near few = absurd (omega arith)
    more_entries_steady (suc k) (suc m) before st seen left right near few = steady_if s n ends {v = true} (is_comma (form (s st.at))) _ _ _ _ st (max seen st.at)
        (steady_then s n ends _ _ (takes_steady s n ends is_comma refl st _ near few) (λ u a sn near few one. steady_then s n ends _ _ (entry_steady before a sn near few) (λ x b sn near few two.
        steady_then s n ends _ _ (more_entries_steady k m (snoc before x.0 x.1) b sn (omega arith) (omega arith) near few) (λ rest c sn near few far. pure_steady s n ends _ c sn near few))))
        (pure_steady s n ends _ st _ near few)

    entries_of_steady : AreSteady s n ends 5 false (entries_of s turns room is es) (entries_of s larger room iw ew)
    unfolding entries_of
    entries_of_steady = choose_steady s n ends is_rbrace _ _ _ _ (λ st seen near few. pure_steady s n ends _ st seen near few)
        (λ st seen near few. steady_then s n ends _ _ (entry_steady Nil st seen near few) (λ x b sn near few far. steady_then s n ends _ _ (more_entries_steady turns larger (Node x.0 x.1 Nil) b sn (omega arith) (omega arith) near few) (λ rest c sn near few far. pure_steady s n ends _ c sn near few)))

  module _ (turns larger : ℕ) (enough : n < turns) (plenty : n < larger) where
    within_steady : (depth : ℕ) → AreSteady s n ends 5 false (within s turns depth).0 (within s larger depth).0 × AreSteady s n ends 5 false (within s turns depth).1 (within s larger depth).1
    within_steady zero = (λ st seen near few. stop_steady s n ends seen, λ st seen near few. stop_steady s n ends seen)
    within_steady (suc depth) = let i = within_steady depth in (
      items_of_steady turns larger enough plenty _ _ _ _ _ i.0 i.1,
      entries_of_steady turns larger enough plenty _ _ _ _ _ i.0 i.1,
    )

    pub literal_steady : {free : ℕ} (depth : ℕ) → AreSteady s n ends free true (literal_of s turns depth) (literal_of s larger depth)
    unfolding literal_of
    literal_steady depth st seen near few = let i = within_steady depth in
        steady_then s n ends _ _ (node_steady turns larger enough plenty _ _ _ _ _ i.0 i.1 None st seen near few) (λ x a sn near few far. pure_steady s n ends _ a sn near few)
