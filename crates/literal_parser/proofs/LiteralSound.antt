-- What is read as a literal is spelled so.
use Rattle.std.proofs.Common.{◌≡◌, inl, inr, Bool, ℕ, zero, suc, true, refl, ap, ◌∙◌, List, Option, Some, None}
use Rattle.doc_values.specs.Tree.{Forest, Nil, Node, snoc, has_key}
use Rattle.decimals.specs.declared.decimal.Range.{Range}
use Rattle.doc_values.specs.declared.kind.Kind.TheVariants as kind
use Rattle.literal_parser.specs.Lexemes.{Lexeme}
use Rattle.literal_parser.specs.Forms.{form, is_lbrace, is_rbrace, is_lbracket, is_rbracket, is_comma, is_colon, is_r, is_number, is_key, is_scalar, is_opening_end, is_closing_end, is_square, opens_range, text_of, number_of}
use Rattle.literal_parser.specs.States.{State, Rel, ◌⨾◌, Takes, Has, ranged}
use Rattle.literal_parser.specs.code.Parser.{Parser, stop, choose_pair}
use Rattle.literal_parser.specs.Literal.{scalar, holder, is_mixed, IsNode, IsEntry, AreItems, AreMoreItems, AreEntries, AreMoreEntries, IsLiteral}
use Rattle.literal_parser.specs.code.LiteralReading.{Tree, bounds, range, bounded, list, map_of, node, more_items, items_of, valued, entry, more_entries, entries_of, within, literal_of}
use Rattle.literal_parser.proofs.Combine.{Holds, Sound, done, failed, holds_then, holds_so, holds_if}
use Rattle.literal_parser.proofs.Steps.{takes_sound, has_sound, choose_sound, pair_sound, ranged_sound}

module _ (s : ℕ → Lexeme) where
  -- the bounds behind the `r`
  abbrev IsBounds : Range → Rel
  IsBounds r = Has s is_opening_end (λ x. is_square (form x)) r.low_in ⨾ Has s is_number number_of r.low ⨾ Takes s is_comma
      ⨾ Has s is_number number_of r.high ⨾ Has s is_closing_end (λ x. is_square (form x)) r.high_in

  bounds_sound : Sound (bounds s) IsBounds
  unfolding bounds
  bounds_sound st seen = holds_then (has_sound s is_opening_end (λ x. is_square (form x)) st seen) (λ low_in a sn e. holds_then (has_sound s is_number number_of a sn) (λ low b sn f.
      holds_then (takes_sound s is_comma b sn) (λ u c sn g. holds_then (has_sound s is_number number_of c sn) (λ high l sn h.
      holds_then (has_sound s is_closing_end (λ x. is_square (form x)) l sn) (λ high_in m sn i. done {R = λ r z. IsBounds r st z} (a, e, (b, f, (c, g, (l, h, i)))))))))

  -- a node, where what stands in it is spelled as given for it
  abbrev IsTreeNode : Option (List ℕ) → Tree → Rel
  IsTreeNode name x = IsNode s name x.0 x.1 (AreItems s x.1) (AreEntries s x.1)

  range_sound : (name : Option (List ℕ)) (st : State) (seen : ℕ) → opens_range (s st.at) (s (suc st.at)) ≡ true → Holds (range s name st seen) (λ x m. IsTreeNode name x st m)
  unfolding range
  range_sound name st seen is = holds_then (has_sound s is_r (λ x. x) st seen) (λ r a sn e. holds_then (bounds_sound a sn) (λ b c sn f.
      holds_then (ranged_sound (is_mixed b) r.from c sn) (λ u d sn g. done {R = λ x m. IsTreeNode name x st m}
      (inr (inl (b, refl, ap (holder (kind.Limits b) name) e.1, (c, (is, (a, (e.0, e.2), f)), g ∙ ap (λ (x : Lexeme). ranged (is_mixed b) x.from c) e.1)))))))

  module _ (turns : ℕ) (room : Bool) (inner_items inner_entries : Parser Forest) (items_sound : Sound inner_items (AreItems s)) (entries_sound : Sound inner_entries (AreEntries s)) where
    list_sound : (name : Option (List ℕ)) → Sound (list s turns room inner_items inner_entries name) (IsTreeNode name)
    unfolding list
    list_sound name st seen = holds_then (has_sound s is_lbracket (holder kind.List name) st seen) (λ l a sn e. holds_then (items_sound a sn) (λ kids b sn f.
        holds_then (takes_sound s is_rbracket b sn) (λ u c sn g. done {R = λ x m. IsTreeNode name x st m} (inr (inr (inl (a, e, (b, f, g))))))))

    map_sound : (name : Option (List ℕ)) → Sound (map_of s turns room inner_items inner_entries name) (IsTreeNode name)
    unfolding map_of
    map_sound name st seen = holds_then (has_sound s is_lbrace (holder kind.Map name) st seen) (λ l a sn e. holds_then (entries_sound a sn) (λ kids b sn f.
        holds_then (takes_sound s is_rbrace b sn) (λ u c sn g. done {R = λ x m. IsTreeNode name x st m} (inr (inr (inr (a, e, (b, f, g))))))))

    bounded_sound : (name : Option (List ℕ)) → Sound (bounded s turns room inner_items inner_entries name) (IsTreeNode name)
    unfolding bounded
    bounded_sound name st seen = holds_if (choose_pair s opens_range (range s name) stop) stop st seen room
        (λ is. pair_sound s opens_range _ _ _ _ (λ is. range_sound name st _ is) (λ is. failed)) (λ is. failed)

    node_sound : (name : Option (List ℕ)) → Sound (node s turns room inner_items inner_entries name) (IsTreeNode name)
    unfolding node
    node_sound name st seen = choose_sound s is_scalar _ _ _ _
        (λ is. holds_then (has_sound s is_scalar (scalar name) st _) (λ l a sn e. done {R = λ x m. IsTreeNode name x st m} (inl (refl, e))))
        (λ is. choose_sound s is_lbracket _ _ _ _ (λ is. list_sound name st _)
        (λ is. choose_sound s is_lbrace _ _ _ _ (λ is. map_sound name st _)
        (λ is. choose_sound s is_r _ _ _ _ (λ is. bounded_sound name st _) (λ is. failed))))

    more_items_sound : (k : ℕ) → Sound (more_items s turns room inner_items inner_entries k) (AreMoreItems s)
    unfolding more_items
    more_items_sound zero st seen = failed
    more_items_sound (suc k) st seen = choose_sound s is_comma _ _ _ _
        (λ is. holds_then (takes_sound s is_comma st _) (λ u a sn e. holds_then (node_sound None a sn) (λ x b sn f. holds_then (more_items_sound k b sn) (λ rest c sn g.
        done {R = λ t m. AreMoreItems s t st m} (a, e, (b, f, g))))))
        (λ is. done {R = λ t m. AreMoreItems s t st m} (is, refl))

    items_of_sound : Sound (items_of s turns room inner_items inner_entries) (AreItems s)
    unfolding items_of
    items_of_sound st seen = choose_sound s is_rbracket _ _ _ _
        (λ is. done {R = λ t m. AreItems s t st m} (is, refl))
        (λ is. holds_then (node_sound None st _) (λ x b sn f. holds_then (more_items_sound turns b sn) (λ rest c sn g. done {R = λ t m. AreItems s t st m} (is, (b, f, g)))))

    abbrev IsTreeEntry : Forest → Tree → Rel
    IsTreeEntry before x = IsEntry s before x.0 x.1 (AreItems s x.1) (AreEntries s x.1)

    valued_sound : (name : List ℕ) → Sound (valued s turns room inner_items inner_entries name) (λ x. Takes s is_colon ⨾ IsTreeNode (Some name) x)
    unfolding valued
    valued_sound name st seen = holds_then (takes_sound s is_colon st seen) (λ u a sn e. holds_so (node_sound (Some name) a sn) (λ x b f. (a, e, f)))

    entry_sound : (before : Forest) → Sound (entry s turns room inner_items inner_entries before) (IsTreeEntry before)
    unfolding entry
    entry_sound before st seen = holds_then (has_sound s is_key text_of st seen) (λ name a sn e. holds_if stop _ a sn (has_key before name) (λ is. failed)
        (λ is. holds_so (valued_sound name a sn) (λ x b f. (name, is, (a, e, f)))))

    more_entries_sound : (k : ℕ) (before : Forest) → Sound (more_entries s turns room inner_items inner_entries k before) (AreMoreEntries s before)
    unfolding more_entries
    more_entries_sound zero before st seen = failed
    more_entries_sound (suc k) before st seen = choose_sound s is_comma _ _ _ _
        (λ is. holds_then (takes_sound s is_comma st _) (λ u a sn e. holds_then (entry_sound before a sn) (λ x b sn f. holds_then (more_entries_sound k (snoc before x.0 x.1) b sn) (λ rest c sn g.
        done {R = λ t m. AreMoreEntries s before t st m} (a, e, (b, f, g))))))
        (λ is. done {R = λ t m. AreMoreEntries s before t st m} (is, refl))

    entries_of_sound : Sound (entries_of s turns room inner_items inner_entries) (AreEntries s)
    unfolding entries_of
    entries_of_sound st seen = choose_sound s is_rbrace _ _ _ _
        (λ is. done {R = λ t m. AreEntries s t st m} (is, refl))
        (λ is. holds_then (entry_sound Nil st _) (λ x b sn f. holds_then (more_entries_sound turns (Node x.0 x.1 Nil) b sn) (λ rest c sn g. done {R = λ t m. AreEntries s t st m} (is, (b, f, g)))))

  within_sound : (turns depth : ℕ) → Sound (within s turns depth).0 (AreItems s) × Sound (within s turns depth).1 (AreEntries s)
  within_sound turns zero = (λ st seen. failed, λ st seen. failed)
  within_sound turns (suc depth) = let i = within_sound turns depth in (items_of_sound turns _ _ _ i.0 i.1, entries_of_sound turns _ _ _ i.0 i.1)

  pub literal_sound : (turns depth : ℕ) → Sound (literal_of s turns depth) (IsLiteral s)
  unfolding literal_of
  literal_sound turns depth st seen = let i = within_sound turns depth in
      holds_then (node_sound turns _ _ _ i.0 i.1 None st seen) (λ x a sn e. done {R = λ t m. IsLiteral s t st m} e)
