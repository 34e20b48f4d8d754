-- A literal is read alike over lexemes that agree as far as was looked.
use Rattle.std.proofs.Common.{Bool, ℕ, zero, suc, List, Option, Some, None}
use Rattle.doc_values.specs.Tree.{Forest, Nil, Node, snoc, has_key}
use Rattle.doc_values.specs.declared.kind.Kind.TheVariants as kind
use Rattle.literal_parser.specs.Lexemes.{Lexeme}
use Rattle.literal_parser.specs.Forms.{form, is_lbrace, is_rbrace, is_lbracket, is_rbracket, is_comma, is_colon, is_r, is_number, is_key, is_scalar, is_opening_end, is_closing_end, is_square, opens_range, text_of, number_of}
use Rattle.literal_parser.specs.code.Parser.{Parser}
use Rattle.literal_parser.specs.Literal.{scalar, holder, is_mixed}
use Rattle.literal_parser.specs.code.LiteralReading.{bounds, range, bounded, list, map_of, node, more_items, items_of, valued, entry, more_entries, entries_of, within, literal_of}
use Rattle.literal_parser.proofs.Steps.{Local, alike_then, alike_if, pure_local, stop_local, takes_local, has_local, choose_local, pair_local, ranged_local}

module _ (s w : ℕ → Lexeme) where
  bounds_local : Local s w (bounds s) (bounds w)
  unfolding bounds
  bounds_local st seen = alike_then s w _ _ (has_local s w is_opening_end (λ x. is_square (form x)) st seen) (λ i a sn. alike_then s w _ _ (has_local s w is_number number_of a sn) (λ low b sn.
      alike_then s w _ _ (takes_local s w is_comma b sn) (λ u c sn. alike_then s w _ _ (has_local s w is_number number_of c sn) (λ high l sn.
      alike_then s w _ _ (has_local s w is_closing_end (λ x. is_square (form x)) l sn) (λ j m sn. pure_local s w _ m sn)))))

  range_local : (name : Option (List ℕ)) → Local s w (range s name) (range w name)
  unfolding range
  range_local name st seen = alike_then s w _ _ (has_local s w is_r (λ x. x) st seen) (λ r a sn. alike_then s w _ _ (bounds_local a sn) (λ b c sn.
      alike_then s w _ _ (ranged_local s w (is_mixed b) r.from c sn) (λ u l sn. pure_local s w _ l sn)))

  module _ (turns : ℕ) (room : Bool) (is iw es ew : Parser Forest) (items_local : Local s w is iw) (entries_local : Local s w es ew) where
    list_local : (name : Option (List ℕ)) → Local s w (list s turns room is es name) (list w turns room iw ew name)
    unfolding list
    list_local name st seen = alike_then s w _ _ (has_local s w is_lbracket (holder kind.List name) st seen) (λ l a sn. alike_then s w _ _ (items_local a sn) (λ kids b sn.
        alike_then s w _ _ (takes_local s w is_rbracket b sn) (λ u c sn. pure_local s w _ c sn)))

    map_local : (name : Option (List ℕ)) → Local s w (map_of s turns room is es name) (map_of w turns room iw ew name)
    unfolding map_of
    map_local name st seen = alike_then s w _ _ (has_local s w is_lbrace (holder kind.Map name) st seen) (λ l a sn. alike_then s w _ _ (entries_local a sn) (λ kids b sn.
        alike_then s w _ _ (takes_local s w is_rbrace b sn) (λ u c sn. pure_local s w _ c sn)))

    bounded_local : (name : Option (List ℕ)) → Local s w (bounded s turns room is es name) (bounded w turns room iw ew name)
    unfolding bounded
    bounded_local name st seen = alike_if s w room _ _ _ _ st seen (pair_local s w opens_range _ _ _ _ (range_local name) (λ st seen. stop_local s w seen) st seen) (stop_local s w seen)

    node_local : (name : Option (List ℕ)) → Local s w (node s turns room is es name) (node w turns room iw ew name)
    unfolding node
    node_local name = choose_local s w is_scalar _ _ _ _
        (λ st seen. alike_then s w _ _ (has_local s w is_scalar (scalar name) st seen) (λ l a sn. pure_local s w _ a sn))
        (choose_local s w is_lbracket _ _ _ _ (list_local name) (choose_local s w is_lbrace _ _ _ _ (map_local name)
        (choose_local s w is_r _ _ _ _ (bounded_local name) (λ st seen. stop_local s w seen))))

    more_items_local : (k : ℕ) → Local s w (more_items s turns room is es k) (more_items w turns room iw ew k)
    unfolding more_items
    more_items_local zero st seen = stop_local s w seen
    more_items_local (suc k) st seen = choose_local s w is_comma _ _ _ _
        (λ st seen. alike_then s w _ _ (takes_local s w is_comma st seen) (λ u a sn. alike_then s w _ _ (node_local None a sn) (λ x b sn. alike_then s w _ _ (more_items_local k b sn) (λ rest c sn. pure_local s w _ c sn))))
        (λ st seen. pure_local s w _ st seen) st seen

    items_of_local : Local s w (items_of s turns room is es) (items_of w turns room iw ew)
    unfolding items_of
    items_of_local = choose_local s w is_rbracket _ _ _ _ (λ st seen. pure_local s w _ st seen)
        (λ st seen. alike_then s w _ _ (node_local None st seen) (λ x b sn. alike_then s w _ _ (more_items_local turns b sn) (λ rest c sn. pure_local s w _ c sn)))

    valued_local : (name : List ℕ) → Local s w (valued s turns room is es name) (valued w turns room iw ew name)
    unfolding valued
    valued_local name st seen = alike_then s w _ _ (takes_local s w is_colon st seen) (λ u a sn. node_local (Some name) a sn)

    entry_local : (before : Forest) → Local s w (entry s turns room is es before) (entry w turns room iw ew before)
    unfolding entry
    entry_local before st seen = alike_then s w _ _ (has_local s w is_key text_of st seen) (λ name a sn. alike_if s w (has_key before name) _ _ _ _ a sn (stop_local s w sn) (valued_local name a sn))

    more_entries_local : (k : ℕ) (before : Forest) → Local s w (more_entries s turns room is es k before) (more_entries w turns room iw ew k before)
    unfolding more_entries
    more_entries_local zero before st seen = stop_local s w seen
    more_entries_local (suc k) before st seen = choose_local s w is_comma _ _ _ _
        (λ st seen. alike_then s w _ _ (takes_local s w is_comma st seen) (λ u a sn. alike_then s w _ _ (entry_local before a sn) (λ x b sn.
        alike_then s w _ _ (more_entries_local k (snoc before x.0 x.1) b sn) (λ rest c sn. pure_local s w _ c sn))))
        (λ st seen. pure_local s w _ st seen) st seen

    entries_of_local : Local s w (entries_of s turns room is es) (entries_of w turns room iw ew)
    unfolding entries_of
    entries_of_local = choose_local s w is_rbrace _ _ _ _ (λ st seen. pure_local s w _ st seen)
        (λ st seen. alike_then s w _ _ (entry_local Nil st seen) (λ x b sn. alike_then s w _ _ (more_entries_local turns (Node x.0 x.1 Nil) b sn) (λ rest c sn. pure_local s w _ c sn)))

  within_local : (turns depth : ℕ) → Local s w (within s turns depth).0 (within w turns depth).0 × Local s w (within s turns depth).1 (within w turns depth).1
  within_local turns zero = (λ st seen. stop_local s w seen, λ st seen. stop_local s w seen)
  within_local turns (suc depth) = let i = within_local turns depth in (items_of_local turns _ _ _ _ _ i.0 i.1, entries_of_local turns _ _ _ _ _ i.0 i.1)

  pub literal_local : (turns depth : ℕ) → Local s w (literal_of s turns depth) (literal_of w turns depth)
  unfolding literal_of
  literal_local turns depth st seen = let i = within_local turns depth in
      alike_then s w _ _ (node_local turns _ _ _ _ _ i.0 i.1 None st seen) (λ x a sn. pure_local s w _ a sn)
