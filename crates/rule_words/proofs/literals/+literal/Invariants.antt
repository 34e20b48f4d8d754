use Rattle.std.proofs.Common.{◌≡◌, ◌++◌, ◌+◌, ◌*◌, string_bytes}
use Rattle.doc_values.specs.Tree.{size}
use Rattle.doc_values.specs.Places.{kids_at}
use Rattle.rule_words.proofs.NodesWithin.{from_index}
use Rattle.rule_words.specs.WordText.{items_text, more_items_text, entries_text, more_entries_text}
use Rattle.rule_words.proofs.InARow.{left}
use Rattle.rule_words.proofs.literals.+literal.Given as goal

abbrev pub decreases-push_value : goal.decreases-push_value
decreases-push_value l = 2 * size (kids_at l.node.doc.now l.node.id) + 1

abbrev pub decreases-push_items : goal.decreases-push_items
decreases-push_items l = 2 * size (kids_at l.list.doc.now l.list.id)

abbrev pub decreases-push_entries : goal.decreases-push_entries
decreases-push_entries l = 2 * size (kids_at l.map.doc.now l.map.id)

abbrev pub invariant-push_items-loop-i : goal.invariant-push_items-loop-i
invariant-push_items-loop-i l =
    string_bytes l.out ++ left items_text more_items_text l.i (from_index (kids_at l.list.doc.now l.list.id) l.i) ≡ string_bytes l.fn.out ++ items_text (kids_at l.list.doc.now l.list.id)

abbrev pub invariant-push_entries-loop-i : goal.invariant-push_entries-loop-i
invariant-push_entries-loop-i l =
    string_bytes l.out ++ left entries_text more_entries_text l.i (from_index (kids_at l.map.doc.now l.map.id) l.i) ≡ string_bytes l.fn.out ++ entries_text (kids_at l.map.doc.now l.map.id)
