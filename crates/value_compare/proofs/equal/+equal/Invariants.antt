use Rattle.std.proofs.Common.{◌≡◌, ◌+◌, ◌*◌}
use Rattle.doc_values.specs.Tree.{size}
use Rattle.doc_values.specs.Places.{kids_at}
use Rattle.rule_meaning.specs.Pairs.{same_items, same_entries}
use Rattle.value_compare.proofs.Forests.{from_index}
use Rattle.value_compare.proofs.equal.+equal.Given as goal

abbrev pub decreases-pair_values : goal.decreases-pair_values
decreases-pair_values l = 3 * size (kids_at l.left.doc.now l.left.id) + 2

abbrev pub decreases-pair_items : goal.decreases-pair_items
decreases-pair_items l = 3 * size (kids_at l.left.doc.now l.left.id)

abbrev pub decreases-pair_entries : goal.decreases-pair_entries
decreases-pair_entries l = 3 * size (kids_at l.left.doc.now l.left.id) + 1

abbrev pub decreases-pair_entry : goal.decreases-pair_entry
decreases-pair_entry l = 3 * size (kids_at l.entry.doc.now l.entry.id) + 3

abbrev pub invariant-pair_items-loop-i : goal.invariant-pair_items-loop-i
invariant-pair_items-loop-i l =
    (l.matchers.book.now ≡ l.fn.matchers.book.now)
    × (same_items (kids_at l.left.doc.now l.left.id) (kids_at l.right.doc.now l.right.id)
    ≡ same_items (from_index (kids_at l.left.doc.now l.left.id) l.i) (from_index (kids_at l.right.doc.now l.right.id) l.i))

abbrev pub invariant-pair_entries-loop-i : goal.invariant-pair_entries-loop-i
invariant-pair_entries-loop-i l =
    (l.matchers.book.now ≡ l.fn.matchers.book.now)
    × (same_entries (kids_at l.left.doc.now l.left.id) (kids_at l.right.doc.now l.right.id)
    ≡ same_entries (from_index (kids_at l.left.doc.now l.left.id) l.i) (kids_at l.right.doc.now l.right.id))
