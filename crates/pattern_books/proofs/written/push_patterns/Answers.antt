use Rattle.std.proofs.Common.{◌≡◌, ◌<◌, ◌++◌, List, map, sym, ap, append_assoc, ◌∙◌, arith}
use Rattle.doc_values.specs.Places.{label_at}
use Rattle.doc_values.specs.Tree.{Label, Forest, size}
use Rattle.rule_meaning.specs.Patterns.{Written}
use Rattle.value_store.specs.code.Books.{written}
use Rattle.pattern_books.specs.code.Writing.{see_written}
use Rattle.pattern_books.proofs.SitesWritten.{none-written, written_before, written_before-none, written_before-more, written_before-all}
use Rattle.pattern_books.proofs.written.push_patterns.Goals as goal

pub loop-id-init : goal.loop-id-init
loop-id-init c = none-written (map see_written c.args.texts.now.items) (written_before c.args.tree.now 0) (written_before-none c.args.tree.now)

pub loop-id-preserved : goal.loop-id-preserved
loop-id-preserved c =
    let tree : Forest = c.args.tree.now in
    let before = map see_written c.args.texts.now.items in
    let seen = written_before tree c.loop-id.id in
    let within : c.loop-id.id < size tree = omega arith in
    let same : label_at c.cursor.result.doc.now c.cursor.result.id ≡ label_at tree c.loop-id.id = ap (λ (t : Forest). label_at t c.cursor.result.id) c.cursor.ensures.doc ∙ ap (label_at tree) c.cursor.ensures.id in
    c.in_ok-push_pattern.ensures
    ∙ ap (λ (l : Label). map see_written c.loop-id.texts.items ++ written l) same
    ∙ ap (λ (ws : List Written). ws ++ written (label_at tree c.loop-id.id)) c.loop-id.invariant
    ∙ append_assoc before seen (written (label_at tree c.loop-id.id))
    ∙ ap (λ (ws : List Written). before ++ ws) (sym (written_before-more tree c.loop-id.id within))

pub returns : goal.returns
returns c = c.loop-id.invariant ∙ ap (λ (ws : List Written). map see_written c.args.texts.now.items ++ ws) (written_before-all c.args.tree.now c.loop-id.id (omega arith))
