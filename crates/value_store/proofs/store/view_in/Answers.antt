use Rattle.std.proofs.Common.{ap, ◌∙◌}
use Rattle.doc_values.specs.Tree.{Forest}
use Rattle.value_store.specs.code.BookCovers.{covers}
use Rattle.rule_meaning.specs.Values.{value_at}
use Rattle.value_store.proofs.HeldPatterns.{held-at}
use Rattle.value_store.proofs.store.view_in.Goals as goal

pub returns-then-not-key-clause-held : goal.returns-then-not-key-clause-held
returns-then-not-key-clause-held c = λ book held.
    ap (λ (t : Forest). covers book (value_at t c.cursor-at.result.id)) c.cursor-at.ensures.doc ∙ held-at book c.args.doc.now c.cursor-at.result.id held
