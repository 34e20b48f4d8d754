use Rattle.value_store.proofs.HeldPatterns.{plain-held, plain_some-held}
use Rattle.value_store.proofs.store.Store.tree.Goals as goal

pub returns-in-Template-clause-held : goal.returns-in-Template-clause-held
returns-in-Template-clause-held c = λ book is_book. plain-held book c.args.self.now.doc.now c.args.self.now.plain

pub returns-in-Made-clause-held : goal.returns-in-Made-clause-held
returns-in-Made-clause-held c = λ book is_book. plain_some-held book c.get.result c.get.ensures.plain
