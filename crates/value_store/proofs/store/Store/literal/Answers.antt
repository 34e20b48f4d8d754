use Rattle.std.proofs.Common.{sym, subst}
use Rattle.guard_syntax.specs.code.Seen.{see_file}
use Rattle.value_store.specs.code.Kept.{AreKept}
use Rattle.value_store.proofs.KeptLiterals.{kept-held}
use Rattle.value_store.proofs.store.Store.literal.Goals as goal

pub returns-in-Some-clause-tree : goal.returns-in-Some-clause-tree
returns-in-Some-clause-tree c =
    let f = see_file c.args.self.now.file.now.raw in
    c.in-Some.ensures f (subst (AreKept f) (sym c.deref-2.ensures.value) c.args.self.now.kept)

pub returns-in-Some-clause-held : goal.returns-in-Some-clause-held
returns-in-Some-clause-held c = λ book is_book.
    let f = see_file c.args.self.now.file.now.raw in
    kept-held f book c.args.site c.in-Some.tree c.args.self.now.file.now.sites is_book (c.in-Some.ensures f (subst (AreKept f) (sym c.deref-2.ensures.value) c.args.self.now.kept))
