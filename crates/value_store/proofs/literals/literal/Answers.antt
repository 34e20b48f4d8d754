use Rattle.std.proofs.Common.{sym, ap}
use Rattle.std.specs.Prelude.{option_and_then}
use Rattle.guard_syntax.specs.code.Seen.{see_file}
use Rattle.rule_names.specs.code.Seen.{see_piece}
use Rattle.rule_meaning.specs.StoreModel.{tree_of_piece}
use Rattle.value_store.proofs.KeptLiterals.{found-held}
use Rattle.value_store.proofs.literals.literal.Goals as goal

pub returns-in-Some-clause-held : goal.returns-in-Some-clause-held
returns-in-Some-clause-held c = λ book is_book.
    found-held (see_file c.args.file.now.raw) book c.args.site c.literal_of.result (tree_of_piece (see_piece c.in-Some.piece)) c.args.file.now.sites is_book
    (ap (option_and_then tree_of_piece) (sym c.in-Some.ensures)) c.literal_of.ensures
