-- Stores as the code has them.
use Rattle.guard_syntax.specs.code.Seen.{see_file}
use Rattle.rule_meaning.specs.StoreModel.{StoreModel}
use Rattle.value_store.specs.declared.store.Store.{Store}

-- what a store is over
abbrev pub see_store : Store → StoreModel
see_store s = record { template = s.doc.now; file = see_file s.file.now.raw; made = s.made }
