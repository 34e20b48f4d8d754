-- Literals that a store keeps.
use Rattle.std.specs.Prelude.{◌≡◌, All, List, Some}
use Rattle.guard_syntax.specs.Syntax.{File}
use Rattle.rule_meaning.specs.StoreModel.{literal_at}
use Rattle.value_store.specs.declared.store.KeptLiteral.{KeptLiteral}

-- each tree is that of the literal of its site
abbrev pub AreKept : File → List KeptLiteral → Type 0
AreKept f kept = All (λ (k : KeptLiteral). literal_at f k.site ≡ Some k.tree.now) kept
