-- Which type blocks take memory.
use Rattle.std.specs.Prelude.{Bool, false, codes}
use Rattle.std.specs.Option.{option_map_or}
use Rattle.doc_values.specs.Tree.{is_map}
use Rattle.guard_syntax.specs.declared.row.Ref.{Ref}
use Rattle.rule_meaning.specs.StoreModel.{StoreModel}
use Rattle.rule_meaning.specs.Reached.{entry, value_for}

-- a value is a map whose `Resources` is a map
abbrev pub has_resources : StoreModel → Ref → Bool
has_resources known current = option_map_or (λ (r : Ref). is_map (value_for known r).kind) (entry known current (codes "Resources")) false
