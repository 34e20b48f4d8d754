-- Groups of elements as the code has them.
use Rattle.std.specs.Prelude.{List, map}
use Rattle.std.specs.Global.{Vec}
use Rattle.doc_values.specs.declared.cursor.Cursor.{Cursor}
use Rattle.rule_meaning.specs.Values.{Value}
use Rattle.rule_generator.specs.code.Groups.{Grouped}
use Rattle.rule_generator.specs.code.Seen.{texts_seen, values_seen}
use Rattle.rule_generator.specs.declared.group.Groups.{Groups}

abbrev pub group_seen : Vec Cursor → List Value
group_seen members = values_seen members.items

abbrev pub see_groups : Groups → Grouped
see_groups all = record { types = texts_seen all.types.keys; groups = map group_seen all.members.items }
