use Rattle.std.proofs.Common.{◌∙◌, ap, map, rules}
use Rattle.rule_names.specs.code.Seen.{see_piece}
use Rattle.rule_names.proofs.PiecesNoted.{noted}
use Rattle.rule_names.proofs.piece_table.walk.note.Goals as goal

pub returns-then-index-len : goal.returns-then-index-len
returns-then-index-len c = ap (map see_piece) c.put.ensures ∙ noted see_piece c.args.table.now.items c.args.site c.args.piece (search rules)
