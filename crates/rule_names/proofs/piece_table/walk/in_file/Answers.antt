use Rattle.std.proofs.Common.{◌∙◌, List, ap, map}
use Rattle.guard_syntax.specs.declared.syntax.Disj.{Disj}
use Rattle.guard_syntax.specs.declared.syntax.Let.{Let}
use Rattle.guard_syntax.specs.declared.syntax.Rule.{Rule}
use Rattle.rule_names.specs.code.PieceTables.{with_pieces}
use Rattle.rule_names.specs.code.Seen.{see_piece}
use Rattle.rule_names.proofs.PiecesNoted.{of_lets, of_rules, of_disjs, file-noted}
use Rattle.rule_names.proofs.piece_table.walk.in_file.Goals as goal

pub returns : goal.returns
returns c =
    file-noted c.args.file.now (map see_piece c.args.table.now.items) (map see_piece c.note.new.table.items) (map see_piece c.in_lets.new.table.items) (map see_piece c.in_rules.new.table.items) (map see_piece c.in_disjs.new.table.items)
    c.note.ensures
    (c.in_lets.ensures ∙ ap (λ (l : List Let). with_pieces (map see_piece c.note.new.table.items) (of_lets l)) c.deref.ensures.value)
    (c.in_rules.ensures ∙ ap (λ (l : List Rule). with_pieces (map see_piece c.in_lets.new.table.items) (of_rules l)) c.deref-2.ensures.value)
    (c.in_disjs.ensures ∙ ap (λ (l : List Disj). with_pieces (map see_piece c.in_rules.new.table.items) (of_disjs l)) c.deref-3.ensures.value)
