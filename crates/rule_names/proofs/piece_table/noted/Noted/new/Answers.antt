use Rattle.std.proofs.Common.{◌∙◌, sym, subst, rules}
use Rattle.std.proofs.lemmas.List.{length-map}
use Rattle.guard_syntax.specs.code.Seen.{see_file}
use Rattle.rule_names.specs.code.Seen.{see_piece}
use Rattle.rule_names.specs.code.PieceTables.{IsTableOf}
use Rattle.rule_names.proofs.PieceTables.{table-made}
use Rattle.rule_names.proofs.piece_table.noted.Noted.new.Goals as goal

pub invariant_of-result : goal.invariant_of-result
invariant_of-result c = subst (IsTableOf (see_file c.args.file.now.raw)) (sym c.in_file.ensures) (table-made (see_file c.args.file.now.raw) _ c.args.file.now.sites (length-map c.resize.new.self.items see_piece ∙ search rules))
