use Rattle.std.proofs.Common.{sym}
use Rattle.rule_names.proofs.FileParts.{file-rise, file-has}
use Rattle.rule_names.proofs.file.RuleFile.piece.Goals as goal

pub in_file-requires : goal.in_file-requires
in_file-requires c = file-rise c.args.self.now.raw c.args.self.now.sites

pub unreachable-requires : goal.unreachable-requires
unreachable-requires c = file-has c.args.self.now.raw c.args.site c.args.self.now.sites c.requires (sym c.in_default.ensures)
