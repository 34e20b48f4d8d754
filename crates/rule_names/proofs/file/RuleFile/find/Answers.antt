use Rattle.rule_names.proofs.FileParts.{file-rise}
use Rattle.rule_names.proofs.file.RuleFile.find.Goals as goal

pub in_file-requires : goal.in_file-requires
in_file-requires c = file-rise c.args.self.now.raw c.args.self.now.sites
