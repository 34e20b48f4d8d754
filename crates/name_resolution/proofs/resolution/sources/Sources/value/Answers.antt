use Rattle.rule_names.proofs.FileParts.{file-rise}
use Rattle.name_resolution.proofs.resolution.sources.Sources.value.Goals as goal

pub in_file-requires : goal.in_file-requires
in_file-requires c = file-rise c.args.self.now.file.now c.args.self.now.sites
