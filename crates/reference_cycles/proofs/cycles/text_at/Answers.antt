use Rattle.rule_names.proofs.FileParts.{file-rise}
use Rattle.reference_cycles.proofs.cycles.text_at.Goals as goal

pub in_file-requires : goal.in_file-requires
in_file-requires c = file-rise c.args.file.now c.requires
