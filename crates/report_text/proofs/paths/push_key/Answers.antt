use Rattle.std.proofs.Common.{codes}
use Rattle.std.specs.List.{flat_map}
use Rattle.report_text.specs.Paths.{key_byte}
use Rattle.report_text.proofs.Appended.{and-call}
use Rattle.report_text.proofs.paths.push_key.Goals as goal

pub returns : goal.returns
returns c =
    and-call c.push_key_text.result c.args.line.now.items c.push.new.self.items c.push_key_text.new.line.items (codes "/") (flat_map key_byte c.args.key.now) c.in_ok-push.ensures.items c.push_key_text.ensures
