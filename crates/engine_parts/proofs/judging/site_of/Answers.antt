use Rattle.std.proofs.Common.{◌∙◌}
use Rattle.guard_syntax.specs.code.Seen.{see_part}
use Rattle.engine_parts.proofs.FirstSites.{first-part}
use Rattle.engine_parts.proofs.judging.site_of.Goals as goal

pub returns : goal.returns
returns c = c.site.ensures ∙ first-part (see_part c.args.part.now)
