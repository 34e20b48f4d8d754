use Rattle.std.proofs.Common.{◌∙◌}
use Rattle.std.specs.Str.{bytes_eq}
use Rattle.clap.proofs.WalkLemmas.{list_any-map}
use Rattle.guard_words.specs.code.Reading.{use_text}
use Rattle.guard_words.proofs.reading.is_given.Goals as goal

pub returns : goal.returns
returns c = c.any_named.ensures ∙ list_any-map (λ u. bytes_eq u.0 c.args.name.now) use_text c.args.uses.now
