use Rattle.pattern_books.proofs.FindsLemmas.{pattern_of_regex}
use Rattle.pattern_books.proofs.pattern.Pattern.of.Goals as goal

pub returns-clause-read : goal.returns-clause-read
returns-clause-read c = pattern_of_regex c.args.regex c.requires.config c.requires.read
