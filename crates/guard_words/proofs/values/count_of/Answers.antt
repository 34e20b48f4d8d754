use Rattle.std.proofs.Common.{sym}
use Rattle.guard_words.proofs.CountLemmas.{no_count}
use Rattle.guard_words.proofs.values.count_of.Goals as goal

pub returns-in_default : goal.returns-in_default
returns-in_default c = no_count c.args.text.now (sym c.if-not-is_numeral.ensures) c.in_default.ensures.value.0
