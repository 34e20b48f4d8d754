use Rattle.rule_spelling.proofs.Words.{note_is}
use Rattle.rule_spelling.proofs.laws.note_word.Goals as goal

pub returns : goal.returns
returns c dot text h = note_is dot text h.open_end h.front h.back
