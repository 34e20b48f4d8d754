use Rattle.std.proofs.Common.{◌∙◌, refl}
use Rattle.literal_parser.specs.Lexemes.{keyword_of, reserved}
use Rattle.rule_words.proofs.KeywordTable.{is_among-keyword}
use Rattle.rule_words.proofs.names.is_keyword.Goals as goal

pub returns : goal.returns
unfolding keyword_of
returns c = c.is_among.ensures ∙ is_among-keyword _ reserved c.args.name.now refl
