use Rattle.std.proofs.Common.{◌∙◌, arith}
use Rattle.yaml_grammar.proofs.ReadTwice.{says_again, says_document}
use Rattle.std.proofs.lemmas.Grind.{common_steps}
use Rattle.yaml_blocks.proofs.twice.stop_again.Goals as goal

pub returns-in-Ok-read_document : goal.returns-in-Ok-read_document
returns-in-Ok-read_document c = says_document c.args.text.now c.as_str.result.now c.in-Ok-read_document.field-0 (c.as_str.ensures.value ∙ c.in-Ok.ensures) c.as_str.utf8 c.in-Ok-read_document.ensures.answer

pub returns : goal.returns
returns c = says_again c.args.text.now c.as_str.result.now c.in-Err-read_document.stop (c.as_str.ensures.value ∙ c.in-Ok.ensures) c.requires.returned c.in-Err-read_document.ensures.syntax c.in-Err-read_document.ensures.again

pub read_document-requires : goal.read_document-requires
read_document-requires c = grind (arith, common_steps)
