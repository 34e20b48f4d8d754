use Rattle.std.proofs.Common.{◌∷◌, suc, ap, ◌∙◌, arith}
use Rattle.guard_lexer.specs.code.Firsts.{word_kind}
use Rattle.guard_lexer.specs.code.Reach.{in_name, typed}
use Rattle.guard_lexer.proofs.Firsts.{is_first, word_found}
use Rattle.guard_lexer.proofs.first.word_at.Goals as goal

pub returns : goal.returns
returns c = λ dot.
    is_first dot c.args.at (c.args.first ∷ c.args.rest.now) c.token.result (word_kind (typed c.args.rest.now)) (suc (in_name c.args.rest.now))
    (c.token.ensures.kind ∙ c.word_kind-kind.ensures ∙ ap word_kind c.name_len-len.ensures.typed) c.token.ensures.from (omega arith) (word_found dot c.args.first c.args.rest.now c.requires.letter)
