use Rattle.std.proofs.Common.{◌∷◌, suc, ◌∙◌, sym, refl, arith}
use Rattle.guard_lexer.specs.declared.token.TokenKind.TheVariants as k
use Rattle.guard_lexer.proofs.Firsts.{is_first}
use Rattle.guard_lexer.proofs.Signs.{note_found, note_open}
use Rattle.guard_lexer.proofs.first.note_at.Goals as goal

pub returns-in_default : goal.returns-in_default
returns-in_default c = λ _. (refl, note_open c.args.rest.now (sym c.note_len.ensures.reach ∙ c.in_default.is))

pub returns : goal.returns
returns c = λ dot.
    is_first dot c.args.at (60 ∷ 60 ∷ c.args.rest.now) c.token.result k.Note (suc (suc c.in-Some.len)) c.token.ensures.kind c.token.ensures.from (omega arith)
    (note_found dot c.args.rest.now c.in-Some.len (sym c.note_len.ensures.reach ∙ c.in-Some.is))
