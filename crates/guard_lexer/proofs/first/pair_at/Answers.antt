use Rattle.std.proofs.Common.{◌∷◌, ◌∙◌, sym, subst}
use Rattle.guard_lexer.specs.code.Firsts.{IsFirst}
use Rattle.guard_lexer.proofs.Signs.{is_pair, byte_alone}
use Rattle.guard_lexer.proofs.first.pair_at.Goals as goal

pub returns-then-is_note : goal.returns-then-is_note
returns-then-is_note c = λ dot.
    let p = is_pair c.args.first c.args.second (sym c.is_note.ensures ∙ c.if-is_note.true) in
    subst (λ x. IsFirst dot c.args.at (x ∷ c.args.second ∷ c.args.behind.now) c.note_at.result) (sym p.0)
    (subst (λ x. IsFirst dot c.args.at (60 ∷ x ∷ c.args.behind.now) c.note_at.result) (sym p.1) (c.note_at.ensures dot))

pub returns-then-second-eq61 : goal.returns-then-second-eq61
returns-then-second-eq61 c = λ dot.
    subst (λ x. IsFirst dot c.args.at (c.args.first ∷ x ∷ c.args.behind.now) c.equals_at.result) (sym c.if-second-eq61.true) (c.equals_at.ensures dot c.args.behind.now)

pub returns : goal.returns
returns c = λ dot.
    let a = byte_alone c.args.first c.args.second c.args.behind.now c.requires.other (sym c.is_note.ensures ∙ c.if-is_note.false) c.if-second-eq61.false in
    c.single_at.ensures dot (c.args.second ∷ c.args.behind.now) a.0 a.1
