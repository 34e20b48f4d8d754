use Rattle.std.proofs.Common.{◌≡◌, ◌<◌, ◌+◌, ℕ, List, true, true≢false, sym, ◌∙◌, arith, []}
use Rattle.std.proofs.lemmas.Bool.Decides.{nat_tests}
use Rattle.literal_parser.specs.Lexemes.{lexeme_of}
use Rattle.literal_parser.specs.Forms.{form, is_opening}
use Rattle.guard_parser.proofs.Opened.{one_more, still_few, too_deep}
use Rattle.guard_parser.proofs.nest.first_too_deep.Goals.{else-depth-eq-MOST_OPEN-via-then-depth-eq-MOST_OPEN+else-is_opening, else-depth-eq-MOST_OPEN-via-else-depth-eq-MOST_OPEN}
use Rattle.guard_parser.proofs.nest.first_too_deep.Goals as goal

pub returns-then-is_opening : goal.returns-then-is_opening
returns-then-is_opening c = λ text.
    let i = c.loop-token.invariant.1 text in
    too_deep text c.args.tokens.now c.loop-token.token-index c.token-item.result c.loop-token.depth c.loop-token-test.true c.token-item.is i.0 i.1
    (sym (c.is_opening.ensures text) ∙ c.if-is_opening.true) c.if-depth-eq-MOST_OPEN.true

pub loop-token-preserved : goal.loop-token-preserved
loop-token-preserved c =
    let room : (text : List ℕ) → is_opening (form (lexeme_of text c.token-item.result)) ≡ true → c.loop-token.depth < 128 =
    λ text opening. elim c.else-depth-eq-MOST_OPEN.branch as (λ _. c.loop-token.depth < 128) [
      | else-depth-eq-MOST_OPEN-via-then-depth-eq-MOST_OPEN+else-is_opening w ↦ absurd (true≢false (sym opening ∙ sym (w.is_opening.ensures text) ∙ w.if-is_opening.false))
      | else-depth-eq-MOST_OPEN-via-else-depth-eq-MOST_OPEN w ↦ let few = c.loop-token.invariant.0 in let other = w.if-depth-eq-MOST_OPEN.false in grind (arith, nat_tests)
    ] in
    let next = λ (text : List ℕ). let i = c.loop-token.invariant.1 text in
    one_more text c.args.tokens.now c.loop-token.token-index c.token-item.result c.loop-token.depth c.loop-token-test.true c.token-item.is i.0 i.1 (room text) in (
      still_few [] c.args.tokens.now (c.loop-token.token-index + 1) c.open_behind-depth.result (c.open_behind-depth.ensures [] ∙ (next []).0) (next []).1,
      λ text. (c.open_behind-depth.ensures text ∙ (next text).0, (next text).1),
    )

pub returns : goal.returns
returns c = λ text i less. (c.loop-token.invariant.1 text).1 i (let past = c.loop-token-test.false in omega arith)
