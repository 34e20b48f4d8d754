use Rattle.literal_parser.proofs.Texts.{front_white, front_solid}
use Rattle.literal_parser.proofs.Cuts.{white_small}
use Rattle.literal_parser.specs.Lexemes.{front_trimmed}
use Rattle.std.proofs.Common.{◌≡◌, ◌+◌, ◌-◌, ◌<◌, length, get_or, ap, sym, ◌∙◌, subst, refl, arith}
use Rattle.std.proofs.lemmas.List.{drop_all}
use Rattle.literal_parser.proofs.lexeme.white_len.Goals as goal

pub loop-at-init : goal.loop-at-init
loop-at-init c = (refl, omega arith, λ some. absurd (omega arith))

pub loop-at-preserved : goal.loop-at-preserved
loop-at-preserved c =
    let bytes = c.args.bytes.now in
    let at = c.loop-at.at in
    let less = c.loop-at-test.true in
    let white = sym c.is_white.ensures ∙ c.if-not-is_white.false in
    let next : at ≡ at + 1 - 1 = omega arith in (
      front_white bytes at less white ∙ c.loop-at.invariant.0,
      omega arith,
      λ some. subst (λ i. get_or bytes i 0 < 128) next (white_small (get_or bytes at 0) white),
    )

pub returns-then-not-is_white : goal.returns-then-not-is_white
returns-then-not-is_white c = record {
  rest = sym (front_solid c.args.bytes.now c.loop-at.at c.loop-at-test.true (sym c.is_white.ensures ∙ c.if-not-is_white.true)) ∙ c.loop-at.invariant.0;
  within = c.loop-at.invariant.1;
  last = c.loop-at.invariant.2;
}

pub returns : goal.returns
returns c =
    let bytes = c.args.bytes.now in
    let at = c.loop-at.at in
    let far = c.loop-at-test.false in
    let within = c.loop-at.invariant.1 in
    let end : at ≡ length bytes = omega arith in record {
      rest = drop_all (length bytes) bytes (omega arith) ∙ sym (ap front_trimmed (drop_all at bytes far)) ∙ c.loop-at.invariant.0;
      within = omega arith;
      last = λ some. subst (λ i. get_or bytes (i - 1) 0 < 128) end (c.loop-at.invariant.2 (omega arith));
    }
