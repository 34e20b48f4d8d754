use Rattle.std.proofs.Common.{◌≡◌, ◌-◌, get_or, take, length, ap, sym, ◌∙◌, arith}
use Rattle.std.proofs.lemmas.List.{take_all}
use Rattle.literal_parser.proofs.Cuts.{white_small}
use Rattle.literal_parser.specs.Lexemes.{back_trimmed}
use Rattle.literal_parser.proofs.Texts.{back_white, back_solid, one_longer}
use Rattle.literal_parser.proofs.lexeme.solid_len.Goals as goal

pub loop-len-preserved : goal.loop-len-preserved
loop-len-preserved c =
    let bytes = c.args.bytes.now in
    let len = c.loop-len.len in
    let some = c.loop-len-test.true in
    let within = c.loop-len.invariant.1 in
    let white = sym c.is_white.ensures ∙ c.if-is_white.true in (
      sym (ap back_trimmed (one_longer bytes len some within) ∙ back_white (take (len - 1) bytes) (get_or bytes (len - 1) 0) white) ∙ c.loop-len.invariant.0,
      omega arith,
      λ less. white_small (get_or bytes (len - 1) 0) white,
    )

pub returns-else-is_white : goal.returns-else-is_white
returns-else-is_white c =
    let bytes = c.args.bytes.now in
    let len = c.loop-len.len in record {
      front = one_longer bytes len c.loop-len-test.true c.loop-len.invariant.1
          ∙ sym (ap back_trimmed (one_longer bytes len c.loop-len-test.true c.loop-len.invariant.1) ∙ back_solid (take (len - 1) bytes) (get_or bytes (len - 1) 0) (sym c.is_white.ensures ∙ c.if-is_white.false))
          ∙ c.loop-len.invariant.0;
      within = c.loop-len.invariant.1;
      next = c.loop-len.invariant.2;
    }

pub loop-len-init : goal.loop-len-init
loop-len-init c = (ap back_trimmed (take_all (length c.args.bytes.now) c.args.bytes.now (omega arith)), omega arith, λ less. absurd (omega arith))

pub returns-after-loop-len : goal.returns-after-loop-len
returns-after-loop-len c =
    let bytes = c.args.bytes.now in
    let len = c.loop-len.len in
    let none = c.loop-len-test.false in
    let zero : len ≡ 0 = omega arith in record {
      front = ap (λ n. take n bytes) zero ∙ sym (ap (λ n. back_trimmed (take n bytes)) zero) ∙ c.loop-len.invariant.0;
      within = c.loop-len.invariant.1;
      next = c.loop-len.invariant.2;
    }
