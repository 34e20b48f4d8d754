use Rattle.std.proofs.Common.{◌≡◌, ◌++◌, rules, refl, sym, ap, ◌∙◌, arith, string_bytes}
use Rattle.std.proofs.lemmas.Grind.{common_steps}
use Rattle.rule_spelling.specs.Spelling.{escaped}
use Rattle.rule_spelling.proofs.Escapes.{turn, escaped_none}
use Rattle.rule_spelling.proofs.quote.push_escaped.Goals as goal

pub loop-front-init : goal.loop-front-init
loop-front-init c = record { utf8 = c.utf8.text; same = refl }

pub loop-front-preserved : goal.loop-front-preserved
loop-front-preserved c =
    let cut = c.in-Some.ensures.byte c.requires (λ w o h. h) in
    record {
      utf8 = search rules;
      same =
          turn c.args.quote (string_bytes c.loop-front.out) (string_bytes c.push_str.new.self) (string_bytes c.push.new.self) (string_bytes c.push-in-Some.new.self) c.loop-front.rest.now c.in-Some.front.now c.in-Some.behind.now c.requires
          c.in_ok-push_str.ensures.bytes c.in_ok-push.ensures.bytes c.in_ok-push-2.ensures.bytes cut.0 cut.1 cut.2 ∙ c.loop-front.invariant.same;
    }

pub returns : goal.returns
returns c =
    let none = c.in_default.ensures.byte c.requires (λ w o h. h) in
    let all : string_bytes c.loop-front.out ++ c.loop-front.rest.now ≡ string_bytes c.args.out.now ++ escaped c.args.quote c.args.text.now =
    ap (λ x. string_bytes c.loop-front.out ++ x) (sym (escaped_none c.args.quote c.loop-front.rest.now none)) ∙ c.loop-front.invariant.same in
    grind (arith, common_steps, all, c.push_str-2.ensures)
