use Rattle.std.proofs.Common.{inr, refl, sym, ◌∙◌}
use Rattle.doc_values.specs.Limits.{rules_limit}
use Rattle.guard_ends.specs.Inputs.{IsText, RefusesUnnamed}
use Rattle.guard_ends.specs.declared.ends.Which.TheVariants as file
use Rattle.guard_inputs.proofs.Refusing.{placed-not_read}
use Rattle.guard_inputs.proofs.syntax.syntax_of_tokens.Goals as goal

pub returns-in-Err : goal.returns-in-Err
returns-in-Err c =
    let text : IsText rules_limit c.args.text.now = record { within = c.requires.short; utf8 = c.utf8.text } in
    placed-not_read RefusesUnnamed file.Rules c.args.text.now c.parse_kind.result c.unread_at.result
    (λ kind at named. (
      text,
      refl,
      inr (
        c.args.tokens.now,
        c.requires.tokens,
        (c.in-Err.refusal, sym c.parse_kind.ensures ∙ named, c.in-Err.ensures.refusal),
      ),
    )) c.unread_at.ensures
