use Rattle.std.proofs.Common.{◌≤◌, ℕ, Err, List, ap, inl, inr, length, refl, string_bytes, subst, sym}
use Rattle.doc_values.specs.Limits.{rules_limit}
use Rattle.guard_ends.specs.Inputs.{AreGenerated}
use Rattle.guard_ends.specs.Order.{Ends}
use Rattle.guard_ends.specs.declared.ends.Refusal.TheVariants.{TextTooLong}
use Rattle.guard_run.specs.code.Outcome.{ended}
use Rattle.guard_run.proofs.rulegen.write_generated.Goals as goal

pub returns-in-Ok : goal.returns-in-Ok
returns-in-Ok c bytes =
    let text : List ℕ = string_bytes c.in-Ok.text in
    let generated : AreGenerated c.args.tree.now text = record {
      same = c.in-Ok.ensures.text;
      within = subst (λ (t : List ℕ). length t ≤ rules_limit) (sym c.in-Ok.ensures.text) c.in-Ok.ensures.within;
    } in
    inr (text, generated, (ended c.passed.result, c.passed.ensures, refl))

pub returns-in-Err-TooLong : goal.returns-in-Err-TooLong
returns-in-Err-TooLong c bytes =
    inl (TextTooLong, (refl, c.in-Err-TooLong.ensures.too_long (ap Err c.in-Err-TooLong.field-0-is)), ap Ends (c.text_too_long.ensures bytes))
