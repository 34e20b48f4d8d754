use Rattle.std.proofs.Common.{inr, refl, sym, ◌∙◌}
use Rattle.doc_values.specs.Limits.{template_limit}
use Rattle.guard_ends.specs.Inputs.{IsText, RefusesData}
use Rattle.guard_ends.specs.declared.format.Format.TheVariants as format
use Rattle.guard_inputs.proofs.Refusing.{json-why, placed-not_read}
use Rattle.guard_inputs.proofs.tree.read_as_json.Goals as goal

pub returns-in-Err-clause-read : goal.returns-in-Err-clause-read
returns-in-Err-clause-read c =
    let text : IsText template_limit c.args.text.now = record { within = c.requires; utf8 = c.utf8.text } in
    placed-not_read (RefusesData c.args.which format.Json) c.args.which c.args.text.now c.json_kind.result c.unread_at.result
    (λ kind at named. inr (inr (
      text,
      (kind, at, refl, json-why c.args.text.now c.in-Err.refusal kind at (sym c.json_kind.ensures ∙ named) c.in-Err.ensures.answer),
    ))) c.unread_at.ensures
