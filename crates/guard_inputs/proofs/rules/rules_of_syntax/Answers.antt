use Rattle.std.proofs.Common.{None, ap, inr, refl, subst, sym}
use Rattle.doc_values.specs.Limits.{rules_limit}
use Rattle.guard_syntax.specs.code.Seen.{see_file}
use Rattle.name_table.specs.code.Refused.{IsNameRefusal}
use Rattle.name_table.specs.declared.refusal.NameRefusal.TheVariants.{Bad}
use Rattle.rule_names.specs.Faults.{Fault}
use Rattle.guard_ends.specs.Inputs.{IsSyntax, IsText, name_kind, name_said}
use Rattle.guard_ends.specs.Order.{Ends}
use Rattle.guard_ends.specs.declared.ends.Refusal.TheVariants.{At}
use Rattle.guard_ends.specs.declared.ends.Which.TheVariants as file
use Rattle.guard_inputs.proofs.rules.rules_of_syntax.Goals as goal

pub resolve-requires-clause-sites : goal.resolve-requires-clause-sites
resolve-requires-clause-sites c = c.sites_in_order.ensures c.args.text.now c.requires.syntax.0 (see_file c.args.raw) None c.requires.syntax.2.1

pub resolve-requires-clause-begins : goal.resolve-requires-clause-begins
resolve-requires-clause-begins c = c.queries_begin.ensures c.args.text.now c.requires.syntax.0 (see_file c.args.raw) None c.requires.syntax.2.1

pub returns-in-Ok-refused_name : goal.returns-in-Ok-refused_name
returns-in-Ok-refused_name c =
    let text : IsText rules_limit c.args.text.now = record { within = c.requires.short; utf8 = c.utf8.text } in
    let bad : IsNameRefusal (see_file c.args.raw) (Bad c.in-Err-Bad.kind c.in-Err-Bad.name c.in-Err-Bad.at) =
    subst (λ r. IsNameRefusal (see_file c.args.raw) r) c.in-Err-Bad.field-0-is c.in-Err-Bad.ensures in
    let fault : Fault = record { kind = c.in-Err-Bad.kind; named = record { text = c.in-Err-Bad.name; at = c.in-Err-Bad.at } } in (
      At file.Rules (name_kind c.in-Err-Bad.kind) c.in-Err-Bad.at (name_said c.in-Err-Bad.kind c.in-Err-Bad.name),
      (text, inr (see_file c.args.raw, c.requires.syntax, (fault, bad, refl, refl, refl))),
      ap Ends (rw c.as_bytes.ensures.value at c.in-Ok-refused_name.ensures),
    )

pub returns-in-Ok : goal.returns-in-Ok
returns-in-Ok c = record {
  text = record { within = c.requires.short; utf8 = c.utf8.text };
  read = subst (IsSyntax c.args.text.now) (sym c.in-Ok.ensures) c.requires.syntax;
  named = c.in-Ok.rules.named;
}
