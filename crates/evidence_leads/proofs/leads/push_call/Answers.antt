use Rattle.std.proofs.Common.{Bool, List, ℕ, [], ◌∷◌, OnOk, sym, subst}
use Rattle.std.specs.List.{flat_map}
use Rattle.guard_syntax.specs.declared.row.Ref.{Ref}
use Rattle.rule_meaning.specs.Fails.{IsCall, entry}
use Rattle.evidence_rules.specs.code.Judgement.{location_said}
use Rattle.evidence_leads.specs.code.Leads.{Appends, ToEntry, call_leads, cite_leads}
use Rattle.evidence_leads.proofs.leads.push_call.Goals as goal

pub returns-then-not : goal.returns-then-not
returns-then-not c known grounded =
    let lines = c.args.lines.now in
    subst (λ (b : Bool). OnOk c.push_value.result (Appends known c.args.into.now.items c.push_value.new.into.items (call_leads known lines c.args.part b c.args.line.now.frame c.args.line.now.cites)))
    (sym c.if-not.true)
    (subst (λ (v : Ref). OnOk c.push_value.result (Appends known c.args.into.now.items c.push_value.new.into.items (ToEntry (entry c.args.part IsCall (location_said known lines v)) ∷ [])))
    (c.current_ref-current.ensures.value known) (c.push_value.ensures known (c.current_ref-current.ensures.known known grounded)))

pub returns-else-not : goal.returns-else-not
returns-else-not c known grounded =
    let lines = c.args.lines.now in
    subst (λ (b : Bool). OnOk c.push_cites.result (Appends known c.args.into.now.items c.push_cites.new.into.items (call_leads known lines c.args.part b c.args.line.now.frame c.args.line.now.cites)))
    (sym c.if-not.false)
    (subst (λ (cs : List ℕ). OnOk c.push_cites.result (Appends known c.args.into.now.items c.push_cites.new.into.items (flat_map (cite_leads known lines) cs))) c.as_slice.ensures (c.push_cites.ensures known))
