use Rattle.std.proofs.Common.{ℕ, List, Option, OnOk, sym, subst, arith}
use Rattle.std.specs.List.{flat_map}
use Rattle.std.specs.Prelude.{option_and_then}
use Rattle.std.proofs.lemmas.Grind.{common_steps}
use Rattle.rule_names.specs.Pieces.{piece_at}
use Rattle.evidence_lookups.specs.code.Grounds.{known_of, lines_of}
use Rattle.evidence_leads.specs.code.Leads.{Appends, cite_leads, piece_leads}
use Rattle.evidence_leads.proofs.leads.push_line.Goals as goal

pub returns-in-None : goal.returns-in-None
returns-in-None c =
    let known = known_of c.args.context.now in
    let lines = lines_of c.args.context.now in
    let line = c.args.line.now in
    subst (λ (s : Option ℕ). OnOk c.push_cites.result (Appends known c.args.into.now.items c.push_cites.new.into.items (piece_leads known lines (option_and_then (piece_at known.file) s) line.frame line.cites)))
    (sym c.in-None.is)
    (subst (λ (cs : List ℕ). OnOk c.push_cites.result (Appends known c.args.into.now.items c.push_cites.new.into.items (flat_map (cite_leads known lines) cs))) c.as_slice.ensures (c.push_cites.ensures known))

pub returns-in_default : goal.returns-in_default
returns-in_default c =
    let known = known_of c.args.context.now in
    let lines = lines_of c.args.context.now in
    let call = c.push_cites-in_default in
    let all = subst (λ (cs : List ℕ). OnOk call.result (Appends known c.args.into.now.items call.new.into.items (flat_map (cite_leads known lines) cs))) c.as_slice-in_default.ensures (call.ensures known) in
    grind (arith, common_steps, all)
