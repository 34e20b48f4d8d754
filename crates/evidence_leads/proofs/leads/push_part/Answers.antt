use Rattle.std.proofs.Common.{ℕ, List, [], ◌∷◌, subst, true, false, OnOk}
use Rattle.std.specs.List.{flat_map}
use Rattle.guard_syntax.specs.code.Seen.{see_opt_conds}
use Rattle.guard_syntax.specs.declared.row.Ref.{Ref}
use Rattle.rule_meaning.specs.Fails.{IsRule, entry}
use Rattle.rule_meaning.specs.Keys.{passes}
use Rattle.evidence_lookups.specs.code.Grounds.{known_of, lines_of}
use Rattle.evidence_rules.specs.code.Judgement.{location_said}
use Rattle.evidence_truth.specs.code.LineFails.{behind_conds, test_entries}
use Rattle.evidence_leads.specs.code.Leads.{Appends, AreGrounded, Leading, ToEntry, block_leads, cite_leads, own}
use Rattle.evidence_leads.proofs.PartLeads.{block-told, call-told, kinds-told, refer-told, test-told, when-told}
use Rattle.evidence_leads.proofs.leads.push_part.Goals as goal

pub returns-in-Block : goal.returns-in-Block
returns-in-Block c =
    let known = known_of c.args.context.now in
    let lines = lines_of c.args.context.now in
    let line = c.args.line.now in
    let grounded : AreGrounded known lines = record { sound = c.args.context.now.sound; tree = c.len-nodes.ensures.tree } in
    let into = c.args.into.now.items in
    subst (λ (ls : List Leading). OnOk c.push_block.result (Appends known into c.push_block.new.into.items ls))
    (block-told known lines line.frame line.cites c.args.part.now c.in-Block.site c.in-Block.any c.in-Block.head c.in-Block.body c.in-Block.is)
    (subst (λ (cs : List ℕ). OnOk c.push_block.result (Appends known into c.push_block.new.into.items (block_leads known lines c.in-Block.site cs))) c.as_slice-cites.ensures
    (c.push_block.ensures known grounded))

pub returns-in-When : goal.returns-in-When
returns-in-When c =
    let known = known_of c.args.context.now in
    let lines = lines_of c.args.context.now in
    let line = c.args.line.now in
    let into = c.args.into.now.items in
    subst (λ (ls : List Leading). OnOk c.push_cites.result (Appends known into c.push_cites.new.into.items ls))
    (when-told known lines line.frame line.cites c.args.part.now c.in-When.site c.in-When.cond c.in-When.body c.in-When.is)
    (subst (λ (cs : List ℕ). OnOk c.push_cites.result (Appends known into c.push_cites.new.into.items (flat_map (cite_leads known lines) cs))) c.as_slice-cites.ensures (c.push_cites.ensures known))

pub returns-in-Kinds : goal.returns-in-Kinds
returns-in-Kinds c =
    let known = known_of c.args.context.now in
    let lines = lines_of c.args.context.now in
    let line = c.args.line.now in
    let grounded : AreGrounded known lines = record { sound = c.args.context.now.sound; tree = c.len-nodes.ensures.tree } in
    let into = c.args.into.now.items in
    let call = c.push_block-in-Kinds in
    subst (λ (ls : List Leading). OnOk call.result (Appends known into call.new.into.items ls))
    (kinds-told known lines line.frame line.cites c.args.part.now c.in-Kinds.site c.in-Kinds.name c.in-Kinds.cond c.in-Kinds.body c.in-Kinds.is)
    (subst (λ (cs : List ℕ). OnOk call.result (Appends known into call.new.into.items (block_leads known lines c.in-Kinds.site (behind_conds (see_opt_conds c.in-Kinds.cond) cs)))) c.as_slice-cites.ensures
    (subst (λ (cs : List ℕ). OnOk call.result (Appends known into call.new.into.items (block_leads known lines c.in-Kinds.site cs))) c.behind_conds.ensures (call.ensures known grounded)))

pub returns-then-is_set_test : goal.returns-then-is_set_test
returns-then-is_set_test c =
    let known = known_of c.args.context.now in
    let lines = lines_of c.args.context.now in
    let line = c.args.line.now in
    let grounded : AreGrounded known lines = record { sound = c.args.context.now.sound; tree = c.len-nodes.ensures.tree } in
    subst (λ (ls : List Leading). OnOk c.push_set.result (Appends known c.args.into.now.items c.push_set.new.into.items ls))
    (test-told known lines line.frame line.cites c.args.part.now c.in-Test.site c.in-Test.any c.in-Test.left c.in-Test.op c.in-Test.not c.in-Test.right c.in-Test.note true
    c.is_set_test.result c.in-Test.is c.is_set_test.ensures c.if-is_set_test.true)
    (c.push_set.ensures known grounded (passes known c.in-Test.op c.in-Test.not))

pub returns-else-is_set_test : goal.returns-else-is_set_test
returns-else-is_set_test c =
    let known = known_of c.args.context.now in
    let lines = lines_of c.args.context.now in
    let line = c.args.line.now in
    subst (λ (ls : List Leading). OnOk c.push_rows_test.result (Appends known c.args.into.now.items c.push_rows_test.new.into.items ls))
    (test-told known lines line.frame line.cites c.args.part.now c.in-Test.site c.in-Test.any c.in-Test.left c.in-Test.op c.in-Test.not c.in-Test.right c.in-Test.note false
    c.is_set_test.result c.in-Test.is c.is_set_test.ensures c.if-is_set_test.false)
    (subst (λ (cs : List ℕ). OnOk c.push_rows_test.result (Appends known c.args.into.now.items c.push_rows_test.new.into.items
    (own (test_entries known lines c.in-Test.site false c.in-Test.not (passes known c.in-Test.op c.in-Test.not) line.frame cs)))) c.as_slice-cites.ensures
    (c.push_rows_test.ensures line.frame))

pub returns-in-Refer : goal.returns-in-Refer
returns-in-Refer c =
    let known = known_of c.args.context.now in
    let lines = lines_of c.args.context.now in
    let line = c.args.line.now in
    let grounded : AreGrounded known lines = record { sound = c.args.context.now.sound; tree = c.len-nodes.ensures.tree } in
    let into = c.args.into.now.items in
    subst (λ (ls : List Leading). OnOk c.push_value.result (Appends known into c.push_value.new.into.items ls))
    (refer-told known lines line.frame line.cites c.args.part.now c.in-Refer.site c.in-Refer.not c.in-Refer.name c.in-Refer.note c.in-Refer.is)
    (subst (λ (v : Ref). OnOk c.push_value.result (Appends known into c.push_value.new.into.items (ToEntry (entry c.in-Refer.site IsRule (location_said known lines v)) ∷ [])))
    (c.current_ref-current.ensures.value known) (c.push_value.ensures known (c.current_ref-current.ensures.known known grounded)))

pub returns-in-Call : goal.returns-in-Call
returns-in-Call c =
    let known = known_of c.args.context.now in
    let lines = lines_of c.args.context.now in
    let line = c.args.line.now in
    let grounded : AreGrounded known lines = record { sound = c.args.context.now.sound; tree = c.len-nodes.ensures.tree } in
    subst (λ (ls : List Leading). OnOk c.push_call.result (Appends known c.args.into.now.items c.push_call.new.into.items ls))
    (call-told known lines line.frame line.cites c.args.part.now c.in-Call.site c.in-Call.not c.in-Call.name c.in-Call.args c.in-Call.note c.in-Call.is)
    (c.push_call.ensures known grounded)
