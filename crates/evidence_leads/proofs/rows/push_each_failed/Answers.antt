use Rattle.std.proofs.Common.{refl, get_or, ◌∙◌}
use Rattle.std.specs.List.{flat_map}
use Rattle.guard_syntax.specs.declared.row.Row.{Row}
use Rattle.guard_syntax.specs.declared.row.Row.TheVariants as row
use Rattle.rule_meaning.specs.Keys.{passes}
use Rattle.rule_meaning.specs.Roots.{root_ref}
use Rattle.rule_meaning.specs.StoreModel.{is_known}
use Rattle.evidence_lookups.specs.code.Grounds.{known_of, lines_of}
use Rattle.evidence_truth.specs.code.LineFails.{failed_row}
use Rattle.evidence_leads.specs.code.Leads.{own}
use Rattle.evidence_leads.proofs.Appending.{same-appended}
use Rattle.evidence_leads.proofs.KnownRows.{passes-at}
use Rattle.evidence_leads.proofs.LoopLeads.{owes-end, owes-more, own-flat, row-failed, row-passed}
use Rattle.evidence_leads.proofs.rows.push_each_failed.Goals as goal

pub loop-left-init : goal.loop-left-init
loop-left-init c = record { kept = refl; owed = λ final rest. rest }

pub row_passes-requires-clause-left : goal.row_passes-requires-clause-left
row_passes-requires-clause-left c = passes-at (is_known (known_of c.args.context.now)) c.args.lefts.now c.loop-left.left-index (row.Found root_ref) c.loop-left-test.true c.requires.lefts

pub loop-left-preserved-then-branch : goal.loop-left-preserved-then-branch
loop-left-preserved-then-branch c =
    let known = known_of c.args.context.now in
    let lines = lines_of c.args.context.now in
    let test = c.args.test.now in
    let holds = passes known test.op test.not test.rights.now in
    let i = c.loop-left.left-index in
    let x = get_or c.args.lefts.now i (row.Found root_ref) in
    record {
      kept = c.row_passes.ensures.kept ∙ c.loop-left.invariant.kept;
      owed = owes-more known (λ (y : Row). own (failed_row known lines test.part holds y)) c.args.lefts.now i
          (row.Found root_ref) c.args.into.now.items c.loop-left.into.items c.loop-left.into.items c.loop-left-test.true
          (row-passed known lines test.part holds x c.loop-left.into.items c.in_ok-row_passes.field-0 c.in_ok-row_passes.ensures.answer c.if-branch.true) c.loop-left.invariant.owed;
    }

pub loop-left-preserved : goal.loop-left-preserved
loop-left-preserved c =
    let known = known_of c.args.context.now in
    let lines = lines_of c.args.context.now in
    let test = c.args.test.now in
    let holds = passes known test.op test.not test.rights.now in
    let i = c.loop-left.left-index in
    let x = get_or c.args.lefts.now i (row.Found root_ref) in
    record {
      kept = c.row_passes.ensures.kept ∙ c.loop-left.invariant.kept;
      owed = owes-more known (λ (y : Row). own (failed_row known lines test.part holds y)) c.args.lefts.now i
          (row.Found root_ref) c.args.into.now.items c.loop-left.into.items c.push_tested.new.into.items c.loop-left-test.true
          (row-failed known lines test.part holds x c.loop-left.into.items c.push_tested.new.into.items c.in_ok-row_passes.field-0 c.in_ok-row_passes.ensures.answer c.if-branch.false
          (c.in_ok-push_tested.ensures known (passes-at (is_known known) c.args.lefts.now i (row.Found root_ref) c.loop-left-test.true c.requires.lefts))) c.loop-left.invariant.owed;
    }

pub returns : goal.returns
returns c =
    let known = known_of c.args.context.now in
    let test = c.args.test.now in
    let g = failed_row known (lines_of c.args.context.now) test.part (passes known test.op test.not test.rights.now) in
    let f = λ (x : Row). own (g x) in
    same-appended known c.args.into.now.items c.loop-left.into.items (flat_map f c.args.lefts.now) _ (own-flat g c.args.lefts.now)
    (owes-end known f c.args.lefts.now c.loop-left.left-index c.args.into.now.items c.loop-left.into.items c.loop-left-test.false c.loop-left.invariant.owed)
