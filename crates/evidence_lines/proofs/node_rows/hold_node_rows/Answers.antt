use Rattle.std.proofs.Common.{◌≡◌, ◌∙◌, ℕ, List, ap, length, map, subst, sym}
use Rattle.guard_syntax.specs.declared.row.Row.{Row}
use Rattle.evidence_lines.specs.code.Held.{IsCut, IsRun, cut_run, cut_span}
use Rattle.evidence_lines.specs.code.RowsSeen.{node_of, node_row}
use Rattle.evidence_lines.specs.declared.held.RunForm.TheVariants as run
use Rattle.evidence_lines.specs.declared.held.Span.{Span}
use Rattle.evidence_lines.specs.declared.line.Outcome.TheVariants as says
use Rattle.evidence_lines.proofs.NodeRows.{rows-at-nodes}
use Rattle.evidence_lines.proofs.node_rows.hold_node_rows.Goals as goal

-- a run of nodes stands at a number: those of some rows
abbrev AreAt : List Row → ℕ → List ℕ → List Span → Type 0
AreAt rows at nodes spans = IsRun (length nodes) spans run.More at × (cut_run nodes spans run.More at ≡ map node_of rows)

pub returns-in-Some-clause-held : goal.returns-in-Some-clause-held
returns-in-Some-clause-held c others =
    let rows = c.args.rows.now in
    let at = c.in-Some.at in
    let seen : AreAt rows at c.deref.result.now c.args.spans.now.items = subst (λ (spans : List Span). AreAt rows at c.deref.result.now spans) c.deref-2.ensures.value c.in-Some.ensures in
    let it : AreAt rows at c.args.nodes.now.items c.args.spans.now.items = subst (λ (nodes : List ℕ). AreAt rows at nodes c.args.spans.now.items) c.deref.ensures.value seen in
    (it.0, ap (λ (rs : List Row). says.Rows rs) (ap (map node_row) it.1 ∙ rows-at-nodes rows c.requires))

pub returns-clause-held : goal.returns-clause-held
returns-clause-held c others =
    let rows = c.args.rows.now in
    let nodes = c.add_nodes.new.into.items in
    let span = c.in_ok-at.ensures.held in
    let cut = c.in_ok-span.ensures.held in (
      record { spanned = span.0; within = subst (IsCut (length nodes)) (sym span.1) cut.0 },
      ap (λ (rs : List Row). says.Rows rs) (ap (map node_row) (ap (cut_span nodes) span.1 ∙ cut.1) ∙ rows-at-nodes rows c.requires),
    )
