use Rattle.std.proofs.Common.{◌≡◌, ◌+◌, ◌<◌, ℕ, false, sym, ◌∙◌, subst, arith, List, length, take}
use Rattle.std.proofs.lemmas.List.{take_all}
use Rattle.evidence_lines.specs.code.Said.{kind_at}
use Rattle.evidence_lines.specs.declared.line.Line.{Line}
use Rattle.evidence_lines.specs.declared.version.Version.TheVariants.{Two}
use Rattle.evidence_rules.proofs.LinesBehind.{next-line}
use Rattle.evidence_rules.specs.Follows.{nothing_made}
use Rattle.evidence_lookups.specs.code.JudgedSites.{AreJudged, is_rule}
use Rattle.evidence_lookups.proofs.OtherKinds.{unruled-line}
use Rattle.value_store.specs.code.Stores.{see_store}
use Rattle.engine_states.proofs.Shaped.{shaped}
use Rattle.rule_calls.specs.code.Ends.{state_with}
use Rattle.rule_calls.proofs.LinesPlaced.{line-sited}
use Rattle.rule_calls.proofs.context.judged_lines.Goals as goal

pub note-requires-clause-shape : goal.note-requires-clause-shape
note-requires-clause-shape c =
    let e = c.args.evaluation.now in
    let s = state_with (see_store e.store) e.evidence.lines c.requires.0 in
    shaped Two (nothing_made s.known.template s.known.file) s.lines s.known c.requires.1.follow (c.loop-before.before + 1) c.in-Some.line (sym c.in-Some.ensures.line)

pub note-requires-clause-site : goal.note-requires-clause-site
note-requires-clause-site c site site_is =
    let e = c.args.evaluation.now in
    let s = state_with (see_store e.store) e.evidence.lines c.requires.0 in
    subst (λ (n : ℕ). site < n) (sym c.loop-before.invariant.sites) (line-sited s c.requires.1 e.store.file.now.sites (c.loop-before.before + 1) c.in-Some.line site (sym c.in-Some.ensures.line) site_is)

pub loop-before-preserved-then-not-is_rule_line : goal.loop-before-preserved-then-not-is_rule_line
loop-before-preserved-then-not-is_rule_line c =
    let lines = c.args.evaluation.now.evidence.lines in
    let within : c.loop-before.before < length lines = omega (arith, c.loop-before-test.true, c.len-before-end.ensures.count) in
    let here : is_rule (kind_at c.lines.result (c.loop-before.before + 1)) ≡ false = grind (arith, c.is_rule_line.ensures) in
    let other : is_rule (kind_at lines (c.loop-before.before + 1)) ≡ false =
    subst (λ (ls : List Line). is_rule (kind_at ls (c.loop-before.before + 1)) ≡ false) c.lines.ensures here in
    record {
      judged = unruled-line lines c.loop-before.before c.loop-before.judged.of.items within other c.loop-before.invariant.judged;
      sites = c.loop-before.invariant.sites;
    }

pub loop-before-preserved : goal.loop-before-preserved
loop-before-preserved c =
    let lines = c.args.evaluation.now.evidence.lines in
    record {
      judged =
          subst (λ (ls : List Line). AreJudged ls c.note.new.self.of.items) (next-line lines c.loop-before.before c.in-Some.line (sym c.in-Some.ensures.line))
          (c.note.ensures.judged (take c.loop-before.before lines) c.loop-before.invariant.judged);
      sites = c.note.ensures.sites ∙ c.loop-before.invariant.sites;
    }

pub returns : goal.returns
returns c =
    let lines = c.args.evaluation.now.evidence.lines in
    let past = c.loop-before-test.false in
    let all : take c.loop-before.before lines ≡ lines = take_all c.loop-before.before lines (omega (arith, past, c.len-before-end.ensures.count)) in
    subst (λ (ls : List Line). AreJudged ls c.loop-before.judged.of.items) all c.loop-before.invariant.judged
