use Rattle.std.proofs.Common.{ℕ, ◌<◌, List, arith, false, get_or, refl, subst, sym, []}
use Rattle.evidence_lines.specs.declared.line.Line.{Line}
use Rattle.evidence_lines.specs.declared.line.LineKind.TheVariants as kind
use Rattle.evidence_lines.specs.declared.line.Outcome.TheVariants as says
use Rattle.guard_syntax.specs.code.Seen.{see_conds}
use Rattle.guard_syntax.specs.declared.row.Origin.TheVariants as origin
use Rattle.guard_syntax.specs.declared.row.Ref.{Ref}
use Rattle.guard_syntax.specs.declared.row.Verdict.{Verdict}
use Rattle.guard_syntax.specs.declared.syntax.Conds.{Conds, out-Conds}
use Rattle.rule_meaning.specs.StoreModel.{StoreModel}
use Rattle.evidence_rules.specs.CitedLines.{IsLine}
use Rattle.evidence_rules.specs.Follows.{SaysCandidate, SayEach}
use Rattle.evidence_rows.proofs.StepLines.{said-all, said-at, said-each, said-more}
use Rattle.evidence_rows.proofs.StepsSeen.{conds-site}
use Rattle.evidence_rows.proofs.tried_candidates.tried_verdicts.Goals as goal

pub returns-then-values-cites : goal.returns-then-values-cites
returns-then-values-cites c = λ known verdicts all.
    let long = (said-each known c.args.lines.now (SaysCandidate known c.args.lines.now c.args.line.frame c.args.line.site (see_conds c.args.conditions.now)) c.args.values.now c.args.line.cites.now verdicts all).0 in
    omega (arith, long)

-- the value and the number of an index
abbrev value_of : List Ref → ℕ → Ref
value_of values i = get_or values i (record { origin = origin.Template; node = 0; key = false })

-- a verdict that is said by the site of the conditions
said-so : (known : StoreModel) (lines : List Line) (frame site number : ℕ) (conditions : Conds) (v : Ref) (w : Verdict)
    → ((at : ℕ) × IsLine lines at kind.Frame frame site (says.Value v) × IsLine lines number kind.Conj at (out-Conds conditions).site (says.Verdict w))
    → SaysCandidate known lines frame site (see_conds conditions) v number w
said-so known lines frame site number conditions v w (at, there, is) =
    (at, there, subst (λ (n : ℕ). IsLine lines number kind.Conj at n (says.Verdict w)) (sym (conds-site conditions)) is)

pub returns-in_default : goal.returns-in_default
returns-in_default c = λ known verdicts all.
    let said = said-at known c.args.lines.now (SaysCandidate known c.args.lines.now c.args.line.frame c.args.line.site (see_conds c.args.conditions.now)) c.args.values.now c.args.line.cites.now verdicts c.loop-i.i
    (value_of c.args.values.now c.loop-i.i) (record { origin = origin.Template; node = 0; key = false }) c.loop-i-test.true refl all in
    c.in_default.ensures said.1.0 said.0 said.1.1
    (subst (λ (n : ℕ). IsLine c.args.lines.now (get_or c.args.line.cites.now c.loop-i.i 0) kind.Conj said.1.0 n (says.Verdict said.0)) (conds-site c.args.conditions.now) said.1.2)

pub loop-i-preserved : goal.loop-i-preserved
loop-i-preserved c = λ known.
    said-more known c.args.lines.now (SaysCandidate known c.args.lines.now c.args.line.frame c.args.line.site (see_conds c.args.conditions.now)) c.args.values.now c.args.line.cites.now c.loop-i.verdicts.items c.push.new.self.items c.loop-i.i
    (value_of c.args.values.now c.loop-i.i) (record { origin = origin.Template; node = 0; key = false }) c.in-Some.verdict c.loop-i-test.true c.if-values-cites.false refl c.in_ok-push.ensures.items (c.loop-i.invariant known)
    (said-so known c.args.lines.now c.args.line.frame c.args.line.site (get_or c.args.line.cites.now c.loop-i.i 0) c.args.conditions.now (value_of c.args.values.now c.loop-i.i) c.in-Some.verdict c.in-Some.ensures)

pub returns : goal.returns
returns c = λ known.
    said-all known c.args.lines.now (SaysCandidate known c.args.lines.now c.args.line.frame c.args.line.site (see_conds c.args.conditions.now)) c.args.values.now c.args.line.cites.now c.loop-i.verdicts.items c.loop-i.i (omega arith) (omega arith) (c.loop-i.invariant known)

pub loop-i-init : goal.loop-i-init
loop-i-init c = λ known.
    subst (λ (ws : List Verdict). SayEach known c.args.lines.now (SaysCandidate known c.args.lines.now c.args.line.frame c.args.line.site (see_conds c.args.conditions.now)) [] [] ws)
    (sym c.new-verdicts.ensures.items) tt

pub bounds-values-i : goal.bounds-values-i
bounds-values-i c = c.loop-i-test.true

pub bounds-cites-i : goal.bounds-cites-i
bounds-cites-i c = subst (λ (n : ℕ). c.loop-i.i < n) c.if-values-cites.false c.loop-i-test.true
