use Rattle.std.proofs.Common.{◌≡◌, ℕ, suc, ◌-◌, ◌<◌, ◌≤◌, refl, sym, subst, arith, length, Some}
use Rattle.guard_syntax.specs.code.Seen.{see_query}
use Rattle.guard_syntax.specs.declared.syntax.Query.{out-Query}
use Rattle.engine_states.specs.code.Answers.{GivesStepBefore}
use Rattle.engine_states.proofs.Elements.{next-fits, within-len}
use Rattle.engine_states.proofs.Insides.{step-of}
use Rattle.engine_states.proofs.StepsBegun.{begun-found, lacks-more}
use Rattle.engine_lines.specs.code.Lines.{see_lines}
use Rattle.clause_eval.proofs.rows.begun.Goals as goal

-- what numbers say, apart from all else that is known where they stand
one-less : (i last n : ℕ) → 0 < i → i ≤ suc last → last < n → i - 1 < n
one-less i last n some most within = omega (arith, some, most, within)

as-suc : (i : ℕ) → 0 < i → suc (i - 1) ≡ i
as-suc i some = omega (arith, some)

less-most : (i last : ℕ) → i ≤ suc last → i - 1 ≤ suc last
less-most i last most = omega (arith, most)

pub overflow_add-index : goal.overflow_add-index
overflow_add-index c =
    let steps = (out-Query c.args.query.now).steps in
    next-fits _ _ _ _ c.requires.last steps.ok.0 steps.ok.1 steps.small

pub loop-index-init : goal.loop-index-init
loop-index-init c = record { most = omega arith; new = λ i past within. absurd (omega (arith, past, within)) }

pub index-requires : goal.index-requires
index-requires c =
    within-len _ _ _ (one-less c.loop-index.index c.args.last (length (out-Query c.args.query.now).steps.items) c.loop-index-test.true c.loop-index.invariant.most c.requires.last)
    (out-Query c.args.query.now).steps.ok.0

pub returns-in-Some-clause-before : goal.returns-in-Some-clause-before
returns-in-Some-clause-before c =
    let s = see_lines c.args.engine.now in
    let i = c.loop-index.index in
    let within = one-less i c.args.last (length (out-Query c.args.query.now).steps.items) c.loop-index-test.true c.loop-index.invariant.most c.requires.last in
    let st = c.index.result.now in
    let is = step-of c.args.query.now (out-Query c.args.query.now).steps.items (i - 1) st refl within c.index.ensures in
    subst (λ (n : ℕ). GivesStepBefore s c.args.frame (see_query c.args.query.now) n (Some c.in-Some.line)) (as-suc i c.loop-index-test.true)
    (begun-found s c.args.frame (see_query c.args.query.now) (i - 1) st is c.requires.whole c.args.engine.now.store.file.now.sites c.args.last c.requires.stands c.in-Some.line (sym c.in-Some.ensures))

pub returns-in-Some-clause-first : goal.returns-in-Some-clause-first
returns-in-Some-clause-first c = c.loop-index.invariant.most

pub returns-in-Some-clause-new : goal.returns-in-Some-clause-new
returns-in-Some-clause-new c = c.loop-index.invariant.new

pub loop-index-preserved : goal.loop-index-preserved
loop-index-preserved c =
    let s = see_lines c.args.engine.now in
    let i = c.loop-index.index in
    let within = one-less i c.args.last (length (out-Query c.args.query.now).steps.items) c.loop-index-test.true c.loop-index.invariant.most c.requires.last in
    let st = c.index.result.now in
    let is = step-of c.args.query.now (out-Query c.args.query.now).steps.items (i - 1) st refl within c.index.ensures in
    record {
      most = less-most i c.args.last c.loop-index.invariant.most;
      new = lacks-more s c.args.frame (see_query c.args.query.now) (i - 1) st is (sym c.in_default.ensures) i c.args.last (sym (as-suc i c.loop-index-test.true)) c.loop-index.invariant.new;
    }
