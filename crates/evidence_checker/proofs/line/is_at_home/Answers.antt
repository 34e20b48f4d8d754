use Rattle.std.proofs.Common.{◌<◌, ℕ, List, ap, arith, length, subst, ◌∙◌}
use Rattle.std.proofs.lemmas.Option.{none-some}
use Rattle.guard_syntax.specs.declared.syntax.RawFile.{RawFile}
use Rattle.evidence_rules.specs.CitedLines.{scope_of}
use Rattle.evidence_rules.specs.Follows.{home_for}
use Rattle.evidence_lookups.specs.code.Grounds.{file_in, lines_of}
use Rattle.evidence_checker.proofs.SitesPlaced.{at-home}
use Rattle.evidence_checker.proofs.line.is_at_home.Goals as goal

pub returns-then-site-as_slice : goal.returns-then-site-as_slice
returns-then-site-as_slice c = λ within same.
    let long = ap (λ (xs : List ℕ). length xs) (c.as_slice.ensures ∙ ap (λ (r : RawFile). r.places) c.raw.ensures) in
    omega (arith, within, long)

pub returns-in-Some : goal.returns-in-Some
returns-in-Some c =
    at-home (scope_of (file_in c.args.context.now) (lines_of c.args.context.now) c.args.line.frame) c.in-Some.scope c.home_for.result (home_for (file_in c.args.context.now) c.args.line.kind c.args.line.site)
    (c.args.line.site < length (file_in c.args.context.now).places)
    (subst (λ (xs : List ℕ). c.args.line.site < length xs) (c.as_slice.ensures ∙ ap (λ (r : RawFile). r.places) c.raw.ensures) c.if-site-as_slice.false) c.in-Some.ensures c.home_for.ensures

pub returns-in-None : goal.returns-in-None
returns-in-None c = λ within same. none-some _ (c.in-None.ensures ∙ same)

pub home_for-requires : goal.home_for-requires
home_for-requires c = subst (λ (xs : List ℕ). c.args.line.site < length xs) (c.as_slice.ensures ∙ ap (λ (r : RawFile). r.places) c.raw.ensures) c.if-site-as_slice.false
