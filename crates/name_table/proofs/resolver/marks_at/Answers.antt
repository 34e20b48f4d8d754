use Rattle.std.proofs.Common.{◌<◌, ◌∙◌, sym, subst, ℕ, true, length, get_or, set, take}
use Rattle.std.proofs.lemmas.List.{length-set, take_all, take_more}
use Rattle.name_table.proofs.RuleOrders.{AreMarksAt, marks-more}
use Rattle.name_table.proofs.resolver.marks_at.Goals as goal

pub loop-site-preserved : goal.loop-site-preserved
loop-site-preserved c =
    let i = c.loop-site.site-index in
    let sites = c.args.sites.now in
    let marks = c.loop-site.marks.items in
    let t = get_or sites i 0 in
    let within : t < length marks = subst (λ (n : ℕ). t < n) (sym c.loop-site.invariant.0) (c.requires i 0 c.loop-site-test.true) in (
      length-set marks t true ∙ c.loop-site.invariant.0,
      subst (AreMarksAt (set marks t true)) (sym (take_more sites i 0 c.loop-site-test.true)) (marks-more marks (take i sites) t within c.loop-site.invariant.1),
    )

pub returns : goal.returns
returns c = subst (AreMarksAt c.loop-site.marks.items) (take_all c.loop-site.site-index c.args.sites.now c.loop-site-test.false) c.loop-site.invariant.1
