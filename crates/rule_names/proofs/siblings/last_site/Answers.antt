use Rattle.std.proofs.Common.{ap, ◌∙◌}
use Rattle.std.proofs.lemmas.List.{get_or_default}
use Rattle.rule_names.proofs.siblings.last_site.Goals as goal

pub returns-in-Some : goal.returns-in-Some
returns-in-Some g c = (
  c.in-Some.index,
  c.in-Some.ensures,
  λ d.
      c.site.ensures ∙ ap g.T.HasSite.own (c.index-parts-index.is ∙ get_or_default c.args.parts.now c.in-Some.index c.index-parts-index.result d c.in-Some.ensures.within),
)
