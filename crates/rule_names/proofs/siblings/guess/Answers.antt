use Rattle.std.proofs.Common.{◌≡◌, ◌+◌, ◌<◌, ap, ◌∙◌, arith, get_or, length}
use Rattle.std.proofs.lemmas.List.{get_or_default}
use Rattle.rule_names.proofs.siblings.guess.Goals as goal

pub returns : goal.returns
returns g c =
    let xs = c.args.parts.now in
    let i = c.share-index.result in
    let own = g.T.HasSite.own in
    let both : i + 1 < length xs = omega (arith, c.if-count-le-FEW.false, c.if-index-end.false) in
    let within : i < length xs = omega (arith, both) in
    record {
      within = within;
      here = λ d.
          let e : c.site-here.result ≡ own (get_or xs i d) = c.site-here.ensures ∙ ap own (c.index-parts-index.is ∙ get_or_default xs i c.index-parts-index.result d within) in
          omega (arith, e, c.if-site-here.false);
      behind = λ k d l h.
          let e : c.site-next.result ≡ own (get_or xs (i + 1) d) = c.site-next.ensures ∙ ap own (c.index-parts-index-2.is ∙ get_or_default xs (i + 1) c.index-parts-index-2.result d both) in
          let up = c.requires (i + 1) k d l h in
          omega (arith, e, up, c.if-next-site.false);
    }
