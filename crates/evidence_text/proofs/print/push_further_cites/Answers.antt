use Rattle.std.proofs.Common.{ap, sym, subst, ◌∙◌, ◌++◌, All, decimal}
use Rattle.std.specs.List.{flat_map}
use Rattle.std.proofs.lemmas.List.{append-nil, take_all}
use Rattle.std.proofs.lemmas.List.Elements.{All-more, All-nil}
use Rattle.evidence_lines.specs.Shapes.{IsCount}
use Rattle.evidence_text.specs.Spelling.{further_text}
use Rattle.evidence_text.proofs.Lists.{further_more}
use Rattle.evidence_text.proofs.print.push_further_cites.Goals as goal

pub loop-cite-init : goal.loop-cite-init
loop-cite-init c = record { printed = sym (append-nil c.args.text.now.items); bounded = All-nil IsCount }

pub loop-cite-preserved : goal.loop-cite-preserved
loop-cite-preserved c = record {
  printed = rw (c.in_ok-push_number.ensures.printed, c.in_ok-push.ensures.items) (further_more decimal c.args.text.now.items c.loop-cite.text.items c.args.cites.now c.loop-cite.cite-index _ c.loop-cite-test.true c.loop-cite.invariant.printed);
  bounded = All-more IsCount c.args.cites.now c.loop-cite.cite-index _ c.loop-cite-test.true c.loop-cite.invariant.bounded c.in_ok-push_number.ensures.bounded;
}

pub returns-clause-printed : goal.returns-clause-printed
returns-clause-printed c =
    c.loop-cite.invariant.printed
    ∙ ap (λ xs. c.args.text.now.items ++ flat_map (further_text decimal) xs) (take_all c.loop-cite.cite-index c.args.cites.now c.loop-cite-test.false)

pub returns-clause-bounded : goal.returns-clause-bounded
returns-clause-bounded c = subst (All IsCount) (take_all c.loop-cite.cite-index c.args.cites.now c.loop-cite-test.false) c.loop-cite.invariant.bounded
