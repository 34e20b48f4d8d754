use Rattle.std.proofs.Common.{ap, sym, ◌∙◌, subst, Option}
use Rattle.guard_syntax.specs.code.Seen.{see_opt_conds}
use Rattle.guard_syntax.specs.Sites.{sites_opt_conds}
use Rattle.guard_syntax.specs.declared.syntax.Conds.{Conds}
use Rattle.rule_names.specs.Pieces.{piece_in, pieces_opt_conds}
use Rattle.rule_names.specs.code.IncreasingSites.{IsIncreasing}
use Rattle.rule_names.proofs.FileParts.{rule-conds-rise, rule-body-rise, rule-conds, rule-body}
use Rattle.rule_names.proofs.find.in_rule.Goals as goal

pub in_body-requires : goal.in_body-requires
in_body-requires c = rule-body-rise c.args.rule.now c.requires

pub returns-then-rule-site-2 : goal.returns-then-rule-site-2
returns-then-rule-site-2 c = c.in_body.ensures ∙ rule-body c.args.site c.args.rule.now c.requires c.if-rule-site.false c.if-rule-site-2.true

pub in_conds-requires : goal.in_conds-requires
in_conds-requires c = subst (λ (o : Option Conds). IsIncreasing (sites_opt_conds (see_opt_conds o))) c.in-Some.is (rule-conds-rise c.args.rule.now c.requires)

pub returns-in-Some : goal.returns-in-Some
returns-in-Some c =
    c.in_conds.ensures ∙ ap (λ (o : Option Conds). piece_in (pieces_opt_conds (see_opt_conds o)) c.args.site) (sym c.in-Some.is)
    ∙ rule-conds c.args.site c.args.rule.now c.requires c.if-rule-site.false c.if-rule-site-2.false

pub returns-in-None : goal.returns-in-None
returns-in-None c =
    ap (λ (o : Option Conds). piece_in (pieces_opt_conds (see_opt_conds o)) c.args.site) (sym c.in-None.is)
    ∙ rule-conds c.args.site c.args.rule.now c.requires c.if-rule-site.false c.if-rule-site-2.false
