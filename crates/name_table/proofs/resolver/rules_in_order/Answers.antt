use Rattle.std.proofs.Common.{◌≡◌, ◌<◌, ◌∙◌, sym, ap, subst, ℕ, Bool, List, length, get_or}
use Rattle.std.specs.List.{Contains}
use Rattle.std.proofs.lemmas.List.Elements.{Contains-get_or}
use Rattle.std.proofs.lemmas.Result.{IfOk-weaker}
use Rattle.guard_syntax.specs.code.Seen.{see_file}
use Rattle.rule_names.specs.code.Order.{plain_sites}
use Rattle.rule_names.proofs.PlainRules.{plain-within}
use Rattle.name_table.specs.code.Picked.{ArePicked}
use Rattle.name_table.proofs.RuleOrders.{AreMarksAt, rules-ordered}
use Rattle.name_table.proofs.resolver.rules_in_order.Goals as goal

pub marks_at-requires : goal.marks_at-requires
marks_at-requires c =
    let f = see_file c.args.file.now in
    let sites = c.deref.result.now in
    let are : sites ≡ plain_sites f.rules = c.deref.ensures.value ∙ c.in_ok-plain.ensures in
    λ k d l.
    subst (λ (n : ℕ). get_or sites k d < n) (sym (ap (λ (places : List ℕ). length places) c.as_slice-count.ensures))
    (plain-within f c.requires.sites (get_or sites k d) (subst (λ (xs : List ℕ). Contains xs (get_or sites k d)) are (Contains-get_or sites k d l)))

pub returns : goal.returns
returns c =
    let f = see_file c.args.file.now in
    let nodes = c.args.nodes.now in
    let marks = c.in_ok-marks.marks.items in
    let count = length c.as_slice-count.result.now in
    let sites-of : count ≡ length f.places = ap (λ (places : List ℕ). length places) c.as_slice-count.ensures in
    let plain = subst (AreMarksAt marks) (c.deref.ensures.value ∙ c.in_ok-plain.ensures) c.in_ok-marks.ensures in
    IfOk-weaker c.picked.result _ _ (λ sites are.
    rules-ordered f c.requires.sites nodes sites.items marks c.requires.nodes plain
    (subst (λ (n : ℕ). ArePicked n marks nodes sites.items) sites-of
    (subst (λ (ms : List Bool). ArePicked count ms nodes sites.items) c.deref-2.ensures.value are))) c.picked.ensures
