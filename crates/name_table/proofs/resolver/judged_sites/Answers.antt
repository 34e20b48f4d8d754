use Rattle.std.proofs.Common.{◌∙◌, ap, sym, arith, ℕ, List, ◌++◌}
use Rattle.std.proofs.lemmas.List.{append-nil}
use Rattle.std.proofs.lemmas.Grind.{common_steps}
use Rattle.guard_syntax.specs.code.Seen.{see_file}
use Rattle.name_table.proofs.PlainSites.{no-default, with-default}
use Rattle.name_table.proofs.RuleOrders.{with-last}
use Rattle.name_table.proofs.resolver.judged_sites.Goals as goal

pub returns-then-is_empty : goal.returns-then-is_empty
returns-then-is_empty c =
    let sites = c.in_ok-sites.sites.items in
    with-last (see_file c.args.file.now) sites sites c.in_ok-sites.ensures
    (sym (append-nil sites) ∙ ap (λ (more : List ℕ). sites ++ more) (sym (no-default c.args.file.now.loose.items (grind (arith, common_steps)))))

pub returns : goal.returns
returns c =
    let sites = c.in_ok-sites.sites.items in
    with-last (see_file c.args.file.now) sites _ c.in_ok-sites.ensures
    (c.in_ok-push.ensures.items ∙ ap (λ (more : List ℕ). sites ++ more) (sym (with-default c.args.file.now.loose.items (λ none. grind (arith, common_steps)))))
