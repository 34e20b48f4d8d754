use Rattle.std.proofs.Common.{IfOk, map, subst}
use Rattle.rule_meaning.specs.Functions.{AreRows, IsSubstring, single_whole}
use Rattle.value_store.specs.code.Stores.{see_store}
use Rattle.guard_builtins.specs.code.Seen.{see_made}
use Rattle.guard_builtins.proofs.functions.substring.Goals as goal

pub returns-clause-rows : goal.returns-clause-rows
returns-clause-rows c =
    let k = see_store c.args.store.now in
    subst (λ from. IfOk c.rows_for.result (λ made. AreRows (IsSubstring from (single_whole k c.args.to.now)) k c.args.site c.args.rows.now (map see_made made.items))) c.single_whole.ensures
    (subst (λ to. IfOk c.rows_for.result (λ made. AreRows (IsSubstring c.single_whole.result to) k c.args.site c.args.rows.now (map see_made made.items))) c.single_whole-2.ensures c.rows_for.ensures.rows)
