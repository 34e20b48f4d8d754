use Rattle.std.proofs.Common.{◌-◌, arith, leb, leb-true, leb-false, rules}
use Rattle.std.proofs.lemmas.List.Sorted.{IsPartitionPoint-from_clause, IsPartitionedBy-leb}
use Rattle.rule_names.proofs.siblings.last_to.Goals as goal

pub returns-then-count-eq0 : goal.returns-then-count-eq0
returns-then-count-eq0 g c =
    let parted = IsPartitionedBy-leb g.T.HasSite.own _ c.args.site c.requires in
    let point = IsPartitionPoint-from_clause (λ x. leb (g.T.HasSite.own x) c.args.site) _ _ c.partition_point-count.ensures.partitioned parted (λ a r q k. search rules) in
    record { each = λ k d h. leb-false _ _ (point.1 k d (omega arith) h) }

pub returns-else-count-eq0 : goal.returns-else-count-eq0
returns-else-count-eq0 g c =
    let parted = IsPartitionedBy-leb g.T.HasSite.own _ c.args.site c.requires in
    let point = IsPartitionPoint-from_clause (λ x. leb (g.T.HasSite.own x) c.args.site) _ _ c.partition_point-count.ensures.partitioned parted (λ a r q k. search rules) in
    let bound = c.partition_point-count.ensures.bound in
    record {
      within = omega arith;
      here = λ d. leb-true _ _ (point.0 (c.partition_point-count.result - 1) d (omega arith) (omega arith));
      behind = λ k d l h. leb-false _ _ (point.1 k d (omega arith) h);
    }
