-- The lines that begin at or before the place stand in front of the others, so the search finds how many they are.
use Rattle.std.proofs.Common.{rules, ◌-◌, ap, nat_le, get_or, ◌∙◌, arith}
use Rattle.std.proofs.lemmas.List.Sorted.{IsPartitionPoint-from_clause}
use Rattle.report_text.proofs.LineStarts.{starts_parted, line_found, column_found}
use Rattle.report_text.proofs.lined.Lined.line_of.Goals as goal

pub returns : goal.returns
returns c =
    let are = c.as_slice.ensures.value ∙ c.args.self.now.lines in
    let parted = starts_parted c.args.self.now.text.now c.args.at c.requires c.as_slice.result.now are in
    let point = IsPartitionPoint-from_clause (λ s. nat_le s c.args.at) c.as_slice.result.now c.partition_point.result c.partition_point.ensures.partitioned parted (λ a r q k. search rules) in
    let line = line_found c.args.self.now.text.now c.args.at c.requires c.as_slice.result.now are c.partition_point.result c.partition_point.ensures.bound point in
    let column = column_found c.args.self.now.text.now c.args.at c.requires c.as_slice.result.now are c.partition_point.result c.partition_point.ensures.bound point in
    let same = ap (λ xs. get_or xs (c.partition_point.result - 1) 0) c.as_slice.ensures.value in
    record {
      line = line;
      column = omega arith;
      some = omega arith;
      within = omega arith;
    }
