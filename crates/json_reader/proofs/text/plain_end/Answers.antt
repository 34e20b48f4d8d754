use Rattle.std.proofs.Common.{get_or}
use Rattle.json_reader.specs.Json.{is_unescaped}
use Rattle.json_reader.proofs.Walk.{Each-between}
use Rattle.json_reader.proofs.Unescaped.{unescaped_where, escaped_where}
use Rattle.json_reader.proofs.text.plain_end.Goals as goal

pub returns-clause-plain : goal.returns-clause-plain
returns-clause-plain c =
    let f = c.first_control_or.ensures in
    Each-between is_unescaped c.args.bytes.now c.args.at c.first_control_or.result f.from f.within (λ k i j. unescaped_where (get_or c.args.bytes.now k 0) (f.before k i j))

pub returns-clause-most : goal.returns-clause-most
returns-clause-most c = λ l. escaped_where (get_or c.args.bytes.now c.first_control_or.result 0) (c.first_control_or.ensures.found l)
