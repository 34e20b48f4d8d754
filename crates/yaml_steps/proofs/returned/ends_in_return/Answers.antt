use Rattle.std.proofs.lemmas.Grind.{common_steps}
use Rattle.std.proofs.Common.{◌≡◌, suc, ◌-◌, length, sym, arith}
use Rattle.yaml_grammar.proofs.ReadTwice.{ends_at}
use Rattle.yaml_steps.proofs.returned.ends_in_return.Goals as goal

pub returns : goal.returns
returns c =
    let some : length c.args.bytes.now ≡ suc (length c.args.bytes.now - 1) = grind (arith, common_steps) in
    sym (ends_at c.args.bytes.now (length c.args.bytes.now - 1) some)

pub returns-then-is_empty : goal.returns-then-is_empty
returns-then-is_empty c = grind (arith, common_steps)
