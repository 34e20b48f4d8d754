use Rattle.std.proofs.Common.{sym, subst, ℕ, List}
use Rattle.guard_syntax.specs.code.Seen.{see_file}
use Rattle.rule_names.specs.code.Order.{IsOrderOf}
use Rattle.rule_names.proofs.file.RuleFile.order.Goals as goal

pub returns : goal.returns
returns c = subst (λ (sites : List ℕ). IsOrderOf (see_file c.args.self.now.raw) sites) (sym c.as_slice.ensures.value) c.args.self.now.ordered
