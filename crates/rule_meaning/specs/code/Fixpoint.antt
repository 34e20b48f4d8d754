-- What any meaning of names over locations has to be: that of the tables, with itself for the names in what they mean.
use Rattle.std.specs.Prelude.{◌≡◌, ℕ}
use Rattle.guard_syntax.specs.Syntax.{Exprs}
use Rattle.rule_meaning.specs.Environments.{Environment}
use Rattle.rule_meaning.specs.Meaning.{Names}
use Rattle.rule_meaning.specs.NameMeaning.{unfold_rows, unfold_verdict, unfold_called}
use Rattle.rule_meaning.specs.Locations.{World}

pub record IsFixpoint (world : World) (names : Names) : Type 0 where
  pub rows : (env : Environment) (site : ℕ) → names.rows env site ≡ unfold_rows world names env site
  pub verdict : (site : ℕ) → names.verdict site ≡ unfold_verdict world names site
  pub called : (env : Environment) (site : ℕ) (args : Exprs) → names.called env site args ≡ unfold_called world names env site args
