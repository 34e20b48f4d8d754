-- What rules and the parts outside rules fail by, by so many unfoldings of names, and by any meaning of names and of what calls fail by.
use Rattle.std.specs.Prelude.{ℕ, ◌≡◌, List}
use Rattle.guard_syntax.specs.Syntax.{Rule, Disjs, Exprs}
use Rattle.rule_meaning.specs.Environments.{Environment, Inner, Top}
use Rattle.rule_meaning.specs.Fails.{Calls, Entry, body_fails, calls_by, disjs_fails, unfold_fails}
use Rattle.rule_meaning.specs.Locations.{World, root_location}
use Rattle.rule_meaning.specs.Meaning.{Names}
use Rattle.rule_meaning.specs.NameMeaning.{unfolded}

abbrev pub rule_fails_by : World → ℕ → Rule → List Entry
rule_fails_by world n r = body_fails world (unfolded world n) (calls_by world n) (Inner root_location Top) r.body

abbrev pub loose_fails_by : World → ℕ → Disjs → List Entry
loose_fails_by world n loose = disjs_fails world (unfolded world n) (calls_by world n) Top loose

-- what calls fail by is that of the tables, with itself for the calls in what they fail by
abbrev pub IsCallsFixpoint : World → Names → Calls → Type 0
IsCallsFixpoint world names calls = (env : Environment) (site : ℕ) (args : Exprs) → calls env site args ≡ unfold_fails world names calls env site args

-- a rule, and the parts outside rules, by what names and calls mean
abbrev pub rule_fails_with : World → Names → Calls → Rule → List Entry
rule_fails_with world names calls r = body_fails world names calls (Inner root_location Top) r.body

abbrev pub loose_fails_with : World → Names → Calls → Disjs → List Entry
loose_fails_with world names calls loose = disjs_fails world names calls Top loose
