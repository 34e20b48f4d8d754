-- Rules that are judged in turn, and then the parts outside rules.
use Rattle.std.specs.Prelude.{ℕ, ◌≡◌, List, [], All, Contains, Some}
use Rattle.guard_syntax.specs.Syntax.{Rule}
use Rattle.evidence_rules.specs.Follows.{IsLooseJudged}
use Rattle.engine_states.specs.code.Ruling.{Rests}
use Rattle.engine_states.specs.code.States.{State}
use Rattle.rule_calls.specs.code.Ranks.{rule_of}
use Rattle.rule_calls.specs.declared.ranked.Ranked.{Ranked}

-- a rule has its line
abbrev pub HasLine : State → Rule → Type 0
HasLine s r = (number : ℕ) × (s.rules r.site ≡ Some number)

-- so those of a list, and each other line is named
pub record AreJudged (s : State) (xs : List Ranked) : Type 0 where
  pub rests : Rests s
  pub lines : All (λ (x : Ranked). HasLine s (rule_of x)) xs

-- so all of the file that have no parameters
pub record AreAllJudged (s : State) : Type 0 where
  pub rests : Rests s
  pub lines : (r : Rule) → Contains s.known.file.rules r → r.params ≡ [] → HasLine s r

-- and the parts outside rules, if there are some
pub record IsJudgedWhole (s : State) : Type 0 where
  pub rules : AreAllJudged s
  pub loose : IsLooseJudged s.lines s.known.file.loose
