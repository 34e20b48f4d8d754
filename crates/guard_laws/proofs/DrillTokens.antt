-- The rules of a drill have tokens: by the test that finds them.
use Rattle.std.proofs.Common.{◌≡◌, ◌≢◌, ℕ, true, false, List, ◌∷◌, refl, inr}
use Rattle.guard_lexer.specs.Lexes.{IsTokenList, Starts}
use Rattle.guard_lexer.proofs.Lists.{head_is, other_byte}
use Rattle.guard_ends.specs.Drill.{drill_rules}
use Rattle.guard_laws.proofs.DrillRules.{drill-tokens}
use Rattle.guard_laws.proofs.FoundTokens.{are-tokens, tokens-read}

found : are-tokens false 0 drill_rules drill-tokens ≡ true
found = refl

no-mark : (rest : List ℕ) → drill_rules ≢ 239 ∷ 187 ∷ 191 ∷ rest
no-mark rest same = other_byte 108 239 refl (head_is 108 239 _ (187 ∷ 191 ∷ rest) same)

starts : Starts drill_rules 0 drill_rules
starts = inr (refl, refl, no-mark)

pub rules-tokens : IsTokenList drill_rules drill-tokens
rules-tokens = (0, drill_rules, starts, tokens-read drill-tokens false 0 drill_rules found)
