-- Where reading stops and no sign counts.
use Rattle.std.specs.Prelude.{ℕ, suc, ◌≤◌, ◌⊎◌, List, length}
use Rattle.yaml_grammar.specs.declared.stop.Stop.{Stop}
use Rattle.yaml_grammar.specs.declared.stop.Stop.TheVariants as stop
use Rattle.yaml_grammar.specs.Places.{IsDead, IsSyntax}

-- where reading stops and no sign counts, the place is one at which the text is no document
abbrev pub IsSyntaxStop : List ℕ → Stop → Type 0
IsSyntaxStop text (stop.Unread at) = IsSyntax text at
IsSyntaxStop text _ = Unit {0}

-- where reading stops and no sign counts, the place is the text's length, that of its last byte, or dead
abbrev pub StopsAt : List ℕ → Stop → Type 0
StopsAt text (stop.Unread at) = (length text ≤ suc at) ⊎ IsDead text at
StopsAt text _ = Unit {0}
