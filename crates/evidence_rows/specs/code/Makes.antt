-- What a line makes known, as it is judged: the new trees of an answer, at the number of the line.
use Rattle.std.specs.Prelude.{suc, ◌≡◌, true, List, length, map, Option, MatchOption, Vec}
use Rattle.std.specs.List.{list_all}
use Rattle.std.specs.declared.alloc.Global.{Global}
use Rattle.evidence_lines.specs.declared.line.Line.{Line}
use Rattle.guard_builtins.specs.code.Seen.{is_plain, see_made}
use Rattle.guard_builtins.specs.declared.made.Made as types
use Rattle.rule_meaning.specs.Seeing.{grown, trees_kept}
use Rattle.rule_meaning.specs.StoreModel.{StoreModel, Made}

-- the trees that the line behind others makes by an answer
abbrev pub trees_of : List Line → List types.Made → List Made
trees_of lines answer = trees_kept (suc (length lines)) 0 (map see_made answer)

-- it holds of these trees and of no others, and this is so once they are known; none of them has a pattern
pub record Makes (known : StoreModel) (lines : List Line) (Holds : List Made → Type 0) (Then : StoreModel → Type 0) (answer : List types.Made) : Type 0 where
  pub holds : Holds (trees_of lines answer)
  pub only : (other : List Made) → Holds other → other ≡ trees_of lines answer
  pub so : Then (grown known (trees_of lines answer))
  pub plain : list_all is_plain answer ≡ true

-- or there is no answer, and it holds of no trees
abbrev pub IsMade : StoreModel → List Line → (List Made → Type 0) → (StoreModel → Type 0) → Option (Vec types.Made Global) → Type 0
IsMade known lines Holds Then found = MatchOption found ((more : List Made) → Holds more → ⊥) (λ answer. Makes known lines Holds Then answer.items)
