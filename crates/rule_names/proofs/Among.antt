-- Parts of parts stand in what these stand in.
use Rattle.std.proofs.Common.{◌≡◌, ◌++◌, List, [], ◌∷◌, refl, sym, ap, ◌∙◌, append_assoc}
use Rattle.std.proofs.lemmas.List.{append-nil}
use Rattle.rule_names.specs.Pieces.{Sited}
use Rattle.rule_names.specs.code.Within.{IsAmong}

pub IsAmong-inner : (some more all : List Sited) → IsAmong some more → IsAmong more all → IsAmong some all
IsAmong-inner some more all (b, a, is) (before, after, is') = (
  before ++ b,
  a ++ after,
  is' ∙ (ap (λ m. before ++ (m ++ after)) is
      ∙ (ap (λ m. before ++ m) (append_assoc b (some ++ a) after ∙ ap (λ m. b ++ m) (append_assoc some a after))
      ∙ sym (append_assoc before b (some ++ (a ++ after))))),
)

-- at the end, at the front, and behind one piece and others
pub IsAmong-last : (before some : List Sited) → IsAmong some (before ++ some)
IsAmong-last before some = (before, [], ap (λ m. before ++ m) (sym (append-nil some)))

pub IsAmong-first : (some after : List Sited) → IsAmong some (some ++ after)
IsAmong-first some after = ([], after, refl)

pub IsAmong-behind : (p : Sited) (some all : List Sited) → IsAmong some all → IsAmong some (p ∷ all)
IsAmong-behind p some all (before, after, is) = (p ∷ before, after, ap (λ m. p ∷ m) is)
