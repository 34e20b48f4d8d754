-- The text of a block and of what stands in a body is that of its own parts, one after the other, behind what stood before.
use Rattle.std.proofs.Common.{◌≡◌, ℕ, List, ◌++◌, map, codes, refl, sym, ap}
use Rattle.guard_syntax.specs.Syntax as sx
use Rattle.guard_syntax.specs.declared.syntax.Part.{Part}
use Rattle.guard_syntax.specs.code.Seen.{see_part, part_list}
use Rattle.rule_words.proofs.InARow.{IsJoined}
use Rattle.rule_printer.specs.RuleText.{more_parts_text, part_text, parts_text}

part_as : (margin a : List ℕ) (x : Part) (p : sx.Part) → see_part x ≡ p → a ++ part_text margin p ≡ a ++ part_text margin (see_part x)
part_as margin a x p is = ap (λ (y : sx.Part). a ++ part_text margin y) (sym is)

-- ---- lists of parts, and lines

abbrev pub of_body_parts : List ℕ → List Part → List ℕ
of_body_parts margin ps = parts_text margin (part_list (map see_part ps))

abbrev pub of_more_body_parts : List ℕ → List Part → List ℕ
of_more_body_parts margin ps = more_parts_text margin (part_list (map see_part ps))

pub body-parts-joined : (margin : List ℕ) → IsJoined (of_body_parts margin) (of_more_body_parts margin) (λ (p : Part). part_text margin (see_part p)) (codes " or ")
body-parts-joined margin = record { none = refl; no_more = refl; first = λ x xs. refl; further = λ x xs. refl }
