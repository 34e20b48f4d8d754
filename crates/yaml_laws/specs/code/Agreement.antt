-- Which texts are the same so far.
use Rattle.std.specs.Prelude.{ℕ, suc, ◌+◌, ◌≡◌, Bool, false, List, [], ◌∷◌, ◌++◌, length, drop, if◌then◌else◌}
use Rattle.yaml_scalars.specs.declared.plain_line.Why.{Why}
use Rattle.yaml_scalars.specs.declared.plain_line.Why.TheVariants.{Break, Colon}
use Rattle.yaml_scalars.specs.declared.plain_line.Below.{Below}
use Rattle.yaml_scalars.specs.declared.plain_line.Below.TheVariants.{Blank, Outside, Further}
use Rattle.yaml_scalars.specs.declared.scalar.Setting.{Setting}
use Rattle.yaml_scalars.specs.Lines.{Line, begins_with, is_mark, is_white, lead, lines}
use Rattle.yaml_scalars.specs.Block.{shown}
use Rattle.yaml_scalars.specs.Plain.{plain_len, reason, below}
use Rattle.yaml_scalars.specs.Scalar.{begins_quoted, begins_block}
use Rattle.yaml_scalars.specs.code.Walk.{line_at}

-- two texts are the same up to a place and with the byte there
abbrev pub AgreesTo : ℕ → List ℕ → List ℕ → Type 0
AgreesTo place text other = (before behind more : List ℕ) × (b : ℕ) × (text ≡ before ++ (b ∷ behind)) × (other ≡ before ++ (b ∷ more)) × (length before ≡ place)

-- how many bytes of a line stand before the one that shows that it is not blank and ends a scalar above it: of a mark all of
-- it and one more, of another line those that it may share with a blank line or a mark
abbrev pub end_shown : List ℕ → ℕ
end_shown bytes = if is_mark bytes then 4 else shown bytes

-- the same of a line that ends a scalar above it whether it is a mark or not: of a mark all of it and one more, of another line
-- its white space, with a carriage return behind that
abbrev pub out_shown : List ℕ → ℕ
out_shown bytes = if is_mark bytes then 4 else (let n : ℕ = lead is_white bytes in if begins_with 13 (drop n bytes) then suc n else n)

-- the place of the byte that shows why a plain scalar that begins at a place ends on its line: the one that ends it, the
-- line's end, or behind a colon the next
abbrev pub shown_by : Why → ℕ → ℕ
shown_by Colon stop = suc stop
shown_by _ stop = stop

abbrev pub stop_shown : Bool → ℕ → List ℕ → ℕ
stop_shown flow at bytes = shown_by (reason flow bytes) (at + plain_len flow false bytes)

-- the same of one that goes on over lines, where the lines below show it at a place, in a text of a length
abbrev pub part_shown : Why → ℕ → ℕ → ℕ
part_shown Break stop next = next
part_shown w stop next = shown_by w stop

abbrev pub line_shown : Setting → Below → ℕ → List ℕ → ℕ → ℕ
line_shown s Blank at bytes next = next
line_shown s Outside at bytes next = at + out_shown bytes
line_shown s (Further n) at bytes next = part_shown (reason s.flow (drop n bytes)) (at + n + plain_len s.flow false (drop n bytes)) next

abbrev pub more_shown : Setting → ℕ → List Line → ℕ
more_shown s size [] = size
more_shown s size (l ∷ ls) = line_shown s (below s l.bytes) l.at l.bytes (more_shown s size ls)

abbrev pub plain_shown : Setting → ℕ → List Line → ℕ
plain_shown s size [] = size
plain_shown s size (l ∷ ls) = if s.one_line then stop_shown s.flow l.at l.bytes else part_shown (reason s.flow l.bytes) (l.at + plain_len s.flow false l.bytes) (more_shown s size ls)

-- the place of the byte that shows the end of the scalar at a place: behind a closing quote the next one, in single quotes no
-- quote; of a block scalar that of the line that ends it
abbrev pub scalar_shown : Setting → List ℕ → ℕ → ℕ → ℕ
scalar_shown s text at end =
    if begins_quoted (drop at text) then end else
    (if begins_block s (drop at text) then end + out_shown (line_at (drop end text)) else plain_shown s (length text) (lines at (drop at text)))
