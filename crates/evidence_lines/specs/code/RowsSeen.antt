-- The rows that a line says, wherever they stand.
use Rattle.std.specs.Prelude.{ℕ, Bool, true, false, not, ◌&&◌, List, [], ◌∷◌, map}
use Rattle.guard_syntax.specs.declared.row.Origin.{Origin}
use Rattle.guard_syntax.specs.declared.row.Origin.TheVariants.{Template}
use Rattle.guard_syntax.specs.declared.row.Row.{Row}
use Rattle.guard_syntax.specs.declared.row.Row.TheVariants.{Found}
use Rattle.evidence_lines.specs.declared.gathered.GatheredForm.{GatheredForm}
use Rattle.evidence_lines.specs.declared.gathered.GatheredForm.TheVariants as gathered
use Rattle.evidence_lines.specs.declared.line.RowsForm.{RowsForm}
use Rattle.evidence_lines.specs.declared.line.RowsForm.TheVariants.{Slice, One, Nodes}

-- the value at a node of the template
abbrev pub node_row : ℕ → Row
node_row node = Found (record { origin = Template; node = node; key = false })

abbrev pub is_template : Origin → Bool
is_template Template = true
is_template origin = false

-- a row is the value at some node of the template
abbrev pub is_node_row : Row → Bool
is_node_row (Found v) = is_template v.origin && not v.key
is_node_row row = false

-- the node of its value
abbrev pub node_of : Row → ℕ
node_of (Found v) = v.node
node_of row = 0

-- those of a slice, one, or the values at nodes of the template
abbrev pub see_rows : RowsForm → List Row
see_rows (Slice items) = items.now
see_rows (One row) = row ∷ []
see_rows (Nodes nodes) = map node_row nodes.now

-- the same where they are side by side
abbrev pub see_gathered : GatheredForm → List Row
see_gathered (gathered.Slice items) = items.now
see_gathered (gathered.One row) = row ∷ []
see_gathered (gathered.Made rows) = rows.items
