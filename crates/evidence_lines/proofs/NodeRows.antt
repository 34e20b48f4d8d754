-- Rows that are values at nodes of the template are had from the nodes.
use Rattle.std.proofs.Common.{◌≡◌, ◌<◌, ◌+◌, ℕ, Bool, true, false, not, List, [], ◌∷◌, ◌++◌, get_or, length, map, take, refl, sym, ap, ap₂, ◌∙◌}
use Rattle.std.specs.List.{list_all}
use Rattle.std.proofs.lemmas.Bool.{and_parts, false≢true}
use Rattle.std.proofs.lemmas.List.{append_assoc, map_more}
use Rattle.guard_syntax.specs.declared.row.Origin.{Origin}
use Rattle.guard_syntax.specs.declared.row.Origin.TheVariants.{Template, Literal, Made}
use Rattle.guard_syntax.specs.declared.row.Row.{Row}
use Rattle.guard_syntax.specs.declared.row.Row.TheVariants.{Found, Missing, Unmade}
use Rattle.evidence_lines.specs.code.RowsSeen.{is_node_row, is_template, node_of, node_row}

template-is : (o : Origin) → is_template o ≡ true → o ≡ Template
template-is Template is = refl
template-is (Literal site) is = absurd (false≢true is)
template-is (Made line row) is = absurd (false≢true is)

no-key : (key : Bool) → not key ≡ true → key ≡ false
no-key true is = absurd (false≢true is)
no-key false is = refl

row-at-node : (r : Row) → is_node_row r ≡ true → node_row (node_of r) ≡ r
row-at-node (Found v) is =
    let parts = and_parts (is_template v.origin) (not v.key) is in
    let made : Origin → Bool → Row = λ o key. Found (record { origin = o; node = v.node; key = key }) in
    ap₂ made (sym (template-is v.origin parts.0)) (sym (no-key v.key parts.1))
row-at-node (Missing v step) is = absurd (false≢true is)
row-at-node (Unmade call) is = absurd (false≢true is)

-- such rows are the values at their nodes
pub rows-at-nodes : (rows : List Row) → list_all is_node_row rows ≡ true → map node_row (map node_of rows) ≡ rows
rows-at-nodes [] all = refl
rows-at-nodes (r ∷ rows) all =
    let parts = and_parts (is_node_row r) (list_all is_node_row rows) all in
    ap₂ (λ (x : Row) (xs : List Row). x ∷ xs) (row-at-node r parts.0) (rows-at-nodes rows parts.1)

-- one node more behind those before it
pub nodes-more : (start now : List ℕ) (rows : List Row) (i : ℕ) (d : Row) → i < length rows → now ≡ start ++ map node_of (take i rows)
    → now ++ node_of (get_or rows i d) ∷ [] ≡ start ++ map node_of (take (i + 1) rows)
nodes-more start now rows i d within before =
    let last = node_of (get_or rows i d) ∷ [] in
    ap (λ t. t ++ last) before ∙ append_assoc start (map node_of (take i rows)) last ∙ ap (λ t. start ++ t) (sym (map_more node_of rows i d within))
