-- How a tree, an unfinished tree and rows that grow are stored: as the list of rows.
use Rattle.std.specs.Prelude.{ℕ, List, Option, refl}
use Rattle.std.specs.Coded.{Coded, code_by, coded×, coded_ℕ, coded_list, coded_option}
use Rattle.doc_values.specs.declared.kind.Kind.{Kind}
use Rattle.doc_values.specs.contracts.kind.Kind as kind
use Rattle.doc_values.specs.Tree.{Label, Forest}
use Rattle.doc_values.specs.Unfinished.{Level, Unfinished}
use Rattle.doc_values.specs.code.Rows.{Row, all_rows, tree_of}
use Rattle.doc_values.specs.code.Growth.{Awaited, Growth}
use Rattle.doc_values.specs.code.Laws.{tree_of-rows}

abbrev pub label_code : Coded Label
label_code = code_by (Kind × (List ℕ × (Option (List ℕ) × ℕ))) (coded× kind.the_row.coded (coded× (coded_list coded_ℕ) (coded× (coded_option (coded_list coded_ℕ)) coded_ℕ))) (λ l. (l.kind, (l.text, (l.key, l.at)))) (λ p. record { kind = p.0; text = p.1.0; key = p.1.1.0; at = p.1.1.1 }) (λ _. refl)

abbrev pub row_code : Coded Row
row_code = code_by (ℕ × (ℕ × (ℕ × Label))) (coded× coded_ℕ (coded× coded_ℕ (coded× coded_ℕ label_code))) (λ r. (r.depth, (r.under, (r.index, r.label)))) (λ p. record { depth = p.0; under = p.1.0; index = p.1.1.0; label = p.1.1.1 }) (λ _. refl)

abbrev pub forest_code : Coded Forest
forest_code = code_by (List Row) (coded_list row_code) all_rows tree_of tree_of-rows

abbrev pub level_code : Coded Level
level_code = code_by (Label × Forest) (coded× label_code forest_code) (λ v. (v.label, v.before)) (λ p. record { label = p.0; before = p.1 }) (λ _. refl)

abbrev pub unfinished_code : Coded Unfinished
unfinished_code = code_by (List Level × (Forest × Option (List ℕ))) (coded× (coded_list level_code) (coded× forest_code (coded_option (coded_list coded_ℕ)))) (λ u. (u.outer, (u.done, u.key))) (λ p. record { outer = p.0; done = p.1.0; key = p.1.1 }) (λ _. refl)

abbrev pub awaited_code : Coded Awaited
awaited_code = code_by (List ℕ × ℕ) (coded× (coded_list coded_ℕ) coded_ℕ) (λ k. (k.text, k.under)) (λ p. record { text = p.0; under = p.1 }) (λ _. refl)

abbrev pub growth_code : Coded Growth
growth_code = code_by (List Row × Option Awaited) (coded× (coded_list row_code) (coded_option awaited_code)) (λ g. (g.rows, g.key)) (λ p. record { rows = p.0; key = p.1 }) (λ _. refl)
