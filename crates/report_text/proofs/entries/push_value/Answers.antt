use Rattle.std.proofs.Common.{◌≡◌, ◌++◌, ℕ, List, OnOk, codes, subst}
use Rattle.doc_values.specs.Tree.{Forest}
use Rattle.value_store.specs.code.Stores.{see_store}
use Rattle.report_text.specs.EntryLines.{data_path}
use Rattle.report_text.specs.Paths.{path_of, path_text}
use Rattle.report_text.specs.Spelling.{place_text}
use Rattle.report_text.specs.Texts.{place_of_node}
use Rattle.report_text.specs.code.SeenTexts.{see_lined}
use Rattle.report_text.proofs.Appended.{and-call}
use Rattle.report_text.proofs.ShownTexts.{data-line, literal-line}
use Rattle.report_text.proofs.entries.push_value.Goals as goal

pub returns-in_ok-push-in-Template : goal.returns-in_ok-push-in-Template
returns-in_ok-push-in-Template c =
    let line : List ℕ = c.args.line.now.items in
    let tree : Forest = c.node_of-node.result.doc.now in
    let path : List ℕ = data_path (path_of tree c.node_of-node.result.id) in
    let place : List ℕ = place_of_node (see_lined c.args.texts.now).template (see_lined c.args.texts.now).params c.node_of-node.result.id c.at.result in
    subst (λ (t : List ℕ). OnOk c.push_data_place.result (c.push_data_place.new.line.items ≡ line ++ t))
    (data-line (see_store c.args.store.now) c.args.value (see_lined c.args.texts.now) tree c.node_of-node.result.id c.at.result c.in-Template.is c.node_of-node.ensures.doc c.node_of-node.ensures.id c.at.ensures)
    (and-call c.push_data_place.result line c.push_data_path.new.line.items c.push_data_place.new.line.items path (codes " " ++ place) c.in_ok-push_data_path-in-Template.ensures
    (and-call c.push_data_place.result c.push_data_path.new.line.items c.push.new.self.items c.push_data_place.new.line.items (codes " ") place c.in_ok-push-in-Template.ensures.items c.push_data_place.ensures))

pub returns-in_ok-push-in-Literal : goal.returns-in_ok-push-in-Literal
returns-in_ok-push-in-Literal c =
    let line : List ℕ = c.args.line.now.items in
    let end : List ℕ = c.push_place.new.line.items in
    let tree : Forest = c.node_of-node.result.doc.now in
    let path : List ℕ = path_text (path_of tree c.node_of-node.result.id) in
    let place : List ℕ = place_text (see_lined c.args.texts.now).rules c.at-in-Literal.result in
    subst (λ (t : List ℕ). OnOk c.push_place.result (end ≡ line ++ t))
    (literal-line (see_store c.args.store.now) c.args.value c.in-Literal.field-0 (see_lined c.args.texts.now) tree c.node_of-node.result.id c.at-in-Literal.result c.in-Literal.is c.node_of-node.ensures.doc c.node_of-node.ensures.id c.at-in-Literal.ensures)
    (and-call c.push_place.result line c.extend_from_slice.new.self.items end (codes "literal") (path ++ (codes " " ++ place)) c.in_ok-extend_from_slice-in-Literal.ensures.items
    (and-call c.push_place.result c.extend_from_slice.new.self.items c.push_path.new.line.items end path (codes " " ++ place) c.in_ok-push_path-in-Literal.ensures
    (and-call c.push_place.result c.push_path.new.line.items c.push-in-Literal.new.self.items end (codes " ") place c.in_ok-push-in-Literal.ensures.items c.push_place.ensures)))
