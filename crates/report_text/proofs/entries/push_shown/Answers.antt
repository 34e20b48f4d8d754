use Rattle.std.proofs.Common.{◌≡◌, ◌++◌, ℕ, List, OnOk, codes, subst}
use Rattle.doc_values.specs.Tree.{Forest}
use Rattle.rule_names.specs.code.Files.{file_of}
use Rattle.value_store.specs.code.Stores.{see_store}
use Rattle.report_text.specs.EntryLines.{site_text}
use Rattle.report_text.specs.Paths.{path_of, path_text}
use Rattle.report_text.specs.code.SeenTexts.{see_lined}
use Rattle.report_text.proofs.Appended.{and-call}
use Rattle.report_text.proofs.ShownTexts.{made-line, unmade-line}
use Rattle.report_text.proofs.entries.push_shown.Goals as goal

pub returns-in_ok-push-in-Made : goal.returns-in_ok-push-in-Made
returns-in_ok-push-in-Made c =
    let line : List ℕ = c.args.line.now.items in
    let end : List ℕ = c.push_site.new.line.items in
    let rules : List ℕ = (see_lined c.args.texts.now).rules in
    let tree : Forest = c.node_of.result.doc.now in
    let path : List ℕ = path_text (path_of tree c.node_of.result.id) in
    let site : List ℕ = site_text (file_of c.args.store.now.file.now) rules c.in-Made.call in
    subst (λ (t : List ℕ). OnOk c.push_site.result (end ≡ line ++ t))
    (made-line (see_store c.args.store.now) c.args.shown c.in-Made.call c.in-Made.value (see_lined c.args.texts.now) tree c.node_of.result.id c.in-Made.is c.node_of.ensures.doc c.node_of.ensures.id)
    (and-call c.push_site.result line c.extend_from_slice.new.self.items end (codes "call") (path ++ (codes " " ++ site)) c.in_ok-extend_from_slice-in-Made.ensures.items
    (and-call c.push_site.result c.extend_from_slice.new.self.items c.push_path.new.line.items end path (codes " " ++ site) c.in_ok-push_path-in-Made.ensures
    (and-call c.push_site.result c.push_path.new.line.items c.push.new.self.items end (codes " ") site c.in_ok-push-in-Made.ensures.items c.push_site.ensures)))

pub returns-in_ok-extend_from_slice-in-Unmade : goal.returns-in_ok-extend_from_slice-in-Unmade
returns-in_ok-extend_from_slice-in-Unmade c =
    let line : List ℕ = c.args.line.now.items in
    let rules : List ℕ = (see_lined c.args.texts.now).rules in
    let site : List ℕ = site_text (file_of c.args.store.now.file.now) rules c.in-Unmade.call in
    subst (λ (t : List ℕ). OnOk c.push_site-in-Unmade.result (c.push_site-in-Unmade.new.line.items ≡ line ++ t))
    (unmade-line (see_store c.args.store.now) c.args.shown c.in-Unmade.call (see_lined c.args.texts.now) c.in-Unmade.is)
    (and-call c.push_site-in-Unmade.result line c.extend_from_slice-in-Unmade.new.self.items c.push_site-in-Unmade.new.line.items (codes "call ") site c.in_ok-extend_from_slice-in-Unmade.ensures.items c.push_site-in-Unmade.ensures)
