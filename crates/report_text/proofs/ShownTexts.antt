-- The texts of what is shown, by the pieces that the code appends.
use Rattle.std.proofs.Common.{◌≡◌, ℕ, List, [], ◌++◌, codes, refl, sym, ap, ap₂, subst, ◌∙◌}
use Rattle.std.specs.Prelude.{unwrap_or}
use Rattle.doc_values.specs.Places.{label_at}
use Rattle.doc_values.specs.Tree.{Forest, Nil}
use Rattle.guard_syntax.specs.declared.row.Origin.{Origin}
use Rattle.guard_syntax.specs.declared.row.Origin.TheVariants as origin
use Rattle.guard_syntax.specs.declared.row.Ref.{Ref}
use Rattle.rule_meaning.specs.StoreModel.{StoreModel, tree_of}
use Rattle.rule_meaning.specs.Seeing.{see_origin}
use Rattle.report_text.specs.EntryLines.{data_path, literal_text, node_text, shown_text, site_text}
use Rattle.report_text.specs.Paths.{path_of, path_text}
use Rattle.report_text.specs.Spelling.{place_text}
use Rattle.report_text.specs.Texts.{Texts, data_place, place_of_node}
use Rattle.report_text.specs.code.SeenEntries.{see_shown, tree_for}
use Rattle.report_text.specs.declared.entry.Shown.{Shown}
use Rattle.report_text.specs.declared.entry.Shown.TheVariants.{Made, Unmade}

pub literal-line : (k : StoreModel) (v : Ref) (site : ℕ) (texts : Texts) (t : Forest) (n at : ℕ) → v.origin ≡ origin.Literal site → t ≡ tree_for k v → n ≡ v.node → at ≡ (label_at t n).at
    → codes "literal" ++ (path_text (path_of t n) ++ (codes " " ++ place_text texts.rules at)) ≡ node_text k.file k.template texts (see_origin k [] v.origin) v.node
literal-line k v site texts t n at is tree node place =
    ap (λ (m : ℕ). codes "literal" ++ (path_text (path_of t n) ++ (codes " " ++ place_text texts.rules m))) place
    ∙ ap₂ (λ (f : Forest) (m : ℕ). literal_text texts.rules f m) tree node
    ∙ subst (λ (o : Origin). literal_text texts.rules (unwrap_or (tree_of k o) Nil) v.node ≡ node_text k.file k.template texts (see_origin k [] o) v.node) (sym is) refl

pub data-line : (k : StoreModel) (v : Ref) (texts : Texts) (t : Forest) (n at : ℕ) → v.origin ≡ origin.Template → t ≡ tree_for k v → n ≡ v.node → at ≡ (label_at t n).at
    → data_path (path_of t n) ++ (codes " " ++ place_of_node texts.template texts.params n at) ≡ node_text k.file k.template texts (see_origin k [] v.origin) v.node
data-line k v texts t n at is tree node place =
    let text : Forest → ℕ → List ℕ = λ f m. data_path (path_of f m) ++ (codes " " ++ data_place texts f m) in
    ap (λ (m : ℕ). data_path (path_of t n) ++ (codes " " ++ place_of_node texts.template texts.params n m)) place
    ∙ ap₂ text tree node
    ∙ subst (λ (o : Origin). text (unwrap_or (tree_of k o) Nil) v.node ≡ node_text k.file k.template texts (see_origin k [] o) v.node) (sym is) refl

pub made-line : (k : StoreModel) (s : Shown) (call : ℕ) (v : Ref) (texts : Texts) (t : Forest) (n : ℕ) → s ≡ Made call v → t ≡ tree_for k v → n ≡ v.node
    → codes "call" ++ (path_text (path_of t n) ++ (codes " " ++ site_text k.file texts.rules call)) ≡ shown_text k.file k.template texts (see_shown k s)
made-line k s call v texts t n is tree node =
    ap₂ (λ (f : Forest) (m : ℕ). codes "call" ++ (path_text (path_of f m) ++ (codes " " ++ site_text k.file texts.rules call))) tree node
    ∙ ap (λ (x : Shown). shown_text k.file k.template texts (see_shown k x)) (sym is)

pub unmade-line : (k : StoreModel) (s : Shown) (call : ℕ) (texts : Texts) → s ≡ Unmade call → codes "call " ++ site_text k.file texts.rules call ≡ shown_text k.file k.template texts (see_shown k s)
unmade-line k s call texts is = ap (λ (x : Shown). shown_text k.file k.template texts (see_shown k x)) (sym is)
