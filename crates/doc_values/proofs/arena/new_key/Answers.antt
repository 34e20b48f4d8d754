use Rattle.std.proofs.Common.{◌≡◌, ℕ, List, length, None, Some, sym, ap, refl, ◌∙◌, subst, arith}
use Rattle.std.specs.Cow.{cow_str_bytes}
use Rattle.std.proofs.lemmas.Option.{none-some}
use Rattle.key_names.specs.code.Names.{name_of}
use Rattle.doc_values.specs.code.Uses.{IsBehindName, AreDeeper}
use Rattle.doc_values.proofs.NamedKeys.{none_unnamed, some_named, none_linked, some_same}
use Rattle.doc_values.proofs.arena.new_key.Goals as goal

pub link-requires-clause-name : goal.link-requires-clause-name
link-requires-clause-name c =
    let ns = c.args.names.now in
    let k : List ℕ = cow_str_bytes c.args.text in
    let u = c.requires.used in
    let found : name_of ns k ≡ Some c.in-Some.name = ap (name_of ns) (sym c.as_str.ensures.value) ∙ sym c.number.ensures ∙ c.in-Some.is in
    let within = (u.table.known k c.in-Some.name found).0 in
    let counted = u.counted in
    omega (arith, within, counted)

pub link-requires-clause-last : goal.link-requires-clause-last
link-requires-clause-last c =
    let ns = c.args.names.now in
    let k : List ℕ = cow_str_bytes c.args.text in
    let u = c.requires.used in
    let found : name_of ns k ≡ Some c.in-Some.name = ap (name_of ns) (sym c.as_str.ensures.value) ∙ sym c.number.ensures ∙ c.in-Some.is in
    u.last c.in-Some.name (u.table.known k c.in-Some.name found).0

pub returns-in_default : goal.returns-in_default
returns-in_default c =
    let ns = c.args.names.now in
    let k : List ℕ = cow_str_bytes c.args.text in
    let u = c.requires.used in
    let none : name_of ns k ≡ None = ap (name_of ns) (sym c.as_str.ensures.value) ∙ sym c.number.ensures ∙ c.in_default.is in
    (none_unnamed c.args.nodes.now ns c.args.under k u.table u.named none, refl, (sym none, λ _. refl, λ n q. absurd (none-some n q)))

pub returns-in_default-link : goal.returns-in_default-link
returns-in_default-link c =
    let ns = c.args.names.now in
    let k : List ℕ = cow_str_bytes c.args.text in
    let u = c.requires.used in
    let found : name_of ns k ≡ Some c.in-Some.name = ap (name_of ns) (sym c.as_str.ensures.value) ∙ sym c.number.ensures ∙ c.in-Some.is in
    let h = c.in_default-link.ensures in
    some_named c.args.nodes.now ns c.args.under k h.0 c.in-Some.name u.table found h.1 h.2 h.3

pub returns : goal.returns
returns c =
    let ns = c.args.names.now in
    let es = c.args.nodes.now in
    let k : List ℕ = cow_str_bytes c.args.text in
    let u = c.requires.used in
    let found : name_of ns k ≡ Some c.in-Some.name = ap (name_of ns) (sym c.as_str.ensures.value) ∙ sym c.number.ensures ∙ c.in-Some.is in
    let h = c.in-Some-link.ensures in (
      none_linked es ns c.args.under k c.in-Some.name c.in-Some-link.link u.table u.named found u.low h.2 h.0,
      refl,
      (sym found, λ e. absurd (none-some c.in-Some.name (sym e)), λ n q. subst (λ m. IsBehindName es m c.in-Some-link.link × AreDeeper es m c.in-Some-link.link (length es) c.args.under) (some_same c.in-Some.name n q) (h.1, h.2)),
    )
