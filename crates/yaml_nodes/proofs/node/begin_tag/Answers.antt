use Rattle.std.proofs.lemmas.Grind.{common_steps}
use Rattle.std.proofs.Common.{List, ℕ, ap, ◌∙◌, refl, arith}
use Rattle.std.specs.Cow.{cow_str_bytes}
use Rattle.doc_values.specs.declared.kind.Kind.TheVariants as kind
use Rattle.doc_values.specs.Unfinished.{with_key, with_open, open_kind}
use Rattle.yaml_nodes.proofs.node.begin_tag.Goals as goal

pub returns-in-Ok-key : goal.returns-in-Ok-key
returns-in-Ok-key c =
    let u = c.args.builder.now in
    let b = c.in-Ok-begin.ensures in
    let map = b.1 ∙ ap (λ k. with_open (open_kind k) c.args.map.next.at u) c.requires.keys in
    (refl, refl, b.0, c.in-Ok-key.ensures.ok.0 ∙ ap (with_key (cow_str_bytes c.in-Ok.key)) map ∙ ap (λ (t : List ℕ). with_key t (with_open kind.Map c.args.map.next.at u)) c.in-Ok.ensures, b.2)

pub returns-in-Err-key : goal.returns-in-Err-key
returns-in-Err-key c = grind (arith, common_steps)
