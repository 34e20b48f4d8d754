use Rattle.std.proofs.Common.{◌≡◌, ◌+◌, ◌<◌, ◌≤◌, ◌∷◌, [], ◌++◌, length, map, take, ap, sym, ◌∙◌, arith}
use Rattle.std.proofs.lemmas.List.{take_all, length-map, map-append}
use Rattle.doc_values.specs.Places.{kids_at, child_place}
use Rattle.doc_values.specs.Tree.{Forest, count}
use Rattle.rule_meaning.specs.Reached.{node_beside, numbers}
use Rattle.query_steps.proofs.KnownModel.{length-numbers, numbers-more}
use Rattle.query_steps.proofs.reached.inside_node.Goals as goal

pub loop-i-preserved : goal.loop-i-preserved
loop-i-preserved c =
    let kids : Forest = kids_at c.args.node.doc.now c.args.node.id in
    let n = c.args.node.id + 1 in
    let within : c.loop-i.i < count kids = omega arith in
    let child : c.beside.result ≡ node_beside c.args.value (child_place n kids c.loop-i.i) = c.beside.ensures ∙ ap (node_beside c.args.value) c.child.ensures.id in
    c.in_ok-push.ensures.items ∙ ap (λ rs. rs ++ c.beside.result ∷ []) c.loop-i.invariant
    ∙ ap (λ r. map (node_beside c.args.value) (take c.loop-i.i (numbers n kids)) ++ r ∷ []) child
    ∙ sym (map-append (node_beside c.args.value) (take c.loop-i.i (numbers n kids)) (child_place n kids c.loop-i.i ∷ []))
    ∙ sym (ap (map (node_beside c.args.value)) (numbers-more n kids c.loop-i.i within))

pub returns-clause-inside : goal.returns-clause-inside
returns-clause-inside c =
    let kids : Forest = kids_at c.args.node.doc.now c.args.node.id in
    let n = c.args.node.id + 1 in
    let same = length-numbers n kids in
    let past : length (numbers n kids) ≤ c.loop-i.i = omega arith in
    c.loop-i.invariant ∙ ap (map (node_beside c.args.value)) (take_all c.loop-i.i (numbers n kids) past)

pub returns-in_err-push-clause-no_memory : goal.returns-in_err-push-clause-no_memory
returns-in_err-push-clause-no_memory c none =
    let kids : Forest = kids_at c.args.node.doc.now c.args.node.id in
    let n = c.args.node.id + 1 in
    let within : c.loop-i.i < count kids = omega arith in
    let nothing : count kids ≡ 0 = sym (length-numbers n kids) ∙ sym (length-map (numbers n kids) (node_beside c.args.value)) ∙ ap length none in
    absurd (omega (arith, within, nothing))

pub returns-in_err-reserve-clause-no_memory : goal.returns-in_err-reserve-clause-no_memory
returns-in_err-reserve-clause-no_memory c none =
    let kids : Forest = kids_at c.args.node.doc.now c.args.node.id in
    let n = c.args.node.id + 1 in
    let nothing : count kids ≡ 0 = sym (length-numbers n kids) ∙ sym (length-map (numbers n kids) (node_beside c.args.value)) ∙ ap length none in
    absurd (omega (arith, nothing, c.in_err-reserve.ensures.full))
