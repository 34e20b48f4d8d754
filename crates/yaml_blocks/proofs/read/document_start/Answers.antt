use Rattle.std.proofs.Common.{◌≡◌, false, refl, arith}
use Rattle.yaml_grammar.proofs.Gains.{seen_behind, untold}
use Rattle.yaml_grammar.proofs.Roots.{start_refused, start_solid, marked_refused, starts_behind, starts_there}
use Rattle.yaml_grammar.specs.declared.stop.Stop.TheVariants.{NoMemory}
use Rattle.yaml_grammar.specs.Yaml.{start_sign}
use Rattle.yaml_grammar.proofs.Lives.{fixed_behind, fixed_there, signed_at}
use Rattle.yaml_grammar.proofs.StartPlaces.{signed_shown, start_at, start_shown}
use Rattle.yaml_grammar.proofs.FedLoop.{start_again}
use Rattle.yaml_grammar.proofs.ReadTwice.{signed_unbegun, dashes_unbegun}
use Rattle.yaml_blocks.proofs.read.document_start.Goals as goal

pub returns-in-Some-clause-start : goal.returns-in-Some-clause-start
returns-in-Some-clause-start c = start_refused c.args.text.now c.in-Some.refusal c.in-Some.ensures

pub returns-then-further-clause-start : goal.returns-then-further-clause-start
returns-then-further-clause-start c =
    let text = c.args.text.now in
    let next = c.look-next.result in (
      starts_behind text c.text_start-at.result next.behind next c.look-further.result c.text_start-at.ensures.is c.look-next.ensures.0 refl c.look-further.ensures.0 c.in-Dashes.is c.if-further.true,
      seen_behind text false c.text_start-at.result next c.look-next.ensures,
      untold (start_sign text) c.in-None.ensures,
    )

pub returns-else-further-clause-start : goal.returns-else-further-clause-start
returns-else-further-clause-start c =
    let text = c.args.text.now in
    let next = c.look-next.result in
    marked_refused text c.text_start-at.result next.behind next c.look-further.result c.text_start-at.ensures.is c.look-next.ensures.0 refl c.look-further.ensures.0 c.in-Dashes.is c.if-further.false c.in-None.ensures

pub returns-in_default-clause-start : goal.returns-in_default-clause-start
returns-in_default-clause-start c =
    let text = c.args.text.now in
    (starts_there text c.text_start-at.result c.look-next.result c.text_start-at.ensures.is c.look-next.ensures.0 c.in_default.not-Dashes, c.text_start-at.ensures.boundary, untold (start_sign text) c.in-None.ensures)

pub returns-in-Some-clause-no_memory : goal.returns-in-Some-clause-no_memory
returns-in-Some-clause-no_memory c want = let same : c.in-Some.refusal ≡ NoMemory = cc in start_solid c.args.text.now c.in-Some.refusal c.in-Some.ensures same

pub returns-then-further-clause-fixes : goal.returns-then-further-clause-fixes
returns-then-further-clause-fixes c =
    let text = c.args.text.now in
    let next = c.look-next.result in
    fixed_behind text c.text_start-at.result next.behind next c.look-further.result c.text_start-at.ensures.is c.text_start-at.ensures.boundary c.look-next.ensures.0 refl (seen_behind text false c.text_start-at.result next c.look-next.ensures) c.look-further.ensures.0 c.in-Dashes.is c.if-further.true

pub returns-in_default-clause-fixes : goal.returns-in_default-clause-fixes
returns-in_default-clause-fixes c =
    let text = c.args.text.now in
    fixed_there text c.text_start-at.result c.look-next.result c.text_start-at.ensures.is c.text_start-at.ensures.boundary c.look-next.ensures.0 c.in_default.not-Dashes

pub returns-then-further-clause-behind : goal.returns-then-further-clause-behind
returns-then-further-clause-behind c =
    let is = c.text_start-at.ensures.is in
    let low = c.look-next.ensures.1.0 in
    let behind = c.look-next.ensures.1.3 in
    omega (arith, is, low, behind)

pub returns-in_default-clause-behind : goal.returns-in_default-clause-behind
returns-in_default-clause-behind c = let is = c.text_start-at.ensures.is in omega (arith, is)

pub returns-in-Some-clause-place : goal.returns-in-Some-clause-place
returns-in-Some-clause-place c = signed_at c.args.text.now (start_sign c.args.text.now) c.in-Some.refusal c.in-Some.ensures

pub returns-else-further-clause-place : goal.returns-else-further-clause-place
returns-else-further-clause-place c =
    let text = c.args.text.now in
    let next = c.look-next.result in
    start_at text c.utf8.text c.text_start-at.result next.behind next c.look-further.result c.text_start-at.ensures.is c.text_start-at.ensures.boundary c.look-next.ensures.0 refl (seen_behind text false c.text_start-at.result next c.look-next.ensures) c.look-further.ensures.0 c.in-Dashes.is c.if-further.false c.last_told.result
    c.last_told.ensures

pub returns-in-Some-clause-shown : goal.returns-in-Some-clause-shown
returns-in-Some-clause-shown c = λ last. signed_shown c.args.text.now (start_sign c.args.text.now) c.in-Some.refusal c.in-Some.ensures

pub returns-else-further-clause-shown : goal.returns-else-further-clause-shown
returns-else-further-clause-shown c =
    let text = c.args.text.now in
    let next = c.look-next.result in
    start_shown text c.utf8.text c.text_start-at.result next.behind next c.look-further.result c.text_start-at.ensures.is c.text_start-at.ensures.boundary c.look-next.ensures.0 refl (seen_behind text false c.text_start-at.result next c.look-next.ensures) c.look-further.ensures.0 c.in-Dashes.is c.if-further.false c.in-None.ensures c.last_told.result
    c.last_told.ensures

pub returns-in-Some-clause-again : goal.returns-in-Some-clause-again
returns-in-Some-clause-again c = start_again c.args.text.now c.in-Some.refusal c.in-Some.ensures

pub returns-in-Some-clause-nowhere : goal.returns-in-Some-clause-nowhere
returns-in-Some-clause-nowhere c = signed_unbegun c.args.text.now c.in-Some.refusal c.in-Some.ensures

pub returns-else-further-clause-nowhere : goal.returns-else-further-clause-nowhere
returns-else-further-clause-nowhere c =
    let next = c.look-next.result in
    dashes_unbegun c.args.text.now c.text_start-at.result next.behind next c.look-further.result c.text_start-at.ensures.is c.look-next.ensures.0 refl c.look-further.ensures.0 c.in-Dashes.is c.if-further.false
