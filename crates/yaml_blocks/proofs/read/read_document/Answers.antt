use Rattle.std.proofs.lemmas.Grind.{common_steps}
use Rattle.std.proofs.Common.{◌≡◌, sym, ap, subst, List, [], length, arith, true, false}
use Rattle.doc_values.specs.Tree.{Forest}
use Rattle.yaml_grammar.specs.declared.form.Form.{Form}
use Rattle.yaml_grammar.specs.Answers.{Reads}
use Rattle.yaml_grammar.specs.Ahead.{ahead}
use Rattle.yaml_grammar.specs.code.Steps.{stack, Rest, reached, is_ending}
use Rattle.yaml_grammar.specs.code.Rest.{top}
use Rattle.yaml_grammar.proofs.SameTexts.{same_step}
use Rattle.yaml_grammar.proofs.Lives.{memory_at, stops_at}
use Rattle.yaml_grammar.proofs.LivesLonger.{longer_first, longer_next}
use Rattle.yaml_grammar.proofs.LivesOn.{lives_of, on_first, on_next}
use Rattle.yaml_grammar.proofs.Back.{grows_first, grows_next}
use Rattle.yaml_grammar.proofs.Roots.{nearer, root_same, whole_tree, whole_complete, root_refused, refuses}
use Rattle.yaml_grammar.proofs.SyntaxStops.{later_place, memory_syntax, step_syntax}
use Rattle.yaml_grammar.proofs.FedLoop.{memory_again, signs_again}
use Rattle.yaml_blocks.proofs.read.read_document.Goals as goal

pub returns-in-Err-root-clause-answer : goal.returns-in-Err-root-clause-answer
returns-in-Err-root-clause-answer c = root_refused c.args.text.now c.in-Ok.start 0 [] c.root.new.builder c.in-Err-root.stop c.in-Ok.ensures.start.0 c.in-Ok.ensures.start.2 c.in-Err-root.ensures.gives

pub loop-alloc-init : goal.loop-alloc-init
loop-alloc-init c =
    let none = ap (λ (x : List Form). stack x) c.new-forms.ensures.items in (
      root_same c.args.text.now c.in-Ok.start (stack c.new-forms.result.items) c.root.new.builder c.in-Ok-root.next c.in-Ok.ensures.start.0 c.in-Ok.ensures.start.2 none c.in-Ok-root.ensures.gives,
      on_first c.args.text.now c.in-Ok.start (stack c.new-forms.result.items) c.root.new.builder c.in-Ok-root.next c.utf8.text c.in-Ok.ensures.fixes c.in-Ok-root.ensures.fixes none c.in-Ok.ensures.start.0 c.in-Ok.ensures.start.1 c.in-Ok-root.ensures.there c.in-Ok-root.ensures.going,
      grows_first c.args.text.now c.in-Ok-root.next (stack c.new-forms.result.items) c.root.new.builder none,
      (let a = c.in-Ok.ensures.behind in let b = c.in-Ok-root.ensures.there in omega (arith, a, b)),
      longer_first c.args.text.now c.in-Ok-root.next (stack c.new-forms.result.items) c.root.new.builder (λ after. subst (λ n. is_ending (ahead c.args.text.now false n).token ≡ true) (sym c.in-Ok-root.ensures.there) (c.in-Ok-root.ensures.ended after)),
    )

pub loop-alloc-preserved : goal.loop-alloc-preserved
loop-alloc-preserved c =
    let text = c.args.text.now in
    let i = c.loop-alloc.invariant.0 in
    let p = c.loop-alloc.position in
    let q = c.in-Ok-step.next in
    let fs = stack c.loop-alloc.forms.items in
    let gs = stack c.step.new.forms.items in
    let u = c.loop-alloc.builder in
    let w = c.step.new.builder in
    let open_ = c.goes_on.ensures.yes c.loop-alloc-test.true in
    let g = c.in-Ok-step.ensures.gives text c.utf8.text i.2 i.1 (same_step text p.stage (top fs) p.at) in
    let lives = on_next text p q fs gs u w i.2.0 c.loop-alloc.invariant.1 open_ c.in-Ok-step.ensures.fixes c.in-Ok-step.ensures.feeds (λ other place m cut fits same. c.in-Ok-step.ensures.gives other m.utf8 cut fits same) in (
      ((λ v. ((λ h. (g.0 v).0 ((i.0 v).0 h)), (λ h. (i.0 v).1 ((g.0 v).1 h)))), g.1, g.2),
      lives,
      grows_next text p q fs gs u w c.utf8.text c.loop-alloc.invariant.2 open_ c.in-Ok-step.ensures.feeds (λ other utf8 cut fits same. c.in-Ok-step.ensures.gives other utf8 cut fits same) lives g.2.0,
      (let a = c.loop-alloc.invariant.3 in let b = later_place p.stage q.stage p.at q.at g.3 in omega (arith, a, b)),
      longer_next text p q fs gs u w c.utf8.text c.loop-alloc.invariant.1 open_ i.1 i.2 g.2 c.loop-alloc.invariant.3 c.in-Ok-step.ensures.fixes c.in-Ok-step.ensures.extends (λ other utf8 cut fits same. c.in-Ok-step.ensures.gives other utf8 cut fits same),
    )

pub returns-in-Err-step-clause-answer : goal.returns-in-Err-step-clause-answer
returns-in-Err-step-clause-answer c =
    let p = c.loop-alloc.position in
    refuses c.args.text.now (Rest c.args.text.now p.stage (stack c.loop-alloc.forms.items) c.loop-alloc.builder p.at) (reached p.stage p.at) (stack c.step.new.forms.items) c.step.new.builder c.in-Err-step.stop c.loop-alloc.invariant.0.0
    (c.in-Err-step.ensures.gives c.args.text.now c.utf8.text c.loop-alloc.invariant.0.2 c.loop-alloc.invariant.0.1 (same_step c.args.text.now p.stage (top (stack c.loop-alloc.forms.items)) p.at))

pub returns-in-Err-root-clause-place : goal.returns-in-Err-root-clause-place
returns-in-Err-root-clause-place c = memory_at c.args.text.now c.in-Err-root.stop c.in-Err-root.ensures.memory

pub returns-in-Err-step-clause-place : goal.returns-in-Err-step-clause-place
returns-in-Err-step-clause-place c = stops_at c.args.text.now c.utf8.text c.loop-alloc.position (stack c.loop-alloc.forms.items) c.loop-alloc.builder c.in-Err-step.stop (lives_of c.args.text.now c.loop-alloc.position (stack c.loop-alloc.forms.items) c.loop-alloc.builder c.loop-alloc.invariant.0.2.0 c.loop-alloc.invariant.1) (c.goes_on.ensures.yes c.loop-alloc-test.true) c.in-Err-step.ensures.stops

pub finish-requires : goal.finish-requires
finish-requires c =
    let i = c.loop-alloc.invariant.0 in
    record { complete = whole_complete c.args.text.now c.loop-alloc.position (stack c.loop-alloc.forms.items) c.loop-alloc.builder (c.goes_on.ensures.no c.loop-alloc-test.false) i.0 i.1 }

pub returns-clause-answer : goal.returns-clause-answer
returns-clause-answer c =
    let i = c.loop-alloc.invariant.0 in
    subst (λ (t : Forest). Reads c.args.text.now t) (sym c.finish.ensures.done)
    (whole_tree c.args.text.now c.loop-alloc.position (stack c.loop-alloc.forms.items) c.loop-alloc.builder (c.goes_on.ensures.no c.loop-alloc-test.false) i.0)

pub returns-in-Err-root-clause-memory : goal.returns-in-Err-root-clause-memory
returns-in-Err-root-clause-memory c want = (c.in-Ok.ensures.start.2, (c.in-Ok.start, c.in-Ok.ensures.start.0))

pub returns-in-Err-step-clause-memory : goal.returns-in-Err-step-clause-memory
returns-in-Err-step-clause-memory c want = (c.in-Ok.ensures.start.2, (c.in-Ok.start, c.in-Ok.ensures.start.0))

pub step-requires-clause-boundary : goal.step-requires-clause-boundary
step-requires-clause-boundary c = grind (arith, common_steps)

pub step-requires-clause-behind : goal.step-requires-clause-behind
step-requires-clause-behind c = c.loop-alloc.invariant.3

pub step-requires-clause-open : goal.step-requires-clause-open
step-requires-clause-open c = grind (arith, common_steps)

pub loop-alloc-smaller : goal.loop-alloc-smaller
loop-alloc-smaller c =
    let i = c.loop-alloc.invariant.0 in
    let p = c.loop-alloc.position in
    let next = c.in-Ok-step.next in
    let g = c.in-Ok-step.ensures.gives c.args.text.now c.utf8.text i.2 i.1 (same_step c.args.text.now p.stage (top (stack c.loop-alloc.forms.items)) p.at) in
    nearer p.stage next.stage p.at next.at (length c.args.text.now) g.2.0 g.3

pub returns-in-Err-clause-syntax : goal.returns-in-Err-clause-syntax
returns-in-Err-clause-syntax c = λ last. c.in-Err.ensures.shown last

pub returns-in-Err-root-clause-syntax : goal.returns-in-Err-root-clause-syntax
returns-in-Err-root-clause-syntax c = λ last. memory_syntax c.args.text.now c.in-Err-root.stop c.in-Err-root.ensures.memory

pub returns-in-Err-step-clause-syntax : goal.returns-in-Err-step-clause-syntax
returns-in-Err-step-clause-syntax c = λ last.
    let text = c.args.text.now in
    let p = c.loop-alloc.position in
    let fs = stack c.loop-alloc.forms.items in
    let v = c.loop-alloc.invariant in
    step_syntax text c.utf8.text p fs (stack c.step.new.forms.items) c.loop-alloc.builder c.step.new.builder (reached p.stage p.at) c.in-Err-step.stop v.1 v.2 v.4 (c.goes_on.ensures.yes c.loop-alloc-test.true) v.0.1 v.0.2 v.3
    (c.in-Err-step.ensures.gives text c.utf8.text v.0.2 v.0.1 (same_step text p.stage (top fs) p.at)) c.in-Err-step.ensures.stops c.in-Err-step.ensures.longer last

pub returns-in-Err-root-clause-again : goal.returns-in-Err-root-clause-again
returns-in-Err-root-clause-again c = memory_again c.args.text.now c.in-Err-root.stop c.in-Err-root.ensures.memory

pub returns-in-Err-step-clause-again : goal.returns-in-Err-step-clause-again
returns-in-Err-step-clause-again c =
    let text = c.args.text.now in
    let p = c.loop-alloc.position in
    let fs = stack c.loop-alloc.forms.items in
    let u = c.loop-alloc.builder in
    let i = c.loop-alloc.invariant.0 in
    signs_again text c.utf8.text p fs u (reached p.stage p.at) (stack c.step.new.forms.items) c.step.new.builder c.in-Err-step.stop i.2 (c.goes_on.ensures.yes c.loop-alloc-test.true) i.1 c.in-Err-step.ensures.gives c.in-Err-step.ensures.again
    (lives_of text p fs u i.2.0 c.loop-alloc.invariant.1)
