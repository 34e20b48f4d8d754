use Rattle.std.proofs.lemmas.Grind.{common_steps}
use Rattle.std.proofs.Common.{false, List, ◌+◌, ◌*◌, arith, subst}
use Rattle.yaml_grammar.specs.declared.form.Form.{Form}
use Rattle.yaml_grammar.specs.code.Rest.{Ends}
use Rattle.yaml_grammar.specs.code.Steps.{stack, Gives}
use Rattle.yaml_grammar.proofs.Gains.{gives_from}
use Rattle.yaml_grammar.proofs.LastValues.{lasts_calm}
use Rattle.yaml_grammar.proofs.Quiet.{line_quiet}
use Rattle.yaml_grammar.proofs.Roots.{not_true}
use Rattle.yaml_grammar.proofs.BlockGains.{nothing_follows}
use Rattle.yaml_grammar.proofs.Lengthened.{line_lengthens, popped_lengthens}
use Rattle.yaml_grammar.proofs.Stopped.{last_told_stops, told_inside, stops_from}
use Rattle.yaml_grammar.specs.code.Twins.{Stops, NoLine, Lengthens}
use Rattle.yaml_grammar.specs.declared.stage.Stage.TheVariants as stage
use Rattle.yaml_grammar.specs.code.Feeds.{Opening}
use Rattle.yaml_grammar.proofs.FedSites.{ended_again}
use Rattle.yaml_grammar.specs.code.ReadAgain.{NoneBehind, OnSign}
use Rattle.yaml_grammar.proofs.ValueReads.{line-none}
use Rattle.yaml_blocks.proofs.block.line.Goals as goal

pub returns-then-not-site : goal.returns-then-not-site
returns-then-not-site c = record {
  gives = λ text seen inside calm same.
      let fs = stack c.args.forms.now.items in
      nothing_follows text fs c.args.builder.now c.args.site.at c.args.site.next seen.0 inside (line_quiet text c.args.site.next fs c.requires.open.1 c.requires.block (not_true c.args.site.next.fresh c.if-not-site.true));
  fixes = tt;
  opens = tt;
  stops =
      let fs = stack c.args.forms.now.items in
      let u = c.args.builder.now in
      let at = c.args.site.at in
      let next = c.args.site.next in
      last_told_stops c.args.text.now at (NoLine at next fs u) false next c.last_told.result c.requires.seen.0 c.requires.told c.last_told.ensures (λ text seen calm v h. nothing_follows text fs u at next seen.0 (told_inside text at next seen.0 c.requires.told) (line_quiet text next fs c.requires.open.1 c.requires.block (not_true next.fresh c.if-not-site.true)) v h);
  longer =
      let next = c.args.site.next in
      line_lengthens c.args.text.now c.utf8.text (stack c.args.forms.now.items) c.args.builder.now c.args.site.at c.requires.boundary next c.last_told.result c.requires.seen.0 c.requires.told c.last_told.ensures c.requires.block c.requires.open.1 (not_true next.fresh c.if-not-site.true);
  leaves = tt;
  again = λ starts. tt;
}

pub returns-in-Ok : goal.returns-in-Ok
returns-in-Ok c = record {
  gives = λ text seen inside calm same.
      let at = c.args.site.at in
      let u = c.args.builder.now in
      let w = c.end_before.new.builder in
      let gs = stack c.end_before.new.forms.items in
      let ended = c.in-Ok.ensures.ended text at seen.0 in
      gives_from text (Ends text (stack c.args.forms.now.items) u.outer u.done at) (Ends text gs w.outer w.done at) (2 * at + 2) (2 * at + 2) gs c.head.new.builder c.head.result ended.0 (omega arith) (subst (λ (x : List Form). Gives text (Ends text (stack x) w.outer w.done at) (2 * at + 2) (stack x) c.head.new.builder c.head.result) c.deref-in-Ok.ensures.value (c.head.ensures.gives text seen inside (lasts_calm text u w at ended.5 calm) same));
  fixes = c.head.ensures.fixes;
  opens = subst (λ (x : List Form). Opening (stack x) c.head.result) c.deref-in-Ok.ensures.value c.head.ensures.opens;
  stops =
      let at = c.args.site.at in
      let u = c.args.builder.now in
      let w = c.end_before.new.builder in
      let next = c.args.site.next in
      stops_from c.args.text.now at (NoLine at next (stack c.end_before.new.forms.items) w) (NoLine at next (stack c.args.forms.now.items) u) c.head.result (λ text k seen calm v h. (let ended = c.in-Ok.ensures.ended text at seen.0 in k seen (lasts_calm text u w at ended.5 calm) v ((ended.0 v).0 h))) (subst (λ (x : List Form). Stops c.args.text.now at (NoLine at next (stack x) w) c.head.result) c.deref-in-Ok.ensures.value c.head.ensures.stops);
  longer =
      let at = c.args.site.at in
      let w = c.end_before.new.builder in
      let ended = c.in-Ok.ensures.ended c.args.text.now at c.requires.seen.0 in
      popped_lengthens c.args.text.now c.utf8.text (stack c.args.forms.now.items) c.args.builder.now at c.requires.boundary c.args.site.next (stack c.end_before.new.forms.items) w c.head.result c.requires.seen.0 c.requires.told c.in-Ok.ensures.popped c.requires.block ended.3 ended.1 ended.2 ended.5 (subst (λ (x : List Form). Lengthens c.args.text.now stage.After (stack x) w at c.head.result) c.deref-in-Ok.ensures.value c.head.ensures.longer);
  leaves = c.head.ensures.leaves;
  again = λ starts.
      let at = c.args.site.at in
      let w = c.end_before.new.builder in
      ended_again c.args.text.now (stack c.args.forms.now.items) (stack c.end_before.new.forms.items) c.args.builder.now w at c.args.site.next c.head.result c.requires.seen.0 starts c.requires.boundary.0 (λ other i e. c.in-Ok.ensures.ended other i e) (subst (λ (x : List Form). OnSign (NoneBehind c.args.text.now (stack x) w at) c.head.result) c.deref-in-Ok.ensures.value (c.head.ensures.again starts));
}

pub returns-in-Err : goal.returns-in-Err
returns-in-Err c = line-none c.in-Err.refusal (c.in-Err.ensures.ended c.args.text.now c.args.site.at c.requires.seen.0) c.args.text.now c.args.site.at c.args.site.next (stack c.args.forms.now.items) c.args.builder.now (stack c.end_before.new.forms.items) c.end_before.new.builder

pub head-requires-clause-block : goal.head-requires-clause-block
head-requires-clause-block c = grind (arith, common_steps)

pub head-requires-clause-open : goal.head-requires-clause-open
head-requires-clause-open c = grind (arith, common_steps)

pub head-requires-clause-boundary : goal.head-requires-clause-boundary
head-requires-clause-boundary c = c.requires.boundary
