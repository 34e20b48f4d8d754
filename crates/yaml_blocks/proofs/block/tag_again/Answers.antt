use Rattle.std.proofs.lemmas.Grind.{common_steps}
use Rattle.std.proofs.Common.{List, false, sym, ap, subst, ◌∙◌, ◌+◌, ◌*◌, arith}
use Rattle.std.specs.Prelude.{Ok}
use Rattle.yaml_grammar.specs.declared.form.Form.{Form}
use Rattle.yaml_grammar.specs.code.Rest.{top}
use Rattle.yaml_grammar.specs.code.Steps.{stack, Ended}
use Rattle.yaml_grammar.proofs.BlockGains.{spot_of, tag_again_gives, no_tag_again}
use Rattle.yaml_grammar.specs.code.Twins.{NoValue}
use Rattle.yaml_grammar.proofs.Stopped.{last_told_stops}
use Rattle.yaml_grammar.specs.code.Steps.{is_ending}
use Rattle.yaml_grammar.specs.Signs.{Tree}
use Rattle.yaml_grammar.proofs.AwaitedNodes.{seen_place}
use Rattle.yaml_grammar.proofs.LastNodes.{tag_again_lengthens}
use Rattle.yaml_grammar.specs.declared.ahead.Token.TheVariants.{Tag}
use Rattle.yaml_grammar.proofs.ValueReads.{begins-none, value-none}
use Rattle.std.proofs.Common.{refl}
use Rattle.yaml_blocks.proofs.block.tag_again.Goals as goal

pub returns-then-is_entry_column : goal.returns-then-is_entry_column
returns-then-is_entry_column c = record {
  gives = λ text v same.
      let fs = stack c.args.forms.now.items in
      let gs = stack c.end_before.new.forms.items in
      let u = c.args.builder.now in
      let w = c.end_before.new.builder in
      let next = c.args.site.next in
      let found = c.innermost.ensures ∙ ap (λ (x : List Form). top (stack x)) c.deref.ensures.value in
      tag_again_gives text (2 * c.args.site.at + 1) fs gs u w c.args.site.form c.args.site.at c.args.len c.offset.result next v.seen.0 (spot_of text fs u c.args.site.form c.args.site.at next v, c.requires.tag, c.requires.tagged, c.requires.none, c.requires.unsigned, subst (λ z. Ended text fs z next c.args.site.at gs w (Ok tt)) c.in-Ok.ensures.2 (c.in-Ok-end_before.ensures.ended text c.args.site.at v.seen.0)) c.offset.ensures (sym found ∙ c.is_entry_column.ensures.yes c.if-is_entry_column.true);
  fixes = tt;
  opens = tt;
  stops = tt;
  longer = tt;
  extends = tt;
  again = λ starts. absurd (begins-none c.args.site.next.token (Tag c.args.len) c.requires.tag refl starts);
}

pub returns : goal.returns
returns c = record {
  gives = λ text v same.
      let fs = stack c.args.forms.now.items in
      let gs = stack c.end_before.new.forms.items in
      let u = c.args.builder.now in
      let w = c.end_before.new.builder in
      let next = c.args.site.next in
      let found = c.innermost.ensures ∙ ap (λ (x : List Form). top (stack x)) c.deref.ensures.value in
      no_tag_again text fs gs u w c.args.site.form c.args.site.at c.args.len next v.seen.0 (spot_of text fs u c.args.site.form c.args.site.at next v, c.requires.tag, c.requires.tagged, c.requires.none, c.requires.unsigned, subst (λ z. Ended text fs z next c.args.site.at gs w (Ok tt)) c.in-Ok.ensures.2 (c.in-Ok-end_before.ensures.ended text c.args.site.at v.seen.0)) (λ h. c.is_entry_column.ensures.no c.if-is_entry_column.false (found ∙ h));
  fixes = tt;
  opens = tt;
  stops =
      let fs = stack c.args.forms.now.items in
      let gs = stack c.end_before.new.forms.items in
      let u = c.args.builder.now in
      let w = c.end_before.new.builder in
      let next = c.args.site.next in
      let found = c.innermost.ensures ∙ ap (λ (x : List Form). top (stack x)) c.deref.ensures.value in
      last_told_stops c.args.text.now c.args.site.at (NoValue c.args.site.at c.args.site.next c.args.site.form (stack c.args.forms.now.items) c.args.builder.now) false next c.last_told.result c.requires.awaited.seen.0 (ap is_ending c.requires.tag) c.last_told.ensures (λ text v r h. no_tag_again text fs gs u w c.args.site.form c.args.site.at c.args.len next v.seen.0 (spot_of text fs u c.args.site.form c.args.site.at next v, c.requires.tag, c.requires.tagged, c.requires.none, c.requires.unsigned, subst (λ z. Ended text fs z next c.args.site.at gs w (Ok tt)) c.in-Ok.ensures.2 (c.in-Ok-end_before.ensures.ended text c.args.site.at v.seen.0)) (λ k. c.is_entry_column.ensures.no c.if-is_entry_column.false (found ∙ k)) (Tree r) h);
  longer = tag_again_lengthens c.args.text.now c.utf8.text (stack c.args.forms.now.items) c.args.builder.now c.args.site.at c.requires.awaited.boundary c.args.site.form c.args.site.next c.last_told.result c.requires.awaited c.args.len c.requires.tag c.requires.tagged c.requires.unsigned c.last_told.ensures;
  extends = tt;
  again = λ starts. absurd (begins-none c.args.site.next.token (Tag c.args.len) c.requires.tag refl starts);
}

pub returns-in-Err-end_before : goal.returns-in-Err-end_before
returns-in-Err-end_before c = value-none c.in-Err-end_before.refusal (c.in-Err-end_before.ensures.ended c.args.text.now c.args.site.at c.requires.awaited.seen.0) c.args.text.now c.args.site.at c.args.site.next (stack c.args.forms.now.items) c.args.builder.now (stack c.end_before.new.forms.items) c.end_before.new.builder c.args.site.form

pub returns-in-Err : goal.returns-in-Err
returns-in-Err c = value-none c.in-Err.refusal c.in-Err.ensures c.args.text.now c.args.site.at c.args.site.next (stack c.args.forms.now.items) c.args.builder.now (stack c.args.forms.now.items) c.take_null.new.builder c.args.site.form

pub end_before-requires-clause-block : goal.end_before-requires-clause-block
end_before-requires-clause-block c = grind (arith, common_steps)

pub end_before-requires-clause-open : goal.end_before-requires-clause-open
end_before-requires-clause-open c = grind (arith, common_steps)

pub last_told-requires-clause-within : goal.last_told-requires-clause-within
last_told-requires-clause-within c = seen_place c.args.text.now c.args.site.at c.args.site.next c.requires.awaited.seen
