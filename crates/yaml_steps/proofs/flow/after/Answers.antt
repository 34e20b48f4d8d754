use Rattle.std.proofs.Common.{true, refl, sym, subst, ◌∙◌}
use Rattle.yaml_grammar.specs.declared.ahead.Ahead.{Ahead}
use Rattle.yaml_grammar.specs.declared.stage.Stage.TheVariants as stage
use Rattle.yaml_grammar.specs.code.Steps.{stack, IsSeen}
use Rattle.yaml_grammar.proofs.Gains.{closed_after_gives, comma_gives, marked_after_gives, none_follows}
use Rattle.yaml_grammar.proofs.Fixed.{closed_seen, comma_seen}
use Rattle.yaml_grammar.proofs.Stopped.{closed_stops}
use Rattle.yaml_grammar.specs.code.Twins.{NoTail}
use Rattle.yaml_grammar.specs.Ahead.{ahead}
use Rattle.yaml_grammar.proofs.Fed.{closed_fed, comma_fed}
use Rattle.yaml_grammar.proofs.FlowLengthens.{flow_stops, closed_on, after_lengthens}
use Rattle.yaml_grammar.specs.code.Twins.{LengthensAt}
use Rattle.yaml_grammar.proofs.Extended.{closed_shuts, entry_shuts}
use Rattle.yaml_steps.proofs.flow.after.Goals as goal

pub returns-then-closes : goal.returns-then-closes
returns-then-closes c = record {
  gives = λ text seen.
      let now = subst (λ (a : Ahead). IsSeen text true c.args.at a) (sym c.look-next.ensures.0) seen in
      closed_after_gives text c.args.map (stack c.args.forms.now.items) (stack c.close.new.forms.items) c.args.builder.now c.close.new.builder c.args.at c.look-next.result c.close.result now (c.closes.ensures.yes c.if-closes.true) c.requires.form c.requires.open c.close.ensures;
  fixes = closed_seen c.args.text.now c.args.at c.args.map c.look-next.result (stack c.args.forms.now.items) (stack c.close.new.forms.items) c.args.builder.now c.close.new.builder c.close.result c.look-next.ensures (c.closes.ensures.yes c.if-closes.true) c.close.ensures;
  feeds = closed_fed c.args.text.now c.args.at c.look-next.result c.look-next.ensures c.requires.boundary c.args.map (stack c.args.forms.now.items) (stack c.close.new.forms.items) c.args.builder.now c.close.new.builder c.close.result (c.closes.ensures.yes c.if-closes.true) c.close.ensures;
  shuts = closed_shuts c.args.text.now c.args.at c.args.map c.look-next.result (stack c.args.forms.now.items) (stack c.close.new.forms.items) c.args.builder.now c.close.new.builder c.close.result c.look-next.ensures (c.closes.ensures.yes c.if-closes.true) c.close.ensures;
  stops =
      let fs = stack c.args.forms.now.items in
      let u = c.args.builder.now in
      closed_stops c.args.text.now c.args.at (NoTail c.args.at (ahead c.args.text.now true c.args.at) fs u) c.look-next.result.behind fs (stack c.close.new.forms.items) u c.close.new.builder c.close.result c.close.ensures;
  longer = closed_on (LengthensAt c.args.text.now stage.After (stack c.args.forms.now.items) c.args.builder.now c.args.at) c.look-next.result.behind (stack c.args.forms.now.items) (stack c.close.new.forms.items) c.args.builder.now c.close.new.builder c.close.result c.close.ensures;
}

pub returns-then-is_marked : goal.returns-then-is_marked
returns-then-is_marked c = record {
  gives = λ text seen.
      let now = subst (λ (a : Ahead). IsSeen text true c.args.at a) (sym c.look-next.ensures.0) seen in
      marked_after_gives text c.args.map (stack c.args.forms.now.items) c.args.builder.now c.args.at c.offset.result c.look-next.result now.0 c.offset.ensures (sym c.is_marked.ensures ∙ c.if-is_marked.true) c.requires.form c.requires.open;
  fixes = tt;
  feeds = tt;
  shuts = tt;
  stops = tt;
  longer = tt;
}

pub returns-in-Comma : goal.returns-in-Comma
returns-in-Comma c = record {
  gives = λ text seen.
      let now = subst (λ (a : Ahead). IsSeen text true c.args.at a) (sym c.look-next.ensures.0) seen in
      comma_gives text c.args.map (stack c.args.forms.now.items) c.args.builder.now c.args.at c.look-next.result (record { stage = stage.Entry; at = c.look-next.result.behind }) now c.in-Comma.is c.requires.form c.requires.open c.requires.awaited refl refl;
  fixes = comma_seen c.args.text.now c.args.at c.look-next.result (record { stage = stage.Entry; at = c.look-next.result.behind }) c.look-next.ensures c.in-Comma.is refl refl;
  feeds = comma_fed c.args.text.now c.args.at c.look-next.result c.look-next.ensures c.requires.boundary (record { stage = stage.Entry; at = c.look-next.result.behind }) c.in-Comma.is;
  shuts = entry_shuts c.args.text.now c.args.at (stack c.args.forms.now.items) (record { stage = stage.Entry; at = c.look-next.result.behind }) refl;
  stops = tt;
  longer = tt;
}

pub returns-in_default : goal.returns-in_default
returns-in_default c = record {
  gives = λ text seen.
      let now = subst (λ (a : Ahead). IsSeen text true c.args.at a) (sym c.look-next.ensures.0) seen in
      none_follows text c.args.map (stack c.args.forms.now.items) c.args.builder.now.outer c.args.builder.now.done c.args.at c.look-next.result now.0 c.in_default.not-Comma (c.closes.ensures.no c.if-closes.false) (sym c.is_marked.ensures ∙ c.if-is_marked.false) c.requires.form c.requires.open.0;
  fixes = tt;
  feeds = tt;
  shuts = tt;
  stops =
      let fs = stack c.args.forms.now.items in
      let u = c.args.builder.now in
      flow_stops c.args.text.now c.args.at (NoTail c.args.at (ahead c.args.text.now true c.args.at) fs u) c.look-next.result c.flow_place.result c.look-next.ensures.0 c.flow_place.ensures (λ text told seen v h. (let now = subst (λ (a : Ahead). IsSeen text true c.args.at a) (sym c.look-next.ensures.0) seen in none_follows text c.args.map fs u.outer u.done c.args.at c.look-next.result now.0 c.in_default.not-Comma (c.closes.ensures.no c.if-closes.false) (sym c.is_marked.ensures ∙ c.if-is_marked.false) c.requires.form c.requires.open.0 v h));
  longer = after_lengthens c.args.text.now c.utf8.text (stack c.args.forms.now.items) c.args.builder.now c.args.at c.requires.boundary c.args.map c.look-next.result c.flow_place.result c.look-next.ensures.0 c.requires.form c.requires.open c.requires.awaited c.in_default.not-Comma (c.closes.ensures.no c.if-closes.false) (sym c.is_marked.ensures ∙ c.if-is_marked.false) c.flow_place.ensures;
}
