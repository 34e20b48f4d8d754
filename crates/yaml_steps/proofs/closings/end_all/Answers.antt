use Rattle.yaml_grammar.specs.code.Steps.{stack}
use Rattle.yaml_grammar.proofs.Stacks.{stack_grown}
use Rattle.yaml_grammar.proofs.BlockGains.{may_end, ended_one, closed_alike, then_alike}
use Rattle.yaml_steps.proofs.closings.end_all.Goals as goal

pub end-requires : goal.end-requires
end-requires c =
    let e = stack_grown c.loop-builder.forms.items c.pop.new.self.items c.in-Some.field-0 c.in-Some.ensures.items in
    record { awaited = may_end c.in-Some.field-0 (stack c.loop-builder.forms.items) (stack c.pop.new.self.items) c.loop-builder.builder e c.loop-builder.invariant.0 }

pub loop-builder-preserved : goal.loop-builder-preserved
loop-builder-preserved c =
    let e = stack_grown c.loop-builder.forms.items c.pop.new.self.items c.in-Some.field-0 c.in-Some.ensures.items in
    let old = stack c.loop-builder.forms.items in
    let gs = stack c.pop.new.self.items in
    let s = c.loop-builder.invariant.0 in (
      ended_one c.in-Some.field-0 old gs c.loop-builder.builder c.end.new.self e c.in-Ok.ensures.ok s,
      (λ other end. then_alike other c.args.at (stack c.args.forms.now.items) old gs c.args.builder.now c.loop-builder.builder c.end.new.self (c.loop-builder.invariant.1 other end)
          (closed_alike other c.args.at c.in-Some.field-0 old gs c.loop-builder.builder c.end.new.self end e c.in-Ok.ensures.ok s)),
    )
