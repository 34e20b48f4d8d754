use Rattle.std.proofs.Common.{sym, ap, ◌∙◌, subst}
use Rattle.rule_meaning.specs.StoreModel.{StoreModel}
use Rattle.engine_states.specs.code.States.{State, StillFollows}
use Rattle.engine_states.proofs.KeptStores.{same-store}
use Rattle.engine_lines.specs.code.Lines.{see_lines}
use Rattle.engine_lines.proofs.engine.EngineLines.keep_literal.Goals as goal

pub invariant_of-self-clause-store_over : goal.invariant_of-self-clause-store_over
invariant_of-self-clause-store_over c = c.keep_literal.ensures.file ∙ c.args.self.now.store_over

pub invariant_of-self-clause-follows : goal.invariant_of-self-clause-follows
invariant_of-self-clause-follows c =
    let same = same-store c.keep_literal.new.self c.args.self.now.store c.keep_literal.ensures.doc c.keep_literal.ensures.file c.keep_literal.ensures.made in
    subst (λ (k : StoreModel). ∥ StillFollows k c.args.self.now.evidence.lines ∥₁) (sym same) c.args.self.now.follows

pub returns : goal.returns
returns c =
    let s = see_lines c.args.self.now in
    ap (λ (k : StoreModel). let t : State = record { known = k; frames = s.frames; lines = s.lines; framed = s.framed; parts = s.parts; beside = s.beside; rules = s.rules } in t)
    (same-store c.keep_literal.new.self c.args.self.now.store c.keep_literal.ensures.doc c.keep_literal.ensures.file c.keep_literal.ensures.made)
