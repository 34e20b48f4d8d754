use Rattle.std.proofs.Common.{◌≡◌, ◌∙◌, ◌++◌, sym, ap, ℕ, List, [], ◌∷◌, Some}
use Rattle.std.proofs.lemmas.Option.{none-some}
use Rattle.std.proofs.lemmas.Result.{IfOk-weaker}
use Rattle.evidence_lines.specs.declared.line.LineKind.TheVariants as kind
use Rattle.guard_syntax.specs.Syntax.{File}
use Rattle.rule_names.specs.Resolution.{target_of}
use Rattle.rule_names.specs.code.Files.{file_of}
use Rattle.engine_states.proofs.PartsAdded.{reference-adds, reference-answers, reference-kind, rule-line, rule-said, target-there}
use Rattle.engine_lines.specs.code.Lines.{see_lines}
use Rattle.engine_lines.proofs.engine.EngineLines.reference.Goals as goal

pub unreachable-requires : goal.unreachable-requires
unreachable-requires c =
    let it = target-there (see_lines c.args.self.now) c.requires.whole c.args.self.now.store.file.now.named c.args.self.now.store.file.now.sites c.args.frame c.args.site c.args.not c.requires.stands in
    none-some it.0 (c.in_default.ensures ∙ sym (ap (λ (f : File). target_of f c.args.site) (ap file_of c.args.self.now.store_over)) ∙ it.1)

pub unreachable-requires-in_default-found_rule : goal.unreachable-requires-in_default-found_rule
unreachable-requires-in_default-found_rule c =
    let s = see_lines c.args.self.now in
    let names : target_of s.known.file c.args.site ≡ Some c.in-Some.target = ap (λ (f : File). target_of f c.args.site) (ap file_of c.args.self.now.store_over) ∙ sym c.in-Some.ensures in
    let it = rule-line s c.requires.whole c.args.self.now.store.file.now.named c.args.self.now.store.file.now.sites c.args.frame c.args.site c.args.not c.requires.stands c.in-Some.target names in
    none-some it.0 (c.in_default-found_rule.ensures ∙ it.1)

pub verdict_said-requires : goal.verdict_said-requires
verdict_said-requires c =
    let it =
    rule-said (see_lines c.args.self.now) c.requires.whole c.args.self.now.store.file.now.named c.args.self.now.store.file.now.sites c.args.frame c.args.site c.args.not c.requires.stands c.in-Some.target
    c.in-Some-found_rule.rule (sym c.in-Some-found_rule.ensures) in
    (kind.Rule, it.0, c.in-Some.target, it.1, it.2)

pub add_verdict-requires-clause-kind : goal.add_verdict-requires-clause-kind
add_verdict-requires-clause-kind c =
    reference-kind (see_lines c.args.self.now) c.requires.whole c.args.self.now.store.file.now.named c.args.self.now.store.file.now.sites c.args.frame c.args.site c.args.not c.requires.stands

pub add_verdict-requires-clause-adds : goal.add_verdict-requires-clause-adds
add_verdict-requires-clause-adds c =
    let s = see_lines c.args.self.now in
    let names : target_of s.known.file c.args.site ≡ Some c.in-Some.target = ap (λ (f : File). target_of f c.args.site) (ap file_of c.args.self.now.store_over) ∙ sym c.in-Some.ensures in
    reference-adds s c.requires.whole c.args.self.now.store.file.now.named c.args.self.now.store.file.now.sites c.args.frame c.args.site c.args.not c.requires.stands c.in-Some.target
    c.in-Some-found_rule.rule names (sym c.in-Some-found_rule.ensures) c.verdict_said.result c.verdict_said.ensures c.push.new.self.items
    (c.in_ok-push.ensures.items ∙ ap (λ (cs : List ℕ). cs ++ c.in-Some-found_rule.rule ∷ []) c.new-lines.ensures.items) c.refer_to-verdict.result c.refer_to-verdict.ensures

pub returns : goal.returns
returns c =
    IfOk-weaker c.add_verdict.result _ _
    (λ said it.
    reference-answers (see_lines c.args.self.now) c.requires.whole c.args.self.now.store.file.now.named c.args.self.now.store.file.now.sites c.args.frame c.args.site c.args.not c.requires.stands
    (see_lines c.add_verdict.new.self) c.push.new.self.items c.refer_to-verdict.result said.verdict said.line it.0 it.1)
    c.add_verdict.ensures
