use Rattle.std.proofs.Common.{◌∷◌, ◌++◌, [], ap, refl, ◌∙◌, length, subst, sym}
use Rattle.std.proofs.lemmas.Option.{slice_get_within}
use Rattle.evidence_lines.specs.declared.line.LineKind.TheVariants as kind
use Rattle.evidence_lines.specs.declared.line.Outcome.TheVariants as says
use Rattle.engine_states.specs.code.Adding.{line_for}
use Rattle.engine_states.proofs.AddedLines.{is-rule-added}
use Rattle.engine_lines.specs.code.Beside.{beside_in}
use Rattle.engine_lines.specs.code.Lines.{lines_in, part_in, see_lines}
use Rattle.engine_lines.proofs.RuleTables.{table-set}
use Rattle.evidence_lines.specs.declared.line.Line.{Line}
use Rattle.evidence_lines.specs.declared.version.Version.TheVariants.{Two}
use Rattle.evidence_rules.specs.Follows.{Follows}
use Rattle.engine_states.proofs.LinesNumbered.{some-number}
use Rattle.engine_lines.proofs.engine.EngineLines.add_rule.Goals as goal

pub line_in-line-requires : goal.line_in-line-requires
line_in-line-requires c = slice_get_within c.args.self.now.framed.items c.args.frame c.requires.adds.at c.requires.adds.framed

pub returns : goal.returns
returns c =
    let s = see_lines c.args.self.now in
    let set = table-set c.add_line.new.self.rules c.set.new.self c.args.site c.in_ok-number.number c.in_ok-set.ensures.ok in
    is-rule-added s c.requires.whole c.args.frame c.args.site kind.Rule c.args.cites.items (says.Verdict c.args.verdict) c.requires.adds _ c.in_ok-number.number refl c.requires.new
    c.add_line.ensures.store c.add_line.ensures.frames
    (c.in_ok-number.ensures.added.0 ∙ ap (λ l. c.args.self.now.evidence.lines ++ l ∷ []) (c.line_in-line.ensures c.requires.adds.at c.requires.adds.framed ∙ ap (λ cs. line_for c.requires.adds.at c.args.site kind.Rule cs (says.Verdict c.args.verdict)) c.deref.ensures.value))
    c.add_line.ensures.framed c.in_ok-number.ensures.added.1
    set.0 (λ m other. set.1 m other ∙ ap (λ t. lines_in t m) c.add_line.ensures.rules)
    (λ n m. ap (λ t. part_in t n m) c.add_line.ensures.parts) (λ n m. ap (λ b. beside_in b.entries n m) c.add_line.ensures.beside)

pub add_line-requires-clause-before : goal.add_line-requires-clause-before
add_line-requires-clause-before c = c.requires.whole.follow

pub add_line-requires-clause-follows : goal.add_line-requires-clause-follows
add_line-requires-clause-follows c =
    let s = see_lines c.args.self.now in
    let line = c.line_in-line.ensures c.requires.adds.at c.requires.adds.framed ∙ ap (λ cs. line_for c.requires.adds.at c.args.site kind.Rule cs (says.Verdict c.args.verdict)) c.deref.ensures.value in
    subst (λ (l : Line). Follows Two s.known s.lines l []) (sym line) c.requires.adds.follows

pub invariant_of-self : goal.invariant_of-self
invariant_of-self c = record {
  frames_over = c.add_line.new.self.frames_over;
  store_over = c.add_line.new.self.store_over;
  book_is = c.add_line.new.self.book_is;
  tables = c.add_line.new.self.tables;
  version = c.add_line.new.self.version;
  follows = c.add_line.new.self.follows;
}

pub set-requires : goal.set-requires
set-requires c = some-number c.in_ok-number.number (length c.args.self.now.evidence.lines) c.in_ok-number.ensures.added.1
