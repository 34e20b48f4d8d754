use Rattle.std.proofs.Common.{◌<◌, ◌≤◌, ◌∷◌, ◌++◌, [], ap, ◌∙◌, ℕ, List, length, subst, sym}
use Rattle.std.proofs.lemmas.Option.{slice_get_within}
use Rattle.engine_states.specs.code.Adding.{line_for}
use Rattle.engine_states.proofs.AddedLines.{is-part-added}
use Rattle.engine_lines.specs.code.Beside.{beside_in}
use Rattle.engine_lines.specs.code.Lines.{lines_in, part_in, see_lines}
use Rattle.evidence_lines.specs.declared.line.Line.{Line}
use Rattle.evidence_lines.specs.declared.version.Version.TheVariants.{Two}
use Rattle.evidence_rules.specs.Follows.{Follows}
use Rattle.engine_states.proofs.LinesNumbered.{within-spans}
use Rattle.engine_lines.proofs.engine.EngineLines.add.Goals as goal

pub line_in-line-requires : goal.line_in-line-requires
line_in-line-requires c = slice_get_within c.args.self.now.framed.items c.args.place.frame c.requires.adds.at c.requires.adds.framed

pub set-requires-clause-frame : goal.set-requires-clause-frame
set-requires-clause-frame c =
    let named = slice_get_within c.args.self.now.framed.items c.args.place.frame c.requires.adds.at c.requires.adds.framed in
    within-spans c.args.place.frame (length c.add_line.new.self.framed.items) (length c.add_line.new.self.parts.spans.items)
    (subst (λ (ns : List ℕ). c.args.place.frame < length ns) (sym c.add_line.ensures.framed) named) c.add_line.new.self.tables

pub returns : goal.returns
returns c =
    let s = see_lines c.args.self.now in
    is-part-added s c.requires.whole c.args.place.frame c.args.place.site c.args.kind c.args.cites.items c.args.outcome c.requires.adds _ c.in_ok-number.number c.requires.kind c.requires.new
    c.add_line.ensures.store c.add_line.ensures.frames
    (c.in_ok-number.ensures.added.0 ∙ ap (λ l. c.args.self.now.evidence.lines ++ l ∷ []) (c.line_in-line.ensures c.requires.adds.at c.requires.adds.framed ∙ ap (λ cs. line_for c.requires.adds.at c.args.place.site c.args.kind cs c.args.outcome) c.deref.ensures.value))
    c.add_line.ensures.framed c.in_ok-number.ensures.added.1
    c.in_ok-set.ensures.line (λ n m other. c.in_ok-set.ensures.others n m other ∙ ap (λ t. part_in t n m) c.add_line.ensures.parts)
    (λ n m. ap (λ b. beside_in b.entries n m) c.add_line.ensures.beside) (λ m. ap (λ t. lines_in t m) c.add_line.ensures.rules)

pub add_line-requires-clause-before : goal.add_line-requires-clause-before
add_line-requires-clause-before c = c.requires.whole.follow

pub add_line-requires-clause-follows : goal.add_line-requires-clause-follows
add_line-requires-clause-follows c =
    let s = see_lines c.args.self.now in
    let line = c.line_in-line.ensures c.requires.adds.at c.requires.adds.framed ∙ ap (λ cs. line_for c.requires.adds.at c.args.place.site c.args.kind cs c.args.outcome) c.deref.ensures.value in
    subst (λ (l : Line). Follows Two s.known s.lines l []) (sym line) c.requires.adds.follows

pub invariant_of-self : goal.invariant_of-self
invariant_of-self c = record {
  frames_over = c.add_line.new.self.frames_over;
  store_over = c.add_line.new.self.store_over;
  book_is = c.add_line.new.self.book_is;
  tables = subst (λ (n : ℕ). length c.add_line.new.self.framed.items ≤ n) (sym c.set.ensures.frames) c.add_line.new.self.tables;
  version = c.add_line.new.self.version;
  follows = c.add_line.new.self.follows;
}
