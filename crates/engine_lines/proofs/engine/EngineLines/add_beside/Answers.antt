use Rattle.std.proofs.Common.{◌≡◌, ◌∷◌, ◌++◌, [], ap, ◌∙◌, None, subst, sym}
use Rattle.std.proofs.lemmas.Option.{slice_get_within}
use Rattle.indexmap.proofs.CallerLemmas.{insert_entry-new}
use Rattle.engine_states.specs.code.Adding.{line_for}
use Rattle.engine_states.proofs.AddedLines.{is-beside-added}
use Rattle.engine_lines.specs.code.Beside.{beside_in}
use Rattle.engine_lines.specs.code.Lines.{lines_in, part_in, see_lines}
use Rattle.engine_lines.specs.contracts.place.PlacePartialEq.TheImpl.{eq-value}
use Rattle.engine_lines.proofs.BesideTables.{beside-none, inserted}
use Rattle.evidence_lines.specs.declared.line.Line.{Line}
use Rattle.evidence_lines.specs.declared.version.Version.TheVariants.{Two}
use Rattle.evidence_rules.specs.Follows.{Follows}
use Rattle.engine_lines.proofs.engine.EngineLines.add_beside.Goals as goal

pub line_in-line-requires : goal.line_in-line-requires
line_in-line-requires c = slice_get_within c.args.self.now.framed.items c.args.place.frame c.requires.adds.at c.requires.adds.framed

pub returns : goal.returns
returns c =
    let s = see_lines c.args.self.now in
    let none : beside_in c.add_line.new.self.beside.entries c.args.place.frame c.args.place.site ≡ None = ap (λ m. beside_in m.entries c.args.place.frame c.args.place.site) c.add_line.ensures.beside ∙ c.requires.new in
    let more = c.in_ok-insert.ensures.entries ∙ insert_entry-new eq-value.it c.add_line.new.self.beside c.args.place c.in_ok-number.number (beside-none c.args.place.frame c.args.place.site c.add_line.new.self.beside.entries none) in
    let given = inserted c.args.place.frame c.args.place.site c.in_ok-number.number c.add_line.new.self.beside.entries c.insert.new.self.entries none more in
    is-beside-added s c.requires.whole c.args.place.frame c.args.place.site c.args.kind c.args.cites.items c.args.outcome c.requires.adds _ c.in_ok-number.number c.requires.kind c.requires.new
    c.add_line.ensures.store c.add_line.ensures.frames
    (c.in_ok-number.ensures.added.0 ∙ ap (λ l. c.args.self.now.evidence.lines ++ l ∷ []) (c.line_in-line.ensures c.requires.adds.at c.requires.adds.framed ∙ ap (λ cs. line_for c.requires.adds.at c.args.place.site c.args.kind cs c.args.outcome) c.deref.ensures.value))
    c.add_line.ensures.framed c.in_ok-number.ensures.added.1
    given.0 (λ n m other. given.1 n m other ∙ ap (λ b. beside_in b.entries n m) c.add_line.ensures.beside)
    (λ n m. ap (λ t. part_in t n m) c.add_line.ensures.parts) (λ m. ap (λ t. lines_in t m) c.add_line.ensures.rules)

pub add_line-requires-clause-before : goal.add_line-requires-clause-before
add_line-requires-clause-before c = c.requires.whole.follow

pub add_line-requires-clause-follows : goal.add_line-requires-clause-follows
add_line-requires-clause-follows c =
    let s = see_lines c.args.self.now in
    let line = c.line_in-line.ensures c.requires.adds.at c.requires.adds.framed ∙ ap (λ cs. line_for c.requires.adds.at c.args.place.site c.args.kind cs c.args.outcome) c.deref.ensures.value in
    subst (λ (l : Line). Follows Two s.known s.lines l []) (sym line) c.requires.adds.follows

pub invariant_of-self : goal.invariant_of-self
invariant_of-self c = record {
  frames_over = c.add_line.new.self.frames_over;
  store_over = c.add_line.new.self.store_over;
  book_is = c.add_line.new.self.book_is;
  tables = c.add_line.new.self.tables;
  version = c.add_line.new.self.version;
  follows = c.add_line.new.self.follows;
}
