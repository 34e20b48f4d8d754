use Rattle.std.proofs.Common.{◌≡◌, ap, sym, ◌∙◌, subst, arith, None, Err}
use Rattle.literal_parser.specs.code.Parser.{Fail}
use Rattle.literal_parser.specs.code.Reads.{Reads, source, state_of}
use Rattle.guard_parser.specs.code.FileReads.{see_file_items, whole_file_at}
use Rattle.guard_parser.specs.File.{IsSpelled, IsDeadEnd}
use Rattle.guard_parser.proofs.Laws.{dead_end_at, read_exactly, read_is, file_of}
use Rattle.guard_parser.proofs.syntax.file.Goals as goal

pub returns-in-Err-Dead-clause-refusal : goal.returns-in-Err-Dead-clause-refusal
unfolding source
returns-in-Err-Dead-clause-refusal c =
    let text = c.args.tokens.text.now in let items = c.args.tokens.items.now in
    let halt : whole_file_at c.args.tokens c.args.depth (record { at = 0; places = c.new.result.items; mixed = None }) 0 ≡ Fail c.in-Err-Dead.last =
    subst (λ h. Reads see_file_items (whole_file_at c.args.tokens c.args.depth (record { at = 0; places = c.new.result.items; mixed = None }) 0) (Err h) c.whole_file.new.cursor) c.in-Err-Dead.field-0-is c.in-Err-Dead.ensures in
    let exact = read_exactly text items c.args.tokens.turns c.args.depth (let turns = c.requires.turns in let few = c.args.tokens.short in omega arith) (let few = c.args.tokens.short in omega arith) in
    let begun = sym exact ∙ ap (λ ps. whole_file_at c.args.tokens c.args.depth (record { at = 0; places = ps; mixed = None }) 0) (sym c.new.ensures.items) ∙ halt in
    subst (λ p. IsDeadEnd text items p) (sym c.from.ensures) (dead_end_at text items c.args.tokens.turns c.args.depth c.in-Err-Dead.last c.requires.turns (let few = c.args.tokens.short in omega arith) c.requires.deep begun c.requires.shallow)

pub returns-in-Some-clause-refusal : goal.returns-in-Some-clause-refusal
unfolding source
returns-in-Some-clause-refusal c =
    let text = c.args.tokens.text.now in let items = c.args.tokens.items.now in
    let exact = read_exactly text items c.args.tokens.turns c.args.depth (let turns = c.requires.turns in let few = c.args.tokens.short in omega arith) (let few = c.args.tokens.short in omega arith) in
    let begun = sym exact ∙ ap (λ ps. whole_file_at c.args.tokens c.args.depth (record { at = 0; places = ps; mixed = None }) 0) (sym c.new.ensures.items) ∙ c.in-Ok.ensures in
    let found = see_file_items c.in-Ok.found in let m = state_of c.whole_file.new.cursor in (
      c.requires.shallow,
      (
        file_of found m.places,
        subst (λ p. IsSpelled text items (file_of found m.places) p) c.in-Some.is (read_is text items c.args.tokens.turns c.args.depth found m c.whole_file.new.cursor.seen begun),
      ),
    )

pub returns-in-None-clause-ok : goal.returns-in-None-clause-ok
unfolding source
returns-in-None-clause-ok c =
    let text = c.args.tokens.text.now in let items = c.args.tokens.items.now in
    let exact = read_exactly text items c.args.tokens.turns c.args.depth (let turns = c.requires.turns in let few = c.args.tokens.short in omega arith) (let few = c.args.tokens.short in omega arith) in
    let begun = sym exact ∙ ap (λ ps. whole_file_at c.args.tokens c.args.depth (record { at = 0; places = ps; mixed = None }) 0) (sym c.new.ensures.items) ∙ c.in-Ok.ensures in
    let found = see_file_items c.in-Ok.found in let m = state_of c.whole_file.new.cursor in (
      c.requires.shallow,
      subst (λ ps. IsSpelled text items (file_of found ps) None) (sym c.new-in-None.ensures)
          (subst (λ p. IsSpelled text items (file_of found m.places) p) c.in-None.is (read_is text items c.args.tokens.turns c.args.depth found m c.whole_file.new.cursor.seen begun)),
    )
