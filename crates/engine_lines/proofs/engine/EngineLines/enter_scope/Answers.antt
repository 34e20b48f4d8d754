use Rattle.std.proofs.Common.{◌<◌, ◌≤◌, ◌∷◌, ◌++◌, [], ap, refl, sym, subst, ◌∙◌, ℕ, length, slice_get}
use Rattle.rule_names.specs.code.Files.{file_of}
use Rattle.scope_frames.specs.code.Frames.{AreEntered}
use Rattle.scope_frames.specs.declared.frame.Frame.{Frame}
use Rattle.engine_states.proofs.EnteredLines.{enter-follows, enter-frame, enter-has, enter-known, found-entered, is-first-entered, is-new, may-framed, new-alone, new-number, same-frames, was-there}
use Rattle.engine_states.proofs.LinesNumbered.{not-within, still-room}
use Rattle.engine_lines.specs.code.Beside.{beside_in}
use Rattle.engine_lines.specs.code.Lines.{lines_in, part_in, see_lines}
use Rattle.engine_lines.proofs.engine.EngineLines.enter_scope.Goals as goal

pub returns-then-number-len : goal.returns-then-number-len
returns-then-number-len c =
    let s = see_lines c.args.self.now in
    let frame : Frame = record { parent = c.args.parent; site = c.args.site; current = c.args.current } in
    let less : c.in_ok-number.number < length s.framed = subst (λ (n : ℕ). c.in_ok-number.number < n) (c.len.ensures ∙ c.args.self.now.framed.ok.0) c.if-number-len.true in
    let same = was-there s.frames c.enter.new.self.entered.keys frame c.in_ok-number.number (length s.framed) c.requires.whole.counted c.in_ok-number.ensures.entered less in
    found-entered s _ c.requires.whole (same-frames s _ refl same refl refl refl refl refl) frame c.in_ok-number.number
    (sym (ap (λ fs. slice_get fs c.in_ok-number.number) same) ∙ c.in_ok-number.ensures.entered.0)

pub frame_line-line-requires : goal.frame_line-line-requires
frame_line-line-requires c = may-framed (see_lines c.args.self.now) c.requires.whole c.args.parent c.args.site c.requires.scope

pub add_line-requires-clause-follows : goal.add_line-requires-clause-follows
add_line-requires-clause-follows c =
    enter-follows (see_lines c.args.self.now) c.requires.whole c.args.site c.args.current c.frame_line-line.result c.args.parent c.requires.scope c.requires.value c.frame_line-line.ensures

pub returns : goal.returns
returns c =
    let s = see_lines c.args.self.now in
    let frame : Frame = record { parent = c.args.parent; site = c.args.site; current = c.args.current } in
    let over = c.args.self.now.frames_over ∙ sym c.args.self.now.store_over in
    let beyond : length s.framed ≤ c.in_ok-number.number = subst (λ (n : ℕ). n ≤ c.in_ok-number.number) (c.len.ensures ∙ c.args.self.now.framed.ok.0) c.if-number-len.false in
    let past : c.in_ok-number.number < length s.framed → ⊥ = not-within c.in_ok-number.number (length s.framed) beyond in
    let more = is-new s.frames c.enter.new.self.entered.keys frame c.in_ok-number.number (length s.framed) c.requires.whole.counted c.in_ok-number.ensures.entered past in
    is-first-entered s _ c.requires.whole frame c.frame_line-line.result c.in_ok-number.number
    (enter-follows s c.requires.whole c.args.site c.args.current c.frame_line-line.result c.args.parent c.requires.scope c.requires.value c.frame_line-line.ensures)
    (enter-known s c.requires.whole c.args.site c.args.current c.frame_line-line.result c.args.parent c.requires.value c.frame_line-line.ensures)
    (enter-frame s c.requires.whole c.args.site c.args.current c.frame_line-line.result c.args.parent c.frame_line-line.ensures)
    (enter-has s c.requires.whole c.args.site c.args.current c.frame_line-line.result c.args.parent c.requires.value c.frame_line-line.ensures)
    (subst (λ fs. AreEntered s.known.file fs) more
    (subst (λ f. AreEntered (file_of f) c.enter.new.self.entered.keys) over (c.enter.ensures.sound (subst (λ f. AreEntered (file_of f) s.frames) (sym over) c.requires.whole.entered))))
    (new-alone s.frames c.enter.new.self.entered.keys frame c.in_ok-number.number (length s.framed) c.requires.whole.counted c.in_ok-number.ensures.entered past)
    (new-number s.frames c.enter.new.self.entered.keys frame c.in_ok-number.number (length s.framed) c.requires.whole.counted c.in_ok-number.ensures.entered past)
    c.add_line.ensures.store (c.add_line.ensures.frames ∙ more) c.in_ok-line.ensures.added.0
    (c.in_ok-push.ensures.items ∙ ap (λ ns. ns ++ c.in_ok-line.line ∷ []) c.add_line.ensures.framed ∙ ap (λ n. s.framed ++ n ∷ []) c.in_ok-line.ensures.added.1)
    (λ n m. ap (λ t. part_in t n m) c.add_line.ensures.parts ∙ c.add_frame.ensures.lines n m)
    (λ n m. ap (λ b. beside_in b.entries n m) c.add_line.ensures.beside) (λ m. ap (λ t. lines_in t m) c.add_line.ensures.rules)

pub invariant_of-self : goal.invariant_of-self
invariant_of-self c = record {
  frames_over = c.enter.ensures.file ∙ c.args.self.now.frames_over;
  store_over = c.args.self.now.store_over;
  book_is = c.args.self.now.book_is;
  tables = c.args.self.now.tables;
  version = c.args.self.now.version;
  follows = c.args.self.now.follows;
}

pub invariant_of-self-2 : goal.invariant_of-self-2
invariant_of-self-2 c = record {
  frames_over = c.enter.ensures.file ∙ c.args.self.now.frames_over;
  store_over = c.args.self.now.store_over;
  book_is = c.args.self.now.book_is;
  tables = still-room (length c.args.self.now.framed.items) (length c.args.self.now.parts.spans.items) (length c.add_frame.new.self.spans.items) c.args.self.now.tables c.add_frame.ensures.frames;
  version = c.args.self.now.version;
  follows = c.args.self.now.follows;
}
