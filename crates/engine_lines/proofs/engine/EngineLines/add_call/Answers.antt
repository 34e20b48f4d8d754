use Rattle.std.proofs.Common.{◌≡◌, ◌∙◌, ◌+◌, ◌≤◌, ◌++◌, refl, sym, ap, subst, ℕ, suc, List, [], ◌∷◌, length, map, None}
use Rattle.std.proofs.lemmas.Grind.{merely}
use Rattle.std.proofs.lemmas.Option.{slice_get_within}
use Rattle.evidence_lines.specs.declared.line.Line.{Line}
use Rattle.evidence_lines.specs.declared.line.LineKind.TheVariants as kind
use Rattle.evidence_lines.specs.declared.line.Outcome.TheVariants as says
use Rattle.guard_builtins.specs.code.Seen.{see_made}
use Rattle.guard_syntax.specs.declared.row.Row.{Row}
use Rattle.rule_meaning.specs.Seeing.{grown, rows_kept, trees_kept}
use Rattle.rule_meaning.specs.StoreModel.{made_at}
use Rattle.value_store.specs.code.Stores.{see_store}
use Rattle.engine_states.specs.code.Adding.{line_for}
use Rattle.engine_states.specs.code.Answers.{AreGiven, IsAnswerOf}
use Rattle.engine_states.proofs.CallsAdded.{is-call-added, pushed-call, still-more}
use Rattle.engine_states.proofs.MadeTrees.{none-kept}
use Rattle.engine_states.proofs.LinesNumbered.{next-number, pushed-number, some-number, within-spans}
use Rattle.engine_lines.specs.code.Lines.{see_lines}
use Rattle.engine_lines.proofs.engine.EngineLines.add_call.Goals as goal

pub answer-requires-clause-given : goal.answer-requires-clause-given
answer-requires-clause-given c =
    (c.requires.given.0, subst (λ (cs : List ℕ). AreGiven (see_lines c.args.self.now) c.args.frame c.args.site c.requires.given.0 cs) (sym c.deref.ensures.value) c.requires.given.1)

pub keep-requires-clause-free : goal.keep-requires-clause-free
keep-requires-clause-free c row =
    let s = see_lines c.args.self.now in
    let at : suc (length s.lines) ≡ c.len-number.result + 1 = sym (next-number c.len-number.result (length s.lines) c.len-number.ensures.count) in
    subst (λ (n : ℕ). made_at s.known.made n row ≡ None) at (none-kept s c.requires.whole row)

pub invariant_of-self : goal.invariant_of-self
invariant_of-self c = record {
  frames_over = c.args.self.now.frames_over;
  store_over = c.keep.ensures.file ∙ c.args.self.now.store_over;
  book_is = c.args.self.now.book_is;
  tables = c.args.self.now.tables;
  version = c.args.self.now.version;
  follows = merely (still-more (see_lines c.args.self.now) c.requires.whole (see_store c.keep.new.store) c.keep.ensures.more.0 c.keep.ensures.more.1);
}

pub line_in-line-requires : goal.line_in-line-requires
line_in-line-requires c = slice_get_within c.args.self.now.framed.items c.args.frame c.in_ok-answer.ensures.answer.at c.in_ok-answer.ensures.answer.framed

pub set-requires-clause-frame : goal.set-requires-clause-frame
set-requires-clause-frame c =
    let named = slice_get_within c.args.self.now.framed.items c.args.frame c.in_ok-answer.ensures.answer.at c.in_ok-answer.ensures.answer.framed in
    within-spans c.args.frame (length c.args.self.now.framed.items) (length c.args.self.now.parts.spans.items) named c.args.self.now.tables

pub invariant_of-self-2-clause-store_over : goal.invariant_of-self-2-clause-store_over
invariant_of-self-2-clause-store_over c = c.keep.ensures.file ∙ c.args.self.now.store_over

pub invariant_of-self-2-clause-tables : goal.invariant_of-self-2-clause-tables
invariant_of-self-2-clause-tables c = subst (λ (n : ℕ). length c.args.self.now.framed.items ≤ n) (sym c.set.ensures.frames) c.args.self.now.tables

pub invariant_of-self-2-clause-version : goal.invariant_of-self-2-clause-version
invariant_of-self-2-clause-version c = c.push.ensures.version ∙ c.args.self.now.version

pub invariant_of-self-2-clause-follows : goal.invariant_of-self-2-clause-follows
invariant_of-self-2-clause-follows c =
    let s = see_lines c.args.self.now in
    let answer = map see_made c.in_ok-answer.answer.items in
    let is : IsAnswerOf s c.args.frame c.args.site c.args.cites.items answer =
    subst (λ (cs : List ℕ). IsAnswerOf s c.args.frame c.args.site cs answer) c.deref.ensures.value c.in_ok-answer.ensures.answer in
    let at : c.len-number.result + 1 ≡ suc (length s.lines) = next-number c.len-number.result (length s.lines) c.len-number.ensures.count in
    let rows : c.new.result ≡ rows_kept (suc (length s.lines)) 0 answer = c.new.ensures ∙ c.deref-3.ensures.value ∙ c.in_ok-rows.ensures.rows ∙ ap (λ (n : ℕ). rows_kept n 0 answer) at in
    merely (pushed-call s c.requires.whole c.args.frame c.args.site c.args.cites.items answer is c.push.result (see_store c.keep.new.store) c.args.self.now.evidence c.push.new.self c.line_in-line.result
    refl (c.line_in-line.ensures is.at is.framed ∙ ap (λ (cs : List ℕ). line_for is.at c.args.site kind.Fn cs (says.Rows c.new.result)) c.deref-2.ensures.value ∙ ap (λ (rs : List Row). line_for is.at c.args.site kind.Fn c.args.cites.items (says.Rows rs)) rows)
    (c.in_ok-rows.ensures.trees ∙ ap (λ (n : ℕ). grown s.known (trees_kept n 0 answer)) at) c.push.ensures.added c.push.ensures.kept)

pub returns : goal.returns
returns c =
    let s = see_lines c.args.self.now in
    let answer = map see_made c.in_ok-answer.answer.items in
    let is : IsAnswerOf s c.args.frame c.args.site c.args.cites.items answer =
    subst (λ (cs : List ℕ). IsAnswerOf s c.args.frame c.args.site cs answer) c.deref.ensures.value c.in_ok-answer.ensures.answer in
    let at : c.len-number.result + 1 ≡ suc (length s.lines) = next-number c.len-number.result (length s.lines) c.len-number.ensures.count in
    let rows : c.new.result ≡ rows_kept (suc (length s.lines)) 0 answer = c.new.ensures ∙ c.deref-3.ensures.value ∙ c.in_ok-rows.ensures.rows ∙ ap (λ (n : ℕ). rows_kept n 0 answer) at in
    let number : c.in_ok-number.number ≡ suc (length s.lines) =
    pushed-number s.lines c.push.new.self.lines c.line_in-line.result c.in_ok-number.number c.in_ok-number.ensures.added.0 c.in_ok-number.ensures.added.1 in (
      c.new.result,
      is-call-added s c.requires.whole c.args.frame c.args.site c.args.cites.items answer is _ c.in_ok-number.number c.new.result rows c.requires.new
          (c.in_ok-rows.ensures.trees ∙ ap (λ (n : ℕ). grown s.known (trees_kept n 0 answer)) at) refl
          (c.in_ok-number.ensures.added.0 ∙ ap (λ (l : Line). s.lines ++ l ∷ []) (c.line_in-line.ensures is.at is.framed ∙ ap (λ (cs : List ℕ). line_for is.at c.args.site kind.Fn cs (says.Rows c.new.result)) c.deref-2.ensures.value)) refl number
          c.in_ok-set.ensures.line c.in_ok-set.ensures.others
          (λ n m. refl) (λ m. refl),
    )

pub set-requires-clause-line : goal.set-requires-clause-line
set-requires-clause-line c =
    some-number c.in_ok-number.number (length c.args.self.now.evidence.lines)
    (pushed-number c.args.self.now.evidence.lines c.push.new.self.lines c.line_in-line.result c.in_ok-number.number c.in_ok-number.ensures.added.0 c.in_ok-number.ensures.added.1)

pub invariant_of-self-2-clause-frames_over : goal.invariant_of-self-2-clause-frames_over
invariant_of-self-2-clause-frames_over c = c.args.self.now.frames_over

pub invariant_of-self-2-clause-book_is : goal.invariant_of-self-2-clause-book_is
invariant_of-self-2-clause-book_is c = c.args.self.now.book_is
