use Rattle.std.proofs.Common.{◌≡◌, ℕ, ◌+◌, ◌<◌, List, length, inl, inr, refl, sym, ap, ◌∙◌, subst, arith}
use Rattle.std.specs.Prelude.{Result, Err}
use Rattle.yaml_scalars.specs.Lines.{ends_with}
use Rattle.yaml_grammar.specs.declared.stop.Stop.{Stop}
use Rattle.yaml_grammar.specs.declared.stop.Stop.TheVariants.{NoMemory, Unread}
use Rattle.yaml_grammar.specs.Places.{IsSyntax}
use Rattle.yaml_grammar.specs.code.Places.{IsSyntaxStop, StopsAt}
use Rattle.yaml_grammar.specs.code.Refused.{IsStopped}
use Rattle.yaml_grammar.proofs.ReadTwice.{ends_front, unread_unbegun}
use Rattle.yaml_blocks.proofs.twice.read_placed.Goals as goal

-- a place is no want of memory
unread_kept : {T : Type 0} (r : Result T Stop) (at : ℕ) → r ≡ Err (Unread at) → r ≡ Err NoMemory → ⊥
unread_kept r at h k = cc

-- a place in front of the last byte is dead
dead_within : (text : List ℕ) (at : ℕ) → StopsAt text (Unread at) → at + 1 < length text → IsSyntax text at
dead_within text at (inl past) within = absurd (omega (arith, past, within))
dead_within text at (inr dead) within = inl dead

pub returns-then-not-ends_in_return : goal.returns-then-not-ends_in_return
returns-then-not-ends_in_return c = record {
  answer = subst (IsStopped c.args.text.now) c.in-Err-Unread.field-0-is c.in-Err-Unread.ensures.answer;
  small = tt;
  memory = λ h. absurd (unread_kept (Err (Unread c.in-Err-Unread.at)) c.in-Err-Unread.at refl h);
  placed = subst (IsSyntaxStop c.args.text.now) c.in-Err-Unread.field-0-is (c.in-Err-Unread.ensures.syntax (sym (c.ends_in_return.ensures ∙ ap (ends_with 13) c.as_bytes.ensures.value) ∙ c.if-not-ends_in_return.true));
}

pub returns-then-not-begins_document : goal.returns-then-not-begins_document
returns-then-not-begins_document c = record {
  answer = subst (IsStopped c.args.text.now) c.in-Err-Unread.field-0-is c.in-Err-Unread.ensures.answer;
  small = tt;
  memory = λ h. absurd (unread_kept (Err (Unread c.start_place.result)) c.start_place.result refl h);
  placed = c.start_place.ensures;
}

pub returns-then-at-text : goal.returns-then-at-text
returns-then-at-text c = record {
  answer = subst (IsStopped c.args.text.now) c.in-Err-Unread.field-0-is c.in-Err-Unread.ensures.answer;
  small = tt;
  memory = λ h. absurd (unread_kept (Err (Unread c.in-Err-Unread.at)) c.in-Err-Unread.at refl h);
  placed = dead_within c.args.text.now c.in-Err-Unread.at (subst (StopsAt c.args.text.now) c.in-Err-Unread.field-0-is c.in-Err-Unread.ensures.place) c.if-at-text.true;
}

pub start_place-requires-clause-returned : goal.start_place-requires-clause-returned
start_place-requires-clause-returned c = ends_front c.args.text.now (sym (c.ends_in_return.ensures ∙ ap (ends_with 13) c.as_bytes.ensures.value) ∙ c.if-not-ends_in_return.false)

pub start_place-requires-clause-nowhere : goal.start_place-requires-clause-nowhere
start_place-requires-clause-nowhere c = unread_unbegun c.args.text.now (subst (IsStopped c.args.text.now) c.in-Err-Unread.field-0-is c.in-Err-Unread.ensures.answer) (c.begins_document.ensures.no c.if-not-begins_document.true)

pub read_again-requires-clause-returned : goal.read_again-requires-clause-returned
read_again-requires-clause-returned c = ends_front c.args.text.now (sym (c.ends_in_return.ensures ∙ ap (ends_with 13) c.as_bytes.ensures.value) ∙ c.if-not-ends_in_return.false)
