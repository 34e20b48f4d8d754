use Rattle.std.proofs.Common.{◌≡◌, false, List, ℕ, Option, None, Some, sym, ap, ◌∙◌, refl, inr}
use Rattle.std.specs.Prelude.{is_some}
use Rattle.std.specs.Cow.{cow_str_bytes}
use Rattle.doc_values.specs.Tree.{has_key}
use Rattle.doc_values.specs.Unfinished.{Unfinished, with_key}
use Rattle.doc_values.specs.code.Rows.{Row, open_of}
use Rattle.doc_values.specs.code.Growth.{Awaited, key_of}
use Rattle.doc_values.specs.code.Index.{among, keyed}
use Rattle.doc_values.specs.code.Kept.{unfinished}
use Rattle.doc_values.proofs.OpenRows.{open_seat}
use Rattle.doc_values.proofs.Finding.{key_found, not_false, not_true}
use Rattle.doc_values.proofs.Steps.{Kept-key, IsGrowing-of, no_key}
use Rattle.doc_values.proofs.builder.DocBuilder.key.Goals as goal

pub await_key-requires-clause-open : goal.await_key-requires-clause-open
await_key-requires-clause-open c = let b = c.self.inside in let k = c.self.invariant.kept in open_seat b.seat b.arena.rows k.next k.steps

pub invariant_of-self : goal.invariant_of-self
invariant_of-self c =
    let b = c.self.inside in
    let none : b.arena.key ≡ None = no_key b.arena.key (ap (λ (u : Unfinished). u.key) c.self.view_is ∙ c.requires.awaited.1) in
    IsGrowing-of b.seats.items b.seat c.await_key.new.self b.arena.rows b.arena.key c.await_key.ensures.rows (c.if-not-await_key.ensures.key ∙ sym none) c.self.invariant.kept c.self.invariant.awaited

pub returns-then-not-await_key-clause-refused : goal.returns-then-not-await_key-clause-refused
returns-then-not-await_key-clause-refused c =
    let b = c.self.inside in
    let k : List ℕ = cow_str_bytes c.args.text in
    let kept = c.self.invariant.kept in
    let there = not_false (is_some (keyed k (among 0 b.seat.under b.arena.rows))) c.if-not-await_key.ensures.new in
    inr (refl, sym (key_found b.seat b.arena.rows k kept.next kept.steps ∙ ap (λ (u : Unfinished). has_key u.done k) c.self.view_is) ∙ there)

pub invariant_of-self-2 : goal.invariant_of-self-2
invariant_of-self-2 c =
    let b = c.self.inside in
    let k : List ℕ = cow_str_bytes c.args.text in
    let kept = c.self.invariant.kept in
    let missing = not_true (is_some (keyed k (among 0 b.seat.under b.arena.rows))) c.if-not-await_key.ensures.new in
    let new : has_key (open_of b.seat.depth b.arena.rows).done k ≡ false = sym (key_found b.seat b.arena.rows k kept.next kept.steps) ∙ missing in
    IsGrowing-of b.seats.items b.seat c.await_key.new.self b.arena.rows (Some (record { text = k; under = b.seat.under })) c.await_key.ensures.rows c.if-not-await_key.ensures.key (Kept-key b.seats.items b.seat b.arena.rows (key_of b.arena.key) k _ c.self.view_is c.requires.awaited new kept) refl

pub returns-clause-ok : goal.returns-clause-ok
returns-clause-ok c =
    let b = c.self.inside in
    let k : List ℕ = cow_str_bytes c.args.text in
    let kept = c.self.invariant.kept in
    let missing = not_true (is_some (keyed k (among 0 b.seat.under b.arena.rows))) c.if-not-await_key.ensures.new in (
      ap (λ (rs : List Row). unfinished b.seat.depth rs (key_of c.await_key.new.self.key)) c.await_key.ensures.rows
          ∙ ap (λ (o : Option Awaited). unfinished b.seat.depth b.arena.rows (key_of o)) c.if-not-await_key.ensures.key
          ∙ ap (with_key k) c.self.view_is,
      sym (key_found b.seat b.arena.rows k kept.next kept.steps ∙ ap (λ (u : Unfinished). has_key u.done k) c.self.view_is) ∙ missing,
    )
