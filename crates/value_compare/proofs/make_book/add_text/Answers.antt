use Rattle.std.proofs.Common.{◌≡◌, ◌++◌, ◌∷◌, [], true, sym, ap, ◌∙◌}
use Rattle.value_store.specs.code.Books.{has_text}
use Rattle.value_compare.proofs.Making.{gains-present, gains-added, made-no_refusal, no_less, read-added}
use Rattle.value_compare.proofs.make_book.add_text.Goals as goal

pub returns-then-has : goal.returns-then-has
returns-then-has g c =
    let there : has_text c.args.book.now c.args.written.text.now ≡ true = sym c.has.ensures ∙ c.if-has.true in
    record {
      gains = gains-present c.args.book.now c.args.written.text.now c.args.written.at there;
      read = c.requires c.args.written.text.now there;
      book = c.requires;
      bad = λ place is. absurd (made-no_refusal _ _ is);
      refused = λ place is. absurd (made-no_refusal _ _ is);
      kept = λ other. no_less;
    }

pub returns-in-Ok-insert : goal.returns-in-Ok-insert
returns-in-Ok-insert g c =
    let put : c.insert.new.self ≡ c.args.book.now ++ c.args.written.text.now ∷ [] = c.in-Ok-insert.ensures ∙ ap (λ text. c.args.book.now ++ text ∷ []) c.in-Ok.ensures.ok in
    let read = c.in-Ok-make.ensures.read in
    record {
      gains = gains-added c.args.book.now c.insert.new.self c.args.written.text.now c.args.written.at put;
      read = read;
      book = read-added c.args.book.now c.insert.new.self c.args.written.text.now put c.requires read;
      bad = λ place is. absurd (made-no_refusal _ _ is);
      refused = λ place is. absurd (made-no_refusal _ _ is);
      kept = c.make.ensures.kept;
    }
