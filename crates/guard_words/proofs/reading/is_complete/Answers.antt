use Rattle.std.proofs.Common.{◌||◌, not, sym, ap, ◌∙◌}
use Rattle.std.proofs.lemmas.List.Folds.{list_all-map}
use Rattle.guard_words.specs.Request.{Row, is_complete, is_given}
use Rattle.guard_words.specs.code.Reading.{row_text, use_texts}
use Rattle.guard_words.proofs.reading.is_complete.Goals as goal

pub returns : goal.returns
returns c =
    let uses = use_texts c.args.uses.now in
    c.all_given.ensures ∙ sym (list_all-map (λ (o : Row). not o.required || is_given o.name uses) row_text c.options.result.now)
    ∙ ap (λ table. is_complete table uses) c.options.ensures
