use Rattle.std.proofs.Common.{◌≡◌, codes, inl, inr, ap}
use Rattle.clap.specs.Words.{first_value, found_of}
use Rattle.guard_words.specs.Request.{validate, text_of}
use Rattle.guard_words.specs.code.Reading.{flag_among}
use Rattle.guard_words.proofs.request.validate.Goals as goal

pub returns-clause-ok : goal.returns-clause-ok
returns-clause-ok c =
    let found = found_of c.args.options.now in
    let flag : c.get_flag.result ≡ flag_among found (codes "evidence") = elim c.requires.evidence [
      | inl none ↦ rw none (c.get_flag.ensures.none none)
      | inr some ↦ elim some [
        | inl is ↦ rw is (c.get_flag.ensures.value is)
        | inr is ↦ rw is (c.get_flag.ensures.other is)
      ]
    ] in
    rw (c.in_ok-value_of.ensures.ok, c.in_ok-value_of-2.ensures.ok, c.in_ok-value_if_given.ensures.ok)
    (ap (validate (text_of (first_value found (codes "rules"))) (text_of (first_value found (codes "data"))) (first_value found (codes "params"))) flag)
