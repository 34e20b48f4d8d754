use Rattle.std.proofs.Common.{ap, sym, subst, ◌∙◌, ℕ, List, ◌<◌, length, slice_get}
use Rattle.std.proofs.lemmas.Option.{slice_get-get_or}
use Rattle.rule_names.proofs.file.RuleFile.place.Goals as goal

pub bounds-as_slice-site : goal.bounds-as_slice-site
bounds-as_slice-site c = subst (λ (places : List ℕ). c.args.site < length places) (sym c.as_slice.ensures) c.requires

pub returns : goal.returns
returns c =
    ap (λ (places : List ℕ). slice_get places c.args.site) (sym c.as_slice.ensures)
    ∙ slice_get-get_or c.as_slice.result.now c.args.site 0 (subst (λ (places : List ℕ). c.args.site < length places) (sym c.as_slice.ensures) c.requires)
