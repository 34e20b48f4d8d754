use Rattle.std.proofs.Common.{◌∙◌, ap, sym, subst, ℕ, List, ◌<◌, length}
use Rattle.std.specs.Prelude.{slice_index_or}
use Rattle.guard_syntax.specs.code.Seen.{see_file}
use Rattle.rule_names.proofs.HomeTables.{home-each}
use Rattle.rule_names.proofs.file.RuleFile.home.Goals as goal

pub bounds-as_slice-site : goal.bounds-as_slice-site
bounds-as_slice-site c = subst (λ (n : ℕ). c.args.site < n) (sym (ap length (c.as_slice.ensures.value ∙ c.args.self.now.homed) ∙ home-each (see_file c.args.self.now.raw))) c.requires

pub returns : goal.returns
returns c = ap (λ (homes : List ℕ). slice_index_or homes c.args.site 0) (c.as_slice.ensures.value ∙ c.args.self.now.homed)
