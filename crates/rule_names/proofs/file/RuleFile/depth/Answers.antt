use Rattle.std.proofs.Common.{◌≤◌, ◌∙◌, ap, sym, subst, ℕ, List, ◌<◌, length}
use Rattle.std.specs.Prelude.{slice_index_or}
use Rattle.guard_syntax.specs.code.Seen.{see_file}
use Rattle.rule_names.specs.Depths.{depth_limit}
use Rattle.rule_names.proofs.DepthTables.{depth-each, depth-most, depth-of-piece}
use Rattle.rule_names.proofs.file.RuleFile.depth.Goals as goal

pub bounds-as_slice-site : goal.bounds-as_slice-site
bounds-as_slice-site c = subst (λ (n : ℕ). c.args.site < n) (sym (ap length (c.as_slice.ensures.value ∙ c.args.self.now.measured) ∙ depth-each (see_file c.args.self.now.raw))) c.requires

pub returns-clause-table : goal.returns-clause-table
returns-clause-table c = ap (λ (depths : List ℕ). slice_index_or depths c.args.site 0) (c.as_slice.ensures.value ∙ c.args.self.now.measured)

pub returns-clause-part : goal.returns-clause-part
returns-clause-part c =
    ap (λ (depths : List ℕ). slice_index_or depths c.args.site 0) (c.as_slice.ensures.value ∙ c.args.self.now.measured)
    ∙ depth-of-piece (see_file c.args.self.now.raw) c.args.self.now.named c.args.site c.requires

pub returns-clause-most : goal.returns-clause-most
returns-clause-most c =
    let is =
    ap (λ (depths : List ℕ). slice_index_or depths c.args.site 0) (c.as_slice.ensures.value ∙ c.args.self.now.measured)
    ∙ depth-of-piece (see_file c.args.self.now.raw) c.args.self.now.named c.args.site c.requires in
    subst (λ (n : ℕ). n ≤ depth_limit) (sym is) (depth-most (see_file c.args.self.now.raw) c.args.self.now.named c.args.site)
