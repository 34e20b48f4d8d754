use Rattle.std.proofs.Common.{◌≡◌, ◌++◌, ◌∷◌, [], sym, ap, ◌∙◌}
use Rattle.indexmap.proofs.CallerLemmas.{insert_entry-new}
use Rattle.rule_meaning.specs.StoreModel.{made_at}
use Rattle.value_store.proofs.MadeLists.{found_at, made_more, plain_more, same_place}
use Rattle.value_store.proofs.made.MadeTrees.add.Goals as goal

is_last : (c : goal.Joined-branch-2) → c.insert.new.self.entries ≡ c.self.inside.trees.entries ++ (record { line = c.args.line; row = c.args.row }, c.args.tree) ∷ []
is_last c =
    c.in_ok-insert.ensures.entries
    ∙ insert_entry-new _ c.self.inside.trees (record { line = c.args.line; row = c.args.row }) c.args.tree
    (sym (found_at _ c.self.inside.trees.entries c.args.line c.args.row (same_place c.args.line c.args.row)) ∙ ap (λ m. made_at m c.args.line c.args.row) c.self.view_is ∙ c.requires.absent)

pub invariant_of-self-2 : goal.invariant_of-self-2
invariant_of-self-2 c = plain_more c.self.inside.trees.entries c.insert.new.self.entries (record { line = c.args.line; row = c.args.row }) c.args.tree (is_last c) c.self.invariant c.requires.plain

pub returns-clause-ok : goal.returns-clause-ok
returns-clause-ok c = rw (← c.self.view_is) (made_more c.self.inside.trees.entries c.insert.new.self.entries (record { line = c.args.line; row = c.args.row }) c.args.tree (is_last c))
