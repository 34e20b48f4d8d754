-- When a comparison needs no book: where no text of the one value stands over against a pattern of the other.
use Rattle.std.specs.Prelude.{Bool, true, false, ◌||◌}
use Rattle.std.specs.Option.{option_map_or}
use Rattle.doc_values.specs.Tree.{Forest, Nil, Node}
use Rattle.doc_values.specs.declared.kind.Kind.{Kind}
use Rattle.doc_values.specs.declared.kind.Kind.TheVariants as kind
use Rattle.rule_meaning.specs.Pairs.{entry_of}
use Rattle.rule_meaning.specs.Values.{Value}

-- a text stands over against a pattern, by the kinds of both; of two lists, and of two maps, what stands in them tells
abbrev pub may_find_by : (items entries : Bool) → Kind → Kind → Bool
may_find_by items entries kind.Text kind.Pattern = true
may_find_by items entries kind.List kind.List = items
may_find_by items entries kind.Map kind.Map = entries
may_find_by items entries _ _ = false

abbrev mutual
  -- items of two lists at one index
  pub may_find_items : Forest → Forest → Bool
  may_find_items Nil g = false
  may_find_items (Node l lkids lrest) Nil = false
  may_find_items (Node l lkids lrest) (Node r rkids rrest) = may_find_by (may_find_items lkids rkids) (may_find_entries lkids rkids) l.kind r.kind || may_find_items lrest rrest

  -- values of two maps at one key
  pub may_find_entries : Forest → Forest → Bool
  may_find_entries Nil g = false
  may_find_entries (Node l lkids lrest) g =
      option_map_or (λ (r : Value). may_find_by (may_find_items lkids r.contents) (may_find_entries lkids r.contents) l.kind r.kind) (entry_of g l.key) false
      || may_find_entries lrest g

abbrev pub compares_pattern : Value → Value → Bool
compares_pattern l r = may_find_by (may_find_items l.contents r.contents) (may_find_entries l.contents r.contents) l.kind r.kind
