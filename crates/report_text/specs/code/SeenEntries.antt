-- Entries of the code as the meaning of rules has them.
use Rattle.std.specs.Prelude.{◌≡◌, Bool, true, false, [], unwrap_or}
use Rattle.doc_values.specs.Tree.{Forest, Nil}
use Rattle.guard_syntax.specs.declared.row.Origin.{Origin}
use Rattle.guard_syntax.specs.declared.row.Origin.TheVariants as origin
use Rattle.guard_syntax.specs.declared.row.Ref.{Ref}
use Rattle.rule_meaning.specs.StoreModel.{StoreModel, tree_of, is_known_ref}
use Rattle.rule_meaning.specs.Fails as fails
use Rattle.rule_meaning.specs.Seeing.{see_location}
use Rattle.rule_meaning.specs.Locations as spots
use Rattle.report_text.specs.declared.entry.Entry.{Entry}
use Rattle.report_text.specs.declared.entry.Shown.{Shown}
use Rattle.report_text.specs.declared.entry.Shown.TheVariants.{Value, Made, Unmade}
use Rattle.report_text.specs.declared.entry.Word.{Word}
use Rattle.report_text.specs.declared.entry.Word.TheVariants as word

-- whether a call made the trees of an origin
abbrev pub is_made : Origin → Bool
is_made origin.Template = false
is_made (origin.Literal site) = false
is_made (origin.Made line row) = true

-- the tree that a value stands in
abbrev pub tree_for : StoreModel → Ref → Forest
tree_for known v = unwrap_or (tree_of known v.origin) Nil

-- what can be shown: a value that is known, with its call where one made it; and any call
abbrev pub IsShowable : StoreModel → Shown → Type 0
IsShowable known (Value v) = (is_known_ref known v ≡ true) × (is_made v.origin ≡ false)
IsShowable known (Made site v) = (is_known_ref known v ≡ true) × (is_made v.origin ≡ true)
IsShowable known (Unmade site) = Unit {0}

-- a value of the template or of a literal needs no calls to be told; what a call made is told by the call and the tree
abbrev pub see_shown : StoreModel → Shown → fails.Shown
see_shown known (Value v) = fails.OfValue (see_location known [] v)
see_shown known (Made site v) = fails.OfValue (record { origin = spots.Made site (tree_for known v); node = v.node; key = v.key })
see_shown known (Unmade site) = fails.OfCall site

abbrev pub see_word : Word → fails.Word
see_word word.Value = fails.IsValue
see_word word.Missing = fails.IsMissing
see_word word.Rows = fails.IsRows
see_word word.Rule = fails.IsRule
see_word word.Call = fails.IsCall

abbrev pub see_entry : StoreModel → Entry → fails.Entry
see_entry known e = record { shown = see_shown known e.shown; word = see_word e.word; part = e.part }
