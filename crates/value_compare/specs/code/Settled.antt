-- What is asked of a value and right ones, one after another.
use Rattle.std.specs.Prelude.{Bool, true, false, not, List}
use Rattle.std.specs.List.{list_all, list_any}
use Rattle.rule_meaning.specs.Pairs.{equal, is_no, is_yes}
use Rattle.rule_meaning.specs.RowTests.{is_member_of_some, member}
use Rattle.rule_meaning.specs.Values.{Value}
use Rattle.rule_meaning.specs.declared.answer.PairAnswer.{PairAnswer}
use Rattle.value_compare.specs.declared.members.Asked.{Asked}
use Rattle.value_compare.specs.declared.members.Asked.TheVariants as asked

abbrev pub answer_to : Asked → Value → Value → PairAnswer
answer_to asked.Equal l r = equal l r
answer_to asked.Member l r = member l r

-- a right value answers yes; negated, each answers no
abbrev pub settled : Bool → Asked → Value → List Value → Bool
settled true what l rights = list_all (λ r. is_no (answer_to what l r)) rights
settled false what l rights = list_any (λ r. is_yes (answer_to what l r)) rights

-- this answer settles it
abbrev pub ends : Bool → PairAnswer → Bool
ends true a = not (is_no a)
ends false a = is_yes a

-- each item is a member of a right value; negated, none is
abbrev pub items_settled : Bool → List Value → List Value → Bool
items_settled true rights items = not (list_any (is_member_of_some rights) items)
items_settled false rights items = list_all (is_member_of_some rights) items
