use Rattle.std.proofs.Common.{◌≡◌, List, [], Option, ap, sym, subst, ◌∙◌}
use Rattle.std.proofs.lemmas.Result.{IfOk-weaker}
use Rattle.std.specs.Global.{Vec}
use Rattle.std.specs.Prelude.{MatchOption}
use Rattle.doc_values.specs.declared.cursor.Cursor.{Cursor}
use Rattle.rule_generator.specs.GeneratedRules.{keys_of}
use Rattle.rule_generator.specs.code.PropertyMaps.{AreProperties, keys_in_maps}
use Rattle.rule_generator.specs.code.Seen.{values_seen}
use Rattle.rule_generator.specs.code.SeenKeys.{keys_seen}
use Rattle.rule_generator.proofs.KeptKeys.{keys-by-maps}
use Rattle.rule_generator.proofs.kept.kept_keys.Goals as goal
use Rattle.rule_meaning.specs.Values.{Value}

-- what is said of the maps of elements
abbrev AreFound : List Value → Option (Vec Cursor) → Type 0
AreFound alike found = MatchOption found (keys_of alike ≡ []) (λ maps. AreProperties alike (values_seen maps.items))

pub returns-in_default : goal.returns-in_default
returns-in_default c =
    let alike : List Value = values_seen c.args.members.now in
    let none : keys_of alike ≡ [] = subst (AreFound alike) c.in_default.is c.in_ok-maps.ensures in
    ap keys_seen c.new.ensures.items ∙ sym none

pub returns : goal.returns
returns c =
    let alike : List Value = values_seen c.args.members.now in
    let maps : List Value = values_seen c.in-Some.maps.items in
    let are : AreProperties alike maps = subst (AreFound alike) c.in-Some.is c.in_ok-maps.ensures in
    IfOk-weaker c.keys_in_maps.result _ _
    (λ keys e. e ∙ ap (λ (nodes : List Cursor). keys_in_maps (values_seen nodes)) c.deref.ensures.value ∙ sym (keys-by-maps alike maps are)) c.keys_in_maps.ensures
