use Rattle.std.proofs.Common.{◌≡◌, ◌∷◌, ◌++◌, [], ℕ, List, Option, true, false, ap, sym, subst, ◌∙◌, append-nil}
use Rattle.std.proofs.lemmas.List.{map-append}
use Rattle.std.specs.Prelude.{MatchOption}
use Rattle.std.specs.Global.{Vec}
use Rattle.std.specs.List.{list_all}
use Rattle.doc_values.specs.declared.cursor.Cursor.{Cursor}
use Rattle.rule_generator.specs.GeneratedRules.{KeptKey}
use Rattle.rule_generator.specs.code.PropertyMaps.{has_entry, values_in_maps}
use Rattle.rule_generator.specs.code.Seen.{values_seen}
use Rattle.rule_generator.specs.code.SeenKeys.{key_seen, keys_seen}
use Rattle.rule_generator.specs.declared.kept.Kept.{Kept}
use Rattle.rule_generator.proofs.KeptKeys.{gained, is-kept, kept_of, lost, not-had, not-spelled}
use Rattle.rule_generator.proofs.kept.push_if_kept.Goals as goal
use Rattle.rule_meaning.specs.Values.{Value}

-- what is said of the values of a key
abbrev AreValues : List Value → List ℕ → Option (Vec Cursor) → Type 0
AreValues maps key found =
    MatchOption found (list_all (has_entry key) maps ≡ false) (λ values. (list_all (has_entry key) maps ≡ true) × (values_seen values.items ≡ values_in_maps maps key))

pub returns-in_default : goal.returns-in_default
returns-in_default c =
    let before : List KeptKey = keys_seen c.args.keys.now.items in
    sym (append-nil before) ∙ ap (λ o. before ++ kept_of (values_seen c.args.maps.now) o) (sym c.in_default.ensures)

pub returns-then-ends_in_backslash : goal.returns-then-ends_in_backslash
returns-then-ends_in_backslash c =
    let maps : List Value = values_seen c.args.maps.now in
    lost maps _ c.in-Some.key.now (keys_seen c.args.keys.now.items) c.in-Some.ensures
    (not-spelled maps c.in-Some.key.now (sym c.ends_in_backslash.ensures ∙ c.if-ends_in_backslash.true))

pub returns-in_default-2 : goal.returns-in_default-2
returns-in_default-2 c =
    let maps : List Value = values_seen c.args.maps.now in
    let lacks : list_all (has_entry c.in-Some.key.now) maps ≡ false = subst (AreValues maps c.in-Some.key.now) c.in_default-2.is c.in_ok-values.ensures in
    lost maps _ c.in-Some.key.now (keys_seen c.args.keys.now.items) c.in-Some.ensures (not-had maps c.in-Some.key.now lacks)

pub returns : goal.returns
returns c =
    let maps : List Value = values_seen c.args.maps.now in
    let key : List ℕ = c.in-Some.key.now in
    let before : List KeptKey = keys_seen c.args.keys.now.items in
    let kept : Kept = record { key = c.in-Some.key; values = c.in-Some-2.values } in
    let found : (list_all (has_entry key) maps ≡ true) × (values_seen c.in-Some-2.values.items ≡ values_in_maps maps key) = subst (AreValues maps key) c.in-Some-2.is c.in_ok-values.ensures in
    gained maps _ key before (keys_seen c.push.new.self.items) c.in-Some.ensures (is-kept maps key (sym c.ends_in_backslash.ensures ∙ c.if-ends_in_backslash.false) found.0)
    (ap keys_seen c.in_ok-push.ensures.items ∙ map-append key_seen c.args.keys.now.items (kept ∷ [])
    ∙ ap (λ (vs : List Value). before ++ record { key = key; values = vs } ∷ []) found.1)
