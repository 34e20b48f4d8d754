use Rattle.std.proofs.Common.{filter, map, ap, ◌++◌, ◌∙◌, Some}
use Rattle.rule_generator.specs.GeneratedRules.{entries_in, keys_in}
use Rattle.rule_generator.specs.code.PropertyMaps.{is_kept_in, kept_in}
use Rattle.rule_generator.specs.code.Seen.{see, values_seen}
use Rattle.rule_generator.specs.code.SeenKeys.{keys_seen}
use Rattle.rule_generator.proofs.KeptKeys.{kept-first}
use Rattle.rule_generator.proofs.kept.keys_in_maps.Goals as goal

pub returns : goal.returns
returns c =
    c.in_ok-push_kept.ensures
    ∙ ap (λ keys. keys_seen keys ++ map (kept_in (values_seen c.args.maps.now)) (filter (is_kept_in (values_seen c.args.maps.now)) (keys_in (entries_in (Some (see c.in-Some.first.now))))))
    c.new-keys.ensures.items
    ∙ kept-first c.args.maps.now c.in-Some.first.now c.in-Some.ensures.value
