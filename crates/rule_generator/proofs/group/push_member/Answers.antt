use Rattle.std.proofs.Common.{◌≡◌, ◌<◌, ◌++◌, ◌∷◌, [], List, length, map, ap, sym, ◌∙◌, arith}
use Rattle.std.proofs.lemmas.List.{get_or-map, length-map, map-append, map-set}
use Rattle.rule_generator.specs.code.Seen.{see}
use Rattle.rule_generator.specs.code.SeenGroups.{group_seen}
use Rattle.rule_generator.proofs.Members.{member-last, member-set}
use Rattle.rule_generator.proofs.group.push_member.Goals as goal
use Rattle.rule_meaning.specs.Values.{Value}

pub returns-then-index-len : goal.returns-then-index-len
returns-then-index-len c =
    let n : length (map group_seen c.args.groups.now.items) ≡ length c.args.groups.now.items = length-map c.args.groups.now.items group_seen in
    let last : c.args.index ≡ length (map group_seen c.args.groups.now.items) = c.if-index-len.true ∙ c.len.ensures ∙ c.args.groups.now.ok.0 ∙ sym n in
    ap (map group_seen) c.in_ok-push-2.ensures.items ∙ map-append group_seen c.args.groups.now.items (c.push.new.self ∷ [])
    ∙ ap (λ (g : List Value). map group_seen c.args.groups.now.items ++ g ∷ [])
    (ap (map see) c.in_ok-push.ensures.items ∙ map-append see c.new-group.result.items (c.args.element ∷ []) ∙ ap (λ cs. map see cs ++ see c.args.element ∷ []) c.new-group.ensures.items)
    ∙ sym (member-last (map group_seen c.args.groups.now.items) c.args.index (see c.args.element) last)

pub returns : goal.returns
returns c =
    let n : length (map group_seen c.args.groups.now.items) ≡ length c.args.groups.now.items = length-map c.args.groups.now.items group_seen in
    let within : c.args.index < length c.args.groups.now.items = omega arith in
    let inside : c.args.index < length (map group_seen c.args.groups.now.items) = omega arith in
    map-set group_seen c.args.groups.now.items c.args.index c.push-2.new.self
    ∙ member-set (map group_seen c.args.groups.now.items) c.args.index (see c.args.element) (group_seen c.index_mut.result.now) (group_seen c.push-2.new.self) inside
    (ap (map see) c.in_ok-push-3.ensures.items ∙ map-append see c.index_mut.result.now.items (c.args.element ∷ [])
    ∙ ap (λ (g : List Value). g ++ see c.args.element ∷ []) (ap group_seen c.index_mut.ensures.value ∙ sym (get_or-map group_seen c.args.groups.now.items c.args.index c.index_mut.result.now (group_seen c.index_mut.result.now) within)))
