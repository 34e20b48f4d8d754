use Rattle.std.proofs.Common.{◌≡◌, ℕ, ◌≤◌, List, length, map, ap, ap₂, sym, ◌∙◌, arith}
use Rattle.std.proofs.lemmas.List.{length-map}
use Rattle.std.proofs.lemmas.Result.{on_ok_weaker}
use Rattle.std.specs.List.{position_or_len}
use Rattle.rule_generator.specs.code.Groups.{Grouped, with_member}
use Rattle.rule_generator.specs.code.Seen.{see, texts_seen}
use Rattle.rule_generator.specs.code.SeenGroups.{group_seen}
use Rattle.rule_generator.proofs.Members.{count-seen, keys-seen, length-member, place-seen, place-within, text-eq}
use Rattle.rule_generator.proofs.group.Groups.add.Goals as goal
use Rattle.rule_meaning.specs.Values.{Value}

abbrev grouped-by : List (List ℕ) → List (List Value) → Grouped
grouped-by types groups = record { types = types; groups = groups }

pub push_member-requires : goal.push_member-requires
push_member-requires c =
    let at : c.in_ok-index.index ≡ position_or_len (text-eq c.args.name) c.args.self.now.types.keys = c.in_ok-index.ensures.index in
    let within : position_or_len (text-eq c.args.name) c.args.self.now.types.keys ≤ length c.args.self.now.types.keys = place-within (text-eq c.args.name) c.args.self.now.types.keys in
    let paired : length c.args.self.now.types.keys ≡ length c.args.self.now.members.items = c.requires in
    omega arith

pub returns-clause-groups : goal.returns-clause-groups
returns-clause-groups c =
    on_ok_weaker c.push_member.result
    (λ e. ap₂ grouped-by (ap texts_seen c.in_ok-index.ensures.keys ∙ keys-seen c.args.self.now.types.keys c.args.name)
    (e ∙ ap (λ (i : ℕ). with_member (map group_seen c.args.self.now.members.items) i (see c.args.element)) (c.in_ok-index.ensures.index ∙ place-seen c.args.self.now.types.keys c.args.name)))
    c.push_member.ensures

pub returns-clause-paired : goal.returns-clause-paired
returns-clause-paired c =
    let paired : length c.args.self.now.types.keys ≡ length c.args.self.now.members.items = c.requires in
    let seen : length c.args.self.now.types.keys ≡ length (map group_seen c.args.self.now.members.items) = paired ∙ sym (length-map c.args.self.now.members.items group_seen) in
    on_ok_weaker c.push_member.result
    (λ e. ap length c.in_ok-index.ensures.keys ∙ count-seen c.args.self.now.types.keys c.args.name
    ∙ sym (length-member (text-eq c.args.name) c.args.self.now.types.keys (map group_seen c.args.self.now.members.items) (see c.args.element) seen)
    ∙ ap (λ (i : ℕ). length (with_member (map group_seen c.args.self.now.members.items) i (see c.args.element))) (sym c.in_ok-index.ensures.index)
    ∙ ap length (sym e) ∙ length-map c.push_member.new.groups.items group_seen)
    c.push_member.ensures
