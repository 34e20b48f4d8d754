use Rattle.std.proofs.Common.{◌≡◌, ℕ, ◌+◌, ◌<◌, Bool, true, false, List, [], ◌∷◌, ◌++◌, length, string_bytes, refl, ap, sym, ◌∙◌, arith}
use Rattle.std.specs.Prelude.{◌==◌}
use Rattle.std.proofs.lemmas.Bool.Decides.{nat_tests}
use Rattle.std.proofs.lemmas.List.{length-map}
use Rattle.rule_generator.specs.GeneratedRules.{TypeRule, keys_of, rules_text}
use Rattle.rule_generator.specs.code.Seen.{values_seen}
use Rattle.rule_generator.specs.code.SeenKeys.{key_seen, keys_seen}
use Rattle.rule_generator.proofs.RuleTexts.{none-kept, text-more}
use Rattle.rule_generator.proofs.generator.push_group.Goals as goal

is-zero : (b : Bool) (n : ℕ) → b ≡ (n == 0) → b ≡ true → n ≡ 0
is-zero b n e f = let g : (n == 0) ≡ true = sym e ∙ f in grind (arith, nat_tests)

is-some : (b : Bool) (n : ℕ) → b ≡ (n == 0) → b ≡ false → 0 < n
is-some b n e f = let g : (n == 0) ≡ false = sym e ∙ f in grind (arith, nat_tests)

no-items : {X : Type 0} (xs : List X) → length xs ≡ 0 → xs ≡ []
no-items [] e = refl
no-items (x ∷ xs) e = absurd (omega arith)

pub returns-then-is_empty-clause-text : goal.returns-then-is_empty-clause-text
returns-then-is_empty-clause-text c =
    let none : length c.in_ok-keys.keys.items ≡ 0 = sym c.in_ok-keys.keys.ok.0 ∙ is-zero c.is_empty.result c.in_ok-keys.keys.len c.is_empty.ensures c.if-is_empty.true in
    let kept : keys_of (values_seen c.args.members.now) ≡ [] = sym c.in_ok-keys.ensures ∙ ap keys_seen (no-items c.in_ok-keys.keys.items none) in
    λ rest. ap (λ (rules : List TypeRule). string_bytes c.args.out.now ++ rules_text c.args.number rules) (sym (none-kept c.args.name.now (values_seen c.args.members.now) rest kept))

pub returns-clause-text : goal.returns-clause-text
returns-clause-text c =
    let some : 0 < c.in_ok-keys.keys.len = is-some c.is_empty.result c.in_ok-keys.keys.len c.is_empty.ensures c.if-is_empty.false in
    let long : c.in_ok-keys.keys.len ≡ length c.in_ok-keys.keys.items = c.in_ok-keys.keys.ok.0 in
    let same : length c.deref.result.now ≡ length c.in_ok-keys.keys.items = ap length c.deref.ensures.value in
    let seen : length (keys_seen c.deref.result.now) ≡ length c.deref.result.now = length-map c.deref.result.now key_seen in
    let there : 0 < length (keys_seen c.deref.result.now) = omega arith in
    λ rest. text-more (string_bytes c.args.out.now) (string_bytes c.push_rule.new.out) c.args.number (c.args.number + 1) c.args.name.now (values_seen c.args.members.now)
    (keys_seen c.deref.result.now) rest (ap keys_seen c.deref.ensures.value ∙ c.in_ok-keys.ensures) there refl c.in_ok-push_rule.ensures
