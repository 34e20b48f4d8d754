-- The text of rules, one group more, as the code has groups.
use Rattle.std.proofs.Common.{◌≡◌, ℕ, ◌+◌, ◌<◌, ◌≤◌, List, [], ◌∷◌, ◌++◌, length, get_or, drop, map, filter, sym, ap, ◌∙◌, arith}
use Rattle.std.proofs.lemmas.List.{get_or-map, length-map}
use Rattle.std.specs.Borrow.{Bor}
use Rattle.std.specs.Global.{Vec}
use Rattle.doc_values.specs.declared.cursor.Cursor.{Cursor}
use Rattle.rule_generator.specs.GeneratedRules.{TypeRule, has_keys, rules_text}
use Rattle.rule_generator.specs.code.Groups.{group_rule, group_rules}
use Rattle.rule_generator.specs.code.Seen.{text_seen, texts_seen, values_seen}
use Rattle.rule_generator.specs.code.SeenGroups.{group_seen}
use Rattle.rule_generator.proofs.RuleTexts.{text-end, text-turn}

pub group-turn : (keys names : List (Bor (List ℕ))) (vecs : List (Vec Cursor)) (i : ℕ) (d : Bor (List ℕ)) (group : Vec Cursor) (nodes : List Cursor) (number next : ℕ) (out after all : List ℕ)
    → names ≡ keys → length keys ≡ length vecs → i < length names → group ≡ get_or vecs i group → nodes ≡ group.items
    → ((rest : List TypeRule) → after ++ rules_text next rest ≡ out ++ rules_text number (filter has_keys (group_rule (get_or names i d).now (values_seen nodes) ∷ []) ++ rest))
    → out ++ rules_text number (filter has_keys (group_rules (drop i (texts_seen keys)) (drop i (map group_seen vecs)))) ≡ all
    → after ++ rules_text next (filter has_keys (group_rules (drop (i + 1) (texts_seen keys)) (drop (i + 1) (map group_seen vecs)))) ≡ all
group-turn keys names vecs i d group nodes number next out after all named paired h is items written so =
    let long : length names ≡ length keys = ap length named in
    let in-keys : i < length keys = omega arith in
    let in-vecs : i < length vecs = omega arith in
    let m : length (texts_seen keys) ≡ length keys = length-map keys text_seen in
    let n : length (map group_seen vecs) ≡ length vecs = length-map vecs group_seen in
    let in-types : i < length (texts_seen keys) = omega arith in
    let in-groups : i < length (map group_seen vecs) = omega arith in
    text-turn (texts_seen keys) (map group_seen vecs) i d.now (get_or names i d).now (group_seen group) (values_seen nodes) number next out after all in-types in-groups
    (get_or-map text_seen keys i d d.now in-keys ∙ ap (λ ks. (get_or ks i d).now) (sym named))
    (get_or-map group_seen vecs i group (group_seen group) in-vecs ∙ ap group_seen (sym is) ∙ ap values_seen (sym items))
    written so

pub group-end : (keys names : List (Bor (List ℕ))) (vecs : List (Vec Cursor)) (i number : ℕ) (out all : List ℕ) → names ≡ keys → length names ≤ i
    → out ++ rules_text number (filter has_keys (group_rules (drop i (texts_seen keys)) (drop i (map group_seen vecs)))) ≡ all → out ≡ all
group-end keys names vecs i number out all named h so =
    let long : length names ≡ length keys = ap length named in
    let m : length (texts_seen keys) ≡ length keys = length-map keys text_seen in
    let past : length (texts_seen keys) ≤ i = omega arith in
    text-end (texts_seen keys) (map group_seen vecs) i number out all past so
