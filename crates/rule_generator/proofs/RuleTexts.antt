-- The text of rules, one group of elements after another.
use Rattle.std.proofs.Common.{◌≡◌, ℕ, suc, ◌+◌, ◌<◌, ◌≤◌, List, [], ◌∷◌, ◌++◌, length, get_or, drop, filter, refl, sym, ap, ap₂, ◌∙◌, arith, append_assoc, append-nil, length-append, add-one}
use Rattle.std.proofs.lemmas.List.Elements.{filter-append}
use Rattle.rule_generator.specs.GeneratedRules.{KeptKey, TypeRule, has_keys, keys_of, rule_text, rules_text}
use Rattle.rule_generator.specs.code.Groups.{group_rule, group_rules}
use Rattle.rule_generator.proofs.Turns.{drop-past, turn-cons}
use Rattle.rule_meaning.specs.Values.{Value}

-- a group for which no key is kept
pub none-kept : (type : List ℕ) (alike : List Value) (rest : List TypeRule) → keys_of alike ≡ [] → filter has_keys (group_rule type alike ∷ []) ++ rest ≡ rest
none-kept type alike rest e = ap (λ keys. filter has_keys (record { type = type; keys = keys } ∷ []) ++ rest) e

-- one for which some are
pub some-kept : (type : List ℕ) (alike : List Value) (rest : List TypeRule) (key : KeptKey) (keys : List KeptKey) → keys_of alike ≡ key ∷ keys
    → filter has_keys (group_rule type alike ∷ []) ++ rest ≡ group_rule type alike ∷ rest
some-kept type alike rest key keys e =
    ap (λ ks. filter has_keys (record { type = type; keys = ks } ∷ []) ++ rest) e ∙ ap (λ ks. record { type = type; keys = ks } ∷ rest) (sym e)

-- the text of one with the texts of those behind it
pub text-more : (out after : List ℕ) (number next : ℕ) (type : List ℕ) (alike : List Value) (kept : List KeptKey) (rest : List TypeRule)
    → kept ≡ keys_of alike → 0 < length kept → next ≡ number + 1 → after ≡ out ++ rule_text number (record { type = type; keys = kept })
    → after ++ rules_text next rest ≡ out ++ rules_text number (filter has_keys (group_rule type alike ∷ []) ++ rest)
text-more out after number next type alike [] rest keys some is written = absurd (omega arith)
text-more out after number next type alike (key ∷ kept) rest keys some is written =
    ap₂ (λ (t : List ℕ) (n : ℕ). t ++ rules_text n rest) written (is ∙ add-one number)
    ∙ append_assoc out (rule_text number (record { type = type; keys = key ∷ kept })) (rules_text (suc number) rest)
    ∙ ap (λ ks. out ++ (rule_text number (record { type = type; keys = ks }) ++ rules_text (suc number) rest)) keys
    ∙ ap (λ rules. out ++ rules_text number rules) (sym (some-kept type alike rest key kept (sym keys)))

-- ---- groups in turn

rules-turn : (types : List (List ℕ)) (groups : List (List Value)) (i : ℕ) (t type : List ℕ) (g alike : List Value) → i < length types → i < length groups
    → get_or types i t ≡ type → get_or groups i g ≡ alike
    → filter has_keys (group_rules (drop i types) (drop i groups)) ≡ filter has_keys (group_rule type alike ∷ []) ++ filter has_keys (group_rules (drop (i + 1) types) (drop (i + 1) groups))
rules-turn types groups i t type g alike h k is same =
    ap₂ (λ ts gs. filter has_keys (group_rules ts gs)) (turn-cons types i t type h is) (turn-cons groups i g alike k same)
    ∙ filter-append has_keys (group_rule type alike ∷ []) (group_rules (drop (i + 1) types) (drop (i + 1) groups))

pub text-turn : (types : List (List ℕ)) (groups : List (List Value)) (i : ℕ) (t type : List ℕ) (g alike : List Value) (number next : ℕ) (out after all : List ℕ)
    → i < length types → i < length groups → get_or types i t ≡ type → get_or groups i g ≡ alike
    → ((rest : List TypeRule) → after ++ rules_text next rest ≡ out ++ rules_text number (filter has_keys (group_rule type alike ∷ []) ++ rest))
    → out ++ rules_text number (filter has_keys (group_rules (drop i types) (drop i groups))) ≡ all
    → after ++ rules_text next (filter has_keys (group_rules (drop (i + 1) types) (drop (i + 1) groups))) ≡ all
text-turn types groups i t type g alike number next out after all h k is same written so =
    written (filter has_keys (group_rules (drop (i + 1) types) (drop (i + 1) groups)))
    ∙ ap (λ rules. out ++ rules_text number rules) (sym (rules-turn types groups i t type g alike h k is same)) ∙ so

no-types : (groups : List (List Value)) → group_rules [] groups ≡ []
no-types groups = refl

pub text-end : (types : List (List ℕ)) (groups : List (List Value)) (i number : ℕ) (out all : List ℕ) → length types ≤ i
    → out ++ rules_text number (filter has_keys (group_rules (drop i types) (drop i groups))) ≡ all → out ≡ all
text-end types groups i number out all h so =
    sym (append-nil out) ∙ ap (λ ts. out ++ rules_text number (filter has_keys (group_rules ts (drop i groups)))) (sym (drop-past types i h)) ∙ so

-- a front is no longer than the whole
pub front-short : (front back all : List ℕ) → front ++ back ≡ all → length front ≤ length all
front-short front back all e = let n = length-append front back in let m : length (front ++ back) ≡ length all = ap length e in omega arith
