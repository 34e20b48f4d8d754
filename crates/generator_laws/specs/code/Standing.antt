-- Which lexemes the pieces of generated rules are: at which of them each site begins; and the places that follow.
use Rattle.std.specs.Prelude.{◌≡◌, ◌<◌, ℕ, suc, true, false, length, ◌+◌, ◌*◌, List, [], ◌∷◌, ◌++◌, slice_index_or}
use Rattle.doc_values.specs.Tree.{has_text}
use Rattle.literal_parser.specs.Lexemes.{End, Lexeme, word_of}
use Rattle.generator_laws.specs.code.GeneratedSyntax.{Places}
use Rattle.rule_generator.specs.GeneratedRules.{KeptKey, TypeRule, is_plain}
use Rattle.rule_meaning.specs.Values.{Value}
use Rattle.rule_spelling.specs.Spelling.{ends_in_backslash}
use Rattle.rule_spelling.specs.code.Pieces.{Piece}

-- the lexemes from an index on have the words of pieces, and end behind them
abbrev pub Stands : (ℕ → Lexeme) → ℕ → List Piece → Type 0
Stands s i [] = (s i).word ≡ End
Stands s i (p ∷ ps) = ((s i).word ≡ word_of p.kind p.text) × Stands s (suc i) ps

-- the place of a site is that of its first lexeme; a name stands behind it, and so do the items of a list, a comma behind each
abbrev pub places_of : (ℕ → Lexeme) → (ℕ → ℕ) → Places
places_of s first = record { of_site = λ site. (s (first site)).from; of_name = λ site. (s (suc (first site))).from; of_item = λ site i. (s (suc (first site + 2 * i))).from }

-- the sites from a number on begin at these lexemes
abbrev pub Begin : (ℕ → ℕ) → ℕ → List ℕ → Type 0
Begin first n [] = Unit {0}
Begin first n (i ∷ is) = (first n ≡ i) × Begin first (suc n) is

-- ---- the first lexemes of the sites of lets and rules, by the index of their own first one

abbrev pub let_firsts : ℕ → List ℕ
let_firsts i =
    let query : ℕ = suc (suc (suc i)) in
    let test : ℕ = suc (suc (suc (suc query))) in
    i ∷ query ∷ query ∷ suc query ∷ suc (suc (suc query)) ∷ test ∷ test ∷ test ∷ test ∷ test ∷ suc (suc test) ∷ []

abbrev pub behind_let : ℕ → ℕ
behind_let i = suc (suc (suc (suc (suc (suc (suc (suc (suc (suc (suc i))))))))))

abbrev pub head_firsts : ℕ → List ℕ
head_firsts i = let test : ℕ = suc (suc (suc i)) in i ∷ test ∷ test ∷ test ∷ test ∷ test ∷ suc (suc (suc test)) ∷ []

abbrev pub behind_head : ℕ → ℕ
behind_head i = suc (suc (suc (suc (suc (suc (suc i))))))

abbrev pub behind_more : ℕ → List Value → ℕ
behind_more i [] = i
behind_more i (v ∷ vs) = behind_more (suc (suc i)) vs

abbrev pub behind_values : ℕ → List Value → ℕ
behind_values i [] = i
behind_values i (v ∷ vs) = behind_more (suc i) vs

abbrev pub key_firsts : ℕ → List ℕ
key_firsts i = i ∷ i ∷ i ∷ i ∷ suc i ∷ suc (suc (suc i)) ∷ suc (suc (suc (suc (suc (suc i))))) ∷ []

abbrev pub behind_key : ℕ → KeptKey → ℕ
behind_key i kept = suc (behind_values (suc (suc (suc (suc (suc (suc (suc i))))))) kept.values)

abbrev pub keys_firsts : ℕ → List KeptKey → List ℕ
keys_firsts i [] = []
keys_firsts i (kept ∷ keys) = key_firsts i ++ keys_firsts (behind_key i kept) keys

abbrev pub behind_keys : ℕ → List KeptKey → ℕ
behind_keys i [] = i
behind_keys i (kept ∷ keys) = behind_keys (behind_key i kept) keys

abbrev pub behind_rule : ℕ → TypeRule → ℕ
behind_rule i rule = suc (behind_keys (behind_head (behind_let i)) rule.keys)

abbrev pub behind_rules : ℕ → List TypeRule → ℕ
behind_rules i [] = i
behind_rules i (rule ∷ rules) = behind_rules (behind_rule i rule) rules

abbrev pub rules_firsts : ℕ → List TypeRule → List ℕ
rules_firsts i [] = []
rules_firsts i (rule ∷ rules) = let_firsts i ++ (head_firsts (behind_let i) ++ (keys_firsts (behind_head (behind_let i)) rule.keys ++ rules_firsts (behind_rule i rule) rules))

-- how many sites are begun behind keys
abbrev pub sites_behind : ℕ → List KeptKey → ℕ
sites_behind m [] = m
sites_behind m (kept ∷ keys) = sites_behind (suc (suc (suc (suc (suc (suc (suc m))))))) keys

-- ---- values that are read as they are meant

abbrev pub IsScalar : Value → Type 0
IsScalar v = (is_plain v.kind v.text ≡ true) × (has_text v.kind ≡ false → v.text ≡ [])

abbrev pub AreScalars : List Value → Type 0
AreScalars [] = Unit {0}
AreScalars (v ∷ vs) = IsScalar v × AreScalars vs

abbrev pub AreReadable : List KeptKey → Type 0
AreReadable [] = Unit {0}
AreReadable (kept ∷ keys) = ((ends_in_backslash kept.key ≡ false) × AreScalars kept.values) × AreReadable keys

-- rules that have keys, and whose texts can be written
abbrev pub AreRead : List TypeRule → Type 0
AreRead [] = Unit {0}
AreRead (rule ∷ rules) = ((ends_in_backslash rule.type ≡ false) × ((0 < length rule.keys) × AreReadable rule.keys)) × AreRead rules

-- the first lexeme of a site of the file of rules
abbrev pub first_of_site : List TypeRule → ℕ → ℕ
first_of_site rules n = slice_index_or (0 ∷ rules_firsts 0 rules) n 0
