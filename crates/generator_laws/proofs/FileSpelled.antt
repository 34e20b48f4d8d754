-- The pieces of generated rules are read as their file. By induction on the rules.
use Rattle.std.proofs.Common.{◌≡◌, ℕ, suc, ◌+◌, ◌*◌, ◌^◌, ◌≤◌, false, List, [], ◌∷◌, length, codes, refl, ap, ◌∙◌, arith}
use Rattle.guard_syntax.specs.Syntax.{no_disjs}
use Rattle.guard_lexer.specs.declared.token.Mark.TheVariants as mark
use Rattle.literal_parser.specs.declared.keyword.Keyword.TheVariants as kw
use Rattle.literal_parser.specs.Forms.{begins_step, word_form}
use Rattle.literal_parser.specs.Lexemes.{Lexeme, Reserved, Word}
use Rattle.literal_parser.specs.States.{start}
use Rattle.guard_parser.specs.Grammar.{ALet, APart, ARule, AreDisjs, AreLets, AreRules, InRow, IsContents, file_sort, of_sort}
use Rattle.guard_parser.specs.Grammar as grammar
use Rattle.rule_generator.specs.GeneratedRules.{KeptKey, TypeRule}
use Rattle.rule_generator.specs.code.GeneratedPieces.{head_pieces, keys_pieces, new_line, rules_pieces}
use Rattle.rule_spelling.proofs.Words.{keyword_word}
use Rattle.rule_spelling.specs.code.Tokens as token
use Rattle.generator_laws.specs.code.GeneratedSyntax.{Places, file_of_rules, last_site, lets_from, next_site, places_to, rules_from}
use Rattle.generator_laws.specs.code.Standing.{AreRead, Begin, Stands, behind_head, behind_let, behind_rule, behind_rules, rules_firsts, sites_behind}
use Rattle.generator_laws.proofs.LetSpelled.{let-spelled, opens, places, state, test}
use Rattle.generator_laws.proofs.KeysSpelled.{begin-split, keys-behind}
use Rattle.generator_laws.proofs.RuleSpelled.{rule-spelled}

sites-are : (m : ℕ) (keys : List KeptKey) → sites_behind m keys ≡ m + 7 * length keys
sites-are m [] = omega arith
sites-are m (kept ∷ keys) = let e = sites-are (suc (suc (suc (suc (suc (suc (suc m))))))) keys in omega arith

-- the sites begun behind a rule, and behind all
abbrev sites_next : ℕ → TypeRule → ℕ
sites_next m rule = sites_behind (behind_head (behind_let m)) rule.keys

abbrev pub sites_all : ℕ → List TypeRule → ℕ
sites_all m [] = m
sites_all m (rule ∷ rules) = sites_all (sites_next m rule) rules

next-is : (places : Places) (n m : ℕ) (rule : TypeRule) → n ≡ m → next_site places n rule ≡ sites_next m rule
next-is places n m rule e = let f = sites-are (behind_head (behind_let m)) rule.keys in omega arith

pub last-is : (places : Places) (n m : ℕ) (rules : List TypeRule) → n ≡ m → last_site places n rules ≡ sites_all m rules
last-is placed n m [] e = e
last-is placed n m (rule ∷ rules) e = last-is placed (next_site placed n rule) (sites_next m rule) rules (next-is placed n m rule e)

module _ (s : ℕ → Lexeme) (first : ℕ → ℕ) where
  abbrev rows : ℕ → ℕ → List TypeRule → List grammar.Piece
  rows i m [] = []
  rows i m (rule ∷ rules) =
      record { sort = ALet; from = state s first i m; to = state s first (behind_let i) (behind_let m) }
      ∷ record { sort = ARule; from = state s first (behind_let i) (behind_let m); to = state s first (behind_rule i rule) (sites_next m rule) } ∷ rows (behind_rule i rule) (sites_next m rule) rules

  -- what stands behind a rule
  rule-behind : (gap : List ℕ) (i k : ℕ) (rule : TypeRule) (rules : List TypeRule) → Stands s i (rules_pieces gap k (rule ∷ rules)) → Stands s (behind_rule i rule) (rules_pieces new_line (suc k) rules)
  rule-behind gap i k rule rules h = (keys-behind s first (behind_head (behind_let i)) k rule.keys (token.mark new_line mark.RBrace (rules_pieces new_line (suc k) rules)) h.1.1.1.1.1.1.1.1.1.1.1.1.1.1.1.1.1.1).1

  rule-word : (gap : List ℕ) (i k : ℕ) (rule : TypeRule) (rules : List TypeRule) → Stands s i (rules_pieces gap k (rule ∷ rules)) → (s (behind_let i)).word ≡ Reserved kw.Rule (codes "rule")
  rule-word gap i k rule rules h = h.1.1.1.1.1.1.1.1.1.1.1.0 ∙ (keyword_word false kw.Rule).1

  in-file : (gap : List ℕ) (i m k : ℕ) (rules : List TypeRule) → Stands s i (rules_pieces gap k rules) → InRow s file_sort (rows i m rules) (state s first i m) (state s first (behind_rules i rules) (sites_all m rules))
  in-file gap i m k [] h = (ap (λ (x : Word). file_sort (word_form x)) h, refl)
  in-file gap i m k (rule ∷ rules) h = (
    ap (λ (x : Word). file_sort (word_form x)) (h.0 ∙ (keyword_word false kw.Let).1),
    refl,
    (
      ap (λ (x : Word). file_sort (word_form x)) (rule-word gap i k rule rules h),
      refl,
      in-file new_line (behind_rule i rule) (sites_next m rule) (suc k) rules (rule-behind gap i k rule rules h),
    ),
  )

  lets-spelled : (gap : List ℕ) (i n m k : ℕ) (rules : List TypeRule) → n ≡ m → k + length rules ≤ 2 ^ 64 → AreRead rules → Begin first m (rules_firsts i rules) → Stands s i (rules_pieces gap k rules)
      → AreLets s (lets_from (places s first) n k rules) (of_sort ALet (rows i m rules))
  lets-spelled gap i n m k [] e few r c h = tt
  lets-spelled gap i n m k (rule ∷ rules) e few r c h = (
    let-spelled s first gap rule.type i n m k (head_pieces k (keys_pieces k rule.keys (token.mark new_line mark.RBrace (rules_pieces new_line (suc k) rules)))) e (omega arith) r.0.0 (c.0, (c.1.0, (c.1.1.0, (c.1.1.1.0, (c.1.1.1.1.0, (c.1.1.1.1.1.0, (c.1.1.1.1.1.1.0, (c.1.1.1.1.1.1.1.0, (c.1.1.1.1.1.1.1.1.0, (c.1.1.1.1.1.1.1.1.1.0, (c.1.1.1.1.1.1.1.1.1.1.0, tt))))))))))) h (test s first begins_step (behind_let i) _ (rule-word gap i k rule rules h)),
    lets-spelled new_line (behind_rule i rule) (next_site (places s first) n rule) (sites_next m rule) (suc k) rules (next-is (places s first) n m rule e) (omega arith) r.1
        (begin-split s first (behind_head (behind_let i)) (behind_head (behind_let m)) rule.keys (rules_firsts (behind_rule i rule) rules) c.1.1.1.1.1.1.1.1.1.1.1.1.1.1.1.1.1.1).1 (rule-behind gap i k rule rules h),
  )

  rules-spelled : (gap : List ℕ) (i n m k : ℕ) (rules : List TypeRule) → n ≡ m → k + length rules ≤ 2 ^ 64 → AreRead rules → Begin first m (rules_firsts i rules) → Stands s i (rules_pieces gap k rules)
      → AreRules s (rules_from (places s first) n k rules) (of_sort ARule (rows i m rules))
  rules-spelled gap i n m k [] e few r c h = tt
  rules-spelled gap i n m k (rule ∷ rules) e few r c h =
      let split = begin-split s first (behind_head (behind_let i)) (behind_head (behind_let m)) rule.keys (rules_firsts (behind_rule i rule) rules) c.1.1.1.1.1.1.1.1.1.1.1.1.1.1.1.1.1.1 in (
        rule-spelled s first (behind_let i) (n + 11) (behind_let m) k rule (rules_pieces new_line (suc k) rules) (omega arith) (omega arith) r.0.1.0 r.0.1.1 (c.1.1.1.1.1.1.1.1.1.1.1.0, (c.1.1.1.1.1.1.1.1.1.1.1.1.0, (c.1.1.1.1.1.1.1.1.1.1.1.1.1.0, (c.1.1.1.1.1.1.1.1.1.1.1.1.1.1.0, (c.1.1.1.1.1.1.1.1.1.1.1.1.1.1.1.0, (c.1.1.1.1.1.1.1.1.1.1.1.1.1.1.1.1.0, (c.1.1.1.1.1.1.1.1.1.1.1.1.1.1.1.1.1.0, tt))))))) split.0 h.1.1.1.1.1.1.1.1.1.1.1,
        rules-spelled new_line (behind_rule i rule) (next_site (places s first) n rule) (sites_next m rule) (suc k) rules (next-is (places s first) n m rule e) (omega arith) r.1 split.1 (rule-behind gap i k rule rules h),
      )

  no-parts : (i m : ℕ) (rules : List TypeRule) → AreDisjs s no_disjs (of_sort APart (rows i m rules))
  no-parts i m [] = tt
  no-parts i m (rule ∷ rules) = no-parts (behind_rule i rule) (sites_next m rule) rules

  pub contents-spelled : (rules : List TypeRule) → 1 + length rules ≤ 2 ^ 64 → AreRead rules → Begin first 0 (0 ∷ rules_firsts 0 rules) → Stands s 0 (rules_pieces [] 1 rules)
      → IsContents s (lets_from (places s first) 1 1 rules) (rules_from (places s first) 1 1 rules) no_disjs start (state s first (behind_rules 0 rules) (sites_all 1 rules))
  contents-spelled rules few r c h = (
    state s first 0 1,
    opens s first 0 0 0 refl c.0,
    (
      rows 0 1 rules,
      in-file [] 0 1 1 rules h,
      lets-spelled [] 0 1 1 1 rules refl few r c.1 h,
      rules-spelled [] 0 1 1 1 rules refl few r c.1 h,
      no-parts 0 1 rules,
    ),
  )

  pub places-are : (rules : List TypeRule) → (file_of_rules (places s first) rules).places ≡ (state s first (behind_rules 0 rules) (sites_all 1 rules)).places
  places-are rules = ap (places_to (places s first)) (last-is (places s first) 1 1 rules refl)
