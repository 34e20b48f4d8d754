-- The tokens of the text of generated rules are a rule file by the grammar.
use Rattle.std.proofs.Common.{◌≡◌, ℕ, suc, ◌<◌, ◌≤◌, ◌+◌, ◌^◌, List, [], ◌∷◌, ◌++◌, length, length-append, get_or, refl, ap, subst, ◌∙◌, arith}
use Rattle.doc_values.specs.Limits.{rules_limit}
use Rattle.doc_values.specs.Tree.{Forest, IsTree}
use Rattle.guard_parser.specs.File.{Rules}
use Rattle.literal_parser.specs.Lexemes.{Lexeme, ending, lexemes}
use Rattle.generator_laws.proofs.BracketsLow.{file-low}
use Rattle.generator_laws.proofs.FileSpelled.{contents-spelled, places-are, sites_all}
use Rattle.generator_laws.proofs.LetSpelled.{state}
use Rattle.generator_laws.proofs.TextJoined.{rules_in}
use Rattle.generator_laws.proofs.TextSpelled.{lexemes-stand, rules-long, sites-begin, tokens-long}
use Rattle.generator_laws.proofs.Writable.{rules_read}
use Rattle.generator_laws.specs.code.Standing.{behind_rules, first_of_site, places_of}
use Rattle.generator_laws.specs.code.GeneratedSyntax.{generated_file}
use Rattle.rule_generator.proofs.GeneratedTokens.{end_of}
use Rattle.rule_generator.specs.GeneratedRules.{TypeRule, generated, rule_text, rules_of, rules_text}
use Rattle.rule_generator.specs.code.GeneratedPieces.{generated_pieces}
use Rattle.rule_spelling.proofs.PieceTokens.{lexemes_by}
use Rattle.rule_spelling.specs.code.Pieces.{lexemes_from, tokens_from}

one-more : (n m : ℕ) → n < m → 1 + n ≤ m
one-more n m h = omega arith

shown : (tree : Forest) (j : ℕ) → lexemes (generated tree) (tokens_from 0 (generated_pieces tree)) j ≡ get_or (lexemes_from 0 (generated_pieces tree)) j (ending (generated tree))
shown tree j =
    subst (λ (text : List ℕ). lexemes text (tokens_from 0 (generated_pieces tree)) j ≡ get_or (lexemes_from 0 (generated_pieces tree)) j (ending text)) (rules_in 1 (rules_of tree))
    (lexemes_by (generated_pieces tree) (end_of (rules_of tree)) j)

pub file-read : (tree : Forest) → IsTree tree → length (rules_of tree) < 2 ^ 64
    → Rules (generated tree) (tokens_from 0 (generated_pieces tree)) (generated_file (places_of (lexemes (generated tree) (tokens_from 0 (generated_pieces tree))) (first_of_site (rules_of tree))) tree)
file-read tree one few =
    let rules = rules_of tree in
    let s : ℕ → Lexeme = lexemes (generated tree) (tokens_from 0 (generated_pieces tree)) in
    let first : ℕ → ℕ = first_of_site rules in
    let stands = lexemes-stand s (ending (generated tree)) 0 0 (generated_pieces tree) refl (λ j. let same : 0 + j ≡ j = omega arith in ap s same ∙ shown tree j) in
    let long : behind_rules 0 rules ≡ length (tokens_from 0 (generated_pieces tree)) = let l = rules-long [] 0 1 rules in let t = tokens-long 0 (generated_pieces tree) in omega arith in
    let low = file-low s rules stands in
    let count = tokens-long 0 (generated_pieces tree) in (
      λ i l e. low i (omega arith),
      (state s first (behind_rules 0 rules) (sites_all 1 rules), contents-spelled s first rules (one-more _ _ few) (rules_read tree one) (sites-begin rules) stands, long, places-are s first rules, refl),
    )

-- ---- each rule takes a byte, so there are not too many

one-byte : (n : ℕ) (r : TypeRule) (tail : List ℕ) → 1 + length tail ≤ length (rule_text n r ++ tail)
one-byte n r tail = let e = length-append (rule_text n r) tail in let some : 1 ≤ length (rule_text n r) = omega arith in omega arith

texts-long : (n : ℕ) (rs : List TypeRule) → length rs ≤ length (rules_text n rs)
texts-long n [] = omega arith
texts-long n (r ∷ rs) = let more = texts-long (suc n) rs in let here = one-byte n r (rules_text (suc n) rs) in omega arith

pub rules-few : (tree : Forest) → length (generated tree) ≤ rules_limit → length (rules_of tree) < 2 ^ 64
rules-few tree short = let long = texts-long 1 (rules_of tree) in omega arith
