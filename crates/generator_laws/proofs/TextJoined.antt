-- The pieces of generated rules, one behind the other, are their text. By induction on the rules.
use Rattle.std.proofs.Common.{◌≡◌, ℕ, suc, List, [], ◌∷◌, ◌++◌, codes, decimal, refl, sym, ap, ◌∙◌, append_assoc, flat_map}
use Rattle.std.specs.List.{join_by}
use Rattle.doc_values.specs.declared.kind.Kind.{Kind}
use Rattle.doc_values.specs.declared.kind.Kind.TheVariants as kind
use Rattle.guard_lexer.specs.declared.token.Mark.TheVariants as m
use Rattle.rule_meaning.specs.Values.{Value}
use Rattle.rule_spelling.specs.Spelling.{scalar_of, quoted}
use Rattle.rule_spelling.specs.code.Pieces.{Piece, spelled}
use Rattle.rule_spelling.specs.code.Tokens.{space, mark}
use Rattle.rule_generator.specs.GeneratedRules.{KeptKey, TypeRule, value_text, let_line, rule_line, key_line, rule_text, rules_text}
use Rattle.rule_generator.specs.code.GeneratedPieces.{new_line, scalar_piece, more_values, value_pieces, keys_pieces, rule_pieces, rules_pieces}
use Rattle.rule_generator.proofs.GeneratedTokens.{end_of}

-- a line of a key, digits, the key, its values and what is behind them
abbrev before_values : (d q y : List ℕ) → List ℕ
before_values d q y = codes "\n  " ++ ((codes "%" ++ (codes "t" ++ d)) ++ (codes "." ++ (codes "Properties" ++ (codes "." ++ (q ++ (codes " " ++ (codes "IN" ++ (codes " " ++ (codes "[" ++ y)))))))))

key_joined : (d q v f tail : List ℕ)
    → before_values d q (v ++ (codes "]" ++ (codes "\n" ++ (f ++ tail)))) ≡ codes "\n" ++ (((codes "  %t" ++ d ++ codes ".Properties." ++ q ++ codes " IN [" ++ v ++ codes "]\n") ++ f) ++ tail)
key_joined d q v f tail = simp append_assoc

-- the line of a let, and that of a rule up to its brace
abbrev before_rule : (gap d q y : List ℕ) → List ℕ
before_rule gap d q y =
    gap ++ (codes "let" ++ (codes " " ++ ((codes "t" ++ d) ++ (codes " " ++ (codes "=" ++ (codes " " ++ (codes "Resources" ++ (codes "." ++ (codes "*" ++ (codes "[" ++ (codes " " ++ (codes "Type" ++ (codes " " ++ (codes "==" ++ (codes " " ++ (q
    ++ (codes " " ++ (codes "]" ++ (codes "\n" ++ y)))))))))))))))))))

abbrev before_keys : (d y : List ℕ) → List ℕ
before_keys d y =
    codes "rule" ++ (codes " " ++ ((codes "t" ++ d) ++ (codes " " ++ (codes "when" ++ (codes " " ++ ((codes "%" ++ (codes "t" ++ d)) ++ (codes " " ++ (codes "!" ++ (codes "empty" ++ (codes " " ++ (codes "{" ++ y)))))))))))

let_joined : (gap d q y : List ℕ) → before_rule gap d q y ≡ gap ++ ((codes "let t" ++ d ++ codes " = Resources.*[ Type == " ++ q ++ codes " ]\n") ++ y)
let_joined gap d q y = simp append_assoc

head_joined : (d y : List ℕ) → before_keys d (codes "\n" ++ y) ≡ (codes "rule t" ++ d ++ codes " when %t" ++ d ++ codes " !empty {\n") ++ y
head_joined d y = simp append_assoc

four : (a b c d tail : List ℕ) → (a ++ b ++ c ++ d) ++ tail ≡ a ++ (b ++ (c ++ (d ++ tail)))
four a b c d tail = simp append_assoc

module _ (end : List ℕ) where
  abbrev S : List Piece → List ℕ
  S ps = spelled ps end

  scalar_in : (gap : List ℕ) (kd : Kind) (text : List ℕ) (rest : List Piece) → S (scalar_piece gap kd text rest) ≡ gap ++ (scalar_of kd text ++ S rest)
  scalar_in gap kind.Text text rest = refl
  scalar_in gap kind.Pattern text rest = refl
  scalar_in gap (kind.Whole n) text rest = refl
  scalar_in gap (kind.Fraction d) text rest = refl
  scalar_in gap (kind.Truth b) text rest = refl
  scalar_in gap kind.Null text rest = refl
  scalar_in gap kind.List text rest = refl
  scalar_in gap kind.Map text rest = refl
  scalar_in gap (kind.Limits r) text rest = refl

  more_in : (vs : List Value) (rest : List Piece) → S (more_values vs rest) ≡ flat_map (λ v. codes ", " ++ value_text v) vs ++ S rest
  more_in [] rest = refl
  more_in (v ∷ vs) rest = ap (λ (x : List ℕ). codes "," ++ x) (scalar_in space v.kind v.text (more_values vs rest)) ∙ simp (append_assoc, more_in vs rest)

  values_in : (vs : List Value) (rest : List Piece) → S (value_pieces vs rest) ≡ join_by value_text (codes ", ") vs ++ S rest
  values_in [] rest = refl
  values_in (v ∷ vs) rest = scalar_in [] v.kind v.text (more_values vs rest) ∙ simp (append_assoc, more_in vs rest)

  keys_in : (n : ℕ) (ks : List KeptKey) (rest : List Piece) (tail : List ℕ) → S rest ≡ codes "\n" ++ tail → S (keys_pieces n ks rest) ≡ codes "\n" ++ (flat_map (key_line n) ks ++ tail)
  keys_in n [] rest tail e = e
  keys_in n (kept ∷ ks) rest tail e =
      ap (before_values (decimal n) (quoted kept.key)) (values_in kept.values (mark [] m.RBracket (keys_pieces n ks rest)) ∙ ap (λ (z : List ℕ). join_by value_text (codes ", ") kept.values ++ (codes "]" ++ z)) (keys_in n ks rest tail e))
      ∙ key_joined (decimal n) (quoted kept.key) (join_by value_text (codes ", ") kept.values) (flat_map (key_line n) ks) tail

  rule_in : (gap : List ℕ) (n : ℕ) (r : TypeRule) (rest : List Piece) (tail : List ℕ) → S rest ≡ codes "\n" ++ tail → S (rule_pieces gap n r rest) ≡ gap ++ (rule_text n r ++ tail)
  rule_in gap n r rest tail e =
      let lines : List ℕ = flat_map (key_line n) r.keys in
      ap (λ (y : List ℕ). before_rule gap (decimal n) (quoted r.type) (before_keys (decimal n) y))
      (keys_in n r.keys (mark new_line m.RBrace rest) (codes "}" ++ S rest) refl ∙ ap (λ (z : List ℕ). codes "\n" ++ (lines ++ (codes "}" ++ z))) e)
      ∙ let_joined gap (decimal n) (quoted r.type) (before_keys (decimal n) (codes "\n" ++ (lines ++ (codes "}" ++ (codes "\n" ++ tail)))))
      ∙ ap (λ (z : List ℕ). gap ++ (let_line n r.type ++ z)) (head_joined (decimal n) (lines ++ (codes "}" ++ (codes "\n" ++ tail))))
      ∙ ap (λ (z : List ℕ). gap ++ z) (sym (four (let_line n r.type) (rule_line n) lines (codes "}\n") tail))

rows_in : (n : ℕ) (rs : List TypeRule) → spelled (rules_pieces new_line n rs) new_line ≡ codes "\n" ++ rules_text n rs
rows_in n [] = refl
rows_in n (r ∷ rs) = rule_in new_line new_line n r (rules_pieces new_line (suc n) rs) (rules_text (suc n) rs) (rows_in (suc n) rs)

pub rules_in : (n : ℕ) (rs : List TypeRule) → spelled (rules_pieces [] n rs) (end_of rs) ≡ rules_text n rs
rules_in n [] = refl
rules_in n (r ∷ rs) = rule_in new_line [] n r (rules_pieces new_line (suc n) rs) (rules_text (suc n) rs) (rows_in (suc n) rs)
