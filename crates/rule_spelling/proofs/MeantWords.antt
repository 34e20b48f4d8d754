-- What tokens mean has a spelling: texts and patterns end in no backslash, notes have no white space at their ends and no `>>`.
use Rattle.std.proofs.Common.{◌≡◌, ◌≢◌, ℕ, suc, ◌-◌, ◌≤◌, Bool, true, false, List, [], ◌∷◌, length, take, refl, sym, ap, ◌∙◌, subst, arith, inl, inr, ◌⊎◌, ◌&&◌, ◌||◌}
use Rattle.std.specs.Prelude.{◌==◌, slice_range}
use Rattle.std.specs.List.{list_all}
use Rattle.std.proofs.lemmas.Bool.{true≢false}
use Rattle.decimals.specs.declared.decimal.Num.{Num}
use Rattle.decimals.specs.declared.decimal.Num.TheVariants as num
use Rattle.decimals.specs.Number.{IsNumber}
use Rattle.guard_lexer.specs.Bytes.{is_white}
use Rattle.guard_lexer.specs.Forms.{IsName, Closes, EndsNote, HasForm, Var, Str, Pat, Note}
use Rattle.guard_lexer.proofs.Lists.{tested, same_byte, is_byte, not_byte, on_true, on_false}
use Rattle.guard_lexer.proofs.Reaches.{below}
use Rattle.literal_parser.specs.Lexemes.{unquoted, text_within, front_trimmed, back_trimmed, note_within}
use Rattle.rule_spelling.specs.Spelling.{ends_in_backslash}
use Rattle.rule_spelling.specs.code.Pieces.{IsInRange, IsNoted, closes_note}
use Rattle.rule_spelling.proofs.NumeralEnds.{neither}
use Rattle.rule_spelling.proofs.Words.{whole}

-- ---- texts and patterns

ends_more : (b : ℕ) (text : List ℕ) → (b == 92) ≡ false → ends_in_backslash text ≡ false → ends_in_backslash (b ∷ text) ≡ false
ends_more b [] e h = e
ends_more b (c ∷ text) e h = h

ends_behind : (b : ℕ) (text : List ℕ) → text ≢ [] → ends_in_backslash text ≡ false → ends_in_backslash (b ∷ text) ≡ false
ends_behind b [] some h = absurd (some refl)
ends_behind b (c ∷ text) some h = h

cons_some : (b : ℕ) (text : List ℕ) → b ∷ text ≡ [] → ⊥
cons_some b text e = cc

some_read : (q c d : ℕ) (bs : List ℕ) → unquoted q (c ∷ d ∷ bs) ≢ []
some_read q c d bs e = elim (tested (c == 92 && d == q)) [
  | inl t ↦ cons_some q (unquoted q bs) (sym (on_true (c == 92 && d == q) (q ∷ unquoted q bs) (c ∷ unquoted q (d ∷ bs)) t) ∙ e)
  | inr t ↦ cons_some c (unquoted q (d ∷ bs)) (sym (on_false (c == 92 && d == q) (q ∷ unquoted q bs) (c ∷ unquoted q (d ∷ bs)) t) ∙ e)
]

no_escape : (q b c : ℕ) → (b ≡ 92 → c ≢ q) → (b == 92 && c == q) ≡ false
no_escape q b c d = elim (tested (b == 92)) [
  | inl t ↦ ap (λ v. v && c == q) t ∙ not_byte c q (d (same_byte b 92 t))
  | inr t ↦ ap (λ v. v && c == q) t
]

is_escape : (q b c : ℕ) → b ≡ 92 → c ≡ q → (b == 92 && c == q) ≡ true
is_escape q b c e d = ap (λ v. v && c == q) (is_byte b 92 e) ∙ is_byte c q d

closed_meant : (q : ℕ) (body : List ℕ) → q ≢ 92 → Closes q body → ends_in_backslash (unquoted q body) ≡ false
closed_meant q [] n h = absurd h
closed_meant q (b ∷ []) n h = refl
closed_meant q (b ∷ c ∷ bs) n (inl (e, d, h)) =
    ap ends_in_backslash (on_true (b == 92 && c == q) (q ∷ unquoted q bs) (b ∷ unquoted q (c ∷ bs)) (is_escape q b c e d)) ∙ ends_more q (unquoted q bs) (not_byte q 92 n) (closed_meant q bs n h)
closed_meant q (b ∷ c ∷ []) n (inr (e, d, h)) =
    ap ends_in_backslash (on_false (b == 92 && c == q) (q ∷ []) (b ∷ []) (no_escape q b c d)) ∙ not_byte b 92 (λ x. d x h)
closed_meant q (b ∷ c ∷ d ∷ bs) n (inr (e, f, h)) =
    ap ends_in_backslash (on_false (b == 92 && c == q) (q ∷ unquoted q (d ∷ bs)) (b ∷ unquoted q (c ∷ d ∷ bs)) (no_escape q b c f))
    ∙ ends_behind b (unquoted q (c ∷ d ∷ bs)) (some_read q c d bs) (closed_meant q (c ∷ d ∷ bs) n h)

quote_low : (b : ℕ) → (b ≡ 34) ⊎ (b ≡ 39) → b ≢ 92
quote_low b (inl e) = below b (omega arith)
quote_low b (inr e) = below b (omega arith)

pub text_meant : (dot : Bool) (bytes : List ℕ) → HasForm dot Str bytes → ends_in_backslash (text_within bytes) ≡ false
text_meant dot [] h = absurd h
text_meant dot (b ∷ body) (q, h) = closed_meant b body (quote_low b q) h

pub pattern_meant : (dot : Bool) (bytes : List ℕ) → HasForm dot Pat bytes → ends_in_backslash (text_within bytes) ≡ false
pattern_meant dot [] h = absurd h
pattern_meant dot (b ∷ body) (e, h) = closed_meant b body (below b (omega arith)) (subst (λ x. Closes x body) (sym e) h)

-- ---- variables and numbers

pub variable_meant : (dot : Bool) (bytes : List ℕ) → HasForm dot Var bytes → IsName (slice_range bytes 1 (length bytes))
variable_meant dot [] h = absurd h
variable_meant dot (b ∷ name) (e, h) = subst IsName (sym (whole (suc (length name) - 1) name (omega arith))) h

pub number_meant : (n : Num) (bytes : List ℕ) → IsNumber bytes n → IsInRange n
number_meant (num.Whole n) bytes i = let (f, p, e, fits) = i.value in fits
number_meant (num.Fraction d) bytes i = let (s, e, normal) = i.value in normal

-- ---- white space at both ends

blank_or : (bytes : List ℕ) → front_trimmed (front_trimmed bytes) ≡ front_trimmed bytes
blank_or [] = refl
blank_or (b ∷ bytes) = elim (tested (is_white b)) [
  | inl t ↦ let e = on_true (is_white b) (front_trimmed bytes) (b ∷ bytes) t in ap front_trimmed e ∙ blank_or bytes ∙ sym e
  | inr t ↦ let e = on_false (is_white b) (front_trimmed bytes) (b ∷ bytes) t in ap front_trimmed e
]

module _ (b : ℕ) (bytes : List ℕ) where
  all_blank : list_all is_white (b ∷ bytes) ≡ true → back_trimmed (b ∷ bytes) ≡ []
  all_blank e = on_true (list_all is_white (b ∷ bytes)) [] (b ∷ back_trimmed bytes) e

  not_blank : list_all is_white (b ∷ bytes) ≡ false → back_trimmed (b ∷ bytes) ≡ b ∷ back_trimmed bytes
  not_blank e = on_false (list_all is_white (b ∷ bytes)) [] (b ∷ back_trimmed bytes) e

-- a byte that is not white stays in front
front_kept : (bytes : List ℕ) → front_trimmed bytes ≡ bytes → front_trimmed (back_trimmed bytes) ≡ back_trimmed bytes
front_kept [] e = refl
front_kept (b ∷ bytes) e = elim (tested (list_all is_white (b ∷ bytes))) [
  | inl t ↦ ap front_trimmed (all_blank b bytes t) ∙ sym (all_blank b bytes t)
  | inr t ↦ ap front_trimmed (not_blank b bytes t) ∙ on_false (is_white b) (front_trimmed (back_trimmed bytes)) (b ∷ back_trimmed bytes) (solid (tested (is_white b))) ∙ sym (not_blank b bytes t)
]
  where
    lengths : (xs : List ℕ) → length (front_trimmed xs) ≤ length xs
    lengths [] = omega arith
    lengths (c ∷ xs) = elim (tested (is_white c)) [
      | inl u ↦ subst (λ x. length x ≤ suc (length xs)) (sym (on_true (is_white c) (front_trimmed xs) (c ∷ xs) u)) (let i = lengths xs in omega arith)
      | inr u ↦ subst (λ x. length x ≤ suc (length xs)) (sym (on_false (is_white c) (front_trimmed xs) (c ∷ xs) u)) (omega arith)
    ]

    solid : (is_white b ≡ true) ⊎ (is_white b ≡ false) → is_white b ≡ false
    solid (inl u) =
        let n : length (front_trimmed bytes) ≡ suc (length bytes) = ap (λ (x : List ℕ). length x) (sym (on_true (is_white b) (front_trimmed bytes) (b ∷ bytes) u) ∙ e) in
        let i = lengths bytes in absurd (omega arith)
    solid (inr u) = u

and_false : (v : Bool) → (v && false) ≡ false
and_false true = refl
and_false false = refl

-- where something is not white, something is not in what is left
still_solid : (bytes : List ℕ) → list_all is_white bytes ≡ false → list_all is_white (back_trimmed bytes) ≡ false
still_solid [] e = absurd (true≢false e)
still_solid (b ∷ bytes) e = ap (list_all is_white) (not_blank b bytes e) ∙ elim (tested (is_white b)) [
  | inl t ↦ ap (λ v. is_white b && v) (still_solid bytes (sym (ap (λ v. v && list_all is_white bytes) t) ∙ e)) ∙ and_false (is_white b)
  | inr t ↦ ap (λ v. v && list_all is_white (back_trimmed bytes)) t
]

back_kept : (bytes : List ℕ) → back_trimmed (back_trimmed bytes) ≡ back_trimmed bytes
back_kept [] = refl
back_kept (b ∷ bytes) = elim (tested (list_all is_white (b ∷ bytes))) [
  | inl t ↦ ap back_trimmed (all_blank b bytes t) ∙ sym (all_blank b bytes t)
  | inr t ↦
      ap back_trimmed (not_blank b bytes t)
      ∙ not_blank b (back_trimmed bytes) (sym (ap (list_all is_white) (not_blank b bytes t)) ∙ still_solid (b ∷ bytes) t)
      ∙ ap (λ x. b ∷ x) (back_kept bytes) ∙ sym (not_blank b bytes t)
]

-- ---- no `>>`

closes_behind : (b : ℕ) (bytes : List ℕ) → closes_note (b ∷ bytes) ≡ false → closes_note bytes ≡ false
closes_behind b [] e = refl
closes_behind b (c ∷ bytes) e = (neither (b == 62 && c == 62) (closes_note (c ∷ bytes)) e).1

front_open : (bytes : List ℕ) → closes_note bytes ≡ false → closes_note (front_trimmed bytes) ≡ false
front_open [] e = refl
front_open (b ∷ bytes) e = elim (tested (is_white b)) [
  | inl t ↦ ap closes_note (on_true (is_white b) (front_trimmed bytes) (b ∷ bytes) t) ∙ front_open bytes (closes_behind b bytes e)
  | inr t ↦ ap closes_note (on_false (is_white b) (front_trimmed bytes) (b ∷ bytes) t) ∙ e
]

back_open : (bytes : List ℕ) → closes_note bytes ≡ false → closes_note (back_trimmed bytes) ≡ false
back_open [] e = refl
back_open (b ∷ []) e = elim (tested (list_all is_white (b ∷ []))) [
  | inl t ↦ ap closes_note (all_blank b [] t)
  | inr t ↦ ap closes_note (not_blank b [] t)
]
back_open (b ∷ c ∷ bytes) e = elim (tested (list_all is_white (b ∷ c ∷ bytes))) [
  | inl t ↦ ap closes_note (all_blank b (c ∷ bytes) t)
  | inr t ↦ ap closes_note (not_blank b (c ∷ bytes) t) ∙ elim (tested (list_all is_white (c ∷ bytes))) [
    | inl u ↦ ap (λ x. closes_note (b ∷ x)) (all_blank c bytes u)
    | inr u ↦
        let n = neither (b == 62 && c == 62) (closes_note (c ∷ bytes)) e in
        let rest : closes_note (c ∷ back_trimmed bytes) ≡ false = ap closes_note (sym (not_blank c bytes u)) ∙ back_open (c ∷ bytes) n.1 in
        ap (λ x. closes_note (b ∷ x)) (not_blank c bytes u) ∙ ap (λ v. v || closes_note (c ∷ back_trimmed bytes)) n.0 ∙ rest
  ]
]

-- what stands before the last two bytes
abbrev inner : List ℕ → List ℕ
inner bytes = take (length bytes - 2) bytes

inner_open : (bytes : List ℕ) → EndsNote bytes → closes_note (inner bytes) ≡ false
inner_open [] h = absurd h
inner_open (b ∷ []) h = absurd h
inner_open (b ∷ c ∷ []) h = refl
inner_open (b ∷ c ∷ d ∷ []) h = refl
inner_open (b ∷ c ∷ d ∷ e ∷ bytes) (n, h) =
    let size : length (b ∷ c ∷ d ∷ e ∷ bytes) - 2 ≡ suc (suc (length bytes)) = omega arith in
    let less : length (c ∷ d ∷ e ∷ bytes) - 2 ≡ suc (length bytes) = omega arith in
    let rest : closes_note (c ∷ take (length bytes) (d ∷ e ∷ bytes)) ≡ false = ap (λ i. closes_note (take i (c ∷ d ∷ e ∷ bytes))) (sym less) ∙ inner_open (c ∷ d ∷ e ∷ bytes) h in
    ap (λ i. closes_note (take i (b ∷ c ∷ d ∷ e ∷ bytes))) size
    ∙ ap (λ v. v || closes_note (c ∷ take (length bytes) (d ∷ e ∷ bytes))) (no_pair n) ∙ rest
  where
    no_pair : (b ≡ 62 → c ≢ 62) → (b == 62 && c == 62) ≡ false
    no_pair k = elim (tested (b == 62)) [
      | inl t ↦ ap (λ v. v && c == 62) t ∙ not_byte c 62 (k (same_byte b 62 t))
      | inr t ↦ ap (λ v. v && c == 62) t
    ]

noted : (bytes : List ℕ) → closes_note bytes ≡ false → IsNoted (back_trimmed (front_trimmed bytes))
noted bytes e = record {
  open_end = back_open (front_trimmed bytes) (front_open bytes e);
  front = front_kept (front_trimmed bytes) (blank_or bytes);
  back = back_kept (front_trimmed bytes);
}

pub note_meant : (dot : Bool) (bytes : List ℕ) → HasForm dot Note bytes → IsNoted (note_within bytes)
note_meant dot bytes (rest, e, h) =
    subst (λ x. IsNoted (note_within x)) (sym e)
    (let size : length (60 ∷ 60 ∷ rest) - 2 - 2 ≡ length rest - 2 = omega arith in subst (λ i. IsNoted (back_trimmed (front_trimmed (take i rest)))) (sym size) (noted (inner rest) (inner_open rest h)))
