-- Steps over the bytes of a text, a pattern or a note.
use Rattle.std.proofs.Common.{◌≡◌, ◌⊎◌, inl, inr, ℕ, suc, ◌+◌, ◌-◌, ◌<◌, ◌≤◌, Bool, true, false, cond, List, [], ◌∷◌, ◌++◌, Option, Some, None, length, get_or, take, drop, refl, ap, sym, ◌∙◌, arith, append_assoc, length-drop, nat_lt, true≢false}
use Rattle.std.specs.Prelude.{slice_range, ◌==◌, ◌&&◌}
use Rattle.std.proofs.lemmas.Bool.{ltb-true, ltb-false, eqb-true}
use Rattle.std.specs.List.{list_all}
use Rattle.std.proofs.Math.Seq.{drop-cons}
use Rattle.std.proofs.lemmas.List.{take_more, drop_all, append-nil, get_or-drop}
use Rattle.std.proofs.lemmas.List.Folds.{list_all-append}
use Rattle.guard_lexer.specs.Bytes.{is_white}
use Rattle.literal_parser.specs.Lexemes.{unquoted, text_within, front_trimmed, back_trimmed, name_word, word_of, keyword_of}
use Rattle.guard_lexer.specs.declared.token.TokenKind.{TokenKind}
use Rattle.guard_lexer.specs.declared.token.TokenKind.TheVariants as k
use Rattle.literal_parser.specs.Forms.{text_in}
use Rattle.literal_parser.specs.declared.keyword.Keyword.{Keyword}

pub drop_more : (xs : List ℕ) (i : ℕ) → i < length xs → drop i xs ≡ get_or xs i 0 ∷ drop (i + 1) xs
drop_more xs i within =
    let next : suc i ≡ i + 1 = omega arith in
    drop-cons xs i 0 within ∙ ap (λ (k : ℕ). get_or xs i 0 ∷ drop k xs) next

-- ---- white space

pub front_white : (bytes : List ℕ) (i : ℕ) → i < length bytes → is_white (get_or bytes i 0) ≡ true → front_trimmed (drop (i + 1) bytes) ≡ front_trimmed (drop i bytes)
front_white bytes i within e =
    sym (ap front_trimmed (drop_more bytes i within) ∙ ap (λ (b : Bool). cond b (front_trimmed (drop (i + 1) bytes)) (get_or bytes i 0 ∷ drop (i + 1) bytes)) e)

pub front_solid : (bytes : List ℕ) (i : ℕ) → i < length bytes → is_white (get_or bytes i 0) ≡ false → front_trimmed (drop i bytes) ≡ drop i bytes
front_solid bytes i within e =
    ap front_trimmed (drop_more bytes i within) ∙ ap (λ (b : Bool). cond b (front_trimmed (drop (i + 1) bytes)) (get_or bytes i 0 ∷ drop (i + 1) bytes)) e
    ∙ sym (drop_more bytes i within)

and_true : (b : Bool) → (b && true) ≡ b
and_true true = refl
and_true false = refl

and_false : (b : Bool) → (b && false) ≡ false
and_false true = refl
and_false false = refl

-- a byte behind others
all_behind : (xs : List ℕ) (x : ℕ) (b : Bool) → is_white x ≡ b → list_all is_white (xs ++ x ∷ []) ≡ (list_all is_white xs && b)
all_behind xs x b e = list_all-append is_white xs (x ∷ []) ∙ ap (λ (c : Bool). list_all is_white xs && c) (and_true (is_white x) ∙ e)

pub back_white : (xs : List ℕ) (x : ℕ) → is_white x ≡ true → back_trimmed (xs ++ x ∷ []) ≡ back_trimmed xs
back_white [] x e = ap (λ (b : Bool). cond (b && true) [] (x ∷ [])) e
back_white (y ∷ xs) x e =
    ap (λ (b : Bool). cond (is_white y && b) [] (y ∷ back_trimmed (xs ++ x ∷ []))) (all_behind xs x true e ∙ and_true (list_all is_white xs))
    ∙ ap (λ (t : List ℕ). cond (is_white y && list_all is_white xs) [] (y ∷ t)) (back_white xs x e)

pub back_solid : (xs : List ℕ) (x : ℕ) → is_white x ≡ false → back_trimmed (xs ++ x ∷ []) ≡ xs ++ x ∷ []
back_solid [] x e = ap (λ (b : Bool). cond (b && true) [] (x ∷ [])) e
back_solid (y ∷ xs) x e =
    ap (λ (b : Bool). cond (is_white y && b) [] (y ∷ back_trimmed (xs ++ x ∷ []))) (all_behind xs x false e ∙ and_false (list_all is_white xs))
    ∙ ap (λ (b : Bool). cond b [] (y ∷ back_trimmed (xs ++ x ∷ []))) (and_false (is_white y))
    ∙ ap (λ (t : List ℕ). y ∷ t) (back_solid xs x e)

-- ---- quotes

pub second_is : (a b q : ℕ) → (a == 92 && b == q) ≡ true → b ≡ q
second_is a b q e = by_first (a == 92) e where
  by_first : (c : Bool) → (c && b == q) ≡ true → b ≡ q
  by_first true h = eqb-true b q h
  by_first false h = absurd (true≢false (sym h))

-- what has been written, what is to be written next, and what is left
pub escaped : (q : ℕ) (bytes done : List ℕ) (start at : ℕ) → start ≤ at → at + 1 < length bytes → (get_or bytes at 0 == 92 && get_or bytes (at + 1) 0 == q) ≡ true →
    (done ++ slice_range bytes start at) ++ (slice_range bytes (at + 1) (at + 2) ++ unquoted q (drop (at + 2) bytes)) ≡ done ++ (slice_range bytes start at ++ unquoted q (drop at bytes))
escaped q bytes done start at below within e =
    let b : ℕ = get_or bytes at 0 in
    let c : ℕ = get_or bytes (at + 1) 0 in
    let rest : List ℕ = drop (at + 2) bytes in
    let one : at + 2 - (at + 1) ≡ 1 = omega arith in
    let two : at + 1 + 1 ≡ at + 2 = omega arith in
    let here : at < length bytes = omega arith in
    let next : drop (at + 1) bytes ≡ c ∷ rest = drop_more bytes (at + 1) within ∙ ap (λ (k : ℕ). c ∷ drop k bytes) two in
    let both : drop at bytes ≡ b ∷ (c ∷ rest) = drop_more bytes at here ∙ ap (λ (xs : List ℕ). b ∷ xs) next in
    let piece : slice_range bytes (at + 1) (at + 2) ≡ q ∷ [] = ap (λ (n : ℕ). take n (drop (at + 1) bytes)) one ∙ ap (λ (xs : List ℕ). take 1 xs) next ∙ ap (λ (x : ℕ). x ∷ []) (second_is b c q e) in
    let read : unquoted q (drop at bytes) ≡ q ∷ unquoted q rest = ap (unquoted q) both ∙ ap (λ (t : Bool). cond t (q ∷ unquoted q rest) (b ∷ unquoted q (c ∷ rest))) e in
    append_assoc done (slice_range bytes start at) (slice_range bytes (at + 1) (at + 2) ++ unquoted q rest)
    ∙ ap (λ (xs : List ℕ). done ++ (slice_range bytes start at ++ (xs ++ unquoted q rest))) piece
    ∙ ap (λ (xs : List ℕ). done ++ (slice_range bytes start at ++ xs)) (sym read)

pub plain : (q : ℕ) (bytes done : List ℕ) (start at : ℕ) → start ≤ at → at + 1 < length bytes → (get_or bytes at 0 == 92 && get_or bytes (at + 1) 0 == q) ≡ false →
    done ++ (slice_range bytes start (at + 1) ++ unquoted q (drop (at + 1) bytes)) ≡ done ++ (slice_range bytes start at ++ unquoted q (drop at bytes))
plain q bytes done start at below within e =
    let b : ℕ = get_or bytes at 0 in
    let c : ℕ = get_or bytes (at + 1) 0 in
    let rest : List ℕ = drop (at + 1 + 1) bytes in
    let long : at + 1 - start ≡ at - start + 1 = omega arith in
    let location : start + (at - start) ≡ at = omega arith in
    let here : at < length bytes = omega arith in
    let size : at - start < length (drop start bytes) = omega (arith, length-drop start bytes) in
    let next : drop (at + 1) bytes ≡ c ∷ rest = drop_more bytes (at + 1) within in
    let both : drop at bytes ≡ b ∷ (c ∷ rest) = drop_more bytes at here ∙ ap (λ (xs : List ℕ). b ∷ xs) next in
    let same : get_or (drop start bytes) (at - start) 0 ≡ b = get_or-drop start bytes (at - start) 0 ∙ ap (λ (k : ℕ). get_or bytes k 0) location in
    let piece : slice_range bytes start (at + 1) ≡ slice_range bytes start at ++ b ∷ [] =
    ap (λ (n : ℕ). take n (drop start bytes)) long ∙ take_more (drop start bytes) (at - start) 0 size ∙ ap (λ (x : ℕ). slice_range bytes start at ++ x ∷ []) same in
    let read : unquoted q (drop at bytes) ≡ b ∷ unquoted q (drop (at + 1) bytes) =
    ap (unquoted q) both ∙ ap (λ (t : Bool). cond t (q ∷ unquoted q rest) (b ∷ unquoted q (c ∷ rest))) e ∙ ap (λ (xs : List ℕ). b ∷ unquoted q xs) (sym next) in
    ap (λ (xs : List ℕ). done ++ (xs ++ unquoted q (drop (at + 1) bytes))) piece
    ∙ ap (λ (xs : List ℕ). done ++ xs) (append_assoc (slice_range bytes start at) (b ∷ []) (unquoted q (drop (at + 1) bytes)))
    ∙ ap (λ (xs : List ℕ). done ++ (slice_range bytes start at ++ xs)) (sym read)

-- one byte at most is left
none_left : (q : ℕ) (bytes : List ℕ) (at : ℕ) → length bytes ≤ at + 1 → unquoted q (drop at bytes) ≡ []
none_left q bytes at past = by_place (nat_lt at (length bytes)) refl where
  by_place : (b : Bool) → nat_lt at (length bytes) ≡ b → unquoted q (drop at bytes) ≡ []
  by_place true is =
      let here : at < length bytes = ltb-true at (length bytes) is in
      ap (unquoted q) (drop_more bytes at here ∙ ap (λ (xs : List ℕ). get_or bytes at 0 ∷ xs) (drop_all (at + 1) bytes past))
  by_place false is = ap (unquoted q) (drop_all at bytes (ltb-false at (length bytes) is))

pub closed : (q : ℕ) (bytes done : List ℕ) (start at : ℕ) → length bytes ≤ at + 1 → done ++ slice_range bytes start at ≡ done ++ (slice_range bytes start at ++ unquoted q (drop at bytes))
closed q bytes done start at past =
    ap (λ (xs : List ℕ). done ++ xs) (sym (append-nil (slice_range bytes start at)) ∙ ap (λ (xs : List ℕ). slice_range bytes start at ++ xs) (sym (none_left q bytes at past)))

-- behind the quote
pub within_quote : (bytes : List ℕ) → 0 < length bytes → text_within bytes ≡ unquoted (get_or bytes 0 0) (drop 1 bytes)
within_quote [] some = absurd (omega arith)
within_quote (q ∷ bytes) some = refl

-- the bytes in front, of which this is the last
pub one_longer : (bytes : List ℕ) (n : ℕ) → 0 < n → n ≤ length bytes → take n bytes ≡ take (n - 1) bytes ++ get_or bytes (n - 1) 0 ∷ []
one_longer bytes n some within =
    let same : n ≡ n - 1 + 1 = omega arith in
    let inside : n - 1 < length bytes = omega arith in
    ap (λ (k : ℕ). take k bytes) same ∙ take_more bytes (n - 1) 0 inside

-- ---- what a name says

by_keyword : (o : Option Keyword) (name : List ℕ) → name ≡ text_in (name_word o name)
by_keyword None name = refl
by_keyword (Some keyword) name = refl

name_says : (name : List ℕ) → name ≡ text_in (name_word (keyword_of name) name)
name_says name = by_keyword (keyword_of name) name

pub plain_says : (kind : TokenKind) (name : List ℕ) → (kind ≡ k.Name) ⊎ (kind ≡ k.TypeName) → name ≡ text_in (word_of kind name)
plain_says kind name (inl e) = name_says name ∙ ap (λ n. text_in (word_of n name)) (sym e)
plain_says kind name (inr e) = ap (λ n. text_in (word_of n name)) (sym e)
