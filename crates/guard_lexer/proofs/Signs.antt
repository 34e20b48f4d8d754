-- What stands in front of bytes that begin with no name, number, variable, text or pattern: a mark or a note.
use Rattle.std.proofs.Common.{◌≡◌, ℕ, suc, ◌+◌, Bool, true, false, List, [], ◌∷◌, ◌++◌, length, Some, None, refl, sym, ap, ◌∙◌, subst, arith, inl, inr, ◌&&◌}
use Rattle.std.specs.Prelude.{if◌then◌else◌, ◌==◌}
use Rattle.std.proofs.lemmas.Option.{none-some}
use Rattle.guard_lexer.specs.declared.token.Mark.{Mark}
use Rattle.guard_lexer.specs.declared.token.TokenKind.TheVariants as k
use Rattle.guard_lexer.specs.declared.token.LexRefusal.TheVariants as r
use Rattle.guard_lexer.specs.Forms.{EndsNote, mark_text, Name, TypeName, Var, Str, Pat, Numeral, Note, Sign}
use Rattle.guard_lexer.specs.Lexes.{IsUnclosed, IsFault}
use Rattle.guard_lexer.specs.code.Reach.{note_end, opened, is_single, is_doubled, single_reach, sign_reach, reach}
use Rattle.guard_lexer.specs.code.Firsts.{IsOther}
use Rattle.guard_lexer.proofs.Lists.{tested, same_byte, other_byte, is_byte, not_byte, head_is, tail_is, on_true, on_false}
use Rattle.guard_lexer.proofs.Reaches.{note_is}
use Rattle.guard_lexer.proofs.Ends.{noted_form}
use Rattle.guard_lexer.proofs.Firsts.{Found, found, sign_apart, not_open, bad_first}

note_closed : (m r : List ℕ) → EndsNote m → IsUnclosed (60 ∷ 60 ∷ (m ++ r)) → ⊥
note_closed m r h (Note, o, none) = none (60 ∷ 60 ∷ m) r refl (m, refl, h)
note_closed m r h (Str, (x, inl f), none) = other_byte 60 34 refl (head_is 60 34 (60 ∷ (m ++ r)) x f)
note_closed m r h (Str, (x, inr f), none) = other_byte 60 39 refl (head_is 60 39 (60 ∷ (m ++ r)) x f)
note_closed m r h (Pat, (x, f), none) = other_byte 60 47 refl (head_is 60 47 (60 ∷ (m ++ r)) x f)
note_closed m r h (Name, o, none) = o
note_closed m r h (TypeName, o, none) = o
note_closed m r h (Var, o, none) = o
note_closed m r h (Numeral, o, none) = o
note_closed m r h (Sign mark, o, none) = o

noted : (dot : Bool) (m r : List ℕ) (n : ℕ) → EndsNote m → length m ≡ n → Found dot k.Note (60 ∷ 60 ∷ (m ++ r)) (suc (suc n))
noted dot m r n h s =
    let z : 0 + length m ≡ length m = omega arith in
    found dot k.Note (60 ∷ 60 ∷ (m ++ r)) (60 ∷ 60 ∷ m) r (suc (suc n)) refl (ap (λ x. suc (suc x)) s) (ap (λ o. suc (suc (opened 0 o))) (note_is m r h) ∙ ap (λ x. suc (suc x)) (z ∙ s)) (m, refl, h) tt
    (note_closed m r h) (λ x _. cc)

pub note_found : (dot : Bool) (bs : List ℕ) (n : ℕ) → note_end false bs ≡ Some n → Found dot k.Note (60 ∷ 60 ∷ bs) (suc (suc n))
note_found dot bs n e = let f = noted_form bs n e in subst (λ x. Found dot k.Note (60 ∷ 60 ∷ x) (suc (suc n))) (sym f.joined) (noted dot f.text f.rest n f.is f.size)

no_note : (bs text rest m : List ℕ) → note_end false bs ≡ None → 60 ∷ 60 ∷ bs ≡ text ++ rest → text ≡ 60 ∷ 60 ∷ m → EndsNote m → ⊥
no_note bs text rest m e j i h =
    let s : 60 ∷ 60 ∷ bs ≡ 60 ∷ 60 ∷ (m ++ rest) = j ∙ ap (λ x. x ++ rest) i in
    none-some _ (sym e ∙ ap (note_end false) (tail_is 60 60 bs (m ++ rest) (tail_is 60 60 (60 ∷ bs) (60 ∷ (m ++ rest)) s)) ∙ note_is m rest h)

pub note_open : (bs : List ℕ) → note_end false bs ≡ None → IsUnclosed (60 ∷ 60 ∷ bs)
note_open bs e = (Note, (bs, refl), λ text rest j h. no_note bs text rest h.0 e j h.1 h.2)

-- ---- marks

other_reach : (dot : Bool) (b : ℕ) (bs : List ℕ) → IsOther b → reach dot (b ∷ bs) ≡ sign_reach b bs
other_reach dot b bs o = let p = not_byte b 37 o.percent in rw (o.letter, o.numeral, p, o.quote) refl

pub single_found : (dot : Bool) (b : ℕ) (bs : List ℕ) (mark : Mark) → IsOther b → is_single b ≡ true → mark_text mark ≡ b ∷ [] → sign_reach b bs ≡ single_reach b → (IsUnclosed (b ∷ bs) → ⊥) → Found dot (k.Mark mark) (b ∷ bs) 1
single_found dot b bs mark o s t e closed = found dot (k.Mark mark) (b ∷ bs) (b ∷ []) bs 1 refl refl (other_reach dot b bs o ∙ e ∙ on_true (is_single b) 1 0 s) (sym t) tt closed (λ x _. sign_apart mark x)

pub single_bad : (dot : Bool) (at b : ℕ) (bs : List ℕ) → IsOther b → is_single b ≡ false → sign_reach b bs ≡ single_reach b → (IsUnclosed (b ∷ bs) → ⊥) → IsFault dot at (b ∷ bs) (r.BadByte at)
single_bad dot at b bs o s e closed = bad_first dot at b bs o.blank (other_reach dot b bs o ∙ e ∙ on_false (is_single b) 1 0 s) closed

pub not_both : (v : Bool) → (v && false) ≡ false
not_both true = refl
not_both false = refl

equals_reach : (b : ℕ) (bs : List ℕ) → sign_reach b (61 ∷ bs) ≡ (if is_doubled b then 2 else single_reach b)
equals_reach b bs = ap (λ v. if v then suc (suc (opened 0 (note_end false bs))) else (if is_doubled b then 2 else single_reach b)) (not_both (b == 60))

equals_closed : (b : ℕ) (bs : List ℕ) → IsOther b → IsUnclosed (b ∷ 61 ∷ bs) → ⊥
equals_closed b bs o = not_open b (61 ∷ bs) o.quote (λ c cs e f g. other_byte 61 60 refl (head_is 61 c bs cs f ∙ g))

pub double_found : (dot : Bool) (b : ℕ) (bs : List ℕ) (mark : Mark) → IsOther b → is_doubled b ≡ true → mark_text mark ≡ b ∷ 61 ∷ [] → Found dot (k.Mark mark) (b ∷ 61 ∷ bs) 2
double_found dot b bs mark o d t =
    found dot (k.Mark mark) (b ∷ 61 ∷ bs) (b ∷ 61 ∷ []) bs 2 refl refl (other_reach dot b (61 ∷ bs) o ∙ equals_reach b bs ∙ on_true (is_doubled b) 2 (single_reach b) d) (sym t) tt (equals_closed b bs o) (λ x _. sign_apart mark x)

-- where the byte before `=` is doubled by no mark, and at any other byte behind it, the mark of one byte is alone
pub equals_alone : (b : ℕ) (bs : List ℕ) → IsOther b → is_doubled b ≡ false → (sign_reach b (61 ∷ bs) ≡ single_reach b) × (IsUnclosed (b ∷ 61 ∷ bs) → ⊥)
equals_alone b bs o d = (equals_reach b bs ∙ on_false (is_doubled b) 2 (single_reach b) d, equals_closed b bs o)

pub none_alone : (b : ℕ) → IsOther b → (sign_reach b [] ≡ single_reach b) × (IsUnclosed (b ∷ []) → ⊥)
none_alone b o = (refl, not_open b [] o.quote (λ c cs e f g. cc))

pub byte_alone : (b c : ℕ) (bs : List ℕ) → IsOther b → (b == 60 && c == 60) ≡ false → (c ≡ 61 → ⊥) → (sign_reach b (c ∷ bs) ≡ single_reach b) × (IsUnclosed (b ∷ c ∷ bs) → ⊥)
byte_alone b c bs o n d = (
  on_false (b == 60 && c == 60) (suc (suc (opened 0 (note_end false bs)))) (if c == 61 && is_doubled b then 2 else single_reach b) n ∙ ap (λ v. if v && is_doubled b then 2 else single_reach b) (not_byte c 61 d),
  not_open b (c ∷ bs) o.quote (λ x xs e f g. other_pair (is_byte b 60 e) (is_byte c 60 (head_is c x bs xs f ∙ g))),
)
  where
    other_pair : (b == 60) ≡ true → (c == 60) ≡ true → ⊥
    other_pair e f = cc (sym n ∙ ap (λ v. v && c == 60) e ∙ f)

pub is_pair : (b c : ℕ) → (b == 60 && c == 60) ≡ true → (b ≡ 60) × (c ≡ 60)
is_pair b c e = elim (tested (b == 60)) [
  | inl t ↦ (same_byte b 60 t, same_byte c 60 (sym (ap (λ v. v && c == 60) t) ∙ e))
  | inr t ↦ absurd (cc (sym (ap (λ v. v && c == 60) t) ∙ e))
]
