-- A text has one list of tokens or one refusal, and never both.
use Rattle.std.proofs.Common.{◌≡◌, ◌≢◌, ℕ, suc, ◌+◌, ◌≤◌, Bool, true, false, List, [], ◌∷◌, ◌++◌, length, Option, Some, None, refl, sym, ap, ◌∙◌, subst, arith, inl, inr, ◌⊎◌, ◌&&◌}
use Rattle.std.specs.Prelude.{if◌then◌else◌, ◌==◌, Result, Ok, Err, IfOk, IfErr, MatchResult}
use Rattle.std.proofs.lemmas.Option.{none-some}
use Rattle.std.proofs.lemmas.Bool.Decides.{nat_tests}
use Rattle.decimals.specs.declared.decimal.Num.{Num}
use Rattle.decimals.specs.Number.{IsNumber}
use Rattle.guard_lexer.specs.declared.token.Token.{Token}
use Rattle.guard_lexer.specs.declared.token.TokenKind.{TokenKind}
use Rattle.guard_lexer.specs.declared.token.LexRefusal.{LexRefusal}
use Rattle.guard_lexer.specs.declared.token.LexRefusal.TheVariants as r
use Rattle.guard_lexer.specs.Bytes.{is_letter, is_white}
use Rattle.guard_lexer.specs.Forms.{Form, Name, TypeName, Var, Str, Pat, Numeral, Note, Sign, HasForm, form_of, IsWorth}
use Rattle.guard_lexer.specs.Lexes.{IsLongest, IsOpening, IsUnclosed, BeginsWord, IsToken, IsFigure, IsFault, IsGap, Takes, Ends, Reads, is_dot, Starts, IsTokenList, IsRefused}
use Rattle.guard_lexer.specs.code.Reach.{is_blank, is_quote, is_single, is_doubled, single_reach, sign_reach, begins_numeral, reach, gap_reach, note_end, opened}
use Rattle.guard_lexer.proofs.Lists.{tested, no_clash, tail_is, same_front, on_false}
use Rattle.guard_lexer.proofs.Reaches.{numeral_class, no_numeral, some_form, reach_le}
use Rattle.guard_lexer.proofs.Gaps.{IsSolid, gap_is}
use Rattle.guard_lexer.proofs.Firsts.{opening_is}
use Rattle.guard_lexer.proofs.Signs.{not_both}
use Rattle.guard_lexer.proofs.NumberFirsts.{front_closed}
use Rattle.guard_lexer.proofs.Shapes.{form_same, IsKind, kind_is, kind_same}

-- ---- tokens and faults begin with no white space and no comment

blank_class : (b : ℕ) → is_blank b ≡ true → (is_letter b ≡ false) × (begins_numeral b ≡ false) × ((b == 37) ≡ false) × (is_quote b ≡ false) × ((b == 60) ≡ false) × (is_doubled b ≡ false) × (is_single b ≡ false)
blank_class b e = (grind (arith, nat_tests), grind (arith, nat_tests), grind (arith, nat_tests), grind (arith, nat_tests), grind (arith, nat_tests), grind (arith, nat_tests), grind (arith, nat_tests))

blank_sign : (b : ℕ) (bs : List ℕ) → (b == 60) ≡ false → is_doubled b ≡ false → is_single b ≡ false → sign_reach b bs ≡ 0
blank_sign b [] e d s = on_false (is_single b) 1 0 s
blank_sign b (c ∷ bs) e d s =
    ap (λ w. if w && c == 60 then suc (suc (opened 0 (note_end false bs))) else (if c == 61 && is_doubled b then 2 else single_reach b)) e
    ∙ ap (λ v. if v then 2 else single_reach b) (ap (λ w. c == 61 && w) d ∙ not_both (c == 61)) ∙ on_false (is_single b) 1 0 s

blank_reach : (dot : Bool) (b : ℕ) (bs : List ℕ) → is_blank b ≡ true → reach dot (b ∷ bs) ≡ 0
blank_reach dot b bs e = let p = blank_class b e in rw (p.0, p.1, p.2, p.3) (blank_sign b bs p.4 p.5 p.6)

form_solid : (dot : Bool) (form : Form) (text rest : List ℕ) → HasForm dot form text → IsSolid (text ++ rest)
form_solid dot form [] rest h = absurd (some_form dot form h)
form_solid dot form (b ∷ text) rest h = elim (tested (is_blank b)) [
  | inl e ↦ let i : suc (length text) ≤ 0 = subst (λ n. suc (length text) ≤ n) (blank_reach dot b (text ++ rest) e) (reach_le dot form (b ∷ text) rest h) in absurd (omega arith)
  | inr e ↦ e
]

opening_some : (form : Form) → IsOpening [] form → ⊥
opening_some Str (rest, inl e) = cc
opening_some Str (rest, inr e) = cc
opening_some Pat (rest, e) = cc
opening_some Note (rest, e) = cc
opening_some Name h = h
opening_some TypeName h = h
opening_some Var h = h
opening_some Numeral h = h
opening_some (Sign mark) h = h

quote_solid : (b : ℕ) → is_quote b ≡ true → is_blank b ≡ false
quote_solid b e = grind (arith, nat_tests)

open_solid : (bs : List ℕ) → IsUnclosed bs → IsSolid bs
open_solid [] u = tt
open_solid (b ∷ bs) (form, o, none) = elim (opening_is b bs form o) [
  | inl e ↦ quote_solid b e
  | inr (c, cs, e, f, g) ↦ ap is_blank e
]

white_hash : (b : ℕ) → is_blank b ≡ true → (b ≢ 35) → is_white b ≡ true
white_hash b e n = grind (arith, nat_tests)

byte_solid : (b : ℕ) → is_white b ≡ false → b ≢ 35 → is_blank b ≡ false
byte_solid b w n = elim (tested (is_blank b)) [
  | inl e ↦ absurd (no_clash (white_hash b e n) w)
  | inr e ↦ e
]

fault_solid : (dot : Bool) (at : ℕ) (bs : List ℕ) (q : LexRefusal) → IsFault dot at bs q → IsSolid bs
fault_solid dot at bs (r.Unclosed place) (e, u) = open_solid bs u
fault_solid dot at bs (r.NumberRange place) (e, (text, rest, j, f, n)) = subst IsSolid (sym j) (form_solid dot Numeral text rest f.form)
fault_solid dot at bs (r.BadByte place) (inl (e, (b, more, j, w, n), u, h)) = subst IsSolid (sym j) (byte_solid b w n)
fault_solid dot at bs (r.BadByte place) (inr (text, rest, j, f, n, w, p)) = subst IsSolid (sym j) (form_solid dot Numeral text rest f.form)
fault_solid dot at bs r.NoMemory h = absurd h

some_front : (dot : Bool) (form : Form) (text rest : List ℕ) → HasForm dot form text → [] ≡ text ++ rest → ⊥
some_front dot form [] rest h e = some_form dot form h
some_front dot form (b ∷ text) rest h e = cc

fault_some : (dot : Bool) (at : ℕ) (q : LexRefusal) → IsFault dot at [] q → ⊥
fault_some dot at (r.Unclosed place) (e, (form, o, none)) = opening_some form o
fault_some dot at (r.NumberRange place) (e, (text, rest, j, f, n)) = some_front dot Numeral text rest f.form j
fault_some dot at (r.BadByte place) (inl (e, (b, more, j, w, n), u, h)) = cc
fault_some dot at (r.BadByte place) (inr (text, rest, j, f, n, w, p)) = some_front dot Numeral text rest f.form j
fault_some dot at r.NoMemory h = h

-- ---- the same bytes have one fault, or one token

longest_same : (dot : Bool) (f g : Form) (a x b y : List ℕ) → a ++ x ≡ b ++ y → HasForm dot f a → HasForm dot g b → IsLongest dot a x → IsLongest dot b y → (a ≡ b) × (x ≡ y)
longest_same dot f g a x b y e h i l k = let p = l g b y (sym e) i in let q = k f a x e h in same_front a b x y e (omega arith)

figure_same : (dot : Bool) (bs a x b y : List ℕ) → bs ≡ a ++ x → bs ≡ b ++ y → IsFigure dot a x → IsFigure dot b y → (a ≡ b) × (x ≡ y)
figure_same dot bs a x b y e f g h = longest_same dot Numeral Numeral a x b y (sym e ∙ f) g.form h.form g.longest h.longest

figure_closed : (dot : Bool) (bs text rest : List ℕ) → bs ≡ text ++ rest → IsFigure dot text rest → IsUnclosed bs → ⊥
figure_closed dot bs [] rest j f u = no_numeral dot f.form
figure_closed dot bs (b ∷ text) rest j f u = front_closed (b ∷ (text ++ rest)) (numeral_class dot b text f.form).1 (subst IsUnclosed j u)

fault_same : (dot : Bool) (at : ℕ) (bs : List ℕ) (p q : LexRefusal) → IsFault dot at bs p → IsFault dot at bs q → p ≡ q
fault_same dot at bs (r.Unclosed a) (r.Unclosed b) (e, u) (f, v) = ap (λ x. r.Unclosed x) (e ∙ sym f)
fault_same dot at bs (r.Unclosed a) (r.NumberRange b) (e, u) (f, (text, rest, j, g, n)) = absurd (figure_closed dot bs text rest j g u)
fault_same dot at bs (r.Unclosed a) (r.BadByte b) (e, u) (inl (f, y, v, h)) = absurd (v u)
fault_same dot at bs (r.Unclosed a) (r.BadByte b) (e, u) (inr (text, rest, j, g, n, w, p)) = absurd (figure_closed dot bs text rest j g u)
fault_same dot at bs (r.NumberRange a) (r.Unclosed b) (f, (text, rest, j, g, n)) (e, u) = absurd (figure_closed dot bs text rest j g u)
fault_same dot at bs (r.NumberRange a) (r.NumberRange b) (e, h) (f, i) = ap (λ x. r.NumberRange x) (e ∙ sym f)
fault_same dot at bs (r.NumberRange a) (r.BadByte b) (e, (text, rest, j, g, n)) (inl (f, y, v, h)) = absurd (h Numeral text rest j g.form)
fault_same dot at bs (r.NumberRange a) (r.BadByte b) (e, (text, rest, j, g, n)) (inr (t, s, i, f, (v, w), x, y)) =
    absurd (n v (subst (λ x. IsNumber x v) (figure_same dot bs t s text rest i j f g).0 w))
fault_same dot at bs (r.BadByte a) (r.Unclosed b) (inl (f, y, v, h)) (e, u) = absurd (v u)
fault_same dot at bs (r.BadByte a) (r.Unclosed b) (inr (text, rest, j, g, n, w, p)) (e, u) = absurd (figure_closed dot bs text rest j g u)
fault_same dot at bs (r.BadByte a) (r.NumberRange b) (inl (f, y, v, h)) (e, (text, rest, j, g, n)) = absurd (h Numeral text rest j g.form)
fault_same dot at bs (r.BadByte a) (r.NumberRange b) (inr (t, s, i, f, (v, w), x, y)) (e, (text, rest, j, g, n)) =
    absurd (n v (subst (λ x. IsNumber x v) (figure_same dot bs t s text rest i j f g).0 w))
fault_same dot at bs (r.BadByte a) (r.BadByte b) (inl (e, h, u, x)) (inl (f, i, v, y)) = ap (λ x. r.BadByte x) (e ∙ sym f)
fault_same dot at bs (r.BadByte a) (r.BadByte b) (inl (e, y, v, h)) (inr (text, rest, j, g, n, w, p)) = absurd (h Numeral text rest j g.form)
fault_same dot at bs (r.BadByte a) (r.BadByte b) (inr (text, rest, j, g, n, w, p)) (inl (e, y, v, h)) = absurd (h Numeral text rest j g.form)
fault_same dot at bs (r.BadByte a) (r.BadByte b) (inr (t, s, i, f, v, h, x)) (inr (t2, s2, i2, f2, v2, h2, x2)) =
    ap (λ z. r.BadByte z) (x ∙ ap (λ z. at + length z) (figure_same dot bs t s t2 s2 i i2 f f2).0 ∙ sym x2)
fault_same dot at bs r.NoMemory q h i = absurd h
fault_same dot at bs p r.NoMemory h i = absurd i

number_token : (kind : TokenKind) (text : List ℕ) → form_of kind ≡ Numeral → IsKind (form_of kind) text kind → (v : Num) × IsNumber text v
number_token kind text e h = let n = subst (λ f. IsKind f text kind) e h in (n.0, n.2)

no_fault : (dot : Bool) (at : ℕ) (bs text rest : List ℕ) (kind : TokenKind) (q : LexRefusal) → bs ≡ text ++ rest → IsToken dot kind text rest → IsFault dot at bs q → ⊥
no_fault dot at bs text rest kind (r.Unclosed place) j t (e, u) = t.closed (subst IsUnclosed j u)
no_fault dot at bs text rest kind (r.NumberRange place) j t (e, (a, x, i, f, none)) =
    let s = longest_same dot Numeral (form_of kind) a x text rest (sym i ∙ j) f.form t.form f.longest t.longest in
    let g = form_same dot (form_of kind) Numeral text t.form (subst (λ z. HasForm dot Numeral z) s.0 f.form) in
    let n = number_token kind text g (kind_is kind text t.worth) in
    none n.0 (subst (λ z. IsNumber z n.0) (sym s.0) n.1)
no_fault dot at bs text rest kind (r.BadByte place) j t (inl (e, y, v, h)) = h (form_of kind) text rest j t.form
no_fault dot at bs text rest kind (r.BadByte place) j t (inr (a, x, i, f, n, w, p)) =
    let s = longest_same dot Numeral (form_of kind) a x text rest (sym i ∙ j) f.form t.form f.longest t.longest in
    let g = form_same dot (form_of kind) Numeral text t.form (subst (λ z. HasForm dot Numeral z) s.0 f.form) in
    t.apart g (subst BeginsWord s.1 w)
no_fault dot at bs text rest kind r.NoMemory j t h = h

-- ---- behind a gap

same_gap : (g x h y : List ℕ) → g ++ x ≡ h ++ y → IsGap x g → IsSolid x → IsGap y h → IsSolid y → (g ≡ h) × (x ≡ y)
same_gap g x h y e i s j t = same_front g h x y e (sym (gap_is false g x i s) ∙ ap (gap_reach false) e ∙ gap_is false h y j t)

no_more : (bs h y : List ℕ) → IsGap [] bs → bs ≡ h ++ y → IsGap y h → IsSolid y → y ≡ []
no_more bs h y g e i s = sym (same_gap bs [] h y (nil_append bs ∙ e) g tt i s).1
  where
    nil_append : (w : List ℕ) → w ++ [] ≡ w
    nil_append [] = refl
    nil_append (b ∷ w) = ap (λ t. b ∷ t) (nil_append w)

token_same : (t u : Token) → t.kind ≡ u.kind → t.from ≡ u.from → t.to ≡ u.to → t ≡ u
token_same t u a b c = ap (λ x. let z : Token = record { kind = x; from = t.from; to = t.to } in z) a ∙ ap (λ x. let z : Token = record { kind = u.kind; from = x; to = t.to } in z) b ∙ ap (λ x. let z : Token = record { kind = u.kind; from = u.from; to = x } in z) c

takes_same : (dot : Bool) (at : ℕ) (bs : List ℕ) (t u : Token) (x y : List ℕ) → Takes dot at bs t x → Takes dot at bs u y → (t ≡ u) × (x ≡ y)
takes_same dot at bs t u x y a b =
    let g = same_gap a.gap (a.text ++ x) b.gap (b.text ++ y) (sym a.joined ∙ b.joined) a.blank (form_solid dot (form_of t.kind) a.text x a.is.form) b.blank (form_solid dot (form_of u.kind) b.text y b.is.form) in
    let s = longest_same dot (form_of t.kind) (form_of u.kind) a.text x b.text y g.1 a.is.form b.is.form a.is.longest b.is.longest in
    let k = kind_same dot t.kind u.kind b.text (subst (λ z. HasForm dot (form_of t.kind) z) s.0 a.is.form) b.is.form (subst (λ z. IsWorth t.kind z) s.0 a.is.worth) b.is.worth in
    let f : t.from ≡ u.from = a.from ∙ ap (λ z. at + length z) g.0 ∙ sym b.from in
    (token_same t u k f (a.to ∙ ap (λ z. z + length a.text) f ∙ ap (λ z. u.from + length z) s.0 ∙ sym b.to), s.1)

takes_only : (dot : Bool) (at : ℕ) (bs : List ℕ) (t : Token) (x : List ℕ) (e : Option LexRefusal) → Takes dot at bs t x → Ends dot at bs e → ⊥
takes_only dot at bs t x None a g = some_front dot (form_of t.kind) a.text x a.is.form (sym (no_more bs a.gap (a.text ++ x) g a.joined a.blank (form_solid dot (form_of t.kind) a.text x a.is.form)))
takes_only dot at bs t x (Some q) a (gap, rest, j, g, f) =
    let s = same_gap a.gap (a.text ++ x) gap rest (sym a.joined ∙ j) a.blank (form_solid dot (form_of t.kind) a.text x a.is.form) g (fault_solid dot (at + length gap) rest q f) in
    no_fault dot (at + length gap) rest a.text x t.kind q (sym s.1) a.is f

ends_same : (dot : Bool) (at : ℕ) (bs : List ℕ) (e f : Option LexRefusal) → Ends dot at bs e → Ends dot at bs f → e ≡ f
ends_same dot at bs None None a b = refl
ends_same dot at bs None (Some q) a (gap, rest, j, g, f) =
    absurd (fault_some dot (at + length gap) q (subst (λ z. IsFault dot (at + length gap) z q) (no_more bs gap rest a j g (fault_solid dot (at + length gap) rest q f)) f))
ends_same dot at bs (Some q) None (gap, rest, j, g, f) a =
    absurd (fault_some dot (at + length gap) q (subst (λ z. IsFault dot (at + length gap) z q) (no_more bs gap rest a j g (fault_solid dot (at + length gap) rest q f)) f))
ends_same dot at bs (Some p) (Some q) (gap, rest, j, g, f) (gap2, rest2, j2, g2, f2) =
    let s = same_gap gap rest gap2 rest2 (sym j ∙ j2) g (fault_solid dot (at + length gap) rest p f) g2 (fault_solid dot (at + length gap2) rest2 q f2) in
    ap (λ z. Some z) (fault_same dot (at + length gap2) rest2 p q (subst (λ z. IsFault dot (at + length gap2) z p) s.1 (subst (λ z. IsFault dot (at + length z) rest p) s.0 f)) f2)

pub reads_same : (ts us : List Token) (dot : Bool) (at : ℕ) (bs : List ℕ) (e f : Option LexRefusal) → Reads dot at bs ts e → Reads dot at bs us f → (ts ≡ us) × (e ≡ f)
reads_same [] [] dot at bs e f a b = (refl, ends_same dot at bs e f a b)
reads_same [] (u ∷ us) dot at bs e f a (y, b, c) = absurd (takes_only dot at bs u y e b a)
reads_same (t ∷ ts) [] dot at bs e f (x, a, c) b = absurd (takes_only dot at bs t x f a b)
reads_same (t ∷ ts) (u ∷ us) dot at bs e f (x, a, c) (y, b, d) =
    let s = takes_same dot at bs t u x y a b in
    let c2 : Reads (is_dot u.kind) u.to x ts e = subst (λ (z : Token). Reads (is_dot z.kind) z.to x ts e) s.0 c in
    let i = reads_same ts us (is_dot u.kind) u.to y e f (subst (λ z. Reads (is_dot u.kind) u.to z ts e) s.1 c2) d in
    (ap (λ z. z ∷ ts) s.0 ∙ ap (λ z. u ∷ z) i.0, i.1)

-- ---- from the start of a text

starts_same : (text : List ℕ) (at at2 : ℕ) (bs bs2 : List ℕ) → Starts text at bs → Starts text at2 bs2 → (at ≡ at2) × (bs ≡ bs2)
starts_same text at at2 bs bs2 (inl (e, j)) (inl (f, i)) = (e ∙ sym f, marked (sym j ∙ i))
  where
    marked : 239 ∷ 187 ∷ 191 ∷ bs ≡ 239 ∷ 187 ∷ 191 ∷ bs2 → bs ≡ bs2
    marked h = tail_is 191 191 bs bs2 (tail_is 187 187 (191 ∷ bs) (191 ∷ bs2) (tail_is 239 239 (187 ∷ 191 ∷ bs) (187 ∷ 191 ∷ bs2) h))
starts_same text at at2 bs bs2 (inl (e, j)) (inr (f, i, n)) = absurd (n bs j)
starts_same text at at2 bs bs2 (inr (e, j, n)) (inl (f, i)) = absurd (n bs2 i)
starts_same text at at2 bs bs2 (inr (e, j, n)) (inr (f, i, m)) = (e ∙ sym f, sym j ∙ i)

moved : (text : List ℕ) (at at2 : ℕ) (bs bs2 : List ℕ) (ts : List Token) (e : Option LexRefusal) → Starts text at bs → Starts text at2 bs2 → Reads false at bs ts e → Reads false at2 bs2 ts e
moved text at at2 bs bs2 ts e s t h = let p = starts_same text at at2 bs bs2 s t in subst (λ x. Reads false at2 x ts e) p.1 (subst (λ x. Reads false x bs ts e) p.0 h)

pub only_tokens : {V : Type 0} (items : V → List Token) (result : Result V LexRefusal) (text : List ℕ) (start : ℕ) (bs : List ℕ) → Starts text start bs → IfOk result (λ v. Reads false start bs (items v) None) →
    IfErr result (λ q. (q ≡ r.NoMemory) ⊎ ((ts : List Token) × Reads false start bs ts (Some q))) → (ts : List Token) → IsTokenList text ts → MatchResult result (λ v. items v ≡ ts) (λ q. q ≡ r.NoMemory)
only_tokens items (Ok v) text start bs s ok err ts (at, bs2, t, h) = (reads_same (items v) ts false start bs None None ok (moved text at start bs2 bs ts None t s h)).0
only_tokens items (Err q) text start bs s ok (inl e) ts h = e
only_tokens items (Err q) text start bs s ok (inr (us, k)) ts (at, bs2, t, h) = absurd (none-some _ (sym (reads_same us ts false start bs (Some q) None k (moved text at start bs2 bs ts None t s h)).1))

some_same : (p q : LexRefusal) → Some p ≡ Some q → p ≡ q
some_same p q e = cc

pub only_refusal : {V : Type 0} (items : V → List Token) (result : Result V LexRefusal) (text : List ℕ) (start : ℕ) (bs : List ℕ) → Starts text start bs → IfOk result (λ v. Reads false start bs (items v) None) →
    IfErr result (λ q. (q ≡ r.NoMemory) ⊎ ((ts : List Token) × Reads false start bs ts (Some q))) → (p : LexRefusal) → IsRefused text p → MatchResult result (λ _. ⊥) (λ q. (q ≡ r.NoMemory) ⊎ (q ≡ p))
only_refusal items (Ok v) text start bs s ok err p (at, bs2, t, (ts, h)) = none-some _ (reads_same (items v) ts false start bs None (Some p) ok (moved text at start bs2 bs ts (Some p) t s h)).1
only_refusal items (Err q) text start bs s ok (inl e) p h = inl e
only_refusal items (Err q) text start bs s ok (inr (us, k)) p (at, bs2, t, (ts, h)) = inr (some_same q p (reads_same us ts false start bs (Some q) (Some p) k (moved text at start bs2 bs ts (Some p) t s h)).1)
