-- Where the text of a quoted scalar has no dot, none stands among its bytes up to its end.
use Rattle.std.proofs.Common.{◌≡◌, ℕ, zero, suc, ◌+◌, ◌<◌, ◌≤◌, ◌⊎◌, inl, inr, Bool, true, false, ◌||◌, ◌&&◌, not, cond, nat_eq, nat_lt, arith, List, [], ◌∷◌, ◌++◌, take, drop, length, refl, sym, ap, ◌∙◌, subst, true≢false, append_assoc, append-nil, length-append, length-drop}
use Rattle.std.proofs.lemmas.Bool.Decides.{nat_tests}
use Rattle.std.proofs.lemmas.List.{take_all, take-append-le}
use Rattle.yaml_scalars.specs.Lines.{Line, Outcome, Stands, Fails, Documents, each, is_white, lead, is_blank, past_white, is_mark, is_cut_mark}
use Rattle.yaml_scalars.specs.Quoted.{Piece, Itself, Closes, Means, Joins, Returns, Wrong, Part, Closed, Open, Joined, Returned, Refused, piece, add_piece, line_part, gap, behind_part, quoted_more, quoted_on}
use Rattle.yaml_scalars.proofs.EscapeFits.{IsWithin, piece_within}
use Rattle.yaml_scalars.proofs.Places.{lead_le}
use Rattle.yaml_laws.specs.code.Dots.{is_dotless, spells_dot, undotted}
use Rattle.yaml_laws.proofs.DotEscapes.{IsFree}
use Rattle.yaml_laws.proofs.DotFilled.{both, taken, filled}
use Rattle.yaml_laws.proofs.DotPieces.{PieceBack, piece_back}
use Rattle.yaml_laws.proofs.Dotless.{AreFree, free_append}
use Rattle.yaml_laws.proofs.EscapeLonger.{is_fit, Shape, piece_shape}
use Rattle.yaml_laws.proofs.Longer.{glue, Ends}
use Rattle.yaml_laws.proofs.QuotedAlike.{IsFar, piece_alike}

-- ---- bytes

pub free_front : (v w : List ℕ) → IsFree (v ++ w) → IsFree v
free_front [] w h = refl
free_front (b ∷ v) w h = by_byte (is_dotless b) h (λ i. free_front v w i) where
  by_byte : (q : Bool) → cond q (each is_dotless (v ++ w)) false ≡ true → (IsFree (v ++ w) → IsFree v) → cond q (each is_dotless v) false ≡ true
  by_byte true h r = r h
  by_byte false h r = absurd (true≢false (sym h))

pub free_back : (v w : List ℕ) → IsFree (v ++ w) → IsFree w
free_back [] w h = h
free_back (b ∷ v) w h = by_byte (is_dotless b) h (λ i. free_back v w i) where
  by_byte : (q : Bool) → cond q (each is_dotless (v ++ w)) false ≡ true → (IsFree (v ++ w) → IsFree w) → IsFree w
  by_byte true h r = r h
  by_byte false h r = absurd (true≢false (sym h))

pub free_one : (b : ℕ) → IsFree (b ∷ []) → is_dotless b ≡ true
free_one b h = by_byte (is_dotless b) h where
  by_byte : (q : Bool) → cond q true false ≡ true → q ≡ true
  by_byte true h = refl
  by_byte false h = absurd (true≢false (sym h))

pub white_dotless : (b : ℕ) → is_white b ≡ true → is_dotless b ≡ true
white_dotless b h = grind (arith, nat_tests, h)

white_slash : (b : ℕ) → is_white b ≡ true → nat_eq b 92 ≡ false
white_slash b h = grind (arith, nat_tests, h)

pub split : (n : ℕ) (xs : List ℕ) → take n xs ++ drop n xs ≡ xs
split zero xs = refl
split (suc n) [] = refl
split (suc n) (x ∷ xs) = ap (λ t. x ∷ t) (split n xs)

-- a byte that is no backslash, or where there are no escapes
plain_byte : (e : Bool) (b : ℕ) (xs : List ℕ) → (e && nat_eq b 92) ≡ false → is_dotless b ≡ true → undotted e false xs ≡ true → undotted e false (b ∷ xs) ≡ true
plain_byte e b xs n d h = both (is_dotless b) (cond (e && nat_eq b 92) (not (spells_dot xs) && undotted e true xs) (undotted e false xs)) d (ap (λ q. cond q (not (spells_dot xs) && undotted e true xs) (undotted e false xs)) n ∙ h)

none_slash : (e : Bool) (b : ℕ) → nat_eq b 92 ≡ false → (e && nat_eq b 92) ≡ false
none_slash true b h = h
none_slash false b h = refl

-- white space in front
pub white_front : (e : Bool) (xs h : List ℕ) → undotted e false h ≡ true → undotted e false (take (lead is_white xs) xs ++ h) ≡ true
white_front e [] h u = u
white_front e (b ∷ xs) h u = by_white (is_white b) refl (white_front e xs h u) where
  by_white : (q : Bool) → is_white b ≡ q → undotted e false (take (lead is_white xs) xs ++ h) ≡ true → undotted e false (take (cond q (suc (lead is_white xs)) 0) (b ∷ xs) ++ h) ≡ true
  by_white true w r = plain_byte e b (take (lead is_white xs) xs ++ h) (none_slash e b (white_slash b w)) (white_dotless b w) r
  by_white false w r = u

pub blank_undotted : (e : Bool) (xs : List ℕ) → is_blank xs ≡ true → undotted e false xs ≡ true
blank_undotted e [] h = refl
blank_undotted e (b ∷ xs) h = by_white (is_white b) refl h (λ i. blank_undotted e xs i) where
  by_white : (q : Bool) → is_white b ≡ q → cond q (is_blank xs) false ≡ true → (is_blank xs ≡ true → undotted e false xs ≡ true) → undotted e false (b ∷ xs) ≡ true
  by_white true w h r = plain_byte e b xs (none_slash e b (white_slash b w)) (white_dotless b w) (r h)
  by_white false w h r = absurd (true≢false (sym h))

past_back : (e : Bool) (xs : List ℕ) → undotted e false (past_white xs) ≡ true → undotted e false xs ≡ true
past_back e xs u = subst (λ t. undotted e false t ≡ true) (split (lead is_white xs) xs) (white_front e xs (past_white xs) u)

-- ---- a part

-- of a line's bytes behind some that are passed over: those before the closing quote, or all
abbrev PartBack : Bool → ℕ → ℕ → List ℕ → List ℕ → Part → Type 0
PartBack e at skip bs text (Closed t end) = (g r : List ℕ) × (c : ℕ) × (drop skip bs ≡ g ++ (c ∷ r)) × (end ≡ at + skip + suc (length g)) × (is_fit c ≡ true) × (IsFree t → IsFree text × (undotted e false g ≡ true))
PartBack e at skip bs text (Open t) = IsFree t → IsFree text × (undotted e false (drop skip bs) ≡ true)
PartBack e at skip bs text (Joined t) = IsFree t → IsFree text × (undotted e false (drop skip bs) ≡ true)
PartBack e at skip bs text (Returned p) = Unit {0}
PartBack e at skip bs text (Refused p) = Unit {0}

abbrev Kept : List ℕ → ℕ → Type 0
Kept text kept = IsFree (take kept text) → IsFree text

take_front : (n : ℕ) (v w : List ℕ) → IsFree (take n (v ++ w)) → IsFree (take n v)
take_front zero v w h = refl
take_front (suc n) [] w h = refl
take_front (suc n) (b ∷ v) w h = by_byte (is_dotless b) h (λ i. take_front n v w i) where
  by_byte : (q : Bool) → cond q (each is_dotless (take n (v ++ w))) false ≡ true → (IsFree (take n (v ++ w)) → IsFree (take n v)) → cond q (each is_dotless (take n v)) false ≡ true
  by_byte true h r = r h
  by_byte false h r = absurd (true≢false (sym h))

kept_all : (v : List ℕ) (n : ℕ) → length v ≤ n → Kept v n
kept_all v n l h = subst IsFree (take_all n v l) h

kept_white : (text : List ℕ) (kept b : ℕ) → is_white b ≡ true → Kept text kept → Kept (text ++ (b ∷ [])) kept
kept_white text kept b w k h = free_append text (b ∷ []) (k (take_front kept text (b ∷ []) h)) (ap (λ q. cond q true false) (white_dotless b w))

part_back : (quote at skip : ℕ) (text : List ℕ) (kept : ℕ) (bs : List ℕ) → Kept text kept → PartBack (nat_eq quote 34) at skip bs text (line_part quote at skip text kept bs)
part_back quote at zero text kept [] k = λ f. (k f, refl)
part_back quote at (suc n) text kept [] k = λ f. (k f, refl)
part_back quote at (suc n) text kept (b ∷ bs) k = moved (line_part quote (suc at) n text kept bs) (part_back quote (suc at) n text kept bs k) where
  moved : (p : Part) → PartBack (nat_eq quote 34) (suc at) n bs text p → PartBack (nat_eq quote 34) at (suc n) (b ∷ bs) text p
  moved (Closed t end) (g, r, c, d, e, f, h) = (g, r, c, d, omega (arith, e), f, h)
  moved (Open t) h = h
  moved (Joined t) h = h
  moved (Returned p) h = tt
  moved (Refused p) h = tt
part_back quote at zero text kept (b ∷ bs) k = by_piece (piece quote b bs) refl (piece_within quote b bs) (piece_shape quote b bs) (piece_back quote b bs) (λ n t k i. part_back quote (suc at) n t k bs i) where
  e : Bool
  e = nat_eq quote 34

  Next : Type 0
  Next = (n : ℕ) (t : List ℕ) (k : ℕ) → Kept t k → PartBack (nat_eq quote 34) (suc at) n bs t (line_part quote (suc at) n t k bs)

  itself : (e && nat_eq b 92) ≡ false → (p : Part) → PartBack e (suc at) 0 bs (text ++ (b ∷ [])) p → PartBack e at 0 (b ∷ bs) text p
  itself n (Closed t end) (g, r, c, d, z, f, h) = (
    b ∷ g,
    r,
    c,
    ap (λ t. b ∷ t) d,
    omega (arith, z),
    f,
    λ free. let x = h free in (free_front text (b ∷ []) x.0, plain_byte e b g n (free_one b (free_back text (b ∷ []) x.0)) x.1),
  )
  itself n (Open t) h = λ free. let x = h free in (free_front text (b ∷ []) x.0, plain_byte e b bs n (free_one b (free_back text (b ∷ []) x.0)) x.1)
  itself n (Joined t) h = λ free. let x = h free in (free_front text (b ∷ []) x.0, plain_byte e b bs n (free_one b (free_back text (b ∷ []) x.0)) x.1)
  itself n (Returned p) h = tt
  itself n (Refused p) h = tt

  means : (m : ℕ) (u : List ℕ) → piece quote b bs ≡ Means m u → m ≤ length bs → (p : Part) → PartBack e (suc at) m bs (text ++ u) p → PartBack e at 0 (b ∷ bs) text p
  means m u is low (Closed t end) (g, r, c, d, z, f, h) = (
    b ∷ (take m bs ++ g),
    r,
    c,
    ap (λ t. b ∷ t) (sym (split m bs) ∙ ap (λ t. take m bs ++ t) d ∙ sym (append_assoc (take m bs) g (c ∷ r))),
    size (length-append (take m bs) g) (take_long m bs low),
    f,
    λ free. let x = h free in (free_front text u x.0, whole (free_back text u x.0) x.1),
  ) where
    take_long : (m : ℕ) (bs : List ℕ) → m ≤ length bs → length (take m bs) ≡ m
    take_long zero bs l = refl
    take_long (suc m) [] l = absurd (omega (arith, l))
    take_long (suc m) (b ∷ bs) l = ap suc (take_long m bs (omega (arith, l)))

    size : length (take m bs ++ g) ≡ length (take m bs) + length g → length (take m bs) ≡ m → end ≡ at + 0 + suc (suc (length (take m bs ++ g)))
    size x y = omega (arith, x, y, z)

    there : bs ≡ (take m bs ++ g) ++ (c ∷ r)
    there = sym (split m bs) ∙ ap (λ t. take m bs ++ t) d ∙ sym (append_assoc (take m bs) g (c ∷ r))

    same : piece quote b (take m bs ++ g) ≡ Means m u
    same = elim (piece_alike quote b (take m bs ++ g) (c ∷ r) []) [
      | inl q ↦ ap (piece quote b) (sym (append-nil (take m bs ++ g))) ∙ sym q ∙ ap (piece quote b) (sym there) ∙ is
      | inr far ↦ (let y : length (take m bs ++ g) < m = subst (IsFar (length (take m bs ++ g))) (ap (piece quote b) (sym there) ∙ is) far in let x = length-append (take m bs) g in let w = take_long m bs low in absurd (omega (arith, y, x, w)))
    ]

    behind : (m : ℕ) (bs : List ℕ) → m ≤ length bs → drop m (take m bs ++ g) ≡ g
    behind zero bs l = refl
    behind (suc m) [] l = absurd (omega (arith, l))
    behind (suc m) (b ∷ bs) l = behind m bs (omega (arith, l))

    whole : IsFree u → undotted e false g ≡ true → undotted e false (b ∷ (take m bs ++ g)) ≡ true
    whole free y = subst (PieceBack e b (take m bs ++ g)) same (piece_back quote b (take m bs ++ g)) free (ap (undotted e false) (behind m bs low) ∙ y)
  means m u is low (Open t) h = λ free. let x = h free in (free_front text u x.0, subst (PieceBack e b bs) is (piece_back quote b bs) (free_back text u x.0) x.1)
  means m u is low (Joined t) h = λ free. let x = h free in (free_front text u x.0, subst (PieceBack e b bs) is (piece_back quote b bs) (free_back text u x.0) x.1)
  means m u is low (Returned p) h = tt
  means m u is low (Refused p) h = tt

  by_white : (q : Bool) → is_white b ≡ q → (e && nat_eq b 92) ≡ false → Next → PartBack e at 0 (b ∷ bs) text (cond q (line_part quote (suc at) 0 (text ++ (b ∷ [])) kept bs) (line_part quote (suc at) 0 (text ++ (b ∷ [])) (suc (length text)) bs))
  by_white true w n next = itself n (line_part quote (suc at) 0 (text ++ (b ∷ [])) kept bs) (next 0 (text ++ (b ∷ [])) kept (kept_white text kept b w k))
  by_white false w n next =
      itself n (line_part quote (suc at) 0 (text ++ (b ∷ [])) (suc (length text)) bs) (next 0 (text ++ (b ∷ [])) (suc (length text)) (kept_all (text ++ (b ∷ [])) (suc (length text)) (let z = length-append text (b ∷ []) in omega (arith, z))))

  joins : (bs : List ℕ) → bs ≡ [] → nat_eq b 92 ≡ true → (q : Bool) → undotted q false (b ∷ bs) ≡ true
  joins bs z s q = ap (λ t. undotted q false (b ∷ t)) z ∙ ap (λ c. undotted q false (c ∷ [])) (same b s) ∙ closed q where
    same : (b : ℕ) → nat_eq b 92 ≡ true → b ≡ 92
    same b s = grind (arith, nat_tests, s)

    closed : (q : Bool) → undotted q false (92 ∷ []) ≡ true
    closed true = refl
    closed false = refl

  by_piece : (p : Piece) → piece quote b bs ≡ p → IsWithin (length bs) p → Shape quote b bs p → PieceBack e b bs p → Next → PartBack e at 0 (b ∷ bs) text (add_piece p b at text kept (λ n t k. line_part quote (suc at) n t k bs))
  by_piece Itself i w s back next = by_white (is_white b) refl back next
  by_piece Closes i w s back next = ([], bs, b, refl, (let z : suc at ≡ at + 0 + suc 0 = omega arith in z), back, λ free. (free, refl))
  by_piece (Means m u) i w s back next = means m u i w (line_part quote (suc at) m (text ++ u) (length (text ++ u)) bs) (next m (text ++ u) (length (text ++ u)) (kept_all (text ++ u) (length (text ++ u)) (omega arith)))
  by_piece Joins i w (none, slash, double) back next = λ free. (free, joins bs none slash e)
  by_piece (Returns m) i w s back next = tt
  by_piece (Wrong m) i w s back next = tt

-- ---- lines

-- where it ends at a place or behind it
abbrev pub BackAt : ℕ → Type 0 → Outcome → Type 0
BackAt place P (Stands t end) = place ≤ end → IsFree t → P
BackAt place P (Fails p) = Unit {0}
BackAt place P (Documents p) = Unit {0}

pub back_map : {P Q : Type 0} (place : ℕ) (o : Outcome) → (P → Q) → BackAt place P o → BackAt place Q o
back_map place (Stands t end) f h = λ l free. f (h l free)
back_map place (Fails p) f h = tt
back_map place (Documents p) f h = tt

open_text : (e : Bool) (at skip : ℕ) (bs text : List ℕ) (r : Part) (place : ℕ) (next : Bool → List ℕ → Outcome) → PartBack e at skip bs text r → ((j : Bool) (t : List ℕ) → BackAt place (IsFree t) (next j t)) → BackAt place (IsFree text) (behind_part r next)
open_text e at skip bs text (Closed t end) place next (g, x, c, d, z, f, h) n = λ l free. (h free).0
open_text e at skip bs text (Open t) place next h n = back_map place (next false t) (λ f. (h f).0) (n false t)
open_text e at skip bs text (Joined t) place next h n = back_map place (next true t) (λ f. (h f).0) (n true t)
open_text e at skip bs text (Returned p) place next h n = tt
open_text e at skip bs text (Refused p) place next h n = tt

-- what was said before is kept
stays : (place quote size : ℕ) (ls : List Line) (text : List ℕ) (j : Bool) (k : ℕ) → BackAt place (IsFree text) (quoted_more quote size ls text j k)
stays place quote size [] text j k = tt
stays place quote size (l ∷ ls) text j k = by_tests (is_mark l.bytes && (l.broken || nat_lt 3 (length l.bytes))) (is_cut_mark l.bytes) (is_blank l.bytes) (λ t i n. stays place quote size ls t i n) where
  T : List ℕ
  T = text ++ gap j k

  by_tests : (s c b : Bool) → ((t : List ℕ) (i : Bool) (n : ℕ) → BackAt place (IsFree t) (quoted_more quote size ls t i n))
      → BackAt place (IsFree text) (cond s (Documents l.at) (cond c (Fails (l.at + 3)) (cond b (quoted_more quote size ls text j (suc k)) (behind_part (line_part quote (l.at + lead is_white l.bytes) 0 T (length T) (past_white l.bytes)) (λ i t. quoted_more quote size ls t i 0)))))
  by_tests true c b next = tt
  by_tests false true b next = tt
  by_tests false false true next = next text j (suc k)
  by_tests false false false next =
      back_map place (behind_part (line_part quote (l.at + lead is_white l.bytes) 0 T (length T) (past_white l.bytes)) (λ i t. quoted_more quote size ls t i 0)) (λ f. free_front text (gap j k) f)
      (open_text (nat_eq quote 34) (l.at + lead is_white l.bytes) 0 (past_white l.bytes) T (line_part quote (l.at + lead is_white l.bytes) 0 T (length T) (past_white l.bytes)) place (λ i t. quoted_more quote size ls t i 0)
      (part_back quote (l.at + lead is_white l.bytes) 0 T (length T) (past_white l.bytes) (kept_all T (length T) (omega arith))) (λ i t. next t i 0))

-- the first bytes of a line with others behind them
front_of : (xs y : List ℕ) → take (length xs) (xs ++ y) ≡ xs
front_of [] y = refl
front_of (x ∷ xs) y = ap (λ t. x ∷ t) (front_of xs y)

front_undotted : (e : Bool) (xs y : List ℕ) → undotted e false (xs ++ y) ≡ true → undotted e false xs ≡ true
front_undotted e xs y u = subst (λ t. undotted e false t ≡ true) (front_of xs y) (taken e false (length xs) (xs ++ y) u)

-- up to the closing quote
front_closed : (e : Bool) (xs y g r : List ℕ) (c : ℕ) → past_white (xs ++ y) ≡ g ++ (c ∷ r) → length xs ≤ lead is_white (xs ++ y) + suc (length g) → is_fit c ≡ true → undotted e false g ≡ true → undotted e false xs ≡ true
front_closed e xs y g r c d l f u =
    let zs = xs ++ y in
    let h = g ++ (c ∷ []) in
    let w = take (lead is_white zs) zs in
    let long : undotted e false (w ++ h) ≡ true = white_front e zs h (filled e false g (c ∷ []) (ap (λ q. cond q true false) f) u) in
    let whole : zs ≡ (w ++ h) ++ r = sym (split (lead is_white zs) zs) ∙ ap (λ t. w ++ t) (d ∙ sym (append_assoc g (c ∷ []) r)) ∙ sym (append_assoc w h r) in
    let sizes = length-append w h in
    let size2 = length-append g (c ∷ []) in
    let wide = lead_taken zs in
    let low : length xs ≤ length (w ++ h) = omega (arith, sizes, size2, wide, l) in
    let is : take (length xs) (w ++ h) ≡ xs = sym (take-append-le (length xs) (w ++ h) r low) ∙ ap (take (length xs)) (sym whole) ∙ front_of xs y in
    subst (λ t. undotted e false t ≡ true) is (taken e false (length xs) (w ++ h) long) where
      lead_taken : (zs : List ℕ) → length (take (lead is_white zs) zs) ≡ lead is_white zs
      lead_taken [] = refl
      lead_taken (b ∷ zs) = by_white (is_white b) (lead_taken zs) where
        by_white : (q : Bool) → length (take (lead is_white zs) zs) ≡ lead is_white zs → length (take (cond q (suc (lead is_white zs)) 0) (b ∷ zs)) ≡ cond q (suc (lead is_white zs)) 0
        by_white true i = ap suc i
        by_white false i = refl

pub more_dotted : (quote size place : ℕ) (r : Bool) (ls : List Line) (f : Line) (fs : List Line) (text : List ℕ) (j : Bool) (k : ℕ) → Ends place r ls → BackAt place (IsFree text × AreFree (nat_eq quote 34) ls) (quoted_more quote size (glue ls (f ∷ fs)) text j k)
more_dotted quote size place r [] f fs text j k x = absurd x
more_dotted quote size place r (l ∷ []) f fs text j k (x, y, z) = by_tests (is_mark xs && (f.broken || nat_lt 3 (length xs))) (is_cut_mark xs) (is_blank xs) refl where
  e : Bool
  e = nat_eq quote 34

  xs : List ℕ
  xs = l.bytes ++ f.bytes

  T : List ℕ
  T = text ++ gap j k

  P : Type 0
  P = IsFree text × AreFree (nat_eq quote 34) (l ∷ [])

  by_part : (p : Part) → PartBack e (l.at + lead is_white xs) 0 (past_white xs) T p → BackAt place P (behind_part p (λ i t. quoted_more quote size fs t i 0))
  by_part (Closed t end) (g, s, c, d, q, fit, h) = λ low free. (let w = h free in (free_front text (gap j k) w.0, (front_closed e l.bytes f.bytes g s c d (omega (arith, x, low, q)) fit w.1, tt)))
  by_part (Open t) h = back_map place (quoted_more quote size fs t false 0) (λ free. (let w = h free in (free_front text (gap j k) w.0, (front_undotted e l.bytes f.bytes (past_back e xs w.1), tt)))) (stays place quote size fs t false 0)
  by_part (Joined t) h = back_map place (quoted_more quote size fs t true 0) (λ free. (let w = h free in (free_front text (gap j k) w.0, (front_undotted e l.bytes f.bytes (past_back e xs w.1), tt)))) (stays place quote size fs t true 0)
  by_part (Returned p) h = tt
  by_part (Refused p) h = tt

  by_tests : (s c b : Bool) → is_blank xs ≡ b → BackAt place P (cond s (Documents l.at) (cond c (Fails (l.at + 3)) (cond b (quoted_more quote size fs text j (suc k)) (behind_part (line_part quote (l.at + lead is_white xs) 0 T (length T) (past_white xs)) (λ i t. quoted_more quote size fs t i 0)))))
  by_tests true c b i = tt
  by_tests false true b i = tt
  by_tests false false true i = back_map place (quoted_more quote size fs text j (suc k)) (λ free. (free, (front_undotted e l.bytes f.bytes (blank_undotted e xs i), tt))) (stays place quote size fs text j (suc k))
  by_tests false false false i = by_part (line_part quote (l.at + lead is_white xs) 0 T (length T) (past_white xs)) (part_back quote (l.at + lead is_white xs) 0 T (length T) (past_white xs) (kept_all T (length T) (omega arith)))
more_dotted quote size place r (l ∷ m ∷ ls) f fs text j k (x, y, z) = by_tests (is_mark l.bytes && (l.broken || nat_lt 3 (length l.bytes))) (is_cut_mark l.bytes) (is_blank l.bytes) refl (λ t i n. more_dotted quote size place r (m ∷ ls) f fs t i n z) where
  e : Bool
  e = nat_eq quote 34

  T : List ℕ
  T = text ++ gap j k

  new : List Line
  new = glue (m ∷ ls) (f ∷ fs)

  P : Type 0
  P = IsFree text × AreFree (nat_eq quote 34) (l ∷ m ∷ ls)

  Next : Type 0
  Next = (t : List ℕ) (i : Bool) (n : ℕ) → BackAt place (IsFree t × AreFree (nat_eq quote 34) (m ∷ ls)) (quoted_more quote size new t i n)

  by_part : (p : Part) → PartBack e (l.at + lead is_white l.bytes) 0 (past_white l.bytes) T p → Next → BackAt place P (behind_part p (λ i t. quoted_more quote size new t i 0))
  by_part (Closed t end) (g, s, c, d, q, fit, h) next = λ low free. absurd (
      let size1 = ap (λ (v : List ℕ). length v) d in
      let size2 = length-append g (c ∷ s) in
      let size3 = length-drop (lead is_white l.bytes) l.bytes in
      let size4 = lead_le is_white l.bytes in omega (arith, x, low, q, size1, size2, size3, size4)
      )
  by_part (Open t) h next = back_map place (quoted_more quote size new t false 0) (λ v. (let w = h v.0 in (free_front text (gap j k) w.0, (past_back e l.bytes w.1, v.1)))) (next t false 0)
  by_part (Joined t) h next = back_map place (quoted_more quote size new t true 0) (λ v. (let w = h v.0 in (free_front text (gap j k) w.0, (past_back e l.bytes w.1, v.1)))) (next t true 0)
  by_part (Returned p) h next = tt
  by_part (Refused p) h next = tt

  by_tests : (s c b : Bool) → is_blank l.bytes ≡ b → Next → BackAt place P (cond s (Documents l.at) (cond c (Fails (l.at + 3)) (cond b (quoted_more quote size new text j (suc k)) (behind_part (line_part quote (l.at + lead is_white l.bytes) 0 T (length T) (past_white l.bytes)) (λ i t. quoted_more quote size new t i 0)))))
  by_tests true c b i next = tt
  by_tests false true b i next = tt
  by_tests false false true i next = back_map place (quoted_more quote size new text j (suc k)) (λ v. (v.0, (blank_undotted e l.bytes i, v.1))) (next text j (suc k))
  by_tests false false false i next = by_part (line_part quote (l.at + lead is_white l.bytes) 0 T (length T) (past_white l.bytes)) (part_back quote (l.at + lead is_white l.bytes) 0 T (length T) (past_white l.bytes) (kept_all T (length T) (omega arith))) next

-- from the quotation mark on
quote_pick : (e : Bool) (b : ℕ) → nat_eq b 34 ≡ e → nat_eq (cond (nat_eq b 34) 34 39) 34 ≡ e
quote_pick true b h = ap (λ q. nat_eq (cond q 34 39) 34) h
quote_pick false b h = ap (λ q. nat_eq (cond q 34 39) 34) h

quote_front : (b : ℕ) (xs : List ℕ) → ((b ≡ 34) ⊎ (b ≡ 39)) → (e : Bool) → undotted e false xs ≡ true → undotted e false (b ∷ xs) ≡ true
quote_front b xs (inl q) e h = plain_byte e b xs (none_slash e b (ap (λ n. nat_eq n 92) q)) (ap is_dotless q) h
quote_front b xs (inr q) e h = plain_byte e b xs (none_slash e b (ap (λ n. nat_eq n 92) q)) (ap is_dotless q) h

pub on_dotted : (size place : ℕ) (r : Bool) (at b : ℕ) (bs : List ℕ) (broken : Bool) (ls : List Line) (f : Line) (fs : List Line) → ((b ≡ 34) ⊎ (b ≡ 39)) → Ends place r (record { at = at; bytes = b ∷ bs; broken = broken } ∷ ls)
    → BackAt place (AreFree (nat_eq b 34) (record { at = at; bytes = b ∷ bs; broken = broken } ∷ ls)) (quoted_on false size (glue (record { at = at; bytes = b ∷ bs; broken = broken } ∷ ls) (f ∷ fs)))
on_dotted size place r at b bs broken [] f fs mark (x, y, z) =
    subst (λ q. BackAt place (AreFree q (record { at = at; bytes = b ∷ bs; broken = broken } ∷ [])) (behind_part (line_part (cond (nat_eq b 34) 34 39) (suc at) 0 [] 0 (bs ++ f.bytes)) (λ j t. quoted_more (cond (nat_eq b 34) 34 39) size fs t j 0))) (quote_pick (nat_eq b 34) b refl)
    (by_part (line_part quote (suc at) 0 [] 0 (bs ++ f.bytes)) (part_back quote (suc at) 0 [] 0 (bs ++ f.bytes) (λ h. h))) where
      quote : ℕ
      quote = cond (nat_eq b 34) 34 39

      e : Bool
      e = nat_eq quote 34

      xs : List ℕ
      xs = bs ++ f.bytes

      closed : (g s : List ℕ) (c : ℕ) → xs ≡ g ++ (c ∷ s) → length bs ≤ suc (length g) → is_fit c ≡ true → undotted e false g ≡ true → undotted e false bs ≡ true
      closed g s c d l fit u =
          let whole : xs ≡ (g ++ (c ∷ [])) ++ s = d ∙ sym (append_assoc g (c ∷ []) s) in
          let size2 = length-append g (c ∷ []) in
          let is : take (length bs) (g ++ (c ∷ [])) ≡ bs = sym (take-append-le (length bs) (g ++ (c ∷ [])) s (omega (arith, size2, l))) ∙ ap (take (length bs)) (sym whole) ∙ front_of bs f.bytes in
          subst (λ t. undotted e false t ≡ true) is (taken e false (length bs) (g ++ (c ∷ [])) (filled e false g (c ∷ []) (ap (λ q. cond q true false) fit) u))

      by_part : (p : Part) → PartBack e (suc at) 0 (bs ++ f.bytes) [] p → BackAt place (AreFree (nat_eq quote 34) (record { at = at; bytes = b ∷ bs; broken = broken } ∷ [])) (behind_part p (λ j t. quoted_more quote size fs t j 0))
      by_part (Closed t end) (g, s, c, d, q, fit, h) = λ low free. (quote_front b bs mark e (closed g s c d (omega (arith, x, low, q)) fit (h free).1), tt)
      by_part (Open t) h = back_map place (quoted_more quote size fs t false 0) (λ free. (quote_front b bs mark e (front_undotted e bs f.bytes (h free).1), tt)) (stays place quote size fs t false 0)
      by_part (Joined t) h = back_map place (quoted_more quote size fs t true 0) (λ free. (quote_front b bs mark e (front_undotted e bs f.bytes (h free).1), tt)) (stays place quote size fs t true 0)
      by_part (Returned p) h = tt
      by_part (Refused p) h = tt
on_dotted size place r at b bs broken (m ∷ ls) f fs mark (x, y, z) =
    subst (λ q. BackAt place (AreFree q (record { at = at; bytes = b ∷ bs; broken = broken } ∷ m ∷ ls)) (behind_part (line_part (cond (nat_eq b 34) 34 39) (suc at) 0 [] 0 bs) (λ j t. quoted_more (cond (nat_eq b 34) 34 39) size new t j 0))) (quote_pick (nat_eq b 34) b refl)
    (by_part (line_part quote (suc at) 0 [] 0 bs) (part_back quote (suc at) 0 [] 0 bs (λ h. h))) where
      quote : ℕ
      quote = cond (nat_eq b 34) 34 39

      e : Bool
      e = nat_eq quote 34

      new : List Line
      new = glue (m ∷ ls) (f ∷ fs)

      by_part : (p : Part) → PartBack e (suc at) 0 bs [] p → BackAt place (AreFree (nat_eq quote 34) (record { at = at; bytes = b ∷ bs; broken = broken } ∷ m ∷ ls)) (behind_part p (λ j t. quoted_more quote size new t j 0))
      by_part (Closed t end) (g, s, c, d, q, fit, h) = λ low free. absurd (let size1 = ap (λ (v : List ℕ). length v) d in let size2 = length-append g (c ∷ s) in omega (arith, x, low, q, size1, size2))
      by_part (Open t) h = back_map place (quoted_more quote size new t false 0) (λ v. (quote_front b bs mark e (h v.0).1, v.1)) (more_dotted quote size place r (m ∷ ls) f fs t false 0 z)
      by_part (Joined t) h = back_map place (quoted_more quote size new t true 0) (λ v. (quote_front b bs mark e (h v.0).1, v.1)) (more_dotted quote size place r (m ∷ ls) f fs t true 0 z)
      by_part (Returned p) h = tt
      by_part (Refused p) h = tt
