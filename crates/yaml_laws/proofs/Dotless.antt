-- The text of a scalar has no dot, where none stands among the bytes from the scalar's first one to the text's end, as it is or as an escape.
use Rattle.std.proofs.Common.{◌≡◌, ℕ, zero, suc, ◌+◌, ◌<◌, Bool, true, false, ◌||◌, ◌&&◌, not, cond, nat_eq, nat_lt, arith, List, [], ◌∷◌, ◌++◌, take, drop, length, refl, sym, ap, ◌∙◌, subst, true≢false, length-drop}
use Rattle.std.proofs.lemmas.Bool.Decides.{nat_tests}
use Rattle.yaml_scalars.specs.declared.scalar.Setting.{Setting}
use Rattle.yaml_scalars.specs.declared.plain_line.Why.{Why}
use Rattle.yaml_scalars.specs.declared.plain_line.Why.TheVariants.{Break, Return, Colon, Comment, Mark}
use Rattle.yaml_scalars.specs.declared.plain_line.Below.{Below}
use Rattle.yaml_scalars.specs.declared.plain_line.Below.TheVariants.{Blank, Outside, Further}
use Rattle.yaml_scalars.specs.Lines.{Line, Outcome, Stands, Fails, Documents, begins_with, begins_break, put, begun, lines, each, is_white, lead, is_blank, past_white, keep, trimmed, is_mark, is_cut_mark, newlines, fold}
use Rattle.yaml_scalars.specs.Plain.{begins_plain, wrong_begin, plain_len, content, content_end, reason, below, joined, ends_on, stop_behind, joins, further, more, first, plain_on}
use Rattle.yaml_scalars.specs.Quoted.{Piece, Itself, Closes, Means, Joins, Returns, Wrong, Part, Closed, Open, Joined, Returned, Refused, piece, add_piece, line_part, gap, behind_part, key_part, quoted_more, quoted_on}
use Rattle.yaml_scalars.specs.Scalar.{is_first_column, begins_quoted, begins_block, plain_scalar, quoted_scalar, block_scalar, scalar_at}
use Rattle.yaml_scalars.specs.code.Walk.{line_at, has_break, behind}
use Rattle.yaml_scalars.proofs.Places.{lines_are}
use Rattle.yaml_laws.specs.code.Dots.{is_dotless, begins_digits, spells_dot, undotted}
use Rattle.yaml_laws.proofs.Agree.{drop_before}
use Rattle.yaml_laws.proofs.DotEscapes.{IsFree, PieceFree, piece_free}
use Rattle.yaml_laws.proofs.DotFilled.{left, right, both, filled, unspelled}
use Rattle.yaml_laws.proofs.EscapeLonger.{AllFit}
use Rattle.yaml_laws.proofs.ScalarFollowed.{block_longer}

-- ---- bytes

pub free_append : (v w : List ℕ) → IsFree v → IsFree w → IsFree (v ++ w)
free_append [] w h g = g
free_append (b ∷ v) w h g = by_byte (is_dotless b) h (λ i. free_append v w i g) where
  by_byte : (q : Bool) → cond q (each is_dotless v) false ≡ true → (IsFree v → IsFree (v ++ w)) → cond q (each is_dotless (v ++ w)) false ≡ true
  by_byte true h r = r h
  by_byte false h r = absurd (true≢false (sym h))

free_take : (n : ℕ) (v : List ℕ) → IsFree v → IsFree (take n v)
free_take zero v h = refl
free_take (suc n) [] h = refl
free_take (suc n) (b ∷ v) h = by_byte (is_dotless b) h (λ i. free_take n v i) where
  by_byte : (q : Bool) → cond q (each is_dotless v) false ≡ true → (IsFree v → IsFree (take n v)) → cond q (each is_dotless (take n v)) false ≡ true
  by_byte true h r = r h
  by_byte false h r = absurd (true≢false (sym h))

free_drop : (n : ℕ) (v : List ℕ) → IsFree v → IsFree (drop n v)
free_drop zero v h = h
free_drop (suc n) [] h = refl
free_drop (suc n) (b ∷ v) h = by_byte (is_dotless b) h (λ i. free_drop n v i) where
  by_byte : (q : Bool) → cond q (each is_dotless v) false ≡ true → (IsFree v → IsFree (drop n v)) → IsFree (drop n v)
  by_byte true h r = r h
  by_byte false h r = absurd (true≢false (sym h))

free_trimmed : (v : List ℕ) → IsFree v → IsFree (trimmed v)
free_trimmed [] h = refl
free_trimmed (b ∷ v) h = by_byte (is_dotless b) refl h (λ i. free_trimmed v i) where
  kept : is_dotless b ≡ true → (xs : List ℕ) → IsFree xs → IsFree (keep b xs)
  kept e [] f = by_white (is_white b) where
    by_white : (w : Bool) → IsFree (cond w [] (b ∷ []))
    by_white true = refl
    by_white false = ap (λ q. cond q true false) e
  kept e (c ∷ cs) f = ap (λ q. cond q (each is_dotless (c ∷ cs)) false) e ∙ f

  by_byte : (q : Bool) → is_dotless b ≡ q → cond q (each is_dotless v) false ≡ true → (IsFree v → IsFree (trimmed v)) → IsFree (keep b (trimmed v))
  by_byte true e h r = kept e (trimmed v) (r h)
  by_byte false e h r = absurd (true≢false (sym h))

free_newlines : (k : ℕ) → IsFree (newlines k)
free_newlines zero = refl
free_newlines (suc k) = free_newlines k

free_fold : (k : ℕ) → IsFree (fold k)
free_fold zero = refl
free_fold (suc k) = free_newlines (suc k)

free_gap : (j : Bool) (k : ℕ) → IsFree (gap j k)
free_gap true k = free_newlines k
free_gap false k = free_fold k

free_bytes : (v : List ℕ) → undotted false false v ≡ true → IsFree v
free_bytes [] h = refl
free_bytes (b ∷ v) h = ap (λ q. cond q (each is_dotless v) false) (left (is_dotless b) (undotted false false v) h) ∙ free_bytes v (right (is_dotless b) (undotted false false v) h)

-- ---- lines

abbrev pub AreFree : Bool → List Line → Type 0
AreFree e [] = Unit {0}
AreFree e (l ∷ ls) = (undotted e false l.bytes ≡ true) × AreFree e ls

-- from a byte on that may stand behind a backslash
abbrev AreFrom : Bool → Bool → List Line → Type 0
AreFrom e over [] = Unit {0}
AreFrom e over (l ∷ ls) = (undotted e over l.bytes ≡ true) × AreFree e ls

-- what a line begins with, the text does
digits_ahead : (ds xs : List ℕ) → begins_digits ds (line_at xs) ≡ true → begins_digits ds xs ≡ true
digits_ahead [] [] h = h
digits_ahead (d ∷ ds) [] h = h
digits_ahead [] (b ∷ xs) h = by_break (begins_break b xs) h where
  by_break : (q : Bool) → begins_digits [] (cond q [] (b ∷ line_at xs)) ≡ true → (nat_eq b 101 || nat_eq b 69) ≡ true
  by_break true h = absurd (true≢false (sym h))
  by_break false h = h
digits_ahead (d ∷ ds) (b ∷ xs) h = by_break (begins_break b xs) h (λ i. digits_ahead ds xs i) where
  by_break : (q : Bool) → begins_digits (d ∷ ds) (cond q [] (b ∷ line_at xs)) ≡ true → (begins_digits ds (line_at xs) ≡ true → begins_digits ds xs ≡ true) → (nat_eq b d && begins_digits ds xs) ≡ true
  by_break true h r = absurd (true≢false (sym h))
  by_break false h r = both (nat_eq b d) (begins_digits ds xs) (left (nat_eq b d) (begins_digits ds (line_at xs)) h) (r (right (nat_eq b d) (begins_digits ds (line_at xs)) h))

spells_ahead : (xs : List ℕ) → not (spells_dot xs) ≡ true → not (spells_dot (line_at xs)) ≡ true
spells_ahead xs h = unspelled xs (line_at xs) (λ ds. digits_ahead ds xs) h

-- the byte is passed, and so may be the next one
after : (e : Bool) (b : ℕ) (xs : List ℕ) → nat_eq b 92 ≡ false → (over : Bool) → undotted e over (b ∷ xs) ≡ true → undotted e false xs ≡ true
after e b xs n true h = h
after e b xs n false h = plain e (nat_eq b 92) n (right (is_dotless b) (cond (e && nat_eq b 92) (not (spells_dot xs) && undotted e true xs) (undotted e false xs)) h) where
  plain : (e q : Bool) → q ≡ false → cond (e && q) (not (spells_dot xs) && undotted e true xs) (undotted e false xs) ≡ true → undotted e false xs ≡ true
  plain true true n h = absurd (true≢false n)
  plain true false n h = h
  plain false q n h = h

no_dots : (e over : Bool) → undotted e over [] ≡ true
no_dots e true = refl
no_dots e false = refl

feed_alone : (xs : List ℕ) → begins_with 10 xs ≡ true → line_at xs ≡ []
feed_alone [] h = refl
feed_alone (x ∷ xs) h = ap (λ q. cond (q || (nat_eq x 13 && begins_with 10 xs)) [] (x ∷ line_at xs)) h

lines_free : (e over : Bool) (at : ℕ) (xs : List ℕ) → undotted e over xs ≡ true → AreFrom e over (lines at xs)
lines_free e over at [] h = (no_dots e over, tt)
lines_free e over at (b ∷ xs) h = by_break (nat_eq b 10) (nat_eq b 13) (begins_with 10 xs) refl refl (λ s u. lines_free e s (suc at) xs u) where
  all : (ls : List Line) → AreFrom e false ls → AreFree e ls
  all [] f = tt
  all (l ∷ ls) f = f

  goes : (over : Bool) → undotted e over (b ∷ xs) ≡ true → (s : Bool) × (undotted e s xs ≡ true) × (undotted e s (line_at xs) ≡ true → undotted e over (b ∷ line_at xs) ≡ true)
  goes true h = (false, h, λ g. g)
  goes false h = by_test (is_dotless b) (e && nat_eq b 92) h where
    by_test : (d q : Bool) → (d && cond q (not (spells_dot xs) && undotted e true xs) (undotted e false xs)) ≡ true
        → (s : Bool) × (undotted e s xs ≡ true) × (undotted e s (line_at xs) ≡ true → (d && cond q (not (spells_dot (line_at xs)) && undotted e true (line_at xs)) (undotted e false (line_at xs))) ≡ true)
    by_test true true h = (
      true,
      right (not (spells_dot xs)) (undotted e true xs) h,
      λ g. both (not (spells_dot (line_at xs))) (undotted e true (line_at xs)) (spells_ahead xs (left (not (spells_dot xs)) (undotted e true xs) h)) g,
    )
    by_test true false h = (false, h, λ g. g)
    by_test false q h = absurd (true≢false (sym h))

  on : ((s : Bool) → undotted e s xs ≡ true → AreFrom e s (lines (suc at) xs)) → (undotted e (goes over h).0 (line_at xs) ≡ true) × AreFree e (behind (suc at) xs)
  on next = subst (AreFrom e (goes over h).0) (lines_are (suc at) xs) (next (goes over h).0 (goes over h).1)

  by_break : (p q r : Bool) → nat_eq b 10 ≡ p → begins_with 10 xs ≡ r → ((s : Bool) → undotted e s xs ≡ true → AreFrom e s (lines (suc at) xs))
      → AreFrom e over (cond p (record { at = at; bytes = []; broken = true } ∷ lines (suc at) xs) (cond (q && r) (begun at (lines (suc at) xs)) (put at b (lines (suc at) xs))))
  by_break true q r i k next =
      let feed : b ≡ 10 = grind (arith, nat_tests, i) in
      let n : nat_eq b 92 ≡ false = ap (λ z. nat_eq z 92) feed in
      (no_dots e over, all (lines (suc at) xs) (next false (after e b xs n over h)))
  by_break false true true i k next =
      subst (λ ls. AreFrom e over (begun at ls)) (sym (lines_are (suc at) xs)) (subst (λ t. undotted e over t ≡ true) (sym (feed_alone xs k)) (no_dots e over), (on next).1)
  by_break false true false i k next = subst (λ ls. AreFrom e over (put at b ls)) (sym (lines_are (suc at) xs)) ((goes over h).2 (on next).0, (on next).1)
  by_break false false r i k next = subst (λ ls. AreFrom e over (put at b ls)) (sym (lines_are (suc at) xs)) ((goes over h).2 (on next).0, (on next).1)

-- white space in front is passed
white_free : (e : Bool) (xs : List ℕ) → undotted e false xs ≡ true → undotted e false (past_white xs) ≡ true
white_free e [] h = h
white_free e (b ∷ xs) h = by_white (is_white b) refl (λ i. white_free e xs i) where
  by_white : (w : Bool) → is_white b ≡ w → (undotted e false xs ≡ true → undotted e false (past_white xs) ≡ true) → undotted e false (drop (cond w (suc (lead is_white xs)) 0) (b ∷ xs)) ≡ true
  by_white true w r = r (after e b xs (grind (arith, nat_tests, w)) false h)
  by_white false w r = h

-- ---- what is said

abbrev pub SaysFree : Outcome → Type 0
SaysFree (Stands t e) = IsFree t
SaysFree (Fails p) = Unit {0}
SaysFree (Documents p) = Unit {0}

-- ---- quoted scalars

abbrev PartFree : Part → Type 0
PartFree (Closed t e) = IsFree t
PartFree (Open t) = IsFree t
PartFree (Joined t) = IsFree t
PartFree (Returned p) = Unit {0}
PartFree (Refused p) = Unit {0}

part_free : (quote at skip : ℕ) (text : List ℕ) (kept : ℕ) (bs : List ℕ) → IsFree text → undotted (nat_eq quote 34) false (drop skip bs) ≡ true → PartFree (line_part quote at skip text kept bs)
part_free quote at skip text kept [] f u = free_take kept text f
part_free quote at (suc n) text kept (b ∷ bs) f u = part_free quote (suc at) n text kept bs f u
part_free quote at zero text kept (b ∷ bs) f u = by_piece (piece quote b bs) (piece_free quote b bs u) (λ n t k g v. part_free quote (suc at) n t k bs g v) where
  Next : Type 0
  Next = (n : ℕ) (t : List ℕ) (k : ℕ) → IsFree t → undotted (nat_eq quote 34) false (drop n bs) ≡ true → PartFree (line_part quote (suc at) n t k bs)

  by_white : (w : Bool) → IsFree (b ∷ []) → undotted (nat_eq quote 34) false bs ≡ true → Next → PartFree (cond w (line_part quote (suc at) 0 (text ++ (b ∷ [])) kept bs) (line_part quote (suc at) 0 (text ++ (b ∷ [])) (suc (length text)) bs))
  by_white true g v next = next 0 (text ++ (b ∷ [])) kept (free_append text (b ∷ []) f g) v
  by_white false g v next = next 0 (text ++ (b ∷ [])) (suc (length text)) (free_append text (b ∷ []) f g) v

  by_piece : (p : Piece) → PieceFree (nat_eq quote 34) b bs p → Next → PartFree (add_piece p b at text kept (λ n t k. line_part quote (suc at) n t k bs))
  by_piece Itself (g, v) next = by_white (is_white b) g v next
  by_piece Closes g next = f
  by_piece (Means n t) (g, v) next = next n (text ++ t) (length (text ++ t)) (free_append text t f g) v
  by_piece Joins g next = f
  by_piece (Returns n) g next = tt
  by_piece (Wrong n) g next = tt

behind_free : (r : Part) (next : Bool → List ℕ → Outcome) → PartFree r → ((j : Bool) (t : List ℕ) → IsFree t → SaysFree (next j t)) → SaysFree (behind_part r next)
behind_free (Closed t e) next f n = f
behind_free (Open t) next f n = n false t f
behind_free (Joined t) next f n = n true t f
behind_free (Returned p) next f n = tt
behind_free (Refused p) next f n = tt

pub quoted_free : (quote size : ℕ) (ls : List Line) (text : List ℕ) (j : Bool) (k : ℕ) → IsFree text → AreFree (nat_eq quote 34) ls → SaysFree (quoted_more quote size ls text j k)
quoted_free quote size [] text j k f u = tt
quoted_free quote size (l ∷ ls) text j k f u =
    by_tests (is_mark l.bytes && (l.broken || nat_lt 3 (length l.bytes))) (is_cut_mark l.bytes) (is_blank l.bytes) (λ t i n g. quoted_free quote size ls t i n g u.1) where
      T : List ℕ
      T = text ++ gap j k

      by_tests : (s c b : Bool) → ((t : List ℕ) (i : Bool) (n : ℕ) → IsFree t → SaysFree (quoted_more quote size ls t i n))
          → SaysFree (cond s (Documents l.at) (cond c (Fails (l.at + 3)) (cond b (quoted_more quote size ls text j (suc k)) (behind_part (line_part quote (l.at + lead is_white l.bytes) 0 T (length T) (past_white l.bytes)) (λ i t. quoted_more quote size ls t i 0)))))
      by_tests true c b next = tt
      by_tests false true b next = tt
      by_tests false false true next = next text j (suc k) f
      by_tests false false false next =
          behind_free (line_part quote (l.at + lead is_white l.bytes) 0 T (length T) (past_white l.bytes)) (λ i t. quoted_more quote size ls t i 0)
          (part_free quote (l.at + lead is_white l.bytes) 0 T (length T) (past_white l.bytes) (free_append text (gap j k) f (free_gap j k)) (white_free (nat_eq quote 34) l.bytes u.0)) (λ i t g. next t i 0 g)

-- from the quotation mark on
first_free : (xs : List ℕ) (q : Bool) → begins_with 34 xs ≡ q → undotted q false xs ≡ true → undotted q false (drop 1 xs) ≡ true
first_free [] q e u = u
first_free (b ∷ xs) true e u = after true b xs (let z : b ≡ 34 = grind (arith, nat_tests, e) in ap (λ n. nat_eq n 92) z) false u
first_free (b ∷ xs) false e u = right (is_dotless b) (undotted false false xs) u

on_free : (one : Bool) (size : ℕ) (ls : List Line) (q : Bool) → ((l : Line) (ms : List Line) → ls ≡ l ∷ ms → begins_with 34 l.bytes ≡ q) → AreFree q ls → SaysFree (quoted_on one size ls)
on_free one size [] q e u = tt
on_free one size (l ∷ ls) q e u = by_quote q (e l ls refl) u where
  by_quote : (q : Bool) → begins_with 34 l.bytes ≡ q → AreFree q (l ∷ ls) → SaysFree (quoted_on one size (l ∷ ls))
  by_quote q i u =
      subst (λ q. SaysFree (cond one (key_part (line_part (cond q 34 39) (suc l.at) 0 [] 0 (drop 1 l.bytes)) (l.at + length l.bytes)) (behind_part (line_part (cond q 34 39) (suc l.at) 0 [] 0 (drop 1 l.bytes)) (λ j t. quoted_more (cond q 34 39) size ls t j 0)))) (sym i) (by_one q i u one) where
        keyed : (r : Part) (over : ℕ) → PartFree r → SaysFree (key_part r over)
        keyed (Closed t e) over f = f
        keyed (Open t) over f = tt
        keyed (Joined t) over f = tt
        keyed (Returned p) over f = tt
        keyed (Refused p) over f = tt

        by_line : (quote : ℕ) → undotted (nat_eq quote 34) false (drop 1 l.bytes) ≡ true → AreFree (nat_eq quote 34) ls → (one : Bool)
            → SaysFree (cond one (key_part (line_part quote (suc l.at) 0 [] 0 (drop 1 l.bytes)) (l.at + length l.bytes)) (behind_part (line_part quote (suc l.at) 0 [] 0 (drop 1 l.bytes)) (λ j t. quoted_more quote size ls t j 0)))
        by_line quote u v true = keyed (line_part quote (suc l.at) 0 [] 0 (drop 1 l.bytes)) (l.at + length l.bytes) (part_free quote (suc l.at) 0 [] 0 (drop 1 l.bytes) refl u)
        by_line quote u v false =
            behind_free (line_part quote (suc l.at) 0 [] 0 (drop 1 l.bytes)) (λ j t. quoted_more quote size ls t j 0) (part_free quote (suc l.at) 0 [] 0 (drop 1 l.bytes) refl u) (λ j t f. quoted_free quote size ls t j 0 f v)

        by_one : (q : Bool) → begins_with 34 l.bytes ≡ q → AreFree q (l ∷ ls) → (one : Bool)
            → SaysFree (cond one (key_part (line_part (cond q 34 39) (suc l.at) 0 [] 0 (drop 1 l.bytes)) (l.at + length l.bytes)) (behind_part (line_part (cond q 34 39) (suc l.at) 0 [] 0 (drop 1 l.bytes)) (λ j t. quoted_more (cond q 34 39) size ls t j 0)))
        by_one true i (u, v) one = by_line 34 (first_free l.bytes true i u) v one
        by_one false i (u, v) one = by_line 39 (first_free l.bytes false i u) v one

-- ---- plain scalars

content_free : (flow : Bool) (bytes : List ℕ) → IsFree bytes → IsFree (content flow bytes)
content_free flow bytes f = free_trimmed (take (plain_len flow false bytes) bytes) (free_take (plain_len flow false bytes) bytes f)

plain_free : (s : Setting) (ls : List Line) (text : List ℕ) (end k : ℕ) → IsFree text → AreFree false ls → SaysFree (more s ls text end k)
plain_free s [] text end k f u = f
plain_free s (l ∷ ls) text end k f u = by_line (below s l.bytes) (λ t e n g. plain_free s ls t e n g u.1) where
  Next : Type 0
  Next = (t : List ℕ) (e n : ℕ) → IsFree t → SaysFree (more s ls t e n)

  joined_free : (n : ℕ) → IsFree (joined s.flow (drop n l.bytes) text k)
  joined_free n = free_append text (fold k ++ content s.flow (drop n l.bytes)) f (free_append (fold k) (content s.flow (drop n l.bytes)) (free_fold k) (content_free s.flow (drop n l.bytes) (free_drop n l.bytes (free_bytes l.bytes u.0))))

  ends : (n : ℕ) (q : Bool) → SaysFree (cond q (Stands text end) (Stands (joined s.flow (drop n l.bytes) text k) (content_end s.flow (drop n l.bytes) (l.at + n))))
  ends n true = f
  ends n false = joined_free n

  by_flow : (n : ℕ) (q : Bool) → SaysFree (cond q (ends_on s.flow (drop n l.bytes) (l.at + n) text end k) (Fails (stop_behind s.flow (drop n l.bytes) (l.at + n))))
  by_flow n true = ends n (nat_eq (plain_len s.flow false (drop n l.bytes)) 0)
  by_flow n false = tt

  by_why : (n : ℕ) (w : Why) → Next → SaysFree (joins s.flow w (drop n l.bytes) (l.at + n) text end k (more s ls))
  by_why n Break next = next (joined s.flow (drop n l.bytes) text k) (content_end s.flow (drop n l.bytes) (l.at + n)) 0 (joined_free n)
  by_why n Comment next = joined_free n
  by_why n Return next = tt
  by_why n Colon next = by_flow n s.flow
  by_why n Mark next = ends n (nat_eq (plain_len s.flow false (drop n l.bytes)) 0)

  by_line : (b : Below) → Next → SaysFree (further s b l.at l.bytes text end k (more s ls))
  by_line Blank next = next text end (suc k) f
  by_line Outside next = f
  by_line (Further n) next = by_why n (reason s.flow (drop n l.bytes)) next

plain_on_free : (s : Setting) (fresh : Bool) (ls : List Line) → AreFree false ls → SaysFree (plain_on s fresh ls)
plain_on_free s fresh [] u = tt
plain_on_free s fresh (l ∷ ls) u = by_tests (fresh && (is_mark l.bytes || is_cut_mark l.bytes)) (begins_plain s.flow l.bytes) where
  f : IsFree (content s.flow l.bytes)
  f = content_free s.flow l.bytes (free_bytes l.bytes u.0)

  by_one : (q : Bool) → SaysFree (cond q (Stands (content s.flow l.bytes) (content_end s.flow l.bytes l.at)) (more s ls (content s.flow l.bytes) (content_end s.flow l.bytes l.at) 0))
  by_one true = f
  by_one false = plain_free s ls (content s.flow l.bytes) (content_end s.flow l.bytes l.at) 0 f u.1

  by_why : (w : Why) → SaysFree (first s w l.at l.bytes ls)
  by_why Break = by_one s.one_line
  by_why Return = tt
  by_why Colon = f
  by_why Comment = f
  by_why Mark = f

  by_tests : (m b : Bool) → SaysFree (cond m (Fails (l.at + 3)) (cond b (first s (reason s.flow l.bytes) l.at l.bytes ls) (Fails (wrong_begin l.at l.bytes))))
  by_tests true b = tt
  by_tests false true = by_why (reason s.flow l.bytes)
  by_tests false false = tt

-- ---- any of these

begins_line : (xs : List ℕ) → begins_with 34 (line_at xs) ≡ begins_with 34 xs
begins_line [] = refl
begins_line (b ∷ xs) = by_break (begins_break b xs) refl where
  by_break : (q : Bool) → begins_break b xs ≡ q → begins_with 34 (cond q [] (b ∷ line_at xs)) ≡ nat_eq b 34
  by_break false e = refl
  by_break true e = sym (other (nat_eq b 10) (nat_eq b 13) (begins_with 10 xs) refl refl e) where
    other : (p q r : Bool) → nat_eq b 10 ≡ p → nat_eq b 13 ≡ q → (p || (q && r)) ≡ true → nat_eq b 34 ≡ false
    other true q r i k e = grind (arith, nat_tests, i)
    other false true r i k e = grind (arith, nat_tests, k)
    other false false r i k e = absurd (true≢false (sym e))

-- no quote stands in front
pub unquoted : (xs : List ℕ) → begins_quoted xs ≡ false → begins_with 34 xs ≡ false
unquoted xs e = by_or (begins_with 34 xs) (begins_with 39 xs) e where
  by_or : (p q : Bool) → (p || q) ≡ false → p ≡ false
  by_or true q h = h
  by_or false q h = refl

pub scalar_free : (s : Setting) (text : List ℕ) (at : ℕ) (t : List ℕ) (end : ℕ) → begins_block s (drop at text) ≡ false → undotted (begins_with 34 (drop at text)) false (drop at text) ≡ true → scalar_at s text at ≡ Stands t end → IsFree t
scalar_free s text at t end n u h = by_quote (begins_quoted (drop at text)) (begins_block s (drop at text)) refl n h where
  bytes : List ℕ
  bytes = drop at text

  says : (o : Outcome) → SaysFree o → o ≡ Stands t end → IsFree t
  says o f e = subst SaysFree e f

  all : (q : Bool) (ls : List Line) → AreFrom q false ls → AreFree q ls
  all q [] f = tt
  all q (l ∷ ls) f = f

  by_quote : (q b : Bool) → begins_quoted (drop at text) ≡ q → b ≡ false → cond q (quoted_scalar s text at) (cond b (block_scalar s text at) (plain_scalar s text at)) ≡ Stands t end → IsFree t
  by_quote true b e i g =
      says (quoted_scalar s text at)
      (on_free s.one_line (length text) (lines at bytes) (begins_with 34 bytes) (λ l ms z. first_line l ms (sym z ∙ lines_are at bytes)) (all (begins_with 34 bytes) (lines at bytes) (lines_free (begins_with 34 bytes) false at bytes u))) g where
        first_line : (l : Line) (ms : List Line) → l ∷ ms ≡ record { at = at; bytes = line_at bytes; broken = has_break bytes } ∷ behind at bytes → begins_with 34 l.bytes ≡ begins_with 34 bytes
        first_line l ms z = (let y : l ≡ record { at = at; bytes = line_at bytes; broken = has_break bytes } = cc in ap (λ (l : Line). begins_with 34 l.bytes) y) ∙ begins_line bytes
  by_quote false true e i g = absurd (true≢false i)
  by_quote false false e i g =
      says (plain_scalar s text at)
      (plain_on_free s (is_first_column text at) (lines at bytes) (all false (lines at bytes) (lines_free false false at bytes (ap (λ q. undotted q false bytes) (sym (unquoted (drop at text) e)) ∙ u)))) g

-- and it is completed without one
pub undotted_grown : (s : Setting) (text : List ℕ) (at : ℕ) (w t : List ℕ) (end : ℕ) → at < length text → begins_block s (drop at text) ≡ false → undotted (begins_with 34 (drop at text)) false (drop at text) ≡ true → AllFit w → scalar_at s (text ++ w) at ≡ Stands t end → IsFree t
undotted_grown s text at w t end l n u f h =
    scalar_free s (text ++ w) at t end (block_longer s text w at l ∙ n)
    (subst (λ xs. undotted (begins_with 34 xs) false xs ≡ true) (sym (drop_before at text w (omega (arith, l)))) (ap (λ q. undotted q false (drop at text ++ w)) (same_head (drop at text) (omega (arith, l, length-drop at text))) ∙ filled (begins_with 34 (drop at text)) false (drop at text) w f u)) h where
      same_head : (xs : List ℕ) → 0 < length xs → begins_with 34 (xs ++ w) ≡ begins_with 34 xs
      same_head [] l = absurd (omega (arith, l))
      same_head (x ∷ xs) l = refl
