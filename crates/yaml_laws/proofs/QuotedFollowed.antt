-- A quoted scalar that ends within a front of a text is the same with other bytes behind that front, where no single quote follows it. By induction over lines.
use Rattle.std.proofs.Common.{◌≡◌, ℕ, zero, suc, ◌+◌, ◌≤◌, Bool, true, false, List, [], ◌∷◌, ◌++◌, length, drop, refl, sym, ap, subst, ◌∙◌, arith, cond, true≢false, length-drop}
use Rattle.std.specs.Prelude.{nat_eq, ◌&&◌}
use Rattle.std.proofs.lemmas.Bool.Decides.{nat_tests}
use Rattle.yaml_scalars.specs.declared.scalar.Setting.{Setting}
use Rattle.yaml_scalars.specs.Lines.{Line, Outcome, Stands, Fails, Documents, begins_with, begins_break, ends_with, is_white, is_blank, is_cut_mark, lead, past_white, lines}
use Rattle.yaml_scalars.specs.Quoted.{Piece, Itself, Closes, Means, Joins, Returns, Wrong, piece, Part, Closed, Open, Joined, Returned, Refused, line_part, gap, behind_part, quoted_more, quoted_on}
use Rattle.yaml_scalars.specs.Scalar.{quoted_scalar}
use Rattle.yaml_scalars.specs.code.Walk.{line_at, has_break, behind}
use Rattle.yaml_scalars.proofs.Places.{lines_are, lead_le}
use Rattle.yaml_laws.proofs.Agree.{Later, Within, behind_later, lines_within, drop_before, drop_size}
use Rattle.yaml_laws.proofs.Longer.{glue, joint, Ends, lines_apart, lines_end}
use Rattle.yaml_laws.proofs.QuotedDead.{went}
use Rattle.yaml_laws.proofs.QuotedLaw.{part_of, starts, comes, quote_of}
use Rattle.yaml_laws.proofs.QuotedStays.{part_like, split_like, closed_behind, no_long_mark, unmarked, stands_later, same_part, shut_part, closed_comes}

-- ---- a line

-- the line on which a scalar ends: no mark, and its part closes
shut_line : (quote size p : ℕ) (l : Line) (ls : List Line) (text : List ℕ) (j : Bool) (k : ℕ) (t : List ℕ) (e : ℕ) → Later p ls → e ≤ p → quoted_more quote size (l ∷ ls) text j k ≡ Stands t e
    → (starts l ≡ false) × (is_cut_mark l.bytes ≡ false) × (part_of quote l.at l.bytes (text ++ gap j k) ≡ Closed t e)
shut_line quote size p l ls text j k t e later near h = by_tests (starts l) (is_cut_mark l.bytes) (is_blank l.bytes) refl refl h where
  late : (u : List ℕ) (i : Bool) (n : ℕ) → quoted_more quote size ls u i n ≡ Stands t e → ⊥
  late u i n g = let c = stands_later quote size p ls u i n t e later g in omega (arith, c, near)

  by_tests : (q d w : Bool) → starts l ≡ q → is_cut_mark l.bytes ≡ d → cond q (Documents l.at) (cond d (Fails (l.at + 3)) (cond w (quoted_more quote size ls text j (suc k)) (behind_part (part_of quote l.at l.bytes (text ++ gap j k)) (λ i u. quoted_more quote size ls u i 0)))) ≡ Stands t e
      → (starts l ≡ false) × (is_cut_mark l.bytes ≡ false) × (part_of quote l.at l.bytes (text ++ gap j k) ≡ Closed t e)
  by_tests true d w x y g = absurd (cc)
  by_tests false true w x y g = absurd (cc)
  by_tests false false true x y g = absurd (late text j (suc k) g)
  by_tests false false false x y g = (x, y, shut_part false (part_of quote l.at l.bytes (text ++ gap j k)) 0 t e (λ i u. quoted_more quote size ls u i 0) (λ i u b. late u i 0 b) g)

-- such a line ends it
ends_line : (quote other : ℕ) (m : Line) (ms : List Line) (text : List ℕ) (j : Bool) (k : ℕ) (t : List ℕ) (e : ℕ) → starts m ≡ false → is_cut_mark m.bytes ≡ false → is_blank m.bytes ≡ false → part_of quote m.at m.bytes (text ++ gap j k) ≡ Closed t e → quoted_more quote other (m ∷ ms) text j k ≡ Stands t e
ends_line quote other m ms text j k t e a b c f = by_tests (starts m) (is_cut_mark m.bytes) (is_blank m.bytes) (part_of quote m.at m.bytes (text ++ gap j k)) a b c f where
  by_tests : (q d w : Bool) (r : Part) → q ≡ false → d ≡ false → w ≡ false → r ≡ Closed t e → cond q (Documents m.at) (cond d (Fails (m.at + 3)) (cond w (quoted_more quote other ms text j (suc k)) (behind_part r (λ i u. quoted_more quote other ms u i 0)))) ≡ Stands t e
  by_tests true d w r a b c f = absurd (true≢false a)
  by_tests false true w r a b c f = absurd (true≢false b)
  by_tests false false true r a b c f = absurd (true≢false c)
  by_tests false false false r a b c f = ap (λ r. behind_part r (λ i u. quoted_more quote other ms u i 0)) f

-- a line with others below it
over_line : (quote size other : ℕ) (l : Line) (ls ms : List Line) (text : List ℕ) (j : Bool) (k : ℕ) (t : List ℕ) (e : ℕ) → ((u : List ℕ) (i : Bool) (n : ℕ) → quoted_more quote size ls u i n ≡ Stands t e → quoted_more quote other ms u i n ≡ Stands t e)
    → quoted_more quote size (l ∷ ls) text j k ≡ Stands t e → quoted_more quote other (l ∷ ms) text j k ≡ Stands t e
over_line quote size other l ls ms text j k t e f h = by_tests (starts l) (is_cut_mark l.bytes) (is_blank l.bytes) h where
  by_tests : (q d w : Bool) → cond q (Documents l.at) (cond d (Fails (l.at + 3)) (cond w (quoted_more quote size ls text j (suc k)) (behind_part (part_of quote l.at l.bytes (text ++ gap j k)) (λ i u. quoted_more quote size ls u i 0)))) ≡ Stands t e
      → cond q (Documents l.at) (cond d (Fails (l.at + 3)) (cond w (quoted_more quote other ms text j (suc k)) (behind_part (part_of quote l.at l.bytes (text ++ gap j k)) (λ i u. quoted_more quote other ms u i 0)))) ≡ Stands t e
  by_tests true d w g = absurd (cc)
  by_tests false true w g = absurd (cc)
  by_tests false false true g = f text j (suc k) g
  by_tests false false false g = same_part false (part_of quote l.at l.bytes (text ++ gap j k)) 0 0 t e (λ i u. quoted_more quote size ls u i 0) (λ i u. quoted_more quote other ms u i 0) (λ i u b. f u i 0 b) g

-- ---- lines, of which the last ends at a place

abbrev pub EndsAt : ℕ → List Line → Type 0
EndsAt p [] = ⊥
EndsAt p (l ∷ []) = l.at + length l.bytes ≡ p
EndsAt p (l ∷ m ∷ ls) = EndsAt p (m ∷ ls)

pub ends_at : (p : ℕ) (r : Bool) (ls : List Line) → Ends p r ls → EndsAt p ls
ends_at p r [] h = h
ends_at p r (l ∷ []) h = h.0
ends_at p r (l ∷ m ∷ ls) h = ends_at p r (m ∷ ls) h.2

module _ (p size other : ℕ) (f g : Line) (fs gs : List Line) (t : List ℕ) (e : ℕ) (later : Later p fs) (follows : begins_with 39 f.bytes ≡ false → begins_with 39 g.bytes ≡ false) (near : e ≤ p) where
  more_glued : (quote : ℕ) (ks : List Line) (text : List ℕ) (j : Bool) (k : ℕ) → EndsAt p ks → quoted_more quote size (glue ks (f ∷ fs)) text j k ≡ Stands t e → quoted_more quote other (glue ks (g ∷ gs)) text j k ≡ Stands t e
  more_glued quote [] text j k x h = absurd x
  more_glued quote (l ∷ []) text j k x h =
      let c = shut_line quote size p (joint l f) fs text j k t e later near h in
      let d = split_like quote p l.at (l.bytes ++ f.bytes) (l.bytes ++ g.bytes) l.bytes f.bytes g.bytes (text ++ gap j k) t e refl refl x follows (no_long_mark (joint l f) c.0 c.1) near c.2 in
      let u = unmarked (joint l g) d.1 in
      ends_line quote other (joint l g) gs text j k t e u.0 u.1 d.0 d.2
  more_glued quote (l ∷ m ∷ ks) text j k x h = over_line quote size other l (glue (m ∷ ks) (f ∷ fs)) (glue (m ∷ ks) (g ∷ gs)) text j k t e (λ u i n b. more_glued quote (m ∷ ks) u i n x b) h

  on_glued : (one : Bool) (l : Line) (ks : List Line) → EndsAt p (l ∷ ks) → quoted_on one size (glue (l ∷ ks) (f ∷ fs)) ≡ Stands t e → quoted_on one other (glue (l ∷ ks) (g ∷ gs)) ≡ Stands t e
  on_glued one l [] x h = by_front l.bytes x h where
    none : (quote : ℕ) (j : Bool) (u : List ℕ) → quoted_more quote size fs u j 0 ≡ Stands t e → ⊥
    none quote j u a = let c = stands_later quote size p fs u j 0 t e later a in omega (arith, c, near)

    by_front : (b : List ℕ) → l.at + length b ≡ p → quoted_on one size (record { at = l.at; bytes = b ++ f.bytes; broken = f.broken } ∷ fs) ≡ Stands t e → quoted_on one other (record { at = l.at; bytes = b ++ g.bytes; broken = g.broken } ∷ gs) ≡ Stands t e
    by_front [] n d =
        let quote : ℕ = quote_of f.bytes in
        let r = shut_part one (line_part quote (suc l.at) 0 [] 0 (drop 1 f.bytes)) (l.at + length f.bytes) t e (λ j u. quoted_more quote size fs u j 0) (λ j u a. none quote j u a) d in
        let b = closed_behind quote (suc l.at) 0 [] 0 (drop 1 f.bytes) t e r in
        absurd (omega (arith, b, n, near))
    by_front (c ∷ b) n d =
        let quote : ℕ = cond (nat_eq c 34) 34 39 in
        let r = shut_part one (line_part quote (suc l.at) 0 [] 0 (b ++ f.bytes)) (l.at + suc (length (b ++ f.bytes))) t e (λ j u. quoted_more quote size fs u j 0) (λ j u a. none quote j u a) d in
        let z : line_part quote (suc l.at) 0 [] 0 (b ++ g.bytes) ≡ Closed t e = part_like quote b f.bytes g.bytes (suc l.at) 0 [] 0 p t e follows (omega (arith, n)) near r in
        closed_comes one (line_part quote (suc l.at) 0 [] 0 (b ++ g.bytes)) (l.at + suc (length (b ++ g.bytes))) t e (λ j u. quoted_more quote other gs u j 0) z
  on_glued one l (m ∷ ks) x h =
      same_part one (line_part (quote_of l.bytes) (suc l.at) 0 [] 0 (drop 1 l.bytes)) (l.at + length l.bytes) (l.at + length l.bytes) t e (λ j u. quoted_more (quote_of l.bytes) size (glue (m ∷ ks) (f ∷ fs)) u j 0) (λ j u. quoted_more (quote_of l.bytes) other (glue (m ∷ ks) (g ∷ gs)) u j 0)
      (λ j u a. more_glued (quote_of l.bytes) (m ∷ ks) u j 0 x a) h

-- ---- where a scalar ends

closed_within : (quote at skip : ℕ) (text : List ℕ) (kept : ℕ) (bs t : List ℕ) (e : ℕ) → line_part quote at skip text kept bs ≡ Closed t e → e ≤ at + length bs
closed_within quote at skip text kept [] t e h = absurd (cc)
closed_within quote at (suc n) text kept (b ∷ bs) t e h = let r = closed_within quote (suc at) n text kept bs t e h in omega (arith, r)
closed_within quote at zero text kept (b ∷ bs) t e h = by_piece (piece quote b bs) h (λ n x k g. closed_within quote (suc at) n x k bs t e g) where
  by_white : (q : Bool) → cond q (line_part quote (suc at) 0 (text ++ (b ∷ [])) kept bs) (line_part quote (suc at) 0 (text ++ (b ∷ [])) (suc (length text)) bs) ≡ Closed t e → ((n : ℕ) (x : List ℕ) (k : ℕ) → line_part quote (suc at) n x k bs ≡ Closed t e → e ≤ suc at + length bs) → e ≤ at + suc (length bs)
  by_white true g r = let z = r 0 (text ++ (b ∷ [])) kept g in omega (arith, z)
  by_white false g r = let z = r 0 (text ++ (b ∷ [])) (suc (length text)) g in omega (arith, z)

  by_piece : (p : Piece) → went quote b at text kept bs p ≡ Closed t e → ((n : ℕ) (x : List ℕ) (k : ℕ) → line_part quote (suc at) n x k bs ≡ Closed t e → e ≤ suc at + length bs) → e ≤ at + suc (length bs)
  by_piece Itself g r = by_white (is_white b) g r
  by_piece Closes g r = let z : suc at ≡ e = cc in omega (arith, z)
  by_piece (Means taken x) g r = let z = r taken (text ++ x) (length (text ++ x)) g in omega (arith, z)
  by_piece Joins g r = absurd (cc)
  by_piece (Returns n) g r = absurd (cc)
  by_piece (Wrong n) g r = absurd (cc)

part_within : (r : Part) (next : Bool → List ℕ → Outcome) (p : ℕ) (t : List ℕ) (e : ℕ) → ((u : List ℕ) (end : ℕ) → r ≡ Closed u end → end ≤ p) → ((i : Bool) (u : List ℕ) → next i u ≡ Stands t e → e ≤ p) → behind_part r next ≡ Stands t e → e ≤ p
part_within (Closed u end) next p t e f g h = let same : end ≡ e = cc in subst (λ k. k ≤ p) same (f u end refl)
part_within (Open u) next p t e f g h = g false u h
part_within (Joined u) next p t e f g h = g true u h
part_within (Returned at) next p t e f g h = absurd (cc)
part_within (Refused at) next p t e f g h = absurd (cc)

more_within : (quote size p : ℕ) (ls : List Line) (text : List ℕ) (j : Bool) (k : ℕ) (t : List ℕ) (e : ℕ) → Within p ls → quoted_more quote size ls text j k ≡ Stands t e → e ≤ p
more_within quote size p [] text j k t e a h = absurd (cc)
more_within quote size p (l ∷ ls) text j k t e a h = by_line (starts l) (is_cut_mark l.bytes) (is_blank l.bytes) (λ u i n g. more_within quote size p ls u i n t e a.1 g) h where
  inner : (u : List ℕ) (end : ℕ) → part_of quote l.at l.bytes (text ++ gap j k) ≡ Closed u end → end ≤ p
  inner u end w =
      let b = closed_within quote (l.at + lead is_white l.bytes) 0 (text ++ gap j k) (length (text ++ gap j k)) (past_white l.bytes) u end w in
      let c = a.0 in
      let d = lead_le is_white l.bytes in
      omega (arith, b, c, d, length-drop (lead is_white l.bytes) l.bytes)

  by_line : (m c w : Bool) → ((u : List ℕ) (i : Bool) (n : ℕ) → quoted_more quote size ls u i n ≡ Stands t e → e ≤ p)
      → cond m (Documents l.at) (cond c (Fails (l.at + 3)) (cond w (quoted_more quote size ls text j (suc k)) (behind_part (part_of quote l.at l.bytes (text ++ gap j k)) (λ i u. quoted_more quote size ls u i 0)))) ≡ Stands t e → e ≤ p
  by_line true c w r g = absurd (cc)
  by_line false true w r g = absurd (cc)
  by_line false false true r g = r text j (suc k) g
  by_line false false false r g = part_within (part_of quote l.at l.bytes (text ++ gap j k)) (λ i u. quoted_more quote size ls u i 0) p t e inner (λ i u f. r u i 0 f) g

on_within : (one : Bool) (size p : ℕ) (l : Line) (ls : List Line) (t : List ℕ) (e : ℕ) → Within p (l ∷ ls) → quoted_on one size (l ∷ ls) ≡ Stands t e → e ≤ p
on_within one size p l ls t e a h = by_key one h where
  quote : ℕ
  quote = quote_of l.bytes

  in_line : (b : List ℕ) → l.at + length b ≤ p → (q : ℕ) (u : List ℕ) (end : ℕ) → line_part q (suc l.at) 0 [] 0 (drop 1 b) ≡ Closed u end → end ≤ p
  in_line [] m q u end w = absurd (cc)
  in_line (c ∷ b) m q u end w = let z = closed_within q (suc l.at) 0 [] 0 b u end w in omega (arith, z, m)

  by_key : (one : Bool) → comes one (line_part (quote_of l.bytes) (suc l.at) 0 [] 0 (drop 1 l.bytes)) (l.at + length l.bytes) (λ j u. quoted_more (quote_of l.bytes) size ls u j 0) ≡ Stands t e → e ≤ p
  by_key true h =
      let r = shut_part true (line_part (quote_of l.bytes) (suc l.at) 0 [] 0 (drop 1 l.bytes)) (l.at + length l.bytes) t e (λ j u. Fails 0) (λ j u g. stands_not 0 t e g) h in
      in_line l.bytes a.0 (quote_of l.bytes) t e r where
        stands_not : (n : ℕ) (t : List ℕ) (e : ℕ) → Fails n ≡ Stands t e → ⊥
        stands_not n t e h = cc
  by_key false h = part_within (line_part (quote_of l.bytes) (suc l.at) 0 [] 0 (drop 1 l.bytes)) (λ j u. quoted_more (quote_of l.bytes) size ls u j 0) p t e (λ u end w. in_line l.bytes a.0 (quote_of l.bytes) u end w) (λ j u g. more_within (quote_of l.bytes) size p ls u j 0 t e a.1 g) h

pub quoted_within : (s : Setting) (text : List ℕ) (at : ℕ) (t : List ℕ) (e : ℕ) → at ≤ length text → quoted_scalar s text at ≡ Stands t e → e ≤ length text
quoted_within s text at t e low h =
    let b = drop at text in
    let l : Line = record { at = at; bytes = line_at b; broken = has_break b } in
    let a = subst (λ ls. Within (length text) ls) (lines_are at b) (lines_within (length text) at b (let z = drop_size at text low in omega (arith, z))) in
    on_within s.one_line (length text) (length text) l (behind at b) t e a (sym (ap (quoted_on s.one_line (length text)) (lines_are at b)) ∙ h)

-- ---- texts

begins_line : (xs : List ℕ) → begins_with 39 (line_at xs) ≡ begins_with 39 xs
begins_line [] = refl
begins_line (b ∷ xs) = by_break (begins_break b xs) refl where
  no_quote : (b : ℕ) (xs : List ℕ) → begins_break b xs ≡ true → false ≡ nat_eq b 39
  no_quote b xs h = grind (arith, nat_tests, h)

  by_break : (q : Bool) → begins_break b xs ≡ q → begins_with 39 (cond q [] (b ∷ line_at xs)) ≡ nat_eq b 39
  by_break true h = no_quote b xs h
  by_break false h = refl

-- a carriage return at a front's end, and a line feed behind it
abbrev pub IsApart : ℕ → List ℕ → List ℕ → Type 0
IsApart at front y = (ends_with 13 (drop at front) && begins_with 10 y) ≡ false

pub quoted_followed : (s : Setting) (front x y : List ℕ) (at : ℕ) (t : List ℕ) (e : ℕ) → at ≤ length front → e ≤ length front → (begins_with 39 x ≡ false → begins_with 39 y ≡ false) → IsApart at front x → IsApart at front y
    → quoted_scalar s (front ++ x) at ≡ Stands t e → quoted_scalar s (front ++ y) at ≡ Stands t e
quoted_followed s front x y at t e low near follows ax ay h =
    let b = drop at front in
    let p = at + length b in
    let size = drop_size at front low in
    let f : Line = record { at = p; bytes = line_at x; broken = has_break x } in
    let g : Line = record { at = p; bytes = line_at y; broken = has_break y } in
    let l : Line = record { at = at; bytes = line_at b; broken = has_break b } in
    let old : lines at (drop at (front ++ x)) ≡ glue (l ∷ behind at b) (f ∷ behind p x) = ap (lines at) (drop_before at front x low) ∙ lines_apart at b x ax ∙ ap (glue (lines at b)) (lines_are p x) ∙ ap (λ ls. glue ls (f ∷ behind p x)) (lines_are at b) in
    let new : lines at (drop at (front ++ y)) ≡ glue (l ∷ behind at b) (g ∷ behind p y) = ap (lines at) (drop_before at front y low) ∙ lines_apart at b y ay ∙ ap (glue (lines at b)) (lines_are p y) ∙ ap (λ ls. glue ls (g ∷ behind p y)) (lines_are at b) in
    let last = subst (λ ls. EndsAt p ls) (lines_are at b) (ends_at p (ends_with 13 b) (lines at b) (lines_end at b)) in
    let there : e ≤ p = omega (arith, near, size) in
    let quotes : begins_with 39 (line_at x) ≡ false → begins_with 39 (line_at y) ≡ false = λ n. begins_line y ∙ follows (sym (begins_line x) ∙ n) in
    ap (quoted_on s.one_line (length (front ++ y))) new
    ∙ on_glued p (length (front ++ x)) (length (front ++ y)) f g (behind p x) (behind p y) t e (behind_later p p x (omega arith)) quotes there s.one_line l (behind at b) last (sym (ap (quoted_on s.one_line (length (front ++ x))) old) ∙ h)
