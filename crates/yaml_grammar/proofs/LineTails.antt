-- The lines behind a line are those of the text from there on. By induction over bytes.
use Rattle.std.proofs.Common.{◌≡◌, ℕ, zero, suc, ◌+◌, ◌≤◌, Bool, true, false, cond, nat_eq, arith, List, [], ◌∷◌, drop, length, refl, sym, ap, ◌∙◌, subst}
use Rattle.std.specs.Prelude.{◌||◌, ◌&&◌}
use Rattle.std.proofs.lemmas.List.{drop-drop}
use Rattle.yaml_scalars.specs.Lines.{Line, lines, begins_with, is_mark}
use Rattle.yaml_scalars.specs.Block.{shown, widest}
use Rattle.yaml_scalars.specs.Scalar.{is_first_column}
use Rattle.yaml_scalars.specs.code.Walk.{line_at, has_break, behind}
use Rattle.yaml_scalars.proofs.Places.{lines_are}
use Rattle.yaml_grammar.specs.code.AheadSeen.{content_shown, line_seen, rest_seen, ahead_seen}
use Rattle.yaml_laws.proofs.Agree.{Later, behind_later}
use Rattle.yaml_grammar.proofs.AheadOrder.{line_rest}
use Rattle.yaml_grammar.specs.Ahead.{is_passed}

-- each line and those behind it are what the text has at the line's place
abbrev pub Tails : List ℕ → List Line → Type 0
Tails text [] = Unit {0}
Tails text (l ∷ ls) = (lines l.at (drop l.at text) ≡ l ∷ ls) × Tails text ls

tails_from : (text : List ℕ) (at : ℕ) (rest : List ℕ) → rest ≡ drop at text → Tails text (behind at rest) → Tails text (lines at rest)
tails_from text at rest e h = subst (Tails text) (sym (lines_are at rest)) (ap (lines at) (sym e) ∙ lines_are at rest, h)

behind_tails : (text rest : List ℕ) (at : ℕ) → rest ≡ drop at text → Tails text (behind at rest)
behind_tails text [] at e = tt
behind_tails text (b ∷ rest) at e = by_feed (nat_eq b 10) (behind_tails text rest (suc at) next) where
  next : rest ≡ drop (suc at) text
  next = ap (drop 1) e ∙ drop-drop 1 at text ∙ (let h : at + 1 ≡ suc at = omega arith in ap (λ k. drop k text) h)

  by_feed : (q : Bool) → Tails text (behind (suc at) rest) → Tails text (cond q (lines (suc at) rest) (behind (suc at) rest))
  by_feed true h = tails_from text (suc at) rest next h
  by_feed false h = h

pub tails_of : (text : List ℕ) (at : ℕ) → Tails text (lines at (drop at text))
tails_of text at = tails_from text at (drop at text) refl (behind_tails text (drop at text) at refl)

-- a line inside the text, with those behind it
abbrev pub IsTail : List ℕ → Line → List Line → Type 0
IsTail text l ls = (lines l.at (drop l.at text) ≡ l ∷ ls) × (l.at + length l.bytes ≤ length text) × Later (l.at + length l.bytes) ls

parts_are : (l m : Line) (ls ms : List Line) → l ∷ ls ≡ m ∷ ms → (l ≡ m) × (ls ≡ ms)
parts_are l m ls ms h = (cc, cc)

behind_deep : (m at : ℕ) (ys : List ℕ) → m ≤ length (line_at ys) → behind (at + m) (drop m ys) ≡ behind at ys
behind_deep zero at ys l = let e : at + 0 ≡ at = omega arith in ap (λ k. behind k ys) e
behind_deep (suc m) at [] l = absurd (omega (arith, l))
behind_deep (suc m) at (b ∷ ys) l = by_break (nat_eq b 10) (nat_eq b 13 && begins_with 10 ys) l (λ n. behind_deep m (suc at) ys n) where
  by_break : (p q : Bool) → suc m ≤ length (cond (p || q) [] (b ∷ line_at ys)) → (m ≤ length (line_at ys) → behind (suc at + m) (drop m ys) ≡ behind (suc at) ys) → behind (at + suc m) (drop m ys) ≡ cond p (lines (suc at) ys) (behind (suc at) ys)
  by_break true q l r = absurd (omega (arith, l))
  by_break false true l r = absurd (omega (arith, l))
  by_break false false l r = let e : at + suc m ≡ suc at + m = omega arith in ap (λ k. behind k (drop m ys)) e ∙ r (omega (arith, l))

-- the same line from a place inside it on
inner_lines : (text : List ℕ) (l : Line) (ls : List Line) (m : ℕ) → lines l.at (drop l.at text) ≡ l ∷ ls → m ≤ length l.bytes → (b : Bool) × (lines (l.at + m) (drop (l.at + m) text) ≡ record { at = l.at + m; bytes = drop m l.bytes; broken = b } ∷ ls)
inner_lines text l ls m is low =
    let ys = drop l.at text in
    let p = parts_are (record { at = l.at; bytes = line_at ys; broken = has_break ys }) l (behind l.at ys) ls (sym (lines_are l.at ys) ∙ is) in
    let bytes : line_at ys ≡ l.bytes = ap (λ (x : Line). x.bytes) p.0 in
    let low2 : m ≤ length (line_at ys) = subst (λ (t : List ℕ). m ≤ length t) (sym bytes) low in
    let there : drop (l.at + m) text ≡ drop m ys = sym (drop-drop m l.at text) in
    let b = has_break (drop m ys) in (
      b,
      ap (lines (l.at + m)) there ∙ lines_are (l.at + m) (drop m ys)
          ∙ ap (λ (t : List ℕ). record { at = l.at + m; bytes = t; broken = b } ∷ behind (l.at + m) (drop m ys)) (line_rest m ys low2 ∙ ap (drop m) bytes)
          ∙ ap (λ ks. record { at = l.at + m; bytes = drop m l.bytes; broken = b } ∷ ks) (behind_deep m l.at ys low2 ∙ p.1),
    )

pub tail_is : (text : List ℕ) (l : Line) (ls : List Line) → lines l.at (drop l.at text) ≡ l ∷ ls → l.at + length l.bytes ≤ length text → IsTail text l ls
tail_is text l ls is within =
    let e = l.at + length l.bytes in
    let r = inner_lines text l ls (length l.bytes) is (omega arith) in
    let xs = drop e text in
    let p = parts_are (record { at = e; bytes = line_at xs; broken = has_break xs }) (record { at = e; bytes = drop (length l.bytes) l.bytes; broken = r.0 }) (behind e xs) ls (sym (lines_are e xs) ∙ r.1) in
    (is, within, subst (Later e) p.1 (behind_later e e xs (omega arith)))

pub inner_line : (text : List ℕ) (l : Line) (ls : List Line) → IsTail text l ls → (m : ℕ) → m ≤ length l.bytes → (b : Bool) × (lines (l.at + m) (drop (l.at + m) text) ≡ record { at = l.at + m; bytes = drop m l.bytes; broken = b } ∷ ls)
inner_line text l ls is m low = inner_lines text l ls m is.0 low

-- lines that lie behind a place of the text are looked at not before it
pub later_least : (size p : ℕ) (ls : List Line) → p ≤ size → Later p ls → p ≤ line_seen size ls
later_least size p [] z w = z
later_least size p (l ∷ ls) z w = by_tests (is_mark l.bytes) (is_passed true l.bytes) (later_least size p ls z w.1) where
  by_tests : (q r : Bool) → p ≤ line_seen size ls → p ≤ cond q (l.at + 4) (cond r (line_seen size ls) (l.at + widest (shown l.bytes) (content_shown true l.bytes)))
  by_tests true r h = let a = w.0 in omega (arith, a)
  by_tests false true h = h
  by_tests false false h = let a = w.0 in omega (arith, a)

-- how far the text is looked at from a place, by the lines there
pub seen_from_lines : (text : List ℕ) (e : ℕ) (m : Line) (ls : List Line) (least : ℕ) → lines e (drop e text) ≡ m ∷ ls → least ≤ line_seen (length text) (m ∷ ls) → least ≤ rest_seen (length text) (m ∷ ls) → least ≤ ahead_seen text e
seen_from_lines text e m ls least is a b = subst (λ ks. least ≤ cond (is_first_column text e) (line_seen (length text) ks) (rest_seen (length text) ks)) (sym is) (by_column (is_first_column text e)) where
  by_column : (q : Bool) → least ≤ cond q (line_seen (length text) (m ∷ ls)) (rest_seen (length text) (m ∷ ls))
  by_column true = a
  by_column false = b
