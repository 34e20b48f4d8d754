-- A block scalar's outcome, by its header and the lines below.
use Rattle.std.proofs.Common.{◌≡◌, ℕ, suc, ◌+◌, ◌-◌, ◌<◌, ◌≤◌, ◌⊎◌, Bool, true, false, List, [], ◌∷◌, length, get_or, drop, refl, sym, ap, ◌∙◌, arith, cond, Option, Some, None, drop-cons}
use Rattle.std.specs.Prelude.{ℤ, nat_eq, ◌||◌, ◌&&◌}
use Rattle.std.proofs.lemmas.Bool.Decides.{nat_tests}
use Rattle.std.proofs.lemmas.Option.{none-some, same_Some}
use Rattle.yaml_scalars.specs.declared.header.Header.{Header as Head}
use Rattle.yaml_scalars.specs.Lines.{Line, Fails, begins_with, lines}
use Rattle.yaml_scalars.specs.Block.{Header, header, header_fault, by_digit, block_on}
use Rattle.yaml_scalars.specs.code.Walk.{line_at, has_break, behind}
use Rattle.yaml_scalars.specs.code.BlockSteps.{chomp_seen, header_seen}
use Rattle.yaml_scalars.proofs.Places.{lines_are}
use Rattle.yaml_scalars.proofs.BlockLines.{moved, fault_from}

-- over lines
pub on_fault : (parent : ℤ) (size : ℕ) (l : Line) (ls : List Line) (h : Header) (n : ℕ) → header (drop 1 l.bytes) ≡ h → header_fault false 0 h.rest ≡ Some n → block_on parent size (l ∷ ls) ≡ Fails (l.at + (length l.bytes - length h.rest) + n)
on_fault parent size l ls h n e f = rw (e, f)

pub on_none : (parent : ℤ) (size : ℕ) (l : Line) (ls : List Line) (h : Header) → header (drop 1 l.bytes) ≡ h → header_fault false 0 h.rest ≡ None → l.broken ≡ false → block_on parent size (l ∷ ls) ≡ Fails size
on_none parent size l ls h e f b = rw (e, f, b)

pub on_lines : (parent : ℤ) (size : ℕ) (l : Line) (ls : List Line) (h : Header) → header (drop 1 l.bytes) ≡ h → header_fault false 0 h.rest ≡ None → l.broken ≡ true → block_on parent size (l ∷ ls) ≡ by_digit (begins_with 62 l.bytes) parent h.chomp size h.digit ls
on_lines parent size l ls h e f b = rw (e, f, b)

-- by places
abbrev line_of : List ℕ → ℕ → Line
line_of bytes place = record { at = place; bytes = line_at (drop place bytes); broken = has_break (drop place bytes) }

first_byte : (text : List ℕ) (at : ℕ) → at < length text → (get_or text at 0 ≡ 124) ⊎ (get_or text at 0 ≡ 62) → line_at (drop at text) ≡ get_or text at 0 ∷ line_at (drop (at + 1) text)
first_byte text at l h =
    let b = get_or text at 0 in
    let n : suc at ≡ at + 1 = omega arith in
    let x : nat_eq b 10 ≡ false = grind (arith, nat_tests, h) in
    let y : nat_eq b 13 ≡ false = grind (arith, nat_tests, h) in
    ap line_at (drop-cons text at 0 l)
    ∙ ap (λ q. cond (q || (nat_eq b 13 && begins_with 10 (drop (suc at) text))) [] (b ∷ line_at (drop (suc at) text))) x
    ∙ ap (λ q. cond (q && begins_with 10 (drop (suc at) text)) [] (b ∷ line_at (drop (suc at) text))) y
    ∙ ap (λ k. b ∷ line_at (drop k text)) n

header_is : (text : List ℕ) (at : ℕ) (h : Head) → at < length text → (get_or text at 0 ≡ 124) ⊎ (get_or text at 0 ≡ 62) → header_seen text h ≡ header (line_at (drop (at + 1) text)) → header (drop 1 (line_at (drop at text))) ≡ header_seen text h
header_is text at h l i e = ap (λ (t : List ℕ). header (drop 1 t)) (first_byte text at l i) ∙ sym e

pub fault_of : (end : ℕ) (xs : List ℕ) → header_fault false end xs ≡ moved end (header_fault false 0 xs)
fault_of end xs = let e : end ≡ end + 0 = omega arith in ap (λ k. header_fault false k xs) e ∙ fault_from end 0 false xs

pub block_fault : (parent : ℤ) (text : List ℕ) (at : ℕ) (h : Head) (n : ℕ) → at < length text → (get_or text at 0 ≡ 124) ⊎ (get_or text at 0 ≡ 62) → header_seen text h ≡ header (line_at (drop (at + 1) text)) → at + 1 ≤ h.end → at + 1 + length (line_at (drop (at + 1) text)) ≡ h.end + length (line_at (drop h.end text)) → header_fault false h.end (line_at (drop h.end text)) ≡ Some n
    → block_on parent (length text) (lines at (drop at text)) ≡ Fails n
block_fault parent text at h n l i e w k f = ap (block_on parent (length text)) (lines_are at (drop at text)) ∙ by_fault (header_fault false 0 (line_at (drop h.end text))) refl (sym (fault_of h.end (line_at (drop h.end text))) ∙ f) where
  by_fault : (o : Option ℕ) → header_fault false 0 (line_at (drop h.end text)) ≡ o → moved h.end o ≡ Some n → block_on parent (length text) (line_of text at ∷ behind at (drop at text)) ≡ Fails n
  by_fault None g m = absurd (none-some _ m)
  by_fault (Some j) g m =
      let first : length (line_at (drop at text)) ≡ suc (length (line_at (drop (at + 1) text))) = ap (λ (t : List ℕ). length t) (first_byte text at l i) in
      let p : h.end + j ≡ n = same_Some _ _ m in
      let q : at + (length (line_at (drop at text)) - length (line_at (drop h.end text))) + j ≡ n = omega (arith, first, k, p, w) in
      on_fault parent (length text) (line_of text at) (behind at (drop at text)) (header_seen text h) j (header_is text at h l i e) g ∙ ap Fails q

pub none_of : (end : ℕ) (xs : List ℕ) → header_fault false end xs ≡ None → header_fault false 0 xs ≡ None
none_of end xs f = by_fault (header_fault false 0 xs) (sym (fault_of end xs) ∙ f) where
  by_fault : (o : Option ℕ) → moved end o ≡ None → o ≡ None
  by_fault None m = refl
  by_fault (Some j) m = absurd (cc)

pub block_none : (parent : ℤ) (text : List ℕ) (at : ℕ) (h : Head) → at < length text → (get_or text at 0 ≡ 124) ⊎ (get_or text at 0 ≡ 62) → header_seen text h ≡ header (line_at (drop (at + 1) text)) → header_fault false h.end (line_at (drop h.end text)) ≡ None → has_break (drop at text) ≡ false
    → block_on parent (length text) (lines at (drop at text)) ≡ Fails (length text)
block_none parent text at h l i e f b =
    ap (block_on parent (length text)) (lines_are at (drop at text)) ∙ on_none parent (length text) (line_of text at) (behind at (drop at text)) (header_seen text h) (header_is text at h l i e) (none_of h.end (line_at (drop h.end text)) f) b

pub block_lines : (parent : ℤ) (text : List ℕ) (at start : ℕ) (h : Head) (folded : Bool) → at < length text → (get_or text at 0 ≡ 124) ⊎ (get_or text at 0 ≡ 62) → header_seen text h ≡ header (line_at (drop (at + 1) text)) → header_fault false h.end (line_at (drop h.end text)) ≡ None → has_break (drop at text) ≡ true → behind at (drop at text) ≡ lines start (drop start text) → folded ≡ nat_eq (get_or text at 0) 62
    → block_on parent (length text) (lines at (drop at text)) ≡ by_digit folded parent (chomp_seen h.chomp) (length text) h.digit (lines start (drop start text))
block_lines parent text at start h folded l i e f b k q =
    ap (block_on parent (length text)) (lines_are at (drop at text)) ∙ on_lines parent (length text) (line_of text at) (behind at (drop at text)) (header_seen text h) (header_is text at h l i e) (none_of h.end (line_at (drop h.end text)) f) b
    ∙ ap (λ (t : List ℕ). by_digit (begins_with 62 t) parent (chomp_seen h.chomp) (length text) h.digit (behind at (drop at text))) (first_byte text at l i)
    ∙ ap (λ (ls : List Line). by_digit (nat_eq (get_or text at 0) 62) parent (chomp_seen h.chomp) (length text) h.digit ls) k
    ∙ ap (λ p. by_digit p parent (chomp_seen h.chomp) (length text) h.digit (lines start (drop start text))) (sym q)
