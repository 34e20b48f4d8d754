-- Parts of a line, by places.
use Rattle.std.proofs.Common.{◌≡◌, ℕ, zero, suc, ◌+◌, ◌-◌, ◌<◌, ◌≤◌, Bool, true, false, List, [], ◌∷◌, length, take, drop, get_or, refl, sym, ap, ◌∙◌, arith, cond, length-drop, length-take}
use Rattle.std.specs.Prelude.{◌&&◌}
use Rattle.std.proofs.lemmas.List.{drop-drop}
use Rattle.yaml_scalars.specs.Lines.{begins_break, begins_with, is_mark, is_cut_mark, is_end, lead}
use Rattle.yaml_scalars.specs.code.Walk.{begins_mark, line_at}
use Rattle.yaml_scalars.proofs.Places.{line_drop, line_fits, mark_three, mark_parts, cut_parts}

-- the rest of a line is the line of the place
pub part_is : (bytes : List ℕ) (start n : ℕ) → n ≤ length (line_at (drop start bytes)) → drop n (line_at (drop start bytes)) ≡ line_at (drop (start + n) bytes)
part_is bytes start n l = line_drop n (drop start bytes) l ∙ ap line_at (drop-drop n start bytes)

-- behind the bytes of a mark the line's end makes one, and a carriage return cuts one
pub mark_at : (bytes : List ℕ) (start : ℕ) → begins_mark (line_at (drop start bytes)) ≡ true → is_end (line_at (drop (start + 3) bytes)) ≡ is_mark (line_at (drop start bytes))
mark_at bytes start h = let xs = line_at (drop start bytes) in ap is_end (sym (part_is bytes start 3 (mark_three xs h))) ∙ sym (mark_parts xs ∙ ap (λ q. q && is_end (drop 3 xs)) h)

pub cut_at : (bytes : List ℕ) (start : ℕ) → begins_mark (line_at (drop start bytes)) ≡ true → begins_with 13 (line_at (drop (start + 3) bytes)) ≡ is_cut_mark (line_at (drop start bytes))
cut_at bytes start h = let xs = line_at (drop start bytes) in ap (begins_with 13) (sym (part_is bytes start 3 (mark_three xs h))) ∙ sym (cut_parts xs ∙ ap (λ q. q && begins_with 13 (drop 3 xs)) h)

pub line_within : (bytes : List ℕ) (start n : ℕ) → start ≤ length bytes → n ≤ length (line_at (drop start bytes)) → start + n ≤ length bytes
line_within bytes start n l m = let h = line_fits (drop start bytes) in omega (arith, length-drop start bytes)

-- a line's bytes are those of the text
pub line_get : (n : ℕ) (xs : List ℕ) → n < length (line_at xs) → get_or (line_at xs) n 0 ≡ get_or xs n 0
line_get n [] l = absurd (omega arith)
line_get n (x ∷ xs) l = by_break (begins_break x xs) n l (λ m k. line_get m xs k) where
  by_break : (q : Bool) (n : ℕ) → n < length (cond q [] (x ∷ line_at xs)) → ((m : ℕ) → m < length (line_at xs) → get_or (line_at xs) m 0 ≡ get_or xs m 0) → get_or (cond q [] (x ∷ line_at xs)) n 0 ≡ get_or (x ∷ xs) n 0
  by_break true n l h = absurd (omega arith)
  by_break false zero l h = refl
  by_break false (suc n) l h = h n (omega arith)

-- each of the bytes in front passes
pub lead_byte : (p : ℕ → Bool) (xs : List ℕ) (n : ℕ) → n < lead p xs → p (get_or xs n 0) ≡ true
lead_byte p [] n l = absurd (omega arith)
lead_byte p (x ∷ xs) n l = by_byte (p x) refl n l (λ m k. lead_byte p xs m k) where
  by_byte : (q : Bool) → p x ≡ q → (n : ℕ) → n < cond q (suc (lead p xs)) 0 → ((m : ℕ) → m < lead p xs → p (get_or xs m 0) ≡ true) → p (get_or (x ∷ xs) n 0) ≡ true
  by_byte true e zero l h = e
  by_byte true e (suc n) l h = h n (omega arith)
  by_byte false e n l h = absurd (omega arith)

pub slice_length : (bytes xs : List ℕ) (begin end : ℕ) → begin ≤ end → end ≤ length bytes → take (end - begin) (drop begin bytes) ≡ xs → end ≡ begin + length xs
slice_length bytes xs begin end l m h = let s = ap (λ (t : List ℕ). length t) h in omega (arith, length-take (end - begin) (drop begin bytes), length-drop begin bytes)
