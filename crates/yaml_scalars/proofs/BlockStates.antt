-- A block scalar over the lines from a place on, one line more.
use Rattle.std.proofs.Common.{◌≡◌, ℕ, suc, ◌+◌, Bool, true, false, List, [], ◌∷◌, ◌++◌, length, drop, refl, sym, ap, ◌∙◌, arith, cond, Option, Some, None}
use Rattle.std.proofs.lemmas.Option.{none-some}
use Rattle.yaml_scalars.specs.declared.header.Chomp.{Chomp as Chomping}
use Rattle.yaml_scalars.specs.declared.block.Style.{Style}
use Rattle.yaml_scalars.specs.Lines.{Line, Outcome, Stands, Fails, is_blank, indent, lines}
use Rattle.yaml_scalars.specs.Block.{Chomp, Last, is_content, return_behind, taken_off, ending, count_break, content_more, blank_more, Nothing, inner_of, widest}
use Rattle.yaml_scalars.specs.code.Walk.{line_at, has_break, behind}
use Rattle.yaml_scalars.specs.code.BlockSteps.{chomp_seen, content_from, blank_from, text_more, last_more, count_more}
use Rattle.yaml_scalars.proofs.Places.{lines_are}
use Rattle.yaml_scalars.proofs.BlockLines.{moved, return_from, inner_blank}

-- over lines
pub more_out : (folded : Bool) (chomp : Chomp) (inner size : ℕ) (l : Line) (ls : List Line) (text : List ℕ) (last : Option Last) (e : ℕ) → is_content inner l.bytes ≡ false
    → content_more folded chomp inner size (l ∷ ls) text last e ≡ Stands (text ++ ending chomp last e) l.at
more_out folded chomp inner size l ls text last e h = rw h

pub more_return : (folded : Bool) (chomp : Chomp) (inner size : ℕ) (l : Line) (ls : List Line) (text : List ℕ) (last : Option Last) (e n : ℕ) → is_content inner l.bytes ≡ true → return_behind 0 l.bytes ≡ Some n
    → content_more folded chomp inner size (l ∷ ls) text last e ≡ Fails (l.at + n)
more_return folded chomp inner size l ls text last e n h r = rw (h, r)

pub more_line : (folded : Bool) (chomp : Chomp) (inner size : ℕ) (l : Line) (ls : List Line) (text : List ℕ) (last : Option Last) (e : ℕ) (part : List ℕ) → is_content inner l.bytes ≡ true → return_behind 0 l.bytes ≡ None → taken_off inner l.bytes ≡ part
    → content_more folded chomp inner size (l ∷ ls) text last e ≡ content_more folded chomp inner size ls (text_more folded last e text part) (last_more last l.broken part) (count_more e l.broken part)
more_line folded chomp inner size l ls text last e [] h r t = rw (h, r, t)
more_line folded chomp inner size l ls text last e (b ∷ bs) h r t = rw (h, r, t)

-- by places
abbrev line_of : List ℕ → ℕ → Line
line_of bytes place = record { at = place; bytes = line_at (drop place bytes); broken = has_break (drop place bytes) }

return_at : (place : ℕ) (xs : List ℕ) → return_behind place xs ≡ moved place (return_behind 0 xs)
return_at place xs = let e : place ≡ place + 0 = omega arith in ap (λ k. return_behind k xs) e ∙ return_from place 0 xs

pub content_out : (s : Style) (bytes : List ℕ) (place : ℕ) (text : List ℕ) (last : Option Last) (e : ℕ) → is_content s.inner (line_at (drop place bytes)) ≡ false
    → content_from s bytes place text last e ≡ Stands (text ++ ending (chomp_seen s.chomp) last e) place
content_out s bytes place text last e h = ap (λ ls. content_more s.folded (chomp_seen s.chomp) s.inner (length bytes) ls text last e) (lines_are place (drop place bytes)) ∙ more_out s.folded (chomp_seen s.chomp) s.inner (length bytes) (line_of bytes place) (behind place (drop place bytes)) text last e h

pub content_return : (s : Style) (bytes : List ℕ) (place : ℕ) (text : List ℕ) (last : Option Last) (e n : ℕ) → is_content s.inner (line_at (drop place bytes)) ≡ true → return_behind place (line_at (drop place bytes)) ≡ Some n
    → content_from s bytes place text last e ≡ Fails n
content_return s bytes place text last e n h r = ap (λ ls. content_more s.folded (chomp_seen s.chomp) s.inner (length bytes) ls text last e) (lines_are place (drop place bytes)) ∙ by_return (return_behind 0 (line_at (drop place bytes))) refl (sym (return_at place (line_at (drop place bytes))) ∙ r) where
  by_return : (o : Option ℕ) → return_behind 0 (line_at (drop place bytes)) ≡ o → moved place o ≡ Some n → content_more s.folded (chomp_seen s.chomp) s.inner (length bytes) (line_of bytes place ∷ behind place (drop place bytes)) text last e ≡ Fails n
  by_return None g k = absurd (cc)
  by_return (Some m) g k = more_return s.folded (chomp_seen s.chomp) s.inner (length bytes) (line_of bytes place) (behind place (drop place bytes)) text last e m h g ∙ (let q : place + m ≡ n = cc in ap Fails q)

pub content_line : (s : Style) (bytes : List ℕ) (place : ℕ) (text : List ℕ) (last : Option Last) (e : ℕ) (part : List ℕ) → is_content s.inner (line_at (drop place bytes)) ≡ true → return_behind place (line_at (drop place bytes)) ≡ None → part ≡ taken_off s.inner (line_at (drop place bytes))
    → content_from s bytes place text last e ≡ content_more s.folded (chomp_seen s.chomp) s.inner (length bytes) (behind place (drop place bytes)) (text_more s.folded last e text part) (last_more last (has_break (drop place bytes)) part) (count_more e (has_break (drop place bytes)) part)
content_line s bytes place text last e part h r t = ap (λ ls. content_more s.folded (chomp_seen s.chomp) s.inner (length bytes) ls text last e) (lines_are place (drop place bytes)) ∙ by_return (return_behind 0 (line_at (drop place bytes))) refl (sym (return_at place (line_at (drop place bytes))) ∙ r) where
  by_return : (o : Option ℕ) → return_behind 0 (line_at (drop place bytes)) ≡ o → moved place o ≡ None → content_more s.folded (chomp_seen s.chomp) s.inner (length bytes) (line_of bytes place ∷ behind place (drop place bytes)) text last e
      ≡ content_more s.folded (chomp_seen s.chomp) s.inner (length bytes) (behind place (drop place bytes)) (text_more s.folded last e text part) (last_more last (has_break (drop place bytes)) part) (count_more e (has_break (drop place bytes)) part)
  by_return None g k = more_line s.folded (chomp_seen s.chomp) s.inner (length bytes) (line_of bytes place) (behind place (drop place bytes)) text last e part h g (sym t)
  by_return (Some m) g k = absurd (none-some _ (sym k))

-- a line with a break, as it is added
pub content_next : (s : Style) (bytes : List ℕ) (place next : ℕ) (text : List ℕ) (last : Option Last) (e : ℕ) (part text1 : List ℕ) (last1 : Option Last) (e1 : ℕ) → is_content s.inner (line_at (drop place bytes)) ≡ true → return_behind place (line_at (drop place bytes)) ≡ None → part ≡ taken_off s.inner (line_at (drop place bytes))
    → has_break (drop place bytes) ≡ true → behind place (drop place bytes) ≡ lines next (drop next bytes)
    → text1 ≡ text_more s.folded last e text part → last1 ≡ last_more last true part → e1 ≡ count_more e true part
    → content_from s bytes place text last e ≡ content_from s bytes next text1 last1 e1
content_next s bytes place next text last e part text1 last1 e1 h r t b k x y z = content_line s bytes place text last e part h r t ∙ rw (b, k, ← x, ← y, ← z)

-- the last line, which has none
pub content_last : (s : Style) (bytes : List ℕ) (place : ℕ) (text : List ℕ) (last : Option Last) (e : ℕ) (part text1 : List ℕ) (last1 : Option Last) (e1 : ℕ) → is_content s.inner (line_at (drop place bytes)) ≡ true → return_behind place (line_at (drop place bytes)) ≡ None → part ≡ taken_off s.inner (line_at (drop place bytes))
    → has_break (drop place bytes) ≡ false → behind place (drop place bytes) ≡ []
    → text1 ≡ text_more s.folded last e text part → last1 ≡ last_more last false part → e1 ≡ count_more e false part
    → content_from s bytes place text last e ≡ Stands (text1 ++ ending (chomp_seen s.chomp) last1 e1) (length bytes)
content_last s bytes place text last e part text1 last1 e1 h r t b k x y z = content_line s bytes place text last e part h r t ∙ rw (b, k, ← x, ← y, ← z)

-- nothing but blank lines
pub blank_out : (chomp : Chomping) (bytes : List ℕ) (place e : ℕ) → is_blank (line_at (drop place bytes)) ≡ false → blank_from chomp bytes place e ≡ Stands (ending (chomp_seen chomp) None e) place
blank_out chomp bytes place e h =
    ap (λ ls. blank_more (chomp_seen chomp) (length bytes) ls e) (lines_are place (drop place bytes))
    ∙ ap (λ q. cond q (blank_more (chomp_seen chomp) (length bytes) (behind place (drop place bytes)) (count_break (has_break (drop place bytes)) e)) (Stands (ending (chomp_seen chomp) None e) place)) h

blank_line : (chomp : Chomping) (bytes : List ℕ) (place e : ℕ) → is_blank (line_at (drop place bytes)) ≡ true → blank_from chomp bytes place e ≡ blank_more (chomp_seen chomp) (length bytes) (behind place (drop place bytes)) (count_break (has_break (drop place bytes)) e)
blank_line chomp bytes place e h =
    ap (λ ls. blank_more (chomp_seen chomp) (length bytes) ls e) (lines_are place (drop place bytes))
    ∙ ap (λ q. cond q (blank_more (chomp_seen chomp) (length bytes) (behind place (drop place bytes)) (count_break (has_break (drop place bytes)) e)) (Stands (ending (chomp_seen chomp) None e) place)) h

pub blank_next : (chomp : Chomping) (bytes : List ℕ) (place next e : ℕ) → is_blank (line_at (drop place bytes)) ≡ true → has_break (drop place bytes) ≡ true → behind place (drop place bytes) ≡ lines next (drop next bytes) → blank_from chomp bytes place e ≡ blank_from chomp bytes next (e + 1)
blank_next chomp bytes place next e h b k =
    let s : suc e ≡ e + 1 = omega arith in
    blank_line chomp bytes place e h ∙ ap (λ q. blank_more (chomp_seen chomp) (length bytes) (behind place (drop place bytes)) (count_break q e)) b ∙ ap (λ ls. blank_more (chomp_seen chomp) (length bytes) ls (suc e)) k ∙ ap (λ n. blank_more (chomp_seen chomp) (length bytes) (lines next (drop next bytes)) n) s

pub blank_last : (chomp : Chomping) (bytes : List ℕ) (place e : ℕ) → is_blank (line_at (drop place bytes)) ≡ true → has_break (drop place bytes) ≡ false → behind place (drop place bytes) ≡ [] → blank_from chomp bytes place e ≡ Stands (ending (chomp_seen chomp) None e) (length bytes)
blank_last chomp bytes place e h b k =
    blank_line chomp bytes place e h ∙ ap (λ q. blank_more (chomp_seen chomp) (length bytes) (behind place (drop place bytes)) (count_break q e)) b ∙ ap (λ ls. blank_more (chomp_seen chomp) (length bytes) ls e) k

pub stands_same : (o : Outcome) (t t1 : List ℕ) (e e1 : ℕ) → o ≡ Stands t e → t1 ≡ t → e1 ≡ e → o ≡ Stands t1 e1
stands_same o t t1 e e1 h x y = rw (x, y) h

-- the indentation, one blank line further
pub inner_next : (above wide start next : ℕ) (bytes : List ℕ) → is_blank (line_at (drop start bytes)) ≡ true → behind start (drop start bytes) ≡ lines next (drop next bytes) → inner_of above wide (lines start (drop start bytes)) ≡ inner_of above (widest wide (indent (line_at (drop start bytes)))) (lines next (drop next bytes))
inner_next above wide start next bytes h k = inner_blank above wide start bytes h ∙ ap (inner_of above (widest wide (indent (line_at (drop start bytes))))) k

pub inner_none : (above wide start : ℕ) (bytes : List ℕ) → is_blank (line_at (drop start bytes)) ≡ true → behind start (drop start bytes) ≡ [] → inner_of above wide (lines start (drop start bytes)) ≡ Nothing
inner_none above wide start bytes h k = inner_blank above wide start bytes h ∙ ap (inner_of above (widest wide (indent (line_at (drop start bytes))))) k
