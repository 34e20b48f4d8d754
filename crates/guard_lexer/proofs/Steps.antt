-- One token after the other: a gap and what stands behind it, and the tokens before and behind.
use Rattle.std.proofs.Common.{◌≡◌, ℕ, ◌+◌, ◌-◌, ◌≤◌, ◌<◌, Bool, false, List, [], ◌∷◌, ◌++◌, ◌⊎◌, inl, inr, length, Option, Some, Ok, drop, sym, ap, ◌∙◌, subst, arith, append_assoc}
use Rattle.std.proofs.lemmas.List.{drop_at, drop-drop, length-append, append-nil}
use Rattle.guard_lexer.specs.declared.token.Token.{Token}
use Rattle.guard_lexer.specs.declared.token.LexRefusal.{LexRefusal}
use Rattle.guard_lexer.specs.declared.token.LexRefusal.TheVariants as why
use Rattle.guard_lexer.specs.Forms.{Form, HasForm, form_of}
use Rattle.guard_lexer.specs.Lexes.{IsGap, IsFault, Takes, Ends, Reads, IsToken, is_dot}
use Rattle.guard_lexer.specs.code.Memory.{HasToken}
use Rattle.guard_lexer.specs.code.Reach.{is_blank, gap_reach}
use Rattle.guard_lexer.specs.code.Firsts.{IsFirst, IsNext}
use Rattle.guard_lexer.proofs.Reaches.{some_form}
use Rattle.guard_lexer.proofs.Gaps.{IsSolid, GapForm, gap_form}

behind_gap : (bs : List ℕ) (n : ℕ) (g : GapForm false bs) → n ≡ gap_reach false bs → drop n bs ≡ g.rest
behind_gap bs n g e = ap (drop n) g.joined ∙ drop_at g.gap g.rest n (g.size ∙ sym e)

pub gap_solid : (bs : List ℕ) (n b : ℕ) (rest : List ℕ) → n ≡ gap_reach false bs → drop n bs ≡ b ∷ rest → is_blank b ≡ false
gap_solid bs n b rest e d = let g = gap_form false bs in subst IsSolid (sym (behind_gap bs n g e) ∙ d) g.solid

pub next_none : (bs : List ℕ) (n : ℕ) → n ≡ gap_reach false bs → drop n bs ≡ [] → IsGap [] bs
next_none bs n e d =
    let g = gap_form false bs in
    let r : g.rest ≡ [] = sym (behind_gap bs n g e) ∙ d in
    let j : bs ≡ g.gap = g.joined ∙ ap (λ x. g.gap ++ x) r ∙ append-nil g.gap in
    subst (λ x. IsGap [] x) (sym j) (subst (λ x. IsGap x g.gap) r g.is)

pub next_fault : (dot : Bool) (at : ℕ) (bs : List ℕ) (n : ℕ) (r : LexRefusal) → n ≡ gap_reach false bs → IsFault dot (at + n) (drop n bs) r → Ends dot at bs (Some r)
next_fault dot at bs n r e h =
    let g = gap_form false bs in
    (g.gap, g.rest, g.joined, g.is, subst (λ m. IsFault dot (at + m) g.rest r) (e ∙ sym g.size) (subst (λ x. IsFault dot (at + n) x r) (behind_gap bs n g e) h))

pub some_text : (dot : Bool) (form : Form) (text : List ℕ) → HasForm dot form text → 1 ≤ length text
some_text dot form [] h = absurd (some_form dot form h)
some_text dot form (b ∷ text) h = omega arith

token_next : (dot : Bool) (at : ℕ) (bs gap text rest : List ℕ) (n : ℕ) (t : Token) → bs ≡ gap ++ (text ++ rest) → length gap ≡ n → IsGap (text ++ rest) gap → t.from ≡ at + n → t.to ≡ at + n + length text → IsToken dot t.kind text rest → IsNext dot at bs (Ok (Some t))
token_next dot at bs gap text rest n t j s blank f g is =
    let k : bs ≡ (gap ++ text) ++ rest = j ∙ sym (append_assoc gap text rest) in
    let l : length (gap ++ text) ≡ t.to - at = length-append gap text ∙ omega arith in
    let d : drop (t.to - at) bs ≡ rest = ap (drop (t.to - at)) k ∙ drop_at (gap ++ text) rest (t.to - at) l in
    let some = some_text dot (form_of t.kind) text is.form in
    let whole : length bs ≡ length gap + (length text + length rest) = ap (λ (x : List ℕ). length x) j ∙ length-append gap (text ++ rest) ∙ ap (λ m. length gap + m) (length-append text rest) in
    let takes : Takes dot at bs t rest = record { gap = gap; text = text; joined = j; blank = blank; from = f ∙ ap (λ m. at + m) (sym s); to = g ∙ ap (λ m. m + length text) (sym f); is = is } in
    (subst (λ x. Takes dot at bs t x) (sym d) takes, omega arith, omega arith)

pub next_some : (dot : Bool) (at : ℕ) (bs : List ℕ) (n : ℕ) (t : Token) → n ≡ gap_reach false bs → IsFirst dot (at + n) (drop n bs) (Ok t) → IsNext dot at bs (Ok (Some t))
next_some dot at bs n t e (text, rest, i, f, k, is) =
    let g = gap_form false bs in
    let r : g.rest ≡ text ++ rest = sym (behind_gap bs n g e) ∙ i in
    token_next dot at bs g.gap text rest n t (g.joined ∙ ap (λ x. g.gap ++ x) r) (g.size ∙ sym e) (subst (λ x. IsGap x g.gap) r g.is) f k is

-- what was found so far, in front of whatever is behind
abbrev pub GoesOn : ℕ → List ℕ → List Token → Bool → ℕ → Type 0
GoesOn start bs found dot at = (ts : List Token) (e : Option LexRefusal) → Reads dot at (drop (at - start) bs) ts e → Reads false start bs (found ++ ts) e

pub GoesOn-start : (start : ℕ) (bs : List ℕ) → GoesOn start bs [] false start
GoesOn-start start bs ts e h = let z : start - start ≡ 0 = omega arith in subst (λ n. Reads false start (drop n bs) ts e) z h

pub GoesOn-more : (start : ℕ) (bs : List ℕ) (found : List Token) (dot : Bool) (at : ℕ) (t : Token) → start ≤ at → at < t.to → GoesOn start bs found dot at → Takes dot at (drop (at - start) bs) t (drop (t.to - at) (drop (at - start) bs)) → GoesOn start bs (found ++ t ∷ []) (is_dot t.kind) t.to
GoesOn-more start bs found dot at t h k on takes ts e reads =
    let n : at - start + (t.to - at) ≡ t.to - start = omega arith in
    let d : drop (t.to - at) (drop (at - start) bs) ≡ drop (t.to - start) bs = drop-drop (t.to - at) (at - start) bs ∙ ap (λ m. drop m bs) n in
    subst (λ x. Reads false start bs x e) (sym (append_assoc found (t ∷ []) ts)) (on (t ∷ ts) e (drop (t.to - at) (drop (at - start) bs), takes, subst (λ x. Reads (is_dot t.kind) t.to x ts e) (sym d) reads))

pub GoesOn-end : (start : ℕ) (bs : List ℕ) (found : List Token) (dot : Bool) (at : ℕ) (e : Option LexRefusal) → GoesOn start bs found dot at → Ends dot at (drop (at - start) bs) e → Reads false start bs found e
GoesOn-end start bs found dot at e on h = subst (λ x. Reads false start bs x e) (append-nil found) (on [] e h)

-- before the first token, or behind one
abbrev pub Began : Bool → ℕ → ℕ → List ℕ → Type 0
Began dot at start bs = ((at ≡ start) × (dot ≡ false)) ⊎ HasToken start bs

pub begun : (dot : Bool) (at start : ℕ) (bs rest : List ℕ) (t : Token) → Began dot at start bs → Takes dot at (drop (at - start) bs) t rest → HasToken start bs
begun dot at start bs rest t (inr has) takes = has
begun dot at start bs rest t (inl (a, d)) takes =
    let z : at - start ≡ 0 = omega arith in
    let undotted : Takes false at (drop (at - start) bs) t rest = subst (λ x. Takes x at (drop (at - start) bs) t rest) d takes in
    let whole : Takes false at bs t rest = subst (λ n. Takes false at (drop n bs) t rest) z undotted in
    (t, rest, subst (λ n. Takes false n bs t rest) a whole)

-- want of memory is no fault of the bytes
no_fault : (dot : Bool) (at : ℕ) (bs : List ℕ) (r : LexRefusal) → IsFault dot at bs r → r ≡ why.NoMemory → ⊥
no_fault dot at bs (why.Unclosed place) h e = cc
no_fault dot at bs (why.BadByte place) h e = cc
no_fault dot at bs (why.NumberRange place) h e = cc
no_fault dot at bs why.NoMemory h e = h

pub no_end : (dot : Bool) (at : ℕ) (bs : List ℕ) (r : LexRefusal) → Ends dot at bs (Some r) → r ≡ why.NoMemory → ⊥
no_end dot at bs r (gap, rest, j, g, f) e = no_fault dot (at + length gap) rest r f e
