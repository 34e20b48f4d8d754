-- The byte that shows the end of a scalar stands not behind the one that shows what the place of that end has ahead. By induction over lines.
use Rattle.std.proofs.Common.{◌≡◌, ℕ, suc, ◌+◌, ◌-◌, ◌≤◌, ◌⊎◌, inl, inr, Bool, true, false, ◌||◌, ◌&&◌, cond, nat_eq, arith, List, [], ◌∷◌, drop, length, get_or, refl, sym, ap, ◌∙◌, subst, length-drop, Option, Some, None}
use Rattle.std.specs.Prelude.{ℤ, slice_index}
use Rattle.std.proofs.lemmas.List.{drop-drop, get_or-drop}
use Rattle.yaml_scalars.specs.declared.scalar.Setting.{Setting}
use Rattle.yaml_scalars.specs.Lines.{Line, Stands, lines, begins_with, is_blank}
use Rattle.yaml_scalars.specs.Plain.{above_of}
use Rattle.yaml_scalars.specs.Block.{Chomp, Last, Inner, Nothing, Wide, Indented, ending, content_more, blank_more, count_break, inner_of, base_of, by_inner, by_digit, block_on}
use Rattle.yaml_scalars.specs.Scalar.{begins_order_mark, is_first_column, begins_quoted, begins_block, plain_scalar, quoted_scalar, block_scalar, scalar_at}
use Rattle.yaml_scalars.specs.code.Walk.{line_at, has_break, behind}
use Rattle.yaml_scalars.proofs.Places.{lines_are}
use Rattle.yaml_scalars.proofs.BlockStates.{more_out, more_return}
use Rattle.yaml_scalars.proofs.BlockScalars.{on_fault, on_none, on_lines}
use Rattle.yaml_laws.specs.code.Agreement.{out_shown, plain_shown, scalar_shown}
use Rattle.yaml_grammar.specs.code.AheadSeen.{line_seen, rest_seen, ahead_seen}
use Rattle.yaml_laws.proofs.Agree.{Within, lines_within}
use Rattle.yaml_grammar.proofs.AheadOrder.{seen_least}
use Rattle.yaml_laws.proofs.BlockLaw.{fails_not, content_cases, head_of, block_cases}
use Rattle.yaml_grammar.proofs.LineTails.{Tails, IsTail, tails_of, tail_is, later_least}
use Rattle.yaml_grammar.proofs.PlainOrder.{line_ends, out_least, plain_seen}

-- ---- lines that begin at a first column

abbrev pub Fresh : List ℕ → List Line → Type 0
Fresh text [] = Unit {0}
Fresh text (l ∷ ls) = (is_first_column text l.at ≡ true) × Fresh text ls

third : (p q r : Bool) → r ≡ true → ((p || q) || r) ≡ true
third true q r h = refl
third false true r h = refl
third false false r h = h

behind_feed : (text rest : List ℕ) (b at : ℕ) → b ∷ rest ≡ drop at text → nat_eq b 10 ≡ true → is_first_column text (suc at) ≡ true
behind_feed text rest b at e h =
    let there : get_or text (suc at - 1) 0 ≡ b = (let n : suc at - 1 ≡ at + 0 = omega arith in ap (λ k. get_or text k 0) n) ∙ sym (get_or-drop at text 0 0) ∙ ap (λ t. get_or t 0 0) (sym e) in
    third (nat_eq (suc at) 0) (nat_eq (suc at) 3 && begins_order_mark text) (nat_eq (slice_index text (suc at - 1)) 10) (ap (λ c. nat_eq c 10) there ∙ h)

pub behind_fresh : (text rest : List ℕ) (at : ℕ) → rest ≡ drop at text → Fresh text (behind at rest)
behind_fresh text [] at e = tt
behind_fresh text (b ∷ rest) at e = by_feed (nat_eq b 10) refl (behind_fresh text rest (suc at) next) where
  next : rest ≡ drop (suc at) text
  next = ap (drop 1) e ∙ drop-drop 1 at text ∙ (let h : at + 1 ≡ suc at = omega arith in ap (λ k. drop k text) h)

  by_feed : (q : Bool) → nat_eq b 10 ≡ q → Fresh text (behind (suc at) rest) → Fresh text (cond q (lines (suc at) rest) (behind (suc at) rest))
  by_feed true h r = subst (Fresh text) (sym (lines_are (suc at) rest)) (behind_feed text rest b at e h, r)
  by_feed false h r = r

-- ---- block scalars

pub first_bytes : (text : List ℕ) (l : Line) (ls : List Line) → lines l.at (drop l.at text) ≡ l ∷ ls → line_at (drop l.at text) ≡ l.bytes
first_bytes text l ls is = first_of (record { at = l.at; bytes = line_at (drop l.at text); broken = has_break (drop l.at text) }) l (behind l.at (drop l.at text)) ls (sym (lines_are l.at (drop l.at text)) ∙ is) where
  first_of : (l m : Line) (ls ms : List Line) → l ∷ ls ≡ m ∷ ms → l.bytes ≡ m.bytes
  first_of l m ls ms h = let e : l ≡ m = cc in ap (λ (x : Line). x.bytes) e

-- the end is a line's first column
at_line : (text : List ℕ) (l : Line) (ls : List Line) → IsTail text l ls → is_first_column text l.at ≡ true → l.at + out_shown (line_at (drop l.at text)) ≤ ahead_seen text l.at
at_line text l ls is fresh =
    let far = later_least (length text) (l.at + length l.bytes) ls is.1 is.2 in
    let a : l.at + out_shown l.bytes ≤ line_seen (length text) (l ∷ ls) = let z = line_ends (length text) l ls far in let y = out_least l.bytes in omega (arith, y, z) in
    let b : l.at + out_shown (line_at (drop l.at text)) ≤ line_seen (length text) (l ∷ ls) = subst (λ t. l.at + out_shown t ≤ line_seen (length text) (l ∷ ls)) (sym (first_bytes text l ls is.0)) a in
    subst (λ q. l.at + out_shown (line_at (drop l.at text)) ≤ cond q (line_seen (length text) (lines l.at (drop l.at text))) (rest_seen (length text) (lines l.at (drop l.at text)))) (sym fresh)
    (subst (λ ks. l.at + out_shown (line_at (drop l.at text)) ≤ line_seen (length text) ks) (sym is.0) b)

-- the end is the text's
at_length : (text : List ℕ) (e : ℕ) → length text ≡ e → e + out_shown (line_at (drop e text)) ≤ ahead_seen text e
at_length text e h = by_rest (drop e text) refl where
  by_rest : (xs : List ℕ) → drop e text ≡ xs → e + out_shown (line_at xs) ≤ ahead_seen text e
  by_rest [] i = let a = seen_least text e (omega (arith, h)) in omega (arith, a)
  by_rest (b ∷ xs) i = let z = ap (λ (t : List ℕ). length t) i in absurd (omega (arith, z, h, length-drop e text))

same_end : (t u : List ℕ) (e f : ℕ) → Stands t e ≡ Stands u f → e ≡ f
same_end t u e f h = cc

module _ (text0 : List ℕ) (e : ℕ) where
  abbrev Seen : Type 0
  Seen = e + out_shown (line_at (drop e text0)) ≤ ahead_seen text0 e

  abbrev Stand : List Line → Type 0
  Stand ls = Tails text0 ls × Within (length text0) ls × Fresh text0 ls

  here : (l : Line) (ls : List Line) → Stand (l ∷ ls) → l.at ≡ e → Seen
  here l ls (o, w, f) k = subst (λ e. e + out_shown (line_at (drop e text0)) ≤ ahead_seen text0 e) k (at_line text0 l ls (tail_is text0 l ls o.0 w.0) f.0)

  content_seen : (folded : Bool) (chomp : Chomp) (inner : ℕ) (ls : List Line) (text : List ℕ) (last : Option Last) (n : ℕ) (t : List ℕ) → Stand ls → content_more folded chomp inner (length text0) ls text last n ≡ Stands t e → Seen
  content_seen folded chomp inner [] text last n t s h = at_length text0 e (same_end _ t (length text0) e h)
  content_seen folded chomp inner (l ∷ ls) text last n t s h =
      content_cases folded chomp inner l text last n
      (λ c. here l ls s (same_end _ t l.at e (sym (more_out folded chomp inner (length text0) l ls text last n c) ∙ h)))
      (λ j c r. absurd (fails_not _ t e (sym (more_return folded chomp inner (length text0) l ls text last n j c r) ∙ h)))
      (λ x y z c r g. content_seen folded chomp inner ls x y z t (s.0.1, s.1.1, s.2.1) (sym (g (length text0) ls) ∙ h))

  blank_seen : (chomp : Chomp) (ls : List Line) (n : ℕ) (t : List ℕ) → Stand ls → blank_more chomp (length text0) ls n ≡ Stands t e → Seen
  blank_seen chomp [] n t s h = at_length text0 e (same_end _ t (length text0) e h)
  blank_seen chomp (l ∷ ls) n t s h = by_blank (is_blank l.bytes) h (λ g. blank_seen chomp ls (count_break l.broken n) t (s.0.1, s.1.1, s.2.1) g) where
    by_blank : (q : Bool) → cond q (blank_more chomp (length text0) ls (count_break l.broken n)) (Stands (ending chomp None n) l.at) ≡ Stands t e → (blank_more chomp (length text0) ls (count_break l.broken n) ≡ Stands t e → Seen) → Seen
    by_blank true h r = r h
    by_blank false h r = here l ls s (same_end _ t l.at e h)

  digit_seen : (folded : Bool) (parent : ℤ) (chomp : Chomp) (digit : Option ℕ) (ls : List Line) (t : List ℕ) → Stand ls → by_digit folded parent chomp (length text0) digit ls ≡ Stands t e → Seen
  digit_seen folded parent chomp (Some d) ls t s h = content_seen folded chomp (base_of parent + d) ls [] None 0 t s h
  digit_seen folded parent chomp None ls t s h = by_in (inner_of (above_of parent) 0 ls) h where
    by_in : (i : Inner) → by_inner folded chomp (length text0) i ls ≡ Stands t e → Seen
    by_in Nothing h = blank_seen chomp ls 0 t s h
    by_in (Wide at) h = absurd (fails_not at t e h)
    by_in (Indented j) h = content_seen folded chomp j ls [] None 0 t s h

  on_seen : (parent : ℤ) (l : Line) (ls : List Line) (t : List ℕ) → Stand ls → block_on parent (length text0) (l ∷ ls) ≡ Stands t e → Seen
  on_seen parent l ls t s h =
      block_cases l (λ n f. absurd (fails_not _ t e (sym (on_fault parent (length text0) l ls (head_of l.bytes) n refl f) ∙ h))) (λ f b. absurd (fails_not _ t e (sym (on_none parent (length text0) l ls (head_of l.bytes) refl f b) ∙ h)))
      (λ f b. digit_seen (begins_with 62 l.bytes) parent (head_of l.bytes).chomp (head_of l.bytes).digit ls t s (sym (on_lines parent (length text0) l ls (head_of l.bytes) refl f b) ∙ h))

-- the end of a block scalar begins a line, or it is the text's
module _ (text0 : List ℕ) (e : ℕ) where
  abbrev Line_or_end : Type 0
  Line_or_end = (e ≡ length text0) ⊎ (is_first_column text0 e ≡ true)

  content_line : (folded : Bool) (chomp : Chomp) (inner : ℕ) (ls : List Line) (text : List ℕ) (last : Option Last) (n : ℕ) (t : List ℕ) → Fresh text0 ls → content_more folded chomp inner (length text0) ls text last n ≡ Stands t e → Line_or_end
  content_line folded chomp inner [] text last n t s h = inl (sym (same_end _ t (length text0) e h))
  content_line folded chomp inner (l ∷ ls) text last n t s h =
      content_cases folded chomp inner l text last n
      (λ c. inr (ap (is_first_column text0) (sym (same_end _ t l.at e (sym (more_out folded chomp inner (length text0) l ls text last n c) ∙ h))) ∙ s.0))
      (λ j c r. absurd (fails_not _ t e (sym (more_return folded chomp inner (length text0) l ls text last n j c r) ∙ h)))
      (λ x y z c r g. content_line folded chomp inner ls x y z t s.1 (sym (g (length text0) ls) ∙ h))

  blank_line : (chomp : Chomp) (ls : List Line) (n : ℕ) (t : List ℕ) → Fresh text0 ls → blank_more chomp (length text0) ls n ≡ Stands t e → Line_or_end
  blank_line chomp [] n t s h = inl (sym (same_end _ t (length text0) e h))
  blank_line chomp (l ∷ ls) n t s h = by_blank (is_blank l.bytes) h (λ g. blank_line chomp ls (count_break l.broken n) t s.1 g) where
    by_blank : (q : Bool) → cond q (blank_more chomp (length text0) ls (count_break l.broken n)) (Stands (ending chomp None n) l.at) ≡ Stands t e → (blank_more chomp (length text0) ls (count_break l.broken n) ≡ Stands t e → Line_or_end) → Line_or_end
    by_blank true h r = r h
    by_blank false h r = inr (ap (is_first_column text0) (sym (same_end _ t l.at e h)) ∙ s.0)

  digit_line : (folded : Bool) (parent : ℤ) (chomp : Chomp) (digit : Option ℕ) (ls : List Line) (t : List ℕ) → Fresh text0 ls → by_digit folded parent chomp (length text0) digit ls ≡ Stands t e → Line_or_end
  digit_line folded parent chomp (Some d) ls t s h = content_line folded chomp (base_of parent + d) ls [] None 0 t s h
  digit_line folded parent chomp None ls t s h = by_in (inner_of (above_of parent) 0 ls) h where
    by_in : (i : Inner) → by_inner folded chomp (length text0) i ls ≡ Stands t e → Line_or_end
    by_in Nothing h = blank_line chomp ls 0 t s h
    by_in (Wide at) h = absurd (fails_not at t e h)
    by_in (Indented j) h = content_line folded chomp j ls [] None 0 t s h

  on_line : (parent : ℤ) (l : Line) (ls : List Line) (t : List ℕ) → Fresh text0 ls → block_on parent (length text0) (l ∷ ls) ≡ Stands t e → Line_or_end
  on_line parent l ls t s h =
      block_cases l (λ n f. absurd (fails_not _ t e (sym (on_fault parent (length text0) l ls (head_of l.bytes) n refl f) ∙ h))) (λ f b. absurd (fails_not _ t e (sym (on_none parent (length text0) l ls (head_of l.bytes) refl f b) ∙ h)))
      (λ f b. digit_line (begins_with 62 l.bytes) parent (head_of l.bytes).chomp (head_of l.bytes).digit ls t s (sym (on_lines parent (length text0) l ls (head_of l.bytes) refl f b) ∙ h))

pub block_end : (s : Setting) (text : List ℕ) (at : ℕ) (t : List ℕ) (e : ℕ) → block_scalar s text at ≡ Stands t e → (e ≡ length text) ⊎ (is_first_column text e ≡ true)
block_end s text at t e h =
    let xs = drop at text in
    let l : Line = record { at = at; bytes = line_at xs; broken = has_break xs } in
    on_line text e s.parent l (behind at xs) t (behind_fresh text xs at refl) (sym (ap (block_on s.parent (length text)) (lines_are at xs)) ∙ h)

pub block_seen : (s : Setting) (text : List ℕ) (at : ℕ) (t : List ℕ) (e : ℕ) → at ≤ length text → block_scalar s text at ≡ Stands t e → e + out_shown (line_at (drop e text)) ≤ ahead_seen text e
block_seen s text at t e low h =
    let xs = drop at text in
    let is = lines_are at xs in
    let l : Line = record { at = at; bytes = line_at xs; broken = has_break xs } in
    let o = subst (Tails text) is (tails_of text at) in
    let w = subst (Within (length text)) is (lines_within (length text) at xs (omega (arith, low, length-drop at text))) in
    on_seen text e s.parent l (behind at xs) t (o.1, w.1, behind_fresh text xs at refl) (sym (ap (block_on s.parent (length text)) is) ∙ h)

-- the end of a scalar of any kind
pub scalar_seen : (s : Setting) (text : List ℕ) (at : ℕ) (t : List ℕ) (e : ℕ) → at ≤ length text → e ≤ length text → scalar_at s text at ≡ Stands t e → scalar_shown s text at e ≤ ahead_seen text e
scalar_seen s text at t e low within h = by_kind (begins_quoted (drop at text)) (begins_block s (drop at text)) h where
  by_kind : (q r : Bool) → cond q (quoted_scalar s text at) (cond r (block_scalar s text at) (plain_scalar s text at)) ≡ Stands t e → cond q e (cond r (e + out_shown (line_at (drop e text))) (plain_shown s (length text) (lines at (drop at text)))) ≤ ahead_seen text e
  by_kind true r h = seen_least text e within
  by_kind false true h = block_seen s text at t e low h
  by_kind false false h = plain_seen s text at t e low h
