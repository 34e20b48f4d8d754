-- A plain scalar that ends with the text goes on over the text's last line, so that is no mark. By induction over lines.
use Rattle.std.proofs.Common.{◌≡◌, ℕ, suc, ◌+◌, ◌<◌, ◌≤◌, Bool, true, false, List, [], ◌∷◌, take, drop, length, refl, sym, ap, ◌∙◌, arith, cond, subst, length-take, length-drop, true≢false}
use Rattle.std.specs.Prelude.{nat_eq}
use Rattle.yaml_scalars.specs.declared.scalar.Setting.{Setting}
use Rattle.yaml_scalars.specs.declared.plain_line.Why.{Why}
use Rattle.yaml_scalars.specs.declared.plain_line.Why.TheVariants.{Break, Return, Colon, Comment, Mark}
use Rattle.yaml_scalars.specs.declared.plain_line.Below.{Below}
use Rattle.yaml_scalars.specs.declared.plain_line.Below.TheVariants.{Blank, Outside, Further}
use Rattle.yaml_scalars.specs.Lines.{Line, Outcome, Stands, ends_with}
use Rattle.yaml_scalars.specs.Plain.{plain_len, content, content_end, reason, below, joined, ends_on, joins, further, first, more, plain_on}
use Rattle.yaml_scalars.specs.Scalar.{is_first_column, plain_scalar}
use Rattle.yaml_scalars.specs.code.Walk.{line_at, has_break, behind}
use Rattle.yaml_scalars.proofs.FurtherLines.{plain_le, skip_le}
use Rattle.yaml_scalars.proofs.Places.{lines_are}
use Rattle.yaml_laws.specs.code.Endings.{last_mark}
use Rattle.yaml_laws.proofs.Agree.{drop_size}
use Rattle.yaml_laws.proofs.Longer.{Ends, lines_end}
use Rattle.yaml_laws.proofs.PlainFollowed.{trimmed_le}
use Rattle.yaml_laws.proofs.PlainLines.{further_parts}
use Rattle.yaml_laws.proofs.PlainStays.{opens_stands}

ends_near : (flow : Bool) (part : List ℕ) (at : ℕ) → content_end flow part at ≤ at + length part
ends_near flow part at = let a = trimmed_le (take (plain_len flow false part) part) in let b = plain_le flow false part in omega (arith, a, b, length-take (plain_len flow false part) part)

ends_at : (t u : List ℕ) (e f : ℕ) → Stands t e ≡ Stands u f → e ≡ f
ends_at t u e f h = cc

module _ (size : ℕ) (u : List ℕ) (f : ℕ) where
  -- it ends before a place
  near : (t : List ℕ) (e : ℕ) → e < size → Stands t e ≡ Stands u f → f < size
  near t e l h = let i = ends_at t u e f h in omega (arith, l, i)

  part_near : (flow : Bool) (part t : List ℕ) (at e k : ℕ) → e < size → at + length part < size → ends_on flow part at t e k ≡ Stands u f → f < size
  part_near flow part t at e k l m h = by_length (nat_eq (plain_len flow false part) 0) h where
    by_length : (q : Bool) → cond q (Stands t e) (Stands (joined flow part t k) (content_end flow part at)) ≡ Stands u f → f < size
    by_length true h = near t e l h
    by_length false h = near (joined flow part t k) (content_end flow part at) (let z = ends_near flow part at in omega (arith, z, m)) h

  joins_near : (flow : Bool) (w : Why) (part t : List ℕ) (at e k : ℕ) (next : List ℕ → ℕ → ℕ → Outcome) → e < size → at + length part < size → ((x : List ℕ) (y : ℕ) → y < size → next x y 0 ≡ Stands u f → f < size) → joins flow w part at t e k next ≡ Stands u f → f < size
  joins_near flow Break part t at e k next l m n h = n (joined flow part t k) (content_end flow part at) (let z = ends_near flow part at in omega (arith, z, m)) h
  joins_near flow Return part t at e k next l m n h = absurd (cc)
  joins_near true Colon part t at e k next l m n h = part_near true part t at e k l m h
  joins_near false Colon part t at e k next l m n h = absurd (cc)
  joins_near flow Comment part t at e k next l m n h = near (joined flow part t k) (content_end flow part at) (let z = ends_near flow part at in omega (arith, z, m)) h
  joins_near flow Mark part t at e k next l m n h = part_near flow part t at e k l m h

  more_near : (s : Setting) (r : Bool) (ls : List Line) (t : List ℕ) (e k : ℕ) → Ends size r ls → last_mark ls ≡ true → e < size → more s ls t e k ≡ Stands u f → f < size
  more_near s r [] t e k x mark l h = absurd x
  more_near s r (n ∷ []) t e k x mark l h = by_below (below s n.bytes) refl h where
    by_below : (w : Below) → below s n.bytes ≡ w → further s w n.at n.bytes t e k (more s []) ≡ Stands u f → f < size
    by_below Blank i h = near t e l h
    by_below Outside i h = near t e l h
    by_below (Further d) i h = absurd (true≢false (sym mark ∙ (further_parts s n.bytes d i).1))
  more_near s r (n ∷ m ∷ ls) t e k (x, y, z) mark l h = by_below (below s n.bytes) refl h (λ v w g a. more_near s r (m ∷ ls) v w g z mark a) where
    by_below : (w : Below) → below s n.bytes ≡ w → further s w n.at n.bytes t e k (more s (m ∷ ls)) ≡ Stands u f → ((v : List ℕ) (w g : ℕ) → w < size → more s (m ∷ ls) v w g ≡ Stands u f → f < size) → f < size
    by_below Blank i h c = c t e (suc k) l h
    by_below Outside i h c = near t e l h
    by_below (Further d) i h c =
        let le = skip_le s n.bytes d i in
        joins_near s.flow (reason s.flow (drop d n.bytes)) (drop d n.bytes) t (n.at + d) e k (more s (m ∷ ls)) l (omega (arith, le, x, length-drop d n.bytes)) (λ v w a. c v w 0 a) h

  first_near : (s : Setting) (w : Why) (r : Bool) (at : ℕ) (xs : List ℕ) (ls : List Line) → at + length xs < size → Ends size r ls → last_mark ls ≡ true → first s w at xs ls ≡ Stands u f → f < size
  first_near s w r at xs ls less x mark h = by_why w h where
    here : Stands (content s.flow xs) (content_end s.flow xs at) ≡ Stands u f → f < size
    here g = near (content s.flow xs) (content_end s.flow xs at) (let z = ends_near s.flow xs at in omega (arith, z, less)) g

    by_line : (q : Bool) → cond q (Stands (content s.flow xs) (content_end s.flow xs at)) (more s ls (content s.flow xs) (content_end s.flow xs at) 0) ≡ Stands u f → f < size
    by_line true g = here g
    by_line false g = more_near s r ls (content s.flow xs) (content_end s.flow xs at) 0 x mark (let z = ends_near s.flow xs at in omega (arith, z, less)) g

    by_why : (w : Why) → first s w at xs ls ≡ Stands u f → f < size
    by_why Break g = by_line s.one_line g
    by_why Return g = absurd (cc)
    by_why Colon g = here g
    by_why Comment g = here g
    by_why Mark g = here g

unmarked_on : (s : Setting) (fresh r : Bool) (size : ℕ) (l : Line) (ks : List Line) (u : List ℕ) → Ends size r (l ∷ ks) → plain_on s fresh (l ∷ ks) ≡ Stands u size → last_mark ks ≡ false
unmarked_on s fresh r size l [] u x h = refl
unmarked_on s fresh r size l (m ∷ ks) u (x, y, z) h = by_mark (last_mark (m ∷ ks)) refl where
  by_mark : (q : Bool) → last_mark (m ∷ ks) ≡ q → q ≡ false
  by_mark false i = refl
  by_mark true i = absurd (let o = opens_stands s fresh l (m ∷ ks) u size h in let n = first_near size u size s (reason s.flow l.bytes) r l.at l.bytes (m ∷ ks) x z i o.2 in omega (arith, n))

pub plain_unmarked : (s : Setting) (text : List ℕ) (at : ℕ) (t : List ℕ) → at ≤ length text → plain_scalar s text at ≡ Stands t (length text) → last_mark (behind at (drop at text)) ≡ false
plain_unmarked s text at t low h =
    let d = drop at text in
    let l : Line = record { at = at; bytes = line_at d; broken = has_break d } in
    let is = lines_are at d in
    let size : at + length (drop at text) ≡ length text = drop_size at text low in
    let ends = subst (λ ls. Ends (at + length (drop at text)) (ends_with 13 d) ls) is (lines_end at d) in
    unmarked_on s (is_first_column text at) (ends_with 13 d) (at + length (drop at text)) l (behind at d) t ends (sym (ap (plain_on s (is_first_column text at)) is) ∙ h ∙ ap (Stands t) (sym size))
