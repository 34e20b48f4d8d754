-- A plain scalar in flow is the same where behind the text stands a line that begins with a bracket or a comma. By induction over lines.
use Rattle.std.proofs.Common.{◌≡◌, ℕ, suc, ◌+◌, ◌≤◌, Bool, true, false, ◌&&◌, cond, nat_eq, arith, List, [], ◌∷◌, ◌++◌, drop, length, refl, sym, ap, ◌∙◌, append-nil}
use Rattle.std.proofs.lemmas.Bool.Decides.{nat_tests}
use Rattle.std.specs.Prelude.{ℤ}
use Rattle.yaml_scalars.specs.declared.scalar.Setting.{Setting}
use Rattle.yaml_scalars.specs.declared.plain_line.Why.{Why}
use Rattle.yaml_scalars.specs.declared.plain_line.Why.TheVariants.{Break, Return, Colon, Comment, Mark}
use Rattle.yaml_scalars.specs.declared.plain_line.Below.{Below}
use Rattle.yaml_scalars.specs.declared.plain_line.Below.TheVariants.{Blank, Outside, Further}
use Rattle.yaml_scalars.specs.Lines.{Line, Stands, begins_break, ends_with, is_blank, is_white, is_mark, lead, lines}
use Rattle.yaml_scalars.specs.Plain.{is_flow_mark, content, content_end, content_at, inside, below, reason, joined, joins, further, first, more, plain_on}
use Rattle.yaml_scalars.specs.Scalar.{is_first_column, plain_scalar}
use Rattle.yaml_scalars.specs.code.Walk.{line_at, has_break, behind}
use Rattle.yaml_scalars.proofs.Places.{lines_are}
use Rattle.yaml_laws.proofs.Agree.{drop_before}
use Rattle.yaml_laws.proofs.KeyLines.{ends_past}
use Rattle.yaml_laws.proofs.Longer.{feed_of, glue, lines_apart}
use Rattle.yaml_laws.proofs.PlainClosed.{not_white, mark_more, reason_more, len_closed}
use Rattle.yaml_laws.proofs.PlainStays.{opens_stands, made}
use Rattle.yaml_laws.proofs.ScalarLaw.{column_longer}

module _ (c : ℕ) (closes : is_flow_mark c ≡ true) (p : ℤ) (o : Bool) where
  abbrev setting : Setting
  setting = record { parent = p; flow = true; one_line = o }

  -- ---- such a line adds nothing

  below_mark : (x : List ℕ) → below setting (c ∷ x) ≡ Further 0
  below_mark x =
      let white = not_white c x closes in
      let comment : nat_eq c 35 ≡ false = grind (arith, nat_tests, closes) in
      ap (λ q. cond (cond q (is_blank x) false) Blank (cond (is_mark (c ∷ x)) Outside (inside setting (c ∷ x)))) white
      ∙ ap (λ q. cond q Outside (inside setting (c ∷ x))) (mark_more c x closes [] refl)
      ∙ ap (λ q. let n : ℕ = cond q (suc (lead is_white x)) 0 in content_at n (drop n (c ∷ x))) white ∙ ap (λ q. cond q Outside (Further 0)) comment

  line_ends : (at : ℕ) (x : List ℕ) (r : Bool) (ls : List Line) (t : List ℕ) (e k : ℕ) → more setting (record { at = at; bytes = c ∷ x; broken = r } ∷ ls) t e k ≡ Stands t e
  line_ends at x r ls t e k =
      ap (λ w. further setting w at (c ∷ x) t e k (more setting ls)) (below_mark x) ∙ ap (λ w. joins true w (c ∷ x) (at + 0) t e k (more setting ls)) (reason_more c x closes [])
      ∙ ap (λ n. cond (nat_eq n 0) (Stands t e) (Stands (joined true (c ∷ x) t k) (content_end true (c ∷ x) (at + 0)))) (len_closed c x closes [])

  -- ---- behind the break of the last line

  module _ (place : ℕ) (under : List Line) (ends : (t : List ℕ) (e k : ℕ) → more setting under t e k ≡ Stands t e) (u : List ℕ) (f : ℕ) where
    abbrev others : List Line
    others = feed_of place ∷ under

    more_fed : (ls : List Line) (t : List ℕ) (e k : ℕ) → more setting ls t e k ≡ Stands u f → more setting (glue ls others) t e k ≡ Stands u f
    more_fed [] t e k h = h
    more_fed (l ∷ []) t e k h = ap (λ (b : List ℕ). further setting (below setting b) l.at b t e k (more setting under)) (append-nil l.bytes) ∙ by_below (below setting l.bytes) h where
      by_why : (w : Why) (part : List ℕ) (at : ℕ) → joins true w part at t e k (more setting []) ≡ Stands u f → joins true w part at t e k (more setting under) ≡ Stands u f
      by_why Break part at h = ends (joined true part t k) (content_end true part at) 0 ∙ h
      by_why Return part at h = absurd (cc)
      by_why Colon part at h = h
      by_why Comment part at h = h
      by_why Mark part at h = h

      by_below : (w : Below) → further setting w l.at l.bytes t e k (more setting []) ≡ Stands u f → further setting w l.at l.bytes t e k (more setting under) ≡ Stands u f
      by_below Blank h = ends t e (suc k) ∙ h
      by_below Outside h = h
      by_below (Further n) h = by_why (reason true (drop n l.bytes)) (drop n l.bytes) (l.at + n) h
    more_fed (l ∷ n ∷ ls) t e k h = by_below (below setting l.bytes) h (λ x y z g. more_fed (n ∷ ls) x y z g) where
      by_why : (w : Why) (part : List ℕ) (at : ℕ) → joins true w part at t e k (more setting (n ∷ ls)) ≡ Stands u f → ((x : List ℕ) (y z : ℕ) → more setting (n ∷ ls) x y z ≡ Stands u f → more setting (glue (n ∷ ls) others) x y z ≡ Stands u f)
          → joins true w part at t e k (more setting (glue (n ∷ ls) others)) ≡ Stands u f
      by_why Break part at h r = r (joined true part t k) (content_end true part at) 0 h
      by_why Return part at h r = absurd (cc)
      by_why Colon part at h r = h
      by_why Comment part at h r = h
      by_why Mark part at h r = h

      by_below : (w : Below) → further setting w l.at l.bytes t e k (more setting (n ∷ ls)) ≡ Stands u f → ((x : List ℕ) (y z : ℕ) → more setting (n ∷ ls) x y z ≡ Stands u f → more setting (glue (n ∷ ls) others) x y z ≡ Stands u f)
          → further setting w l.at l.bytes t e k (more setting (glue (n ∷ ls) others)) ≡ Stands u f
      by_below Blank h r = r t e (suc k) h
      by_below Outside h r = h
      by_below (Further j) h r = by_why (reason true (drop j l.bytes)) (drop j l.bytes) (l.at + j) h r

    first_fed : (ls ms : List Line) → ((t : List ℕ) (e k : ℕ) → more setting ls t e k ≡ Stands u f → more setting ms t e k ≡ Stands u f) → (w : Why) (at : ℕ) (xs : List ℕ) → first setting w at xs ls ≡ Stands u f → first setting w at xs ms ≡ Stands u f
    first_fed ls ms g Break at xs h = by_line o h where
      by_line : (q : Bool) → cond q (Stands (content true xs) (content_end true xs at)) (more setting ls (content true xs) (content_end true xs at) 0) ≡ Stands u f
          → cond q (Stands (content true xs) (content_end true xs at)) (more setting ms (content true xs) (content_end true xs at) 0) ≡ Stands u f
      by_line true h = h
      by_line false h = g (content true xs) (content_end true xs at) 0 h
    first_fed ls ms g Return at xs h = absurd (cc)
    first_fed ls ms g Colon at xs h = h
    first_fed ls ms g Comment at xs h = h
    first_fed ls ms g Mark at xs h = h

    on_fed : (fresh : Bool) (l : Line) (ls : List Line) → plain_on setting fresh (l ∷ ls) ≡ Stands u f → plain_on setting fresh (glue (l ∷ ls) others) ≡ Stands u f
    on_fed fresh l [] h =
        let a = opens_stands setting fresh l [] u f h in
        ap (λ (b : List ℕ). plain_on setting fresh (record { at = l.at; bytes = b; broken = true } ∷ under)) (append-nil l.bytes)
        ∙ made setting fresh (record { at = l.at; bytes = l.bytes; broken = true }) under u f a.0 a.1 (first_fed [] under (λ t e k g. ends t e k ∙ g) (reason true l.bytes) l.at l.bytes a.2)
    on_fed fresh l (n ∷ ls) h =
        let a = opens_stands setting fresh l (n ∷ ls) u f h in
        made setting fresh l (glue (n ∷ ls) others) u f a.0 a.1 (first_fed (n ∷ ls) (glue (n ∷ ls) others) (more_fed (n ∷ ls)) (reason true l.bytes) l.at l.bytes a.2)

  -- ---- a text and a longer one

  no_break : (x : List ℕ) → begins_break c x ≡ false
  no_break x = grind (arith, nat_tests, closes)

  apart : (q : Bool) → q ≡ false → (q && true) ≡ false
  apart q e = ap (λ r. r && true) e

  pub plain_fed : (text tail : List ℕ) (at : ℕ) (u : List ℕ) (f : ℕ) → at ≤ length text → ends_with 13 text ≡ false → plain_scalar setting text at ≡ Stands u f → plain_scalar setting (text ++ (10 ∷ c ∷ tail)) at ≡ Stands u f
  plain_fed text tail at u f low last h =
      let xs = drop at text in
      let place = at + length xs in
      let fresh = is_first_column text at in
      let l : Line = record { at = at; bytes = line_at xs; broken = has_break xs } in
      let d : Line = record { at = suc place; bytes = c ∷ line_at tail; broken = has_break (c ∷ tail) } in
      let rest = behind (suc place) (c ∷ tail) in
      let next : lines (suc place) (c ∷ tail) ≡ d ∷ rest =
      lines_are (suc place) (c ∷ tail) ∙ ap (λ q. record { at = suc place; bytes = cond q [] (c ∷ line_at tail); broken = has_break (c ∷ tail) } ∷ rest) (no_break tail) in
      let new : lines at (drop at (text ++ (10 ∷ c ∷ tail))) ≡ glue (l ∷ behind at xs) (feed_of place ∷ d ∷ rest) =
      ap (lines at) (drop_before at text (10 ∷ c ∷ tail) low) ∙ lines_apart at xs (10 ∷ c ∷ tail) (apart (ends_with 13 xs) (ends_past at text last))
      ∙ ap (λ ls. glue (lines at xs) (feed_of place ∷ ls)) next ∙ ap (λ ls. glue ls (feed_of place ∷ d ∷ rest)) (lines_are at xs) in
      ap (λ q. plain_on setting q (lines at (drop at (text ++ (10 ∷ c ∷ tail))))) (column_longer text (10 ∷ c ∷ tail) at low) ∙ ap (plain_on setting fresh) new
      ∙ on_fed place (d ∷ rest) (λ t e k. line_ends (suc place) (line_at tail) (has_break (c ∷ tail)) rest t e k) u f fresh l (behind at xs) (sym (ap (plain_on setting fresh) (lines_are at xs)) ∙ h)
