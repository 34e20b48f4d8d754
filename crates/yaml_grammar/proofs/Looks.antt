-- What a place has ahead, by the line there and the lines below.
use Rattle.std.proofs.Common.{◌≡◌, ℕ, ◌+◌, Bool, true, false, ◌||◌, ◌&&◌, not, cond, nat_lt, List, drop, length, refl, sym, ap, ◌∙◌, subst}
use Rattle.std.proofs.lemmas.List.{drop-drop}
use Rattle.yaml_scalars.specs.Lines.{lines, begins_with, is_white, is_blank, lead, indent, past_white, is_mark}
use Rattle.yaml_scalars.specs.code.Walk.{line_at, behind}
use Rattle.yaml_scalars.proofs.Places.{lines_are, line_drop, lead_le}
use Rattle.yaml_grammar.specs.declared.ahead.Token.TheVariants.{Tag, NoTag}
use Rattle.yaml_grammar.specs.Ahead.{is_name, begins_letter, ends_tag, tag_token, tab_token, token_of, token_at, mark_of, has_return, is_passed, is_tabbed, content_ahead, line_ahead, rest_ahead}

-- behind the white space in front of a line
pub white_rest : (bytes : List ℕ) (start n : ℕ) → n ≡ lead is_white (line_at (drop start bytes)) → past_white (line_at (drop start bytes)) ≡ line_at (drop (start + n) bytes)
white_rest bytes start n e =
    line_drop (lead is_white (line_at (drop start bytes))) (drop start bytes) (lead_le is_white (line_at (drop start bytes)))
    ∙ ap line_at (drop-drop (lead is_white (line_at (drop start bytes))) start bytes ∙ ap (λ k. drop (start + k) bytes) (sym e))

-- a line that is not blank and no comment is not passed over
pub passed_other : (fresh : Bool) (bytes : List ℕ) → is_blank bytes ≡ false → begins_with 35 (past_white bytes) ≡ false → is_passed fresh bytes ≡ false
passed_other fresh bytes blank mark = rw (blank, mark) (left (fresh || nat_lt 0 (lead is_white bytes))) where
  left : (b : Bool) → (b && false) ≡ false
  left true = refl
  left false = refl

-- a comment is, unless it has a carriage return
pub passed_comment : (fresh : Bool) (bytes : List ℕ) (n : ℕ) → is_blank bytes ≡ false → n ≡ lead is_white bytes → (fresh || nat_lt 0 n) ≡ true → begins_with 35 (past_white bytes) ≡ true
    → is_passed fresh bytes ≡ not (has_return bytes)
passed_comment fresh bytes n blank e may mark =
    let here : (fresh || nat_lt 0 (lead is_white bytes)) ≡ true = subst (λ k. (fresh || nat_lt 0 k) ≡ true) e may in
    rw (blank, mark) (ap (λ b. b && not (has_return bytes)) here)

-- the first of the lines from a place on
pub first_line : (bytes : List ℕ) (flow : Bool) (at : ℕ) → line_ahead flow (length bytes) (lines at (drop at bytes))
    ≡ (cond (is_mark (line_at (drop at bytes))) (token_at (mark_of (line_at (drop at bytes))) true 0 at)
    (cond (is_passed true (line_at (drop at bytes))) (line_ahead flow (length bytes) (behind at (drop at bytes))) (content_ahead flow at (line_at (drop at bytes)))))
first_line bytes flow at = ap (line_ahead flow (length bytes)) (lines_are at (drop at bytes))

pub first_rest : (bytes : List ℕ) (flow : Bool) (at : ℕ) → rest_ahead flow (length bytes) (lines at (drop at bytes))
    ≡ (cond (is_passed false (line_at (drop at bytes))) (line_ahead flow (length bytes) (behind at (drop at bytes)))
    (token_at (token_of flow (past_white (line_at (drop at bytes)))) false (lead is_white (line_at (drop at bytes))) (at + lead is_white (line_at (drop at bytes)))))
first_rest bytes flow at = ap (rest_ahead flow (length bytes)) (lines_are at (drop at bytes))

pub marked : (bytes : List ℕ) (flow : Bool) (at : ℕ) → is_mark (line_at (drop at bytes)) ≡ true → line_ahead flow (length bytes) (lines at (drop at bytes)) ≡ token_at (mark_of (line_at (drop at bytes))) true 0 at
marked bytes flow at e = first_line bytes flow at
    ∙ ap (λ b. cond b (token_at (mark_of (line_at (drop at bytes))) true 0 at) (cond (is_passed true (line_at (drop at bytes))) (line_ahead flow (length bytes) (behind at (drop at bytes))) (content_ahead flow at (line_at (drop at bytes))))) e

unmarked : (bytes : List ℕ) (flow : Bool) (at : ℕ) → is_mark (line_at (drop at bytes)) ≡ false → line_ahead flow (length bytes) (lines at (drop at bytes))
    ≡ (cond (is_passed true (line_at (drop at bytes))) (line_ahead flow (length bytes) (behind at (drop at bytes))) (content_ahead flow at (line_at (drop at bytes))))
unmarked bytes flow at e = first_line bytes flow at
    ∙ ap (λ b. cond b (token_at (mark_of (line_at (drop at bytes))) true 0 at) (cond (is_passed true (line_at (drop at bytes))) (line_ahead flow (length bytes) (behind at (drop at bytes))) (content_ahead flow at (line_at (drop at bytes))))) e

pub filled : (bytes : List ℕ) (flow : Bool) (at : ℕ) → is_mark (line_at (drop at bytes)) ≡ false → is_passed true (line_at (drop at bytes)) ≡ false
    → line_ahead flow (length bytes) (lines at (drop at bytes)) ≡ content_ahead flow at (line_at (drop at bytes))
filled bytes flow at e f = unmarked bytes flow at e ∙ ap (λ b. cond b (line_ahead flow (length bytes) (behind at (drop at bytes))) (content_ahead flow at (line_at (drop at bytes)))) f

pub below_passed : (bytes : List ℕ) (flow : Bool) (at : ℕ) → is_mark (line_at (drop at bytes)) ≡ false → is_passed true (line_at (drop at bytes)) ≡ true
    → line_ahead flow (length bytes) (lines at (drop at bytes)) ≡ line_ahead flow (length bytes) (behind at (drop at bytes))
below_passed bytes flow at e f = unmarked bytes flow at e ∙ ap (λ b. cond b (line_ahead flow (length bytes) (behind at (drop at bytes))) (content_ahead flow at (line_at (drop at bytes)))) f

pub rest_filled : (bytes : List ℕ) (flow : Bool) (at : ℕ) → is_passed false (line_at (drop at bytes)) ≡ false
    → rest_ahead flow (length bytes) (lines at (drop at bytes)) ≡ token_at (token_of flow (past_white (line_at (drop at bytes)))) false (lead is_white (line_at (drop at bytes))) (at + lead is_white (line_at (drop at bytes)))
rest_filled bytes flow at f = first_rest bytes flow at
    ∙ ap (λ b. cond b (line_ahead flow (length bytes) (behind at (drop at bytes))) (token_at (token_of flow (past_white (line_at (drop at bytes)))) false (lead is_white (line_at (drop at bytes))) (at + lead is_white (line_at (drop at bytes))))) f

pub rest_passed : (bytes : List ℕ) (flow : Bool) (at : ℕ) → is_passed false (line_at (drop at bytes)) ≡ true
    → rest_ahead flow (length bytes) (lines at (drop at bytes)) ≡ line_ahead flow (length bytes) (behind at (drop at bytes))
rest_passed bytes flow at f = first_rest bytes flow at
    ∙ ap (λ b. cond b (line_ahead flow (length bytes) (behind at (drop at bytes))) (token_at (token_of flow (past_white (line_at (drop at bytes)))) false (lead is_white (line_at (drop at bytes))) (at + lead is_white (line_at (drop at bytes))))) f

pub untabbed : (flow : Bool) (at : ℕ) (bytes : List ℕ) → is_tabbed flow bytes ≡ false → content_ahead flow at bytes ≡ token_at (token_of flow (past_white bytes)) true (lead is_white bytes) (at + lead is_white bytes)
untabbed flow at bytes e = ap (λ b. cond b (token_at (tab_token (past_white bytes)) true (indent bytes) (at + indent bytes)) (token_at (token_of flow (past_white bytes)) true (lead is_white bytes) (at + lead is_white bytes))) e

pub tabbed : (flow : Bool) (at : ℕ) (bytes : List ℕ) → is_tabbed flow bytes ≡ true → content_ahead flow at bytes ≡ token_at (tab_token (past_white bytes)) true (indent bytes) (at + indent bytes)
tabbed flow at bytes e = ap (λ b. cond b (token_at (tab_token (past_white bytes)) true (indent bytes) (at + indent bytes)) (token_at (token_of flow (past_white bytes)) true (lead is_white bytes) (at + lead is_white bytes))) e

-- the token behind the white space in front of a line
pub white_token : (bytes : List ℕ) (flow fresh : Bool) (start n : ℕ) → n ≡ lead is_white (line_at (drop start bytes))
    → token_at (token_of flow (line_at (drop (start + n) bytes))) fresh n (start + n) ≡ token_at (token_of flow (past_white (line_at (drop start bytes)))) fresh (lead is_white (line_at (drop start bytes))) (start + lead is_white (line_at (drop start bytes)))
white_token bytes flow fresh start n e =
    ap (λ t. token_at (token_of flow t) fresh n (start + n)) (sym (white_rest bytes start n e)) ∙ ap (λ k. token_at (token_of flow (past_white (line_at (drop start bytes)))) fresh k (start + k)) e

-- a tag's name is told by how many letters and digits stand there, and what stands behind it
name_rest : (bytes : List ℕ) (start n : ℕ) → n ≡ lead is_name (line_at (drop start bytes)) → drop (lead is_name (line_at (drop start bytes))) (line_at (drop start bytes)) ≡ line_at (drop (start + n) bytes)
name_rest bytes start n e =
    line_drop (lead is_name (line_at (drop start bytes))) (drop start bytes) (lead_le is_name (line_at (drop start bytes)))
    ∙ ap line_at (drop-drop (lead is_name (line_at (drop start bytes))) start bytes ∙ ap (λ k. drop (start + k) bytes) (sym e))

pub tag_ends : (bytes : List ℕ) (flow : Bool) (start n : ℕ) → n ≡ lead is_name (line_at (drop start bytes)) → ends_tag flow (line_at (drop (start + n) bytes)) ≡ false → tag_token flow (line_at (drop start bytes)) ≡ NoTag
tag_ends bytes flow start n e h = by_letter (begins_letter (line_at (drop start bytes))) (ap (ends_tag flow) (name_rest bytes start n e) ∙ h) where
  by_letter : (q : Bool) → ends_tag flow (drop (lead is_name (line_at (drop start bytes))) (line_at (drop start bytes))) ≡ false
      → cond (q && ends_tag flow (drop (lead is_name (line_at (drop start bytes))) (line_at (drop start bytes)))) (Tag (lead is_name (line_at (drop start bytes)))) NoTag ≡ NoTag
  by_letter true k = ap (λ b. cond b (Tag (lead is_name (line_at (drop start bytes)))) NoTag) k
  by_letter false k = refl

pub tag_stands : (bytes : List ℕ) (flow : Bool) (start n : ℕ) → n ≡ lead is_name (line_at (drop start bytes)) → begins_letter (line_at (drop start bytes)) ≡ true → ends_tag flow (line_at (drop (start + n) bytes)) ≡ true → tag_token flow (line_at (drop start bytes)) ≡ Tag n
tag_stands bytes flow start n e l h =
    ap (λ b. cond (b && ends_tag flow (drop (lead is_name (line_at (drop start bytes))) (line_at (drop start bytes)))) (Tag (lead is_name (line_at (drop start bytes)))) NoTag) l
    ∙ ap (λ b. cond b (Tag (lead is_name (line_at (drop start bytes)))) NoTag) (ap (ends_tag flow) (name_rest bytes start n e) ∙ h) ∙ ap Tag (sym e)
