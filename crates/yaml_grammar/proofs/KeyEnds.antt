-- A key with its colon is read to the same end where it is read as a node.
use Rattle.std.proofs.Common.{◌≡◌, ℕ, suc, ◌+◌, ◌≤◌, Bool, true, false, ◌||◌, ◌&&◌, List, [], ◌∷◌, length, take, drop, refl, sym, ap, ◌∙◌, subst, cond, true≢false, nat_eq, arith}
use Rattle.std.proofs.lemmas.Bool.Decides.{nat_tests}
use Rattle.std.proofs.lemmas.List.{drop-drop, take_all, length-drop}
use Rattle.std.specs.Prelude.{ℤ, pos, negsuc}
use Rattle.yaml_scalars.specs.declared.scalar.Setting.{Setting}
use Rattle.yaml_scalars.specs.Lines.{Line, Outcome, Stands, Fails, Documents, lines, begins_with, begins_break, is_white, is_blank, each, keep, trimmed, lead, indent, past_white, is_mark, is_cut_mark}
use Rattle.yaml_scalars.specs.Plain.{begins_plain, wrong_begin, plain_len, content, content_end, why, reason, first, plain_on}
use Rattle.yaml_scalars.specs.Quoted.{Part, Closed, Open, Joined, Returned, Refused, line_part, behind_part, key_part, quoted_more, quoted_on}
use Rattle.yaml_scalars.specs.Scalar.{scalar_at, plain_scalar, quoted_scalar, block_scalar, begins_quoted, is_first_column}
use Rattle.yaml_scalars.specs.code.Walk.{line_at, behind}
use Rattle.yaml_scalars.proofs.Places.{lines_are, line_drop}
use Rattle.yaml_grammar.specs.declared.ahead.Ahead.{Ahead}
use Rattle.yaml_grammar.specs.declared.form.Form.{Form}
use Rattle.yaml_grammar.specs.declared.form.Form.TheVariants.{Root, Flow, FlowTagged, Items, Entries, Tagged}
use Rattle.yaml_grammar.specs.Ahead.{ahead, tab_token, token_at, mark_of, token_of, is_passed, is_tabbed, line_ahead, rest_ahead}
use Rattle.yaml_grammar.specs.Nodes.{below, setting_of, as_key, starts_scalar, scalar_ahead}
use Rattle.yaml_grammar.specs.code.Steps.{IsBlock}
use Rattle.yaml_grammar.proofs.Looks.{first_rest}

-- ---- where a line's rest is blank, the next token begins a line

pub line_fresh : (flow : Bool) (size : ℕ) (ls : List Line) → (line_ahead flow size ls).fresh ≡ true
line_fresh flow size [] = refl
line_fresh flow size (l ∷ ls) = by_tests (is_mark l.bytes) (is_passed true l.bytes) (is_tabbed flow l.bytes) (line_fresh flow size ls) where
  by_tests : (p q r : Bool) → (line_ahead flow size ls).fresh ≡ true
      → (cond p (token_at (mark_of l.bytes) true 0 l.at) (cond q (line_ahead flow size ls) (cond r (token_at (tab_token (past_white l.bytes)) true (indent l.bytes) (l.at + indent l.bytes)) (token_at (token_of flow (past_white l.bytes)) true (lead is_white l.bytes) (l.at + lead is_white l.bytes))))).fresh ≡ true
  by_tests true q r h = refl
  by_tests false true r h = h
  by_tests false false true h = refl
  by_tests false false false h = refl

is_passed_blank : (fresh : Bool) (bytes : List ℕ) → is_blank bytes ≡ true → is_passed fresh bytes ≡ true
is_passed_blank fresh bytes b = rw b refl

pub blank_fresh : (text : List ℕ) (i : ℕ) → is_blank (line_at (drop i text)) ≡ true → (ahead text false i).fresh ≡ true
blank_fresh text i b = by_column (is_first_column text i) where
  by_column : (q : Bool) → (cond q (line_ahead false (length text) (lines i (drop i text))) (rest_ahead false (length text) (lines i (drop i text)))).fresh ≡ true
  by_column true = line_fresh false (length text) (lines i (drop i text))
  by_column false =
      ap (λ a. a.fresh) (first_rest text false i) ∙ ap (λ q. (cond q (line_ahead false (length text) (behind i (drop i text))) other).fresh) (is_passed_blank false (line_at (drop i text)) b)
      ∙ line_fresh false (length text) (behind i (drop i text)) where
        other : Ahead
        other = token_at (token_of false (past_white (line_at (drop i text)))) false (lead is_white (line_at (drop i text))) (i + lead is_white (line_at (drop i text)))

-- behind the last byte that is no white space
keep_white : (b : ℕ) (bs ts : List ℕ) → is_blank (drop (length ts) bs) ≡ true → is_blank (drop (length (keep b ts)) (b ∷ bs)) ≡ true
keep_white b bs (c ∷ cs) h = h
keep_white b bs [] h = by_white (is_white b) refl where
  by_white : (q : Bool) → is_white b ≡ q → is_blank (drop (length (cond q [] (b ∷ []))) (b ∷ bs)) ≡ true
  by_white true e = ap (λ q. cond q (each is_white bs) false) e ∙ h
  by_white false e = h

white_behind : (bs : List ℕ) → is_blank (drop (length (trimmed bs)) bs) ≡ true
white_behind [] = refl
white_behind (b ∷ bs) = keep_white b bs (trimmed bs) (white_behind bs)

keep_le : (b n : ℕ) (ts : List ℕ) → length ts ≤ n → length (keep b ts) ≤ suc n
keep_le b n (c ∷ cs) l = omega (arith, l)
keep_le b n [] l = by_white (is_white b) where
  by_white : (q : Bool) → length (cond q [] (b ∷ [])) ≤ suc n
  by_white true = omega arith
  by_white false = omega arith

trimmed_le : (bs : List ℕ) → length (trimmed bs) ≤ length bs
trimmed_le [] = omega arith
trimmed_le (b ∷ bs) = keep_le b (length bs) (trimmed bs) (trimmed_le bs)

-- ---- plain scalars

-- so read as a node: in block, over several lines
abbrev as_node : ℤ → Setting
as_node p = record { parent = p; flow = false; one_line = false }

-- a key that reaches its line's end has nothing but white space behind it
break_fresh : (text : List ℕ) (at e : ℕ) → drop (plain_len false false (line_at (drop at text))) (line_at (drop at text)) ≡ [] → content_end false (line_at (drop at text)) at ≡ e → (ahead text false e).fresh ≡ true
break_fresh text at e over h =
    let bytes : List ℕ = line_at (drop at text) in
    let n : ℕ = plain_len false false bytes in
    let size : length (drop n bytes) ≡ 0 = ap length over in
    let whole : take n bytes ≡ bytes = take_all n bytes (omega (arith, size, length-drop n bytes)) in
    let k : ℕ = length (trimmed bytes) in
    let end : at + k ≡ e = ap (λ b. at + length (trimmed b)) (sym whole) ∙ h in
    let rest : drop k bytes ≡ line_at (drop (at + k) text) = line_drop k (drop at text) (trimmed_le bytes) ∙ ap line_at (drop-drop k at text) in
    subst (λ i. (ahead text false i).fresh ≡ true) end (blank_fresh text (at + k) (ap is_blank (sym rest) ∙ white_behind bytes))

-- a scalar stands there, up to this place
abbrev pub StandsTo : ℕ → Outcome → Type 0
StandsTo e o = (u : List ℕ) × (o ≡ Stands u e)

plain_ends : (p : ℤ) (text : List ℕ) (at : ℕ) (t : List ℕ) (e : ℕ) (o : Outcome) → plain_scalar (as_key false) text at ≡ Stands t e → (ahead text false e).fresh ≡ false → plain_scalar (as_node p) text at ≡ o → StandsTo e o
plain_ends p text at t e o k stale h =
    by_tests (is_first_column text at && (is_mark bytes || is_cut_mark bytes)) (begins_plain false bytes) (sym (ap (plain_on (as_key false) (is_first_column text at)) (lines_are at (drop at text))) ∙ k)
    (sym (ap (plain_on (as_node p) (is_first_column text at)) (lines_are at (drop at text))) ∙ h) where
      bytes : List ℕ
      bytes = line_at (drop at text)

      same : (q : Outcome) → q ≡ Stands t e → q ≡ o → StandsTo e o
      same q f g = (t, sym g ∙ f)

      wrong : (q : Outcome) (n : ℕ) → q ≡ Fails n → q ≡ Stands t e → StandsTo e o
      wrong q n f g = absurd (let no : Fails n ≡ Stands t e = sym f ∙ g in cc)

      -- why the scalar ends on its line: by a carriage return, a colon, a comment or another byte
      by_byte : (q r c : Bool) → first (as_key false) (cond q (why (13 ∷ [])) (cond r (why (58 ∷ [])) (cond c (why (35 ∷ [])) (why (0 ∷ []))))) at bytes (behind at (drop at text)) ≡ Stands t e
          → first (as_node p) (cond q (why (13 ∷ [])) (cond r (why (58 ∷ [])) (cond c (why (35 ∷ [])) (why (0 ∷ []))))) at bytes (behind at (drop at text)) ≡ o → StandsTo e o
      by_byte true r c f g = wrong _ _ refl f
      by_byte false true c f g = same _ f g
      by_byte false false true f g = same _ f g
      by_byte false false false f g = same _ f g

      by_rest : (rest : List ℕ) → drop (plain_len false false bytes) bytes ≡ rest → first (as_key false) (why rest) at bytes (behind at (drop at text)) ≡ Stands t e
          → first (as_node p) (why rest) at bytes (behind at (drop at text)) ≡ o → StandsTo e o
      by_rest [] r f g =
          let here : Stands (content false bytes) (content_end false bytes at) ≡ Stands t e = f in
          let end : content_end false bytes at ≡ e = cc in
          absurd (true≢false (sym (break_fresh text at e r end) ∙ stale))
      by_rest (b ∷ bs) r f g = by_byte (nat_eq b 13) (nat_eq b 58) (nat_eq b 35) f g

      by_tests : (m b : Bool) → cond m (Fails (at + 3)) (cond b (first (as_key false) (reason false bytes) at bytes (behind at (drop at text))) (Fails (wrong_begin at bytes))) ≡ Stands t e
          → cond m (Fails (at + 3)) (cond b (first (as_node p) (reason false bytes) at bytes (behind at (drop at text))) (Fails (wrong_begin at bytes))) ≡ o → StandsTo e o
      by_tests true b f g = wrong _ _ refl f
      by_tests false false f g = wrong _ _ refl f
      by_tests false true f g = by_rest (drop (plain_len false false bytes) bytes) refl f g

-- ---- other scalars

quoted_ends : (size : ℕ) (ls : List Line) (t : List ℕ) (e : ℕ) (o : Outcome) → quoted_on true size ls ≡ Stands t e → quoted_on false size ls ≡ o → StandsTo e o
quoted_ends size [] t e o k h = absurd (cc)
quoted_ends size (l ∷ ls) t e o k h = by_part (line_part (cond (begins_with 34 l.bytes) 34 39) (suc l.at) 0 [] 0 (drop 1 l.bytes)) k h where
  by_part : (p : Part) → key_part p (l.at + length l.bytes) ≡ Stands t e → behind_part p (λ q x. quoted_more (cond (begins_with 34 l.bytes) 34 39) size ls x q 0) ≡ o → StandsTo e o
  by_part (Closed x i) f g = (t, sym g ∙ f)
  by_part (Open x) f g = absurd (cc)
  by_part (Joined x) f g = absurd (cc)
  by_part (Returned i) f g = absurd (cc)
  by_part (Refused i) f g = absurd (cc)

byte_is : (b c : ℕ) → nat_eq b c ≡ true → b ≡ c
byte_is b c e = grind (arith, nat_tests)

-- what begins a block scalar begins no plain one
marked_plain : (d : List ℕ) → (begins_with 124 d || begins_with 62 d) ≡ true → begins_plain false (line_at d) ≡ false
marked_plain [] h = refl
marked_plain (b ∷ bs) h = by_break (begins_break b bs) where
  is_one : (q r : Bool) → (q ≡ true → b ≡ 124) → (r ≡ true → b ≡ 62) → (q || r) ≡ true → begins_plain false (b ∷ line_at bs) ≡ false
  is_one true r f g e = subst (λ x. begins_plain false (x ∷ line_at bs) ≡ false) (sym (f refl)) refl
  is_one false true f g e = subst (λ x. begins_plain false (x ∷ line_at bs) ≡ false) (sym (g refl)) refl
  is_one false false f g e = absurd (cc)

  by_break : (q : Bool) → begins_plain false (cond q [] (b ∷ line_at bs)) ≡ false
  by_break true = refl
  by_break false = is_one (nat_eq b 124) (nat_eq b 62) (byte_is b 124) (byte_is b 62) h

fails_stands : (n : ℕ) (t : List ℕ) (e : ℕ) → Fails n ≡ Stands t e → ⊥
fails_stands n t e h = cc

stands_documents : (t : List ℕ) (e p : ℕ) → Documents p ≡ Stands t e → ⊥
stands_documents t e p h = cc

same_end : (t u : List ℕ) (e j : ℕ) → Stands t j ≡ Stands u e → j ≡ e
same_end t u e j h = cc

marked_none : (text : List ℕ) (at : ℕ) (t : List ℕ) (e : ℕ) → (begins_with 124 (drop at text) || begins_with 62 (drop at text)) ≡ true → plain_scalar (as_key false) text at ≡ Stands t e → ⊥
marked_none text at t e m k = by_tests (is_first_column text at && (is_mark bytes || is_cut_mark bytes)) (begins_plain false bytes) (marked_plain (drop at text) m) (sym (ap (plain_on (as_key false) (is_first_column text at)) (lines_are at (drop at text))) ∙ k) where
  bytes : List ℕ
  bytes = line_at (drop at text)

  by_tests : (m b : Bool) → b ≡ false → cond m (Fails (at + 3)) (cond b (first (as_key false) (reason false bytes) at bytes (behind at (drop at text))) (Fails (wrong_begin at bytes))) ≡ Stands t e → ⊥
  by_tests true b h f = fails_stands _ t e f
  by_tests false false h f = fails_stands _ t e f
  by_tests false true h f = true≢false h

node_end : (p : ℤ) (text : List ℕ) (at : ℕ) (t : List ℕ) (e : ℕ) (o : Outcome) → scalar_at (as_key false) text at ≡ Stands t e → (ahead text false e).fresh ≡ false → scalar_at (as_node p) text at ≡ o → StandsTo e o
node_end p text at t e o k stale h = by_form (begins_quoted (drop at text)) (begins_with 124 (drop at text) || begins_with 62 (drop at text)) refl k h where
  by_form : (q b : Bool) → (begins_with 124 (drop at text) || begins_with 62 (drop at text)) ≡ b → cond q (quoted_scalar (as_key false) text at) (plain_scalar (as_key false) text at) ≡ Stands t e
      → cond q (quoted_scalar (as_node p) text at) (cond b (block_scalar (as_node p) text at) (plain_scalar (as_node p) text at)) ≡ o → StandsTo e o
  by_form true b m f g = quoted_ends (length text) (lines at (drop at text)) t e o f g
  by_form false true m f g = absurd (marked_none text at t e m f)
  by_form false false m f g = plain_ends p text at t e o f stale g

-- ---- at a token

abbrev BlockAlike : List ℕ → Ahead → Setting → Type 0
BlockAlike text a s = (t u : List ℕ) (e j : ℕ) → scalar_ahead text (as_key false) a ≡ Stands t e → (ahead text false e).fresh ≡ false → scalar_ahead text s a ≡ Stands u j → j ≡ e

abbrev Undivided : List ℕ → Ahead → Setting → Type 0
Undivided text a s = (t : List ℕ) (e j : ℕ) → scalar_ahead text (as_key false) a ≡ Stands t e → (ahead text false e).fresh ≡ false → scalar_ahead text s a ≡ Documents j → ⊥

ahead_end : (p : ℤ) (text : List ℕ) (a : Ahead) → BlockAlike text a (as_node p)
ahead_end p text a t u e j k stale h = by_start (starts_scalar a.token) k h where
  same : StandsTo e (Stands u j) → j ≡ e
  same (x, h) = same_end u x e j h

  by_start : (q : Bool) → cond q (scalar_at (as_key false) text a.at) (Fails a.at) ≡ Stands t e → cond q (scalar_at (as_node p) text a.at) (Fails a.at) ≡ Stands u j → j ≡ e
  by_start true f g = same (node_end p text a.at t e (Stands u j) f stale g)
  by_start false f g = absurd (fails_stands a.at t e f)

ahead_single : (p : ℤ) (text : List ℕ) (a : Ahead) → Undivided text a (as_node p)
ahead_single p text a t e j k stale h = by_start (starts_scalar a.token) k h where
  wrong : StandsTo e (Documents j) → ⊥
  wrong (x, h) = stands_documents x e j h

  by_start : (q : Bool) → cond q (scalar_at (as_key false) text a.at) (Fails a.at) ≡ Stands t e → cond q (scalar_at (as_node p) text a.at) (Fails a.at) ≡ Documents j → ⊥
  by_start true f g = wrong (node_end p text a.at t e (Documents j) f stale g)
  by_start false f g = fails_stands a.at t e f

pub key_end : (text : List ℕ) (a : Ahead) (f : Form) → IsBlock f → BlockAlike text a (setting_of f)
key_end text a Root b = ahead_end (negsuc 0) text a
key_end text a (Flow m) b = absurd b
key_end text a (FlowTagged m) b = absurd b
key_end text a (Items m) b = ahead_end (pos m) text a
key_end text a (Entries m) b = ahead_end (pos m) text a
key_end text a (Tagged at ab sh) b = ahead_end (below ab) text a

-- a key with its colon has no mark in it, read as a node either
pub key_divides : (text : List ℕ) (a : Ahead) (f : Form) → IsBlock f → Undivided text a (setting_of f)
key_divides text a Root b = ahead_single (negsuc 0) text a
key_divides text a (Flow m) b = absurd b
key_divides text a (FlowTagged m) b = absurd b
key_divides text a (Items m) b = ahead_single (pos m) text a
key_divides text a (Entries m) b = ahead_single (pos m) text a
key_divides text a (Tagged at ab sh) b = ahead_single (below ab) text a

-- and a scalar stands there, read as a node
key_value : (p : ℤ) (text : List ℕ) (a : Ahead) (t : List ℕ) (e : ℕ) → scalar_ahead text (as_key false) a ≡ Stands t e → (ahead text false e).fresh ≡ false → StandsTo e (scalar_ahead text (as_node p) a)
key_value p text a t e k stale = by_start (starts_scalar a.token) k where
  by_start : (q : Bool) → cond q (scalar_at (as_key false) text a.at) (Fails a.at) ≡ Stands t e → StandsTo e (cond q (scalar_at (as_node p) text a.at) (Fails a.at))
  by_start true f = node_end p text a.at t e (scalar_at (as_node p) text a.at) f stale refl
  by_start false f = absurd (fails_stands a.at t e f)

pub key_stands : (text : List ℕ) (a : Ahead) (f : Form) → IsBlock f → (t : List ℕ) (e : ℕ) → scalar_ahead text (as_key false) a ≡ Stands t e → (ahead text false e).fresh ≡ false → StandsTo e (scalar_ahead text (setting_of f) a)
key_stands text a Root b = key_value (negsuc 0) text a
key_stands text a (Flow m) b = absurd b
key_stands text a (FlowTagged m) b = absurd b
key_stands text a (Items m) b = key_value (pos m) text a
key_stands text a (Entries m) b = key_value (pos m) text a
key_stands text a (Tagged at ab sh) b = key_value (below ab) text a
