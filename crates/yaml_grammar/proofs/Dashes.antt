-- A `-` at a text's end, where a scalar may begin and a sequence may not, begins one with a letter behind it.
use Rattle.std.proofs.Common.{◌≡◌, ℕ, ◌+◌, ◌≤◌, Bool, true, false, ◌||◌, ◌&&◌, not, cond, nat_lt, nat_le, arith, List, [], ◌∷◌, ◌++◌, Option, drop, length, refl, sym, ap, ◌∙◌, subst, true≢false, append-nil, length-append, length-drop}
use Rattle.doc_values.specs.declared.kind.Kind.TheVariants as kind
use Rattle.doc_values.specs.Tree.{Forest}
use Rattle.doc_values.specs.Unfinished.{Level}
use Rattle.yaml_scalars.specs.declared.scalar.Setting.{Setting}
use Rattle.yaml_scalars.specs.Lines.{Line, Stands, Fails, lines, begins_with, is_white, is_blank, lead, past_white, indent, is_mark}
use Rattle.yaml_scalars.specs.Plain.{plain_on}
use Rattle.yaml_scalars.specs.Scalar.{is_first_column, begins_quoted, begins_block, plain_scalar, quoted_scalar, block_scalar, scalar_at, is_typed}
use Rattle.yaml_scalars.specs.code.Walk.{line_at, has_break, behind}
use Rattle.yaml_scalars.proofs.Places.{lines_are, lead_le}
use Rattle.yaml_laws.proofs.Agree.{Within, lines_within, drop_before}
use Rattle.yaml_laws.proofs.Longer.{glue, joint, rest_of, lines_more}
use Rattle.yaml_laws.proofs.ScalarLaw.{column_longer}
use Rattle.yaml_grammar.specs.declared.ahead.Ahead.{Ahead}
use Rattle.yaml_grammar.specs.declared.ahead.Token.TheVariants.{End, Dashes, Dots, Dash, Stray, Tabbed, Other}
use Rattle.yaml_grammar.specs.declared.form.Form.{Form}
use Rattle.yaml_grammar.specs.declared.form.Form.TheVariants.{Root, Flow, FlowTagged, Items, Entries, Tagged}
use Rattle.yaml_grammar.specs.Ahead.{tab_token, is_tabbed, token_of, token_at, mark_of, is_passed, content_ahead, line_ahead, rest_ahead, ahead}
use Rattle.yaml_grammar.specs.Blocks.{takes_scalar}
use Rattle.yaml_grammar.specs.Nodes.{setting_of, follows_get_att, is_cut, starts_scalar, scalar_ahead}
use Rattle.yaml_grammar.specs.Signs.{Tree}
use Rattle.yaml_grammar.specs.code.Closers.{closers, in_flow}
use Rattle.yaml_grammar.specs.code.Rest.{top, Awaits}
use Rattle.yaml_grammar.specs.code.Steps.{Agrees, Nests, IsBlock}
use Rattle.yaml_grammar.proofs.AheadLonger.{BothBegin, kept, unmarked, tabbed, white, rest}
use Rattle.yaml_grammar.proofs.Continuations.{block_closers, scalar_completes}
use Rattle.yaml_grammar.proofs.LetterKinds.{letter_kind}
use Rattle.yaml_grammar.proofs.LineTails.{Tails, IsTail, tails_of, tail_is, inner_line}
use Rattle.yaml_grammar.proofs.Looks.{white_rest}
use Rattle.yaml_grammar.proofs.ScalarFails.{not_blank}
use Rattle.yaml_grammar.proofs.ScalarOrder.{first_bytes}

-- ---- the scalar

in_block : (s : Setting) → s.flow ≡ false → s ≡ record { parent = s.parent; flow = false; one_line = s.one_line }
in_block s e = ap (λ (q : Bool). record { parent = s.parent; flow = q; one_line = s.one_line }) e

-- a `-` and a letter at the text's end
dash_scalar : (s : Setting) (text : List ℕ) (at : ℕ) → s.flow ≡ false → at ≤ length text → drop at text ≡ 45 ∷ [] → scalar_at s (text ++ (97 ∷ [])) at ≡ Stands (45 ∷ 97 ∷ []) (at + 2)
dash_scalar s text at flow low e =
    let there : drop at (text ++ (97 ∷ [])) ≡ 45 ∷ 97 ∷ [] = drop_before at text (97 ∷ []) low ∙ ap (λ t. t ++ (97 ∷ [])) e in
    ap (λ d. cond (begins_quoted d) (quoted_scalar s (text ++ (97 ∷ [])) at) (cond (begins_block s d) (block_scalar s (text ++ (97 ∷ [])) at) (plain_scalar s (text ++ (97 ∷ [])) at))) there ∙ by_block (not (s.flow || s.one_line))
    ∙ ap (λ d. plain_on s (is_first_column (text ++ (97 ∷ [])) at) (lines at d)) there ∙ ap (λ w. plain_on w (is_first_column (text ++ (97 ∷ [])) at) (lines at (45 ∷ 97 ∷ []))) (in_block s flow) ∙ by_setting (is_first_column (text ++ (97 ∷ [])) at) s.one_line where
      by_setting : (q o : Bool) → plain_on (record { parent = s.parent; flow = false; one_line = o }) q (lines at (45 ∷ 97 ∷ [])) ≡ Stands (45 ∷ 97 ∷ []) (at + 2)
      by_setting true true = refl
      by_setting true false = refl
      by_setting false true = refl
      by_setting false false = refl

      by_block : (q : Bool) → cond (q && false) (block_scalar s (text ++ (97 ∷ [])) at) (plain_scalar s (text ++ (97 ∷ [])) at) ≡ plain_scalar s (text ++ (97 ∷ [])) at
      by_block true = refl
      by_block false = refl

-- ---- the token

no_mark : (q : Bool) → cond q Dashes Dots ≡ Dash → ⊥
no_mark true h = (let z : Dashes ≡ Dash = h in cc)
no_mark false h = (let z : Dots ≡ Dash = h in cc)

no_tab : (q : Bool) → cond q Stray Tabbed ≡ Dash → ⊥
no_tab true h = (let z : Stray ≡ Dash = h in cc)
no_tab false h = (let z : Tabbed ≡ Dash = h in cc)

no_end : End ≡ Dash → ⊥
no_end h = cc

two_lines : (a b m : Line) (ls : List Line) → a ∷ [] ≡ b ∷ m ∷ ls → ⊥
two_lines a b m ls h = cc

module _ (text : List ℕ) where
  -- a line whose token is that `-` is the last
  alone : (l m : Line) (ls : List Line) → IsTail text l (m ∷ ls) → drop (l.at + lead is_white l.bytes) text ≡ 45 ∷ [] → ⊥
  alone l m ls is e =
      let r = inner_line text l (m ∷ ls) is (lead is_white l.bytes) (lead_le is_white l.bytes) in
      two_lines (rest_of (l.at + lead is_white l.bytes) (45 ∷ [])) (record { at = l.at + lead is_white l.bytes; bytes = drop (lead is_white l.bytes) l.bytes; broken = r.0 }) m ls (sym (ap (lines (l.at + lead is_white l.bytes)) e) ∙ r.1)

  -- with a letter behind it a scalar begins there
  at_dash : (l : Line) (ls : List Line) (fresh : Bool) → IsTail text l ls → is_blank l.bytes ≡ false → drop (l.at + lead is_white l.bytes) text ≡ 45 ∷ []
      → BothBegin (token_at (token_of false (past_white l.bytes)) fresh (lead is_white l.bytes) (l.at + lead is_white l.bytes))
      (token_at (token_of false (past_white (l.bytes ++ (97 ∷ [])))) fresh (lead is_white (l.bytes ++ (97 ∷ []))) (l.at + lead is_white (l.bytes ++ (97 ∷ []))))
  at_dash l ls fresh is full e =
      let bytes : line_at (drop l.at text) ≡ l.bytes = first_bytes text l ls is.0 in
      let there : past_white l.bytes ≡ 45 ∷ [] = ap past_white (sym bytes) ∙ white_rest text l.at (lead is_white l.bytes) (ap (lead is_white) (sym bytes)) ∙ ap line_at e in
      let w = white 97 [] refl false l.bytes full in
      let token : token_of false (past_white (l.bytes ++ (97 ∷ []))) ≡ Other = ap (token_of false) (rest 97 [] refl false l.bytes full ∙ ap (λ t. t ++ (97 ∷ [])) there) in
      (ap (λ n. l.at + n) w, refl, w, ap starts_scalar token)

  line_dash : (most place : ℕ) (ls : List Line) → Tails text ls → Within (length text) ls → (line_ahead false (length text) ls).token ≡ Dash → drop (line_ahead false (length text) ls).at text ≡ 45 ∷ [] → BothBegin (line_ahead false (length text) ls) (line_ahead false most (glue ls (rest_of place (97 ∷ []) ∷ [])))
  line_dash most place [] o w h e = absurd (no_end h)
  line_dash most place (l ∷ []) o w h e = by_tests (is_mark l.bytes) (is_passed true l.bytes) (is_tabbed false l.bytes) refl refl refl h e where
    by_tests : (q r v : Bool) → is_mark l.bytes ≡ q → is_passed true l.bytes ≡ r → is_tabbed false l.bytes ≡ v
        → (cond q (token_at (mark_of l.bytes) true 0 l.at) (cond r (line_ahead false (length text) []) (cond v (token_at (tab_token (past_white l.bytes)) true (indent l.bytes) (l.at + indent l.bytes)) (token_at (token_of false (past_white l.bytes)) true (lead is_white l.bytes) (l.at + lead is_white l.bytes))))).token ≡ Dash
        → drop (cond q (token_at (mark_of l.bytes) true 0 l.at) (cond r (line_ahead false (length text) []) (cond v (token_at (tab_token (past_white l.bytes)) true (indent l.bytes) (l.at + indent l.bytes)) (token_at (token_of false (past_white l.bytes)) true (lead is_white l.bytes) (l.at + lead is_white l.bytes))))).at text ≡ 45 ∷ []
        → BothBegin (cond q (token_at (mark_of l.bytes) true 0 l.at) (cond r (line_ahead false (length text) []) (cond v (token_at (tab_token (past_white l.bytes)) true (indent l.bytes) (l.at + indent l.bytes)) (token_at (token_of false (past_white l.bytes)) true (lead is_white l.bytes) (l.at + lead is_white l.bytes)))))
        (line_ahead false most (joint l (rest_of place (97 ∷ [])) ∷ []))
    by_tests true r v i j k h e = absurd (no_mark (begins_with 45 l.bytes) h)
    by_tests false true v i j k h e = absurd (no_end h)
    by_tests false false true i j k h e = absurd (no_tab (begins_with 35 (past_white l.bytes) || begins_with 13 (past_white l.bytes)) h)
    by_tests false false false i j k h e =
        let full = not_blank true l.bytes j in
        let one : line_ahead false most (joint l (rest_of place (97 ∷ [])) ∷ []) ≡ token_at (token_of false (past_white (l.bytes ++ (97 ∷ [])))) true (lead is_white (l.bytes ++ (97 ∷ []))) (l.at + lead is_white (l.bytes ++ (97 ∷ []))) =
        ap (λ q. cond q (token_at (mark_of (l.bytes ++ (97 ∷ []))) true 0 l.at) (cond (is_passed true (l.bytes ++ (97 ∷ []))) (line_ahead false most []) (content_ahead false l.at (l.bytes ++ (97 ∷ []))))) (unmarked 97 [] refl false l.bytes i)
        ∙ ap (λ q. cond q (line_ahead false most []) (content_ahead false l.at (l.bytes ++ (97 ∷ [])))) (kept 97 [] refl false l.bytes full true j)
        ∙ ap (λ q. cond q (token_at (tab_token (past_white (l.bytes ++ (97 ∷ [])))) true (indent (l.bytes ++ (97 ∷ []))) (l.at + indent (l.bytes ++ (97 ∷ [])))) (token_at (token_of false (past_white (l.bytes ++ (97 ∷ [])))) true (lead is_white (l.bytes ++ (97 ∷ []))) (l.at + lead is_white (l.bytes ++ (97 ∷ []))))) (tabbed 97 [] refl false l.bytes full ∙ k) in
        subst (λ b. BothBegin (token_at (token_of false (past_white l.bytes)) true (lead is_white l.bytes) (l.at + lead is_white l.bytes)) b) (sym one) (at_dash l [] true (tail_is text l [] o.0 w.0) full e)
  line_dash most place (l ∷ m ∷ ls) o w h e = by_tests (is_mark l.bytes) (is_passed true l.bytes) (is_tabbed false l.bytes) h e (λ a b. line_dash most place (m ∷ ls) o.1 w.1 a b) where
    by_tests : (q r v : Bool)
        → (cond q (token_at (mark_of l.bytes) true 0 l.at) (cond r (line_ahead false (length text) (m ∷ ls)) (cond v (token_at (tab_token (past_white l.bytes)) true (indent l.bytes) (l.at + indent l.bytes)) (token_at (token_of false (past_white l.bytes)) true (lead is_white l.bytes) (l.at + lead is_white l.bytes))))).token ≡ Dash
        → drop (cond q (token_at (mark_of l.bytes) true 0 l.at) (cond r (line_ahead false (length text) (m ∷ ls)) (cond v (token_at (tab_token (past_white l.bytes)) true (indent l.bytes) (l.at + indent l.bytes)) (token_at (token_of false (past_white l.bytes)) true (lead is_white l.bytes) (l.at + lead is_white l.bytes))))).at text ≡ 45 ∷ []
        → ((line_ahead false (length text) (m ∷ ls)).token ≡ Dash → drop (line_ahead false (length text) (m ∷ ls)).at text ≡ 45 ∷ [] → BothBegin (line_ahead false (length text) (m ∷ ls)) (line_ahead false most (glue (m ∷ ls) (rest_of place (97 ∷ []) ∷ []))))
        → BothBegin (cond q (token_at (mark_of l.bytes) true 0 l.at) (cond r (line_ahead false (length text) (m ∷ ls)) (cond v (token_at (tab_token (past_white l.bytes)) true (indent l.bytes) (l.at + indent l.bytes)) (token_at (token_of false (past_white l.bytes)) true (lead is_white l.bytes) (l.at + lead is_white l.bytes)))))
        (cond q (token_at (mark_of l.bytes) true 0 l.at) (cond r (line_ahead false most (glue (m ∷ ls) (rest_of place (97 ∷ []) ∷ []))) (cond v (token_at (tab_token (past_white l.bytes)) true (indent l.bytes) (l.at + indent l.bytes)) (token_at (token_of false (past_white l.bytes)) true (lead is_white l.bytes) (l.at + lead is_white l.bytes)))))
    by_tests true r v h e f = absurd (no_mark (begins_with 45 l.bytes) h)
    by_tests false true v h e f = f h e
    by_tests false false true h e f = absurd (no_tab (begins_with 35 (past_white l.bytes) || begins_with 13 (past_white l.bytes)) h)
    by_tests false false false h e f = absurd (alone l m ls (tail_is text l (m ∷ ls) o.0 w.0) e)

  rest_dash : (most place : ℕ) (l : Line) (ls : List Line) → Tails text (l ∷ ls) → Within (length text) (l ∷ ls) → (rest_ahead false (length text) (l ∷ ls)).token ≡ Dash → drop (rest_ahead false (length text) (l ∷ ls)).at text ≡ 45 ∷ []
      → BothBegin (rest_ahead false (length text) (l ∷ ls)) (rest_ahead false most (glue (l ∷ ls) (rest_of place (97 ∷ []) ∷ [])))
  rest_dash most place l [] o w h e = by_test (is_passed false l.bytes) refl h e where
    by_test : (r : Bool) → is_passed false l.bytes ≡ r → (cond r (line_ahead false (length text) []) (token_at (token_of false (past_white l.bytes)) false (lead is_white l.bytes) (l.at + lead is_white l.bytes))).token ≡ Dash
        → drop (cond r (line_ahead false (length text) []) (token_at (token_of false (past_white l.bytes)) false (lead is_white l.bytes) (l.at + lead is_white l.bytes))).at text ≡ 45 ∷ []
        → BothBegin (cond r (line_ahead false (length text) []) (token_at (token_of false (past_white l.bytes)) false (lead is_white l.bytes) (l.at + lead is_white l.bytes))) (rest_ahead false most (joint l (rest_of place (97 ∷ [])) ∷ []))
    by_test true j h e = absurd (no_end h)
    by_test false j h e =
        let full = not_blank false l.bytes j in
        let one : rest_ahead false most (joint l (rest_of place (97 ∷ [])) ∷ []) ≡ token_at (token_of false (past_white (l.bytes ++ (97 ∷ [])))) false (lead is_white (l.bytes ++ (97 ∷ []))) (l.at + lead is_white (l.bytes ++ (97 ∷ []))) =
        ap (λ q. cond q (line_ahead false most []) (token_at (token_of false (past_white (l.bytes ++ (97 ∷ [])))) false (lead is_white (l.bytes ++ (97 ∷ []))) (l.at + lead is_white (l.bytes ++ (97 ∷ []))))) (kept 97 [] refl false l.bytes full false j) in
        subst (λ b. BothBegin (token_at (token_of false (past_white l.bytes)) false (lead is_white l.bytes) (l.at + lead is_white l.bytes)) b) (sym one) (at_dash l [] false (tail_is text l [] o.0 w.0) full e)
  rest_dash most place l (m ∷ ls) o w h e = by_test (is_passed false l.bytes) h e where
    by_test : (r : Bool) → (cond r (line_ahead false (length text) (m ∷ ls)) (token_at (token_of false (past_white l.bytes)) false (lead is_white l.bytes) (l.at + lead is_white l.bytes))).token ≡ Dash
        → drop (cond r (line_ahead false (length text) (m ∷ ls)) (token_at (token_of false (past_white l.bytes)) false (lead is_white l.bytes) (l.at + lead is_white l.bytes))).at text ≡ 45 ∷ []
        → BothBegin (cond r (line_ahead false (length text) (m ∷ ls)) (token_at (token_of false (past_white l.bytes)) false (lead is_white l.bytes) (l.at + lead is_white l.bytes)))
        (cond r (line_ahead false most (glue (m ∷ ls) (rest_of place (97 ∷ []) ∷ []))) (token_at (token_of false (past_white l.bytes)) false (lead is_white l.bytes) (l.at + lead is_white l.bytes)))
    by_test true h e = line_dash most place (m ∷ ls) o.1 w.1 h e
    by_test false h e = absurd (alone l m ls (tail_is text l (m ∷ ls) o.0 w.0) e)

  -- a text and a longer one
  pub dash_longer : (i : ℕ) → i ≤ length text → (ahead text false i).token ≡ Dash → drop (ahead text false i).at text ≡ 45 ∷ [] → BothBegin (ahead text false i) (ahead (text ++ (97 ∷ [])) false i)
  dash_longer i low h e =
      let xs = drop i text in
      let l : Line = record { at = i; bytes = line_at xs; broken = has_break xs } in
      let is = lines_are i xs in
      let o = subst (Tails text) is (tails_of text i) in
      let w = subst (Within (length text)) is (lines_within (length text) i xs (omega (arith, low, length-drop i text))) in
      let longer : lines i (drop i (text ++ (97 ∷ []))) ≡ glue (l ∷ behind i xs) (rest_of (i + length xs) (97 ∷ []) ∷ []) = ap (lines i) (drop_before i text (97 ∷ []) low) ∙ lines_more i xs (97 ∷ []) refl ∙ ap (λ ls. glue ls (rest_of (i + length xs) (97 ∷ []) ∷ [])) is in
      subst
      (λ q. BothBegin (ahead text false i) (cond q (line_ahead false (length (text ++ (97 ∷ []))) (lines i (drop i (text ++ (97 ∷ []))))) (rest_ahead false (length (text ++ (97 ∷ []))) (lines i (drop i (text ++ (97 ∷ [])))))))
      (sym (column_longer text (97 ∷ []) i low)) (by_column (is_first_column text i) l (behind i xs) (i + length xs) is longer o w h e) where
        by_column : (q : Bool) (l : Line) (ks : List Line) (place : ℕ) → lines i (drop i text) ≡ l ∷ ks → lines i (drop i (text ++ (97 ∷ []))) ≡ glue (l ∷ ks) (rest_of place (97 ∷ []) ∷ []) → Tails text (l ∷ ks) → Within (length text) (l ∷ ks)
            → (cond q (line_ahead false (length text) (lines i (drop i text))) (rest_ahead false (length text) (lines i (drop i text)))).token ≡ Dash → drop (cond q (line_ahead false (length text) (lines i (drop i text))) (rest_ahead false (length text) (lines i (drop i text)))).at text ≡ 45 ∷ []
            → BothBegin (cond q (line_ahead false (length text) (lines i (drop i text))) (rest_ahead false (length text) (lines i (drop i text))))
            (cond q (line_ahead false (length (text ++ (97 ∷ []))) (lines i (drop i (text ++ (97 ∷ []))))) (rest_ahead false (length (text ++ (97 ∷ []))) (lines i (drop i (text ++ (97 ∷ []))))))
        by_column true l ks place is longer o w h e =
            subst (λ ls. BothBegin (line_ahead false (length text) ls) (line_ahead false (length (text ++ (97 ∷ []))) (lines i (drop i (text ++ (97 ∷ [])))))) (sym is)
            (subst (λ ls. BothBegin (line_ahead false (length text) (l ∷ ks)) (line_ahead false (length (text ++ (97 ∷ []))) ls)) (sym longer)
            (line_dash (length (text ++ (97 ∷ []))) place (l ∷ ks) o w (subst (λ ls. (line_ahead false (length text) ls).token ≡ Dash) is h) (subst (λ ls. drop (line_ahead false (length text) ls).at text ≡ 45 ∷ []) is e)))
        by_column false l ks place is longer o w h e =
            subst (λ ls. BothBegin (rest_ahead false (length text) ls) (rest_ahead false (length (text ++ (97 ∷ []))) (lines i (drop i (text ++ (97 ∷ [])))))) (sym is)
            (subst (λ ls. BothBegin (rest_ahead false (length text) (l ∷ ks)) (rest_ahead false (length (text ++ (97 ∷ []))) ls)) (sym longer)
            (rest_dash (length (text ++ (97 ∷ []))) place l ks o w (subst (λ ls. (rest_ahead false (length text) ls).token ≡ Dash) is h) (subst (λ ls. drop (rest_ahead false (length text) ls).at text ≡ 45 ∷ []) is e)))

-- ---- a value

block_setting : (f : Form) → IsBlock f → ((setting_of f).flow ≡ false) × (in_flow f ≡ false)
block_setting Root b = (refl, refl)
block_setting (Flow m) b = absurd b
block_setting (FlowTagged at) b = absurd b
block_setting (Items m) b = (refl, refl)
block_setting (Entries m) b = (refl, refl)
block_setting (Tagged at ab sh) b = (refl, refl)

-- where a scalar may begin is told by the column and by whether it begins a line
takes_same : (f : Form) (a b : Ahead) → b.fresh ≡ a.fresh → b.column ≡ a.column → takes_scalar f b ≡ takes_scalar f a
takes_same Root a b x y = x
takes_same (Flow m) a b x y = refl
takes_same (FlowTagged at) a b x y = refl
takes_same (Items m) a b x y = ap (λ q. not q || nat_lt m b.column) x ∙ ap (λ n. not a.fresh || nat_lt m n) y
takes_same (Entries m) a b x y = ap (λ q. not q || nat_lt m b.column) x ∙ ap (λ n. not a.fresh || nat_lt m n) y
takes_same (Tagged at ab sh) a b x y = ap (λ q. not q || nat_le ab b.column) x ∙ ap (λ n. not a.fresh || nat_le ab n) y

-- a `-` at the text's end where a value of a block may stand
pub dash_completes : (text : List ℕ) (fs : List Form) (outer : List Level) (done : Forest) (key : Option (List ℕ)) (i : ℕ) → i ≤ length text → IsBlock (top fs) → takes_scalar (top fs) (ahead text false i) ≡ true → (ahead text false i).token ≡ Dash → drop (ahead text false i).at text ≡ 45 ∷ [] → Agrees fs outer → Nests fs
    → (tree : Forest) × Awaits (text ++ (97 ∷ [])) fs outer done key i (Tree tree)
dash_completes text fs outer done key i low block takes h e agrees nests =
    let both = dash_longer text i low h e in
    let set = block_setting (top fs) block in
    let none = block_closers fs nests block in
    let same : (text ++ (97 ∷ [])) ++ closers fs ≡ text ++ (97 ∷ []) = ap (λ z. (text ++ (97 ∷ [])) ++ z) none ∙ append-nil (text ++ (97 ∷ [])) in
    let size : (ahead text false i).at + 1 ≡ length text = (let z = ap (λ (t : List ℕ). length t) e in omega (arith, z, length-drop (ahead text false i).at text)) in
    let end : (ahead text false i).at + 2 ≡ length (text ++ (97 ∷ [])) = omega (arith, size, length-append text (97 ∷ [])) in
    let stands : scalar_ahead (text ++ (97 ∷ [])) (setting_of (top fs)) (ahead (text ++ (97 ∷ [])) false i) ≡ Stands (45 ∷ 97 ∷ []) (length (text ++ (97 ∷ []))) =
    ap (λ q. cond q (scalar_at (setting_of (top fs)) (text ++ (97 ∷ [])) (ahead (text ++ (97 ∷ [])) false i).at) (Fails (ahead (text ++ (97 ∷ [])) false i).at)) both.3
    ∙ ap (scalar_at (setting_of (top fs)) (text ++ (97 ∷ []))) both.0 ∙ dash_scalar (setting_of (top fs)) text (ahead text false i).at set.0 (omega (arith, size)) e ∙ ap (Stands (45 ∷ 97 ∷ [])) end in
    let may : takes_scalar (top fs) (ahead (text ++ (97 ∷ [])) false i) ≡ true = takes_same (top fs) (ahead text false i) (ahead (text ++ (97 ∷ [])) false i) both.1 both.2 ∙ takes in
    let r = scalar_completes (text ++ (97 ∷ [])) fs outer done key i (45 ∷ 97 ∷ []) kind.Text agrees nests
    (subst (λ z. (b : IsBlock (top fs)) → takes_scalar (top fs) (ahead z (in_flow (top fs)) i) ≡ true) (sym same) (subst (λ q. (b : IsBlock (top fs)) → takes_scalar (top fs) (ahead (text ++ (97 ∷ [])) q i) ≡ true) (sym set.1) (λ b. may)))
    (subst (λ z. scalar_ahead z (setting_of (top fs)) (ahead z (in_flow (top fs)) i) ≡ Stands (45 ∷ 97 ∷ []) (length (text ++ (97 ∷ [])))) (sym same)
    (subst (λ q. scalar_ahead (text ++ (97 ∷ [])) (setting_of (top fs)) (ahead (text ++ (97 ∷ [])) q i) ≡ Stands (45 ∷ 97 ∷ []) (length (text ++ (97 ∷ [])))) (sym set.1) stands))
    (letter_kind (is_typed (setting_of (top fs)) ((text ++ (97 ∷ [])) ++ closers fs) (ahead ((text ++ (97 ∷ [])) ++ closers fs) (in_flow (top fs)) i).at) (45 ∷ 97 ∷ []) refl)
    (λ c. absurd (uncut (follows_get_att ((text ++ (97 ∷ [])) ++ closers fs) (top fs) i) c)) in
    subst (λ z. (tree : Forest) × Awaits z fs outer done key i (Tree tree)) same r where
      uncut : (q : Bool) → is_cut q kind.Text (45 ∷ 97 ∷ []) ≡ true → ⊥
      uncut true c = true≢false (sym c)
      uncut false c = true≢false (sym c)
