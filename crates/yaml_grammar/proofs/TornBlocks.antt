-- A block scalar that fails at the text's end below a wide blank line, with one or two dots at the first column: with the dots that lack, the document ends behind it. By the cases of what stands there.
use Rattle.std.proofs.Common.{◌≡◌, ℕ, zero, suc, ◌+◌, ◌-◌, ◌<◌, ◌≤◌, ◌⊎◌, inl, inr, Bool, true, false, ◌||◌, ◌&&◌, not, cond, nat_eq, nat_lt, arith, List, [], ◌∷◌, ◌++◌, Option, take, drop, length, refl, sym, ap, ◌∙◌, subst, true≢false, append_assoc, append-nil, length-append, length-drop}
use Rattle.std.proofs.lemmas.Bool.Decides.{nat_tests}
use Rattle.std.proofs.lemmas.List.{take-append-drop}
use Rattle.doc_values.specs.declared.kind.Kind.TheVariants as kind
use Rattle.doc_values.specs.Tree.{Forest, snoc}
use Rattle.doc_values.specs.Unfinished.{Level}
use Rattle.yaml_scalars.specs.declared.scalar.Setting.{Setting}
use Rattle.yaml_scalars.specs.Lines.{Line, Stands, Fails, begins_break, begins_with, each, ends_with, lines, newlines}
use Rattle.yaml_scalars.specs.Block.{block_on}
use Rattle.yaml_scalars.specs.Scalar.{HasKind, is_first_column, is_typed, begins_quoted, begins_block, plain_scalar, quoted_scalar, block_scalar, scalar_at}
use Rattle.yaml_scalars.specs.code.Walk.{line_at, has_break, behind}
use Rattle.yaml_scalars.proofs.Places.{lines_are}
use Rattle.yaml_laws.specs.code.Refusals.{is_ascii}
use Rattle.yaml_laws.proofs.Agree.{drop_before}
use Rattle.yaml_laws.proofs.BlockLonger.{IsLastLine, EndsTorn, block_torn}
use Rattle.yaml_laws.proofs.Longer.{glue, rest_of, no_feed, Ends, lines_end, lines_more, behind_none}
use Rattle.yaml_laws.proofs.ScalarFollowed.{quoted_longer, block_longer}
use Rattle.yaml_laws.proofs.ScalarLaw.{column_longer}
use Rattle.yaml_grammar.specs.declared.ahead.Ahead.{Ahead}
use Rattle.yaml_grammar.specs.declared.ahead.Token.{Token}
use Rattle.yaml_grammar.specs.declared.ahead.Token.TheVariants.{Dots, Stray}
use Rattle.yaml_grammar.specs.declared.form.Form.{Form}
use Rattle.yaml_grammar.specs.declared.form.Form.TheVariants.{Root, Flow, FlowTagged, Items, Entries, Tagged}
use Rattle.yaml_grammar.specs.Ahead.{token_at, line_ahead, rest_ahead, ahead}
use Rattle.yaml_grammar.specs.Blocks.{takes_scalar}
use Rattle.yaml_grammar.specs.Nodes.{IsValue, follows_get_att, is_cut, scalar_ahead, setting_of, starts_scalar}
use Rattle.yaml_grammar.specs.Signs.{Tree, To}
use Rattle.yaml_grammar.specs.Yaml.{IsEnd}
use Rattle.yaml_grammar.specs.code.AheadSeen.{ahead_seen, first_return}
use Rattle.yaml_grammar.specs.code.Closers.{in_flow, MendsValue}
use Rattle.yaml_grammar.specs.code.Rest.{top, Awaits}
use Rattle.yaml_grammar.specs.code.Steps.{Agrees, IsBlock, Nests}
use Rattle.yaml_grammar.specs.code.StopPlaces.{is_stray, is_hidden, token_width, width}
use Rattle.yaml_grammar.proofs.AheadOrder.{seen_least}
use Rattle.yaml_grammar.proofs.AheadStays.{ahead_stays}
use Rattle.yaml_grammar.proofs.Completions.{end_ahead}
use Rattle.yaml_grammar.proofs.Continuations.{block_ends, node_of, value_of}
use Rattle.yaml_grammar.proofs.DeadPlaces.{parted}
use Rattle.yaml_grammar.proofs.LineTails.{Tails, tails_of}
use Rattle.yaml_grammar.proofs.Quiet.{word_inside}
use Rattle.yaml_grammar.proofs.ScalarOrder.{Fresh, behind_fresh}
use Rattle.yaml_grammar.proofs.ShownTokens.{ahead_wide}
use Rattle.yaml_grammar.proofs.Values.{lines_uncut}

-- ---- the last line

first_of : (l m : Line) (ls ms : List Line) → l ∷ ls ≡ m ∷ ms → (l ≡ m) × (ls ≡ ms)
first_of l m ls ms h = (cc, cc)

-- the last line's bytes are what the text has from its place on, and it begins at a first column if it is not the first
pub last_bytes : (text : List ℕ) (ls : List Line) (p : ℕ) (f : List ℕ) → Tails text ls → IsLastLine p f ls → drop p text ≡ f
last_bytes text [] p f t h = absurd h
last_bytes text (l ∷ []) p f t (e, g) =
    let xs = drop l.at text in
    let q = first_of (record { at = l.at; bytes = line_at xs; broken = has_break xs }) l (behind l.at xs) [] (sym (lines_are l.at xs) ∙ t.0) in
    let whole = (behind_none l.at (drop l.at text) q.1).1 in
    ap (λ k. drop k text) (sym e) ∙ sym whole ∙ ap (λ (x : Line). x.bytes) q.0 ∙ g
last_bytes text (l ∷ m ∷ ls) p f t h = last_bytes text (m ∷ ls) p f t.1 h

pub last_fresh : (text : List ℕ) (ls : List Line) (p : ℕ) (f : List ℕ) → Fresh text ls → IsLastLine p f ls → is_first_column text p ≡ true
last_fresh text [] p f r h = absurd h
last_fresh text (l ∷ []) p f r (e, g) = ap (is_first_column text) (sym e) ∙ r.0
last_fresh text (l ∷ m ∷ ls) p f r h = last_fresh text (m ∷ ls) p f r.1 h

pub last_with : (c : ℕ) (xs : List ℕ) (b : ℕ) → ends_with c (xs ++ (b ∷ [])) ≡ nat_eq b c
last_with c [] b = refl
last_with c (d ∷ []) b = refl
last_with c (d ∷ e ∷ xs) b = last_with c (e ∷ xs) b

pub last_two : (c : ℕ) (xs : List ℕ) (b : ℕ) → ends_with c (xs ++ (b ∷ b ∷ [])) ≡ nat_eq b c
last_two c [] b = refl
last_two c (d ∷ []) b = refl
last_two c (d ∷ e ∷ xs) b = last_two c (e ∷ xs) b

pub ends_past : (c n : ℕ) (xs : List ℕ) → ends_with c xs ≡ false → ends_with c (drop n xs) ≡ false
ends_past c zero xs h = h
ends_past c (suc n) [] h = refl
ends_past c (suc n) (b ∷ []) h = ends_past c n [] refl
ends_past c (suc n) (b ∷ d ∷ xs) h = ends_past c n (d ∷ xs) h

-- ---- what a mark behind a line is

-- three dots
dots_line : (size p : ℕ) → line_ahead false size (lines p (46 ∷ 46 ∷ 46 ∷ [])) ≡ token_at Dots true 0 p
dots_line size p = refl

dots_ahead : (text : List ℕ) (p : ℕ) → is_first_column text p ≡ true → drop p text ≡ 46 ∷ 46 ∷ 46 ∷ [] → ahead text false p ≡ token_at Dots true 0 p
dots_ahead text p fresh e = ap (λ q. cond q (line_ahead false (length text) (lines p (drop p text))) (rest_ahead false (length text) (lines p (drop p text)))) fresh ∙ ap (λ t. line_ahead false (length text) (lines p t)) e ∙ dots_line (length text) p

dots_end : (text : List ℕ) (p : ℕ) → is_first_column text p ≡ true → drop p text ≡ 46 ∷ 46 ∷ 46 ∷ [] → p ≤ length text → IsEnd text p
dots_end text p fresh e low =
    let h = dots_ahead text p fresh e in
    let size : p + 3 ≡ length text = (let n = ap (λ (t : List ℕ). length t) e in omega (arith, n, low, length-drop p text)) in
    inr (ap (λ (a : Ahead). a.token) h, ap (λ (a : Ahead). (ahead text false a.behind).token) h ∙ ap (λ k. (ahead text false k).token) size ∙ sym (ap (λ t. (ahead t false (length text)).token) (append-nil text)) ∙ end_ahead text)

-- ---- the value

pub stray_not : (t : Token) → starts_scalar t ≡ true → is_stray t ≡ false
stray_not t h = by_test (is_stray t) refl where
  none : (t : Token) → is_stray t ≡ true → starts_scalar t ≡ false
  none t e = by_token t e where
    by_token : (t : Token) → is_stray t ≡ true → starts_scalar t ≡ false
    by_token Stray e = refl
    by_token _ e = absurd (true≢false (sym e))

  by_test : (q : Bool) → is_stray t ≡ q → q ≡ false
  by_test true e = absurd (true≢false (sym h ∙ none t e))
  by_test false e = refl

-- `|` and `>` show by themselves what they are
pub narrow : (xs : List ℕ) → (begins_with 124 xs || begins_with 62 xs) ≡ true → token_width xs ≡ 0
narrow [] h = refl
narrow (b ∷ xs) h = by_byte (nat_eq b 124) refl h where
  by_byte : (q : Bool) → nat_eq b 124 ≡ q → (q || nat_eq b 62) ≡ true → token_width (b ∷ xs) ≡ 0
  by_byte true e g = ap (λ k. token_width (k ∷ xs)) (let i : b ≡ 124 = grind (arith, nat_tests, e) in i)
  by_byte false e g = ap (λ k. token_width (k ∷ xs)) (let i : b ≡ 62 = grind (arith, nat_tests, g) in i)

pub both_of : (p q : Bool) → (p && q) ≡ true → (p ≡ true) × (q ≡ true)
both_of true q h = (refl, h)
both_of false q h = absurd (true≢false (sym h))

module _ (fs : List Form) (outer : List Level) (done : Forest) (key : Option (List ℕ)) (i : ℕ) (agrees : Agrees fs outer) (nests : Nests fs) (block : IsBlock (top fs)) where
  abbrev s : Setting
  s = setting_of (top fs)

  flowless : (f : Form) → IsBlock f → in_flow f ≡ false
  flowless f b = by_form f b where
    by_form : (f : Form) → IsBlock f → in_flow f ≡ false
    by_form Root b = refl
    by_form (Flow map) b = absurd b
    by_form (FlowTagged at) b = absurd b
    by_form (Items m) b = refl
    by_form (Entries m) b = refl
    by_form (Tagged at above shares) b = refl

  -- in a text in which the scalar stands before three dots
  value_before : (new : List ℕ) (t : List ℕ) (p : ℕ) → takes_scalar (top fs) (ahead new false i) ≡ true → scalar_ahead new (setting_of (top fs)) (ahead new false i) ≡ Stands t p → is_typed (setting_of (top fs)) new (ahead new false i).at ≡ false → IsEnd new p
      → (is_cut (follows_get_att new (top fs) i) kind.Text t ≡ true → length outer < 128) → (tree : Forest) × Awaits new fs outer done key i (Tree tree)
  value_before new t p may stands typed end room =
      let v = value_of (is_cut (follows_get_att new (top fs) i) kind.Text t) (length outer) kind.Text t key (ahead new false i).at p room in
      let has : HasKind (is_typed (setting_of (top fs)) new (ahead new false i).at) t kind.Text = subst (λ q. HasKind q t kind.Text) (sym typed) refl in
      let flow = flowless (top fs) block in
      let n =
      node_of new (top fs) (length outer) key v.0 v.1 i (To p) (λ b. subst (λ q. takes_scalar (top fs) (ahead new q i) ≡ true) (sym flow) may)
      (inl (
        t,
        kind.Text,
        p,
        subst (λ q. scalar_ahead new (setting_of (top fs)) (ahead new q i) ≡ Stands t p) (sym flow) stands,
        subst (λ q. HasKind (is_typed (setting_of (top fs)) new (ahead new q i).at) t kind.Text) (sym flow) has,
        subst (λ q. IsValue (is_cut (follows_get_att new (top fs) i) kind.Text t) (length outer) kind.Text t key (ahead new q i).at p v.0 v.1 (To p)) (sym flow) v.2,
      )) in
      let c = block_ends fs outer (snoc done v.0 v.1) new p end block agrees nests in
      (c.0, (v.0, v.1, To p, n, c.1))

  module _ (text : List ℕ) (low : i ≤ length text) (may : takes_scalar (top fs) (ahead text false i) ≡ true) (starts : starts_scalar (ahead text false i).token ≡ true) (within : (ahead text false i).at < length text)
      (plain : begins_quoted (drop (ahead text false i).at text) ≡ false) (folds : begins_block (setting_of (top fs)) (drop (ahead text false i).at text) ≡ true) (breaks : has_break (drop (ahead text false i).at text) ≡ true) (return : ends_with 13 text ≡ false)
      (fails : scalar_at (setting_of (top fs)) text (ahead text false i).at ≡ Fails (length text)) where
    abbrev at : ℕ
    at = (ahead text false i).at

    -- what is ahead is shown by its first byte
    near : ahead_seen text i ≤ (ahead text false i).at
    near =
        let w = ahead_wide text false i (word_inside (ahead text false i).token starts) in
        let hidden : is_hidden (ahead text false i) ≡ false = ap (λ q. q && ((ahead text false i).fresh || nat_lt 0 (ahead text false i).column)) (stray_not (ahead text false i).token starts) in
        let n : token_width (drop (ahead text false i).at text) ≡ 0 = narrow (drop (ahead text false i).at text) (both_of (not ((setting_of (top fs)).flow || (setting_of (top fs)).one_line)) (begins_with 124 (drop (ahead text false i).at text) || begins_with 62 (drop (ahead text false i).at text)) folds).1 in
        let z : width (ahead text false i) (drop (ahead text false i).at text) ≡ 0 = ap (λ q. cond q (first_return (drop (ahead text false i).at text)) (token_width (drop (ahead text false i).at text))) hidden ∙ n in
        omega (arith, w, z)

    -- so it is ahead with more bytes behind a dot that ends the text
    same : ends_with 46 text ≡ true → (v : List ℕ) → ahead (text ++ v) false i ≡ ahead text false i
    same dot v = by_last (parted text (length text - 1) (omega (arith, within))) where
      by_last : (before behind : List ℕ) × (b : ℕ) × (text ≡ before ++ (b ∷ behind)) × (length before ≡ length text - 1) → ahead (text ++ v) false i ≡ ahead text false i
      by_last (before, behind, b, e, size) = by_rest behind e where
        by_rest : (behind : List ℕ) → text ≡ before ++ (b ∷ behind) → ahead (text ++ v) false i ≡ ahead text false i
        by_rest (x ∷ xs) e = absurd (let n = ap (λ (t : List ℕ). length t) e in omega (arith, n, size, length-append before (b ∷ x ∷ xs)))
        by_rest [] e =
            let is : b ≡ 46 = (let z : nat_eq b 46 ≡ true = sym (last_with 46 before b) ∙ sym (ap (ends_with 46) e) ∙ dot in grind (arith, nat_tests, z)) in
            let feed : begins_break b [] ≡ begins_break b v = ap (λ k. begins_break k []) is ∙ sym (ap (λ k. begins_break k v) is) in
            let longer : text ++ v ≡ before ++ (b ∷ v) = ap (λ t. t ++ v) e ∙ append_assoc before (b ∷ []) v in
            let n = near in
            let j : ahead_seen (before ++ (b ∷ [])) i ≤ length before = subst (λ t. ahead_seen t i ≤ length before) e (omega (arith, n, within, size)) in
            let k = seen_least text i low in
            ap (λ t. ahead t false i) longer ∙ ahead_stays before [] v b feed false i (omega (arith, k, n, within, size)) j ∙ sym (ap (λ t. ahead t false i) e)

    -- the scalar's lines
    are : lines (ahead text false i).at (drop (ahead text false i).at text) ≡ record { at = (ahead text false i).at; bytes = line_at (drop (ahead text false i).at text); broken = has_break (drop (ahead text false i).at text) } ∷ behind (ahead text false i).at (drop (ahead text false i).at text)
    are = lines_are (ahead text false i).at (drop (ahead text false i).at text)

    size : (ahead text false i).at + length (drop (ahead text false i).at text) ≡ length text
    size = omega (arith, within, length-drop (ahead text false i).at text)

    fails_on : block_on (setting_of (top fs)).parent (length text) (lines (ahead text false i).at (drop (ahead text false i).at text)) ≡ Fails (length text)
    fails_on =
        sym (ap (λ q. cond q (quoted_scalar s text at) (cond (begins_block s (drop at text)) (block_scalar s text at) (plain_scalar s text at))) plain ∙ ap (λ q. cond q (block_scalar s text at) (plain_scalar s text at)) folds) ∙ fails

    torn : EndsTorn (block_on (setting_of (top fs)).parent) (length text) (lines (ahead text false i).at (drop (ahead text false i).at text))
    torn = by_lines (behind (ahead text false i).at (drop (ahead text false i).at text)) refl where
      ends : Ends (length text) false (lines (ahead text false i).at (drop (ahead text false i).at text))
      ends = subst (λ n. Ends n false (lines (ahead text false i).at (drop (ahead text false i).at text))) size (subst (λ r. Ends ((ahead text false i).at + length (drop (ahead text false i).at text)) r (lines (ahead text false i).at (drop (ahead text false i).at text))) (ends_past 13 (ahead text false i).at text return) (lines_end (ahead text false i).at (drop (ahead text false i).at text)))

      by_lines : (ms : List Line) → behind (ahead text false i).at (drop (ahead text false i).at text) ≡ ms → EndsTorn (block_on (setting_of (top fs)).parent) (length text) (lines (ahead text false i).at (drop (ahead text false i).at text))
      by_lines [] e = absurd (true≢false (sym breaks ∙ (behind_none (ahead text false i).at (drop (ahead text false i).at text) e).0))
      by_lines (m ∷ ms) e =
          let l : Line = record { at = (ahead text false i).at; bytes = line_at (drop (ahead text false i).at text); broken = has_break (drop (ahead text false i).at text) } in
          let is : lines (ahead text false i).at (drop (ahead text false i).at text) ≡ l ∷ m ∷ ms = are ∙ ap (λ ks. l ∷ ks) e in
          subst (EndsTorn (block_on (setting_of (top fs)).parent) (length text)) (sym is)
          (block_torn (setting_of (top fs)).parent (length text) (length text) l m ms (subst (Ends (length text) false) is ends) (sym (ap (block_on (setting_of (top fs)).parent (length text)) is) ∙ fails_on))

    pub value_torn : ends_with 46 text ≡ true → MendsValue text fs outer done key i
    value_torn dot = by_torn torn where
      fresh_lines : Fresh text (behind (ahead text false i).at (drop (ahead text false i).at text))
      fresh_lines = behind_fresh text (drop (ahead text false i).at text) (ahead text false i).at refl

      behind_last : (p : ℕ) (f : List ℕ) → IsLastLine p f (lines (ahead text false i).at (drop (ahead text false i).at text)) → is_first_column text p ≡ true
      behind_last p f h = by_lines (behind (ahead text false i).at (drop (ahead text false i).at text)) refl where
        by_lines : (ms : List Line) → behind (ahead text false i).at (drop (ahead text false i).at text) ≡ ms → is_first_column text p ≡ true
        by_lines [] e = absurd (true≢false (sym breaks ∙ (behind_none (ahead text false i).at (drop (ahead text false i).at text) e).0))
        by_lines (m ∷ ms) e =
            let l : Line = record { at = (ahead text false i).at; bytes = line_at (drop (ahead text false i).at text); broken = has_break (drop (ahead text false i).at text) } in
            last_fresh text (m ∷ ms) p f (subst (Fresh text) e fresh_lines) (subst (IsLastLine p f) (are ∙ ap (λ ks. l ∷ ks) e) h)

      mended : (p : ℕ) (f v : List ℕ) → drop p text ≡ f → is_first_column text p ≡ true → no_feed v ≡ true → each is_ascii v ≡ true → f ++ v ≡ 46 ∷ 46 ∷ 46 ∷ [] → p ≤ length text
          → ((other : ℕ) → (k : ℕ) × (block_on (setting_of (top fs)).parent other (glue (lines (ahead text false i).at (drop (ahead text false i).at text)) (rest_of (length text) v ∷ [])) ≡ Stands (newlines k) p)) → MendsValue text fs outer done key i
      mended p f v bytes fresh feed small dots below h =
          let new = text ++ v in
          let t = newlines (h (length (text ++ v))).0 in
          let long = length-append text v in
          let longer : lines (ahead text false i).at (drop (ahead text false i).at (text ++ v)) ≡ glue (lines (ahead text false i).at (drop (ahead text false i).at text)) (rest_of (length text) v ∷ []) =
          ap (lines at) (drop_before at text v (omega (arith, within))) ∙ lines_more at (drop at text) v feed ∙ ap (λ n. glue (lines at (drop at text)) (rest_of n v ∷ [])) size in
          let quoted : begins_quoted (drop (ahead text false i).at (text ++ v)) ≡ false = quoted_longer text v at within ∙ plain in
          let folded : begins_block (setting_of (top fs)) (drop (ahead text false i).at (text ++ v)) ≡ true = block_longer s text v at within ∙ folds in
          let scalar : scalar_at (setting_of (top fs)) (text ++ v) (ahead text false i).at ≡ Stands t p =
          ap (λ q. cond q (quoted_scalar s new at) (cond (begins_block s (drop at new)) (block_scalar s new at) (plain_scalar s new at))) quoted ∙ ap (λ q. cond q (block_scalar s new at) (plain_scalar s new at)) folded
          ∙ ap (block_on (setting_of (top fs)).parent (length (text ++ v))) longer ∙ (h (length (text ++ v))).1 in
          let stands : scalar_ahead (text ++ v) (setting_of (top fs)) (ahead (text ++ v) false i) ≡ Stands t p =
          ap (λ a. scalar_ahead (text ++ v) (setting_of (top fs)) a) (same dot v) ∙ ap (λ q. cond q (scalar_at s (text ++ v) at) (Fails at)) starts ∙ scalar in
          let typed : is_typed (setting_of (top fs)) (text ++ v) (ahead (text ++ v) false i).at ≡ false =
          ap (λ (a : Ahead). is_typed s (text ++ v) a.at) (same dot v) ∙ ap (λ q. not (s.one_line || (begins_quoted (drop at (text ++ v)) || q))) folded ∙ either s.one_line (begins_quoted (drop at (text ++ v))) in
          let end = dots_end (text ++ v) p (column_longer text v p below ∙ fresh) (drop_before p text v below ∙ ap (λ x. x ++ v) bytes ∙ dots) (omega (arith, below, long)) in
          let r = value_before (text ++ v) t p (ap (takes_scalar (top fs)) (same dot v) ∙ may) stands typed end (λ e. absurd (true≢false (sym e ∙ lines_uncut (follows_get_att (text ++ v) (top fs) i) (h (length (text ++ v))).0))) in
          (v, small, r.0, r.1) where
            either : (p q : Bool) → not (p || (q || true)) ≡ false
            either true q = refl
            either false true = refl
            either false false = refl

      by_torn : EndsTorn (block_on (setting_of (top fs)).parent) (length text) (lines (ahead text false i).at (drop (ahead text false i).at text)) → MendsValue text fs outer done key i
      by_torn (p, f, v, last, (d, mark, parts), h) = by_parts parts where
        bytes : drop p text ≡ f
        bytes = last_bytes text (lines (ahead text false i).at (drop (ahead text false i).at text)) p f (tails_of text (ahead text false i).at) last

        fresh : is_first_column text p ≡ true
        fresh = behind_last p f last

        whole : text ≡ take p text ++ f
        whole = sym (take-append-drop p text) ∙ ap (λ x. take p text ++ x) bytes

        by_parts : ((f ≡ d ∷ []) × (v ≡ d ∷ d ∷ [])) ⊎ ((f ≡ d ∷ d ∷ []) × (v ≡ d ∷ [])) → MendsValue text fs outer done key i
        by_parts (inl (e, g)) =
            let z : nat_eq d 46 ≡ true = sym (last_with 46 (take p text) d) ∙ sym (ap (ends_with 46) (whole ∙ ap (λ x. take p text ++ x) e)) ∙ dot in
            let is : d ≡ 46 = grind (arith, nat_tests, z) in
            let below : p ≤ length text = (let n = ap (λ (t : List ℕ). length t) (bytes ∙ e) in omega (arith, n, length-drop p text)) in
            let two : v ≡ 46 ∷ 46 ∷ [] = g ∙ ap (λ k. k ∷ k ∷ []) is in
            mended p f v bytes fresh (ap no_feed two) (ap (each is_ascii) two) (ap (λ x. x ++ v) (e ∙ ap (λ k. k ∷ []) is) ∙ ap (λ x. 46 ∷ x) two) below h
        by_parts (inr (e, g)) =
            let z : nat_eq d 46 ≡ true = sym (last_two 46 (take p text) d) ∙ sym (ap (ends_with 46) (whole ∙ ap (λ x. take p text ++ x) e)) ∙ dot in
            let is : d ≡ 46 = grind (arith, nat_tests, z) in
            let below : p ≤ length text = (let n = ap (λ (t : List ℕ). length t) (bytes ∙ e) in omega (arith, n, length-drop p text)) in
            let one : v ≡ 46 ∷ [] = g ∙ ap (λ k. k ∷ []) is in
            mended p f v bytes fresh (ap no_feed one) (ap (each is_ascii) one) (ap (λ x. x ++ v) (e ∙ ap (λ k. k ∷ k ∷ []) is) ∙ ap (λ x. 46 ∷ 46 ∷ x) one) below h
