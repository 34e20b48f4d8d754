-- A block scalar that fails at the text's end below a wide blank line, with one or two dashes at the first column: no tree follows in a longer text, since a line `---` ends the scalar there. By the cases of what stands there.
use Rattle.std.proofs.Common.{◌≡◌, ℕ, suc, ◌+◌, ◌-◌, ◌<◌, ◌≤◌, ◌⊎◌, inl, inr, Bool, true, false, ◌||◌, ◌&&◌, not, cond, nat_eq, nat_lt, arith, List, [], ◌∷◌, ◌++◌, take, drop, length, refl, sym, ap, ◌∙◌, subst, true≢false, length-drop}
use Rattle.std.proofs.lemmas.Bool.Decides.{nat_tests}
use Rattle.std.proofs.lemmas.List.{drop-drop, take-append-drop}
use Rattle.std.specs.Prelude.{Result, Ok, Err, None, Some, option_map}
use Rattle.std.specs.Str.{IsCharBoundary, IsUtf8}
use Rattle.doc_values.specs.declared.kind.Kind.{Kind}
use Rattle.doc_values.specs.declared.kind.Kind.TheVariants as kind
use Rattle.doc_values.specs.Tree.{Label, Forest, snoc}
use Rattle.doc_values.specs.Unfinished.{Unfinished}
use Rattle.yaml_scalars.specs.declared.scalar.Setting.{Setting}
use Rattle.yaml_scalars.specs.Block.{block_on}
use Rattle.yaml_scalars.specs.Lines.{Line, Outcome, Stands, Fails, Documents, begins_with, ends_with, is_cut_mark, is_mark, lines}
use Rattle.yaml_scalars.specs.Plain.{plain_on, wrong_begin}
use Rattle.yaml_scalars.specs.Scalar.{HasKind, is_first_column, is_typed, begins_quoted, begins_block, plain_scalar, quoted_scalar, block_scalar, scalar_at}
use Rattle.yaml_scalars.specs.code.Walk.{line_at, has_break, behind}
use Rattle.yaml_scalars.proofs.Places.{lines_are}
use Rattle.yaml_laws.proofs.Agree.{drop_before}
use Rattle.yaml_laws.proofs.BlockLonger.{IsLastLine}
use Rattle.yaml_laws.proofs.BlockTorn.{BreaksOff, block_before}
use Rattle.yaml_laws.proofs.Longer.{glue, Ends, lines_apart, lines_end, behind_none}
use Rattle.yaml_laws.proofs.ScalarFollowed.{quoted_longer, block_longer}
use Rattle.yaml_laws.proofs.ScalarLaw.{column_longer}
use Rattle.yaml_grammar.specs.declared.ahead.Ahead.{Ahead}
use Rattle.yaml_grammar.specs.declared.ahead.Token.TheVariants.{Dashes, Dots}
use Rattle.yaml_grammar.specs.declared.form.Form.{Form}
use Rattle.yaml_grammar.specs.declared.form.Form.TheVariants.{Root, Flow, FlowTagged, Items, Entries, Tagged}
use Rattle.yaml_grammar.specs.declared.stage.Stage.TheVariants as stage
use Rattle.yaml_grammar.specs.declared.stage.Position.{Position}
use Rattle.yaml_grammar.specs.declared.stop.Stop.{Stop}
use Rattle.yaml_grammar.specs.declared.stop.Stop.TheVariants as stop
use Rattle.yaml_grammar.specs.Ahead.{ahead, content_ahead, is_passed, line_ahead, mark_of, rest_ahead, token_at}
use Rattle.yaml_grammar.specs.Blocks.{takes_scalar}
use Rattle.yaml_grammar.specs.Nodes.{IsValue, as_key, follows_get_att, is_cut, scalar_ahead, setting_of, starts_scalar}
use Rattle.yaml_grammar.specs.Signs as sign
use Rattle.yaml_grammar.specs.Signs.{Reach, Reading, Sign, Tree, Refused, Then}
use Rattle.yaml_grammar.specs.Yaml.{end_sign, sign_behind}
use Rattle.yaml_grammar.specs.code.AheadSeen.{ahead_seen, first_return}
use Rattle.yaml_grammar.specs.code.Refused.{of_sign}
use Rattle.yaml_grammar.specs.code.Rest.{top, Awaits, Ends as Follows}
use Rattle.yaml_grammar.specs.code.StopPlaces.{is_hidden, token_width, width, ends_in_dash, torn_place, torn_stop}
use Rattle.yaml_grammar.specs.code.Steps.{Awaited, Fits, Holds, IsBlock, IsSeen, NoKey, Open}
use Rattle.yaml_grammar.specs.code.Twins.{IsTwin, FailedAt, LengthensAt, NoValue, Stops, TornAt}
use Rattle.yaml_grammar.proofs.Back.{last_byte, twin_end}
use Rattle.yaml_grammar.proofs.BlockGains.{Spot, node_barred, signed_gives, spot_of, start_token}
use Rattle.yaml_grammar.proofs.BlockRests.{awaits_documents, awaits_no_scalar, awaits_scalar}
use Rattle.yaml_grammar.proofs.EndPlaces.{longer_of}
use Rattle.yaml_grammar.proofs.LineTails.{tails_of}
use Rattle.yaml_grammar.proofs.Quiet.{word_inside}
use Rattle.yaml_grammar.proofs.ScalarOrder.{Fresh, behind_fresh}
use Rattle.yaml_grammar.proofs.SameTexts.{seen_alike}
use Rattle.yaml_grammar.proofs.ShownTokens.{ahead_wide}
use Rattle.yaml_grammar.proofs.Stopped.{last_return}
use Rattle.yaml_grammar.proofs.StoppedScalars.{failed_end}
use Rattle.yaml_grammar.proofs.TornBlocks.{both_of, ends_past, last_bytes, last_fresh, last_two, last_with, narrow, stray_not}
use Rattle.yaml_grammar.proofs.Twins.{twin_ahead}

-- ---- the last line of the scalar

module _ (s : Setting) (text : List ℕ) (at : ℕ) (inside : at < length text) (bare : begins_quoted (drop at text) ≡ false) (folds : begins_block s (drop at text) ≡ true) (breaks : has_break (drop at text) ≡ true) (return : ends_with 13 text ≡ false) (fails : scalar_at s text at ≡ Fails (length text)) where
  size : at + length (drop at text) ≡ length text
  size = omega (arith, inside, length-drop at text)

  on_lines : (other : List ℕ) → begins_quoted (drop at other) ≡ false → begins_block s (drop at other) ≡ true → scalar_at s other at ≡ block_on s.parent (length other) (lines at (drop at other))
  on_lines other q b = ap (λ q. cond q (quoted_scalar s other at) (cond (begins_block s (drop at other)) (block_scalar s other at) (plain_scalar s other at))) q ∙ ap (λ q. cond q (block_scalar s other at) (plain_scalar s other at)) b

  ends : Ends (length text) false (lines at (drop at text))
  ends = subst (λ n. Ends n false (lines at (drop at text))) size (subst (λ r. Ends (at + length (drop at text)) r (lines at (drop at text))) (ends_past 13 at text return) (lines_end at (drop at text)))

  before : BreaksOff (block_on s.parent) (lines at (drop at text))
  before = by_lines (behind at (drop at text)) refl where
    by_lines : (ms : List Line) → behind at (drop at text) ≡ ms → BreaksOff (block_on s.parent) (lines at (drop at text))
    by_lines [] e = absurd (true≢false (sym breaks ∙ (behind_none at (drop at text) e).0))
    by_lines (m ∷ ms) e =
        let l : Line = record { at = at; bytes = line_at (drop at text); broken = has_break (drop at text) } in
        let is : lines at (drop at text) ≡ l ∷ m ∷ ms = lines_are at (drop at text) ∙ ap (λ ks. l ∷ ks) e in
        subst (BreaksOff (block_on s.parent)) (sym is) (block_before s.parent (length text) (length text) l m ms (subst (Ends (length text) false) is ends) (sym (ap (block_on s.parent (length text)) is) ∙ sym (on_lines text bare folds) ∙ fails))

  column : (p : ℕ) (f : List ℕ) → IsLastLine p f (lines at (drop at text)) → is_first_column text p ≡ true
  column p f h = by_lines (behind at (drop at text)) refl where
    by_lines : (ms : List Line) → behind at (drop at text) ≡ ms → is_first_column text p ≡ true
    by_lines [] e = absurd (true≢false (sym breaks ∙ (behind_none at (drop at text) e).0))
    by_lines (m ∷ ms) e =
        let l : Line = record { at = at; bytes = line_at (drop at text); broken = has_break (drop at text) } in
        last_fresh text (m ∷ ms) p f (subst (Fresh text) e (behind_fresh text (drop at text) at refl)) (subst (IsLastLine p f) (lines_are at (drop at text) ∙ ap (λ ks. l ∷ ks) e) h)

  -- the text's last byte is that of the line
  byte_of : (p d c : ℕ) (f : List ℕ) → drop p text ≡ f → (f ≡ d ∷ []) ⊎ (f ≡ d ∷ d ∷ []) → begins_with c (drop (length text - 1) text) ≡ nat_eq d c
  byte_of p d c f e (inl g) =
      let n = ap (λ (t : List ℕ). length t) (e ∙ g) in
      let k : length text - 1 ≡ p = omega (arith, n, length-drop p text) in
      ap (λ m. begins_with c (drop m text)) k ∙ ap (begins_with c) (e ∙ g)
  byte_of p d c f e (inr g) =
      let n = ap (λ (t : List ℕ). length t) (e ∙ g) in
      let k : p + 1 ≡ length text - 1 = omega (arith, n, length-drop p text) in
      ap (begins_with c) (sym (drop-drop 1 p text ∙ ap (λ m. drop m text) k)) ∙ ap (λ t. begins_with c (drop 1 t)) (e ∙ g)

  -- where it is no dash it is a dot
  pub dots_last : begins_with 45 (drop (length text - 1) text) ≡ false → ends_with 46 text ≡ true
  dots_last none = by_part before where
    by_part : BreaksOff (block_on s.parent) (lines at (drop at text)) → ends_with 46 text ≡ true
    by_part (p, f, last, (d, mark, parts), marks) = by_parts parts where
      bytes : drop p text ≡ f
      bytes = last_bytes text (lines at (drop at text)) p f (tails_of text at) last

      other : nat_eq d 45 ≡ false
      other = sym (byte_of p d 45 f bytes parts) ∙ none

      dot : nat_eq d 46 ≡ true
      dot = ap (λ q. q || nat_eq d 46) (sym other) ∙ mark

      whole : text ≡ take p text ++ f
      whole = sym (take-append-drop p text) ∙ ap (λ x. take p text ++ x) bytes

      by_parts : (f ≡ d ∷ []) ⊎ (f ≡ d ∷ d ∷ []) → ends_with 46 text ≡ true
      by_parts (inl e) = ap (ends_with 46) (whole ∙ ap (λ x. take p text ++ x) e) ∙ last_with 46 (take p text) d ∙ dot
      by_parts (inr e) = ap (ends_with 46) (whole ∙ ap (λ x. take p text ++ x) e) ∙ last_two 46 (take p text) d ∙ dot

  -- where it is a dash, a scalar in a longer text ends in front of a line `---`
  mark_first : (length : ℕ) (l : Line) (ls : List Line) → is_mark l.bytes ≡ true → begins_with 45 l.bytes ≡ true → (line_ahead false length (l ∷ ls)).token ≡ Dashes
  mark_first length l ls m d = ap (λ q. (cond q (token_at (mark_of l.bytes) true 0 l.at) (cond (is_passed true l.bytes) (line_ahead false length ls) (content_ahead false l.at l.bytes))).token) m ∙ ap (λ q. cond q Dashes Dots) d

  pub dashes_behind : begins_with 45 (drop (length text - 1) text) ≡ true → (more t : List ℕ) (e : ℕ) → scalar_at s (text ++ more) at ≡ Stands t e → (ahead (text ++ more) false e).token ≡ Dashes
  dashes_behind dash more t e st = by_part before where
    longer : lines at (drop at (text ++ more)) ≡ glue (lines at (drop at text)) (record { at = length text; bytes = line_at more; broken = has_break more } ∷ behind (length text) more)
    longer =
        ap (lines at) (drop_before at text more (omega (arith, inside))) ∙ lines_apart at (drop at text) more (ap (λ q. q && begins_with 10 more) (ends_past 13 at text return))
        ∙ ap (λ n. glue (lines at (drop at text)) (lines n more)) size ∙ ap (glue (lines at (drop at text))) (lines_are (length text) more)

    stands : block_on s.parent (length (text ++ more)) (glue (lines at (drop at text)) (record { at = length text; bytes = line_at more; broken = has_break more } ∷ behind (length text) more)) ≡ Stands t e
    stands = sym (ap (block_on s.parent (length (text ++ more))) longer) ∙ sym (on_lines (text ++ more) (quoted_longer text more at inside ∙ bare) (block_longer s text more at inside ∙ folds)) ∙ st

    by_part : BreaksOff (block_on s.parent) (lines at (drop at text)) → (ahead (text ++ more) false e).token ≡ Dashes
    by_part (p, f, last, (d, mark, parts), marks) = by_mark (marks (record { at = length text; bytes = line_at more; broken = has_break more }) (behind (length text) more) (length (text ++ more)) t e stands) where
      bytes : drop p text ≡ f
      bytes = last_bytes text (lines at (drop at text)) p f (tails_of text at) last

      is : d ≡ 45
      is = let z : nat_eq d 45 ≡ true = sym (byte_of p d 45 f bytes parts) ∙ dash in grind (arith, nat_tests, z)

      low : p ≤ length text
      low = by_parts parts where
        by_parts : (f ≡ d ∷ []) ⊎ (f ≡ d ∷ d ∷ []) → p ≤ length text
        by_parts (inl g) = let n = ap (λ (x : List ℕ). length x) (bytes ∙ g) in omega (arith, n, length-drop p text)
        by_parts (inr g) = let n = ap (λ (x : List ℕ). length x) (bytes ∙ g) in omega (arith, n, length-drop p text)

      line_is : (g : List ℕ) → (g ≡ 45 ∷ []) ⊎ (g ≡ 45 ∷ 45 ∷ []) → (line_at (g ++ more) ≡ g ++ line_at more) × (begins_with 45 (g ++ line_at more) ≡ true)
      line_is g (inl h) = (ap (λ x. line_at (x ++ more)) h ∙ sym (ap (λ x. x ++ line_at more) h), ap (λ x. begins_with 45 (x ++ line_at more)) h)
      line_is g (inr h) = (ap (λ x. line_at (x ++ more)) h ∙ sym (ap (λ x. x ++ line_at more) h), ap (λ x. begins_with 45 (x ++ line_at more)) h)

      known : (f ≡ d ∷ []) ⊎ (f ≡ d ∷ d ∷ []) → (f ≡ 45 ∷ []) ⊎ (f ≡ 45 ∷ 45 ∷ [])
      known (inl g) = inl (g ∙ ap (λ k. k ∷ []) is)
      known (inr g) = inr (g ∙ ap (λ k. k ∷ k ∷ []) is)

      by_mark : (e ≡ p) × (is_mark (f ++ line_at more) ≡ true) → (ahead (text ++ more) false e).token ≡ Dashes
      by_mark (there, m) =
          let l = line_is f (known parts) in
          let here : drop p (text ++ more) ≡ f ++ more = drop_before p text more low ∙ ap (λ x. x ++ more) bytes in
          let line : line_at (drop p (text ++ more)) ≡ f ++ line_at more = ap line_at here ∙ l.0 in
          ap (λ n. (ahead (text ++ more) false n).token) there
          ∙ ap (λ q. (cond q (line_ahead false (length (text ++ more)) (lines p (drop p (text ++ more)))) (rest_ahead false (length (text ++ more)) (lines p (drop p (text ++ more))))).token) (column_longer text more p low ∙ column p f last)
          ∙ ap (λ ls. (line_ahead false (length (text ++ more)) ls).token) (lines_are p (drop p (text ++ more)))
          ∙ mark_first (length (text ++ more)) (record { at = p; bytes = line_at (drop p (text ++ more)); broken = has_break (drop p (text ++ more)) }) (behind p (drop p (text ++ more))) (ap is_mark line ∙ m) (ap (begins_with 45) line ∙ l.1)

-- ---- `|` and `>` begin no key

first_of : (xs : List ℕ) → (begins_with 124 xs || begins_with 62 xs) ≡ true → (rest : List ℕ) × ((xs ≡ 124 ∷ rest) ⊎ (xs ≡ 62 ∷ rest))
first_of [] h = absurd (true≢false (sym h))
first_of (b ∷ rest) h = by_byte (nat_eq b 124) refl h where
  by_byte : (q : Bool) → nat_eq b 124 ≡ q → (q || nat_eq b 62) ≡ true → (rest2 : List ℕ) × ((b ∷ rest ≡ 124 ∷ rest2) ⊎ (b ∷ rest ≡ 62 ∷ rest2))
  by_byte true e k = (rest, inl (let i : b ≡ 124 = grind (arith, nat_tests, e) in ap (λ c. c ∷ rest) i))
  by_byte false e k = (rest, inr (let i : b ≡ 62 = grind (arith, nat_tests, k) in ap (λ c. c ∷ rest) i))

fails_not : (n m : ℕ) (q : Bool) (t : List ℕ) (e : ℕ) → cond q (Fails n) (Fails m) ≡ Stands t e → ⊥
fails_not n m true t e h = absurd (cc)
fails_not n m false t e h = absurd (cc)

no_plain : (c : Bool) (at : ℕ) (xs : List ℕ) (t : List ℕ) (e : ℕ) → (begins_with 124 xs || begins_with 62 xs) ≡ true → plain_on (as_key false) c (lines at xs) ≡ Stands t e → ⊥
no_plain c at xs t e h st = by_first (first_of xs h) where
  by_first : (rest : List ℕ) × ((xs ≡ 124 ∷ rest) ⊎ (xs ≡ 62 ∷ rest)) → ⊥
  by_first (rest, inl g) =
      let bs : List ℕ = 124 ∷ line_at rest in
      fails_not (at + 3) (wrong_begin at bs) (c && (is_mark bs || is_cut_mark bs)) t e (sym (ap (plain_on (as_key false) c) (ap (lines at) g ∙ lines_are at (124 ∷ rest))) ∙ st)
  by_first (rest, inr g) =
      let bs : List ℕ = 62 ∷ line_at rest in
      fails_not (at + 3) (wrong_begin at bs) (c && (is_mark bs || is_cut_mark bs)) t e (sym (ap (plain_on (as_key false) c) (ap (lines at) g ∙ lines_are at (62 ∷ rest))) ∙ st)

no_quote : (xs : List ℕ) → (begins_with 124 xs || begins_with 62 xs) ≡ true → begins_quoted xs ≡ false
no_quote [] h = refl
no_quote (x ∷ xs) h = grind (arith, nat_tests, h)

no_key : (other : List ℕ) (a : Ahead) → (begins_with 124 (drop a.at other) || begins_with 62 (drop a.at other)) ≡ true → NoKey other a
no_key other a h = λ t p k. by_starts (starts_scalar a.token) t k.0 k.1 where
  by_starts : (q : Bool) (t : List ℕ) (e : ℕ) → cond q (scalar_at (as_key false) other a.at) (Fails a.at) ≡ Stands t e → ⊥
  by_starts false t e st = fails_not a.at a.at true t e st
  by_starts true t e st =
      no_plain (is_first_column other a.at) a.at (drop a.at other) t e h
      (sym (ap (λ q. cond q (quoted_scalar (as_key false) other a.at) (cond (begins_block (as_key false) (drop a.at other)) (block_scalar (as_key false) other a.at) (plain_scalar (as_key false) other a.at))) (no_quote (drop a.at other) h)) ∙ st)

-- ---- no tree follows

tree_refused : (t : Forest) (s : Sign) → Tree t ≡ Refused s → ⊥
tree_refused t s h = absurd (cc)

module _ (other : List ℕ) (fs : List Form) (u : Unfinished) (f : Form) (i : ℕ) where
  -- behind a node in front of a line `---`
  marked_none : (e : ℕ) → IsBlock (top fs) → Open fs u → (ahead other false e).token ≡ Dashes → (l : Label) (kids g : Forest) → Follows other fs u.outer (snoc u.done l kids) e (Tree g) → ⊥
  marked_none e block open_ dashes l kids g h =
      let w : Unfinished = record { outer = u.outer; done = snoc u.done l kids; key = None } in
      let here : Some (stop.ManyDocuments (ahead other false e).at) ≡ option_map of_sign (end_sign other e) = sym (ap (λ t. option_map of_sign (sign_behind (ahead other false e) (ahead other false (ahead other false e).behind) t)) dashes) in
      tree_refused g (sign.ManyDocuments (ahead other false e).at) ((signed_gives other 0 fs fs w w e (stop.ManyDocuments (ahead other false e).at) block open_ here).1 (Tree g) h)

  value_none : (c : Bool) (t : List ℕ) (k : Kind) (at e : ℕ) → IsBlock (top fs) → Open fs u → (ahead other false e).token ≡ Dashes → (l : Label) (kids g : Forest) (r : Reach)
      → IsValue c (length u.outer) k t u.key at e l kids r → Then r (λ j. Follows other fs u.outer (snoc u.done l kids) j (Tree g)) (λ s. Tree g ≡ Refused s) → ⊥
  value_none false t k at e block open_ dashes l kids g r (el, ek, er) h = marked_none e block open_ dashes l kids g (subst (λ z. Then z (λ j. Follows other fs u.outer (snoc u.done l kids) j (Tree g)) (λ s. Tree g ≡ Refused s)) er h)
  value_none true t k at e block open_ dashes l kids g r (inl (d, el, ek, er)) h = marked_none e block open_ dashes l kids g (subst (λ z. Then z (λ j. Follows other fs u.outer (snoc u.done l kids) j (Tree g)) (λ s. Tree g ≡ Refused s)) er h)
  value_none true t k at e block open_ dashes l kids g r (inr (d, er)) h = tree_refused g (sign.TooDeep at) (subst (λ z. Then z (λ j. Follows other fs u.outer (snoc u.done l kids) j (Tree g)) (λ s. Tree g ≡ Refused s)) er h)

  kind_text : (q : Bool) (t : List ℕ) (k : Kind) → q ≡ false → HasKind q t k → k ≡ kind.Text
  kind_text false t k e h = h
  kind_text true t k e h = absurd (true≢false e)

  -- where a scalar of no other kind stands in front of one, or none
  nothing_at : Spot other fs u f i (ahead other false i) → starts_scalar (ahead other false i).token ≡ true → takes_scalar f (ahead other false i) ≡ true → NoKey other (ahead other false i) → is_typed (setting_of f) other (ahead other false i).at ≡ false
      → ((t : List ℕ) (e : ℕ) → scalar_at (setting_of f) other (ahead other false i).at ≡ Stands t e → (ahead other false e).token ≡ Dashes) → (g : Forest) → Awaits other fs u.outer u.done u.key i (Tree g) → ⊥
  nothing_at sp starts tk nk typed dashes g h = by_outcome (scalar_at (setting_of f) other (ahead other false i).at) refl where
    here : (o : Outcome) → scalar_at (setting_of f) other (ahead other false i).at ≡ o → scalar_ahead other (setting_of f) (ahead other false i) ≡ o
    here o e = ap (λ q. cond q (scalar_at (setting_of f) other (ahead other false i).at) (Fails (ahead other false i).at)) starts ∙ e

    fails_stands : (p : ℕ) (t : List ℕ) (j : ℕ) → Fails p ≡ Stands t j → ⊥
    fails_stands p t j k = absurd (cc)

    fails_documents : (p q : ℕ) → Fails p ≡ Documents q → ⊥
    fails_documents p q k = absurd (cc)

    by_outcome : (o : Outcome) → scalar_at (setting_of f) other (ahead other false i).at ≡ o → ⊥
    by_outcome (Stands t e) st =
        let told = awaits_scalar other fs u.outer f sp.2 sp.3 u.done u.key i (Tree g) t kind.Text e (node_barred other fs u f i sp tk (start_token other i starts)) starts (λ m. nk) (here (Stands t e) st) (λ k hk. kind_text (is_typed (setting_of f) other (ahead other false i).at) t k typed hk) h in
        value_none (is_cut (follows_get_att other f i) kind.Text t) t kind.Text (ahead other false i).at e (subst IsBlock (sym sp.2) sp.3) sp.4 (dashes t e st) told.0 told.1 g told.2 told.3 told.4
    by_outcome (Fails p) st =
        awaits_no_scalar other fs u.outer f sp.2 sp.3 u.done u.key i (Tree g) (node_barred other fs u f i sp tk (start_token other i starts)) starts (λ m. nk)
        ((λ t j k. fails_stands p t j (sym (here (Fails p) st) ∙ k)), (λ q k. fails_documents p q (sym (here (Fails p) st) ∙ k))) h
    by_outcome (Documents p) st = tree_refused g (sign.ManyDocuments p) (awaits_documents other fs u.outer f sp.2 sp.3 u.done u.key i (Tree g) p (node_barred other fs u f i sp tk (start_token other i starts)) starts (λ m. nk) (here (Documents p) st) h)

  -- the same of what is ahead by another name
  pub nothing_for : (a : Ahead) → a ≡ ahead other false i → Spot other fs u f i a → starts_scalar a.token ≡ true → takes_scalar f a ≡ true → NoKey other a → is_typed (setting_of f) other a.at ≡ false
      → ((t : List ℕ) (e : ℕ) → scalar_at (setting_of f) other a.at ≡ Stands t e → (ahead other false e).token ≡ Dashes) → (g : Forest) → Awaits other fs u.outer u.done u.key i (Tree g) → ⊥
  nothing_for a e =
      subst (λ (b : Ahead). Spot other fs u f i b → starts_scalar b.token ≡ true → takes_scalar f b ≡ true → NoKey other b → is_typed (setting_of f) other b.at ≡ false → ((t : List ℕ) (j : ℕ) → scalar_at (setting_of f) other b.at ≡ Stands t j → (ahead other false j).token ≡ Dashes) → (g : Forest) → Awaits other fs u.outer u.done u.key i (Tree g) → ⊥) (sym e)
      nothing_at

-- ---- the place

-- the tests of a dash
pub undashed_end : (text : List ℕ) (a : Ahead) (s : Setting) → begins_block s (drop a.at text) ≡ true → has_break (drop a.at text) ≡ true → ends_in_dash text a ≡ false → begins_with 45 (drop (length text - 1) text) ≡ false
undashed_end text a s b k h =
    by_tests (begins_with 124 (drop a.at text) || begins_with 62 (drop a.at text)) (begins_with 45 (drop (length text - 1) text)) (has_break (drop a.at text)) (both_of (not (s.flow || s.one_line)) (begins_with 124 (drop a.at text) || begins_with 62 (drop a.at text)) b).1 k h where
      by_tests : (p q r : Bool) → p ≡ true → r ≡ true → (p && (q && r)) ≡ false → q ≡ false
      by_tests true q true e g n = and_true q n where
        and_true : (q : Bool) → (q && true) ≡ false → q ≡ false
        and_true true n = absurd (true≢false n)
        and_true false n = refl
      by_tests true q false e g n = absurd (true≢false (sym g))
      by_tests false q r e g n = absurd (true≢false (sym e))

-- whether the place is the last byte's
abbrev pub IsTornAt : List ℕ → Ahead → ℕ → Type 0
IsTornAt text a q = ((torn_place text a q ≡ q) × (q ≡ length text → ends_in_dash text a ≡ false)) ⊎ ((torn_place text a q ≡ length text - 1) × (q ≡ length text) × (ends_in_dash text a ≡ true))

pub torn_at : (text : List ℕ) (a : Ahead) (q : ℕ) → IsTornAt text a q
torn_at text a q = by_tests (nat_eq q (length text)) (ends_in_dash text a) refl refl where
  by_tests : (x y : Bool) → nat_eq q (length text) ≡ x → ends_in_dash text a ≡ y → ((cond (x && y) (length text - 1) q ≡ q) × (q ≡ length text → ends_in_dash text a ≡ false)) ⊎ ((cond (x && y) (length text - 1) q ≡ length text - 1) × (q ≡ length text) × (ends_in_dash text a ≡ true))
  by_tests true true e d = inr (refl, grind (arith, nat_tests, e), d)
  by_tests true false e d = inl (refl, λ k. d)
  by_tests false y e d = inl (refl, λ k. absurd (true≢false (sym (let z : nat_eq q (length text) ≡ true = grind (arith, nat_tests, k) in z) ∙ e)))

dash_free : (xs : List ℕ) → ends_with 45 xs ≡ true → ends_with 13 xs ≡ false
dash_free [] h = refl
dash_free (b ∷ []) h = grind (arith, nat_tests, h)
dash_free (b ∷ c ∷ xs) h = dash_free (c ∷ xs) h

begun : (at : ℕ) (text : List ℕ) → (begins_with 124 (drop at text) || begins_with 62 (drop at text)) ≡ true → at < length text
begun at text h = by_first (first_of (drop at text) h) where
  by_first : (rest : List ℕ) × ((drop at text ≡ 124 ∷ rest) ⊎ (drop at text ≡ 62 ∷ rest)) → at < length text
  by_first (rest, inl e) = let n = ap (λ (t : List ℕ). length t) e in omega (arith, n, length-drop at text)
  by_first (rest, inr e) = let n = ap (λ (t : List ℕ). length t) e in omega (arith, n, length-drop at text)

either : (p q : Bool) → not (p || (q || true)) ≡ false
either true q = refl
either false true = refl
either false false = refl

block_folds : (f : Form) (xs : List ℕ) → IsBlock f → (begins_with 124 xs || begins_with 62 xs) ≡ true → begins_block (setting_of f) xs ≡ true
block_folds Root xs b h = h
block_folds (Flow m) xs b h = absurd b
block_folds (FlowTagged m) xs b h = absurd b
block_folds (Items m) xs b h = h
block_folds (Entries m) xs b h = h
block_folds (Tagged at ab sh) xs b h = h

module _ (text : List ℕ) (utf8 : IsUtf8 text) (fs : List Form) (u : Unfinished) (i : ℕ) (f : Form) (a : Ahead) (w : Awaited text fs u f i a) (starts : starts_scalar a.token ≡ true) (tk : takes_scalar f a ≡ true) where
  module _ (q : ℕ) (end : q ≡ length text) (dash : ends_in_dash text a ≡ true) (failed : FailedAt text (setting_of f) a q) where
    starts_so : (begins_with 124 (drop a.at text) || begins_with 62 (drop a.at text)) ≡ true
    starts_so = (both_of (begins_with 124 (drop a.at text) || begins_with 62 (drop a.at text)) (begins_with 45 (drop (length text - 1) text) && has_break (drop a.at text)) dash).0

    rest_so : (begins_with 45 (drop (length text - 1) text) ≡ true) × (has_break (drop a.at text) ≡ true)
    rest_so = both_of (begins_with 45 (drop (length text - 1) text)) (has_break (drop a.at text)) (both_of (begins_with 124 (drop a.at text) || begins_with 62 (drop a.at text)) (begins_with 45 (drop (length text - 1) text) && has_break (drop a.at text)) dash).1

    inside : a.at < length text
    inside = begun a.at text starts_so

    last : ends_with 13 text ≡ false
    last = let l = inside in dash_free text (sym (last_byte 45 text (length text - 1) (omega (arith, l))) ∙ rest_so.0)

    folds : begins_block (setting_of f) (drop a.at text) ≡ true
    folds = block_folds f (drop a.at text) w.block starts_so

    -- no tree follows in a longer text
    dash_none : (more : List ℕ) → Awaited (text ++ more) fs u f i a → (g : Forest) → Awaits (text ++ more) fs u.outer u.done u.key i (Tree g) → ⊥
    dash_none more v g h =
        let bare = no_quote (drop a.at text) starts_so in
        let folded : begins_block (setting_of f) (drop a.at (text ++ more)) ≡ true = block_longer (setting_of f) text more a.at inside ∙ folds in
        let begins = (both_of (not ((setting_of f).flow || (setting_of f).one_line)) (begins_with 124 (drop a.at (text ++ more)) || begins_with 62 (drop a.at (text ++ more))) folded).1 in
        nothing_for (text ++ more) fs u f i a v.seen.0 (spot_of (text ++ more) fs u f i a v) starts tk (no_key (text ++ more) a begins)
        (ap (λ q. not ((setting_of f).one_line || (begins_quoted (drop a.at (text ++ more)) || q))) folded ∙ either (setting_of f).one_line (begins_quoted (drop a.at (text ++ more))))
        (λ t e st. dashes_behind (setting_of f) text a.at inside bare folds rest_so.1 last (failed_end text (setting_of f) a starts q inside end failed) rest_so.0 more t e st) g h

    near : ahead_seen text i ≤ a.at
    near = subst (λ (b : Ahead). starts_scalar b.token ≡ true → (begins_with 124 (drop b.at text) || begins_with 62 (drop b.at text)) ≡ true → ahead_seen text i ≤ b.at) (sym w.seen.0) seen starts starts_so where
      seen : starts_scalar (ahead text false i).token ≡ true → (begins_with 124 (drop (ahead text false i).at text) || begins_with 62 (drop (ahead text false i).at text)) ≡ true → ahead_seen text i ≤ (ahead text false i).at
      seen s b =
          let far = ahead_wide text false i (word_inside (ahead text false i).token s) in
          let hidden : is_hidden (ahead text false i) ≡ false = ap (λ q. q && ((ahead text false i).fresh || nat_lt 0 (ahead text false i).column)) (stray_not (ahead text false i).token s) in
          let z : width (ahead text false i) (drop (ahead text false i).at text) ≡ 0 = ap (λ q. cond q (first_return (drop (ahead text false i).at text)) (token_width (drop (ahead text false i).at text))) hidden ∙ narrow (drop (ahead text false i).at text) b in
          omega (arith, far, z)

    pub dash_stops : Stops text i (NoValue i a f fs u) (Err (stop.Unread (length text - 1)))
    dash_stops =
        let l = inside in
        let n = near in
        let here : suc (length text - 1) ≡ length text = omega (arith, l) in
        inr (omega (arith, l), (length text - 1, inr (refl, last_return text (length text - 1) here last), omega (arith, l, n), (λ other m v g h. absurd (by_longer other m v g h)))) where
          by_longer : (other : List ℕ) → IsTwin text (length text - 1) other → Awaited other fs u f i a → (g : Forest) → Awaits other fs u.outer u.done u.key i (Tree g) → ⊥
          by_longer other m v g h =
              let l = inside in
              let o = longer_of text other (length text - 1) (omega (arith, l)) m in
              dash_none o.0 (subst (λ t. Awaited t fs u f i a) o.1 v) g (subst (λ t. Awaits t fs u.outer u.done u.key i (Tree g)) o.1 h)

    pub dash_lengthens : LengthensAt text stage.Value fs u i (length text - 1)
    dash_lengthens = λ g. ((λ k. absurd (past k)), (λ l more long cut fits t h. dash_none more (awaits more long cut fits) t h)) where
      past : length text - 1 ≡ length text → ⊥
      past k = let l = inside in omega (arith, k, l)

      same : (more : List ℕ) → IsUtf8 (text ++ more) → ahead (text ++ more) false i ≡ ahead text false i
      same more long =
          let l = inside in
          let n = near in
          twin_ahead text (length text - 1) (text ++ more) (twin_end text more utf8 long (omega (arith, l)) last) false i w.boundary.0 (omega (arith, l, n))

      awaits : (more : List ℕ) → IsUtf8 (text ++ more) → IsCharBoundary (text ++ more) i → Fits (text ++ more) stage.Value fs u i → Awaited (text ++ more) fs u f i a
      awaits more long cut fits =
          record { small = w.small; boundary = cut; seen = subst (λ (b : Ahead). IsSeen (text ++ more) false i b) (sym w.seen.0) (seen_alike text (text ++ more) false i long cut (same more long)); form = w.form; block = w.block; fits = fits }

  -- by the place
  pub torn_stops : (r : Result Position Stop) → ((q : ℕ) → FailedAt text (setting_of f) a q → Stops text i (NoValue i a f fs u) (Err (stop.Unread q))) → ((q : ℕ) → r ≡ Err (stop.Unread q) → TornAt text (setting_of f) a q) → Stops text i (NoValue i a f fs u) r
  torn_stops (Ok p) old torn = tt
  torn_stops (Err (stop.Unread q)) old torn = by_torn (torn q refl) where
    by_place : (p : ℕ) → FailedAt text (setting_of f) a p → IsTornAt text a p → Stops text i (NoValue i a f fs u) (Err (stop.Unread (torn_place text a p)))
    by_place p failed (inl (same, un)) = subst (λ z. Stops text i (NoValue i a f fs u) (Err (stop.Unread z))) (sym same) (old p failed)
    by_place p failed (inr (is, end, dash)) = subst (λ z. Stops text i (NoValue i a f fs u) (Err (stop.Unread z))) (sym is) (dash_stops p end dash failed)

    by_torn : TornAt text (setting_of f) a q → Stops text i (NoValue i a f fs u) (Err (stop.Unread q))
    by_torn (p, e, failed) = subst (λ z. Stops text i (NoValue i a f fs u) (Err (stop.Unread z))) (sym e) (by_place p failed (torn_at text a p))
  torn_stops (Err (stop.Tab at)) old torn = tt
  torn_stops (Err (stop.Anchor at)) old torn = tt
  torn_stops (Err (stop.Tag at)) old torn = tt
  torn_stops (Err (stop.Directive at)) old torn = tt
  torn_stops (Err (stop.ManyDocuments at)) old torn = tt
  torn_stops (Err (stop.DuplicateKey at)) old torn = tt
  torn_stops (Err (stop.TooDeep at)) old torn = tt
  torn_stops (Err stop.NoMemory) old torn = tt

  pub torn_lengthens : (q : ℕ) → TornAt text (setting_of f) a q → ((p : ℕ) → q ≡ p → FailedAt text (setting_of f) a p → (p ≡ length text → ends_in_dash text a ≡ false) → LengthensAt text stage.Value fs u i p) → LengthensAt text stage.Value fs u i q
  torn_lengthens q (p, e, failed) old = subst (LengthensAt text stage.Value fs u i) (sym e) (by_place (torn_at text a p)) where
    by_place : IsTornAt text a p → LengthensAt text stage.Value fs u i (torn_place text a p)
    by_place (inl (same, un)) = subst (LengthensAt text stage.Value fs u i) (sym same) (old p (e ∙ same) failed un)
    by_place (inr (is, end, dash)) = subst (LengthensAt text stage.Value fs u i) (sym is) (dash_lengthens p end dash failed)

-- ---- why reading stops

-- what a scalar becomes does not depend on the place
pub torn_holds : (text : List ℕ) (s : Setting) (cuts : Bool) (a : Ahead) (u w : Unfinished) (e : Stop) → Holds text s cuts a u w (Err e) → Holds text s cuts a u w (Err (torn_stop text a e))
torn_holds text s cuts a u w (stop.Unread q) (inl h) = absurd (cc)
torn_holds text s cuts a u w (stop.Unread q) (inr (inl (h, none))) = inr (inl ((torn_place text a q, refl), none))
torn_holds text s cuts a u w (stop.Unread q) (inr (inr (inl (p, h, d)))) = absurd (cc)
torn_holds text s cuts a u w (stop.Unread q) (inr (inr (inr (t, k, j, found, cut, h, deep)))) = absurd (cc)
torn_holds text s cuts a u w (stop.Tab at) h = h
torn_holds text s cuts a u w (stop.Anchor at) h = h
torn_holds text s cuts a u w (stop.Tag at) h = h
torn_holds text s cuts a u w (stop.Directive at) h = h
torn_holds text s cuts a u w (stop.ManyDocuments at) h = h
torn_holds text s cuts a u w (stop.DuplicateKey at) h = h
torn_holds text s cuts a u w (stop.TooDeep at) h = h
torn_holds text s cuts a u w stop.NoMemory h = h

pub torn_from : (text : List ℕ) (s : Setting) (a : Ahead) (e d : Stop) (q : ℕ) → d ≡ torn_stop text a e → d ≡ stop.Unread q → ((p : ℕ) → e ≡ stop.Unread p → FailedAt text s a p) → TornAt text s a q
torn_from text s a (stop.Unread p) d q is h failed = (p, (let same : stop.Unread q ≡ stop.Unread (torn_place text a p) = sym h ∙ is in cc), failed p refl)
torn_from text s a (stop.Tab at) d q is h failed = absurd (cc)
torn_from text s a (stop.Anchor at) d q is h failed = absurd (cc)
torn_from text s a (stop.Tag at) d q is h failed = absurd (cc)
torn_from text s a (stop.Directive at) d q is h failed = absurd (cc)
torn_from text s a (stop.ManyDocuments at) d q is h failed = absurd (cc)
torn_from text s a (stop.DuplicateKey at) d q is h failed = absurd (cc)
torn_from text s a (stop.TooDeep at) d q is h failed = absurd (cc)
torn_from text s a stop.NoMemory d q is h failed = absurd (cc)

pub error_of : (d : Stop) (q : ℕ) (r : Result Position Stop) → r ≡ Err d → r ≡ Err (stop.Unread q) → d ≡ stop.Unread q
error_of d q r is h = cc
