-- Where reading stops at the text's end: which bytes mend it, or that nothing follows in a longer text. By what is ahead there.
use Rattle.std.proofs.Common.{◌≡◌, ℕ, zero, suc, ◌+◌, ◌-◌, ◌<◌, ◌≤◌, ◌⊎◌, inl, inr, Bool, true, false, ◌||◌, ◌&&◌, not, cond, nat_eq, nat_lt, arith, List, [], ◌∷◌, ◌++◌, drop, length, slice_index, refl, sym, ap, ◌∙◌, subst, true≢false, append_assoc}
use Rattle.std.proofs.lemmas.Bool.{cases_lt, ltb-true}
use Rattle.std.proofs.lemmas.Bool.Decides.{nat_tests}
use Rattle.std.proofs.lemmas.List.{append-nil, drop-drop, drop_all, length-append, length-drop}
use Rattle.std.proofs.lemmas.Slice.Eq.{bytes_eq-Decides}
use Rattle.std.specs.Prelude.{Result, Err, Option, Some, None}
use Rattle.std.specs.Str.{IsCharBoundary, IsUtf8, bytes_eq}
use Rattle.doc_values.specs.Tree.{Forest, has_key, snoc}
use Rattle.doc_values.specs.Unfinished.{Level, Unfinished, with_end}
use Rattle.doc_values.specs.code.Laws.{joined-Nil}
use Rattle.yaml_scalars.specs.declared.scalar.Setting.{Setting}
use Rattle.yaml_scalars.specs.Block.{same, widest}
use Rattle.yaml_scalars.specs.Lines.{Stands as Spans, Fails, begins_break, begins_with, each, ends_with, is_blank, is_cut_mark, is_white, lead, lines}
use Rattle.yaml_scalars.specs.Scalar.{begins_order_mark, is_first_column, scalar_at}
use Rattle.yaml_scalars.specs.code.Walk.{line_at}
use Rattle.yaml_laws.specs.code.Refusals.{is_ascii}
use Rattle.yaml_laws.proofs.Agree.{drop_before}
use Rattle.yaml_laws.proofs.PlainDead.{drop_whole}
use Rattle.yaml_laws.proofs.ScalarLaw.{scalar_upper, column_longer}
use Rattle.yaml_grammar.specs.declared.ahead.Ahead.{Ahead}
use Rattle.yaml_grammar.specs.declared.ahead.Token.{Token}
use Rattle.yaml_grammar.specs.declared.ahead.Token.TheVariants.{End, Dashes, Dots, Dash, Tag, NoTag, Opens, Closes, Comma, Point, Anchor, Percent, Tabbed, Stray, Other}
use Rattle.yaml_grammar.specs.declared.form.Form.{Form}
use Rattle.yaml_grammar.specs.declared.form.Form.TheVariants.{Root, Items, Entries}
use Rattle.yaml_grammar.specs.declared.stage.Stage.{Stage}
use Rattle.yaml_grammar.specs.declared.stage.Stage.TheVariants as stage
use Rattle.yaml_grammar.specs.declared.stage.Position.{Position}
use Rattle.yaml_grammar.specs.declared.stop.Stop.{Stop}
use Rattle.yaml_grammar.specs.declared.stop.Stop.TheVariants as stop
use Rattle.yaml_grammar.specs.Ahead.{is_name, token_len, token_of, token_at, line_ahead, rest_ahead, ahead}
use Rattle.yaml_grammar.specs.Nodes.{as_key, is_marked, scalar_ahead, starts_scalar}
use Rattle.yaml_grammar.specs.Signs as sign
use Rattle.yaml_grammar.specs.Signs.{Sign, Reading, Tree}
use Rattle.yaml_grammar.specs.Yaml.{late_sign, sign_behind, text_start}
use Rattle.yaml_grammar.specs.code.AheadSeen.{ahead_seen, first_return, is_told}
use Rattle.yaml_grammar.specs.code.Closers.{letters}
use Rattle.yaml_grammar.specs.code.Rest.{top, Inside, Ends}
use Rattle.yaml_grammar.specs.code.StopPlaces.{is_stray, run_width, token_width, width, past_return, colon_place, told_place, within, last_told, dash_place, ends_in_dots, root_place}
use Rattle.yaml_grammar.specs.code.Steps.{IsSeen, IsBlock, SameEnd, Open, Agrees, Nests, LiesIn, Lasts, is_dash, is_ending, ends_before}
use Rattle.yaml_grammar.specs.code.Twins.{IsTwin, Stops, NoLine, FailedAt, IsLast, IsStill, Mends, NoRest, LengthensAt, Lengthens, Popped}
use Rattle.yaml_grammar.proofs.AheadOrder.{seen_behind, seen_mark}
use Rattle.yaml_grammar.proofs.Continuations.{block_ends, colon_ahead, colon_completes}
use Rattle.yaml_grammar.proofs.DeadPlaces.{parted}
use Rattle.yaml_grammar.proofs.KeyLineEnds.{key_within, white_front}
use Rattle.yaml_grammar.proofs.KeysGrown.{key_completes}
use Rattle.yaml_grammar.proofs.Widths.{byte_there}
use Rattle.yaml_grammar.proofs.DashKeys.{dash_key_completes}
use Rattle.yaml_grammar.proofs.DotEnds.{dots_end}
use Rattle.yaml_grammar.proofs.BlockGains.{Stands, nothing_follows, all_quiet}
use Rattle.yaml_grammar.proofs.Entries.{form_ends}
use Rattle.yaml_grammar.proofs.LastValues.{lasts_calm}
use Rattle.yaml_grammar.proofs.FirstDead.{still_pop, line_dead, deep_dead, key_dead, root_dead}
use Rattle.yaml_grammar.proofs.FirstTokens.{dash_byte, first_byte, is_shut, line_first}
use Rattle.yaml_grammar.proofs.Forms.{inside}
use Rattle.yaml_grammar.proofs.LastBytes.{agrees_longer, ended_still, stray_told, stray_within, dots_last}
use Rattle.yaml_grammar.proofs.OtherStops.{unread_on, on_from}
use Rattle.yaml_grammar.proofs.Placed.{placed}
use Rattle.yaml_grammar.proofs.MarkTexts.{past_less}
use Rattle.yaml_grammar.proofs.SameTexts.{sign_same, end_here}
use Rattle.yaml_grammar.proofs.ScalarFails.{seen_fails}
use Rattle.yaml_grammar.proofs.Quiet.{word_inside}
use Rattle.yaml_grammar.proofs.Fixed.{starts_of, scalar_from}
use Rattle.yaml_grammar.proofs.ShownTokens.{IsPassed, passed_return, IsTold, told_shown, same_most, ahead_wide}
use Rattle.yaml_grammar.proofs.Stopped.{within_end, within_here, last_return, last_told_stops}
use Rattle.yaml_grammar.proofs.Twins.{twin_ahead, twin_within}

-- ---- the last byte

-- what is ahead of a place stands in the text, where the document does not end
pub some_text : (text : List ℕ) (flow : Bool) (i : ℕ) → i ≤ length text → is_ending (ahead text flow i).token ≡ false → 0 < length text
some_text (b ∷ xs) flow i low h = omega arith
some_text [] flow i low h = absurd (true≢false (sym (by_column (is_first_column [] i) (drop i []) (drop_all i [] (omega arith))) ∙ h)) where
  by_column : (q : Bool) (ys : List ℕ) → ys ≡ [] → is_ending (cond q (line_ahead flow 0 (lines i ys)) (rest_ahead flow 0 (lines i ys))).token ≡ true
  by_column true ys e = ap (λ ys. is_ending (line_ahead flow 0 (lines i ys)).token) e
  by_column false ys e = ap (λ ys. is_ending (rest_ahead flow 0 (lines i ys)).token) e

pub told_at : (text : List ℕ) (flow : Bool) (i : ℕ) → is_told (ahead text flow i).token ≡ true → (ahead text flow i).at < length text
told_at text flow i h = by_byte (first_byte text flow i h) where
  by_byte : (b : ℕ) × (rest : List ℕ) × (drop (ahead text flow i).at text ≡ b ∷ rest) × (is_white b ≡ false) × ((ahead text flow i).token ≡ token_of flow (b ∷ line_at rest)) → (ahead text flow i).at < length text
  by_byte (b, rest, e, black, tok) = let n = ap (λ (t : List ℕ). length t) e in omega (arith, n, length-drop (ahead text flow i).at text)

dash_is : (t : Token) → is_dash t ≡ true → t ≡ Dash
dash_is End e = absurd (true≢false (sym e))
dash_is Dashes e = absurd (true≢false (sym e))
dash_is Dots e = absurd (true≢false (sym e))
dash_is Tabbed e = absurd (true≢false (sym e))
dash_is Stray e = absurd (true≢false (sym e))
dash_is Dash e = refl
dash_is (Tag len) e = absurd (true≢false (sym e))
dash_is NoTag e = absurd (true≢false (sym e))
dash_is (Opens map) e = absurd (true≢false (sym e))
dash_is (Closes map) e = absurd (true≢false (sym e))
dash_is Comma e = absurd (true≢false (sym e))
dash_is (Point loose) e = absurd (true≢false (sym e))
dash_is Anchor e = absurd (true≢false (sym e))
dash_is Percent e = absurd (true≢false (sym e))
dash_is Other e = absurd (true≢false (sym e))

pub dash_test : (text : List ℕ) (a : Ahead) (q : ℕ) → q ≡ dash_place text a → ((a.token ≡ Dash) × (a.behind ≡ length text) × (q ≡ length text)) ⊎ ((a.token ≡ Dash → a.behind ≡ length text → ⊥) × (q ≡ last_told text a))
dash_test text a q p = by_tests (is_dash a.token) (nat_eq a.behind (length text)) refl refl p where
  by_tests : (x y : Bool) → is_dash a.token ≡ x → nat_eq a.behind (length text) ≡ y → q ≡ cond (x && y) (length text) (last_told text a) → ((a.token ≡ Dash) × (a.behind ≡ length text) × (q ≡ length text)) ⊎ ((a.token ≡ Dash → a.behind ≡ length text → ⊥) × (q ≡ last_told text a))
  by_tests true true d z k = inl (dash_is a.token d, grind (arith, nat_tests, z), k)
  by_tests true false d z k = inr ((λ t h. true≢false (sym (let w : nat_eq a.behind (length text) ≡ true = grind (arith, nat_tests, h) in w) ∙ z)), k)
  by_tests false y d z k = inr ((λ t h. true≢false (sym (ap is_dash t) ∙ d)), k)

module _ (text : List ℕ) (utf8 : IsUtf8 text) (fs : List Form) (u : Unfinished) (i : ℕ) (cut : IsCharBoundary text i) where
  -- where nothing follows in a longer text
  abbrev LastDead : Stage → Bool → Type 0
  LastDead s flow = (more : List ℕ) → IsUtf8 (text ++ more) → ends_with 13 text ≡ false → is_told (ahead text flow i).token ≡ true → (ahead text flow i).at < length text → length text ≤ ahead_seen text i → NoRest s fs u i (text ++ more)

  pub last_lengthens : (s : Stage) (flow : Bool) (a : Ahead) (q : ℕ) → a ≡ ahead text flow i → is_ending a.token ≡ false → q ≡ last_told text a → LastDead s flow → Lengthens text s fs u i (Err (stop.Unread q))
  last_lengthens s flow a q e go p dead = λ last. ((λ h. absurd (past h)), (λ l more longer. by_token last (l.1 last) more longer (stray_told (ahead text flow i).token going))) where
    going : is_ending (ahead text flow i).token ≡ false
    going = sym (ap (λ (b : Ahead). is_ending b.token) e) ∙ go

    past : q ≡ length text → ⊥
    past h = by_order (cases_lt (told_place text a) (length text)) where
      some : 0 < length text
      some = some_text text flow i cut.0 going

      by_order : (told_place text a < length text) ⊎ (length text ≤ told_place text a) → ⊥
      by_order (inl l) = let k = p ∙ within_here text (told_place text a) l in omega (arith, h, k, l)
      by_order (inr l) = let k = p ∙ within_end text (told_place text a) l in let z = some in omega (arith, h, k, z)

    by_token : ends_with 13 text ≡ false → length text ≤ ahead_seen text i → (more : List ℕ) → IsUtf8 (text ++ more) → (is_told (ahead text flow i).token ≡ true) ⊎ ((ahead text flow i).token ≡ Stray) → NoRest s fs u i (text ++ more)
    by_token last far more longer (inl t) = dead more longer last t (told_at text flow i t) far
    by_token last far more longer (inr k) = absurd (stray_within text flow i utf8 cut last k far)

  low : i ≤ (ahead text false i).at
  low = (placed text false i utf8 cut).0

  -- behind a complete node, on its line
  pub line_lengthens : (a : Ahead) (q : ℕ) → a ≡ ahead text false i → is_ending a.token ≡ false → q ≡ last_told text a → IsBlock (top fs) → Nests fs → a.fresh ≡ false → Lengthens text stage.After fs u i (Err (stop.Unread q))
  line_lengthens a q e go p block nests stale =
      last_lengthens stage.After false a q e go p (λ more longer last t l far there fits g h.
      line_dead text (text ++ more) i low t (agrees_longer text more (ahead text false i).at l) fs u.outer u.done g nests block (sym (ap (λ (b : Ahead). b.fresh) e) ∙ stale) h)

  -- on a line that is indented more than the innermost block
  pub deep_lengthens : (a : Ahead) (q m : ℕ) → a ≡ ahead text false i → is_ending a.token ≡ false → q ≡ last_told text a → Nests fs → (top fs ≡ Items m) ⊎ (top fs ≡ Entries m) → m < a.column → Lengthens text stage.After fs u i (Err (stop.Unread q))
  deep_lengthens a q m e go p nests form deep =
      last_lengthens stage.After false a q e go p (λ more longer last t l far there fits g h.
      deep_dead text (text ++ more) i low t (agrees_longer text more (ahead text false i).at l) fs u.outer u.done g m nests form (subst (λ (b : Ahead). m < b.column) e deep) h)

  -- behind the root
  root_only : Nests fs → top fs ≡ Root → fs ≡ []
  root_only nests form = by_forms fs nests form where
    by_forms : (gs : List Form) → Nests gs → top gs ≡ Root → gs ≡ []
    by_forms [] ns t = refl
    by_forms (g ∷ gs) ns t = absurd (subst (λ z. LiesIn z (top gs)) t ns.0)

  dotted : ends_in_dots text (ahead text false i) ≡ true → ((ahead text false i).column ≡ 0) × ((drop (ahead text false i).at text ≡ 46 ∷ []) ⊎ (drop (ahead text false i).at text ≡ 46 ∷ 46 ∷ []))
  dotted h = by_tests (nat_eq (ahead text false i).column 0) (bytes_eq (drop (ahead text false i).at text) (46 ∷ [])) (bytes_eq (drop (ahead text false i).at text) (46 ∷ 46 ∷ [])) refl refl refl h where
    same_bytes : (xs ys : List ℕ) → bytes_eq xs ys ≡ true → xs ≡ ys
    same_bytes xs ys e = (bytes_eq-Decides xs ys).0 e

    by_tests : (p q r : Bool) → nat_eq (ahead text false i).column 0 ≡ p → bytes_eq (drop (ahead text false i).at text) (46 ∷ []) ≡ q → bytes_eq (drop (ahead text false i).at text) (46 ∷ 46 ∷ []) ≡ r → (p && (q || r)) ≡ true
        → ((ahead text false i).column ≡ 0) × ((drop (ahead text false i).at text ≡ 46 ∷ []) ⊎ (drop (ahead text false i).at text ≡ 46 ∷ 46 ∷ []))
    by_tests false q r a b c k = absurd (true≢false (sym k))
    by_tests true true r a b c k = (grind (arith, nat_tests, a), inl (same_bytes (drop (ahead text false i).at text) (46 ∷ []) b))
    by_tests true false true a b c k = (grind (arith, nat_tests, a), inr (same_bytes (drop (ahead text false i).at text) (46 ∷ 46 ∷ []) c))
    by_tests true false false a b c k = absurd (true≢false (sym k))

  undotted : ends_in_dots text (ahead text false i) ≡ false → (ahead text false i).column ≡ 0 → (drop (ahead text false i).at text ≡ 46 ∷ []) ⊎ (drop (ahead text false i).at text ≡ 46 ∷ 46 ∷ []) → ⊥
  undotted h zero_column d = by_dots d where
    first : (nat_eq (ahead text false i).column 0 && (bytes_eq (drop (ahead text false i).at text) (46 ∷ []) || bytes_eq (drop (ahead text false i).at text) (46 ∷ 46 ∷ []))) ≡ (bytes_eq (drop (ahead text false i).at text) (46 ∷ []) || bytes_eq (drop (ahead text false i).at text) (46 ∷ 46 ∷ []))
    first = ap (λ n. nat_eq n 0 && (bytes_eq (drop (ahead text false i).at text) (46 ∷ []) || bytes_eq (drop (ahead text false i).at text) (46 ∷ 46 ∷ []))) zero_column

    by_dots : (drop (ahead text false i).at text ≡ 46 ∷ []) ⊎ (drop (ahead text false i).at text ≡ 46 ∷ 46 ∷ []) → ⊥
    by_dots (inl e) = true≢false (sym (first ∙ ap (λ d. bytes_eq d (46 ∷ []) || bytes_eq d (46 ∷ 46 ∷ [])) e) ∙ h)
    by_dots (inr e) = true≢false (sym (first ∙ ap (λ d. bytes_eq d (46 ∷ []) || bytes_eq d (46 ∷ 46 ∷ [])) e) ∙ h)

  -- dots that the text ends in end the document with those that lack
  dots_mend : is_ending (ahead text false i).token ≡ false → (ahead text false i).fresh ≡ true → (ahead text false i).column ≡ 0 → IsBlock (top fs) → Open fs u → (drop (ahead text false i).at text ≡ 46 ∷ []) ⊎ (drop (ahead text false i).at text ≡ 46 ∷ 46 ∷ []) → Mends text stage.After fs u i
  dots_mend go fresh zero_column block open_ d = by_dots d where
    near : (ahead text false i).at ≤ length text
    near = (placed text false i utf8 cut).1.0

    some : (ahead text false i).token ≡ End → ⊥
    some e = true≢false (sym (ap is_ending e) ∙ go)

    by_dots : (drop (ahead text false i).at text ≡ 46 ∷ []) ⊎ (drop (ahead text false i).at text ≡ 46 ∷ 46 ∷ []) → Mends text stage.After fs u i
    by_dots (inl e) =
        let t = block_ends fs u.outer u.done (text ++ (46 ∷ 46 ∷ [])) i (dots_end text (46 ∷ []) (46 ∷ 46 ∷ []) refl refl (omega arith) refl i refl refl cut.0 near some fresh zero_column e) block open_.0 open_.1 in
        (46 ∷ 46 ∷ [], refl, t.0, t.1)
    by_dots (inr e) =
        let t = block_ends fs u.outer u.done (text ++ (46 ∷ [])) i (dots_end text (46 ∷ 46 ∷ []) (46 ∷ []) refl refl (omega arith) refl i refl refl cut.0 near some fresh zero_column e) block open_.0 open_.1 in
        (46 ∷ [], refl, t.0, t.1)

  pub root_lengthens : (a : Ahead) (q : ℕ) → a ≡ ahead text false i → is_ending a.token ≡ false → q ≡ root_place text a → Open fs u → top fs ≡ Root → a.fresh ≡ true → Lengthens text stage.After fs u i (Err (stop.Unread q))
  root_lengthens a q e go p open_ form fresh = by_dots (ends_in_dots text a) refl p where
    going : is_ending (ahead text false i).token ≡ false
    going = sym (ap (λ (b : Ahead). is_ending b.token) e) ∙ go

    here : (ahead text false i).fresh ≡ true
    here = sym (ap (λ (b : Ahead). b.fresh) e) ∙ fresh

    dead : ends_in_dots text (ahead text false i) ≡ false → LastDead stage.After false
    dead none more longer last t l far there fits g h = by_column (nat_eq (ahead text false i).column 0) refl (begins_with 46 (drop (ahead text false i).at text)) refl where
      over : (0 < (ahead text false i).column) ⊎ (begins_with 46 (drop (ahead text false i).at text) ≡ false) → ⊥
      over c = root_dead text (text ++ more) i low t (agrees_longer text more (ahead text false i).at l) [] u.outer u.done g tt c (subst (λ hs. Ends (text ++ more) hs u.outer u.done i (Tree g)) (root_only open_.1 form) h)

      by_column : (c : Bool) → nat_eq (ahead text false i).column 0 ≡ c → (d : Bool) → begins_with 46 (drop (ahead text false i).at text) ≡ d → ⊥
      by_column false z d y = over (inl (let k : 0 < (ahead text false i).column = grind (arith, nat_tests, z) in k))
      by_column true z false y = over (inr y)
      by_column true z true y =
          let zero_column : (ahead text false i).column ≡ 0 = grind (arith, nat_tests, z) in
          undotted none zero_column (dots_last text i utf8 cut last t here zero_column y far)

    by_dots : (d : Bool) → ends_in_dots text a ≡ d → q ≡ cond d (length text) (last_told text a) → Lengthens text stage.After fs u i (Err (stop.Unread q))
    by_dots false d k = last_lengthens stage.After false a q e go k (dead (sym (ap (ends_in_dots text) e) ∙ d))
    by_dots true d k = λ last. ((λ h. (let w = dotted (sym (ap (ends_in_dots text) e) ∙ d) in dots_mend going here w.0 (subst IsBlock (sym form) tt) open_ w.1)), (λ l more longer. (let z = l.0 in absurd (omega (arith, z, k)))))

  -- where only a key may stand, and no scalar begins
  shut_token : (t : Token) → starts_scalar t ≡ false → is_told t ≡ true → (t ≡ Dash → ⊥) → is_shut t ≡ true
  shut_token End s t d = absurd (true≢false (sym t))
  shut_token Dashes s t d = absurd (true≢false (sym t))
  shut_token Dots s t d = absurd (true≢false (sym t))
  shut_token Tabbed s t d = absurd (true≢false (sym t))
  shut_token Stray s t d = absurd (true≢false (sym t))
  shut_token Dash s t d = absurd (d refl)
  shut_token (Tag len) s t d = refl
  shut_token NoTag s t d = refl
  shut_token (Opens map) s t d = refl
  shut_token (Closes map) s t d = refl
  shut_token Comma s t d = refl
  shut_token (Point loose) s t d = absurd (true≢false s)
  shut_token Anchor s t d = refl
  shut_token Percent s t d = refl
  shut_token Other s t d = absurd (true≢false s)

  -- a `-` that is the text's last byte
  pub dash_end : (ahead text false i).token ≡ Dash → (ahead text false i).behind ≡ length text → drop (ahead text false i).at text ≡ 45 ∷ []
  dash_end d z = by_byte (first_byte text false i (ap is_told d)) where
    behind_is : (ahead text false i).behind ≡ (ahead text false i).at + 1
    behind_is = (placed text false i utf8 cut).3 ∙ ap (λ t. (ahead text false i).at + token_len t) d

    by_byte : (b : ℕ) × (rest : List ℕ) × (drop (ahead text false i).at text ≡ b ∷ rest) × (is_white b ≡ false) × ((ahead text false i).token ≡ token_of false (b ∷ line_at rest)) → drop (ahead text false i).at text ≡ 45 ∷ []
    by_byte (b, rest, e, black, tok) =
        let n = ap (λ (t : List ℕ). length t) e in
        let w = behind_is in
        e ∙ ap (λ k. k ∷ rest) (dash_byte b (line_at rest) (sym tok ∙ d)) ∙ ap (λ r. 45 ∷ r) (empty rest (omega (arith, n, w, z, length-drop (ahead text false i).at text))) where
          empty : (r : List ℕ) → length r ≡ 0 → r ≡ []
          empty [] k = refl
          empty (x ∷ r) k = absurd (omega (arith, k))

  -- any other is shown within it
  pub dash_within : (ahead text false i).token ≡ Dash → ((ahead text false i).behind ≡ length text → ⊥) → length text ≤ ahead_seen text i → ⊥
  dash_within d n far = by_order (cases_lt (ahead text false i).behind (length text)) where
    seen : ahead_seen text i ≤ (ahead text false i).behind
    seen = seen_behind text false i Dash d refl (omega arith)

    most : (ahead text false i).behind ≤ length text
    most = (placed text false i utf8 cut).2.0

    by_order : ((ahead text false i).behind < length text) ⊎ (length text ≤ (ahead text false i).behind) → ⊥
    by_order (inl l) = let s = seen in omega (arith, s, l, far)
    by_order (inr l) = let m = most in n (omega (arith, m, l))

  pub entry_lengthens : (a : Ahead) (q m : ℕ) → a ≡ ahead text false i → is_ending a.token ≡ false → q ≡ dash_place text a → Open fs u → top fs ≡ Entries m → a.fresh ≡ true → a.column ≡ m → starts_scalar a.token ≡ false → Lengthens text stage.After fs u i (Err (stop.Unread q))
  entry_lengthens a q m e go p open_ form fresh col shut = by_test (dash_test text a q p) where
    here : (ahead text false i).fresh ≡ true
    here = sym (ap (λ (b : Ahead). b.fresh) e) ∙ fresh

    there : (ahead text false i).column ≡ m
    there = sym (ap (λ (b : Ahead). b.column) e) ∙ col

    mend : (ahead text false i).token ≡ Dash → (ahead text false i).behind ≡ length text → Mends text stage.After fs u i
    mend d z =
        inside (λ hs xs. Nests hs → Agrees hs xs → (more : List ℕ) × (each is_ascii more ≡ true) × (tree : Forest) × Ends (text ++ more) hs xs u.done i (Tree tree)) (Entries m) fs u.outer form (λ r. absurd (cc)) open_.0
        (λ gs x xs ns ag. (let w = dash_key_completes m gs x xs u.done text i cut.0 here there d (dash_end d z) ag ns in (letters w.0 ++ (58 ∷ []), ascii w.0, w.1, subst (λ t. Ends t (Entries m ∷ gs) (x ∷ xs) u.done i (Tree w.1)) (append_assoc text (letters w.0) (58 ∷ [])) w.2))) open_.1 open_.0 where
          ascii : (n : ℕ) → each is_ascii (letters n ++ (58 ∷ [])) ≡ true
          ascii zero = refl
          ascii (suc n) = ascii n

    dead : ((ahead text false i).token ≡ Dash → (ahead text false i).behind ≡ length text → ⊥) → LastDead stage.After false
    dead n more longer last t l far = by_dash (is_dash (ahead text false i).token) refl where
      nothing : ((ahead text false i).token ≡ Dash → ⊥) → NoRest stage.After fs u i (text ++ more)
      nothing none = λ cut2 fits g h.
          inside (λ hs xs. Nests hs → Ends (text ++ more) hs xs u.done i (Tree g) → ⊥) (Entries m) fs u.outer form (λ r. absurd (cc)) open_.0
          (λ gs x xs ns k. key_dead text (text ++ more) i low t (agrees_longer text more (ahead text false i).at l) m gs (x ∷ xs) u.done g ns there (shut_token (ahead text false i).token (sym (ap (λ (b : Ahead). starts_scalar b.token) e) ∙ shut) t none) k) open_.1 h

      by_dash : (d : Bool) → is_dash (ahead text false i).token ≡ d → NoRest stage.After fs u i (text ++ more)
      by_dash true d = absurd (dash_within (dash_is (ahead text false i).token d) (n (dash_is (ahead text false i).token d)) far)
      by_dash false d = nothing (λ z. true≢false (sym (ap is_dash z) ∙ d))

    by_test : ((a.token ≡ Dash) × (a.behind ≡ length text) × (q ≡ length text)) ⊎ ((a.token ≡ Dash → a.behind ≡ length text → ⊥) × (q ≡ last_told text a)) → Lengthens text stage.After fs u i (Err (stop.Unread q))
    by_test (inl (d, z, k)) =
        λ last. ((λ h. mend (sym (ap (λ (b : Ahead). b.token) e) ∙ d) (sym (ap (λ (b : Ahead). b.behind) e) ∙ z)), (λ l more longer. (let y = l.0 in absurd (omega (arith, y, k)))))
    by_test (inr (n, k)) = last_lengthens stage.After false a q e go k (dead (λ d z. n (ap (λ (b : Ahead). b.token) e ∙ d) (ap (λ (b : Ahead). b.behind) e ∙ z)))

  -- blocks that ended before the line
  pub popped_lengthens : (a : Ahead) (gs : List Form) (w : Unfinished) (r : Result Position Stop) → a ≡ ahead text false i → is_ending a.token ≡ false → Popped a fs u gs w → IsBlock (top fs) → IsBlock (top gs) → Open gs w → w.key ≡ None → Lasts u w
      → Lengthens text stage.After gs w i r → Lengthens text stage.After fs u i r
  popped_lengthens a gs w r e go popped block block2 open_ key lasts =
      on_from (LengthensAt text stage.After gs w i) (LengthensAt text stage.After fs u i) r (λ q h last. (
        (λ z. (let m = (h last).0 z in (m.0, m.1, m.2, (popped (text ++ m.0) i).0 (Tree m.2) m.3))),
        (λ l more longer there fits g k. (h last).1 l more longer there (open_, key, (λ b. lasts_calm (text ++ more) u w i lasts (fits.2 block))) g ((popped (text ++ more) i).1 (still last more longer there (l.1 last)) g k)),
      )) where
        going : is_ending (ahead text false i).token ≡ false
        going = sym (ap (λ (b : Ahead). is_ending b.token) e) ∙ go

        still : ends_with 13 text ≡ false → (more : List ℕ) → IsUtf8 (text ++ more) → IsCharBoundary (text ++ more) i → length text ≤ ahead_seen text i → (f : Form) → ends_before f a ≡ true → IsStill (text ++ more) (ahead (text ++ more) false i) f
        still last more longer there far f z = by_token (stray_told (ahead text false i).token going) where
          by_token : (is_told (ahead text false i).token ≡ true) ⊎ ((ahead text false i).token ≡ Stray) → IsStill (text ++ more) (ahead (text ++ more) false i) f
          by_token (inl t) = ended_still text more utf8 longer last i low cut.0 t (told_at text false i t) there f (sym (ap (ends_before f) e) ∙ z)
          by_token (inr k) = absurd (stray_within text false i utf8 cut last k far)

-- ---- blocks end

one_popped : (text : List ℕ) (i : ℕ) (f : Form) (gs : List Form) (w : Unfinished) → Agrees (f ∷ gs) w.outer → IsBlock f → (f ≡ Root → ⊥)
    → ((v : Reading) → Ends text gs (with_end w).outer (with_end w).done i v → Ends text (f ∷ gs) w.outer w.done i v) × (IsStill text (ahead text false i) f → (t : Forest) → Ends text (f ∷ gs) w.outer w.done i (Tree t) → Ends text gs (with_end w).outer (with_end w).done i (Tree t))
one_popped text i f gs w a block root = by_outer w.outer w.done w.key a where
  by_outer : (outer : List Level) (done : Forest) (key : Option (List ℕ)) → Agrees (f ∷ gs) outer
      → ((v : Reading) → Ends text gs (with_end (record { outer = outer; done = done; key = key })).outer (with_end (record { outer = outer; done = done; key = key })).done i v → Ends text (f ∷ gs) outer done i v)
      × (IsStill text (ahead text false i) f → (t : Forest) → Ends text (f ∷ gs) outer done i (Tree t) → Ends text gs (with_end (record { outer = outer; done = done; key = key })).outer (with_end (record { outer = outer; done = done; key = key })).done i (Tree t))
  by_outer [] done key b = absurd b
  by_outer (x ∷ xs) done key b =
      ((λ v h. form_ends text f gs x xs done i v block root (subst (λ g. Ends text gs xs (snoc x.before x.label g) i v) (sym (joined-Nil done)) h)), (λ still t h. still_pop text f gs x xs done i t still h))

pub popped_none : (a : Ahead) (fs : List Form) (u : Unfinished) → Popped a fs u fs u
popped_none a fs u = λ text i. ((λ v h. h), (λ still t h. h))

pub popped_more : (a : Ahead) (fs old gs : List Form) (u w x : Unfinished) (f : Form) → old ≡ f ∷ gs → x ≡ with_end w → Stands old w → ends_before (top old) a ≡ true → Popped a fs u old w → Popped a fs u gs x
popped_more a fs old gs u w x f e ex s h popped =
    subst (λ z. Popped a fs u gs z) (sym ex) (subst (λ hs. Stands hs w → ends_before (top hs) a ≡ true → Popped a fs u hs w → Popped a fs u gs (with_end w)) (sym e) (λ r g p text i. (
      (λ v k. (p text i).0 v ((one_popped text i f gs w r.0.0 r.2 (root g)).0 v k)),
      (λ still t k. (one_popped text i f gs w r.0.0 r.2 (root g)).1 (still f g) t ((p text i).1 still t k)),
    )) s h popped) where
      root : ends_before f a ≡ true → f ≡ Root → ⊥
      root g z = true≢false (sym g ∙ ap (λ k. ends_before k a) z)

-- ---- dots behind which a stray carriage return stands

none_sign : (s : Sign) → None ≡ Some s → ⊥
none_sign s e = absurd (cc)

-- a token outside of flow where the document goes on, but for dots
pub going_on : (text : List ℕ) (i : ℕ) (a : Ahead) → a ≡ ahead text false i → Inside text i → (a.token ≡ Dots → ⊥) → is_ending a.token ≡ false
going_on text i a e (n, s) d = by_token a.token (sym (ap (λ (b : Ahead). b.token) e)) d where
  by_token : (t : Token) → (ahead text false i).token ≡ t → (t ≡ Dots → ⊥) → is_ending t ≡ false
  by_token End h d = absurd (n (inl h))
  by_token Dots h d = absurd (d refl)
  by_token Dashes h d = absurd (none_sign (sign.ManyDocuments (ahead text false i).at) (sym s ∙ ap (sign_behind (ahead text false i) (ahead text false (ahead text false i).behind)) h))
  by_token Tabbed h d = absurd (none_sign (sign.Tab (ahead text false i).at) (sym s ∙ ap (sign_behind (ahead text false i) (ahead text false (ahead text false i).behind)) h))
  by_token Stray h d = refl
  by_token Dash h d = refl
  by_token (Tag len) h d = refl
  by_token NoTag h d = refl
  by_token (Opens map) h d = refl
  by_token (Closes map) h d = refl
  by_token Comma h d = refl
  by_token (Point loose) h d = refl
  by_token Anchor h d = refl
  by_token Percent h d = refl
  by_token Other h d = refl

dots_stray : (text : List ℕ) (i : ℕ) → (ahead text false i).token ≡ Dots → Inside text i → (ahead text false (ahead text false i).behind).token ≡ Stray
dots_stray text i d (n, s) = by_token (ahead text false (ahead text false i).behind).token refl where
  late : late_sign (ahead text false i).at (ahead text false (ahead text false i).behind) (ahead text false (ahead text false i).behind).token ≡ None
  late = sym (ap (sign_behind (ahead text false i) (ahead text false (ahead text false i).behind)) d) ∙ s

  content : Sign
  content = sign.ManyDocuments (cond (ahead text false (ahead text false i).behind).fresh (ahead text false (ahead text false i).behind).at (ahead text false i).at)

  shows : (t : Token) → (ahead text false (ahead text false i).behind).token ≡ t → (z : Sign) → late_sign (ahead text false i).at (ahead text false (ahead text false i).behind) t ≡ Some z → ⊥
  shows t h z e = none_sign z (sym late ∙ ap (late_sign (ahead text false i).at (ahead text false (ahead text false i).behind)) h ∙ e)

  by_token : (t : Token) → (ahead text false (ahead text false i).behind).token ≡ t → t ≡ Stray
  by_token End h = absurd (n (inr (d, h)))
  by_token Stray h = refl
  by_token Tabbed h = absurd (shows Tabbed h (sign.Tab (ahead text false (ahead text false i).behind).at) refl)
  by_token Dots h = absurd (shows Dots h content refl)
  by_token Dashes h = absurd (shows Dashes h content refl)
  by_token Dash h = absurd (shows Dash h content refl)
  by_token (Tag len) h = absurd (shows (Tag len) h content refl)
  by_token NoTag h = absurd (shows NoTag h content refl)
  by_token (Opens map) h = absurd (shows (Opens map) h content refl)
  by_token (Closes map) h = absurd (shows (Closes map) h content refl)
  by_token Comma h = absurd (shows Comma h content refl)
  by_token (Point loose) h = absurd (shows (Point loose) h content refl)
  by_token Anchor h = absurd (shows Anchor h content refl)
  by_token Percent h = absurd (shows Percent h content refl)
  by_token Other h = absurd (shows Other h content refl)

module _ (text : List ℕ) (utf8 : IsUtf8 text) (fs : List Form) (u : Unfinished) (i : ℕ) (a after : Ahead) (q : ℕ) (here : a ≡ ahead text false i) (cut : IsCharBoundary text i) (there : after ≡ ahead text false a.behind) (cut2 : IsCharBoundary text a.behind) (d : a.token ≡ Dots) (within_text : Inside text i) (eq : q ≡ last_told text after) where
  stray : (ahead text false a.behind).token ≡ Stray
  stray = subst (λ (b : Ahead). (ahead text false b.behind).token ≡ Stray) (sym here) (dots_stray text i (sym (ap (λ (b : Ahead). b.token) here) ∙ d) within_text)

  seen_less : ends_with 13 text ≡ false → ahead_seen text a.behind < length text
  seen_less last = by_order (cases_lt (ahead_seen text a.behind) (length text)) where
    by_order : (ahead_seen text a.behind < length text) ⊎ (length text ≤ ahead_seen text a.behind) → ahead_seen text a.behind < length text
    by_order (inl l) = l
    by_order (inr l) = absurd (stray_within text false a.behind utf8 cut2 last stray l)

  some : 0 < length text
  some =
      let w = subst (λ (b : Ahead). b.behind ≡ b.at + token_len b.token) (sym here) (placed text false i utf8 cut).3 ∙ ap (λ t. a.at + token_len t) d in
      let c = cut2.0 in
      omega (arith, w, c)

  from : (p : ℕ) → p < length text → ahead_seen text a.behind ≤ p → ahead_seen text i ≤ p
  from p l near = seen_mark text false i p (subst (λ (b : Ahead). is_marked b.token ≡ true) here (ap is_marked d)) l (subst (λ n. ahead_seen text n ≤ p) (ap (λ (b : Ahead). b.behind) here) near)

  place : (q ≡ told_place text after) ⊎ (q ≡ length text - 1)
  place = by_order (cases_lt (told_place text after) (length text)) where
    by_order : (told_place text after < length text) ⊎ (length text ≤ told_place text after) → (q ≡ told_place text after) ⊎ (q ≡ length text - 1)
    by_order (inl l) = inl (eq ∙ within_here text (told_place text after) l)
    by_order (inr l) = inr (eq ∙ within_end text (told_place text after) l)

  pub dots_stops : IsBlock (top fs) → Open fs u → Stops text i (NoLine i (ahead text false i) fs u) (Err (stop.Unread q))
  dots_stops block open_ = by_order (cases_lt (told_place text after) (length text)) where
    none : (p : ℕ) (other : List ℕ) → IsTwin text p other → ahead_seen text a.behind ≤ p → NoLine i (ahead text false i) fs u other
    none p other m near = λ seen calm v h.
        let same_here = twin_ahead text p other m false i cut.0 (from p (twin_within text p other m) near) in
        let same : SameEnd text other i = record { here = same_here; further = λ t. subst (λ n. ahead other false n ≡ ahead text false n) (ap (λ (b : Ahead). b.behind) here) (twin_ahead text p other m false a.behind cut2.0 near) } in
        nothing_follows other fs u i (ahead text false i) seen.0 ((λ e. within_text.0 (end_here text other i same e)), sign_same text other i same ∙ within_text.1)
        (all_quiet other (ahead text false i) fs open_.1 block (ap (λ (b : Ahead). is_ending b.token) (sym here) ∙ ap is_ending d)) v h

    by_told : q ≡ told_place text after → told_place text after < length text → IsTold text false a.behind (told_place text after) → Stops text i (NoLine i (ahead text false i) fs u) (Err (stop.Unread q))
    by_told k l (inl z) = absurd (omega (arith, l, z))
    by_told k l (inr (n, h, (p, past, near))) =
        let o = past_less text p (told_place text after) past in
        subst (λ z. Stops text i (NoLine i (ahead text false i) fs u) (Err (stop.Unread z))) (sym k) (inr (h, (p, past, from p (omega (arith, o, l)) near, (λ other m. none p other m near))))

    by_return : q ≡ length text - 1 → (r : Bool) → ends_with 13 text ≡ r → Stops text i (NoLine i (ahead text false i) fs u) (Err (stop.Unread q))
    by_return k true last = let z = some in inl (inr (omega (arith, k, z), (λ n. absurd (true≢false (sym last ∙ n)))))
    by_return k false last =
        let z = some in
        let l = seen_less last in
        let suc_q : suc q ≡ length text = omega (arith, k, z) in
        let near : ahead_seen text a.behind ≤ q = omega (arith, l, suc_q) in
        inr (omega (arith, suc_q), (q, inr (refl, last_return text q suc_q last), from q (omega (arith, suc_q)) near, (λ other m. none q other m near)))

    by_order : (told_place text after < length text) ⊎ (length text ≤ told_place text after) → Stops text i (NoLine i (ahead text false i) fs u) (Err (stop.Unread q))
    by_order (inl l) = by_told (eq ∙ within_here text (told_place text after) l) l (subst (λ b. IsTold text false a.behind (told_place text b)) (sym there) (told_shown text false a.behind))
    by_order (inr l) = by_return (eq ∙ within_end text (told_place text after) l) (ends_with 13 text) refl

  pub dots_lengthens : Lengthens text stage.After fs u i (Err (stop.Unread q))
  dots_lengthens = λ last. ((λ h. absurd (past h)), (λ l more longer. (let far = l.1 last in let less = seen_less last in let z = from (ahead_seen text a.behind) less (omega arith) in absurd (omega (arith, far, less, z))))) where
    past : q ≡ length text → ⊥
    past h = by_order (cases_lt (told_place text after) (length text)) where
      by_order : (told_place text after < length text) ⊎ (length text ≤ told_place text after) → ⊥
      by_order (inl l) = let k = eq ∙ within_here text (told_place text after) l in omega (arith, h, k, l)
      by_order (inr l) = let k = eq ∙ within_end text (told_place text after) l in let z = some in omega (arith, h, k, z)

-- ---- a `-` and dots that end the text

pub dash_stops : (text : List ℕ) (i : ℕ) (none : List ℕ → Type 0) (a : Ahead) (q : ℕ) → a ≡ ahead text false i → is_ending a.token ≡ false → q ≡ dash_place text a → ((other : List ℕ) → none other) → Stops text i none (Err (stop.Unread q))
dash_stops text i none a q e go p n = by_test (dash_test text a q p) where
  by_test : ((a.token ≡ Dash) × (a.behind ≡ length text) × (q ≡ length text)) ⊎ ((a.token ≡ Dash → a.behind ≡ length text → ⊥) × (q ≡ last_told text a)) → Stops text i none (Err (stop.Unread q))
  by_test (inl (d, z, k)) = inl (inl k)
  by_test (inr (m, k)) = last_told_stops text i none false a q e go k n

pub root_stops : (text : List ℕ) (i : ℕ) (none : List ℕ → Type 0) (a : Ahead) (q : ℕ) → a ≡ ahead text false i → is_ending a.token ≡ false → q ≡ root_place text a → ((other : List ℕ) → none other) → Stops text i none (Err (stop.Unread q))
root_stops text i none a q e go p n = by_dots (ends_in_dots text a) p where
  by_dots : (d : Bool) → q ≡ cond d (length text) (last_told text a) → Stops text i none (Err (stop.Unread q))
  by_dots true k = inl (inl k)
  by_dots false k = last_told_stops text i none false a q e go k n

-- ---- a line that is indented more

pub item_deeper : (m : ℕ) (a : Ahead) → ends_before (Items m) a ≡ false → (a.column ≡ m → ⊥) → m < a.column
item_deeper m a h n = by_tests (nat_lt a.column m) refl (nat_eq a.column m) refl h where
  by_tests : (p : Bool) → nat_lt a.column m ≡ p → (q : Bool) → nat_eq a.column m ≡ q → (p || (q && not (is_dash a.token))) ≡ false → m < a.column
  by_tests true e q k h = absurd (true≢false h)
  by_tests false e true k h = absurd (n (grind (arith, nat_tests, k)))
  by_tests false e false k h = grind (arith, nat_tests, e, k)

pub entry_deeper : (m : ℕ) (a : Ahead) → ends_before (Entries m) a ≡ false → (a.column ≡ m → ⊥) → m < a.column
entry_deeper m a h n = let l : m ≤ a.column = grind (arith, nat_tests, h) in by_order (cases_lt m a.column) where
  by_order : (m < a.column) ⊎ (a.column ≤ m) → m < a.column
  by_order (inl k) = k
  by_order (inr k) = let l : m ≤ a.column = grind (arith, nat_tests, h) in absurd (n (omega (arith, k, l)))

-- ---- a mark that a carriage return cuts

pub ends_drop : (n : ℕ) (xs ys : List ℕ) → drop n xs ≡ ys → ends_with 13 ys ≡ true → ends_with 13 xs ≡ true
ends_drop zero xs ys e h = ap (ends_with 13) e ∙ h
ends_drop (suc n) [] ys e h = ap (ends_with 13) e ∙ h
ends_drop (suc n) (x ∷ xs) ys e h = more x xs (ends_drop n xs ys e h) where
  more : (x : ℕ) (xs : List ℕ) → ends_with 13 xs ≡ true → ends_with 13 (x ∷ xs) ≡ true
  more x [] g = absurd (true≢false (sym g))
  more x (y ∷ ys) g = g

pub cut_mark_bytes : (xs : List ℕ) → is_cut_mark (line_at xs) ≡ true → (token_width xs ≤ 4) × ((a b c : ℕ) × (rest : List ℕ) × (xs ≡ a ∷ b ∷ c ∷ 13 ∷ rest))
cut_mark_bytes xs h = by_line (line_at xs) refl h where
  run : (b : ℕ) (ys : List ℕ) → (nat_eq b 45 || nat_eq b 46) ≡ true → token_width (b ∷ ys) ≤ 4
  run b ys d =
      let bang : nat_eq b 33 ≡ false = grind (arith, nat_tests, d) in
      let is : token_width (b ∷ ys) ≡ run_width (suc (same b 2 ys)) ys =
      ap (λ q. cond q (suc (lead is_name (line_at ys))) (cond (nat_eq b 45 || nat_eq b 46) (run_width (suc (same b 2 ys)) ys) (cond (nat_eq b 58 || nat_eq b 13) 1 0))) bang
      ∙ ap (λ q. cond q (run_width (suc (same b 2 ys)) ys) (cond (nat_eq b 58 || nat_eq b 13) 1 0)) d in
      let most = same_most b 2 ys in
      let wide = by_test (nat_eq (suc (same b 2 ys)) 3 && begins_with 13 (drop 2 ys)) (suc (same b 2 ys)) (omega (arith, most)) in
      omega (arith, is, wide) where
        by_test : (q : Bool) (n : ℕ) → n ≤ 3 → cond q 4 n ≤ 4
        by_test true n l = omega arith
        by_test false n l = omega (arith, l)

  first_of : (a b c : ℕ) (rest : List ℕ) → is_cut_mark (a ∷ b ∷ c ∷ rest) ≡ true → ((nat_eq a 45 || nat_eq a 46) ≡ true) × (begins_with 13 rest ≡ true)
  first_of a b c rest k = by_tests (nat_eq a 45 || nat_eq a 46) (nat_eq a b) (nat_eq a c) k where
    by_tests : (p q r : Bool) → (p && (q && (r && begins_with 13 rest))) ≡ true → (p ≡ true) × (begins_with 13 rest ≡ true)
    by_tests true true true k = (refl, k)
    by_tests true true false k = absurd (true≢false (sym k))
    by_tests true false r k = absurd (true≢false (sym k))
    by_tests false q r k = absurd (true≢false (sym k))

  by_line : (ys : List ℕ) → line_at xs ≡ ys → is_cut_mark ys ≡ true → (token_width xs ≤ 4) × ((a b c : ℕ) × (rest : List ℕ) × (xs ≡ a ∷ b ∷ c ∷ 13 ∷ rest))
  by_line [] e k = absurd (true≢false (sym k))
  by_line (a ∷ []) e k = absurd (true≢false (sym k))
  by_line (a ∷ b ∷ []) e k = absurd (true≢false (sym k))
  by_line (a ∷ b ∷ c ∷ []) e k = let f = first_of a b c [] k in absurd (true≢false (sym f.1))
  by_line (a ∷ b ∷ c ∷ d ∷ ys) e k =
      let f = first_of a b c (d ∷ ys) k in
      let is : d ≡ 13 = byte_is d 13 f.1 in
      let (x1, e1, t1) = line_first xs a (b ∷ c ∷ d ∷ ys) e in
      let (x2, e2, t2) = line_first x1 b (c ∷ d ∷ ys) (sym t1) in
      let (x3, e3, t3) = line_first x2 c (d ∷ ys) (sym t2) in
      let (x4, e4, t4) = line_first x3 d ys (sym t3) in
      (subst (λ z. token_width z ≤ 4) (sym e1) (run a x1 f.0), (a, b, c, x4, e1 ∙ ap (λ z. a ∷ z) (e2 ∙ ap (λ z. b ∷ z) (e3 ∙ ap (λ z. c ∷ z) (e4 ∙ ap (λ z. z ∷ x4) is))))) where
        byte_is : (d k : ℕ) → nat_eq d k ≡ true → d ≡ k
        byte_is d k h = grind (arith, nat_tests, h)

-- ---- behind a key

line_feed : (xs : List ℕ) (n : ℕ) → n < length (line_at xs) → begins_with 10 (drop n xs) ≡ false
line_feed [] n l = absurd (omega (arith, l))
line_feed (b ∷ xs) n l = by_break (begins_break b xs) refl n l (λ m k. line_feed xs m k) where
  fed : (p q : Bool) → (p || q) ≡ false → p ≡ false
  fed false q h = refl
  fed true q h = absurd (true≢false h)

  by_break : (q : Bool) → begins_break b xs ≡ q → (n : ℕ) → n < length (cond q [] (b ∷ line_at xs)) → ((m : ℕ) → m < length (line_at xs) → begins_with 10 (drop m xs) ≡ false) → begins_with 10 (drop n (b ∷ xs)) ≡ false
  by_break true e n l f = absurd (omega (arith, l))
  by_break false e zero l f = fed (nat_eq b 10) (nat_eq b 13 && begins_with 10 xs) e
  by_break false e (suc n) l f = f n (omega (arith, l))

-- what ends on its line ends at no first column
pub stale_end : (text : List ℕ) (i at e : ℕ) → text_start text ≤ i → i ≤ at → at < e → e ≤ length text → e ≤ at + length (line_at (drop at text)) → is_first_column text e ≡ false
stale_end text i at e start low begun within near = rw (none, mark, line) refl where
  none : nat_eq e 0 ≡ false
  none = grind (arith, nat_tests, begun)

  mark : (nat_eq e 3 && begins_order_mark text) ≡ false
  mark = by_mark (begins_order_mark text) refl where
    by_mark : (q : Bool) → begins_order_mark text ≡ q → (nat_eq e 3 && q) ≡ false
    by_mark true h = let s : 3 ≤ i = subst (λ q. cond q 3 0 ≤ i) h start in let n : nat_eq e 3 ≡ false = past_three e (omega (arith, s, low, begun)) in ap (λ q. q && true) n where
      past_three : (e : ℕ) → 3 < e → nat_eq e 3 ≡ false
      past_three e l = grind (arith, nat_tests, l)
    by_mark false h = by_three (nat_eq e 3) where
      by_three : (q : Bool) → (q && false) ≡ false
      by_three true = refl
      by_three false = refl

  byte : begins_with 10 (drop (e - 1) text) ≡ false
  byte =
      let k : at + (e - 1 - at) ≡ e - 1 = omega (arith, begun) in
      ap (begins_with 10) (sym (drop-drop (e - 1 - at) at text ∙ ap (λ n. drop n text) k)) ∙ line_feed (drop at text) (e - 1 - at) (omega (arith, begun, near))

  line : nat_eq (slice_index text (e - 1)) 10 ≡ false
  line = sym (ap (begins_with 10) (byte_there text (e - 1) (omega (arith, begun, within)))) ∙ byte

-- where a place is the text's length, one before it is, if no carriage return ends the text
past_end : (text : List ℕ) (p : ℕ) → ends_with 13 text ≡ false → past_return text p ≡ length text → length text ≤ p
past_end text p last h = by_return (begins_with 13 (drop p text)) refl h where
  by_less : (n : ℕ) (q : Bool) → nat_lt n (length text) ≡ q → cond q n (length text) ≡ length text → length text ≤ n
  by_less n true e k = absurd (let l : n < length text = ltb-true n (length text) e in omega (arith, l, k))
  by_less n false e k = grind (arith, nat_tests, e)

  by_return : (r : Bool) → begins_with 13 (drop p text) ≡ r → (let q : ℕ = cond r (suc p) p in cond (nat_lt q (length text)) q (length text)) ≡ length text → length text ≤ p
  by_return false e k = by_less p (nat_lt p (length text)) refl k
  by_return true e k = let l = by_less (suc p) (nat_lt (suc p) (length text)) refl k in by_order (cases_lt p (length text)) l where
    by_order : (p < length text) ⊎ (length text ≤ p) → length text ≤ suc p → length text ≤ p
    by_order (inr m) l = m
    by_order (inl m) l = absurd (true≢false (sym e ∙ last_return text p (omega (arith, m, l)) last))

pub word_told : (t : Token) → starts_scalar t ≡ true → is_told t ≡ true
word_told Other e = refl
word_told (Point loose) e = refl
word_told End e = absurd (true≢false (sym e))
word_told Dashes e = absurd (true≢false (sym e))
word_told Dots e = absurd (true≢false (sym e))
word_told Tabbed e = absurd (true≢false (sym e))
word_told Stray e = absurd (true≢false (sym e))
word_told Dash e = refl
word_told (Tag len) e = refl
word_told NoTag e = refl
word_told (Opens map) e = refl
word_told (Closes map) e = refl
word_told Comma e = refl
word_told Anchor e = refl
word_told Percent e = refl

-- ---- keys

module _ (text : List ℕ) (utf8 : IsUtf8 text) (fs : List Form) (u : Unfinished) (i : ℕ) (cut : IsCharBoundary text i) where
  -- a key that fails: it is shown in the text where it fails within it
  pub fails_within : (s : Setting) (r : ℕ) → starts_scalar (ahead text false i).token ≡ true → scalar_at s text (ahead text false i).at ≡ Fails r → r < length text → ends_with 13 text ≡ false → length text ≤ ahead_seen text i → ⊥
  fails_within s r starts h l last far = by_mark (is_cut_mark (line_at (drop (ahead text false i).at text))) refl where
    wide : length text ≤ (ahead text false i).at + token_width (drop (ahead text false i).at text)
    wide =
        let w = subst (λ q. ahead_seen text i ≤ (ahead text false i).at + cond (q && ((ahead text false i).fresh || nat_lt 0 (ahead text false i).column)) (first_return (drop (ahead text false i).at text)) (token_width (drop (ahead text false i).at text))) (bare (ahead text false i).token starts)
        (ahead_wide text false i (word_inside (ahead text false i).token starts)) in
        omega (arith, w, far) where
          bare : (t : Token) → starts_scalar t ≡ true → is_stray t ≡ false
          bare Other e = refl
          bare (Point loose) e = refl
          bare End e = absurd (true≢false (sym e))
          bare Dashes e = absurd (true≢false (sym e))
          bare Dots e = absurd (true≢false (sym e))
          bare Tabbed e = absurd (true≢false (sym e))
          bare Stray e = absurd (true≢false (sym e))
          bare Dash e = absurd (true≢false (sym e))
          bare (Tag len) e = absurd (true≢false (sym e))
          bare NoTag e = absurd (true≢false (sym e))
          bare (Opens map) e = absurd (true≢false (sym e))
          bare (Closes map) e = absurd (true≢false (sym e))
          bare Comma e = absurd (true≢false (sym e))
          bare Anchor e = absurd (true≢false (sym e))
          bare Percent e = absurd (true≢false (sym e))

    by_mark : (q : Bool) → is_cut_mark (line_at (drop (ahead text false i).at text)) ≡ q → ⊥
    by_mark false k = let s = seen_fails s text false i r cut.0 starts h k in omega (arith, s, l, far)
    by_mark true k = let m = cut_mark_bytes (drop (ahead text false i).at text) k in returned m where
      returned : (token_width (drop (ahead text false i).at text) ≤ 4) × ((a b c : ℕ) × (rest : List ℕ) × (drop (ahead text false i).at text ≡ a ∷ b ∷ c ∷ 13 ∷ rest)) → ⊥
      returned (w, (a, b, c, [], e)) = true≢false (sym (ends_drop (ahead text false i).at text (a ∷ b ∷ c ∷ 13 ∷ []) e refl) ∙ last)
      returned (w, (a, b, c, x ∷ rest, e)) = let n = ap (λ (t : List ℕ). length t) e in omega (arith, w, wide, n, length-drop (ahead text false i).at text)

  pub key_lengthens : (a : Ahead) (z : Setting) (e : Stop) (column : ℕ) → top fs ≡ Entries column → Open fs u → a ≡ ahead text false i → a.fresh ≡ true → a.column ≡ column → starts_scalar a.token ≡ true → z ≡ as_key false → ((q : ℕ) → e ≡ stop.Unread q → FailedAt text z a q) → Lengthens text stage.After fs u i (Err e)
  key_lengthens a z e column form open_ here fresh col starts key fails = unread_on (LengthensAt text stage.After fs u i) (Err e) (λ q h last. (
    (λ g. by_length q last g (fails q (error_is (Err e) q refl h))),
    (λ l more longer. absurd (by_fail q last l (fails q (error_is (Err e) q refl h)))),
  )) where
    error_is : (r : Result Position Stop) (q : ℕ) → r ≡ Err e → r ≡ Err (stop.Unread q) → e ≡ stop.Unread q
    error_is r q g k = cc

    word : starts_scalar (ahead text false i).token ≡ true
    word = sym (ap (λ (b : Ahead). starts_scalar b.token) here) ∙ starts

    within_text : (ahead text false i).at < length text
    within_text = told_at text false i (word_told (ahead text false i).token word)

    there : (r : ℕ) → scalar_ahead text z a ≡ Fails r → scalar_at z text (ahead text false i).at ≡ Fails r
    there r h = ap (λ (b : Ahead). scalar_at z text b.at) (sym here) ∙ sym (ap (λ q. cond q (scalar_at z text a.at) (Fails a.at)) starts) ∙ h

    mend : ends_with 13 text ≡ false → scalar_at (as_key false) text (ahead text false i).at ≡ Fails (length text) → Mends text stage.After fs u i
    mend last h =
        inside (λ hs xs. Nests hs → Agrees hs xs → (more : List ℕ) × (each is_ascii more ≡ true) × (tree : Forest) × Ends (text ++ more) hs xs u.done i (Tree tree)) (Entries column) fs u.outer form (λ r. absurd (cc)) open_.0
        (λ gs x xs ns ag. key_completes gs x xs u.done text i cut.0 column (sym (ap (λ (b : Ahead). b.fresh) here) ∙ fresh) (sym (ap (λ (b : Ahead). b.column) here) ∙ col) word within_text last h ag ns) open_.1 open_.0

    by_length : (q : ℕ) → ends_with 13 text ≡ false → q ≡ length text → FailedAt text z a q → Mends text stage.After fs u i
    by_length q last g (inl (k, far)) = let l = within_text in let s = ap (λ (b : Ahead). b.at) here in absurd (omega (arith, l, s, far))
    by_length q last g (inr (r, w, h, k)) = by_less (nat_lt r (length text)) refl k where
      by_less : (c : Bool) → nat_lt r (length text) ≡ c → q ≡ cond c (within text (past_return text (widest (a.at + width a (drop a.at text)) r))) (length text) → Mends text stage.After fs u i
      by_less true c k = absurd (inner (past_return text (widest (a.at + width a (drop a.at text)) r)) k) where
        inner : (n : ℕ) → q ≡ within text n → ⊥
        inner n k = by_order (cases_lt n (length text)) where
          by_order : (n < length text) ⊎ (length text ≤ n) → ⊥
          by_order (inl l) = let y = k ∙ within_here text n l in omega (arith, y, l, g)
          by_order (inr l) = let y = k ∙ within_end text n l in let s = within_text in omega (arith, y, g, s)
      by_less false c k =
          let most = scalar_upper z text (ahead text false i).at r within_text (there r h) in
          let least : length text ≤ r = grind (arith, nat_tests, c) in
          let end : r ≡ length text = omega (arith, most, least) in
          mend last (ap (λ s. scalar_at s text (ahead text false i).at) (sym key) ∙ there r h ∙ ap Fails end)

    by_fail : (q : ℕ) → ends_with 13 text ≡ false → IsLast text i q → FailedAt text z a q → ⊥
    by_fail q last l (inl (g, k)) = let y = l.0 in omega (arith, y, g)
    by_fail q last l (inr (r, w, h, k)) = by_less (nat_lt r (length text)) refl k where
      by_less : (c : Bool) → nat_lt r (length text) ≡ c → q ≡ cond c (within text (past_return text (widest (a.at + width a (drop a.at text)) r))) (length text) → ⊥
      by_less false c g = let y = l.0 in omega (arith, y, g)
      by_less true c g = fails_within z r word (there r h) (ltb-true r (length text) c) last (l.1 last)

  -- one without its colon ends behind what shows it
  module _ (a : Ahead) (column : ℕ) (t : List ℕ) (e : ℕ) (seen : IsSeen text false i a) (form : top fs ≡ Entries column) (st : scalar_ahead text (as_key false) a ≡ Spans t e) (begun : a.at < e) (there : IsCharBoundary text e) where
    abbrev shown_at : ℕ
    shown_at = e + lead is_white (line_at (drop e text))

    shown_within : shown_at ≤ length text
    shown_within =
        let l = lead_line (drop e text) in
        let b = there.0 in
        omega (arith, l, b, length-drop e text) where
          lead_line : (xs : List ℕ) → lead is_white (line_at xs) ≤ length xs
          lead_line [] = omega arith
          lead_line (b ∷ xs) = by_break (begins_break b xs) (lead_line xs) where
            by_white : (q : Bool) → lead is_white (line_at xs) ≤ length xs → cond q (suc (lead is_white (line_at xs))) 0 ≤ suc (length xs)
            by_white true h = omega (arith, h)
            by_white false h = omega arith

            by_break : (q : Bool) → lead is_white (line_at xs) ≤ length xs → lead is_white (cond q [] (b ∷ line_at xs)) ≤ suc (length xs)
            by_break true h = omega arith
            by_break false h = by_white (is_white b) h

    stale : text_start text ≤ i → is_first_column text e ≡ false
    stale start = stale_end text i a.at e start (seen.1.0) begun there.0 (key_within text a.at t e (starts_of text (as_key false) a t e st).1)

    -- where nothing but white space stands behind it a colon mends the text
    colon_mends : Open fs u → a.fresh ≡ true → a.column ≡ column → has_key u.done t ≡ false → is_first_column text e ≡ false → shown_at ≡ length text → Mends text stage.After fs u i
    colon_mends open_ fresh col new stale end =
        let blank : is_blank (drop e text) ≡ true = white_front (drop e text) [] (ap (λ r. lead is_white (line_at r)) (append-nil (drop e text)) ∙ (let z : lead is_white (line_at (drop e text)) ≡ length (drop e text) = omega (arith, end, length-drop e text) in z)) in
        inside (λ hs xs. Nests hs → Agrees hs xs → (more : List ℕ) × (each is_ascii more ≡ true) × (tree : Forest) × Ends (text ++ more) hs xs u.done i (Tree tree)) (Entries column) fs u.outer form (λ r. absurd (cc)) open_.0
        (λ gs x xs ns ag. (let w = colon_completes column gs x xs u.done text i t e cut.0 (sym (ap (λ (b : Ahead). b.fresh) seen.0) ∙ fresh) (sym (ap (λ (b : Ahead). b.column) seen.0) ∙ col) (subst (λ (b : Ahead). scalar_ahead text (as_key false) b ≡ Spans t e) seen.0 st) (subst (λ (b : Ahead). b.at < e) seen.0 begun) there.0 blank stale new ag ns in (58 ∷ [], refl, w.0, w.1))) open_.1 open_.0

    -- a colon that ends the text is one of the key
    colon_last : is_first_column text e ≡ false → begins_with 58 (drop shown_at text) ≡ true → suc shown_at ≡ length text → ((ahead text false e).fresh ≡ false → (ahead text false e).token ≡ Point true → ⊥) → ⊥
    colon_last stale colon end none = by_parts (parted text shown_at (omega (arith, end))) where
      by_parts : (before behind : List ℕ) × (b : ℕ) × (text ≡ before ++ (b ∷ behind)) × (length before ≡ shown_at) → ⊥
      by_parts (before, behind, b, f, size) =
          let long = ap (λ (y : List ℕ). length y) f in
          let nil : behind ≡ [] = empty behind (omega (arith, long, size, end, length-append before (b ∷ behind))) in
          let is : b ≡ 58 = byte_is b behind (sym (ap (begins_with 58) (ap (λ k. drop k text) (sym size) ∙ ap (drop (length before)) f ∙ drop_whole before (b ∷ behind))) ∙ colon) in
          let whole : text ≡ before ++ (58 ∷ []) = f ∙ ap (λ r. before ++ (b ∷ r)) nil ∙ ap (λ k. before ++ (k ∷ [])) is in
          let low : e ≤ length before = omega (arith, size) in
          let here : drop e text ≡ drop e before ++ (58 ∷ []) = ap (drop e) whole ∙ drop_before e before (58 ∷ []) low in
          let blank : is_blank (drop e before) ≡ true = white_front (drop e before) (58 ∷ []) (ap (λ r. lead is_white (line_at r)) (sym here) ∙ (let z : lead is_white (line_at (drop e text)) ≡ length (drop e before) = omega (arith, size, length-drop e before) in z)) in
          let stale2 : is_first_column before e ≡ false = sym (column_longer before (58 ∷ []) e low) ∙ ap (λ y. is_first_column y e) (sym whole) ∙ stale in
          let c : ahead text false e ≡ token_at (Point true) false (length (drop e before)) (e + length (drop e before)) = ap (λ y. ahead y false e) whole ∙ colon_ahead before e low blank stale2 in
          none (ap (λ (x : Ahead). x.fresh) c) (ap (λ (x : Ahead). x.token) c) where
            empty : (r : List ℕ) → length r ≡ 0 → r ≡ []
            empty [] k = refl
            empty (x ∷ r) k = absurd (omega (arith, k))

            byte_is : (b : ℕ) (r : List ℕ) → begins_with 58 (b ∷ r) ≡ true → b ≡ 58
            byte_is b r h = grind (arith, nat_tests, h)

    pub colon_lengthens : (q : ℕ) → text_start text ≤ i → Open fs u → a.fresh ≡ true → a.column ≡ column → has_key u.done t ≡ false → ((ahead text false e).fresh ≡ false → (ahead text false e).token ≡ Point true → ⊥) → q ≡ colon_place text e → Lengthens text stage.After fs u i (Err (stop.Unread q))
    colon_lengthens q start open_ fresh col new none eq = λ last. (
      (λ g. by_colon last (begins_with 58 (drop shown_at text)) refl (sym eq ∙ g)),
      (λ l more longer. absurd (past (l.1 last) l.0)),
    ) where
      by_colon : ends_with 13 text ≡ false → (c : Bool) → begins_with 58 (drop shown_at text) ≡ c → past_return text (cond (begins_with 58 (drop shown_at text)) (suc shown_at) shown_at) ≡ length text → Mends text stage.After fs u i
      by_colon last false c h =
          let far = past_end text shown_at last (sym (ap (λ r. past_return text (cond r (suc shown_at) shown_at)) c) ∙ h) in
          let near = shown_within in
          colon_mends open_ fresh col new (stale start) (omega (arith, far, near))
      by_colon last true c h =
          let far = past_end text (suc shown_at) last (sym (ap (λ r. past_return text (cond r (suc shown_at) shown_at)) c) ∙ h) in
          let some = some_byte (drop shown_at text) c in
          absurd (colon_last (stale start) c (omega (arith, far, some, length-drop shown_at text)) none) where
            some_byte : (xs : List ℕ) → begins_with 58 xs ≡ true → 0 < length xs
            some_byte [] k = absurd (true≢false (sym k))
            some_byte (x ∷ xs) k = omega arith

      past : length text ≤ ahead_seen text i → suc q ≡ length text → ⊥
      past far k =
          let from = scalar_from text false i a seen cut (as_key false) t e st begun there in
          let b = there.0 in
          let end : e ≡ length text = omega (arith, far, from, b) in
          let none : drop e text ≡ [] = drop_all e text (omega (arith, end)) in
          let white : shown_at ≡ length text = ap (λ r. e + lead is_white (line_at r)) none ∙ (let z : e + 0 ≡ length text = omega (arith, end) in z) in
          let bare : begins_with 58 (drop shown_at text) ≡ false = ap (begins_with 58) (drop_all shown_at text (omega (arith, white))) in
          let is : q ≡ past_return text shown_at = eq ∙ ap (λ r. past_return text (cond r (suc shown_at) shown_at)) bare in
          by_passed white is (passed_return text shown_at) where
            by_passed : shown_at ≡ length text → q ≡ past_return text shown_at → IsPassed text shown_at (past_return text shown_at) → ⊥
            by_passed w is (inl z) = omega (arith, is, z, k)
            by_passed w is (inr (l, past)) = let o = past_less text shown_at (past_return text shown_at) past in omega (arith, o, l, w)
