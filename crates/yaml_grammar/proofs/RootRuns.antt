-- A root that is a `-`, or a scalar of one or two dashes or dots, and ends the text is a document. By the bytes.
use Rattle.std.proofs.Common.{◌≡◌, ℕ, suc, ◌+◌, ◌-◌, ◌≤◌, inl, inr, Bool, true, false, ◌||◌, ◌&&◌, not, cond, nat_eq, nat_lt, arith, List, [], ◌∷◌, ◌++◌, drop, length, refl, sym, ap, ◌∙◌, subst, true≢false, None, length-drop}
use Rattle.std.proofs.lemmas.Bool.Decides.{nat_tests}
use Rattle.std.specs.Prelude.{Option, slice_index}
use Rattle.std.specs.Str.{IsCharBoundary, IsUtf8}
use Rattle.doc_values.specs.declared.kind.Kind.TheVariants as kind
use Rattle.decimals.specs.declared.decimal.Num.{Num}
use Rattle.decimals.specs.Number.{is_digit, minus_text, IsWholePart, fraction_text, IsNumber}
use Rattle.doc_values.specs.Tree.{Forest, Nil, Node, snoc}
use Rattle.doc_values.specs.Unfinished.{Level, Unfinished}
use Rattle.yaml_scalars.specs.Lines.{Fails, Stands, begins_with, ends_with, is_mark, is_white, lead, lines}
use Rattle.yaml_scalars.specs.Kinds.{IsTrueWord, IsFalseWord, IsNullWord, IsSignedNumber, IsPlainKind}
use Rattle.yaml_scalars.specs.Plain.{plain_on}
use Rattle.yaml_scalars.specs.Scalar.{HasKind, begins_block, begins_order_mark, begins_quoted, block_scalar, is_first_column, is_typed, quoted_scalar, scalar_at}
use Rattle.yaml_scalars.specs.code.Walk.{line_at}
use Rattle.yaml_scalars.specs.Block.{same}
use Rattle.yaml_grammar.specs.declared.ahead.Ahead.{Ahead}
use Rattle.yaml_grammar.specs.declared.ahead.Token.{Token}
use Rattle.yaml_grammar.specs.declared.ahead.Token.TheVariants.{Dash, Other}
use Rattle.yaml_grammar.specs.declared.form.Form.{Form}
use Rattle.yaml_grammar.specs.declared.form.Form.TheVariants.{Root}
use Rattle.yaml_grammar.specs.Ahead.{is_name, token_of, token_len, line_ahead, rest_ahead, ahead}
use Rattle.yaml_grammar.specs.Nodes.{leaf, collection, setting_of, scalar_ahead, starts_scalar}
use Rattle.yaml_grammar.specs.Signs.{Reading, Tree, To}
use Rattle.yaml_grammar.specs.Yaml.{IsStart, text_start}
use Rattle.yaml_grammar.specs.code.AheadSeen.{ahead_seen, first_return, is_told}
use Rattle.yaml_grammar.specs.code.Extends.{begins_firm}
use Rattle.yaml_grammar.specs.code.Rest.{Awaits}
use Rattle.yaml_grammar.specs.code.StopPlaces.{run_width, token_width, width}
use Rattle.yaml_grammar.specs.code.Steps.{Agrees}
use Rattle.yaml_grammar.proofs.BlockRests.{scalar_awaits}
use Rattle.yaml_grammar.proofs.Continuations.{block_ends}
use Rattle.yaml_grammar.proofs.FirstMarks.{first_unmarked}
use Rattle.yaml_grammar.proofs.FirstTokens.{first_byte, first_plain}
use Rattle.yaml_grammar.proofs.KeyEnds.{line_fresh}
use Rattle.yaml_grammar.proofs.Lengthened.{ends_drop, told_at}
use Rattle.yaml_grammar.proofs.Placed.{placed}
use Rattle.yaml_grammar.proofs.RootLonger.{told_calm}
use Rattle.yaml_grammar.proofs.Runs.{IsRun, run_of}
use Rattle.yaml_grammar.proofs.ShownTokens.{ahead_wide}
use Rattle.yaml_grammar.proofs.SyntaxPlaces.{end_there}

-- ---- bytes that are looked at as far as their end

run_bytes : (b : ℕ) (bs : List ℕ) → begins_firm (b ∷ bs) ≡ false → (b ≡ 13 → ⊥) → ends_with 13 (b ∷ bs) ≡ false → suc (length bs) ≤ token_width (b ∷ bs) → IsRun (b ∷ bs)
run_bytes b bs firm feed e l = by_tests (nat_eq b 33) (nat_eq b 45) (nat_eq b 46) (nat_eq b 58) (nat_eq b 13) refl refl refl refl firm l where
  by_tests : (p q r s t : Bool) → nat_eq b 45 ≡ q → nat_eq b 46 ≡ r → nat_eq b 13 ≡ t → nat_eq b 58 ≡ s → (s || p) ≡ false
      → suc (length bs) ≤ cond p (suc (lead is_name (line_at bs))) (cond (q || r) (run_width (suc (same b 2 bs)) bs) (cond (s || t) 1 0)) → IsRun (b ∷ bs)
  by_tests true q r true t i j m n f l = absurd (true≢false f)
  by_tests true q r false t i j m n f l = absurd (true≢false f)
  by_tests false true r s t i j m n f l = run_of b bs (inl (grind (arith, nat_tests, i))) e l
  by_tests false false true s t i j m n f l = run_of b bs (inr (grind (arith, nat_tests, j))) e l
  by_tests false false false true t i j m n f l = absurd (true≢false f)
  by_tests false false false false true i j m n f l = absurd (feed (grind (arith, nat_tests, m)))
  by_tests false false false false false i j m n f l = absurd (omega (arith, l))

-- ---- such a scalar is a text

dot_number : (r : List ℕ) (n : Num) → IsNumber (46 ∷ r) n → ⊥
dot_number r n h = by_parts h.parts.minus h.parts.whole (fraction_text h.parts.fraction ++ h.spelled.exponent) h.spelled.whole h.spelled.joined where
  by_parts : (minus : Bool) (whole rest : List ℕ) → IsWholePart whole → 46 ∷ r ≡ minus_text minus ++ (whole ++ rest) → ⊥
  by_parts true whole rest w e = true≢false (ap (begins_with 46) e)
  by_parts false [] rest w e = w
  by_parts false (d ∷ ds) rest w e = let z = ap (begins_with 46) e in let k : d ≡ 46 = grind (arith, nat_tests, z) in true≢false (sym w.0 ∙ ap is_digit k)

dash_number : (r : List ℕ) (n : Num) → IsNumber (45 ∷ 45 ∷ r) n → ⊥
dash_number r n h = by_parts h.parts.minus h.parts.whole (fraction_text h.parts.fraction ++ h.spelled.exponent) h.spelled.whole h.spelled.joined where
  by_parts : (minus : Bool) (whole rest : List ℕ) → IsWholePart whole → 45 ∷ 45 ∷ r ≡ minus_text minus ++ (whole ++ rest) → ⊥
  by_parts true [] rest w e = w
  by_parts true (d ∷ ds) rest w e = let z = ap (λ t. begins_with 45 (drop 1 t)) e in let k : d ≡ 45 = grind (arith, nat_tests, z) in true≢false (sym w.0 ∙ ap is_digit k)
  by_parts false [] rest w e = w
  by_parts false (d ∷ ds) rest w e = let z = ap (begins_with 45) e in let k : d ≡ 45 = grind (arith, nat_tests, z) in true≢false (sym w.0 ∙ ap is_digit k)

dot_null : (r : List ℕ) → IsNullWord (46 ∷ r) → ⊥
dot_null r (inl e) = true≢false (ap (begins_with 46) e)
dot_null r (inr (inl e)) = true≢false (ap (begins_with 46) e)
dot_null r (inr (inr (inl e))) = true≢false (ap (begins_with 46) e)
dot_null r (inr (inr (inr (inl e)))) = true≢false (ap (begins_with 46) e)
dot_null r (inr (inr (inr (inr e)))) = true≢false (ap (begins_with 46) e)

dot_true : (r : List ℕ) → IsTrueWord (46 ∷ r) → ⊥
dot_true r (inl e) = true≢false (ap (begins_with 46) e)
dot_true r (inr (inl e)) = true≢false (ap (begins_with 46) e)
dot_true r (inr (inr e)) = true≢false (ap (begins_with 46) e)

dot_false : (r : List ℕ) → IsFalseWord (46 ∷ r) → ⊥
dot_false r (inl e) = true≢false (ap (begins_with 46) e)
dot_false r (inr (inl e)) = true≢false (ap (begins_with 46) e)
dot_false r (inr (inr e)) = true≢false (ap (begins_with 46) e)

dot_signed : (r : List ℕ) (n : Num) → IsSignedNumber (46 ∷ r) n → ⊥
dot_signed r n (inl h) = dot_number r n h
dot_signed r n (inr (rest, e, k, h)) = true≢false (ap (begins_with 46) e)

dot_kind : (r : List ℕ) → IsPlainKind (46 ∷ r) kind.Text
dot_kind r = (dot_null r, dot_true r, dot_false r, λ n h. dot_signed r n h)

dash_null : (r : List ℕ) → IsNullWord (45 ∷ 45 ∷ r) → ⊥
dash_null r (inl e) = true≢false (ap (begins_with 45) e)
dash_null r (inr (inl e)) = true≢false (ap (begins_with 45) e)
dash_null r (inr (inr (inl e))) = true≢false (ap (begins_with 45) e)
dash_null r (inr (inr (inr (inl e)))) = true≢false (ap (begins_with 45) e)
dash_null r (inr (inr (inr (inr e)))) = true≢false (ap (begins_with 45) e)

dash_true : (r : List ℕ) → IsTrueWord (45 ∷ 45 ∷ r) → ⊥
dash_true r (inl e) = true≢false (ap (begins_with 45) e)
dash_true r (inr (inl e)) = true≢false (ap (begins_with 45) e)
dash_true r (inr (inr e)) = true≢false (ap (begins_with 45) e)

dash_false : (r : List ℕ) → IsFalseWord (45 ∷ 45 ∷ r) → ⊥
dash_false r (inl e) = true≢false (ap (begins_with 45) e)
dash_false r (inr (inl e)) = true≢false (ap (begins_with 45) e)
dash_false r (inr (inr e)) = true≢false (ap (begins_with 45) e)

dash_signed : (r : List ℕ) (n : Num) → IsSignedNumber (45 ∷ 45 ∷ r) n → ⊥
dash_signed r n (inl h) = dash_number r n h
dash_signed r n (inr (rest, e, k, h)) = true≢false (ap (begins_with 45) e)

dash_kind : (r : List ℕ) → IsPlainKind (45 ∷ 45 ∷ r) kind.Text
dash_kind r = (dash_null r, dash_true r, dash_false r, λ n h. dash_signed r n h)

-- ---- the root

-- it begins a line
start_fresh : (text : List ℕ) (i : ℕ) → IsStart text i → (ahead text false i).fresh ≡ true
start_fresh text i (inl (d, e, f)) = f
start_fresh text i (inr (n, e)) = ap (λ k. (ahead text false k).fresh) e ∙ at_start where
  column : is_first_column text (text_start text) ≡ true
  column = by_mark (begins_order_mark text) refl where
    by_mark : (q : Bool) → begins_order_mark text ≡ q → (nat_eq (cond q 3 0) 0 || (nat_eq (cond q 3 0) 3 && begins_order_mark text) || nat_eq (slice_index text (cond q 3 0 - 1)) 10) ≡ true
    by_mark true h = ap (λ q. (q || nat_eq (slice_index text 2) 10)) h
    by_mark false h = refl

  at_start : (ahead text false (text_start text)).fresh ≡ true
  at_start = ap (λ q. (cond q (line_ahead false (length text) (lines (text_start text) (drop (text_start text) text))) (rest_ahead false (length text) (lines (text_start text) (drop (text_start text) text)))).fresh) column ∙ line_fresh false (length text) (lines (text_start text) (drop (text_start text) text))

module _ (text : List ℕ) (i : ℕ) (key : Option (List ℕ)) (done : Forest) (fresh : (ahead text false i).fresh ≡ true) where
  -- with a scalar that ends the text
  scalar_reading : (b : ℕ) (bs : List ℕ) → drop (ahead text false i).at text ≡ b ∷ bs → (ahead text false i).token ≡ Other → scalar_at (setting_of Root) text (ahead text false i).at ≡ Stands (b ∷ bs) (length text) → is_typed (setting_of Root) text (ahead text false i).at ≡ true → IsPlainKind (b ∷ bs) kind.Text
      → (v : Reading) × Awaits text [] [] done key i v
  scalar_reading b bs e o st typed k =
      let l = leaf kind.Text (b ∷ bs) key (ahead text false i).at in
      let r = block_ends [] [] (snoc done l Nil) text (length text) (inl (end_there text)) tt tt tt in
      let found : scalar_ahead text (setting_of Root) (ahead text false i) ≡ Stands (b ∷ bs) (length text) = ap (λ t. cond (starts_scalar t) (scalar_at (setting_of Root) text (ahead text false i).at) (Fails (ahead text false i).at)) o ∙ st in
      (Tree r.0, scalar_awaits text [] [] Root refl tt done key i (Tree r.0) (b ∷ bs) kind.Text (length text) fresh found (subst (λ q. HasKind q (b ∷ bs) kind.Text) (sym typed) k) (l, Nil, To (length text), (refl, refl, refl), r.1))

  -- with a `-`
  dash_reading : (ahead text false i).token ≡ Dash → (ahead text false i).behind ≡ length text → (v : Reading) × Awaits text [] [] done key i v
  dash_reading d e =
      let a = ahead text false i in
      let inner = leaf kind.Null [] None a.behind in
      let l = collection false key a.at in
      let kids = Node inner Nil Nil in
      let r = block_ends [] [] (snoc done l kids) text a.behind (inl (ap (λ n. (ahead text false n).token) e ∙ end_there text)) tt tt tt in
      (Tree r.0, (l, kids, To a.behind, inr (inl (fresh, inl (omega arith, refl, (None, a.behind, To a.behind, (d, tt, refl, refl), inl (refl, refl, refl), (refl, refl))))), r.1))

-- ---- such a scalar

module _ (text : List ℕ) (at : ℕ) where
  stands : (xs : List ℕ) → drop at text ≡ xs → at + length xs ≡ length text → begins_quoted xs ≡ false → begins_block (setting_of Root) xs ≡ false → ((fresh : Bool) → plain_on (setting_of Root) fresh (lines at xs) ≡ Stands xs (at + length xs))
      → (scalar_at (setting_of Root) text at ≡ Stands xs (length text)) × (is_typed (setting_of Root) text at ≡ true)
  stands xs e size quoted block plain = (
    ap (λ ys. cond (begins_quoted ys) (quoted_scalar (setting_of Root) text at) (cond (begins_block (setting_of Root) ys) (block_scalar (setting_of Root) text at) (plain_on (setting_of Root) (is_first_column text at) (lines at ys)))) e
        ∙ ap (λ q. cond q (quoted_scalar (setting_of Root) text at) (cond (begins_block (setting_of Root) xs) (block_scalar (setting_of Root) text at) (plain_on (setting_of Root) (is_first_column text at) (lines at xs)))) quoted
        ∙ ap (λ q. cond q (block_scalar (setting_of Root) text at) (plain_on (setting_of Root) (is_first_column text at) (lines at xs))) block ∙ plain (is_first_column text at) ∙ ap (λ n. Stands xs n) size,
    ap (λ ys. not (begins_quoted ys || begins_block (setting_of Root) ys)) e ∙ ap (λ q. not (q || begins_block (setting_of Root) xs)) quoted ∙ ap (λ q. not (false || q)) block,
  )

  dot : (fresh : Bool) → plain_on (setting_of Root) fresh (lines at (46 ∷ [])) ≡ Stands (46 ∷ []) (at + 1)
  dot true = refl
  dot false = refl

  dots : (fresh : Bool) → plain_on (setting_of Root) fresh (lines at (46 ∷ 46 ∷ [])) ≡ Stands (46 ∷ 46 ∷ []) (at + 2)
  dots true = refl
  dots false = refl

  dashes : (fresh : Bool) → plain_on (setting_of Root) fresh (lines at (45 ∷ 45 ∷ [])) ≡ Stands (45 ∷ 45 ∷ []) (at + 2)
  dashes true = refl
  dashes false = refl

  -- three of them stand where no line begins
  three_stand : (xs : List ℕ) → drop at text ≡ xs → at + length xs ≡ length text → begins_quoted xs ≡ false → begins_block (setting_of Root) xs ≡ false → is_first_column text at ≡ false → plain_on (setting_of Root) false (lines at xs) ≡ Stands xs (at + length xs)
      → (scalar_at (setting_of Root) text at ≡ Stands xs (length text)) × (is_typed (setting_of Root) text at ≡ true)
  three_stand xs e size quoted block stale plain = (
    ap (λ ys. cond (begins_quoted ys) (quoted_scalar (setting_of Root) text at) (cond (begins_block (setting_of Root) ys) (block_scalar (setting_of Root) text at) (plain_on (setting_of Root) (is_first_column text at) (lines at ys)))) e
        ∙ ap (λ q. cond q (quoted_scalar (setting_of Root) text at) (cond (begins_block (setting_of Root) xs) (block_scalar (setting_of Root) text at) (plain_on (setting_of Root) (is_first_column text at) (lines at xs)))) quoted
        ∙ ap (λ q. cond q (block_scalar (setting_of Root) text at) (plain_on (setting_of Root) (is_first_column text at) (lines at xs))) block ∙ ap (λ q. plain_on (setting_of Root) q (lines at xs)) stale ∙ plain ∙ ap (λ n. Stands xs n) size,
    ap (λ ys. not (begins_quoted ys || begins_block (setting_of Root) ys)) e ∙ ap (λ q. not (q || begins_block (setting_of Root) xs)) quoted ∙ ap (λ q. not (false || q)) block,
  )

  three_dots : plain_on (setting_of Root) false (lines at (46 ∷ 46 ∷ 46 ∷ [])) ≡ Stands (46 ∷ 46 ∷ 46 ∷ []) (at + 3)
  three_dots = refl

  three_dashes : plain_on (setting_of Root) false (lines at (45 ∷ 45 ∷ 45 ∷ [])) ≡ Stands (45 ∷ 45 ∷ 45 ∷ []) (at + 3)
  three_dashes = refl

-- the token that bytes begin with
abbrev token_from : List ℕ → Token
token_from [] = Other
token_from (b ∷ rest) = token_of false (b ∷ line_at rest)

-- so where what is ahead of the root is looked at as far as the text's end, a document follows
pub root_reading : (text : List ℕ) (fs : List Form) (u : Unfinished) (i : ℕ) → IsUtf8 text → IsCharBoundary text i → text_start text ≤ i → fs ≡ [] → Agrees fs u.outer → IsStart text i → is_told (ahead text false i).token ≡ true → begins_firm (drop (ahead text false i).at text) ≡ false → ends_with 13 text ≡ false → length text ≤ ahead_seen text i → (v : Reading) × Awaits text fs u.outer u.done u.key i v
root_reading text fs u i utf8 cut late none agrees begun told firm last far = subst (λ gs. Agrees gs u.outer → (v : Reading) × Awaits text gs u.outer u.done u.key i v) (sym none) (λ a. by_outer u.outer a) agrees where
  at : ℕ
  at = (ahead text false i).at

  fresh : (ahead text false i).fresh ≡ true
  fresh = start_fresh text i begun

  size_of : (xs : List ℕ) → drop (ahead text false i).at text ≡ xs → (ahead text false i).at + length xs ≡ length text
  size_of xs e = let l = told_at text false i told in let n = ap (λ (t : List ℕ). length t) e in omega (arith, l, n, length-drop (ahead text false i).at text)

  -- three of them at a first column are a mark
  stale : (q : Bool) → is_first_column text (ahead text false i).at ≡ q → is_mark (line_at (drop (ahead text false i).at text)) ≡ true → is_first_column text (ahead text false i).at ≡ false
  stale true e m = absurd (true≢false (sym m ∙ first_unmarked text false i told e))
  stale false e m = e

  run : (b : ℕ) (rest : List ℕ) → drop (ahead text false i).at text ≡ b ∷ rest → (ahead text false i).token ≡ token_of false (b ∷ line_at rest) → IsRun (b ∷ rest)
  run b rest e tok = run_bytes b rest (sym (ap begins_firm e) ∙ firm) (first_plain false b (line_at rest) (sym (ap is_told tok) ∙ told)).0 (ended (ends_with 13 (b ∷ rest)) refl) wide where
    ended : (q : Bool) → ends_with 13 (b ∷ rest) ≡ q → ends_with 13 (b ∷ rest) ≡ false
    ended true k = absurd (true≢false (sym (ends_drop (ahead text false i).at text (b ∷ rest) e k) ∙ last))
    ended false k = k

    wide : suc (length rest) ≤ token_width (b ∷ rest)
    wide =
        let a : Ahead = ahead text false i in
        let z = ahead_wide text false i (told_calm (ahead text false i).token told).0 in
        let w : width a (drop a.at text) ≡ token_width (b ∷ rest) = ap (λ q. cond (q && (a.fresh || nat_lt 0 a.column)) (first_return (drop a.at text)) (token_width (drop a.at text))) (told_calm (ahead text false i).token told).1 ∙ ap token_width e in
        let n = size_of (b ∷ rest) e in
        omega (arith, z, w, far, n)

  by_run : (xs : List ℕ) → drop (ahead text false i).at text ≡ xs → (ahead text false i).token ≡ token_from xs → IsRun xs → (v : Reading) × Awaits text [] [] u.done u.key i v
  by_run xs e tok (b, inl k, inl shape) =
      let z : xs ≡ 45 ∷ [] = shape ∙ ap (λ c. c ∷ []) k in
      let d : (ahead text false i).token ≡ Dash = tok ∙ ap token_from z in
      let n = size_of (45 ∷ []) (e ∙ z) in
      let w = (placed text false i utf8 cut).3 ∙ ap (λ t. (ahead text false i).at + token_len t) d in
      dash_reading text i u.key u.done fresh d (omega (arith, n, w))
  by_run xs e tok (b, inr k, inl shape) =
      let z : xs ≡ 46 ∷ [] = shape ∙ ap (λ c. c ∷ []) k in
      let s = stands text (ahead text false i).at (46 ∷ []) (e ∙ z) (size_of (46 ∷ []) (e ∙ z)) refl refl (dot text (ahead text false i).at) in
      scalar_reading text i u.key u.done fresh 46 [] (e ∙ z) (tok ∙ ap token_from z) s.0 s.1 (dot_kind [])
  by_run xs e tok (b, inl k, inr (inl shape)) =
      let z : xs ≡ 45 ∷ 45 ∷ [] = shape ∙ ap (λ c. c ∷ c ∷ []) k in
      let s = stands text (ahead text false i).at (45 ∷ 45 ∷ []) (e ∙ z) (size_of (45 ∷ 45 ∷ []) (e ∙ z)) refl refl (dashes text (ahead text false i).at) in
      scalar_reading text i u.key u.done fresh 45 (45 ∷ []) (e ∙ z) (tok ∙ ap token_from z) s.0 s.1 (dash_kind [])
  by_run xs e tok (b, inr k, inr (inl shape)) =
      let z : xs ≡ 46 ∷ 46 ∷ [] = shape ∙ ap (λ c. c ∷ c ∷ []) k in
      let s = stands text (ahead text false i).at (46 ∷ 46 ∷ []) (e ∙ z) (size_of (46 ∷ 46 ∷ []) (e ∙ z)) refl refl (dots text (ahead text false i).at) in
      scalar_reading text i u.key u.done fresh 46 (46 ∷ []) (e ∙ z) (tok ∙ ap token_from z) s.0 s.1 (dot_kind (46 ∷ []))
  by_run xs e tok (b, inl k, inr (inr shape)) =
      let z : xs ≡ 45 ∷ 45 ∷ 45 ∷ [] = shape ∙ ap (λ c. c ∷ c ∷ c ∷ []) k in
      let s = three_stand text (ahead text false i).at (45 ∷ 45 ∷ 45 ∷ []) (e ∙ z) (size_of (45 ∷ 45 ∷ 45 ∷ []) (e ∙ z)) refl refl (stale (is_first_column text (ahead text false i).at) refl (ap (λ t. is_mark (line_at t)) (e ∙ z))) (three_dashes text (ahead text false i).at) in
      scalar_reading text i u.key u.done fresh 45 (45 ∷ 45 ∷ []) (e ∙ z) (tok ∙ ap token_from z) s.0 s.1 (dash_kind (45 ∷ []))
  by_run xs e tok (b, inr k, inr (inr shape)) =
      let z : xs ≡ 46 ∷ 46 ∷ 46 ∷ [] = shape ∙ ap (λ c. c ∷ c ∷ c ∷ []) k in
      let s = three_stand text (ahead text false i).at (46 ∷ 46 ∷ 46 ∷ []) (e ∙ z) (size_of (46 ∷ 46 ∷ 46 ∷ []) (e ∙ z)) refl refl (stale (is_first_column text (ahead text false i).at) refl (ap (λ t. is_mark (line_at t)) (e ∙ z))) (three_dots text (ahead text false i).at) in
      scalar_reading text i u.key u.done fresh 46 (46 ∷ 46 ∷ []) (e ∙ z) (tok ∙ ap token_from z) s.0 s.1 (dot_kind (46 ∷ 46 ∷ []))

  reading : (v : Reading) × Awaits text [] [] u.done u.key i v
  reading = by_byte (first_byte text false i told) where
    by_byte : (b : ℕ) × (rest : List ℕ) × (drop (ahead text false i).at text ≡ b ∷ rest) × (is_white b ≡ false) × ((ahead text false i).token ≡ token_of false (b ∷ line_at rest)) → (v : Reading) × Awaits text [] [] u.done u.key i v
    by_byte (b, rest, e, black, tok) = by_run (b ∷ rest) e tok (run b rest e tok)

  by_outer : (outer : List Level) → Agrees [] outer → (v : Reading) × Awaits text [] outer u.done u.key i v
  by_outer [] a = reading
  by_outer (x ∷ xs) a = absurd a
