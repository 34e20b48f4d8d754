-- A scalar that is cut at its dot in a text with a carriage return and a line feed at its end is a text with a dot in each longer text where it stands. By the cases of scalars.
use Rattle.std.proofs.Common.{◌≡◌, ℕ, suc, ◌+◌, ◌<◌, ◌≤◌, inl, inr, Bool, true, false, ◌||◌, ◌&&◌, not, cond, arith, List, [], ◌∷◌, ◌++◌, drop, length, refl, sym, ap, ◌∙◌, subst, append_assoc, length-drop}
use Rattle.std.specs.Prelude.{IsUtf8}
use Rattle.doc_values.specs.declared.kind.Kind.TheVariants as kind
use Rattle.yaml_scalars.specs.declared.scalar.Setting.{Setting}
use Rattle.yaml_scalars.specs.Lines.{Line, Stands, Fails, begins_with, lines}
use Rattle.yaml_scalars.specs.Plain.{plain_on}
use Rattle.yaml_scalars.specs.Quoted.{quoted_on}
use Rattle.yaml_scalars.specs.Block.{block_on}
use Rattle.yaml_scalars.specs.Scalar.{is_first_column, begins_quoted, begins_block, plain_scalar, quoted_scalar, block_scalar, scalar_at, is_typed, HasKind}
use Rattle.yaml_laws.proofs.Agree.{drop_before}
use Rattle.yaml_laws.proofs.Longer.{glue, rest_of, feed_of, lines_glued, lines_ended}
use Rattle.yaml_laws.proofs.ScalarLaw.{column_longer}
use Rattle.yaml_grammar.specs.declared.ahead.Ahead.{Ahead}
use Rattle.yaml_grammar.specs.Nodes.{is_cut, scalar_ahead}
use Rattle.yaml_grammar.specs.code.ReadAgain.{Extends}
use Rattle.yaml_grammar.specs.code.Twins.{IsTwin}
use Rattle.yaml_grammar.proofs.FedBlocks.{blocks_both, quoted_both}
use Rattle.yaml_grammar.proofs.FedCuts.{Dotted, Grown, cut_dotted, dotted_cut, dot_front, gap_behind, gap_kind, plain_both}
use Rattle.yaml_grammar.proofs.FedLoop.{extended}
use Rattle.yaml_grammar.proofs.FedTexts.{fed_size, fed_twin, in_front}
use Rattle.yaml_grammar.proofs.Fixed.{starts_of}
use Rattle.yaml_grammar.proofs.Twins.{twin_quoted}

fails_not : (p : ℕ) (t : List ℕ) (j : ℕ) → Fails p ≡ Stands t j → ⊥
fails_not p t j h = absurd (cc)

text_is : (t v : List ℕ) (e j : ℕ) → Stands t e ≡ Stands v j → v ≡ t
text_is t v e j h = cc

module _ (front rest : List ℕ) (utf8 : IsUtf8 ((front ++ (13 ∷ 10 ∷ [])) ++ rest)) (s : Setting) (at : ℕ) (t v : List ℕ) (j m : ℕ) (one : s.one_line ≡ false) (low : at < length front) where
  abbrev old : List ℕ
  old = front ++ (13 ∷ 10 ∷ [])

  abbrev new : List ℕ
  new = (front ++ (13 ∷ 10 ∷ [])) ++ rest

  abbrev place : ℕ
  place = at + length (drop at front)

  abbrev lines_here : List Line
  lines_here = lines at (drop at front)

  abbrev last : Line
  last = rest_of (suc (suc (at + length (drop at front)))) []

  abbrev further : List Line
  further = lines (suc (suc (at + length (drop at front)))) rest

  twin : IsTwin old (suc (length front)) new
  twin = fed_twin front rest utf8

  near : at ≤ suc (length front)
  near = omega (arith, low)

  old_lines : lines at (drop at old) ≡ glue lines_here (feed_of place ∷ last ∷ [])
  old_lines = ap (lines at) (drop_before at front (13 ∷ 10 ∷ []) (omega (arith, low))) ∙ lines_ended at (drop at front) [] refl

  new_lines : lines at (drop at new) ≡ glue lines_here (feed_of place ∷ further)
  new_lines = ap (λ x. lines at (drop at x)) (append_assoc front (13 ∷ 10 ∷ []) rest) ∙ ap (lines at) (drop_before at front (13 ∷ 10 ∷ rest) (omega (arith, low))) ∙ lines_glued at (drop at front) (13 ∷ 10 ∷ rest) refl

  quoted_same : begins_quoted (drop at new) ≡ begins_quoted (drop at old)
  quoted_same = twin_quoted old (suc (length front)) new twin at near

  block_same : begins_block s (drop at new) ≡ begins_block s (drop at old)
  block_same = first_same ((13 ∷ 10 ∷ []) ++ rest) (append_assoc front (13 ∷ 10 ∷ []) rest) ∙ sym (first_same (13 ∷ 10 ∷ []) refl) where
    some : 0 < length (drop at front)
    some = omega (arith, low, length-drop at front)

    begins_long : (k : ℕ) (xs y : List ℕ) → 0 < length xs → begins_with k (xs ++ y) ≡ begins_with k xs
    begins_long k [] y l = absurd (omega (arith, l))
    begins_long k (x ∷ xs) y l = refl

    first_same : (y : List ℕ) → {text : List ℕ} → text ≡ front ++ y → begins_block s (drop at text) ≡ begins_block s (drop at front)
    first_same y e =
        ap (λ x. begins_block s (drop at x)) e ∙ ap (begins_block s) (drop_before at front y (omega (arith, low)))
        ∙ ap (λ q. not (s.flow || s.one_line) && (q || begins_with 62 (drop at front ++ y))) (begins_long 124 (drop at front) y some)
        ∙ ap (λ q. not (s.flow || s.one_line) && (begins_with 124 (drop at front) || q)) (begins_long 62 (drop at front) y some)

  column_same : is_first_column new at ≡ is_first_column old at
  column_same = let size = fed_size front in column_longer old rest at (omega (arith, low, size))

  typed_same : is_typed s new at ≡ is_typed s old at
  typed_same = ap (λ q. not (s.one_line || (q || begins_block s (drop at new)))) quoted_same ∙ ap (λ q. not (s.one_line || (begins_quoted (drop at old) || q))) block_same

  abbrev Kept : Type 0
  Kept = HasKind (is_typed s new at) v kind.Text × (is_cut true kind.Text v ≡ true)

  same_kept : v ≡ t → HasKind (is_typed s old at) t kind.Text → is_cut true kind.Text t ≡ true → Kept
  same_kept e k c = (subst (λ q. HasKind q v kind.Text) (sym typed_same) (subst (λ x. HasKind (is_typed s old at) x kind.Text) (sym e) k), ap (is_cut true kind.Text) e ∙ c)

  grown_kept : Grown t v → HasKind (is_typed s old at) t kind.Text → is_cut true kind.Text t ≡ true → Kept
  grown_kept (inl e) k c = same_kept e k c
  grown_kept (inr (u, e, g)) k c = (subst (λ x. HasKind (is_typed s new at) x kind.Text) (sym e) (gap_kind (is_typed s new at) (t ++ u) (gap_behind t u g)), dotted_cut v (subst Dotted (sym e) (dot_front t u (cut_dotted t c))))

  plain_kept : plain_scalar s old at ≡ Stands t j → plain_scalar s new at ≡ Stands v m → HasKind (is_typed s old at) t kind.Text → is_cut true kind.Text t ≡ true → Kept
  plain_kept a b =
      grown_kept
      (plain_both s place last further refl t v j m (is_first_column old at) lines_here one (sym (ap (plain_on s (is_first_column old at)) old_lines) ∙ a)
      (sym (ap (λ q. plain_on s q (lines at (drop at new))) column_same ∙ ap (plain_on s (is_first_column old at)) new_lines) ∙ b))

  quoted_kept : quoted_scalar s old at ≡ Stands t j → quoted_scalar s new at ≡ Stands v m → HasKind (is_typed s old at) t kind.Text → is_cut true kind.Text t ≡ true → Kept
  quoted_kept a b =
      same_kept
      (text_is t v j m
      (sym (ap (quoted_on s.one_line (length new)) new_lines ∙ quoted_both (length old) (length new) t j last further place s.one_line lines_here one refl (sym (ap (quoted_on s.one_line (length old)) old_lines) ∙ a)) ∙ b))

  block_kept : begins_block s (drop at old) ≡ true → block_scalar s old at ≡ Stands t j → block_scalar s new at ≡ Stands v m → is_cut true kind.Text t ≡ true → Kept
  block_kept is a b c =
      let typed : is_typed s new at ≡ false = typed_same ∙ untyped is in (
        subst (λ q. HasKind q v kind.Text) (sym typed) refl,
        dotted_cut v
            (blocks_both s.parent (length old) (length new) t v j m place last further refl lines_here (sym (ap (block_on s.parent (length old)) old_lines) ∙ a) (sym (ap (block_on s.parent (length new)) new_lines) ∙ b) (cut_dotted t c)),
      ) where
        untyped : begins_block s (drop at old) ≡ true → is_typed s old at ≡ false
        untyped e = ap (λ q. not (s.one_line || (begins_quoted (drop at old) || q))) e ∙ by_tests s.one_line (begins_quoted (drop at old)) where
          by_tests : (p q : Bool) → not (p || (q || true)) ≡ false
          by_tests true q = refl
          by_tests false true = refl
          by_tests false false = refl

  kept : scalar_at s old at ≡ Stands t j → scalar_at s new at ≡ Stands v m → HasKind (is_typed s old at) t kind.Text → is_cut true kind.Text t ≡ true → Kept
  kept a b k c = by_tests (begins_quoted (drop at old)) (begins_block s (drop at old)) refl refl a there where
    there : cond (begins_quoted (drop at old)) (quoted_scalar s new at) (cond (begins_block s (drop at old)) (block_scalar s new at) (plain_scalar s new at)) ≡ Stands v m
    there =
        sym (ap (λ q. cond q (quoted_scalar s new at) (cond (begins_block s (drop at new)) (block_scalar s new at) (plain_scalar s new at))) quoted_same
        ∙ ap (λ q. cond (begins_quoted (drop at old)) (quoted_scalar s new at) (cond q (block_scalar s new at) (plain_scalar s new at))) block_same) ∙ b

    by_tests : (p q : Bool) → begins_quoted (drop at old) ≡ p → begins_block s (drop at old) ≡ q → cond p (quoted_scalar s old at) (cond q (block_scalar s old at) (plain_scalar s old at)) ≡ Stands t j
        → cond p (quoted_scalar s new at) (cond q (block_scalar s new at) (plain_scalar s new at)) ≡ Stands v m → Kept
    by_tests true q e f g h = quoted_kept g h k c
    by_tests false true e f g h = block_kept f g h c
    by_tests false false e f g h = plain_kept g h k c

pub keeps_cuts : (text other : List ℕ) → Extends text other → (s : Setting) (a : Ahead) (t v : List ℕ) (j m : ℕ) → s.one_line ≡ false → scalar_ahead text s a ≡ Stands t j → HasKind (is_typed s text a.at) t kind.Text → is_cut true kind.Text t ≡ true → scalar_ahead other s a ≡ Stands v m
    → HasKind (is_typed s other a.at) v kind.Text × (is_cut true kind.Text v ≡ true)
keeps_cuts text other x s a t v j m one st k c sw =
    extended
    (λ y o. scalar_ahead y s a ≡ Stands t j → HasKind (is_typed s y a.at) t kind.Text → scalar_ahead o s a ≡ Stands v m → HasKind (is_typed s o a.at) v kind.Text × (is_cut true kind.Text v ≡ true)) text other x
    (λ front rest utf8 h i w.
    let f = (starts_of (front ++ (13 ∷ 10 ∷ [])) s a t j h).1 in
    let g = (starts_of ((front ++ (13 ∷ 10 ∷ [])) ++ rest) s a v m w).1 in
    kept front rest utf8 s a.at t v j m one (in_front front s a.at (λ p z. fails_not p t j (sym z ∙ f))) f g i c)
    st k sw
