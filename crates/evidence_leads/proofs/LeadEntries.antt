-- The entries behind the leads of a line are those of the line; leads go to earlier lines, so going by cites as often as the number of a line says is enough.
use Rattle.std.proofs.Common.{◌≡◌, ℕ, zero, suc, ◌<◌, ◌≤◌, Bool, true, false, ◌&&◌, List, [], ◌∷◌, ◌++◌, All, Option, Some, None, option_and_then, refl, sym, ap, ap₂, ◌∙◌, arith, append_assoc, append-nil, if◌then◌else◌}
use Rattle.std.specs.List.{flat_map}
use Rattle.evidence_lines.specs.Lines.{line_of}
use Rattle.evidence_lines.specs.declared.line.Line.{Line}
use Rattle.guard_syntax.specs.Syntax.{OptConds, Part, no_conds, with_conds, block, guarded, kinds, test, refer, call}
use Rattle.guard_syntax.specs.declared.row.Row.{Row}
use Rattle.guard_syntax.specs.declared.row.Row.TheVariants.{Found, Missing, Unmade}
use Rattle.rule_names.specs.Pieces.{Piece, OfPart, piece_at}
use Rattle.rule_meaning.specs.Fails.{Entry, missing_row}
use Rattle.rule_meaning.specs.Keys.{passes}
use Rattle.rule_meaning.specs.SetTests.{is_empty_test, is_set}
use Rattle.rule_meaning.specs.StoreModel.{StoreModel}
use Rattle.evidence_truth.specs.code.LineFails.{behind_conds, block_entries, if_failing, is_failing, line_entries, line_fails, part_entries, piece_entries, rows_entries, rows_of_line, see, test_entries}
use Rattle.evidence_leads.specs.code.Leads.{AreBelow, CitesFall, Leading, ToEntry, ToLine, block_leads, cite_leads, entries_behind, line_leads, own, part_leads, piece_leads, rows_leads}

-- ---- entries behind leads

module _ (fails : ℕ → List Entry) where
  pub behind-both : (xs ys : List Leading) → flat_map (entries_behind fails) (xs ++ ys) ≡ flat_map (entries_behind fails) xs ++ flat_map (entries_behind fails) ys
  behind-both [] ys = refl
  behind-both (x ∷ xs) ys =
      ap (λ (es : List Entry). entries_behind fails x ++ es) (behind-both xs ys) ∙ sym (append_assoc (entries_behind fails x) (flat_map (entries_behind fails) xs) (flat_map (entries_behind fails) ys))

  behind-own : (es : List Entry) → flat_map (entries_behind fails) (own es) ≡ es
  behind-own [] = refl
  behind-own (e ∷ es) = ap (λ (fs : List Entry). e ∷ fs) (behind-own es)

  module _ (known : StoreModel) (lines : List Line) where
    behind-cite : (c : ℕ) → flat_map (entries_behind fails) (cite_leads known lines c) ≡ if_failing known lines fails c
    behind-cite c = by (is_failing known lines c)
      where
        by : (b : Bool) → flat_map (entries_behind fails) (if b then ToLine c ∷ [] else []) ≡ (if b then fails c else [])
        by true = append-nil (fails c)
        by false = refl

    behind-cites : (cites : List ℕ) → flat_map (entries_behind fails) (flat_map (cite_leads known lines) cites) ≡ flat_map (if_failing known lines fails) cites
    behind-cites [] = refl
    behind-cites (c ∷ cites) =
        behind-both (cite_leads known lines c) (flat_map (cite_leads known lines) cites) ∙ ap₂ (λ (es fs : List Entry). es ++ fs) (behind-cite c) (behind-cites cites)

    behind-rows : (part : ℕ) (rows : List Row) (cites : List ℕ) → flat_map (entries_behind fails) (rows_leads known lines part rows cites) ≡ rows_entries known lines fails part rows cites
    behind-rows part [] cites = refl
    behind-rows part (Found v ∷ rows) [] = behind-rows part rows []
    behind-rows part (Found v ∷ rows) (c ∷ cites) =
        behind-both (cite_leads known lines c) (rows_leads known lines part rows cites) ∙ ap₂ (λ (es fs : List Entry). es ++ fs) (behind-cite c) (behind-rows part rows cites)
    behind-rows part (Missing v step ∷ rows) cites =
        let es = missing_row part (see known lines (Missing v step)) in
        behind-both (own es) (rows_leads known lines part rows cites) ∙ ap₂ (λ (es fs : List Entry). es ++ fs) (behind-own es) (behind-rows part rows cites)
    behind-rows part (Unmade site ∷ rows) cites =
        let es = missing_row part (see known lines (Unmade site)) in
        behind-both (own es) (rows_leads known lines part rows cites) ∙ ap₂ (λ (es fs : List Entry). es ++ fs) (behind-own es) (behind-rows part rows cites)

    behind-block : (part : ℕ) (cites : List ℕ) → flat_map (entries_behind fails) (block_leads known lines part cites) ≡ block_entries known lines fails part cites
    behind-block part [] = refl
    behind-block part (c ∷ cites) = behind-rows part (rows_of_line known lines c) cites

    behind-part : (p : Part) (frame : Option ℕ) (cites : List ℕ) → flat_map (entries_behind fails) (part_leads known lines p frame cites) ≡ part_entries known lines fails p frame cites
    behind-part (block n any head inner) frame cites = behind-block n cites
    behind-part (guarded n conditions inner) frame cites = behind-cites cites
    behind-part (kinds n name conditions inner) frame cites = behind-block n (behind_conds conditions cites)
    behind-part (test n any left op negated right message) frame cites =
        behind-own (test_entries known lines n (is_empty_test op && is_set left) negated (passes known op negated) frame cites)
    behind-part (refer n negated name message) frame cites = refl
    behind-part (call n true name args message) frame cites = refl
    behind-part (call n false name args message) frame cites = behind-cites cites

    behind-piece : (p : Option Piece) (frame : Option ℕ) (cites : List ℕ) → flat_map (entries_behind fails) (piece_leads known lines p frame cites) ≡ piece_entries known lines fails p frame cites
    behind-piece (Some (OfPart part)) frame cites = behind-part part frame cites
    behind-piece p frame cites = behind-cites cites

    pub behind-line : (o : Option Line) → flat_map (entries_behind fails) (line_leads known lines o) ≡ line_entries known lines fails o
    behind-line None = refl
    behind-line (Some line) = behind-piece (option_and_then (piece_at known.file) line.site) line.frame line.cites

-- ---- leads to earlier lines

-- cites that are all less, one by one
abbrev AreLess : ℕ → List ℕ → Type 0
AreLess n [] = Unit {0}
AreLess n (c ∷ cites) = (c < n) × AreLess n cites

are-less : (n : ℕ) (cites : List ℕ) → All (λ (c : ℕ). c < n) cites → AreLess n cites
are-less n [] all = tt
are-less n (c ∷ cites) all =
    let first : c < n = all 0 c (omega arith) in
    (first, are-less n cites (λ k d within. all (suc k) d (omega (arith, within))))

module _ (known : StoreModel) (lines : List Line) (n : ℕ) where
  below-both : (xs ys : List Leading) → AreBelow known lines n xs → AreBelow known lines n ys → AreBelow known lines n (xs ++ ys)
  below-both [] ys first second = second
  below-both (x ∷ xs) ys first second = (first.0, below-both xs ys first.1 second)

  below-own : (es : List Entry) → AreBelow known lines n (own es)
  below-own [] = tt
  below-own (e ∷ es) = (tt, below-own es)

  below-cite : (c : ℕ) → c < n → AreBelow known lines n (cite_leads known lines c)
  below-cite c less = by (is_failing known lines c) refl
    where
      by : (b : Bool) → is_failing known lines c ≡ b → AreBelow known lines n (if b then ToLine c ∷ [] else [])
      by true is = ((less, is), tt)
      by false is = tt

  below-cites : (cites : List ℕ) → AreLess n cites → AreBelow known lines n (flat_map (cite_leads known lines) cites)
  below-cites [] less = tt
  below-cites (c ∷ cites) less = below-both (cite_leads known lines c) (flat_map (cite_leads known lines) cites) (below-cite c less.0) (below-cites cites less.1)

  below-rows : (part : ℕ) (rows : List Row) (cites : List ℕ) → AreLess n cites → AreBelow known lines n (rows_leads known lines part rows cites)
  below-rows part [] cites less = tt
  below-rows part (Found v ∷ rows) [] less = below-rows part rows [] less
  below-rows part (Found v ∷ rows) (c ∷ cites) less = below-both (cite_leads known lines c) (rows_leads known lines part rows cites) (below-cite c less.0) (below-rows part rows cites less.1)
  below-rows part (Missing v step ∷ rows) cites less =
      below-both (own (missing_row part (see known lines (Missing v step)))) (rows_leads known lines part rows cites) (below-own (missing_row part (see known lines (Missing v step)))) (below-rows part rows cites less)
  below-rows part (Unmade site ∷ rows) cites less =
      below-both (own (missing_row part (see known lines (Unmade site)))) (rows_leads known lines part rows cites) (below-own (missing_row part (see known lines (Unmade site)))) (below-rows part rows cites less)

  below-block : (part : ℕ) (cites : List ℕ) → AreLess n cites → AreBelow known lines n (block_leads known lines part cites)
  below-block part [] less = tt
  below-block part (c ∷ cites) less = below-rows part (rows_of_line known lines c) cites less.1

  less-behind : (o : OptConds) (cites : List ℕ) → AreLess n cites → AreLess n (behind_conds o cites)
  less-behind no_conds cites less = less
  less-behind (with_conds c) [] less = tt
  less-behind (with_conds c) (k ∷ cites) less = less.1

  below-part : (p : Part) (frame : Option ℕ) (cites : List ℕ) → AreLess n cites → AreBelow known lines n (part_leads known lines p frame cites)
  below-part (block m any head inner) frame cites less = below-block m cites less
  below-part (guarded m conditions inner) frame cites less = below-cites cites less
  below-part (kinds m name conditions inner) frame cites less = below-block m (behind_conds conditions cites) (less-behind conditions cites less)
  below-part (test m any left op negated right message) frame cites less =
      below-own (test_entries known lines m (is_empty_test op && is_set left) negated (passes known op negated) frame cites)
  below-part (refer m negated name message) frame cites less = (tt, tt)
  below-part (call m true name args message) frame cites less = (tt, tt)
  below-part (call m false name args message) frame cites less = below-cites cites less

  below-piece : (p : Option Piece) (frame : Option ℕ) (cites : List ℕ) → AreLess n cites → AreBelow known lines n (piece_leads known lines p frame cites)
  below-piece (Some (OfPart part)) frame cites less = below-part part frame cites less
  below-piece p frame cites less = below-cites cites less

module _ (known : StoreModel) (lines : List Line) (falls : CitesFall lines) where
  pub below-line : (n : ℕ) → AreBelow known lines n (line_leads known lines (line_of lines n))
  below-line n = by (line_of lines n) refl
    where
      by : (o : Option Line) → line_of lines n ≡ o → AreBelow known lines n (line_leads known lines o)
      by None there = tt
      by (Some line) there = below-piece known lines n (option_and_then (piece_at known.file) line.site) line.frame line.cites (are-less n line.cites (falls n line there))

  same-behind : (n : ℕ) (f g : ℕ → List Entry) (xs : List Leading) → AreBelow known lines n xs → ((c : ℕ) → c < n → f c ≡ g c) → flat_map (entries_behind f) xs ≡ flat_map (entries_behind g) xs
  same-behind n f g [] are same = refl
  same-behind n f g (ToEntry e ∷ xs) are same = ap (λ (es : List Entry). e ∷ es) (same-behind n f g xs are.1 same)
  same-behind n f g (ToLine c ∷ xs) are same = ap₂ (λ (es fs : List Entry). es ++ fs) (same c are.0.0) (same-behind n f g xs are.1 same)

  no-fails : (most : ℕ) → line_fails known lines most 0 ≡ []
  no-fails zero = refl
  no-fails (suc most) = refl

  same-lines : (n a b : ℕ) → ((c : ℕ) → c < n → line_fails known lines a c ≡ line_fails known lines b c) → line_fails known lines (suc a) n ≡ line_fails known lines (suc b) n
  same-lines n a b same =
      sym (behind-line (line_fails known lines a) known lines (line_of lines n))
      ∙ same-behind n (line_fails known lines a) (line_fails known lines b) (line_leads known lines (line_of lines n)) (below-line n) same
      ∙ behind-line (line_fails known lines b) known lines (line_of lines n)

  -- two numbers of steps that are enough
  pub steady : (a b n : ℕ) → n ≤ a → n ≤ b → line_fails known lines a n ≡ line_fails known lines b n
  steady zero b zero one other = sym (no-fails b)
  steady zero b (suc n) one other = absurd (omega (arith, one))
  steady (suc a) zero zero one other = no-fails (suc a)
  steady (suc a) zero (suc n) one other = absurd (omega (arith, other))
  steady (suc a) (suc b) n one other = same-lines n a b (λ c less. steady a b c (omega (arith, less, one)) (omega (arith, less, other)))

  -- a line fails by what is behind its leads, each earlier line by as many steps as its own number
  pub fails-behind : (n : ℕ) → flat_map (entries_behind (λ (c : ℕ). line_fails known lines c c)) (line_leads known lines (line_of lines n)) ≡ line_fails known lines n n
  fails-behind zero = refl
  fails-behind (suc m) =
      same-behind (suc m) (λ (c : ℕ). line_fails known lines c c) (line_fails known lines m) (line_leads known lines (line_of lines (suc m))) (below-line (suc m))
      (λ c less. steady c m c (omega arith) (omega (arith, less)))
      ∙ behind-line (line_fails known lines m) known lines (line_of lines (suc m))
