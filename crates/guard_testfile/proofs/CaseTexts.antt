-- What is said of a case: line by line, and whether there is one.
use Rattle.std.proofs.Common.{◌≡◌, ℕ, ◌+◌, ◌<◌, ◌≤◌, List, [], ◌∷◌, ◌++◌, length, get_or, map, take, codes, decimal, refl, sym, ap, ◌∙◌, append-nil}
use Rattle.std.specs.List.{flat_map}
use Rattle.std.proofs.lemmas.Grind.{flat_map-append}
use Rattle.std.proofs.lemmas.List.{map-append, take_all, take_more}
use Rattle.std.proofs.lemmas.List.Concat.{flat_map-cons}
use Rattle.guard_syntax.specs.Syntax.{File}
use Rattle.guard_syntax.specs.declared.row.Verdict.{Verdict}
use Rattle.report_text.specs.RuleLines.{reported_names}
use Rattle.guard_testfile.specs.Cases.{Expected}
use Rattle.guard_testfile.specs.Texts.{Difference, case_text, case_word, difference, difference_line, differences, verdict_under}
use Rattle.guard_testfile.specs.code.Seen.{see_expectation}
use Rattle.guard_testfile.specs.code.Written.{agreement_of, agreement_word}
use Rattle.guard_testfile.specs.declared.case.Expectation.{Expectation}
use Rattle.guard_testfile.specs.declared.write.Agreement.{Agreement}
use Rattle.guard_testfile.specs.declared.write.Agreement.TheVariants.{AsExpected, Different}

module _ (file : File) (got : List Verdict) where
  abbrev pub differing : List Expectation → List Difference
  differing es = differences (reported_names file) got (map (see_expectation file) es)

  -- the difference of one expectation
  abbrev differing-one : Expectation → List Difference
  differing-one e = difference (see_expectation file e) (verdict_under (reported_names file) got (see_expectation file e).rule)

  differing-append : (es : List Expectation) (e : Expectation) → differing (es ++ e ∷ []) ≡ differing es ++ differing-one e
  differing-append es e =
      ap (λ (xs : List Expected). differences (reported_names file) got xs) (map-append (see_expectation file) es (e ∷ []))
      ∙ flat_map-append (λ (x : Expected). difference x (verdict_under (reported_names file) got x.rule)) (map (see_expectation file) es) (see_expectation file e ∷ [])
      ∙ ap (λ (ds : List Difference). differing es ++ ds)
      (flat_map-cons (λ (x : Expected). difference x (verdict_under (reported_names file) got x.rule)) (see_expectation file e) [] ∙ append-nil (differing-one e))

  -- the lines of one expectation more
  pub lines-more : (es : List Expectation) (i : ℕ) (d : Expectation) (made new : List ℕ) → i < length es → made ≡ flat_map difference_line (differing (take i es))
      → new ≡ made ++ flat_map difference_line (differing-one (get_or es i d)) → new ≡ flat_map difference_line (differing (take (i + 1) es))
  lines-more es i d made new within before put =
      put ∙ ap (λ (t : List ℕ). t ++ flat_map difference_line (differing-one (get_or es i d))) before
      ∙ sym (flat_map-append difference_line (differing (take i es)) (differing-one (get_or es i d)))
      ∙ ap (flat_map difference_line) (sym (ap differing (take_more es i d within) ∙ differing-append (take i es) (get_or es i d)))

  pub lines-all : (es : List Expectation) (i : ℕ) (made : List ℕ) → length es ≤ i → made ≡ flat_map difference_line (differing (take i es)) → made ≡ flat_map difference_line (differing es)
  lines-all es i made past is = is ∙ ap (λ (xs : List Expectation). flat_map difference_line (differing xs)) (take_all i es past)

-- there is a line where something differs
pub agrees : (ds : List Difference) (lines : List ℕ) (a : Agreement) → lines ≡ flat_map difference_line ds → (lines ≡ [] → a ≡ AsExpected)
    → ((byte : ℕ) (rest : List ℕ) → lines ≡ byte ∷ rest → a ≡ Different) → a ≡ agreement_of ds
agrees [] lines a is same other = same is
agrees (d ∷ ds) lines a is same other = other _ _ (is ∙ flat_map-cons difference_line d ds)

word-of : (ds : List Difference) → agreement_word (agreement_of ds) ≡ case_word ds
word-of [] = refl
word-of (d ∷ ds) = refl

pub text-said : (number : ℕ) (ds : List Difference) (a : Agreement) (lines : List ℕ) → a ≡ agreement_of ds → lines ≡ flat_map difference_line ds
    → codes "case " ++ decimal number ++ codes " " ++ agreement_word a ++ codes "\n" ++ lines ≡ case_text number ds
text-said number ds a lines agree is =
    ap (λ (w : List ℕ). codes "case " ++ decimal number ++ codes " " ++ w ++ codes "\n" ++ lines) (ap agreement_word agree ∙ word-of ds)
    ∙ ap (λ (t : List ℕ). codes "case " ++ decimal number ++ codes " " ++ case_word ds ++ codes "\n" ++ t) is
