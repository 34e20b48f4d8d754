-- What is said of cases that are judged one after another. By induction over the cases.
use Rattle.std.proofs.Common.{◌≡◌, ◌+◌, ◌<◌, ◌++◌, ◌∙◌, if◌then◌else◌, ℕ, suc, Bool, true, false, List, [], ◌∷◌, ap, ap₂, append-nil, append_assoc, arith, cond, get_or, length, map, refl, subst, sym, take}
use Rattle.std.specs.List.{count_by, list_any}
use Rattle.std.proofs.lemmas.List.{length-map, length-take, map_more}
use Rattle.std.proofs.lemmas.List.Sums.{sum_by-append, sum_by-cons}
use Rattle.doc_values.specs.Places.{tree_at}
use Rattle.doc_values.specs.Tree.{Forest}
use Rattle.guard_syntax.specs.Syntax.{File}
use Rattle.guard_syntax.specs.declared.row.Verdict.{Verdict}
use Rattle.guard_testfile.specs.Cases.{TestCase}
use Rattle.guard_testfile.specs.Texts.{Difference, case_text, cases_text, is_wrong, summary_line, tests_text}
use Rattle.guard_testfile.specs.code.Seen.{see_case}
use Rattle.guard_testfile.specs.code.Written.{agreement_of, case_differences}
use Rattle.guard_testfile.specs.declared.case.Case.{Case}
use Rattle.guard_testfile.specs.declared.write.Agreement.TheVariants.{AsExpected, Different}
use Rattle.rule_meaning.specs.FunctionMeaning.{IsAnswering}
use Rattle.rule_meaning.specs.Locations.{Answers}
use Rattle.guard_ends.specs.Order.{IsTested, how_tested}
use Rattle.guard_ends.specs.Reported.{verdicts_of, world_over}
use Rattle.guard_ends.specs.Tests.{AreFound, IsFound}
use Rattle.guard_ends.specs.declared.ends.End.{End}
use Rattle.guard_ends.specs.declared.ends.End.TheVariants as end_is
use Rattle.guard_inputs.specs.code.Refusals.{bytes_of}
use Rattle.guard_run.specs.code.Outcome.{ended}
use Rattle.guard_run.specs.code.Tested.{AreSaid, IsSaid}
use Rattle.guard_run.specs.declared.done.Done.{Done}

-- ---- the texts, and the count

text-more : (number : ℕ) (found : List (List Difference)) (one : List Difference)
    → cases_text number (found ++ one ∷ []) ≡ cases_text number found ++ case_text (number + length found) one
text-more number [] one =
    let here : number ≡ number + 0 = omega arith in
    append-nil (case_text number one) ∙ ap (λ (n : ℕ). case_text n one) here
text-more number (ds ∷ found) one =
    let next : suc number + length found ≡ number + suc (length found) = omega arith in
    ap (λ (t : List ℕ). case_text number ds ++ t)
    (text-more (suc number) found one ∙ ap (λ (n : ℕ). cases_text (suc number) found ++ case_text n one) next)
    ∙ sym (append_assoc (case_text number ds) (cases_text (suc number) found) (case_text (number + suc (length found)) one))

counted-more : (found : List (List Difference)) (one : List Difference) (differs : Bool) → differs ≡ is_wrong one
    → count_by is_wrong found + cond differs 1 0 ≡ count_by is_wrong (found ++ one ∷ [])
counted-more found one differs is =
    let weigh : Bool → ℕ = λ b. cond b 1 0 in
    let same : weigh differs ≡ weigh (is_wrong one) = ap weigh is in
    omega (arith, same, sum_by-append (λ (ds : List Difference). cond (is_wrong ds) 1 0) found (one ∷ []))

counted-first : (one : List Difference) (found : List (List Difference)) → count_by is_wrong (one ∷ found) ≡ cond (is_wrong one) 1 0 + count_by is_wrong found
counted-first one found = sum_by-cons (λ (ds : List Difference). cond (is_wrong ds) 1 0) one found

-- nothing differs where none is counted, and something where one is
none-differs : (found : List (List Difference)) → count_by is_wrong found ≡ 0 → list_any is_wrong found ≡ false
none-differs [] none = refl
none-differs ([] ∷ found) none = let first = counted-first [] found in none-differs found (omega (arith, none, first))
none-differs ((d ∷ ds) ∷ found) none = let first = counted-first (d ∷ ds) found in absurd (omega (arith, none, first))

one-differs : (found : List (List Difference)) → 0 < count_by is_wrong found → list_any is_wrong found ≡ true
one-differs [] some = absurd (omega (arith, some))
one-differs ([] ∷ found) some = let first = counted-first [] found in one-differs found (omega (arith, some, first))
one-differs ((d ∷ ds) ∷ found) some = refl

module _ (rules : File) (tree : Forest) where
  found-more : (cases : List TestCase) (found : List (List Difference)) (case : TestCase) (one : List Difference)
      → AreFound rules tree cases found → IsFound rules tree case one → AreFound rules tree (cases ++ case ∷ []) (found ++ one ∷ [])
  found-more [] [] case one are is = (is, tt)
  found-more [] (ds ∷ found) case one are is = absurd are
  found-more (c ∷ cases) [] case one are is = absurd are
  found-more (c ∷ cases) (ds ∷ found) case one are is = (are.0, found-more cases found case one are.1 is)

  found-counted : (cases : List TestCase) (found : List (List Difference)) → AreFound rules tree cases found → length found ≡ length cases
  found-counted [] [] are = refl
  found-counted [] (ds ∷ found) are = absurd are
  found-counted (c ∷ cases) [] are = absurd are
  found-counted (c ∷ cases) (ds ∷ found) are = ap suc (found-counted cases found are.1)

  -- ---- what is said

  pub said-none : (said : List ℕ) → said ≡ [] → AreSaid rules tree [] said 0
  said-none said is = record { found = []; judged = tt; text = is; counted = refl }

  pub said-more : (cases : List TestCase) (case : TestCase) (number : ℕ) (before after : List ℕ) (wrong : ℕ) (differs : Bool) → number ≡ length cases + 1
      → AreSaid rules tree cases before wrong → IsSaid rules tree case number before after differs
      → AreSaid rules tree (cases ++ case ∷ []) after (wrong + cond differs 1 0)
  said-more cases case number before after wrong differs numbered are is =
      let many = found-counted cases are.found are.judged in
      let place : number ≡ 1 + length are.found = omega (arith, many, numbered) in
      record {
        found = are.found ++ is.found ∷ [];
        judged = found-more cases are.found case is.found are.judged is.judged;
        text = is.text ∙ ap₂ (λ (t : List ℕ) (n : ℕ). t ++ case_text n is.found) are.text place ∙ sym (text-more 1 are.found is.found);
        counted = ap (λ (n : ℕ). n + cond differs 1 0) are.counted ∙ counted-more are.found is.found differs is.differs;
      }

  -- the next of the cases of the code
  pub said-next : (items : List Case) (i : ℕ) (d : Case) (before after : List ℕ) (wrong : ℕ) (differs : Bool) → i < length items
      → AreSaid rules tree (map (see_case rules) (take i items)) before wrong → IsSaid rules tree (see_case rules (get_or items i d)) (i + 1) before after differs
      → AreSaid rules tree (map (see_case rules) (take (i + 1) items)) after (wrong + cond differs 1 0)
  said-next items i d before after wrong differs within are is =
      let seen = length-map (take i items) (see_case rules) in
      let all = length-take i items in
      let place : i + 1 ≡ length (map (see_case rules) (take i items)) + 1 = omega (arith, seen, all, within) in
      subst (λ (cases : List TestCase). AreSaid rules tree cases after (wrong + cond differs 1 0)) (sym (map_more (see_case rules) items i d within))
      (said-more (map (see_case rules) (take i items)) (see_case rules (get_or items i d)) (i + 1) before after wrong differs place are is)

  -- one case, by the verdicts over its input
  module _ (case : Case) (number : ℕ) (got : List Verdict) (before after : List ℕ) (answers : Answers)
      (answering : IsAnswering (world_over rules (tree_at tree case.input) answers))
      (judged : got ≡ verdicts_of (world_over rules (tree_at tree case.input) answers))
      (put : after ≡ before ++ case_text number (case_differences rules got case))
    where
      said-as : (differs : Bool) → differs ≡ is_wrong (case_differences rules got case) → IsSaid rules tree (see_case rules case) number before after differs
      said-as differs is = record {
        found = case_differences rules got case;
        judged = (answers, answering, ap (λ (vs : List Verdict). case_differences rules vs case) judged);
        text = put;
        differs = is;
      }

      right : (ds : List Difference) → AsExpected ≡ agreement_of ds → false ≡ is_wrong ds
      right [] is = refl
      right (d ∷ ds) is = absurd cc

      wrong : (ds : List Difference) → Different ≡ agreement_of ds → true ≡ is_wrong ds
      wrong [] is = absurd cc
      wrong (d ∷ ds) is = refl

      pub said-right : AsExpected ≡ agreement_of (case_differences rules got case) → IsSaid rules tree (see_case rules case) number before after false
      said-right is = said-as false (right (case_differences rules got case) is)

      pub said-wrong : Different ≡ agreement_of (case_differences rules got case) → IsSaid rules tree (see_case rules case) number before after true
      said-wrong is = said-as true (wrong (case_differences rules got case) is)

  -- all cases
  pub tested-as : (cases : List TestCase) (said text : List ℕ) (many wrong : ℕ) (done : Done) → AreSaid rules tree cases said wrong → many ≡ length cases
      → text ≡ said ++ summary_line many wrong → ((found : List (List Difference)) → wrong ≡ count_by is_wrong found → done.how ≡ how_tested found)
      → bytes_of done.out ≡ text → bytes_of done.err ≡ [] → IsTested rules tree cases (ended done)
  tested-as cases said text many wrong done are all put how out err =
      let counted : many ≡ length are.found = all ∙ sym (found-counted cases are.found are.judged) in
      let whole : text ≡ tests_text are.found =
      put ∙ ap₂ (λ (t : List ℕ) (n : ℕ). t ++ summary_line n wrong) are.text counted
      ∙ ap (λ (n : ℕ). cases_text 1 are.found ++ summary_line (length are.found) n) are.counted in (
        are.found,
        are.judged,
        ap (λ (h : End). record { how = h; out = bytes_of done.out; err = bytes_of done.err }) (how are.found are.counted)
            ∙ ap₂ (λ (t e : List ℕ). record { how = how_tested are.found; out = t; err = e }) (out ∙ whole) err,
      )

-- the end, by how many are wrong
pub how-none : (found : List (List Difference)) (wrong : ℕ) → wrong ≡ count_by is_wrong found → wrong ≡ 0 → end_is.Passed ≡ how_tested found
how-none found wrong counted none = ap (λ (b : Bool). if b then end_is.Failed else end_is.Passed) (sym (none-differs found (sym counted ∙ none)))

pub how-some : (found : List (List Difference)) (wrong : ℕ) → wrong ≡ count_by is_wrong found → 0 < wrong → end_is.Failed ≡ how_tested found
how-some found wrong counted some =
    let one : 0 < count_by is_wrong found = subst (λ (n : ℕ). 0 < n) counted some in
    ap (λ (b : Bool). if b then end_is.Failed else end_is.Passed) (sym (one-differs found one))
