-- Rules that are judged in turn, the least deep first: what each may refer to was judged before. By the ranks, which rise.
use Rattle.std.proofs.Common.{◌≡◌, ◌==◌, Bool, true, false, ℕ, ◌+◌, ◌<◌, ◌≤◌, refl, sym, ap, ◌∙◌, subst, inl, inr, arith, List, [], ◌∷◌, ◌++◌, length, map, take, get_or, Contains}
use Rattle.std.specs.Prelude.{All}
use Rattle.std.proofs.lemmas.Bool.{cases_lt}
use Rattle.std.proofs.lemmas.Bool.Decides.{nat_tests}
use Rattle.std.proofs.lemmas.List.{get_or-take, get_or_default, length-take, take_all, take_more}
use Rattle.std.proofs.lemmas.List.Elements.{All-nil, All-push}
use Rattle.doc_values.specs.Tree.{Forest}
use Rattle.evidence_lines.specs.declared.version.Version.TheVariants.{Two}
use Rattle.guard_syntax.specs.Syntax.{Disj, Disjs, File, Rule, more_disjs, no_disjs}
use Rattle.guard_syntax.specs.code.Seen.{disj_list, see_disj}
use Rattle.guard_syntax.specs.declared.row.Verdict.{Verdict}
use Rattle.guard_syntax.specs.declared.syntax.Disj.{Disj as RawDisj}
use Rattle.guard_syntax.specs.declared.syntax.RawFile.{RawFile}
use Rattle.rule_names.specs.Depths.{depth_rule, depths_of}
use Rattle.rule_names.specs.code.Files.{file_of}
use Rattle.rule_names.specs.declared.file.RuleFile.{RuleFile}
use Rattle.rule_meaning.specs.StoreModel.{StoreModel}
use Rattle.evidence_rules.specs.Follows.{Accepts, IsLooseJudged, nothing_made}
use Rattle.evidence_rules.specs.code.Judgement.{FollowTo}
use Rattle.engine_states.specs.code.Ruling.{Judges, MayJudge, MayJudgeLoose, Rests}
use Rattle.engine_states.specs.code.States.{Grows, State}
use Rattle.engine_states.proofs.Evaluating.{same-file}
use Rattle.engine_states.proofs.RulesJudged.{rule-stays}
use Rattle.engine_states.proofs.SaidStays.{FollowTo-all}
use Rattle.engine_states.proofs.Shaped.{rule-verdict}
use Rattle.rule_calls.specs.code.Ranks.{AreRanked, IsRanked, rule_of}
use Rattle.rule_calls.specs.code.Turns.{AreAllJudged, AreJudged, HasLine, IsJudgedWhole}
use Rattle.rule_calls.specs.declared.ranked.Ranked.{Ranked}

-- ---- rules

module _ (s : State) (xs : List Ranked) (ranked : AreRanked s.known.file xs) where
  -- where a rule is listed
  record IsListed (r : Rule) : Type 0 where
    index : ℕ
    within : index < length xs
    is : (d : Ranked) → rule_of (get_or xs index d) ≡ r

  listed : (r : Rule) → Contains s.known.file.rules r → r.params ≡ [] → IsListed r
  listed r among plain =
      let it = ranked.filled.each r among plain in
      let at = it.1 in
      record { index = at.0; within = at.1; is = λ d. ap rule_of (get_or_default xs at.0 d it.0 at.1 ∙ at.2) ∙ it.2 }

  -- what may be judged after those before it
  pub may-judge : (k : ℕ) (x : Ranked) → k < length xs → x ≡ get_or xs k x → AreJudged s (take k xs) → MayJudge s (rule_of x)
  may-judge k x within is judged =
      let own : IsRanked s.known.file x = subst (IsRanked s.known.file) (sym is) (ranked.filled.ranked k x within) in
      record {
        among = own.among;
        plain = own.plain;
        ruled = λ t among plain less.
            let at = listed t among plain in
            let depth : (get_or xs at.index x).depth ≡ depth_rule s.known.file (depths_of s.known.file) t =
            (ranked.filled.ranked at.index x at.within).depth ∙ ap (depth_rule s.known.file (depths_of s.known.file)) (at.is x) in
            elim (cases_lt at.index k) [
              | inl before ↦
                  let line = judged.lines at.index x (omega (arith, before, within, length-take k xs)) in
                  subst (HasLine s) (ap rule_of (get_or-take k xs at.index x before) ∙ at.is x) line
              | inr later ↦
                  let rising = ranked.rising k at.index x later at.within in
                  let here : (get_or xs k x).depth ≡ depth_rule s.known.file (depths_of s.known.file) (rule_of x) = ap (λ (y : Ranked). y.depth) (sym is) ∙ own.depth in
                  absurd (omega (arith, less, depth, rising, here))
            ];
      }

  -- all of the file, once all of the list were
  pub all-judged : AreJudged s xs → AreAllJudged s
  all-judged judged = record {
    rests = judged.rests;
    lines = λ t among plain.
        let at = listed t among plain in
        let x = (ranked.filled.each t among plain).0 in
        subst (HasLine s) (at.is x) (judged.lines at.index x at.within);
  }

pub none-judged : (s : State) → Rests s → AreJudged s []
none-judged s rests = record { rests = rests; lines = All-nil (λ (x : Ranked). HasLine s (rule_of x)) }

-- behind the last, all of the list were judged
pub all-taken : (s : State) (xs : List Ranked) (k : ℕ) → length xs ≤ k → AreJudged s (take k xs) → AreJudged s xs
all-taken s xs k past judged = subst (AreJudged s) (take_all k xs past) judged

-- ---- one more

module _ (a b : State) (grows : Grows a b) (before : Rests a) (after : Rests b) where
  pub line-stays : (r : Rule) → HasLine a r → HasLine b r
  line-stays r (number, is) = (number, rule-stays a b grows before.whole after.whole r.site number is)

module _ (a b : State) (xs : List Ranked) (k : ℕ) (x : Ranked) (within : k < length xs) (is : x ≡ get_or xs k x) (verdict : Verdict) (judges : Judges a b (rule_of x).site verdict)
    (judged : AreJudged a (take k xs)) where
  pub judged-next : AreJudged b (take (k + 1) xs)
  judged-next = record {
    rests = judges.rests;
    lines =
        subst (All (λ (y : Ranked). HasLine b (rule_of y))) (sym (take_more xs k x within ∙ ap (λ (y : Ranked). take k xs ++ y ∷ []) (sym is)))
        (All-push (λ (y : Ranked). HasLine b (rule_of y)) (take k xs) x
        (λ i d less. line-stays a b judges.grows judged.rests judges.rests (rule_of (get_or (take k xs) i d)) (judged.lines i d less)) (judges.number, judges.found));
  }

-- the file stays, and so do the ranks
pub still-ranked : (a b : State) → Rests a → Grows a b → (xs : List Ranked) → AreRanked a.known.file xs → AreRanked b.known.file xs
still-ranked a b rests grows xs ranked = subst (λ (f : File). AreRanked f xs) (sym (same-file a b grows rests.whole)) ranked

-- ---- the parts outside rules

module _ (s : State) (judged : AreAllJudged s) where
  -- none are there
  pub none-outside : s.known.file.loose ≡ no_disjs → IsJudgedWhole s
  none-outside none = record { rules = judged; loose = subst (IsLooseJudged s.lines) (sym none) tt }

  -- they may be judged once all rules were
  pub may-judge-loose : (first : Disj) (others : Disjs) → s.known.file.loose ≡ more_disjs first others → MayJudgeLoose s
  may-judge-loose first others some = record { first = first; others = others; some = some; ruled = λ t among plain less. judged.lines t among plain }

module _ (a b : State) (judged : AreAllJudged a) (verdict : Verdict) (judges : Judges a b 0 verdict) where
  pub outside-judged : IsJudgedWhole b
  outside-judged =
      let same : b.known.file ≡ a.known.file = same-file a b judges.grows judged.rests.whole in
      record {
        rules = record {
          rests = judges.rests;
          lines = λ t among plain.
              line-stays a b judges.grows judged.rests judges.rests t (judged.lines t (subst (λ (f : File). Contains f.rules t) same among) plain);
        };
        loose = by b.known.file.loose;
      }
    where
      by : (ds : Disjs) → IsLooseJudged b.lines ds
      by no_disjs = tt
      by (more_disjs d ds) = (judges.number, judges.at, verdict, judges.is)

-- whether there are some, as the code has them
none-listed : (ds : List RawDisj) → length ds ≡ 0 → disj_list (map see_disj ds) ≡ no_disjs
none-listed [] none = refl
none-listed (d ∷ ds) none = absurd (omega (arith, none))

some-listed : (ds : List RawDisj) → (length ds ≡ 0 → ⊥) → (first : Disj) × (others : Disjs) × (disj_list (map see_disj ds) ≡ more_disjs first others)
some-listed [] some = absurd (some refl)
some-listed (d ∷ ds) some = (see_disj d, disj_list (map see_disj ds), refl)

module _ (held own : RuleFile) (same : held ≡ own) (raw : RawFile) (raw_is : raw ≡ own.raw) (ds : List RawDisj) (ds_is : ds ≡ raw.loose.items) (b : Bool) (b_is : b ≡ (length ds == 0)) where
  here : (file_of held).loose ≡ disj_list (map see_disj ds)
  here = ap (λ (f : RuleFile). (file_of f).loose) same ∙ sym (ap (λ (xs : List RawDisj). disj_list (map see_disj xs)) (ds_is ∙ ap (λ (r : RawFile). r.loose.items) raw_is))

  pub loose-empty : b ≡ true → (file_of held).loose ≡ no_disjs
  loose-empty empty =
      let test : (length ds == 0) ≡ true = sym b_is ∙ empty in
      here ∙ none-listed ds (grind (arith, nat_tests, test))

  pub loose-some : b ≡ false → (first : Disj) × (others : Disjs) × ((file_of held).loose ≡ more_disjs first others)
  loose-some full =
      let test : (length ds == 0) ≡ false = sym b_is ∙ full in
      let some = some-listed ds (λ none. grind (arith, nat_tests, test, none)) in
      (some.0, some.1, here ∙ some.2)

-- ---- the evidence

pub accepted : (s : State) → IsJudgedWhole s → Accepts Two s.known.template s.known.file s.lines
accepted s judged = record {
  follow = FollowTo-all Two (nothing_made s.known.template s.known.file) [] s.lines s.known judged.rules.rests.whole.follow;
  rules = λ r among plain.
      let line = judged.rules.lines r among plain in
      let said = rule-verdict s judged.rules.rests.whole r.site line.0 line.1 in
      (line.0, said.0, said.1, said.2);
  loose = judged.loose;
}

-- what an engine that began over a template and a file has of them at the end
module _ (a b : State) (template : Forest) (file : File) (template_is : a.known.template ≡ template) (file_is : a.known.file ≡ file) (grows : Grows a b) (judged : IsJudgedWhole b) where
  pub end-template : b.known.template ≡ template
  end-template = ap (λ (k : StoreModel). k.template) grows.known ∙ template_is

  pub end-file : b.known.file ≡ file
  end-file = ap (λ (k : StoreModel). k.file) grows.known ∙ file_is

  pub end-accepted : Accepts Two template file b.lines
  end-accepted = subst (λ (f : File). Accepts Two template f b.lines) end-file (subst (λ (t : Forest). Accepts Two t b.known.file b.lines) end-template (accepted b judged))

  pub end-follow : FollowTo Two (nothing_made template file) [] b.lines b.known
  end-follow =
      subst (λ (f : File). FollowTo Two (nothing_made template f) [] b.lines b.known) end-file
      (subst (λ (t : Forest). FollowTo Two (nothing_made t b.known.file) [] b.lines b.known) end-template judged.rules.rests.whole.follow)
