-- Verdicts that stop at one that decides are together what all are: a disjunction and a block with `some` at PASS, a conjunction at FAIL.
use Rattle.std.proofs.Common.{◌≡◌, ◌⊎◌, ℕ, Bool, true, false, true≢false, ◌||◌, refl, sym, ap, ap₂, ◌∙◌, inl, inr, List, [], ◌∷◌, Option, None, Some, if◌then◌else◌}
use Rattle.std.specs.List.{list_any}
use Rattle.evidence_lines.specs.declared.version.Version.{Version}
use Rattle.evidence_lines.specs.declared.version.Version.TheVariants.{One, Two}
use Rattle.guard_syntax.specs.declared.row.Verdict.{Verdict}
use Rattle.guard_syntax.specs.declared.row.Verdict.TheVariants.{Pass, Fail, Skip}
use Rattle.evidence_rules.specs.Follows.{Behind, block_stop, conds_stop, disj_stop, is_stop}
use Rattle.rule_meaning.specs.Verdicts.{block_verdict, conjunction, disjunction, is_fail, is_pass}

-- one of them decides
abbrev pub IsDecided : Option Verdict → List Verdict → Type 0
IsDecided stop verdicts = list_any (is_stop stop) verdicts ≡ true

-- verdicts are the same, or both are decided
abbrev pub AreDecidedAlike : Option Verdict → (cut all : List Verdict) → Type 0
AreDecidedAlike stop cut all = (cut ≡ all) ⊎ (IsDecided stop cut × IsDecided stop all)

decided-here : (stop : Option Verdict) (w : Verdict) (ws : List Verdict) → is_stop stop w ≡ true → IsDecided stop (w ∷ ws)
decided-here stop w ws is = ap (λ (b : Bool). b || list_any (is_stop stop) ws) is

or-true : (b : Bool) → (b || true) ≡ true
or-true true = refl
or-true false = refl

decided-behind : (stop : Option Verdict) (w : Verdict) (ws : List Verdict) → IsDecided stop ws → IsDecided stop (w ∷ ws)
decided-behind stop w ws is = ap (λ (b : Bool). is_stop stop w || b) is ∙ or-true (is_stop stop w)

-- one in front of both
pub alike-cons : (stop : Option Verdict) (w x : Verdict) (ws xs : List Verdict) → x ≡ w → AreDecidedAlike stop ws xs → AreDecidedAlike stop (w ∷ ws) (x ∷ xs)
alike-cons stop w x ws xs is (inl same) = inl (ap₂ (λ (y : Verdict) (ys : List Verdict). y ∷ ys) (sym is) same)
alike-cons stop w x ws xs is (inr both) = inr (decided-behind stop w ws both.0, decided-behind stop x xs both.1)

-- one in front, behind which nothing is cited where it decides
pub alike-more : (stop : Option Verdict) (w x : Verdict) (ws xs unlined : List Verdict) (Next : List ℕ → List Verdict → Type 0) (cites : List ℕ) → x ≡ w
    → Behind (is_stop stop w) unlined Next cites ws → (Next cites ws → AreDecidedAlike stop ws xs) → AreDecidedAlike stop (w ∷ ws) (x ∷ xs)
alike-more stop w x ws xs unlined Next cites is behind go = by (is_stop stop w) refl behind
  where
    by : (b : Bool) → is_stop stop w ≡ b → Behind b unlined Next cites ws → AreDecidedAlike stop (w ∷ ws) (x ∷ xs)
    by true stops rest = inr (decided-here stop w ws stops, decided-here stop x xs (ap (is_stop stop) is ∙ stops))
    by false goes rest = alike-cons stop w x ws xs is (go rest)

-- nothing decides where nothing may
undecided : (ws : List Verdict) → IsDecided None ws → ⊥
undecided [] is = true≢false (sym is)
undecided (w ∷ ws) is = undecided ws is

pub alike-all : (fold : List Verdict → Verdict) (vs ws : List Verdict) → AreDecidedAlike None vs ws → fold vs ≡ fold ws
alike-all fold vs ws (inl same) = ap fold same
alike-all fold vs ws (inr both) = absurd (undecided vs both.0)

passed : (ws : List Verdict) → IsDecided (Some Pass) ws → disjunction ws ≡ Pass
passed ws is = ap (λ (b : Bool). if b then Pass else (if list_any is_fail ws then Fail else Skip)) is

failed : (ws : List Verdict) → IsDecided (Some Fail) ws → conjunction ws ≡ Fail
failed ws is = ap (λ (b : Bool). if b then Fail else (if list_any is_pass ws then Pass else Skip)) is

alike-passed : (vs ws : List Verdict) → AreDecidedAlike (Some Pass) vs ws → disjunction vs ≡ disjunction ws
alike-passed vs ws (inl same) = ap disjunction same
alike-passed vs ws (inr both) = passed vs both.0 ∙ sym (passed ws both.1)

alike-failed : (vs ws : List Verdict) → AreDecidedAlike (Some Fail) vs ws → conjunction vs ≡ conjunction ws
alike-failed vs ws (inl same) = ap conjunction same
alike-failed vs ws (inr both) = failed vs both.0 ∙ sym (failed ws both.1)

-- ---- in each version

pub alike-disj : (version : Version) (vs ws : List Verdict) → AreDecidedAlike (disj_stop version) vs ws → disjunction vs ≡ disjunction ws
alike-disj One vs ws h = alike-all disjunction vs ws h
alike-disj Two vs ws h = alike-passed vs ws h

pub alike-conds : (version : Version) (vs ws : List Verdict) → AreDecidedAlike (conds_stop version) vs ws → conjunction vs ≡ conjunction ws
alike-conds One vs ws h = alike-all conjunction vs ws h
alike-conds Two vs ws h = alike-failed vs ws h

pub alike-block : (any : Bool) (version : Version) (vs ws : List Verdict) → AreDecidedAlike (block_stop any version) vs ws → block_verdict any vs ≡ block_verdict any ws
alike-block false version vs ws h = alike-all conjunction vs ws h
alike-block true One vs ws h = alike-all disjunction vs ws h
alike-block true Two vs ws h = alike-passed vs ws h
