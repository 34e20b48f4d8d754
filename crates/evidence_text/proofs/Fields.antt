-- The fields of a line are read from just what spells them.
use Rattle.std.proofs.Common.{◌≡◌, ◌<◌, ◌^◌, ℕ, Bool, true, false, List, [], ◌∷◌, Option, Some, None, All, find, cond, decimal, refl, sym, ap, subst, ◌∙◌, arith, codes, is_some, option_map}
use Rattle.std.specs.Option.{IfSome}
use Rattle.std.specs.Str.{bytes_eq}
use Rattle.std.proofs.lemmas.Bool.{false≢true, true≢false}
use Rattle.std.proofs.lemmas.List.Elements.{All-nil}
use Rattle.std.proofs.lemmas.Option.{none-some}
use Rattle.std.proofs.lemmas.Slice.Eq.{bytes_eq-Decides}
use Rattle.guard_syntax.specs.declared.row.Verdict.{Verdict}
use Rattle.guard_syntax.specs.declared.row.Verdict.TheVariants.{Pass, Fail, Skip}
use Rattle.evidence_lines.specs.Shapes.{IsCount, IsOutcomeBounded, IsRowBounded, sort_said}
use Rattle.evidence_lines.specs.declared.line.LineKind.{LineKind}
use Rattle.evidence_lines.specs.declared.line.LineKind.TheVariants as kind
use Rattle.evidence_lines.specs.declared.line.Outcome.{Outcome}
use Rattle.evidence_lines.specs.declared.line.Outcome.TheVariants as says
use Rattle.evidence_lines.specs.declared.line.Sort.{Sort}
use Rattle.evidence_lines.specs.declared.line.Sort.TheVariants as sort
use Rattle.evidence_text.specs.code.Reading.{cites_in, count_in, if_placed, is_none_sign, kind_in, kinds, list_in, outcome_in, ref_in, row_in, verdict_in}
use Rattle.evidence_text.specs.Spelling.{kind_text, list_text, optional_text, outcome_text, row_text, verdict_text}
use Rattle.evidence_text.proofs.Bounds.{From, from_lesser}
use Rattle.evidence_text.proofs.Cuts.{mapped}
use Rattle.evidence_text.proofs.Lists.{IsSpelling, list_from, list_of, list_some, sign_only}
use Rattle.evidence_text.proofs.Numbers.{count_decimal, count_some, decimal_from}
use Rattle.evidence_text.proofs.Values.{number_from, ref_from, ref_of, ref_some, row_from, row_of, row_some}

-- ---- kinds

pub kind_of : (k : LineKind) → kind_in (kind_text k) ≡ Some k
kind_of kind.File = refl
kind_of kind.Frame = refl
kind_of kind.Literal = refl
kind_of kind.Found = refl
kind_of kind.Fn = refl
kind_of kind.Step = refl
kind_of kind.Filter = refl
kind_of kind.Keys = refl
kind_of kind.Capture = refl
kind_of kind.Types = refl
kind_of kind.Test = refl
kind_of kind.Refer = refl
kind_of kind.Call = refl
kind_of kind.Disj = refl
kind_of kind.Conj = refl
kind_of kind.When = refl
kind_of kind.Block = refl
kind_of kind.Kinds = refl
kind_of kind.Rule = refl

find_passes : {A : Type 0} (p : A → Bool) (xs : List A) (x : A) → find p xs ≡ Some x → p x ≡ true
find_passes p [] x e = absurd (none-some _ e)
find_passes p (y ∷ ys) x e = by_test p y ys x (p y) refl (λ f. find_passes p ys x f) e
  where
    by_test : {A : Type 0} (p : A → Bool) (y : A) (ys : List A) (x : A) (b : Bool) → p y ≡ b → (find p ys ≡ Some x → p x ≡ true)
        → cond b (Some y) (find p ys) ≡ Some x → p x ≡ true
    by_test p y ys x true is later e =
        let same : y ≡ x = cc in
        ap p (sym same) ∙ is
    by_test p y ys x false is later e = later e

pub kind_some : (name : List ℕ) (k : LineKind) → kind_in name ≡ Some k → kind_text k ≡ name
kind_some name k e = (bytes_eq-Decides (kind_text k) name).0 (find_passes (λ x. bytes_eq (kind_text x) name) kinds k e)

pub kind_from : (k : LineKind) → From 44 (kind_text k)
kind_from kind.File = refl
kind_from kind.Frame = refl
kind_from kind.Literal = refl
kind_from kind.Found = refl
kind_from kind.Fn = refl
kind_from kind.Step = refl
kind_from kind.Filter = refl
kind_from kind.Keys = refl
kind_from kind.Capture = refl
kind_from kind.Types = refl
kind_from kind.Test = refl
kind_from kind.Refer = refl
kind_from kind.Call = refl
kind_from kind.Disj = refl
kind_from kind.Conj = refl
kind_from kind.When = refl
kind_from kind.Block = refl
kind_from kind.Kinds = refl
kind_from kind.Rule = refl

-- ---- frames and sites

pub placed_of : (b : Bool) (P : ℕ → Type 0) (number_in : List ℕ → Option ℕ) → ((n : ℕ) → P n → number_in (decimal n) ≡ Some n)
    → (o : Option ℕ) → is_some o ≡ b → IfSome o P → if_placed b number_in (optional_text o) ≡ Some o
placed_of true P number_in reads None same bound = absurd (false≢true same)
placed_of true P number_in reads (Some n) same bound = ap (option_map (λ m. Some m)) (reads n bound)
placed_of false P number_in reads None same bound = refl
placed_of false P number_in reads (Some n) same bound = absurd (true≢false same)

-- a number or nothing, which stands just where it has to
pub record IsOptional (b : Bool) (P : ℕ → Type 0) (bytes : List ℕ) (o : Option ℕ) : Type 0 where
  pub same : is_some o ≡ b
  pub bound : IfSome o P
  pub text : optional_text o ≡ bytes

pub placed_some : (b : Bool) (P : ℕ → Type 0) (number_in : List ℕ → Option ℕ) → ((bytes : List ℕ) (n : ℕ) → number_in bytes ≡ Some n → P n × (decimal n ≡ bytes))
    → (bytes : List ℕ) (o : Option ℕ) → if_placed b number_in bytes ≡ Some o → IsOptional b P bytes o
placed_some true P number_in spells bytes o e =
    let read = mapped (λ m. Some m) (number_in bytes) o e in
    let whole = spells bytes read.0 read.1 in
    let Q : Option ℕ → Type 0 = λ p. IsOptional true P bytes p in
    subst Q read.2 (record { same = refl; bound = whole.0; text = whole.1 })
placed_some false P number_in spells bytes o e = by_sign P bytes o (is_none_sign bytes) refl e
  where
    by_sign : (P : ℕ → Type 0) (bytes : List ℕ) (o : Option ℕ) (b : Bool) → is_none_sign bytes ≡ b → cond b (Some None) None ≡ Some o → IsOptional false P bytes o
    by_sign P bytes o true is e =
        let none : None ≡ o = cc in
        let Q : Option ℕ → Type 0 = λ p. IsOptional false P bytes p in
        subst Q none (record { same = refl; bound = tt; text = sym (sign_only bytes is) })
    by_sign P bytes o false is e = absurd (none-some _ e)

pub optional_from : (P : ℕ → Type 0) → ((n : ℕ) → P n → n < 2 ^ 64) → (o : Option ℕ) → IfSome o P → From 44 (optional_text o)
optional_from P small None bound = refl
optional_from P small (Some n) bound = from_lesser 44 48 (decimal n) (omega arith) (decimal_from n (small n bound))

-- ---- cites

counts_spelled : IsSpelling decimal count_in IsCount
counts_spelled = record { reads = count_decimal; spells = count_some; above = number_from }

pub cites_of : (b : Bool) (xs : List ℕ) → (b ≡ false → xs ≡ []) → All IsCount xs → cites_in b (list_text decimal xs) ≡ Some xs
cites_of true xs none bound = list_of decimal count_in IsCount counts_spelled xs bound
cites_of false xs none bound =
    let empty = none refl in
    let P : List ℕ → Type 0 = λ ys. cites_in false (list_text decimal ys) ≡ Some ys in
    let here : P [] = refl in
    subst P (sym empty) here

pub record AreCites (b : Bool) (bytes : List ℕ) (xs : List ℕ) : Type 0 where
  pub none : b ≡ false → xs ≡ []
  pub bound : All IsCount xs
  pub text : list_text decimal xs ≡ bytes

pub cites_some : (b : Bool) (bytes : List ℕ) (xs : List ℕ) → cites_in b bytes ≡ Some xs → AreCites b bytes xs
cites_some true bytes xs e =
    let list = list_some decimal count_in IsCount counts_spelled bytes xs e in
    record { none = λ bad. absurd (true≢false bad); bound = list.0; text = list.1 }
cites_some false bytes xs e = by_sign bytes xs (is_none_sign bytes) refl e
  where
    by_sign : (bytes xs : List ℕ) (b : Bool) → is_none_sign bytes ≡ b → cond b (Some []) None ≡ Some xs → AreCites false bytes xs
    by_sign bytes xs true is e =
        let none : [] ≡ xs = cc in
        record { none = λ _. sym none; bound = subst (λ (ys : List ℕ). All IsCount ys) none (All-nil IsCount); text = ap (list_text decimal) (sym none) ∙ sym (sign_only bytes is) }
    by_sign bytes xs false is e = absurd (none-some _ e)

pub cites_from : (xs : List ℕ) → All IsCount xs → From 44 (list_text decimal xs)
cites_from xs bound = list_from decimal IsCount number_from xs bound

-- ---- what a line says

rows_spelled : IsSpelling row_text row_in IsRowBounded
rows_spelled = record { reads = row_of; spells = row_some; above = row_from }

verdict_of : (v : Verdict) → verdict_in (verdict_text v) ≡ Some v
verdict_of Pass = refl
verdict_of Fail = refl
verdict_of Skip = refl

verdict_some : (bytes : List ℕ) (v : Verdict) → verdict_in bytes ≡ Some v → verdict_text v ≡ bytes
verdict_some bytes v e = by_tests bytes v (bytes_eq bytes (codes "P")) (bytes_eq bytes (codes "F")) (bytes_eq bytes (codes "S")) refl refl refl e
  where
    spelled : (bytes text : List ℕ) (v w : Verdict) → bytes_eq bytes text ≡ true → verdict_text w ≡ text → Some w ≡ Some v → verdict_text v ≡ bytes
    spelled bytes text v w is spelling e =
        let same : w ≡ v = cc in
        ap verdict_text (sym same) ∙ spelling ∙ sym ((bytes_eq-Decides bytes text).0 is)

    by_tests : (bytes : List ℕ) (v : Verdict) (p f s : Bool) → bytes_eq bytes (codes "P") ≡ p → bytes_eq bytes (codes "F") ≡ f → bytes_eq bytes (codes "S") ≡ s
        → cond p (Some Pass) (cond f (Some Fail) (cond s (Some Skip) None)) ≡ Some v → verdict_text v ≡ bytes
    by_tests bytes v true f s is_p is_f is_s e = spelled bytes (codes "P") v Pass is_p refl e
    by_tests bytes v false true s is_p is_f is_s e = spelled bytes (codes "F") v Fail is_f refl e
    by_tests bytes v false false true is_p is_f is_s e = spelled bytes (codes "S") v Skip is_s refl e
    by_tests bytes v false false false is_p is_f is_s e = absurd (none-some _ e)

said_of : (o : Outcome) → IsOutcomeBounded o → outcome_in (sort_said o) (outcome_text o) ≡ Some o
said_of (says.Value v) bound = ap (option_map (λ w. says.Value w)) (ref_of v bound)
said_of (says.Rows rows) bound = ap (option_map (λ rs. says.Rows rs)) (list_of row_text row_in IsRowBounded rows_spelled rows bound)
said_of (says.Verdict v) bound = ap (option_map (λ w. says.Verdict w)) (verdict_of v)

pub outcome_of : (s : Sort) (o : Outcome) → sort_said o ≡ s → IsOutcomeBounded o → outcome_in s (outcome_text o) ≡ Some o
outcome_of s o same bound = ap (λ t. outcome_in t (outcome_text o)) (sym same) ∙ said_of o bound

pub record IsOutcome (s : Sort) (bytes : List ℕ) (o : Outcome) : Type 0 where
  pub same : sort_said o ≡ s
  pub bound : IsOutcomeBounded o
  pub text : outcome_text o ≡ bytes

pub outcome_some : (s : Sort) (bytes : List ℕ) (o : Outcome) → outcome_in s bytes ≡ Some o → IsOutcome s bytes o
outcome_some sort.Value bytes o e =
    let read = mapped (λ v. says.Value v) (ref_in bytes) o e in
    let whole = ref_some bytes read.0 read.1 in
    let P : Outcome → Type 0 = λ p. IsOutcome sort.Value bytes p in
    subst P read.2 (record { same = refl; bound = whole.0; text = whole.1 })
outcome_some sort.Rows bytes o e =
    let read = mapped (λ rs. says.Rows rs) (list_in row_in bytes) o e in
    let whole = list_some row_text row_in IsRowBounded rows_spelled bytes read.0 read.1 in
    let P : Outcome → Type 0 = λ p. IsOutcome sort.Rows bytes p in
    subst P read.2 (record { same = refl; bound = whole.0; text = whole.1 })
outcome_some sort.Verdict bytes o e =
    let read = mapped (λ v. says.Verdict v) (verdict_in bytes) o e in
    let P : Outcome → Type 0 = λ p. IsOutcome sort.Verdict bytes p in
    subst P read.2 (record { same = refl; bound = tt; text = verdict_some bytes read.0 read.1 })

pub outcome_from : (o : Outcome) → IsOutcomeBounded o → From 32 (outcome_text o)
outcome_from (says.Value v) bound = from_lesser 32 46 (outcome_text (says.Value v)) (omega arith) (ref_from v bound)
outcome_from (says.Rows rows) bound = from_lesser 32 44 (list_text row_text rows) (omega arith) (list_from row_text IsRowBounded row_from rows bound)
outcome_from (says.Verdict Pass) bound = refl
outcome_from (says.Verdict Fail) bound = refl
outcome_from (says.Verdict Skip) bound = refl
