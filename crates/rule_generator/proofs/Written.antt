-- Texts that are appended one after another.
use Rattle.std.proofs.Common.{◌≡◌, ℕ, List, ◌++◌, ap, ◌∙◌, append_assoc}
use Rattle.std.specs.Prelude.{Result, Ok, Err, OnOk, if◌then◌else◌}
use Rattle.std.specs.Result.{is_ok}

-- what `push_str` says, where its answer is handed on
pub written-last : {T E : Type 0} (r : Result T E) (after before last all : List ℕ) → after ≡ (if is_ok r then before ++ last else before) → before ++ last ≡ all → OnOk r (after ≡ all)
written-last (Ok x) after before last all e f = e ∙ f
written-last (Err x) after before last all e f = tt

pub three : (out a b c : List ℕ) → ((out ++ a) ++ b) ++ c ≡ out ++ ((a ++ b) ++ c)
three out a b c = ap (λ t. t ++ c) (append_assoc out a b) ∙ append_assoc out (a ++ b) c

pub four : (out a b c d : List ℕ) → (((out ++ a) ++ b) ++ c) ++ d ≡ out ++ (((a ++ b) ++ c) ++ d)
four out a b c d = ap (λ t. t ++ d) (three out a b c) ∙ append_assoc out ((a ++ b) ++ c) d

pub five : (out a b c d e : List ℕ) → ((((out ++ a) ++ b) ++ c) ++ d) ++ e ≡ out ++ ((((a ++ b) ++ c) ++ d) ++ e)
five out a b c d e = ap (λ t. t ++ e) (four out a b c d) ∙ append_assoc out (((a ++ b) ++ c) ++ d) e
