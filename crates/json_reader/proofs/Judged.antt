-- A verdict is a tree where reading gives it, a refusal where it gives none.
use Rattle.std.proofs.Common.{◌≡◌, ℕ, suc, List, [], ◌∷◌, refl, sym, ap, ◌∙◌, Option, Some, None}
use Rattle.std.specs.Prelude.{Result, Ok, Err}
use Rattle.doc_values.specs.Tree.{Forest}
use Rattle.doc_values.specs.Unfinished.{Unfinished}
use Rattle.json_reader.specs.declared.refusal.JsonRefusal.{JsonRefusal}
use Rattle.json_reader.specs.declared.refusal.JsonRefusal.TheVariants.{Syntax, DuplicateKey, NumberRange, TooDeep}
use Rattle.json_reader.specs.code.Reading.{Phase, Next, Stop, Go, goes_on, next, cause, judged, ended, final, final_cause, judge, read}

-- a property of verdicts
abbrev pub Verdicts : Type 1
Verdicts = Result Forest JsonRefusal → Type 0

-- a refusal by a sign: a bracket too many, a number out of range or a key again
abbrev pub IsSign : JsonRefusal → Type 0
IsSign (TooDeep a) = Unit {0}
IsSign (NumberRange a) = Unit {0}
IsSign (DuplicateKey a) = Unit {0}
IsSign _ = ⊥

-- each sign has the property
abbrev pub Signs : Verdicts → Type 0
Signs Q = (e : JsonRefusal) → IsSign e → Q (Err e)

-- no wrong syntax has it
abbrev pub NoSyntax : Verdicts → Type 0
NoSyntax Q = (a : ℕ) → Q (Err (Syntax a)) → ⊥

-- the tree of a verdict, if it has one
abbrev pub given : Result Forest JsonRefusal → Option Forest
given (Ok v) = Some v
given (Err e) = None

given_ended : (o : Option Forest) (e : JsonRefusal) → o ≡ given (ended o e)
given_ended None e = refl
given_ended (Some v) e = refl

given_next : (n : Next) (e : JsonRefusal) (f : Phase → Unfinished → Option Forest) (g : Phase → Unfinished → Result Forest JsonRefusal) → ((p : Phase) (u : Unfinished) → f p u ≡ given (g p u)) → goes_on n f ≡ given (judged n e g)
given_next Stop e f g h = refl
given_next (Go p u) e f g h = h p u

pub read_judge : (bytes : List ℕ) (at : ℕ) (p : Phase) (u : Unfinished) → read bytes at p u ≡ given (judge bytes at p u)
read_judge [] at p u = given_ended (final p u) (final_cause at p)
read_judge (b ∷ bytes) at p u = given_next (next at p u b) (cause at p b) (read bytes (suc at)) (judge bytes (suc at)) (λ q w. read_judge bytes (suc at) q w)

given_ok : (r : Result Forest JsonRefusal) (v : Forest) → given r ≡ Some v → r ≡ Ok v
given_ok (Ok t) v h = let same : t ≡ v = cc in ap Ok same
given_ok (Err e) v h = absurd (cc)

given_err : (r : Result Forest JsonRefusal) (e : JsonRefusal) → r ≡ Err e → given r ≡ None
given_err r e h = ap given h

pub err_same : (x y : JsonRefusal) → ◌≡◌ {A = Result Forest JsonRefusal} (Err x) (Err y) → x ≡ y
err_same x y e = cc

pub err_ok : (e : JsonRefusal) (v : Forest) → ◌≡◌ {A = Result Forest JsonRefusal} (Err e) (Ok v) → ⊥
err_ok e v h = cc

pub judge_ok : (bytes : List ℕ) (at : ℕ) (p : Phase) (u : Unfinished) (v : Forest) → judge bytes at p u ≡ Ok v → read bytes at p u ≡ Some v
judge_ok bytes at p u v h = read_judge bytes at p u ∙ ap given h

pub ok_judge : (bytes : List ℕ) (at : ℕ) (p : Phase) (u : Unfinished) (v : Forest) → read bytes at p u ≡ Some v → judge bytes at p u ≡ Ok v
ok_judge bytes at p u v h = given_ok (judge bytes at p u) v (sym (read_judge bytes at p u) ∙ h)

pub judge_err : (bytes : List ℕ) (at : ℕ) (p : Phase) (u : Unfinished) (x : JsonRefusal) → judge bytes at p u ≡ Err x → read bytes at p u ≡ None
judge_err bytes at p u x h = read_judge bytes at p u ∙ ap given h
