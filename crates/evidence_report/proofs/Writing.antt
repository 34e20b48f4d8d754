-- What calls do that write texts to a sink, one after another and in a loop.
use Rattle.std.proofs.Common.{◌≡◌, ◌⊎◌, ℕ, ◌<◌, ◌≤◌, List, [], ◌++◌, Option, Result, Ok, Err, IfOk, OnErr, OnOk, refl, sym, ap, subst, ◌∙◌, inl, inr, arith}
use Rattle.std.specs.Prelude.{IsErrAnd, IsErrOf, IsSome}
use Rattle.guard_io.specs.Outside.{FaultCounted}
use Rattle.report_text.specs.declared.put.ReportFault.{ReportFault}
use Rattle.report_text.specs.declared.put.ReportFault.TheVariants as fault
use Rattle.evidence_report.specs.code.Written.{Takes, TakesFront, Writes}
use Rattle.evidence_report.proofs.TakenTexts.{OwesText, front-longer, front-none, front-then, takes-then, then-err, then-ok}

not-failed : {A : Type 0} (x : A) (e : ReportFault) → Ok x ≡ Err e → ⊥
not-failed x e is = cc

same-fault : {A : Type 0} (r : Result A ReportFault) (y f : ReportFault) → r ≡ Err y → r ≡ Err f → y ≡ f
same-fault r y f is there = cc

rose-later : (f g h : ℕ) → f ≤ g → FaultCounted g h → FaultCounted f h
rose-later f g h kept (inl less) = inl (omega (arith, kept, less))
rose-later f g h kept (inr last) = inr last

-- memory was wanting before anything was written
pub writes-refused : {A : Type 0} (a : Option (List ℕ)) (f : ℕ) (t : List ℕ) → Writes {A = A} a a f f t (Err fault.Memory)
writes-refused a f t = record { ok = tt; err = front-none a t; tells = λ some. some; failed = λ is. absurd cc; kept = omega arith }

-- a text and then another
pub writes-then : {A B : Type 0} (x : A) (r : Result B ReportFault) (a b c : Option (List ℕ)) (f g h : ℕ) (t u : List ℕ) → Writes a b f g t (Ok x) → Writes b c g h u r → Writes a c f h (t ++ u) r
writes-then x r a b c f g h t u first second =
    let one = first.kept in
    let two = second.kept in
    record {
      ok = then-ok r (Takes b u c) (Takes a (t ++ u) c) (takes-then a b c t u first.ok) second.ok;
      err = then-err r (TakesFront b u c) (TakesFront a (t ++ u) c) (front-then a b c t u first.ok) second.err;
      tells = λ some. second.tells (first.tells some);
      failed = λ is. rose-later f g h one (second.failed is);
      kept = omega (arith, one, two);
    }

-- an error that is handed up, of the first of two texts
pub writes-stopped : {A B : Type 0} (e : ReportFault) (r : Result B ReportFault) (a b : Option (List ℕ)) (f g : ℕ) (t u : List ℕ) → Writes {A = A} a b f g t (Err e) → IsErrAnd r (λ (y : ReportFault). y ≡ e)
    → Writes a b f g (t ++ u) r
writes-stopped e (Ok x) a b f g t u first is = absurd is
writes-stopped e (Err y) a b f g t u first is = record {
  ok = tt;
  err = front-longer a b t u first.err;
  tells = first.tells;
  failed = λ there. first.failed (ap (λ (x : ReportFault). Err x) (sym is ∙ same-fault (Err y) y fault.Failed refl there));
  kept = first.kept;
}

-- the same of a text that is written whole
pub writes-same : {A B : Type 0} (x : A) (y : B) (a b : Option (List ℕ)) (f g : ℕ) (t u : List ℕ) → t ≡ u → Writes a b f g t (Ok x) → Writes a b f g u (Ok y)
writes-same x y a b f g t u same first = record {
  ok = subst (λ (s : List ℕ). Takes a s b) same first.ok;
  err = tt;
  tells = first.tells;
  failed = λ is. absurd (not-failed y fault.Failed is);
  kept = first.kept;
}

-- what a loop has written so far, and what is left
pub record OwesWrites (start now : Option (List ℕ)) (was faults : ℕ) (all left : List ℕ) : Type 0 where
  pub text : OwesText start now all left
  pub tells : IsSome start → IsSome now
  pub kept : was ≤ faults

pub loop-goes : {A : Type 0} (x : A) (start now later : Option (List ℕ)) (f g h : ℕ) (all left rest piece : List ℕ) → OwesWrites start now f g all left → Writes now later g h piece (Ok x)
    → (Takes now piece later → OwesText start now all left → OwesText start later all rest) → OwesWrites start later f h all rest
loop-goes x start now later f g h all left rest piece owes more on =
    let was = owes.kept in
    let next = more.kept in
    record { text = on more.ok owes.text; tells = λ some. more.tells (owes.tells some); kept = omega (arith, was, next) }

pub loop-stops : {A B : Type 0} (e : ReportFault) (r : Result B ReportFault) (start now later : Option (List ℕ)) (f g h : ℕ) (all left piece : List ℕ) → OwesWrites start now f g all left
    → Writes {A = A} now later g h piece (Err e) → IsErrAnd r (λ (y : ReportFault). y ≡ e) → (TakesFront now piece later → OwesText start now all left → TakesFront start all later) → Writes start later f h all r
loop-stops e (Ok x) start now later f g h all left piece owes last is on = absurd is
loop-stops e (Err y) start now later f g h all left piece owes last is on =
    let was = owes.kept in
    let next = last.kept in
    record {
      ok = tt;
      err = on last.err owes.text;
      tells = λ some. last.tells (owes.tells some);
      failed = λ there. rose-later f g h was (last.failed (ap (λ (x : ReportFault). Err x) (sym is ∙ same-fault (Err y) y fault.Failed refl there)));
      kept = omega (arith, was, next);
    }

pub loop-ends : {A : Type 0} (x : A) (start now : Option (List ℕ)) (f g : ℕ) (all left : List ℕ) → OwesWrites start now f g all left → (OwesText start now all left → Takes start all now) → Writes start now f g all (Ok x)
loop-ends x start now f g all left owes on = record { ok = on owes.text; err = tt; tells = owes.tells; failed = λ is. absurd (not-failed x fault.Failed is); kept = owes.kept }
