-- What has a body is read where one bracket more may open, and nowhere else.
use Rattle.std.proofs.Common.{◌≡◌, ◌≢◌, ℕ, zero, suc, Bool, true, false, cond, refl, ap, sym, subst, true≢false}
use Rattle.literal_parser.specs.Lexemes.{Lexeme}
use Rattle.literal_parser.specs.States.{State}
use Rattle.literal_parser.specs.code.Parser.{Outcome, Fail, Parser, stop}
use Rattle.part_parser.specs.code.Reading.{Inner, bodied, numbered}
use Rattle.literal_parser.proofs.Combine.{Holds, failed}
use Rattle.literal_parser.proofs.Steps.{Alike, Local, stop_local}

module _ (s : ℕ → Lexeme) (turns : ℕ) where
  module _ {A : Type 0} (inner : Inner) (p : Parser A) (st : State) (seen : ℕ) where
    pub roomy_reads : inner.roomy ≡ true → bodied s turns inner p st seen ≡ p st seen
    unfolding bodied
    roomy_reads e = ap (λ v. (cond {A = Parser A} v p stop) st seen) e

    pub full_stops : inner.roomy ≡ false → bodied s turns inner p st seen ≡ Fail seen
    unfolding bodied
    full_stops e = ap (λ v. (cond {A = Parser A} v p stop) st seen) e

    pub bodied_sound : {R : A → State → Type 0} → Holds (p st seen) R → Holds (bodied s turns inner p st seen) R
    bodied_sound {R} h = by inner.roomy refl where
      by : (v : Bool) → inner.roomy ≡ v → Holds (bodied s turns inner p st seen) R
      by true e = subst (λ (o : Outcome A). Holds o R) (sym (roomy_reads e)) h
      by false e = subst (λ (o : Outcome A). Holds o R) (sym (full_stops e)) failed

  module _ (number : ℕ → ℕ) where
    pub room_left : (depth : ℕ) → depth ≢ 0 → (numbered s turns number depth).roomy ≡ true
    room_left zero some = absurd (some refl)
    room_left (suc depth) some = refl

    pub no_room : (depth : ℕ) → depth ≡ 0 → (numbered s turns number depth).roomy ≡ false
    no_room depth e = ap (λ (k : ℕ). (numbered s turns number k).roomy) e

module _ (s w : ℕ → Lexeme) (turns : ℕ) where
  pub bodied_local : {A : Type 0} (i j : Inner) (p q : Parser A) → i.roomy ≡ j.roomy → Local s w p q → Local s w (bodied s turns i p) (bodied w turns j q)
  unfolding bodied
  bodied_local {A} i j p q same h st seen = by i.roomy j.roomy same where
    by : (v u : Bool) → v ≡ u → Alike s w seen ((cond {A = Parser A} v p stop) st seen) ((cond {A = Parser A} u q stop) st seen)
    by true true e = h st seen
    by true false e = absurd (true≢false e)
    by false true e = absurd (true≢false (sym e))
    by false false e = stop_local s w seen
