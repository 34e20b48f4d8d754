-- A condition is read by its lead, and an expression by its form: by the choices that they are made of.
use Rattle.std.proofs.Common.{◌≡◌, ℕ, suc, max, Bool, true, false, cond, refl}
use Rattle.literal_parser.specs.Lexemes.{Lexeme}
use Rattle.literal_parser.specs.Forms.{form, leads}
use Rattle.literal_parser.specs.States.{State}
use Rattle.literal_parser.specs.code.Parser.{Outcome, Read, Fail, Parser, and_then, pure, choose, choose_pair, choose_next, choose_third}
use Rattle.part_parser.specs.code.Reading.{Inner, cond_of, led_by_name, named_expr, expr_of}
use Rattle.part_parser.specs.declared.lead.Lead.TheVariants as lead
use Rattle.part_parser.specs.code.Leads.{lead_by_name, lead_of, expr_form, led_by, expr_by}

-- one reader gives what another gives and then a third
abbrev Then : {A B : Type 0} → (A → Parser B) → Parser B → Parser A → Type 0
Then g whole first = (st : State) (seen : ℕ) → whole st seen ≡ and_then (first st seen) g

either : {A B : Type 0} (g : A → Parser B) (p : Parser B) (p1 : Parser A) (q : Parser B) (q1 : Parser A) → Then g p p1 → Then g q q1 → (b : Bool) → Then g (cond b p q) (cond b p1 q1)
either g p p1 q q1 h k true = h
either g p p1 q q1 h k false = k

behind : {A B C : Type 0} (a : A) (g : A → Parser B) (o : Outcome C) → and_then o (λ _. g a) ≡ and_then (and_then o (λ _. pure a)) g
behind a g (Read c st seen) = refl
behind a g (Fail k) = refl

module _ (s : ℕ → Lexeme) where
  chosen : {A B : Type 0} (g : A → Parser B) (f : ℕ → Bool) (p : Parser B) (p1 : Parser A) (q : Parser B) (q1 : Parser A) → Then g p p1 → Then g q q1 → Then g (choose s f p q) (choose s f p1 q1)
  unfolding choose
  chosen g f p p1 q q1 h k st seen = either g p p1 q q1 h k (f (form (s st.at))) st (max seen st.at)

  chosen_pair : {A B : Type 0} (g : A → Parser B) (f : Lexeme → Lexeme → Bool) (p : Parser B) (p1 : Parser A) (q : Parser B) (q1 : Parser A) → Then g p p1 → Then g q q1 → Then g (choose_pair s f p q) (choose_pair s f p1 q1)
  unfolding choose_pair
  chosen_pair g f p p1 q q1 h k st seen = either g p p1 q q1 h k (f (s st.at) (s (suc st.at))) st (max seen (suc st.at))

  chosen_next : {A B : Type 0} (g : A → Parser B) (f : ℕ → Bool) (p : Parser B) (p1 : Parser A) (q : Parser B) (q1 : Parser A) → Then g p p1 → Then g q q1 → Then g (choose_next s f p q) (choose_next s f p1 q1)
  unfolding choose_next
  chosen_next g f p p1 q q1 h k st seen = either g p p1 q q1 h k (f (form (s (suc st.at)))) st (max seen (suc st.at))

  chosen_third : {A B : Type 0} (g : A → Parser B) (f : ℕ → Bool) (p : Parser B) (p1 : Parser A) (q : Parser B) (q1 : Parser A) → Then g p p1 → Then g q q1 → Then g (choose_third s f p q) (choose_third s f p1 q1)
  unfolding choose_third
  chosen_third g f p p1 q q1 h k st seen = either g p p1 q q1 h k (f (form (s (suc (suc st.at))))) st (max seen (suc (suc st.at)))

  module _ (turns : ℕ) (i : Inner) where
    named_led : (full : Bool) (n : ℕ) → Then (led_by s turns i full n) (led_by_name s turns i full n) (lead_by_name s (leads full))
    unfolding led_by_name lead_by_name
    named_led full n = chosen_next (led_by s turns i full n) _ _ _ _ _ (λ st seen. refl)
        (chosen_next (led_by s turns i full n) _ _ _ _ _ (chosen_third (led_by s turns i full n) _ _ _ _ _ (λ st seen. refl) (λ st seen. refl)) (λ st seen. refl))

    pub condition_led : (full : Bool) (n : ℕ) (st : State) (seen : ℕ) → cond_of s turns i full n st seen ≡ and_then (lead_of s (leads full) st seen) (led_by s turns i full n)
    unfolding cond_of lead_of
    condition_led full n = chosen (led_by s turns i full n) _ _ _ _ _ (λ st seen. behind (lead.Query true) (led_by s turns i full n) _)
        (chosen (led_by s turns i full n) _ _ _ _ _ (λ st seen. behind (lead.Rule true) (led_by s turns i full n) _)
        (chosen (led_by s turns i full n) _ _ _ _ _ (named_led full n) (chosen (led_by s turns i full n) _ _ _ _ _ (λ st seen. refl) (λ st seen. refl))))

    pub expr_formed : (st : State) (seen : ℕ) → expr_of s turns i st seen ≡ and_then (expr_form s st seen) (expr_by s turns i)
    unfolding expr_of named_expr expr_form
    expr_formed = chosen (expr_by s turns i) _ _ _ _ _ (λ st seen. refl) (chosen (expr_by s turns i) _ _ _ _ _
        (chosen_pair (expr_by s turns i) _ _ _ _ _ (λ st seen. refl) (chosen_next (expr_by s turns i) _ _ _ _ _ (λ st seen. refl) (chosen (expr_by s turns i) _ _ _ _ _ (λ st seen. refl) (λ st seen. refl))))
        (chosen (expr_by s turns i) _ _ _ _ _ (λ st seen. refl) (λ st seen. refl)))
