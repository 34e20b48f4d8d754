-- What is spelled so is read so: the choices by the lexemes ahead, given what the chosen reader gives.
use Rattle.std.proofs.Common.{◌≡◌, ℕ, suc, Bool, true, false, cond, ◌&&◌, refl, sym, ◌∙◌, subst, true≢false}
use Rattle.guard_syntax.specs.Syntax.{Expr, Part}
use Rattle.literal_parser.specs.Lexemes.{Lexeme}
use Rattle.literal_parser.specs.Forms.{form, is_name, is_any_name, is_lparen, is_plain, is_constant, is_function_word, is_some_word, is_start, is_neg, is_operator_word, opens_range, is_literal, is_applied, begins_query, leads, is_led}
use Rattle.literal_parser.specs.States.{State}
use Rattle.literal_parser.specs.code.Parser.{Parser, choose, choose_pair, choose_next, choose_third}
use Rattle.part_parser.specs.code.Reading.{Inner, tree_expr, applied, asked_expr, named_expr, expr_of, found_expr, value_of, headed, ruled, led_by_name, cond_of}
use Rattle.literal_parser.proofs.Combine.{Gives}
use Rattle.literal_parser.proofs.Apart.{apart, implied}
use Rattle.part_parser.proofs.Rooms.{roomy_reads}
use Rattle.guard_parser.proofs.Facts.{literal_range, literal_plain, literal_constant, literal_applied, literal_named, literal_other, literal_word, led_by_next, led_by_third, unled_next, unled_third}

-- no test answers both
pub contrary : {v : Bool} → v ≡ true → v ≡ false → ⊥
contrary e f = true≢false (sym e ∙ f)

and_true : (a b : Bool) → a ≡ true → b ≡ true → (a && b) ≡ true
and_true a b e f = rw (e, f) refl

either : {A : Type 0} {x : A} {b : State} (p q : Parser A) (a : State) (n : ℕ) (v : Bool)
    → (v ≡ true → Gives (p a n) x b) → (v ≡ false → Gives (q a n) x b) → Gives ((cond v p q) a n) x b
either p q a n true h k = h refl
either p q a n false h k = k refl

module _ (s : ℕ → Lexeme) where
  -- whichever is chosen gives it
  pub pick : {A : Type 0} {x : A} {b : State} (f : ℕ → Bool) (p q : Parser A) (a : State) (seen : ℕ)
      → (f (form (s a.at)) ≡ true → (n : ℕ) → Gives (p a n) x b) → (f (form (s a.at)) ≡ false → (n : ℕ) → Gives (q a n) x b) → Gives (choose s f p q a seen) x b
  unfolding choose
  pick f p q a seen h k = either p q a _ (f (form (s a.at))) (λ e. h e _) (λ e. k e _)

  pub pick_pair : {A : Type 0} {x : A} {b : State} (f : Lexeme → Lexeme → Bool) (p q : Parser A) (a : State) (seen : ℕ)
      → (f (s a.at) (s (suc a.at)) ≡ true → (n : ℕ) → Gives (p a n) x b) → (f (s a.at) (s (suc a.at)) ≡ false → (n : ℕ) → Gives (q a n) x b)
      → Gives (choose_pair s f p q a seen) x b
  unfolding choose_pair
  pick_pair f p q a seen h k = either p q a _ (f (s a.at) (s (suc a.at))) (λ e. h e _) (λ e. k e _)

  pub pick_next : {A : Type 0} {x : A} {b : State} (f : ℕ → Bool) (p q : Parser A) (a : State) (seen : ℕ)
      → (f (form (s (suc a.at))) ≡ true → (n : ℕ) → Gives (p a n) x b) → (f (form (s (suc a.at))) ≡ false → (n : ℕ) → Gives (q a n) x b)
      → Gives (choose_next s f p q a seen) x b
  unfolding choose_next
  pick_next f p q a seen h k = either p q a _ (f (form (s (suc a.at)))) (λ e. h e _) (λ e. k e _)

  pub pick_third : {A : Type 0} {x : A} {b : State} (f : ℕ → Bool) (p q : Parser A) (a : State) (seen : ℕ)
      → (f (form (s (suc (suc a.at)))) ≡ true → (n : ℕ) → Gives (p a n) x b) → (f (form (s (suc (suc a.at)))) ≡ false → (n : ℕ) → Gives (q a n) x b)
      → Gives (choose_third s f p q a seen) x b
  unfolding choose_third
  pick_third f p q a seen h k = either p q a _ (f (form (s (suc (suc a.at))))) (λ e. h e _) (λ e. k e _)

  module _ (turns : ℕ) (i : Inner) where
    -- ---- expressions

    pub literal_chosen : (x : Expr) (a b : State) (seen : ℕ) → is_literal (s a.at) (s (suc a.at)) ≡ true
        → ((n : ℕ) → Gives (tree_expr s turns i a n) x b) → Gives (expr_of s turns i a seen) x b
    unfolding expr_of named_expr
    literal_chosen x a b seen e h = pick is_function_word _ _ a seen (λ word n. absurd (contrary e (literal_word (s a.at) (s (suc a.at)) word))) (λ word n. pick is_any_name _ _ a n
        (λ name n. pick_pair opens_range _ _ a n (λ r m. h m) (λ r m. pick_next is_lparen _ _ a m
        (λ l k. absurd (contrary e (literal_applied (s a.at) (s (suc a.at)) name r l)))
        (λ l k. pick is_constant _ _ a k (λ c j. h j) (λ c j. absurd (contrary e (literal_named (s a.at) (s (suc a.at)) name r c))))))
        (λ name n. pick is_plain _ _ a n (λ p m. h m) (λ p m. absurd (contrary e (literal_other (s a.at) (s (suc a.at)) name p)))))

    pub applied_chosen : (x : Expr) (a b : State) (seen : ℕ) → i.roomy ≡ true → is_literal (s a.at) (s (suc a.at)) ≡ false → is_any_name (form (s a.at)) ≡ true → is_lparen (form (s (suc a.at))) ≡ true
        → ((n : ℕ) → Gives (applied s turns i a n) x b) → Gives (expr_of s turns i a seen) x b
    unfolding expr_of named_expr
    applied_chosen x a b seen room e f g h = pick is_function_word _ _ a seen (λ word n. subst (λ o. Gives o x b) (sym (roomy_reads s turns i (applied s turns i) a n room)) (h n)) (λ word n. pick is_any_name _ _ a n
        (λ name n. pick_pair opens_range _ _ a n (λ r m. absurd (contrary (literal_range (s a.at) (s (suc a.at)) r) e)) (λ r m. pick_next is_lparen _ _ a m
        (λ l k. h k) (λ l k. absurd (contrary g l))))
        (λ name n. absurd (contrary f name)))

    pub asked_chosen : (x : Expr) (a b : State) (seen : ℕ) → begins_query (form (s a.at)) ≡ true → is_literal (s a.at) (s (suc a.at)) ≡ false → is_applied (s a.at) (s (suc a.at)) ≡ false
        → ((n : ℕ) → Gives (asked_expr s turns i a n) x b) → Gives (expr_of s turns i a seen) x b
    unfolding expr_of named_expr
    asked_chosen x a b seen asks e f h = pick is_function_word _ _ a seen (λ word n. absurd (contrary asks (apart is_function_word begins_query (s a.at) refl word))) (λ word n. pick is_any_name _ _ a n
        (λ name n. pick_pair opens_range _ _ a n (λ r m. absurd (contrary (literal_range (s a.at) (s (suc a.at)) r) e)) (λ r m. pick_next is_lparen _ _ a m
        (λ l k. absurd (contrary (and_true _ _ name l) f))
        (λ l k. pick is_constant _ _ a k (λ c j. absurd (contrary (literal_constant (s a.at) (s (suc a.at)) c l) e)) (λ c j. h j))))
        (λ name n. pick is_plain _ _ a n (λ p m. absurd (contrary (literal_plain (s a.at) (s (suc a.at)) p) e)) (λ p m. h m)))

    -- behind a let's `=`: `some` and a query, unless the word is a function's name
    pub found_chosen : (x : Expr) (a b : State) (seen : ℕ) → is_applied (s a.at) (s (suc a.at)) ≡ false → is_some_word (form (s a.at)) ≡ true
        → ((n : ℕ) → Gives (found_expr s turns i a n) x b) → Gives (value_of s turns i a seen) x b
    unfolding value_of
    found_chosen x a b seen e f h = pick is_some_word _ _ a seen
        (λ w n. pick_next is_lparen _ _ a n (λ l m. absurd (contrary (and_true _ _ (implied is_some_word is_any_name (s a.at) refl w) l) e)) (λ l m. h m))
        (λ w n. absurd (contrary f w))

    pub expr_chosen : (x : Expr) (a b : State) (seen : ℕ) → (is_some_word (form (s a.at)) ≡ true → is_lparen (form (s (suc a.at))) ≡ true)
        → ((n : ℕ) → Gives (expr_of s turns i a n) x b) → Gives (value_of s turns i a seen) x b
    unfolding value_of
    expr_chosen x a b seen e h = pick is_some_word _ _ a seen
        (λ w n. pick_next is_lparen _ _ a n (λ l m. h m) (λ l m. absurd (contrary (e w) l)))
        (λ w n. h n)

    -- ---- parts

    -- what begins a query begins the head of a part
    pub led_chosen : (full : Bool) (n : ℕ) (x : Part) (a b : State) (seen : ℕ) → is_led full (form (s a.at)) (form (s (suc a.at))) (form (s (suc (suc a.at)))) ≡ true
        → ((k : ℕ) → Gives (headed s turns i full n false a k) x b) → Gives (cond_of s turns i full n a seen) x b
    unfolding cond_of led_by_name
    led_chosen full n x a b seen e h = pick is_some_word _ _ a seen
        (λ w k. absurd (contrary e (neither_led (form (s a.at)) (apart is_some_word is_start (s a.at) refl w) (apart is_some_word is_name (s a.at) refl w))))
        (λ w k. pick is_neg _ _ a k
        (λ v k. absurd (contrary e (neither_led (form (s a.at)) (apart is_neg is_start (s a.at) refl v) (apart is_neg is_name (s a.at) refl v))))
        (λ v k. pick is_name _ _ a k
        (λ m k. pick_next (leads full) _ _ a k (λ l k. h k) (λ l k. pick_next is_neg _ _ a k
        (λ g k. pick_third is_operator_word _ _ a k (λ o k. h k) (λ o k. absurd (contrary e (unled_third full (s a.at) (s (suc a.at)) (s (suc (suc a.at))) m l o))))
        (λ g k. absurd (contrary e (unled_next full (s a.at) (s (suc a.at)) (s (suc (suc a.at))) m l g)))))
        (λ m k. pick is_start _ _ a k (λ t k. h k) (λ t k. absurd (contrary e (neither_led (form (s a.at)) t m)))))) where
          neither_led : (f : ℕ) → is_start f ≡ false → is_name f ≡ false → is_led full f (form (s (suc a.at))) (form (s (suc (suc a.at)))) ≡ false
          neither_led f e g = rw (e, g) refl

    -- a name that begins no query is a rule's
    pub named_chosen : (full : Bool) (n : ℕ) (x : Part) (a b : State) (seen : ℕ) → is_led full (form (s a.at)) (form (s (suc a.at))) (form (s (suc (suc a.at)))) ≡ false
        → is_name (form (s a.at)) ≡ true → ((k : ℕ) → Gives (ruled s turns i n false a k) x b) → Gives (cond_of s turns i full n a seen) x b
    unfolding cond_of led_by_name
    named_chosen full n x a b seen e m h = pick is_some_word _ _ a seen
        (λ w k. absurd (contrary w (apart is_name is_some_word (s a.at) refl m)))
        (λ w k. pick is_neg _ _ a k
        (λ v k. absurd (contrary v (apart is_name is_neg (s a.at) refl m)))
        (λ v k. pick is_name _ _ a k
        (λ m k. pick_next (leads full) _ _ a k
        (λ l k. absurd (contrary (led_by_next full (s a.at) (s (suc a.at)) (s (suc (suc a.at))) m l) e))
        (λ l k. pick_next is_neg _ _ a k
        (λ g k. pick_third is_operator_word _ _ a k (λ o k. absurd (contrary (led_by_third full (s a.at) (s (suc a.at)) (s (suc (suc a.at))) m g o) e)) (λ o k. h k))
        (λ g k. h k)))
        (λ f k. absurd (contrary m f))))
