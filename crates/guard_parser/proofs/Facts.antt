-- What the tests of lexemes in a row say together.
use Rattle.std.proofs.Common.{◌≡◌, Bool, true, false, not, ◌&&◌, ◌||◌, refl}
use Rattle.literal_parser.specs.Lexemes.{Lexeme}
use Rattle.literal_parser.specs.Forms.{form, is_name, is_any_name, is_lparen, is_plain, is_constant, is_function_word, is_r, is_start, is_neg, is_operator_word, opens_range, is_literal, is_applied, leads, goes_on, is_led}
use Rattle.literal_parser.proofs.Apart.{apart, denied}

-- ---- literals, calls and queries: plain, range, constant, parenthesis

by_plain : (p r c l : Bool) → p ≡ true → (p || (r || (c && not l))) ≡ true
by_plain p r c l e = rw e refl

by_range : (p r c l : Bool) → r ≡ true → (p || (r || (c && not l))) ≡ true
by_range true r c l e = refl
by_range false r c l e = rw e refl

by_constant : (p r c l : Bool) → c ≡ true → l ≡ false → (p || (r || (c && not l))) ≡ true
by_constant true r c l e f = refl
by_constant false true c l e f = refl
by_constant false false c l e f = rw (e, f) refl

by_none : (p r c l : Bool) → p ≡ false → r ≡ false → c ≡ false → (p || (r || (c && not l))) ≡ false
by_none p r c l e f g = rw (e, f, g) refl

by_paren : (p r c l : Bool) → p ≡ false → r ≡ false → l ≡ true → (p || (r || (c && not l))) ≡ false
by_paren p r true l e f g = rw (e, f, g) refl
by_paren p r false l e f g = rw (e, f) refl

no_range : (r b : Bool) → r ≡ false → (r && b) ≡ false
no_range r b e = rw e refl

pub literal_range : (x y : Lexeme) → opens_range x y ≡ true → is_literal x y ≡ true
literal_range x y e = by_range (is_plain (form x)) (opens_range x y) (is_constant (form x)) (is_lparen (form y)) e

pub literal_plain : (x y : Lexeme) → is_plain (form x) ≡ true → is_literal x y ≡ true
literal_plain x y e = by_plain (is_plain (form x)) (opens_range x y) (is_constant (form x)) (is_lparen (form y)) e

pub literal_constant : (x y : Lexeme) → is_constant (form x) ≡ true → is_lparen (form y) ≡ false → is_literal x y ≡ true
literal_constant x y e f = by_constant (is_plain (form x)) (opens_range x y) (is_constant (form x)) (is_lparen (form y)) e f

pub literal_applied : (x y : Lexeme) → is_any_name (form x) ≡ true → opens_range x y ≡ false → is_lparen (form y) ≡ true → is_literal x y ≡ false
literal_applied x y e f g = by_paren (is_plain (form x)) (opens_range x y) (is_constant (form x)) (is_lparen (form y)) (apart is_any_name is_plain x refl e) f g

pub literal_named : (x y : Lexeme) → is_any_name (form x) ≡ true → opens_range x y ≡ false → is_constant (form x) ≡ false → is_literal x y ≡ false
literal_named x y e f g = by_none (is_plain (form x)) (opens_range x y) (is_constant (form x)) (is_lparen (form y)) (apart is_any_name is_plain x refl e) f g

pub literal_other : (x y : Lexeme) → is_any_name (form x) ≡ false → is_plain (form x) ≡ false → is_literal x y ≡ false
literal_other x y e f = by_none (is_plain (form x)) (opens_range x y) (is_constant (form x)) (is_lparen (form y)) f
    (no_range (is_r (form x)) _ (denied is_r is_any_name x refl e)) (denied is_constant is_any_name x refl e)

pub literal_word : (x y : Lexeme) → is_function_word (form x) ≡ true → is_literal x y ≡ false
literal_word x y e = by_none (is_plain (form x)) (opens_range x y) (is_constant (form x)) (is_lparen (form y)) (apart is_function_word is_plain x refl e)
    (no_range (is_r (form x)) _ (apart is_function_word is_r x refl e)) (apart is_function_word is_constant x refl e)

pub applied_not : (x y : Lexeme) → is_lparen (form y) ≡ false → is_applied x y ≡ false
applied_not x y e = helper (is_any_name (form x)) (is_lparen (form y)) e where
  helper : (a b : Bool) → b ≡ false → (a && b) ≡ false
  helper true b e = e
  helper false b e = refl

pub applied_other : (x y : Lexeme) → is_any_name (form x) ≡ false → is_applied x y ≡ false
applied_other x y e = no_range (is_any_name (form x)) (is_lparen (form y)) e

-- ---- what begins a query at the start of a part: start, name, next, third

led_start : (s n g : Bool) → s ≡ true → (s || (n && g)) ≡ true
led_start s n g e = rw e refl

led_named : (s n g : Bool) → n ≡ true → g ≡ true → (s || (n && g)) ≡ true
led_named true n g e f = refl
led_named false n g e f = rw (e, f) refl

led_not : (s n g : Bool) → s ≡ false → g ≡ false → (s || (n && g)) ≡ false
led_not s true g e f = rw (e, f) refl
led_not s false g e f = rw e refl

on_first : (l n w : Bool) → l ≡ true → (l || (n && w)) ≡ true
on_first l n w e = rw e refl

on_second : (l n w : Bool) → n ≡ true → w ≡ true → (l || (n && w)) ≡ true
on_second true n w e f = refl
on_second false n w e f = rw (e, f) refl

on_neither : (l n w : Bool) → l ≡ false → n ≡ false → (l || (n && w)) ≡ false
on_neither l n w e f = rw (e, f) refl

on_word : (l n w : Bool) → l ≡ false → w ≡ false → (l || (n && w)) ≡ false
on_word l true w e f = rw (e, f) refl
on_word l false w e f = rw e refl

pub led_by_start : (full : Bool) (x y z : Lexeme) → is_start (form x) ≡ true → is_led full (form x) (form y) (form z) ≡ true
led_by_start full x y z e = led_start (is_start (form x)) (is_name (form x)) (goes_on full (form y) (form z)) e

pub led_by_next : (full : Bool) (x y z : Lexeme) → is_name (form x) ≡ true → leads full (form y) ≡ true → is_led full (form x) (form y) (form z) ≡ true
led_by_next full x y z e f =
    led_named (is_start (form x)) (is_name (form x)) (goes_on full (form y) (form z)) e (on_first (leads full (form y)) (is_neg (form y)) (is_operator_word (form z)) f)

pub led_by_third : (full : Bool) (x y z : Lexeme) → is_name (form x) ≡ true → is_neg (form y) ≡ true → is_operator_word (form z) ≡ true → is_led full (form x) (form y) (form z) ≡ true
led_by_third full x y z e f g =
    led_named (is_start (form x)) (is_name (form x)) (goes_on full (form y) (form z)) e (on_second (leads full (form y)) (is_neg (form y)) (is_operator_word (form z)) f g)

pub unled_next : (full : Bool) (x y z : Lexeme) → is_name (form x) ≡ true → leads full (form y) ≡ false → is_neg (form y) ≡ false → is_led full (form x) (form y) (form z) ≡ false
unled_next full x y z e f g =
    led_not (is_start (form x)) (is_name (form x)) (goes_on full (form y) (form z)) (apart is_name is_start x refl e)
    (on_neither (leads full (form y)) (is_neg (form y)) (is_operator_word (form z)) f g)

pub unled_third : (full : Bool) (x y z : Lexeme) → is_name (form x) ≡ true → leads full (form y) ≡ false → is_operator_word (form z) ≡ false → is_led full (form x) (form y) (form z) ≡ false
unled_third full x y z e f g =
    led_not (is_start (form x)) (is_name (form x)) (goes_on full (form y) (form z)) (apart is_name is_start x refl e)
    (on_word (leads full (form y)) (is_neg (form y)) (is_operator_word (form z)) f g)

-- ---- captures

pub capture_bar : (x y : Bool) → x ≡ true → y ≡ false → (x && y) ≡ false
capture_bar x y e f = rw (e, f) refl

pub capture_name : (x y : Bool) → x ≡ false → (x && y) ≡ false
capture_name x y e = rw e refl
