-- The count of a drill that words ask for is at most 100,000. By the first use of its option.
use Rattle.std.proofs.Common.{◌≡◌, ◌≤◌, ◌&&◌, ◌||◌, ℕ, Bool, true, false, List, [], ◌∷◌, Option, Some, None, cond, find, option_and_then, is_some, refl, sym, subst, arith, codes, nat_le}
use Rattle.std.proofs.lemmas.Bool.{true≢false}
use Rattle.std.proofs.lemmas.Bool.Decides.{nat_tests}
use Rattle.std.proofs.lemmas.Slice.Eq.{bytes_eq-Decides}
use Rattle.std.specs.List.{list_all}
use Rattle.std.specs.Str.{bytes_eq}
use Rattle.std.specs.Str.Parse.{digits_value}
use Rattle.guard_words.specs.Request.{Text, Use, AsksFor, drill, is_allowed, is_given, is_complete, is_numeral, count_in, options_of, text_of, value_in, requested}
use Rattle.guard_words.specs.declared.table.Command.{Command}
use Rattle.guard_words.specs.declared.table.Command.TheVariants.{Validate, Check, Drill, Test, Rulegen, ParseTree}

both : (a b : Bool) → (a && b) ≡ true → (a ≡ true) × (b ≡ true)
both true b e = (refl, e)
both false b e = absurd cc

-- a text that is a count has a value that is low enough
count_low : (text : Text) → is_some (count_in text) ≡ true → digits_value 10 text ≤ 100000
count_low text is = by_tests (is_numeral text && nat_le (digits_value 10 text) 100000) refl is
  where
    by_tests : (b : Bool) → (is_numeral text && nat_le (digits_value 10 text) 100000) ≡ b → is_some (cond b (Some (digits_value 10 text)) None) ≡ true
        → digits_value 10 text ≤ 100000
    by_tests true e some = let low : nat_le (digits_value 10 text) 100000 ≡ true = (both (is_numeral text) (nat_le (digits_value 10 text) 100000) e).1 in grind (arith, nat_tests, low)
    by_tests false e some = absurd cc

value_low : (value : Option Text) → is_allowed (options_of Drill) (codes "count", value) ≡ true → digits_value 10 (text_of value) ≤ 100000
value_low None is = absurd (true≢false (sym is))
value_low (Some text) is = count_low text is

uses_low : (uses : List Use) → list_all (is_allowed (options_of Drill)) uses ≡ true → is_given (codes "count") uses ≡ true
    → digits_value 10 (text_of (value_in uses (codes "count"))) ≤ 100000
uses_low [] allowed given = absurd cc
uses_low ((name, value) ∷ uses) allowed given =
    by_name (bytes_eq name (codes "count")) refl (uses_low uses (both _ _ allowed).1) given
  where
    by_name : (b : Bool) → bytes_eq name (codes "count") ≡ b
        → (is_given (codes "count") uses ≡ true → digits_value 10 (text_of (value_in uses (codes "count"))) ≤ 100000)
        → (b || is_given (codes "count") uses) ≡ true
        → digits_value 10 (text_of (option_and_then (λ (u : Use). u.1) (cond b (Some (name, value)) (find (λ (u : Use). bytes_eq u.0 (codes "count")) uses)))) ≤ 100000
    by_name true is behind some =
        value_low value
        (subst (λ (n : Text). is_allowed (options_of Drill) (n, value) ≡ true) ((bytes_eq-Decides name (codes "count")).0 is) (both _ _ allowed).0)
    by_name false is behind some = behind some

asked_low : (command : Command) (uses : List Use) → list_all (is_allowed (options_of command)) uses ≡ true
    → is_complete (options_of command) uses ≡ true → (count : ℕ) → drill count ≡ requested command (value_in uses) (λ name. is_given name uses) → count ≤ 100000
asked_low Validate uses allowed complete count means = absurd cc
asked_low Check uses allowed complete count means = absurd cc
asked_low Drill uses allowed complete count means =
    let same : count ≡ digits_value 10 (text_of (value_in uses (codes "count"))) = cc in
    subst (λ n. n ≤ 100000) (sym same) (uses_low uses allowed (both _ _ complete).0)
asked_low Test uses allowed complete count means = absurd cc
asked_low Rulegen uses allowed complete count means = absurd cc
asked_low ParseTree uses allowed complete count means = absurd cc

pub drill_low : (words : List Text) (count : ℕ) → AsksFor words (drill count) → count ≤ 100000
drill_low words count asked = asked_low asked.command asked.uses asked.allowed asked.complete count asked.means
