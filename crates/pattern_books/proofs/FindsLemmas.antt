-- What `Regex::new` ensures, in the words of the pattern's text.
use Rattle.std.proofs.Common.{◌≡◌, ◌≢◌, ℕ, ◌<◌, ◌≤◌, true, false, List, [], ◌∷◌, ◌++◌, Option, Some, None, is_some, IsNone, IsSome, IsSomeAnd, IfSome, nat_le, get_or, slice_range, option_map, chars, length, map, refl, sym, ap, ap₂, ◌∙◌, arith, inl, inr}
use Rattle.std.specs.Option.{option_map_or}
use Rattle.std.proofs.lemmas.Bool.Decides.{nat_tests}
use mathlib.Core.Path.{fun_ext}
use Rattle.regex_hir.specs.Meaning.{meaning}
use Rattle.regex_syntax.specs.Brackets.{Nested}
use Rattle.regex_syntax.specs.Grammar.{Names, read, group_count}
use Rattle.regex_syntax.specs.declared.error.ErrorKind.{ErrorKind}
use Rattle.regex_syntax.specs.declared.error.ErrorKind.TheVariants.{OutOfMemory}
use Rattle.regex.specs.Patterns.{Re, Match, find_str, find_all_str, slot_of, default_config, Refuses, Reads, SameCaptures}
use Rattle.regex.specs.Failures.{IsPattern}
use Rattle.regex.specs.Replace.{replaced_by, group_bytes}
use Rattle.regex.specs.Strings.{regex_pattern, regex_source, regex_config, regex_names, matcher_pattern, IsReadFrom, IsReadFromSource, IsWrittenBy}
use Rattle.regex.specs.Templates.{written_after}
use Rattle.regex.specs.declared.string.matcher.Matcher.{Matcher}
use Rattle.regex.specs.declared.string.regex.Regex.{Regex}
use Rattle.regex.specs.declared.string.template.Template.{Template}
use Rattle.regex.proofs.ForCallers.{is_match_alike, find_all_alike, spans}
use Rattle.rule_meaning.specs.PatternMatch.{pattern_in, finds, shallow}
use Rattle.rule_meaning.specs.Functions.{replaced_in, replaced_with}

too_deep : (o : Option (Nested Re × Names)) → IfSome o (λ (re, _). 250 < re.depth) → IsNone (shallow o)
too_deep None deep = refl
too_deep (Some p) deep = grind (arith, nat_tests)

-- an error of syntax comes only where the text is no pattern
pub none_of_refusal : (text : List ℕ) (kind : ErrorKind) → kind ≢ OutOfMemory → Refuses default_config text kind → IsNone (pattern_in text)
unfolding Refuses
none_of_refusal text kind not_memory (inl is_memory) = absurd (not_memory is_memory)
none_of_refusal text kind not_memory (inr (inl none)) = rw none refl
none_of_refusal text kind not_memory (inr (inr deep)) = too_deep (read default_config (chars text)) deep.1

-- a fact of each pattern that matches as re does and has its names holds of the one that was read
from_read : {A : Type 0} (o : Option (Nested Re × Names)) (re : Re) (names : Names) (mine : A) (of : Re × Names → A) (default : A) →
    ((other : Re) → SameCaptures re other → mine ≡ of (other, names)) →
    IsSomeAnd o (λ p. (p.0.depth ≤ 250) × SameCaptures re p.0.value × (names ≡ p.1) × (group_count re ≤ length names)) →
    mine ≡ option_map_or of (shallow o) default
from_read None re names mine of default same reads = absurd reads
from_read (Some p) re names mine of default same reads =
    let within = reads.0 in
    let fits : nat_le p.0.depth 250 ≡ true = grind (arith, nat_tests, within) in
    rw fits (same p.0.value reads.1 ∙ ap (λ n. of (p.0.value, n)) reads.2)

-- what a regular expression finds is what its text says
pub found_as_text : (r : Regex) (hay : List ℕ) → ((k : ℕ) → get_or hay k 0 < 256) → regex_config r ≡ default_config → IsReadFromSource r →
    is_some (find_str (regex_pattern r) hay 0) ≡ finds (regex_source r) hay
unfolding Reads
found_as_text r hay bytes is_default is_read =
    from_read (read default_config (chars (regex_source r))) (regex_pattern r) (regex_names r) _ _ false
    (λ other same. is_match_alike same hay bytes true 0) (rw is_default at is_read)

-- ---- what it replaces

over_spans : (hay : List ℕ) (written : (ℕ → List ℕ) → List ℕ) (xs ys : List Match) (at : ℕ) → map spans xs ≡ map spans ys →
    replaced_by (λ m. written (group_bytes hay m)) hay at xs ≡ replaced_by (λ m. written (group_bytes hay m)) hay at ys
unfolding replaced_by
over_spans hay written [] [] at e = refl
over_spans hay written [] (y ∷ ys) at e = absurd cc
over_spans hay written (x ∷ xs) [] at e = absurd cc
over_spans hay written (x ∷ xs) (y ∷ ys) at e =
    let head : spans x ≡ spans y = cc in
    let tail : map spans xs ≡ map spans ys = cc in
    let starts : x.start ≡ y.start = ap (λ (s : ℕ × ℕ × (ℕ → Option ℕ)). s.0) head in
    let ends : x.trace.end ≡ y.trace.end = ap (λ (s : ℕ × ℕ × (ℕ → Option ℕ)). s.1) head in
    let slots : slot_of x ≡ slot_of y = ap (λ (s : ℕ × ℕ × (ℕ → Option ℕ)). s.2) head in
    let groups : group_bytes hay x ≡ group_bytes hay y = fun_ext (λ n. rw (slots, starts, ends) refl) in
    ap₂ ◌++◌ (ap₂ ◌++◌ (ap (slice_range hay at) starts) (ap written groups))
    (over_spans hay written xs ys x.trace.end tail ∙ ap (λ i. replaced_by (λ m. written (group_bytes hay m)) hay i ys) ends)

-- what each pattern that matches as re does and has its names makes of a text, the one that was read makes of it
map_read : (of : Re × Names → List ℕ) (o : Option (Nested Re × Names)) (re : Re) (names : Names) (out : List ℕ) →
    ((other : Re) → SameCaptures re other → out ≡ of (other, names)) →
    IsSomeAnd o (λ p. (p.0.depth ≤ 250) × SameCaptures re p.0.value × (names ≡ p.1) × (group_count re ≤ length names)) →
    option_map of (shallow o) ≡ Some out
map_read of None re names out same reads = absurd reads
map_read of (Some p) re names out same reads =
    let within = reads.0 in
    let fits : nat_le p.0.depth 250 ≡ true = grind (arith, nat_tests, within) in
    let is : out ≡ of (p.0.value, p.1) = same p.0.value reads.1 ∙ ap (λ n. of (p.0.value, n)) reads.2 in
    rw fits (ap (λ t. Some t) (sym is))

-- what a regular expression replaces is what its text says
pub replaced_as_text : (r : Regex) (m : Matcher) (t : Template) (template hay out : List ℕ) → ((k : ℕ) → get_or hay k 0 < 256) → regex_config r ≡ default_config → IsReadFromSource r →
    matcher_pattern m ≡ regex_pattern r → IsReadFrom (regex_names r) template t → IsWrittenBy t hay (find_all_str (matcher_pattern m) hay) out → replaced_in (regex_source r) template hay ≡ Some out
unfolding Reads
replaced_as_text r m t template hay out bytes is_default is_read same reads written =
    let mine : out ≡ replaced_by (λ x. written_after (regex_names r) (group_bytes hay x) template 0) hay 0 (find_all_str (regex_pattern r) hay) =
    written.read (regex_names r) template reads ∙ ap (λ re. replaced_by (λ x. written_after (regex_names r) (group_bytes hay x) template 0) hay 0 (find_all_str re hay)) same in
    map_read (replaced_with template hay) (read default_config (chars (regex_source r))) (regex_pattern r) (regex_names r) out
    (λ other alike. mine ∙ over_spans hay (λ groups. written_after (regex_names r) groups template 0) _ _ 0 (find_all_alike alike hay bytes true)) (rw is_default at is_read)

-- ---- what it was read from

read_in : (o : Option (Nested Re × Names)) (re : Re) (names : Names) →
    IsSomeAnd o (λ p. (p.0.depth ≤ 250) × SameCaptures re p.0.value × (names ≡ p.1) × (group_count re ≤ length names)) → IsSome (shallow o)
read_in None re names reads = absurd reads
read_in (Some p) re names reads = let within = reads.0 in grind (arith, nat_tests, within)

-- what a regular expression was read from is a pattern
pub pattern_of_regex : (r : Regex) → regex_config r ≡ default_config → IsReadFromSource r → IsSome (pattern_in (regex_source r))
unfolding Reads
pattern_of_regex r is_default is_read =
    read_in (read default_config (chars (regex_source r))) (regex_pattern r) (regex_names r) (rw is_default at is_read)

-- only a pattern is too big
pub pattern_of_too_big : (text : List ℕ) → IsPattern default_config text → IsSome (pattern_in text)
unfolding Reads
pattern_of_too_big text (hir, names, reads) = read_in (read default_config (chars text)) (meaning hir) names reads
