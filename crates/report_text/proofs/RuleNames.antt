-- The names that are reported, and their lines, rule by rule.
use Rattle.std.proofs.Common.{◌≡◌, ◌+◌, ◌-◌, ◌<◌, ◌≤◌, ℕ, List, [], ◌∷◌, ◌++◌, length, map, take, drop, get_or, codes, refl, sym, ap, ap₂, ◌∙◌, arith, append_assoc, append-nil, length-append, length-drop}
use Rattle.std.specs.List.{flat_map}
use Rattle.std.proofs.lemmas.List.{take_all, take_more, map-append, flat_map_more, take-append-drop}
use Rattle.std.proofs.lemmas.Grind.{flat_map-append}
use Rattle.guard_syntax.specs.code.Seen.{disj_list, see_disj, see_file, see_rule}
use Rattle.guard_syntax.specs.declared.row.Verdict.{Verdict}
use Rattle.guard_syntax.specs.declared.syntax.Disj.{Disj}
use Rattle.guard_syntax.specs.declared.syntax.RawFile.{RawFile}
use Rattle.guard_syntax.specs.declared.syntax.Rule.{Rule}
use Rattle.report_text.specs.RuleLines.{name_of_loose, name_of_rule, reported_names, rule_line, rule_lines}

-- the names of rules as the code has them
abbrev pub names : List Rule → List (List ℕ)
names rules = flat_map name_of_rule (map see_rule rules)

names-append : (rs qs : List Rule) → names (rs ++ qs) ≡ names rs ++ names qs
names-append rs qs = ap (flat_map name_of_rule) (map-append see_rule rs qs) ∙ flat_map-append name_of_rule (map see_rule rs) (map see_rule qs)

pub names-more : (rs : List Rule) (i : ℕ) (r : Rule) → i < length rs → r ≡ get_or rs i r → names (take (i + 1) rs) ≡ names (take i rs) ++ name_of_rule (see_rule r)
names-more rs i r within is =
    ap names (take_more rs i r within ∙ ap (λ x. take i rs ++ x ∷ []) (sym is))
    ∙ ap (flat_map name_of_rule) (map-append see_rule (take i rs) (r ∷ []))
    ∙ sym (flat_map_more name_of_rule [] (map see_rule (take i rs)) (see_rule r))

-- those up to a rule and its own are among all
pub names-fit : (rs : List Rule) (i : ℕ) (r : Rule) → i < length rs → r ≡ get_or rs i r → length (names (take i rs)) + length (name_of_rule (see_rule r)) ≤ length (names rs)
names-fit rs i r within is =
    let more = names-more rs i r within is in
    let long : length (names (take (i + 1) rs)) ≡ length (names (take i rs)) + length (name_of_rule (see_rule r)) =
    ap (λ (t : List (List ℕ)). length t) more ∙ length-append (names (take i rs)) (name_of_rule (see_rule r)) in
    let whole : names rs ≡ names (take (i + 1) rs) ++ names (drop (i + 1) rs) =
    ap names (sym (take-append-drop (i + 1) rs)) ∙ names-append (take (i + 1) rs) (drop (i + 1) rs) in
    let all : length (names rs) ≡ length (names (take (i + 1) rs)) + length (names (drop (i + 1) rs)) =
    ap (λ (t : List (List ℕ)). length t) whole ∙ length-append (names (take (i + 1) rs)) (names (drop (i + 1) rs)) in
    omega arith

-- behind all rules as many verdicts are left as the parts outside have names
pub loose-fit : (rs : List Rule) (i : ℕ) (loose : List (List ℕ)) (vs left : List Verdict) → length rs ≤ i → left ≡ drop (length (names (take i rs))) vs
    → length vs ≡ length (names rs ++ loose) → length loose ≤ length left
loose-fit rs i loose vs left past is all =
    let whole : length (names (take i rs)) ≡ length (names rs) = ap (λ (t : List Rule). length (names t)) (take_all i rs past) in
    let rest : length left ≡ length vs - length (names (take i rs)) = ap (λ (t : List Verdict). length t) is ∙ length-drop (length (names (take i rs))) vs in
    let both : length (names rs ++ loose) ≡ length (names rs) + length loose = length-append (names rs) loose in
    omega arith

-- the names of a file as the code holds it
pub names-seen : (raw held : RawFile) (rs : List Rule) (ds : List Disj) → raw ≡ held → rs ≡ raw.rules.items → ds ≡ raw.loose.items
    → names rs ++ name_of_loose (disj_list (map see_disj ds)) ≡ reported_names (see_file held)
names-seen raw held rs ds is rules loose =
    ap₂ (λ (r : List Rule) (d : List Disj). names r ++ name_of_loose (disj_list (map see_disj d))) rules loose ∙ ap (λ (r : RawFile). reported_names (see_file r)) is

-- where parts stand outside rules, `default` is reported
pub loose-named : (ds : List Disj) → (length ds ≡ 0 → ⊥) → name_of_loose (disj_list (map see_disj ds)) ≡ codes "default" ∷ []
loose-named [] h = absurd (h refl)
loose-named (d ∷ ds) h = refl

no-lines : (names : List (List ℕ)) → rule_lines names [] ≡ []
no-lines [] = refl
no-lines (name ∷ names) = refl

-- the lines of names and of those behind them
pub rule_lines-append : (a b : List (List ℕ)) (vs : List Verdict) → rule_lines (a ++ b) vs ≡ rule_lines a vs ++ rule_lines b (drop (length a) vs)
rule_lines-append [] b vs = refl
rule_lines-append (n ∷ a) b [] = sym (no-lines b)
rule_lines-append (n ∷ a) b (v ∷ vs) =
    ap (λ t. rule_line n v ++ t) (rule_lines-append a b vs) ∙ sym (append_assoc (rule_line n v) (rule_lines a vs) (rule_lines b (drop (length a) vs)))

-- the verdicts behind those of both are behind those of the second among those behind the first
pub verdicts-behind : (a b : List (List ℕ)) (vs : List Verdict) → drop (length b) (drop (length a) vs) ≡ drop (length (a ++ b)) vs
verdicts-behind [] b vs = refl
verdicts-behind (n ∷ a) [] [] = refl
verdicts-behind (n ∷ a) (m ∷ b) [] = refl
verdicts-behind (n ∷ a) b (v ∷ vs) = verdicts-behind a b vs

-- the line of one name, with the first verdict
pub first-line : (name : List ℕ) (vs : List Verdict) (d : Verdict) → 0 < length vs → rule_lines (name ∷ []) vs ≡ rule_line name (get_or vs 0 d)
first-line name [] d within = absurd (omega arith)
first-line name (v ∷ vs) d within = append-nil (rule_line name v)
