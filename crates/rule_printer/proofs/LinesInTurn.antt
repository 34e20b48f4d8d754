-- The lines of lets, rules and disjunctions in order of site, as they are appended.
use Rattle.std.proofs.Common.{◌≡◌, ℕ, ◌+◌, ◌<◌, ◌≤◌, List, [], ◌∷◌, ◌++◌, map, get_or, length, codes, refl, sym, ap, ◌∙◌, subst, append-nil, append_assoc}
use Rattle.guard_syntax.specs.Syntax as sx
use Rattle.guard_syntax.specs.declared.syntax.Body.{Body, out-Body}
use Rattle.guard_syntax.specs.declared.syntax.Let.{Let}
use Rattle.guard_syntax.specs.declared.syntax.Disj.{Disj}
use Rattle.guard_syntax.specs.declared.syntax.Rule.{Rule}
use Rattle.guard_syntax.specs.code.Seen.{see_let, see_disj, see_body, see_rule, let_list, disj_list}
use Rattle.rule_names.proofs.Shapes.{let-seen, disj-seen, body-seen}
use Rattle.rule_printer.specs.RuleText.{body_text, disj_line, disj_lines, in_a_row, let_line, let_lines, merged, rule_line, rule_lines, within}
use Rattle.rule_printer.specs.code.Printing.{disjs_from, lets_from, rules_from}
use Rattle.rule_printer.proofs.Merging.{Lines, HasLines, lines-next, lines-end, merged-nil, first_appended, second_is_next, none_before, appended_line}

-- ---- lets

lets-have-lines : (margin : List ℕ) → HasLines (λ (ls : List Let). let_lines margin (let_list (map see_let ls))) (λ (l : Let). let_line margin (see_let l))
lets-have-lines margin = record { none = refl; more = λ x xs. refl }

let_site : (margin : List ℕ) (l : Let) → let_line margin (see_let l) ≡ (l.site, (let_line margin (see_let l)).1)
let_site margin l = subst (λ (y : sx.Let). let_line margin y ≡ (l.site, (let_line margin y).1)) (sym (let-seen l)) refl

lets-next : (margin : List ℕ) (ls : List Let) (i : ℕ) (x : Let) → i < length ls → x ≡ get_or ls i x → lets_from margin ls i ≡ (x.site, (let_line margin (see_let x)).1) ∷ lets_from margin ls (i + 1)
lets-next margin ls i x within is =
    lines-next (λ (l : List Let). let_lines margin (let_list (map see_let l))) (λ (l : Let). let_line margin (see_let l)) (lets-have-lines margin) ls i x within is
    ∙ ap (λ (y : ℕ × List ℕ). y ∷ lets_from margin ls (i + 1)) (let_site margin x)

lets-end : (margin : List ℕ) (ls : List Let) (i : ℕ) → length ls ≤ i → lets_from margin ls i ≡ []
lets-end margin ls i past = lines-end (λ (l : List Let). let_lines margin (let_list (map see_let l))) (λ (l : Let). let_line margin (see_let l)) (lets-have-lines margin) ls i past

pub let-before : (margin : List ℕ) (ls : List Let) (i : ℕ) (x : Let) (site : ℕ) (old new start text : List ℕ) (others : Lines) → i < length ls → x ≡ get_or ls i x → x.site ≤ site
    → new ≡ old ++ (let_line margin (see_let x)).1 → old ++ in_a_row (merged (lets_from margin ls i) ((site, text) ∷ others)) ≡ start
    → new ++ in_a_row (merged (lets_from margin ls (i + 1)) ((site, text) ∷ others)) ≡ start
let-before margin ls i x site old new start text others within is before added so =
    first_appended (lets_from margin ls i) (lets_from margin ls (i + 1)) x.site (let_line margin (see_let x)).1 (site, text) others old new start (lets-next margin ls i x within is) before added so

pub let-behind : (margin : List ℕ) (ls : List Let) (i : ℕ) (x : Let) (site : ℕ) (old start text : List ℕ) (others : Lines) → i < length ls → x ≡ get_or ls i x → site < x.site
    → old ++ in_a_row (merged (lets_from margin ls i) ((site, text) ∷ others)) ≡ start → old ++ in_a_row ((site, text) ∷ merged (lets_from margin ls i) others) ≡ start
let-behind margin ls i x site old start text others within is before so =
    second_is_next (lets_from margin ls i) (lets_from margin ls (i + 1)) (x.site, (let_line margin (see_let x)).1) (site, text) others old start (lets-next margin ls i x within is) before so

pub no-let : (margin : List ℕ) (ls : List Let) (i n : ℕ) (site : ℕ) (old start text : List ℕ) (others : Lines) → length ls ≤ i → length ls ≤ n
    → old ++ in_a_row (merged (lets_from margin ls i) ((site, text) ∷ others)) ≡ start → old ++ in_a_row ((site, text) ∷ merged (lets_from margin ls n) others) ≡ start
no-let margin ls i n site old start text others past past_too so =
    none_before (lets_from margin ls i) (lets_from margin ls n) (site, text) others old start (lets-end margin ls i past) (lets-end margin ls n past_too) so

pub let-line-next : (margin : List ℕ) (ls : List Let) (i : ℕ) (x : Let) (old new start : List ℕ) → i < length ls → x ≡ get_or ls i x
    → new ≡ old ++ (let_line margin (see_let x)).1 → old ++ in_a_row (lets_from margin ls i) ≡ start → new ++ in_a_row (lets_from margin ls (i + 1)) ≡ start
let-line-next margin ls i x old new start within is added so =
    appended_line (let_line margin (see_let x)).1 old new start (lets_from margin ls i) (lets_from margin ls (i + 1)) x.site added (lets-next margin ls i x within is) so

pub let-line-end : (margin : List ℕ) (ls : List Let) (i : ℕ) (old start : List ℕ) → length ls ≤ i → old ++ in_a_row (lets_from margin ls i) ≡ start → old ≡ start
let-line-end margin ls i old start past so = sym (append-nil old) ∙ ap (λ (l : Lines). old ++ in_a_row l) (sym (lets-end margin ls i past)) ∙ so

-- ---- disjunctions

disjs-have-lines : (margin : List ℕ) → HasLines (λ (ds : List Disj). disj_lines margin (disj_list (map see_disj ds))) (λ (d : Disj). disj_line margin (see_disj d))
disjs-have-lines margin = record { none = refl; more = λ x xs. refl }

disjs-end : (margin : List ℕ) (ds : List Disj) (i : ℕ) → length ds ≤ i → disjs_from margin ds i ≡ []
disjs-end margin ds i past = lines-end (λ (l : List Disj). disj_lines margin (disj_list (map see_disj l))) (λ (d : Disj). disj_line margin (see_disj d)) (disjs-have-lines margin) ds i past

disj_site : (margin : List ℕ) (d : Disj) → disj_line margin (see_disj d) ≡ (d.site, (disj_line margin (see_disj d)).1)
disj_site margin d = subst (λ (y : sx.Disj). disj_line margin y ≡ (d.site, (disj_line margin y).1)) (sym (disj-seen d)) refl

disjs-next : (margin : List ℕ) (ds : List Disj) (i : ℕ) (x : Disj) → i < length ds → x ≡ get_or ds i x → disjs_from margin ds i ≡ (x.site, (disj_line margin (see_disj x)).1) ∷ disjs_from margin ds (i + 1)
disjs-next margin ds i x within is =
    lines-next (λ (d : List Disj). disj_lines margin (disj_list (map see_disj d))) (λ (d : Disj). disj_line margin (see_disj d)) (disjs-have-lines margin) ds i x within is
    ∙ ap (λ (y : ℕ × List ℕ). y ∷ disjs_from margin ds (i + 1)) (disj_site margin x)

-- what stands behind the lets before a disjunction, where the margins of both are that of the lines
abbrev LetsBefore : List ℕ → List Let → ℕ → ℕ → ℕ → List ℕ → List ℕ → Type 0
LetsBefore margin ls n p site old middle =
    (text : List ℕ) (others : Lines) → middle ++ in_a_row ((site, text) ∷ merged (lets_from margin ls p) others) ≡ old ++ in_a_row (merged (lets_from margin ls n) ((site, text) ∷ others))

pub disj-next : (margin m k : List ℕ) (ls : List Let) (ds : List Disj) (i n p : ℕ) (x : Disj) (old middle new start : List ℕ) → m ≡ margin → k ≡ margin → i < length ds → x ≡ get_or ds i x
    → old ++ in_a_row (merged (lets_from margin ls n) (disjs_from margin ds i)) ≡ start
    → ((text : List ℕ) (others : Lines) → middle ++ in_a_row ((x.site, text) ∷ merged (lets_from m ls p) others) ≡ old ++ in_a_row (merged (lets_from m ls n) ((x.site, text) ∷ others)))
    → new ≡ middle ++ (disj_line k (see_disj x)).1 → new ++ in_a_row (merged (lets_from margin ls p) (disjs_from margin ds (i + 1))) ≡ start
disj-next margin m k ls ds i n p x old middle new start same alike within is so before added =
    let text = (disj_line margin (see_disj x)).1 in
    let others = disjs_from margin ds (i + 1) in
    let rest = in_a_row (merged (lets_from margin ls p) others) in
    let lets : LetsBefore margin ls n p x.site old middle = subst (λ (y : List ℕ). LetsBefore y ls n p x.site old middle) same before in
    ap (λ (l : List ℕ). l ++ rest) (added ∙ ap (λ (y : List ℕ). middle ++ (disj_line y (see_disj x)).1) alike)
    ∙ append_assoc middle text rest
    ∙ lets text others
    ∙ ap (λ (l : Lines). old ++ in_a_row (merged (lets_from margin ls n) l)) (sym (disjs-next margin ds i x within is))
    ∙ so

-- behind the last the lets that are left
pub disj-end : (margin : List ℕ) (ls : List Let) (ds : List Disj) (i n : ℕ) (old new start : List ℕ) → length ds ≤ i
    → old ++ in_a_row (merged (lets_from margin ls n) (disjs_from margin ds i)) ≡ start → new ≡ old ++ in_a_row (lets_from margin ls n) → new ≡ start
disj-end margin ls ds i n old new start past so added =
    added ∙ ap (λ (l : Lines). old ++ in_a_row l) (sym (merged-nil (lets_from margin ls n)) ∙ ap (merged (lets_from margin ls n)) (sym (disjs-end margin ds i past))) ∙ so

-- ---- bodies

pub body-text : (a b c d : List ℕ) (margin inner : List ℕ) (x : Body) (ls : List Let) (ds : List Disj) → inner ≡ within margin → ls ≡ (out-Body x).lets.items → ds ≡ (out-Body x).parts.items
    → b ≡ a ++ codes " {\n" → c ≡ b ++ in_a_row (merged (lets_from inner ls 0) (disjs_from inner ds 0)) → d ≡ c ++ (margin ++ codes "}") → d ≡ a ++ body_text margin (see_body x)
body-text a b c d margin inner x ls ds is are be h i j =
    let rows : List ℕ → List Let → List Disj → List ℕ = λ m l k. in_a_row (merged (let_lines m (let_list (map see_let l))) (disj_lines m (disj_list (map see_disj k)))) in
    let end = margin ++ codes "}" in
    j ∙ ap (λ (l : List ℕ). l ++ end) (i ∙ ap (λ (l : List ℕ). l ++ rows inner ls ds) h)
    ∙ append_assoc (a ++ codes " {\n") (rows inner ls ds) end
    ∙ append_assoc a (codes " {\n") (rows inner ls ds ++ end)
    ∙ ap (λ (m : List ℕ). a ++ (codes " {\n" ++ (rows m ls ds ++ end))) is
    ∙ ap (λ (l : List Let). a ++ (codes " {\n" ++ (rows (within margin) l ds ++ end))) are
    ∙ ap (λ (k : List Disj). a ++ (codes " {\n" ++ (rows (within margin) (out-Body x).lets.items k ++ end))) be
    ∙ ap (λ (y : sx.Body). a ++ body_text margin y) (sym (body-seen x))

-- ---- rules

rules-have-lines : HasLines (λ (rs : List Rule). rule_lines (map see_rule rs)) (λ (r : Rule). rule_line (see_rule r))
rules-have-lines = record { none = refl; more = λ x xs. refl }

pub rules-end : (rs : List Rule) (i : ℕ) → length rs ≤ i → rules_from rs i ≡ []
rules-end rs i past = lines-end (λ (l : List Rule). rule_lines (map see_rule l)) (λ (r : Rule). rule_line (see_rule r)) rules-have-lines rs i past

pub rules-left-end : (ls : List Let) (rs : List Rule) (i n : ℕ) (old new start : List ℕ) → length rs ≤ i
    → old ++ in_a_row (merged (lets_from [] ls n) (rules_from rs i)) ≡ start → new ≡ old ++ in_a_row (lets_from [] ls n) → new ≡ start
rules-left-end ls rs i n old new start past so added =
    added ∙ ap (λ (l : Lines). old ++ in_a_row l) (sym (merged-nil (lets_from [] ls n)) ∙ ap (merged (lets_from [] ls n)) (sym (rules-end rs i past))) ∙ so

-- ---- files

pub loose-next : (ls : List Let) (rs : List Rule) (ds : List Disj) (i n p m q : ℕ) (x : Disj) (old middle new start : List ℕ) → i < length ds → x ≡ get_or ds i x
    → old ++ in_a_row (merged (lets_from [] ls n) (merged (rules_from rs p) (disjs_from [] ds i))) ≡ start
    → ((text : List ℕ) (others : Lines) → middle ++ in_a_row ((x.site, text) ∷ merged (lets_from [] ls m) (merged (rules_from rs q) others))
    ≡ old ++ in_a_row (merged (lets_from [] ls n) (merged (rules_from rs p) ((x.site, text) ∷ others))))
    → new ≡ middle ++ (disj_line [] (see_disj x)).1 → new ++ in_a_row (merged (lets_from [] ls m) (merged (rules_from rs q) (disjs_from [] ds (i + 1)))) ≡ start
loose-next ls rs ds i n p m q x old middle new start within is so before added =
    let text = (disj_line [] (see_disj x)).1 in
    let others = disjs_from [] ds (i + 1) in
    let rest = in_a_row (merged (lets_from [] ls m) (merged (rules_from rs q) others)) in
    ap (λ (l : List ℕ). l ++ rest) added
    ∙ append_assoc middle text rest
    ∙ before text others
    ∙ ap (λ (l : Lines). old ++ in_a_row (merged (lets_from [] ls n) (merged (rules_from rs p) l))) (sym (disjs-next [] ds i x within is))
    ∙ so

pub loose-end : (ls : List Let) (rs : List Rule) (ds : List Disj) (i n p : ℕ) (old new start : List ℕ) → length ds ≤ i
    → old ++ in_a_row (merged (lets_from [] ls n) (merged (rules_from rs p) (disjs_from [] ds i))) ≡ start
    → new ≡ old ++ in_a_row (merged (lets_from [] ls n) (rules_from rs p)) → new ≡ start
loose-end ls rs ds i n p old new start past so added =
    added
    ∙ ap (λ (l : Lines). old ++ in_a_row (merged (lets_from [] ls n) l)) (sym (merged-nil (rules_from rs p)) ∙ ap (merged (rules_from rs p)) (sym (disjs-end [] ds i past)))
    ∙ so
