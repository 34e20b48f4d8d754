-- The text of a part is that of its own parts, one after the other, behind what stood before.
use Rattle.std.proofs.Common.{◌≡◌, ℕ, ◌+◌, ◌<◌, ◌≤◌, Bool, List, ◌∷◌, ◌++◌, map, drop, get_or, length, Option, Some, None, codes, refl, sym, ap, ◌∙◌, rules, append-nil, append_assoc}
use Rattle.std.proofs.lemmas.List.{drop_more, drop_all}
use Rattle.guard_syntax.specs.Syntax as sx
use Rattle.guard_syntax.specs.declared.syntax.Op.{Op}
use Rattle.guard_syntax.specs.declared.syntax.Body.{the_lemmas}
use Rattle.guard_syntax.specs.declared.syntax.Conds.{Conds, out-Conds}
use Rattle.guard_syntax.specs.declared.syntax.Query.{Query}
use Rattle.guard_syntax.specs.declared.syntax.Part.{Part}
use Rattle.guard_syntax.specs.declared.syntax.Part as part
use Rattle.guard_syntax.specs.declared.syntax.Step.{Step}
use Rattle.guard_syntax.specs.declared.syntax.Disj.{Disj}
use Rattle.guard_syntax.specs.declared.syntax.Expr.{Expr}
use Rattle.guard_syntax.specs.code.Seen.{see_step, see_disj, see_conds, see_part, see_query, see_expr, see_opt_expr, disj_list, part_list, expr_list}
use Rattle.rule_names.proofs.Shapes.{disj-seen, conds-seen}
use Rattle.rule_words.proofs.InARow.{IsJoined}
use Rattle.rule_words.proofs.QueryStarts.{of_steps}
use Rattle.rule_printer.specs.RuleText.{alternatives_text, cond_text, conds_text, disjs_text, disj_text, expr_text, exprs_text, more_alternatives_text, more_disjs_text, more_exprs_text, step_text, steps_text}

-- ---- texts one after the other

pub two : (a b c x y : List ℕ) → b ≡ a ++ x → c ≡ b ++ y → c ≡ a ++ (x ++ y)
two a b c x y p q = q ∙ ap (λ (l : List ℕ). l ++ y) p ∙ append_assoc a x y

pub three : (a b c d x y z : List ℕ) → b ≡ a ++ x → c ≡ b ++ y → d ≡ c ++ z → d ≡ a ++ (x ++ (y ++ z))
three a b c d x y z p q r = two a b d x (y ++ z) p (two b c d y z q r)

pub four : (a b c d e w x y z : List ℕ) → b ≡ a ++ w → c ≡ b ++ x → d ≡ c ++ y → e ≡ d ++ z → e ≡ a ++ (w ++ (x ++ (y ++ z)))
four a b c d e w x y z p q r s = two a b e w (x ++ (y ++ z)) p (three b c d e x y z q r s)

-- ---- parts

-- whatever a part is seen as
part_as : (start : List ℕ) (x : Part) (p : sx.Part) → see_part x ≡ p → start ++ cond_text p ≡ start ++ cond_text (see_part x)
part_as start x p is = ap (λ (y : sx.Part). start ++ cond_text y) (sym is)

pub test_seen : (site : ℕ) (any : Bool) (left : Query) (op : Op) (negated : Bool) (right : Option Expr) (message : Option (List ℕ))
    → see_part (part.Test site any left op negated right message) ≡ sx.test site any (see_query left) op negated (see_opt_expr right) message
test_seen site any left op negated None message = search the_lemmas
test_seen site any left op negated (Some e) message = search the_lemmas

pub refer_seen : (site : ℕ) (negated : Bool) (name : List ℕ) (message : Option (List ℕ)) → see_part (part.Refer site negated name message) ≡ sx.refer site negated name message
refer_seen site negated name message = search (rules, the_lemmas)

-- ---- queries

-- steps from an index on
pub steps-next : (ss : List Step) (i : ℕ) (x : Step) (start old new : List ℕ) → i < length ss → x ≡ get_or ss i x → new ≡ old ++ step_text (see_step x)
    → old ++ steps_text (of_steps (drop i ss)) ≡ start → new ++ steps_text (of_steps (drop (i + 1) ss)) ≡ start
steps-next ss i x start old new within is added so =
    ap (λ (l : List ℕ). l ++ steps_text (of_steps (drop (i + 1) ss))) added
    ∙ append_assoc old (step_text (see_step x)) (steps_text (of_steps (drop (i + 1) ss)))
    ∙ ap (λ (l : List Step). old ++ steps_text (of_steps l)) (ap (λ y. y ∷ drop (i + 1) ss) is ∙ sym (drop_more ss i x within))
    ∙ so

pub steps-end : (ss : List Step) (i : ℕ) (start old : List ℕ) → length ss ≤ i → old ++ steps_text (of_steps (drop i ss)) ≡ start → old ≡ start
steps-end ss i start old past so = sym (append-nil old) ∙ ap (λ (l : List Step). old ++ steps_text (of_steps l)) (sym (drop_all i ss past)) ∙ so

-- ---- lists

abbrev pub of_exprs : List Expr → List ℕ
of_exprs es = exprs_text (expr_list (map see_expr es))

abbrev pub of_more_exprs : List Expr → List ℕ
of_more_exprs es = more_exprs_text (expr_list (map see_expr es))

pub exprs-joined : IsJoined of_exprs of_more_exprs (λ (e : Expr). expr_text (see_expr e)) (codes ", ")
exprs-joined = record { none = refl; no_more = refl; first = λ x xs. refl; further = λ x xs. refl }

abbrev pub of_parts : List Part → List ℕ
of_parts ps = alternatives_text (part_list (map see_part ps))

abbrev pub of_more_parts : List Part → List ℕ
of_more_parts ps = more_alternatives_text (part_list (map see_part ps))

pub parts-joined : IsJoined of_parts of_more_parts (λ (p : Part). cond_text (see_part p)) (codes " or ")
parts-joined = record { none = refl; no_more = refl; first = λ x xs. refl; further = λ x xs. refl }

abbrev pub of_disjs : List Disj → List ℕ
of_disjs ds = disjs_text (disj_list (map see_disj ds))

abbrev pub of_more_disjs : List Disj → List ℕ
of_more_disjs ds = more_disjs_text (disj_list (map see_disj ds))

pub disjs-joined : IsJoined of_disjs of_more_disjs (λ (d : Disj). disj_text (see_disj d)) (codes " ")
disjs-joined = record { none = refl; no_more = refl; first = λ x xs. refl; further = λ x xs. refl }

-- a disjunction is its parts
pub disj-parts : (a b : List ℕ) (d : Disj) (ps : List Part) → ps ≡ d.parts.items → b ≡ a ++ of_parts ps → b ≡ a ++ disj_text (see_disj d)
disj-parts a b d ps are added =
    added ∙ ap (λ (l : List Part). a ++ of_parts l) are ∙ ap (λ (y : sx.Disj). a ++ disj_text y) (sym (disj-seen d))

pub conds-disjs : (a : List ℕ) (c : Conds) (ds : List Disj) → ds ≡ (out-Conds c).parts.items → a ++ of_disjs ds ≡ a ++ conds_text (see_conds c)
conds-disjs a c ds are = ap (λ (l : List Disj). a ++ of_disjs l) are ∙ ap (λ (y : sx.Conds). a ++ conds_text y) (sym (conds-seen c))
