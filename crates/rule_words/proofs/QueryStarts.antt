-- How queries begin: no space where there are few steps, and the key that alone is the head of a block.
use Rattle.std.proofs.Common.{◌≡◌, ℕ, ◌<◌, List, [], ◌∷◌, ◌++◌, map, get_or, length, Option, Some, None, refl, sym, ap, ◌∙◌, append-nil, arith, MatchOption, Bor}
use Rattle.guard_syntax.specs.Syntax as sx
use Rattle.guard_syntax.specs.declared.syntax.Query.{Query, out-Query}
use Rattle.guard_syntax.specs.declared.syntax.Step.{Step}
use Rattle.guard_syntax.specs.code.Seen.{see_step, see_query, step_list}
use Rattle.rule_names.proofs.Shapes.{query-seen}
use Rattle.rule_spelling.specs.Spelling.{quoted}
use Rattle.rule_words.specs.WordText.{head_text, space_within}
use Rattle.rule_words.specs.code.Appended.{space_in}

abbrev pub of_steps : List Step → sx.Steps
of_steps ss = step_list (map see_step ss)

no_space : (s : sx.Step) → space_within s sx.no_steps ≡ []
no_space (sx.key n text) = refl
no_space (sx.this n) = refl
no_space (sx.var n text) = refl
no_space (sx.index n i) = refl
no_space (sx.every n) = refl
no_space (sx.items n) = refl
no_space (sx.splice n bound) = refl
no_space (sx.filter n bound c) = refl
no_space (sx.keys n bound o negated e) = refl

pub few-steps : (a : List ℕ) (ss : List Step) → length ss < 2 → a ≡ a ++ space_in (of_steps ss)
few-steps a [] h = sym (append-nil a)
few-steps a (x ∷ []) h = sym (append-nil a) ∙ ap (λ (l : List ℕ). a ++ l) (sym (no_space (see_step x)))
few-steps a (x ∷ y ∷ ys) h = absurd (omega arith)

more_than_a_key : (n : ℕ) (s : sx.Step) (r : sx.Step) (rs : sx.Steps) (text : List ℕ) → head_text (sx.query n (sx.more_steps s (sx.more_steps r rs))) text ≡ text
more_than_a_key n (sx.key m name) r rs text = refl
more_than_a_key n (sx.this m) r rs text = refl
more_than_a_key n (sx.var m name) r rs text = refl
more_than_a_key n (sx.index m i) r rs text = refl
more_than_a_key n (sx.every m) r rs text = refl
more_than_a_key n (sx.items m) r rs text = refl
more_than_a_key n (sx.splice m bound) r rs text = refl
more_than_a_key n (sx.filter m bound c) r rs text = refl
more_than_a_key n (sx.keys m bound o negated e) r rs text = refl

not_one : (n : ℕ) (ss : List Step) (text : List ℕ) → (length ss ≡ 1 → ⊥) → head_text (sx.query n (of_steps ss)) text ≡ text
not_one n [] text h = refl
not_one n (x ∷ []) text h = absurd (h refl)
not_one n (x ∷ y ∷ ys) text h = more_than_a_key n (see_step x) (see_step y) (of_steps ys) text

pub no-lone-key : (q : Query) (ss : List Step) (text : List ℕ) → ss ≡ (out-Query q).steps.items → (length ss ≡ 1 → ⊥) → head_text (see_query q) text ≡ text
no-lone-key q ss text are h =
    ap (λ (y : sx.Query). head_text y text) (query-seen q) ∙ ap (λ (l : List Step). head_text (sx.query (out-Query q).site (of_steps l)) text) (sym are) ∙ not_one (out-Query q).site ss text h

only : (ss : List Step) (x : Step) → length ss ≡ 1 → x ≡ get_or ss 0 x → ss ≡ x ∷ []
only [] x h is = absurd (omega arith)
only (y ∷ []) x h is = ap (λ z. z ∷ []) (sym is)
only (y ∷ z ∷ zs) x h is = absurd (omega arith)

by_key : (o : Option (Bor (List ℕ))) (n : ℕ) (s : sx.Step) (q : sx.Query) → q ≡ sx.query n (sx.more_steps s sx.no_steps)
    → MatchOption o ((m : ℕ) (text : List ℕ) → head_text (sx.query m (sx.more_steps s sx.no_steps)) text ≡ text) (λ (k : Bor (List ℕ)). (m : ℕ) (text : List ℕ) → head_text (sx.query m (sx.more_steps s sx.no_steps)) text ≡ quoted k.now)
    → MatchOption o ((text : List ℕ) → head_text q text ≡ text) (λ (k : Bor (List ℕ)). (text : List ℕ) → head_text q text ≡ quoted k.now)
by_key None n s q is h = λ text. ap (λ (y : sx.Query). head_text y text) is ∙ h n text
by_key (Some k) n s q is h = λ text. ap (λ (y : sx.Query). head_text y text) is ∙ h n text

pub lone-key : (o : Option (Bor (List ℕ))) (q : Query) (ss : List Step) (x : Step) → ss ≡ (out-Query q).steps.items → length ss ≡ 1 → x ≡ get_or ss 0 x
    → MatchOption o ((m : ℕ) (text : List ℕ) → head_text (sx.query m (sx.more_steps (see_step x) sx.no_steps)) text ≡ text) (λ (k : Bor (List ℕ)). (m : ℕ) (text : List ℕ) → head_text (sx.query m (sx.more_steps (see_step x) sx.no_steps)) text ≡ quoted k.now)
    → MatchOption o ((text : List ℕ) → head_text (see_query q) text ≡ text) (λ (k : Bor (List ℕ)). (text : List ℕ) → head_text (see_query q) text ≡ quoted k.now)
lone-key o q ss x are one is h =
    by_key o (out-Query q).site (see_step x) (see_query q)
    (query-seen q ∙ ap (λ (l : List Step). sx.query (out-Query q).site (of_steps l)) (sym are ∙ only ss x one is)) h
