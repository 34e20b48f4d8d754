-- Pieces by their sites: what is found in lists that are joined.
use Rattle.std.proofs.Common.{◌≡◌, ℕ, suc, ◌+◌, ◌≤◌, ◌<◌, Bool, true, false, cond, refl, ap, sym, ◌∙◌, subst, arith, List, [], ◌∷◌, ◌++◌, Option, Some, None}
use Rattle.std.specs.Prelude.{◌==◌, find, option_map}
use Rattle.std.proofs.lemmas.Bool.Decides.{nat_tests}
use Rattle.guard_syntax.specs.Sites.{merge}
use Rattle.rule_names.specs.Pieces.{Piece, Sited, piece_in}
use Rattle.rule_names.specs.code.IncreasingSites.{Increasing, IsIncreasing, first_site}
use Rattle.rule_names.proofs.Increases.{times, times-append, times-merge, below-none, past, past-none, once, front, back, apart, rise}

-- how often a site stands among pieces
abbrev pub hits : ℕ → List Sited → ℕ
hits n [] = 0
hits n (p ∷ ps) = cond (p.0 == n) 1 0 + hits n ps

-- the first of two that is there
abbrev pub either : Option Piece → Option Piece → Option Piece
either None o = o
either (Some p) o = Some p

either-none : (o : Option Piece) → either o None ≡ o
either-none None = refl
either-none (Some p) = refl

-- one piece in front of others
in_first : Bool → Piece → Option Piece → Option Piece
in_first v p o = cond v (Some p) o

abbrev first_of : Bool → Sited → Option Sited → Option Piece
first_of v p rest = option_map (λ (s : Sited). s.1) (cond v (Some p) rest)

pub here : (n m : ℕ) (p : Piece) (ps : List Sited) → m ≡ n → piece_in ((m, p) ∷ ps) n ≡ Some p
here n m p ps e = let same : (m == n) ≡ true = grind (arith, nat_tests) in ap (λ v. first_of v (m, p) (find (λ (s : Sited). s.0 == n) ps)) same

pub elsewhere : (n m : ℕ) (p : Piece) (ps : List Sited) → (m ≡ n → ⊥) → piece_in ((m, p) ∷ ps) n ≡ piece_in ps n
elsewhere n m p ps e = let other : (m == n) ≡ false = grind (arith, nat_tests) in ap (λ v. first_of v (m, p) (find (λ (s : Sited). s.0 == n) ps)) other

append_step : (v : Bool) (p : Sited) (xs ys zs : Option Sited) (o : Option Piece) → option_map (λ (s : Sited). s.1) zs ≡ either (option_map (λ (s : Sited). s.1) xs) o
    → first_of v p zs ≡ either (first_of v p xs) o
append_step true p xs ys zs o e = refl
append_step false p xs ys zs o e = e

pub in-append : (n : ℕ) (ps qs : List Sited) → piece_in (ps ++ qs) n ≡ either (piece_in ps n) (piece_in qs n)
in-append n [] qs = refl
in-append n (p ∷ ps) qs =
    append_step (p.0 == n) p (find (λ (s : Sited). s.0 == n) ps) None (find (λ (s : Sited). s.0 == n) (ps ++ qs)) (piece_in qs n) (in-append n ps qs)

none_step : (v : Bool) (p : Sited) (o : Option Sited) (k : ℕ) → cond v 1 0 + k ≡ 0 → (k ≡ 0 → option_map (λ (s : Sited). s.1) o ≡ None) → first_of v p o ≡ None
none_step true p o k e h = absurd (omega arith)
none_step false p o k e h = h (omega arith)

pub no-hit : (n : ℕ) (ps : List Sited) → hits n ps ≡ 0 → piece_in ps n ≡ None
no-hit n [] e = refl
no-hit n (p ∷ ps) e = none_step (p.0 == n) p (find (λ (s : Sited). s.0 == n) ps) (hits n ps) e (no-hit n ps)

hit_step : (v : Bool) (p : Sited) (o : Option Sited) (k : ℕ) → first_of v p o ≡ None → (option_map (λ (s : Sited). s.1) o ≡ None → k ≡ 0) → cond v 1 0 + k ≡ 0
hit_step true p o k e h = absurd cc
hit_step false p o k e h = let f = h e in omega arith

pub not-in : (n : ℕ) (ps : List Sited) → piece_in ps n ≡ None → hits n ps ≡ 0
not-in n [] e = refl
not-in n (p ∷ ps) e = hit_step (p.0 == n) p (find (λ (s : Sited). s.0 == n) ps) (hits n ps) e (not-in n ps)

pub hits-append : (n : ℕ) (ps qs : List Sited) → hits n (ps ++ qs) ≡ hits n ps + hits n qs
hits-append n [] qs = omega arith
hits-append n (p ∷ ps) qs = let e = hits-append n ps qs in omega arith

-- pieces with these sites, in whatever order
pub record Ties (ps : List Sited) (ns : List ℕ) : Type 0 where
  pub same : (n : ℕ) → hits n ps ≡ times n ns

pub ties-nil : Ties [] []
ties-nil = record { same = λ n. refl }

pub ties-cons : (m : ℕ) (p : Piece) (ps : List Sited) (ns : List ℕ) → Ties ps ns → Ties ((m, p) ∷ ps) (m ∷ ns)
ties-cons m p ps ns h = record { same = λ n. ap (λ k. cond (m == n) 1 0 + k) (h.same n) }

pub ties-append : (ps qs : List Sited) (ns ms : List ℕ) → Ties ps ns → Ties qs ms → Ties (ps ++ qs) (ns ++ ms)
ties-append ps qs ns ms h k = record { same = λ n. let a = h.same n in let b = k.same n in let c = hits-append n ps qs in let d = times-append n ns ms in omega arith }

pub ties-merge : (ps qs : List Sited) (ns ms : List ℕ) → Ties ps ns → Ties qs ms → Ties (ps ++ qs) (merge ns ms)
ties-merge ps qs ns ms h k = record { same = λ n. let a = h.same n in let b = k.same n in let c = hits-append n ps qs in let d = times-merge n ns ms in omega arith }

pub absent : (n : ℕ) (ps : List Sited) (ns : List ℕ) → Ties ps ns → times n ns ≡ 0 → piece_in ps n ≡ None
absent n ps ns h e = no-hit n ps (h.same n ∙ e)

-- ---- two kinds of parts that stand behind one another

either-left : (n : ℕ) (ps qs : List Sited) → piece_in qs n ≡ None → piece_in (ps ++ qs) n ≡ piece_in ps n
either-left n ps qs e = in-append n ps qs ∙ ap (either (piece_in ps n)) e ∙ either-none (piece_in ps n)

either-right : (n : ℕ) (ps qs : List Sited) → piece_in ps n ≡ None → piece_in (ps ++ qs) n ≡ piece_in qs n
either-right n ps qs e = in-append n ps qs ∙ ap (λ o. either o (piece_in qs n)) e

-- a list of sites begins with one, and it is in the list
pub record Begins (ns : List ℕ) : Type 0 where
  pub rest : List ℕ
  pub are : ns ≡ first_site ns ∷ rest

first_above : (low : ℕ) (ns : List ℕ) → Begins ns → Increasing low ns → low ≤ first_site ns
first_above low ns b h = let k = subst (Increasing low) b.are h in k.0

from_first : (low : ℕ) (ns : List ℕ) → Begins ns → Increasing low ns → Increasing (first_site ns) ns
from_first low ns b h = let k = subst (Increasing low) b.are h in subst (Increasing (first_site ns)) (sym b.are) (omega arith, k.1)

pub above-first : (low : ℕ) (ns : List ℕ) → Begins ns → Increasing low ns → low ≤ first_site ns
above-first low ns b h = first_above low ns b h

pub increasing-first : (low : ℕ) (ns : List ℕ) → Begins ns → Increasing low ns → Increasing (first_site ns) ns
increasing-first low ns b h = from_first low ns b h

-- before the second begins, a site is of the first
pub in-front : (n low : ℕ) (ps qs : List Sited) (ns ms : List ℕ) → Ties qs ms → Begins ms → Increasing low (ns ++ ms) → n < first_site ms → piece_in (ps ++ qs) n ≡ piece_in ps n
in-front n low ps qs ns ms t b h e = either-left n ps qs (absent n qs ms t (below-none n (first_site ms) ms (from_first (past low ns) ms b (back low ns ms h)) e))

-- and from there on of the second
pub in-back : (n low : ℕ) (ps qs : List Sited) (ns ms : List ℕ) → Ties ps ns → Begins ms → Increasing low (ns ++ ms) → first_site ms ≤ n → piece_in (ps ++ qs) n ≡ piece_in qs n
in-back n low ps qs ns ms t b h e =
    let f = first_above (past low ns) ms b (back low ns ms h) in
    either-right n ps qs (absent n ps ns t (past-none n low ns (front low ns ms h) (omega arith)))

-- ---- two kinds of parts that stand among each other

-- what the second has the first has not
pub in-second : (n low : ℕ) (ps qs : List Sited) (ns ms : List ℕ) (p : Piece) → Ties ps ns → Ties qs ms → Increasing low (merge ns ms) → piece_in qs n ≡ Some p → piece_in (ps ++ qs) n ≡ Some p
in-second n low ps qs ns ms p t u h is =
    either-right n ps qs (absent n ps ns t (only (once n low (merge ns ms) h) (times-merge n ns ms) (λ none. absurd (cc (is, absent n qs ms u none))))) ∙ is
  where
    only : times n (merge ns ms) ≤ 1 → times n (merge ns ms) ≡ times n ns + times n ms → (times n ms ≡ 0 → ⊥) → times n ns ≡ 0
    only e f g = omega arith

pub in-first : (n : ℕ) (ps qs : List Sited) (p : Piece) → piece_in ps n ≡ Some p → piece_in (ps ++ qs) n ≡ Some p
in-first n ps qs p is = in-append n ps qs ∙ ap (λ o. either o (piece_in qs n)) is

pub not-first : (n : ℕ) (ps qs : List Sited) → piece_in ps n ≡ None → piece_in (ps ++ qs) n ≡ piece_in qs n
not-first n ps qs e = either-right n ps qs e

pub not-second : (n : ℕ) (ps qs : List Sited) → piece_in qs n ≡ None → piece_in (ps ++ qs) n ≡ piece_in ps n
not-second n ps qs e = either-left n ps qs e

-- ---- a part with what stands inside it

pub rise-behind : (m : ℕ) (ns : List ℕ) → IsIncreasing (m ∷ ns) → IsIncreasing ns
rise-behind m ns h = rise (suc m) ns h.up.1

pub rise-front : (m : ℕ) (ns ms : List ℕ) → IsIncreasing (m ∷ (ns ++ ms)) → IsIncreasing ns
rise-front m ns ms h = rise (suc m) ns (front (suc m) ns ms h.up.1)

pub rise-back : (m : ℕ) (ns ms : List ℕ) → IsIncreasing (m ∷ (ns ++ ms)) → IsIncreasing ms
rise-back m ns ms h = rise (past (suc m) ns) ms (back (suc m) ns ms h.up.1)

pub rise-first : (m : ℕ) (ns ms : List ℕ) → IsIncreasing (m ∷ merge ns ms) → IsIncreasing ns
rise-first m ns ms h = rise (suc m) ns (apart (suc m) ns ms h.up.1).0

pub rise-second : (m : ℕ) (ns ms : List ℕ) → IsIncreasing (m ∷ merge ns ms) → IsIncreasing ms
rise-second m ns ms h = rise (suc m) ms (apart (suc m) ns ms h.up.1).1

pub two-front : (n m : ℕ) (p : Piece) (ps qs : List Sited) (ns ms : List ℕ) → Ties qs ms → Begins ms → IsIncreasing (m ∷ (ns ++ ms)) → (m ≡ n → ⊥) → n < first_site ms
    → piece_in ps n ≡ piece_in ((m, p) ∷ (ps ++ qs)) n
two-front n m p ps qs ns ms t b h other e = sym (elsewhere n m p (ps ++ qs) other ∙ in-front n (suc m) ps qs ns ms t b h.up.1 e)

pub two-back : (n m : ℕ) (p : Piece) (ps qs : List Sited) (ns ms : List ℕ) → Ties ps ns → Begins ms → IsIncreasing (m ∷ (ns ++ ms)) → (m ≡ n → ⊥) → first_site ms ≤ n
    → piece_in qs n ≡ piece_in ((m, p) ∷ (ps ++ qs)) n
two-back n m p ps qs ns ms t b h other e = sym (elsewhere n m p (ps ++ qs) other ∙ in-back n (suc m) ps qs ns ms t b h.up.1 e)

-- ---- two kinds of parts among each other, by what was looked for in each

pub merged-first : (ns ms : List ℕ) → IsIncreasing (merge ns ms) → IsIncreasing ns
merged-first ns ms h = record { up = (apart 0 ns ms h.up).0 }

pub merged-second : (ns ms : List ℕ) → IsIncreasing (merge ns ms) → IsIncreasing ms
merged-second ns ms h = record { up = (apart 0 ns ms h.up).1 }

pub among-first : (n : ℕ) (ps qs : List Sited) (p : Piece) → Some p ≡ piece_in ps n → Some p ≡ piece_in (ps ++ qs) n
among-first n ps qs p is = sym (in-first n ps qs p (sym is))

pub among-second : (n : ℕ) (ps qs : List Sited) (ns ms : List ℕ) (p : Piece) → Ties ps ns → Ties qs ms → IsIncreasing (merge ns ms) → Some p ≡ piece_in qs n → Some p ≡ piece_in (ps ++ qs) n
among-second n ps qs ns ms p t u h is = sym (in-second n 0 ps qs ns ms p t u h.up (sym is))

pub among-not-first : (n : ℕ) (ps qs : List Sited) → None ≡ piece_in ps n → piece_in qs n ≡ piece_in (ps ++ qs) n
among-not-first n ps qs is = sym (not-first n ps qs (sym is))

pub among-not-second : (n : ℕ) (ps qs : List Sited) → None ≡ piece_in qs n → piece_in ps n ≡ piece_in (ps ++ qs) n
among-not-second n ps qs is = sym (not-second n ps qs (sym is))
