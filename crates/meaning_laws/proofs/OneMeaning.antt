-- Enough unfoldings give the one meaning of names over locations that the tables allow, as far as a file leads that is not too deep.
use Rattle.std.proofs.Common.{◌≡◌, ℕ, zero, suc, ◌+◌, ◌≤◌, refl, ap, sym, ◌∙◌, subst, arith, List, [], ◌∷◌, map}
use Rattle.std.specs.Prelude.{IsNone}
use Rattle.guard_syntax.specs.Syntax.{Rule, File, Exprs}
use Rattle.guard_syntax.specs.declared.row.Verdict.{Verdict}
use Rattle.rule_names.specs.Deep.{deep_rules, deep_fault, default_limit}
use Rattle.rule_names.specs.Depths.{deepened, depth_at, depth_bound, depth_target, depth_exprs, depth_piece, depth_disjs, depth_limit, depths_of}
use Rattle.rule_names.specs.Resolution.{bind_of, target_of}
use Rattle.rule_names.specs.Pieces.{AreInOrder, piece_at}
use Rattle.rule_meaning.specs.Environments.{Environment, Top}
use Rattle.rule_meaning.specs.Meaning.{Names, disj_verdicts}
use Rattle.rule_meaning.specs.code.Fixpoint.{IsFixpoint}
use Rattle.meaning_laws.specs.code.Weights.{weight}
use Rattle.rule_meaning.specs.Locations.{World}
use Rattle.meaning_laws.proofs.Weighed.{piece-depth}
use Rattle.rule_meaning.specs.NameMeaning.{unfolded, unfolded_once, rule_by, rule_verdict, loose_verdict}
use Rattle.rule_meaning.specs.Verdicts.{conjunction}
use Rattle.meaning_laws.proofs.SameParts.{Agree, disjs-same}
use Rattle.rule_names.proofs.Shallow.{AreShallow, rules-shallow, file-shallow, pieces-shallow}
use Rattle.meaning_laws.proofs.Unfolded.{unfolded-same, rule-same}

module _ (world : World) (depths : List ℕ) where
  -- each use leads one deeper
  agree-none : (a b : Names) → Agree world depths 0 a b
  agree-none a b = record {
    rows = λ env site h. absurd (omega (arith, h));
    verdict = λ site h. absurd (omega (arith, h));
    called = λ env site args h. absurd (omega (arith, h));
  }

  agree-back : (n : ℕ) (a b : Names) → Agree world depths n a b → Agree world depths n b a
  agree-back n a b same = record {
    rows = λ env site h. sym (same.rows env site h);
    verdict = λ site h. sym (same.verdict site h);
    called = λ env site args h. sym (same.called env site args h);
  }

  module _ (told : (site : ℕ) → depth_piece world.file depths (piece_at world.file site) ≤ depth_at world.file depths site) where
    -- further unfoldings change nothing
    pub stable : (n m : ℕ) → n ≤ m → Agree world depths n (unfolded world n) (unfolded world m)
    stable zero m h = agree-none (unfolded world zero) (unfolded world m)
    stable (suc n) zero h = absurd (omega (arith, h))
    stable (suc n) (suc m) h = unfolded-same world depths n (unfolded world n) (unfolded world m) (stable n m (omega (arith, h))) told

    -- what obeys the tables is what the unfoldings give
    pub unique : (names : Names) → IsFixpoint world names → (n : ℕ) → Agree world depths n names (unfolded world n)
    unique names obeys zero = agree-none names (unfolded world zero)
    unique names obeys (suc n) =
        let next = unfolded-same world depths n names (unfolded world n) (unique names obeys n) told in
        record {
          rows = λ env site h. obeys.rows env site ∙ next.rows env site h;
          verdict = λ site h. obeys.verdict site ∙ next.verdict site h;
          called = λ env site args h. obeys.called env site args ∙ next.called env site args h;
        }

    -- each use by as many unfoldings as it leads deep
    abbrev rows_depth : Environment → ℕ → ℕ
    rows_depth env site = suc (depth_bound world.file depths (bind_of world.file site)) + weight world.file depths env

    abbrev verdict_depth : ℕ → ℕ
    verdict_depth site = suc (depth_target world.file depths (target_of world.file site))

    abbrev called_depth : Environment → ℕ → Exprs → ℕ
    called_depth env site args = suc (depth_target world.file depths (target_of world.file site) + depth_exprs world.file depths args) + weight world.file depths env

    pub enough_unfolded : Names
    enough_unfolded = record {
      rows = λ env site. (unfolded world (rows_depth env site)).rows env site;
      verdict = λ site. (unfolded world (verdict_depth site)).verdict site;
      called = λ env site args. (unfolded world (called_depth env site args)).called env site args;
    }

    by-unfolded : (n : ℕ) → Agree world depths n enough_unfolded (unfolded world n)
    unfolding enough_unfolded
    by-unfolded n = record {
      rows = λ env site h. (stable (rows_depth env site) n h).rows env site (omega arith);
      verdict = λ site h. (stable (verdict_depth site) n h).verdict site (omega arith);
      called = λ env site args h. (stable (called_depth env site args) n h).called env site args (omega arith);
    }

    next-unfolded : (n : ℕ) → Agree world depths (suc n) (unfolded_once world enough_unfolded) (unfolded world (suc n))
    next-unfolded n = unfolded-same world depths n enough_unfolded (unfolded world n) (by-unfolded n) told

    -- and these obey the tables
    pub obeyed : IsFixpoint world enough_unfolded
    obeyed = record {
      rows = λ env site. let n = rows_depth env site in (by-unfolded (suc n)).rows env site (omega arith) ∙ sym ((next-unfolded n).rows env site (omega arith));
      verdict = λ site. let n = verdict_depth site in (by-unfolded (suc n)).verdict site (omega arith) ∙ sym ((next-unfolded n).verdict site (omega arith));
      called = λ env site args.
          let n = called_depth env site args in (by-unfolded (suc n)).called env site args (omega arith) ∙ sym ((next-unfolded n).called env site args (omega arith));
    }

  module _ (a b : Names) (same : Agree world depths depth_limit a b) where
    -- rules that are not too deep
    pub rules-same : (rs : List Rule) → deep_rules world.file depths rs ≡ [] → map (rule_by world a) rs ≡ map (rule_by world b) rs
    rules-same [] h = refl
    rules-same (r ∷ rs) h =
        let shallow = rules-shallow world.file depths r rs h in
        ap (λ (v : Verdict). v ∷ map (rule_by world a) rs) (rule-same world depths depth_limit a b same r shallow.0)
        ∙ ap (λ (vs : List Verdict). rule_by world b r ∷ vs) (rules-same rs shallow.1)

    -- and parts outside rules
    pub loose-same : depth_disjs world.file depths world.file.loose ≤ default_limit → disj_verdicts world a Top world.file.loose ≡ disj_verdicts world b Top world.file.loose
    loose-same h = disjs-same world depths depth_limit a b same Top world.file.loose (omega (arith, h))

-- ---- a file without a fault

-- what the proofs need of a file
pub record IsFine (f : File) : Type 0 where
  pub settled : deepened f (depths_of f) ≡ depths_of f
  pub ordered : AreInOrder f
  pub shallow : IsNone (deep_fault f)

module _ (f : File) (fine : IsFine f) (world : World) (is : world.file ≡ f) where
  here : IsFine world.file
  here = subst IsFine (sym is) fine

  pub shallow : AreShallow world.file (depths_of world.file)
  shallow = file-shallow world.file here.shallow

  pub told : (site : ℕ) → depth_piece world.file (depths_of world.file) (piece_at world.file site) ≤ depth_at world.file (depths_of world.file) site
  told = piece-depth world.file (depths_of world.file) here.settled here.ordered (pieces-shallow world.file (depths_of world.file) shallow)

  enough : (n : ℕ) → Agree world (depths_of world.file) depth_limit (unfolded world (n + depth_limit)) (unfolded world depth_limit)
  enough n = agree-back world (depths_of world.file) depth_limit (unfolded world depth_limit) (unfolded world (n + depth_limit))
      (stable world (depths_of world.file) told depth_limit (n + depth_limit) (omega arith))

  one : (names : Names) → IsFixpoint world names → Agree world (depths_of world.file) depth_limit names (unfolded world depth_limit)
  one names obeys = unique world (depths_of world.file) told names obeys depth_limit

  pub some-names : (names : Names) × IsFixpoint world names
  some-names = (enough_unfolded world (depths_of world.file) told, obeyed world (depths_of world.file) told)

  rules-by : (names : Names) → Agree world (depths_of world.file) depth_limit names (unfolded world depth_limit)
      → map (rule_by world names) world.file.rules ≡ map (rule_verdict world) world.file.rules
  rules-by names same = rules-same world (depths_of world.file) names (unfolded world depth_limit) same world.file.rules shallow.rules

  loose-by : (names : Names) → Agree world (depths_of world.file) depth_limit names (unfolded world depth_limit)
      → conjunction (disj_verdicts world names Top world.file.loose) ≡ loose_verdict world world.file.loose
  loose-by names same = ap conjunction (loose-same world (depths_of world.file) names (unfolded world depth_limit) same shallow.loose)

  pub rules-turned : (n : ℕ) → map (rule_by world (unfolded world (n + depth_limit))) world.file.rules ≡ map (rule_verdict world) world.file.rules
  rules-turned n = rules-by (unfolded world (n + depth_limit)) (enough n)

  pub loose-turned : (n : ℕ) → conjunction (disj_verdicts world (unfolded world (n + depth_limit)) Top world.file.loose) ≡ loose_verdict world world.file.loose
  loose-turned n = loose-by (unfolded world (n + depth_limit)) (enough n)

  pub rules-obeyed : (names : Names) → IsFixpoint world names → map (rule_by world names) world.file.rules ≡ map (rule_verdict world) world.file.rules
  rules-obeyed names obeys = rules-by names (one names obeys)

  pub loose-obeyed : (names : Names) → IsFixpoint world names → conjunction (disj_verdicts world names Top world.file.loose) ≡ loose_verdict world world.file.loose
  loose-obeyed names obeys = loose-by names (one names obeys)
