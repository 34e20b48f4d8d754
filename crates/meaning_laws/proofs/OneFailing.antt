-- Where names mean what their tables say, some entries of calls obey theirs, and all that do are those of enough unfoldings, by induction on how many.
use Rattle.std.proofs.Common.{◌≡◌, ℕ, zero, suc, ◌+◌, ◌≤◌, refl, ap₂, sym, ◌∙◌, arith, List, [], ◌∷◌, map}
use Rattle.guard_syntax.specs.Syntax.{Disjs, Exprs, File, Rule}
use Rattle.rule_names.proofs.Shallow.{AreShallow, rules-shallow}
use Rattle.rule_names.specs.Deep.{deep_rules}
use Rattle.rule_names.specs.Depths.{depth_at, depth_body, depth_disjs, depth_exprs, depth_limit, depth_opt_conds, depth_piece, depth_rule, depth_target, depths_of}
use Rattle.rule_names.specs.Pieces.{piece_at}
use Rattle.rule_names.specs.Resolution.{target_of}
use Rattle.rule_meaning.specs.Environments.{Environment, Inner, Top}
use Rattle.rule_meaning.specs.Fails.{Calls, Entry, calls_by, loose_fails, rule_fails, unfold_fails}
use Rattle.rule_meaning.specs.Locations.{World, root_location}
use Rattle.rule_meaning.specs.Meaning.{Names}
use Rattle.rule_meaning.specs.NameMeaning.{unfolded}
use Rattle.rule_meaning.specs.code.Fixpoint.{IsFixpoint}
use Rattle.meaning_laws.specs.code.Entries.{IsCallsFixpoint, loose_fails_with, rule_fails_with}
use Rattle.meaning_laws.specs.code.Weights.{weight}
use Rattle.meaning_laws.proofs.OneMeaning.{IsFine, shallow, told, unique}
use Rattle.meaning_laws.proofs.SameEntries.{AgreeOnCalls, body-entries, calls-entries, disjs-entries, steady}
use Rattle.meaning_laws.proofs.Weighed.{larger-second}

module _ (world : World) (depths : List ℕ) (told : (site : ℕ) → depth_piece world.file depths (piece_at world.file site) ≤ depth_at world.file depths site)
    (names : Names) (obeys : IsFixpoint world names) where
  -- one unfolding more of entries that agree with so many
  next-calls : (calls : Calls) (n : ℕ) → AgreeOnCalls world depths n calls (calls_by world n) → AgreeOnCalls world depths (suc n) (unfold_fails world names calls) (calls_by world (suc n))
  next-calls calls n same = calls-entries world depths n names (unfolded world n) (unique world depths told names obeys n) calls (calls_by world n) same told

  -- what obeys the tables is what the unfoldings give
  pub unique-calls : (calls : Calls) → IsCallsFixpoint world names calls → (n : ℕ) → AgreeOnCalls world depths n calls (calls_by world n)
  unique-calls calls obeyed zero = record { entries = λ env site args h. absurd (omega (arith, h)) }
  unique-calls calls obeyed (suc n) =
      let next = next-calls calls n (unique-calls calls obeyed n) in
      record { entries = λ env site args h. obeyed env site args ∙ next.entries env site args h }

  -- each call by as many unfoldings as it leads deep
  abbrev called_depth : Environment → ℕ → Exprs → ℕ
  called_depth env site args = suc (depth_target world.file depths (target_of world.file site) + depth_exprs world.file depths args) + weight world.file depths env

  pub enough_calls : Calls
  enough_calls = λ env site args. calls_by world (called_depth env site args) env site args

  by-calls : (n : ℕ) → AgreeOnCalls world depths n enough_calls (calls_by world n)
  unfolding enough_calls
  by-calls n = record { entries = λ env site args h. (steady world depths told (called_depth env site args) n h).entries env site args (omega arith) }

  -- and these obey the tables
  pub calls-obeyed : IsCallsFixpoint world names enough_calls
  calls-obeyed env site args =
      let n = called_depth env site args in
      (by-calls (suc n)).entries env site args (omega arith) ∙ sym ((next-calls enough_calls n (by-calls n)).entries env site args (omega arith))

-- ---- a file without a fault

module _ (f : File) (fine : IsFine f) (world : World) (is : world.file ≡ f) (names : Names) (obeys : IsFixpoint world names) where
  abbrev depths : List ℕ
  depths = depths_of world.file

  pub some-calls : (calls : Calls) × IsCallsFixpoint world names calls
  some-calls =
      let leads = told f fine world is in
      (enough_calls world depths leads names obeys, calls-obeyed world depths leads names obeys)

  module _ (calls : Calls) (obeyed : IsCallsFixpoint world names calls) where
    rule-one : (r : Rule) → depth_rule world.file depths r ≤ depth_limit → rule_fails_with world names calls r ≡ rule_fails world r
    rule-one r h =
        let leads = told f fine world is in
        let a = depth_opt_conds world.file depths r.cond in
        let b = depth_body world.file depths r.body in
        let fits : b + 0 ≤ depth_limit = larger-second a b 0 depth_limit (omega (arith, h)) in
        body-entries world depths depth_limit names (unfolded world depth_limit) (unique world depths leads names obeys depth_limit) calls (calls_by world depth_limit)
        (unique-calls world depths leads names obeys calls obeyed depth_limit) (Inner root_location Top) r.body fits

    rules-each : (rs : List Rule) → deep_rules world.file depths rs ≡ [] → map (rule_fails_with world names calls) rs ≡ map (rule_fails world) rs
    rules-each [] h = refl
    rules-each (r ∷ rs) h =
        let first = rules-shallow world.file depths r rs h in
        ap₂ (λ (e : List Entry) (es : List (List Entry)). e ∷ es) (rule-one r first.0) (rules-each rs first.1)

    pub rules-one : map (rule_fails_with world names calls) world.file.rules ≡ map (rule_fails world) world.file.rules
    rules-one = let low : AreShallow world.file depths = shallow f fine world is in rules-each world.file.rules low.rules

    pub loose-one : loose_fails_with world names calls world.file.loose ≡ loose_fails world world.file.loose
    loose-one =
        let leads = told f fine world is in
        let low : AreShallow world.file depths = shallow f fine world is in
        let few = low.loose in
        let fits : depth_disjs world.file depths world.file.loose + 0 ≤ depth_limit = omega (arith, few) in
        disjs-entries world depths depth_limit names (unfolded world depth_limit) (unique world depths leads names obeys depth_limit) calls (calls_by world depth_limit)
        (unique-calls world depths leads names obeys calls obeyed depth_limit) Top world.file.loose fits
