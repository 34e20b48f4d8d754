-- Which verdicts are reported, and what each that is FAIL fails by.
use Rattle.std.specs.Prelude.{ℕ, List, [], ◌∷◌, ◌++◌, map, codes, if◌then◌else◌}
use Rattle.std.specs.List.{flat_map}
use Rattle.doc_values.specs.Tree.{Forest}
use Rattle.guard_syntax.specs.Named.{Named}
use Rattle.guard_syntax.specs.Syntax.{File, Rule, Disjs, no_disjs, more_disjs}
use Rattle.guard_syntax.specs.declared.row.Verdict.{Verdict}
use Rattle.rule_meaning.specs.Fails.{Entry, loose_fails, rule_fails}
use Rattle.rule_meaning.specs.Locations.{Answers, World}
use Rattle.rule_meaning.specs.NameMeaning.{loose_verdict, rule_verdict}
use Rattle.rule_meaning.specs.Verdicts.{is_fail}

-- data that are judged by a rule file, by what functions answer
abbrev pub world_over : File → Forest → Answers → World
world_over file tree answers = record { template = tree; file = file; answers = answers }

-- a verdict under its name, with what it fails by
pub record Reported : Type 0 where
  pub name : List ℕ
  pub verdict : Verdict
  pub fails : List Entry

-- only what is FAIL fails by something
abbrev pub if_fail : Verdict → List Entry → List Entry
if_fail verdict entries = if is_fail verdict then entries else []

-- a rule with parameters has no verdict of its own
abbrev pub if_plain : Reported → List Named → List Reported
if_plain verdict [] = verdict ∷ []
if_plain verdict (param ∷ params) = []

abbrev pub of_rule : World → Rule → List Reported
of_rule world rule = if_plain (record {
  name = rule.name.text;
  verdict = rule_verdict world rule;
  fails = if_fail (rule_verdict world rule) (rule_fails world rule);
}) rule.params

-- the parts outside rules, if there are some, are reported as `default`: they are judged at the root of the data
abbrev pub of_loose : World → Disjs → List Reported
of_loose world no_disjs = []
of_loose world (more_disjs d ds) = record {
  name = codes "default";
  verdict = loose_verdict world (more_disjs d ds);
  fails = if_fail (loose_verdict world (more_disjs d ds)) (loose_fails world (more_disjs d ds));
} ∷ []

-- each rule without parameters in the order of the file, `default` last
abbrev pub reported : World → List Reported
reported world = flat_map (of_rule world) world.file.rules ++ of_loose world world.file.loose

abbrev pub verdicts_of : World → List Verdict
verdicts_of world = map (λ (r : Reported). r.verdict) (reported world)
