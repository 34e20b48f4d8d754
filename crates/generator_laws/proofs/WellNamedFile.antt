-- The names of the file of generated rules are as they must be.
use Rattle.std.proofs.Common.{ℕ, ◌^◌, length, ◌<◌, ◌≤◌, ◌+◌, refl, sym, subst, arith}
use Rattle.std.specs.Prelude.{IsNone}
use Rattle.generator_laws.proofs.Acyclic.{file-acyclic}
use Rattle.generator_laws.proofs.ShallowFile.{file-shallow}
use Rattle.generator_laws.proofs.SingleNames.{no-single-fault}
use Rattle.doc_values.specs.Tree.{Forest}
use Rattle.generator_laws.specs.code.GeneratedSyntax.{Places, generated_file}
use Rattle.rule_generator.specs.GeneratedRules.{rules_of}
use Rattle.rule_names.specs.WellNamed.{WellNamed}

one-more : (n m : ℕ) → n < m → 1 + n ≤ m
one-more n m h = omega arith

pub file-named : (places : Places) (tree : Forest) → length (rules_of tree) < 2 ^ 64 → WellNamed (generated_file places tree)
file-named places tree few =
    record {
      singles = subst IsNone (sym (no-single-fault places (rules_of tree) (one-more _ _ few))) refl;
      cycles = file-acyclic places (rules_of tree) (one-more _ _ few);
      shallow = subst IsNone (sym (file-shallow places (rules_of tree) (one-more _ _ few))) refl;
    }
