use Rattle.std.proofs.Common.{ℕ, ◌⊎◌, inl, inr}
use Rattle.doc_values.specs.Tree.{Forest, size}
use Rattle.guard_syntax.specs.Syntax.{File}
use Rattle.guard_testfile.specs.Refusals.{BreaksShape, IsTestsFile, NamesNoRule, named_at}
use Rattle.guard_testfile.specs.Shape.{shaped_at}
use Rattle.guard_testfile.proofs.FirstFailures.{first-failure, holds-apart, one-first}
use Rattle.guard_testfile.proofs.laws.one_answer.Goals as goal

answered : (file : File) (tree : Forest) → IsTestsFile file tree ⊎ (((n : ℕ) × BreaksShape tree n) ⊎ ((n : ℕ) × NamesNoRule file tree n))
answered file tree = elim (first-failure (size tree) (shaped_at tree)) [
  | inr breaks ↦ inr (inl breaks)
  | inl shape ↦ elim (first-failure (size tree) (named_at file tree)) [
    | inl names ↦ inl (record { shape = shape; names = names })
    | inr unnamed ↦ inr (inr (unnamed.0, (shape, unnamed.1)))
  ]
]

pub returns : goal.returns
returns c = record {
  answered = answered;
  shape = λ tree n m a b. one-first (size tree) (shaped_at tree) n m a b;
  names = λ file tree n m a b. one-first (size tree) (named_at file tree) n m a.1 b.1;
  apart = λ file tree n m a b. holds-apart (size tree) (shaped_at tree) n b.0 a;
  shaped = λ file tree n all a. holds-apart (size tree) (shaped_at tree) n all.shape a;
  named = λ file tree n all a. holds-apart (size tree) (named_at file tree) n all.names a.1;
}
