-- What the builder's refusal of another collection says.
use Rattle.std.proofs.Common.{◌≡◌, ℕ, ◌⊎◌, inl, inr, length, ap, ◌∙◌}
use Rattle.doc_values.specs.declared.builder.BuildRefusal.{BuildRefusal}
use Rattle.doc_values.specs.declared.builder.BuildRefusal.TheVariants as build
use Rattle.doc_values.specs.Unfinished.{Unfinished}
use Rattle.yaml_grammar.specs.declared.stop.Stop.{Stop}
use Rattle.yaml_grammar.specs.declared.stop.Stop.TheVariants.{TooDeep}
use Rattle.yaml_grammar.specs.code.Refused.{of_build}
use Rattle.yaml_grammar.specs.code.Steps.{Deep}

pub deep_of : (u : Unfinished) (at n : ℕ) (r : BuildRefusal) (e : Stop) → e ≡ of_build r → n ≡ at → (r ≡ build.NoMemory) ⊎ ((r ≡ build.TooDeep n) × (length u.outer ≡ 128)) → Deep u at e
deep_of u at n r e h q (inl k) = inl (h ∙ ap of_build k)
deep_of u at n r e h q (inr (k, d)) = inr (h ∙ ap of_build k ∙ ap TooDeep q, d)
