use Rattle.std.proofs.Common.{◌≤◌, ℕ, length, string_bytes, subst}
use Rattle.guard_inputs.specs.code.Inputs.{IsLoaded}
use Rattle.guard_inputs.specs.code.Loading.{IsNotLoaded, RefusesText}
use Rattle.guard_inputs.proofs.Stopping.{at-exit}
use Rattle.guard_inputs.proofs.load.load_data.Goals as goal

pub returns-in_err-text-clause-loaded : goal.returns-in_err-text-clause-loaded
returns-in_err-text-clause-loaded g c =
    let told = g.F.Files.content c.args.files.now in
    let name = c.args.name.now in
    at-exit (IsLoaded told name)
    (IsNotLoaded c.args.which told name (RefusesText c.args.which) (g.F.Files.faults c.args.files.now) (g.F.Files.faults c.load_text.new.files))
    c.from_residual.result c.in_err-text.field-0.0 c.from_residual.ensures.1 c.in_err-text.ensures.loaded

pub invariant_of-result : goal.invariant_of-result
invariant_of-result g c = record { short = subst (λ (n : ℕ). length (string_bytes c.in_ok-text.text) ≤ n) c.requires c.in_ok-text.ensures.loaded.1 }

pub returns-clause-loaded : goal.returns-clause-loaded
returns-clause-loaded g c = record { text = c.in_ok-text.ensures.loaded.0; format = c.format_of.ensures }

pub returns-clause-kept : goal.returns-clause-kept
returns-clause-kept g c = c.load_text.ensures.kept
