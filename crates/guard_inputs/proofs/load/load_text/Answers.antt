use Rattle.std.proofs.Common.{◌≡◌, ◌≤◌, ℕ, List, true, false, ap, length, inl, inr, refl, string_bytes}
use Rattle.guard_ends.specs.Order.{Ends, IsContent, Loading, Refusing}
use Rattle.guard_ends.specs.declared.ends.Refusal.TheVariants.{NotText}
use Rattle.guard_inputs.specs.code.Loading.{IsNotLoaded, RefusesLength, RefusesText, limit_of}
use Rattle.guard_inputs.specs.code.Stops.{NoneRose, Rose}
use Rattle.guard_inputs.proofs.Loads.{refused-more}
use Rattle.guard_inputs.proofs.Stopping.{IsStop-more, as-rose, at-exit}
use Rattle.guard_inputs.proofs.load.load_text.Goals as goal

pub returns-in_err-bytes-clause-loaded : goal.returns-in_err-bytes-clause-loaded
returns-in_err-bytes-clause-loaded g c =
    let told = g.F.Files.content c.args.files.now in
    let which = c.args.which in
    let name = c.args.name.now in
    let before = g.F.Files.faults c.args.files.now in
    let after = g.F.Files.faults c.load_bytes.new.files in
    at-exit (λ text. IsContent (told name) (string_bytes text) × (length (string_bytes text) ≤ limit_of which)) (IsNotLoaded which told name (RefusesText which) before after)
    c.from_residual.result c.in_err-bytes.field-0.0 c.from_residual.ensures.1
    (IsStop-more (Loading which told name (Refusing (RefusesLength which))) (Loading which told name (Refusing (RefusesText which)))
    (Rose before after) (Rose before after) NoneRose NoneRose
    (refused-more which told name (RefusesLength which) (RefusesText which) (λ bytes refusal long. inl long))
    (as-rose (Rose before after)) (as-rose NoneRose) c.in_err-bytes.field-0.0 c.in_err-bytes.ensures.loaded)

pub returns-clause-loaded : goal.returns-clause-loaded
returns-clause-loaded g c =
    let bytes : List ℕ = c.in_ok-bytes.bytes.items in
    inr (
      bytes,
      c.in_ok-bytes.ensures.loaded.0,
      (NotText c.args.which, inr (refl, (c.in_ok-bytes.ensures.loaded.1, λ utf8. let bad : false ≡ true = c.in-Err.ensures.succeeds utf8 in absurd cc)), ap Ends (c.not_text.ensures bytes)),
    )

pub returns-clause-kept : goal.returns-clause-kept
returns-clause-kept g c = c.load_bytes.ensures.kept

pub returns-in-Ok-clause-kept : goal.returns-in-Ok-clause-kept
returns-in-Ok-clause-kept g c = c.load_bytes.ensures.kept
