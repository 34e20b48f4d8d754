use Rattle.std.proofs.Common.{ℕ, List, inl, inr}
use Rattle.guard_ends.specs.Inputs.{RefusesProof}
use Rattle.guard_ends.specs.Order.{Contents, Ending, Ends, Inputs, IsChecked, Loading, OfEvidence, Point, Refusing, Work}
use Rattle.guard_ends.specs.declared.ends.Which.TheVariants as file
use Rattle.guard_inputs.specs.code.Inputs.{inputs_of}
use Rattle.guard_inputs.specs.code.Loading.{RefusesLength}
use Rattle.guard_inputs.specs.code.Stops.{IsStop, NoneRose, Rose}
use Rattle.guard_inputs.proofs.Loads.{long-proof, refused-more}
use Rattle.guard_inputs.proofs.Stopping.{IsStop-more, as-rose, at-exit, none-rose}
use Rattle.guard_run.specs.code.Outcome.{ended}
use Rattle.guard_run.specs.declared.done.Done.{Done}
use Rattle.guard_run.proofs.Outcomes.{IsOutcome-more}
use Rattle.guard_run.proofs.check.check_evidence.Goals as goal

refused-before : (told : Contents) (name : List ℕ) (inputs : Inputs) (p : Point) → Loading file.Proof told name (Refusing RefusesProof) p → OfEvidence told name inputs p
refused-before told name inputs p (inl load) = inl load
refused-before told name inputs p (inr (bytes, content, refused)) = inr (bytes, content, inl refused)

pub returns-in_err-bytes-clause-outcome : goal.returns-in_err-bytes-clause-outcome
returns-in_err-bytes-clause-outcome g c =
    let told = g.F.Files.content c.args.files.now in
    let name = c.args.name.now in
    let Rises = Rose (g.F.Files.faults c.args.files.now) (g.F.Files.faults c.load_bytes.new.files) in
    let inputs : Inputs = inputs_of c.args.ready.now.inputs.now in
    let Comes : Work = OfEvidence told name inputs in
    at-exit (λ (done : Done). Comes (Ends (ended done))) (IsStop Comes Rises NoneRose)
    c.from_residual.result c.in_err-bytes.field-0.0 c.from_residual.ensures.1
    (IsStop-more (Loading file.Proof told name (Refusing (RefusesLength file.Proof))) Comes Rises Rises NoneRose NoneRose
    (λ p came. refused-before told name inputs p (refused-more file.Proof told name (RefusesLength file.Proof) RefusesProof long-proof p came))
    (as-rose Rises) (as-rose NoneRose) c.in_err-bytes.field-0.0 c.in_err-bytes.ensures.loaded)

pub returns-in_err-evidence-clause-outcome : goal.returns-in_err-evidence-clause-outcome
returns-in_err-evidence-clause-outcome g c =
    let told = g.F.Files.content c.args.files.now in
    let name = c.args.name.now in
    let Rises = Rose (g.F.Files.faults c.args.files.now) (g.F.Files.faults c.load_bytes.new.files) in
    let Comes : Work = OfEvidence told name (inputs_of c.args.ready.now.inputs.now) in
    let bytes : List ℕ = c.in_ok-bytes.bytes.items in
    at-exit (λ (done : Done). Comes (Ends (ended done))) (IsStop Comes Rises NoneRose)
    c.from_residual-in_err-evidence.result c.in_err-evidence.field-0.0 c.from_residual-in_err-evidence.ensures.1
    (IsStop-more (Refusing RefusesProof bytes) Comes NoneRose Rises NoneRose NoneRose
    (λ p refused. inr (bytes, c.in_ok-bytes.ensures.loaded.0, inl refused)) (none-rose Rises) (as-rose NoneRose)
    c.in_err-evidence.field-0.0 c.in_err-evidence.ensures)

pub returns-clause-outcome : goal.returns-clause-outcome
returns-clause-outcome g c =
    let told = g.F.Files.content c.args.files.now in
    let name = c.args.name.now in
    let Rises = Rose (g.F.Files.faults c.args.files.now) (g.F.Files.faults c.load_bytes.new.files) in
    let inputs : Inputs = inputs_of c.args.ready.now.inputs.now in
    let bytes : List ℕ = c.in_ok-bytes.bytes.items in
    let evidence = c.in_ok-evidence.evidence in
    IsOutcome-more (Ending (IsChecked inputs.rules inputs.tree evidence)) (OfEvidence told name inputs) NoneRose Rises NoneRose NoneRose
    (λ p end. inr (bytes, c.in_ok-bytes.ensures.loaded.0, inr (evidence, c.in_ok-evidence.ensures, end))) (none-rose Rises) (as-rose NoneRose)
    c.check_lines.result c.check_lines.ensures

pub returns-clause-kept : goal.returns-clause-kept
returns-clause-kept g c = c.load_bytes.ensures.kept

pub returns-clause-contents : goal.returns-clause-contents
returns-clause-contents g c = c.load_bytes.ensures.contents
