use Rattle.std.proofs.Math.Nat.{le_trans}
use Rattle.std.proofs.Common.{Option, ◌∙◌}
use Rattle.doc_values.specs.Tree.{Forest}
use Rattle.report_text.specs.Texts.{Parameters}
use Rattle.guard_ends.specs.Order.{Ends, Inputs, WithParams, Work}
use Rattle.guard_inputs.specs.code.Inputs.{inputs_of}
use Rattle.guard_inputs.specs.code.Joined.{JoiningParams, LoadingParams, Nowhere, WithLoaded, name_in, with_data}
use Rattle.guard_inputs.specs.code.Stops.{IsStop, NoneRose, Rose}
use Rattle.guard_inputs.proofs.Stopping.{IsStop-more, as-rose, at-exit, none-rose, rose-since}
use Rattle.guard_run.specs.code.Stages.{JoiningInputs, WithPatterns}
use Rattle.guard_run.specs.code.Jobs.{Doing}
use Rattle.guard_run.specs.code.Outcome.{ended}
use Rattle.guard_run.specs.declared.done.Done.{Done}
use Rattle.guard_run.proofs.Joinings.{joined-comes, loaded-params, params-before}
use Rattle.guard_run.proofs.Outcomes.{IsOutcome-more}
use Rattle.guard_run.proofs.Stages.{doing-patterns}
use Rattle.guard_run.proofs.over_files.run_over_template.Goals as goal

pub returns-in_err-params-clause-outcome : goal.returns-in_err-params-clause-outcome
returns-in_err-params-clause-outcome g c =
    let told = g.F.Files.content c.args.files.now in
    let job = c.args.job.now in
    let name = name_in job.params in
    let inputs : Inputs = inputs_of c.args.template in
    let FileRose = Rose (g.F.Files.faults c.args.files.now) (g.F.Files.faults c.load_params.new.files) in
    let PatternRose = Rose (g.M.PatternMaker.faults c.args.maker.now) (g.M.PatternMaker.faults c.args.maker.now) in
    let Comes : Work = JoiningInputs (WithParams told name) inputs (Doing job.task told) in
    at-exit (λ (done : Done). Comes (Ends (ended done))) (IsStop Comes FileRose PatternRose)
    c.from_residual.result c.in_err-params.field-0.0 c.from_residual.ensures.1
    (IsStop-more (LoadingParams told name) Comes FileRose FileRose NoneRose PatternRose
    (params-before told inputs.texts.template inputs.tree name (λ params tree. WithPatterns (Doing job.task told) (with_data inputs params tree)))
    (as-rose FileRose) (none-rose PatternRose) c.in_err-params.field-0.0 c.in_err-params.ensures.loaded)

pub returns-in_err-inputs-clause-outcome : goal.returns-in_err-inputs-clause-outcome
returns-in_err-inputs-clause-outcome g c =
    let told = g.F.Files.content c.args.files.now in
    let job = c.args.job.now in
    let name = name_in job.params in
    let params = c.in_ok-params.params in
    let inputs : Inputs = inputs_of c.args.template in
    let FileRose = Rose (g.F.Files.faults c.args.files.now) (g.F.Files.faults c.load_params.new.files) in
    let PatternRose = Rose (g.M.PatternMaker.faults c.args.maker.now) (g.M.PatternMaker.faults c.args.maker.now) in
    let More : Option Parameters → Forest → Work = λ read tree. WithPatterns (Doing job.task told) (with_data inputs read tree) in
    let Comes : Work = JoiningInputs (WithParams told name) inputs (Doing job.task told) in
    at-exit (λ (done : Done). Comes (Ends (ended done))) (IsStop Comes FileRose PatternRose)
    c.from_residual-in_err-inputs.result c.in_err-inputs.field-0.0 c.from_residual-in_err-inputs.ensures.1
    (IsStop-more (JoiningParams (WithLoaded params) inputs Nowhere) Comes NoneRose FileRose NoneRose PatternRose
    (loaded-params told inputs.texts.template inputs.tree Nowhere More (λ read tree p never. absurd never) name params c.in_ok-params.ensures.loaded)
    (none-rose FileRose) (none-rose PatternRose) c.in_err-inputs.field-0.0 c.in_err-inputs.ensures)

pub returns-clause-outcome : goal.returns-clause-outcome
returns-clause-outcome g c =
    let told = g.F.Files.content c.args.files.now in
    let then = g.F.Files.content c.load_params.new.files in
    let job = c.args.job.now in
    let name = name_in job.params in
    let params = c.in_ok-params.params in
    let inputs : Inputs = inputs_of c.args.template in
    let joined = c.in_ok-inputs.inputs in
    let before = g.F.Files.faults c.args.files.now in
    let mid = g.F.Files.faults c.load_params.new.files in
    let after = g.F.Files.faults c.run_over_inputs.new.files in
    let PatternRose = Rose (g.M.PatternMaker.faults c.args.maker.now) (g.M.PatternMaker.faults c.run_over_inputs.new.maker) in
    let Does : Inputs → Work = Doing job.task told in
    let More : Option Parameters → Forest → Work = λ read tree. WithPatterns Does (with_data inputs read tree) in
    IsOutcome-more (WithPatterns (Doing job.task then) (inputs_of joined)) (JoiningInputs (WithParams told name) inputs Does)
    (Rose mid after) (Rose before after) PatternRose PatternRose
    (λ p came. loaded-params told inputs.texts.template inputs.tree More More (λ read tree q goes. goes) name params c.in_ok-params.ensures.loaded p
    (joined-comes params inputs joined Does c.requires.alone c.in_ok-inputs.ensures p
    (doing-patterns then told c.load_params.ensures.contents job.task (inputs_of joined) p came)))
    (rose-since before mid after c.load_params.ensures.kept) (as-rose PatternRose) c.run_over_inputs.result c.run_over_inputs.ensures.outcome

pub returns-clause-contents : goal.returns-clause-contents
returns-clause-contents g c other = c.run_over_inputs.ensures.contents other ∙ c.load_params.ensures.contents other

pub returns-clause-kept : goal.returns-clause-kept
returns-clause-kept g c other = le_trans (c.load_params.ensures.kept other) (c.run_over_inputs.ensures.kept other)

pub returns-clause-maker_kept : goal.returns-clause-maker_kept
returns-clause-maker_kept g c = c.run_over_inputs.ensures.maker_kept

pub join-requires : goal.join-requires
join-requires g c = c.requires.small
