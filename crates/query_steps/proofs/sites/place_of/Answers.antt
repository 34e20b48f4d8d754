use Rattle.rule_names.specs.code.Files.{file_of}
use Rattle.query_steps.proofs.StepPlaces.{steps-within}
use Rattle.query_steps.proofs.sites.place_of.Goals as goal

pub invariant_of-result : goal.invariant_of-result
invariant_of-result c = record {
  within = steps-within (file_of c.args.file.now) c.args.site c.in-Step.query.now c.in-Step.index c.as_slice.result.now c.as_slice.ensures.value c.in-Step.ensures c.requires.step;
}
