use Rattle.std.proofs.Math.Nat.{le_trans}
use Rattle.std.proofs.Common.{inr, string_bytes, subst, ◌∙◌}
use Rattle.rule_names.specs.code.Files.{file_of}
use Rattle.guard_ends.specs.Inputs.{RefusesRules}
use Rattle.guard_ends.specs.Order.{IsContent, Loading, LoadingTexts, Refusing, Work}
use Rattle.guard_ends.specs.declared.ends.Which.TheVariants as file
use Rattle.guard_inputs.specs.code.Inputs.{AreLoaded}
use Rattle.guard_inputs.specs.code.Loading.{RefusesText}
use Rattle.guard_inputs.specs.code.Stops.{IsStop, NoneRose, Rose}
use Rattle.guard_inputs.proofs.Loads.{loading-same, rules-before}
use Rattle.guard_inputs.proofs.Stopping.{IsStop-more, as-rose, at-exit, rose-since}
use Rattle.guard_inputs.proofs.prepare.load_sources.Goals as goal

pub returns-in_err-rules-clause-loaded : goal.returns-in_err-rules-clause-loaded
returns-in_err-rules-clause-loaded g c =
    let told = g.F.Files.content c.args.files.now in
    let which = c.args.beside in
    let rules = c.args.rules.now in
    let name = c.args.name.now in
    let Rises = Rose (g.F.Files.faults c.args.files.now) (g.F.Files.faults c.load_rules.new.files) in
    let Comes : Work = LoadingTexts which told rules name (λ source read. Refusing (RefusesText which)) in
    at-exit (AreLoaded told rules name) (IsStop Comes Rises NoneRose)
    c.from_residual.result c.in_err-rules.field-0.0 c.from_residual.ensures.1
    (IsStop-more (Loading file.Rules told rules (Refusing RefusesRules)) Comes Rises Rises NoneRose NoneRose
    (rules-before which told rules name (λ source read. Refusing (RefusesText which)))
    (as-rose Rises) (as-rose NoneRose) c.in_err-rules.field-0.0 c.in_err-rules.ensures.loaded)

pub returns-in_err-beside-clause-loaded : goal.returns-in_err-beside-clause-loaded
returns-in_err-beside-clause-loaded g c =
    let told = g.F.Files.content c.args.files.now in
    let told_then = g.F.Files.content c.load_rules.new.files in
    let which = c.args.beside in
    let rules = c.args.rules.now in
    let name = c.args.name.now in
    let before = g.F.Files.faults c.args.files.now in
    let mid = g.F.Files.faults c.load_rules.new.files in
    let after = g.F.Files.faults c.load_data.new.files in
    let read = c.in_ok-rules.rules in
    let Comes : Work = LoadingTexts which told rules name (λ source read. Refusing (RefusesText which)) in
    at-exit (AreLoaded told rules name) (IsStop Comes (Rose before after) NoneRose)
    c.from_residual-in_err-beside.result c.in_err-beside.field-0.0 c.from_residual-in_err-beside.ensures.1
    (IsStop-more (Loading which told_then name (Refusing (RefusesText which))) Comes (Rose mid after) (Rose before after) NoneRose NoneRose
    (λ p came. inr (
      string_bytes read.text,
      c.in_ok-rules.ensures.loaded.0,
      inr (
        file_of read.file,
        c.in_ok-rules.ensures.loaded.1,
        loading-same which told_then told name (Refusing (RefusesText which)) (c.load_rules.ensures.contents name) p came,
      ),
    ))
    (rose-since before mid after c.load_rules.ensures.kept) (as-rose NoneRose) c.in_err-beside.field-0.0 c.in_err-beside.ensures.loaded)

pub returns-clause-loaded : goal.returns-clause-loaded
returns-clause-loaded g c =
    let name = c.args.name.now in
    let beside = c.in_ok-beside.beside in
    record {
      source = c.in_ok-rules.ensures.loaded.0;
      read = c.in_ok-rules.ensures.loaded.1;
      text = record {
        text = subst (λ t. IsContent t (string_bytes beside.text)) (c.load_rules.ensures.contents name) c.in_ok-beside.ensures.loaded.text;
        format = c.in_ok-beside.ensures.loaded.format;
      };
    }

pub returns-clause-contents : goal.returns-clause-contents
returns-clause-contents g c other = c.load_data.ensures.contents other ∙ c.load_rules.ensures.contents other

pub returns-clause-kept : goal.returns-clause-kept
returns-clause-kept g c other = le_trans (c.load_rules.ensures.kept other) (c.load_data.ensures.kept other)
