use Rattle.std.proofs.Common.{List, ℕ, get_or, ap, sym, ◌∙◌, refl}
use Rattle.std.specs.Prelude.{Err}
use Rattle.json_reader.specs.declared.stage.Stage.TheVariants as stage
use Rattle.json_reader.specs.declared.refusal.JsonRefusal.TheVariants.{Syntax}
use Rattle.json_reader.specs.code.Reading.{class_of, AtColon, colon_next}
use Rattle.json_reader.proofs.Walk.{from_cause}
use Rattle.json_reader.proofs.ByClass.{goes, colon_stops, not_space}
use Rattle.json_reader.proofs.step.colon_step.Goals as goal

pub returns-in-Colon-clause-gives : goal.returns-in-Colon-clause-gives
returns-in-Colon-clause-gives c =
    let u = c.args.builder.now in
    let class = c.byte_class.ensures ∙ ap (λ (t : List ℕ). class_of (get_or t c.args.at 0)) c.as_bytes.ensures.value in
    goes c.args.text.now c.args.at AtColon stage.Value u u c.requires.within (ap (colon_next u) (sym class ∙ c.in-Colon.is)) record { rooted = c.requires.fits.rooted; awaits = c.requires.fits.awaits }

pub returns-in_default-clause-gives : goal.returns-in_default-clause-gives
returns-in_default-clause-gives c =
    let class = c.byte_class.ensures ∙ ap (λ (t : List ℕ). class_of (get_or t c.args.at 0)) c.as_bytes.ensures.value in
    from_cause c.args.text.now c.args.at AtColon c.args.builder.now (Syntax c.args.at) c.requires.within (colon_stops (class_of (get_or c.args.text.now c.args.at 0)) c.args.builder.now (not_space (get_or c.args.text.now c.args.at 0) c.requires.token) (λ h. c.in_default.not-Colon (class ∙ h))) refl ∙ ap (λ n. Err (Syntax n)) (sym c.offset.ensures)
