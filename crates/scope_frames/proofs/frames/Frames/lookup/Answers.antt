use Rattle.std.proofs.Common.{◌≡◌, ◌∙◌, sym, subst, ap, ap₂, ℕ, List, Some}
use Rattle.std.proofs.lemmas.Option.{none-some, same_Some}
use Rattle.rule_names.specs.EnclosingScopes.{home_of}
use Rattle.rule_names.specs.code.Files.{file_of}
use Rattle.scope_frames.specs.code.Cells.{slot_of}
use Rattle.scope_frames.specs.code.Frames.{StandsFor, outwards}
use Rattle.scope_frames.specs.code.Scoping.{scope_around, up_of}
use Rattle.scope_frames.specs.declared.frame.Frame.{Frame}
use Rattle.scope_frames.proofs.CallFrames.{slot-there}
use Rattle.scope_frames.proofs.FramesAround.{so-many-out}
use Rattle.scope_frames.proofs.NamesBound.{names-bound}
use Rattle.scope_frames.proofs.RulesNamed.{called-home}
use Rattle.scope_frames.proofs.frames.Frames.lookup.Goals as goal

pub unreachable-requires-in_default-outwards : goal.unreachable-requires-in_default-outwards
unreachable-requires-in_default-outwards c =
    let file = c.args.self.now.file.now in
    let bound = names-bound (file_of file) file.sites c.args.site c.in-Some.bind (sym c.bind.ensures ∙ c.in-Some.is) in
    let out = so-many-out (file_of file) (called-home (file_of file) file.sites) c.args.self.now.entered.keys c.requires.sound _ c.args.frame (home_of (file_of file) c.args.site) c.requires.home bound.around in
    none-some out.0 (sym c.in_default-outwards.is ∙ c.outwards.ensures
    ∙ ap₂ (λ (fs : List Frame) (up : ℕ). outwards (file_of file) fs up c.args.frame) c.as_slice.ensures.keys c.up_of.ensures ∙ out.1)

pub unreachable-requires-in_default-slot_of : goal.unreachable-requires-in_default-slot_of
unreachable-requires-in_default-slot_of c =
    let file = c.args.self.now.file.now in
    let frames = c.args.self.now.entered.keys in
    let bind = c.in-Some.bind in
    let home = home_of (file_of file) c.args.site in
    let bound = names-bound (file_of file) file.sites c.args.site bind (sym c.bind.ensures ∙ c.in-Some.is) in
    let out = so-many-out (file_of file) (called-home (file_of file) file.sites) frames c.requires.sound _ c.args.frame home c.requires.home bound.around in
    let same : Some c.in-Some-outwards.frame ≡ Some out.0 = sym c.in-Some-outwards.is ∙ c.outwards.ensures
    ∙ ap₂ (λ (fs : List Frame) (up : ℕ). outwards (file_of file) fs up c.args.frame) c.as_slice.ensures.keys c.up_of.ensures ∙ out.1 in
    let scope = scope_around (file_of file) (up_of bind) home in
    let stands = subst (λ (n : ℕ). StandsFor (file_of file) frames n scope) (sym (same_Some c.in-Some-outwards.frame out.0 same)) out.2 in
    let it = slot-there (file_of file) file.named file.sites frames c.requires.sound c.in-Some-outwards.frame scope stands bind bound.given in
    none-some it.0 (sym c.in_default-slot_of.is ∙ c.slot_of.ensures ∙ ap (λ (fs : List Frame). slot_of (file_of file) fs c.in-Some-outwards.frame bind) c.as_slice-2.ensures.keys ∙ it.1)

pub returns-clause-has : goal.returns-clause-has
returns-clause-has c =
    let file = c.args.self.now.file.now in
    let frames = c.args.self.now.entered.keys in
    let bind = c.in-Some.bind in
    let home = home_of (file_of file) c.args.site in
    let bound = names-bound (file_of file) file.sites c.args.site bind (sym c.bind.ensures ∙ c.in-Some.is) in
    let out = so-many-out (file_of file) (called-home (file_of file) file.sites) frames c.requires.sound _ c.args.frame home c.requires.home bound.around in
    let same : Some c.in-Some-outwards.frame ≡ Some out.0 = sym c.in-Some-outwards.is ∙ c.outwards.ensures
    ∙ ap₂ (λ (fs : List Frame) (up : ℕ). outwards (file_of file) fs up c.args.frame) c.as_slice.ensures.keys c.up_of.ensures ∙ out.1 in
    let scope = scope_around (file_of file) (up_of bind) home in (
      scope,
      bind,
      subst (λ (n : ℕ). StandsFor (file_of file) frames n scope) (sym (same_Some c.in-Some-outwards.frame out.0 same)) out.2,
      bound.given,
      sym (sym c.in-Some-slot_of.is ∙ c.slot_of.ensures ∙ ap (λ (fs : List Frame). slot_of (file_of file) fs c.in-Some-outwards.frame bind) c.as_slice-2.ensures.keys),
    )
