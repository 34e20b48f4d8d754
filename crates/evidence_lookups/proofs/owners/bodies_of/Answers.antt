use Rattle.std.proofs.Common.{◌≡◌, ◌∙◌, ap, arith, false, length, replicate, ℕ}
use Rattle.rule_names.specs.code.Files.{file_of}
use Rattle.evidence_lookups.specs.code.Owned.{marks_upto}
use Rattle.evidence_lookups.proofs.OwnersMarked.{marks-next}
use Rattle.evidence_lookups.proofs.owners.bodies_of.Goals as goal

pub loop-site-init : goal.loop-site-init
loop-site-init c = c.in_ok-marks.ensures.items_if_clones_equal (λ y h. h) ∙ ap (λ (n : ℕ). replicate n false) (c.in-Ok.ensures.1 ∙ ap length c.as_slice.ensures)

pub loop-site-preserved : goal.loop-site-preserved
loop-site-preserved c =
    marks-next (file_of c.args.pieces.now.file.now) c.args.owner c.loop-site.site c.loop-site.marks.items c.mark.new.marks.items c.owned_site.result c.mark.ensures c.owned_site.ensures c.loop-site.invariant

pub returns : goal.returns
returns c =
    let end : c.loop-site.site ≡ c.in-Ok.count = omega arith in
    c.loop-site.invariant ∙ ap (marks_upto (file_of c.args.pieces.now.file.now) c.args.owner) (end ∙ c.in-Ok.ensures.1 ∙ ap length c.as_slice.ensures)
