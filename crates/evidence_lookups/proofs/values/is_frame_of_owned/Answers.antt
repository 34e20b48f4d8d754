use Rattle.evidence_lookups.specs.code.Grounds.{file_in, known_of, lines_of}
use Rattle.evidence_lookups.specs.declared.owners.Owner.TheVariants as owner
use Rattle.evidence_lookups.proofs.FramesValued.{known-test, not-owned, owned-valued}
use Rattle.evidence_lookups.proofs.OwnersMarked.{all-marked}
use Rattle.rule_meaning.specs.StoreModel.{is_known_ref}
use Rattle.evidence_lookups.proofs.values.is_frame_of_owned.Goals as goal

pub returns-then-not-owns : goal.returns-then-not-owns
returns-then-not-owns c =
    not-owned (known_of c.args.context.now) (lines_of c.args.context.now) c.args.context.now.tables.now.owners c.args.owner c.requires.placed.0 c.args.body.now c.owns.result (all-marked (file_in c.args.context.now) c.args.context.now.tables.now.owners c.args.context.now.store.now.file.now.sites c.args.context.now.owners_are) c.requires.placed.1 c.owns.ensures
    c.args.frame c.args.value c.if-not-owns.true

pub returns-in-Rule : goal.returns-in-Rule
returns-in-Rule c =
    owned-valued (known_of c.args.context.now) (lines_of c.args.context.now) c.args.context.now.tables.now.owners c.args.owner c.requires.placed.0 c.args.body.now c.owns.result (all-marked (file_in c.args.context.now) c.args.context.now.tables.now.owners c.args.context.now.store.now.file.now.sites c.args.context.now.owners_are) c.requires.placed.1 c.owns.ensures
    c.args.frame c.args.value c.if-not-owns.false owner.Rule c.in-Rule.is c.is_root.result c.is_root.ensures

pub returns-in-When : goal.returns-in-When
returns-in-When c =
    owned-valued (known_of c.args.context.now) (lines_of c.args.context.now) c.args.context.now.tables.now.owners c.args.owner c.requires.placed.0 c.args.body.now c.owns.result (all-marked (file_in c.args.context.now) c.args.context.now.tables.now.owners c.args.context.now.store.now.file.now.sites c.args.context.now.owners_are) c.requires.placed.1 c.owns.ensures
    c.args.frame c.args.value c.if-not-owns.false owner.When c.in-When.is c.has_value.result c.has_value.ensures

pub returns-in-Block : goal.returns-in-Block
returns-in-Block c =
    owned-valued (known_of c.args.context.now) (lines_of c.args.context.now) c.args.context.now.tables.now.owners c.args.owner c.requires.placed.0 c.args.body.now c.owns.result (all-marked (file_in c.args.context.now) c.args.context.now.tables.now.owners c.args.context.now.store.now.file.now.sites c.args.context.now.owners_are) c.requires.placed.1 c.owns.ensures
    c.args.frame c.args.value c.if-not-owns.false owner.Block c.in-Block.is c.is_known.result (known-test c.is_known.result (is_known_ref (known_of c.args.context.now) c.args.value) c.is_known.ensures)
