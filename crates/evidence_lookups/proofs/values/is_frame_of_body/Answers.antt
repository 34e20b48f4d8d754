use Rattle.std.proofs.Common.{inl, inr}
use Rattle.evidence_lookups.proofs.FramesValued.{last-of-three}
use Rattle.evidence_lookups.proofs.values.is_frame_of_body.Goals as goal

pub is_frame_of_owned-requires : goal.is_frame_of_owned-requires
is_frame_of_owned-requires c = record { placed = (c.args.site, c.requires.placed) }

pub is_frame_of_owned-requires-2 : goal.is_frame_of_owned-requires-2
is_frame_of_owned-requires-2 c = record { placed = (c.args.site, c.requires.placed) }

pub is_frame_of_owned-requires-3 : goal.is_frame_of_owned-requires-3
is_frame_of_owned-requires-3 c = record { placed = (c.args.site, c.requires.placed) }

pub returns-then-is_frame_of_owned : goal.returns-then-is_frame_of_owned
returns-then-is_frame_of_owned c = inl c.if-is_frame_of_owned.ensures

pub returns-then-is_frame_of_owned-2 : goal.returns-then-is_frame_of_owned-2
returns-then-is_frame_of_owned-2 c = inr (inl c.if-is_frame_of_owned-2.ensures)

pub returns : goal.returns
returns c = last-of-three _ _ _ c.is_frame_of_owned-3.result c.if-is_frame_of_owned.ensures c.if-is_frame_of_owned-2.ensures c.is_frame_of_owned-3.ensures
