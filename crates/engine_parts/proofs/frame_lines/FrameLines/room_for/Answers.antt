use Rattle.std.proofs.Common.{◌∙◌, refl, subst, ℕ, length}
use Rattle.std.proofs.lemmas.Option.{slice_get_read}
use Rattle.engine_parts.specs.code.FrameLines.{Widens}
use Rattle.engine_parts.proofs.FramePlaces.{moved-apart, moved-lines, moved-place, moved-within, place-of}
use Rattle.engine_parts.proofs.frame_lines.FrameLines.room_for.Goals as goal

pub copy_lines-requires : goal.copy_lines-requires
copy_lines-requires c site index is =
    let s = c.args.self.now in
    let span = c.index-span.result.now in
    let there = slice_get_read s.spans.items (length s.spans.items) c.args.frame span refl c.requires c.index-span.ensures in
    s.within c.args.frame site index (place-of s.spans.items c.args.frame span there site ∙ is)

pub invariant_of-self-2 : goal.invariant_of-self-2
invariant_of-self-2 c =
    let s = c.args.self.now in
    let span = c.index-span.result.now in
    let there = slice_get_read s.spans.items (length s.spans.items) c.args.frame span refl c.requires c.index-span.ensures in
    let widens = subst (λ (n : ℕ). Widens span c.args.site n c.in_ok-wider.wider) (c.len.ensures ∙ s.lines.ok.0) c.in_ok-wider.ensures in
    record {
      within = moved-within s.spans.items s.lines.items s.within s.apart c.args.frame c.args.site span c.in_ok-wider.wider there widens c.copy_lines.new.lines.items c.in_ok-copy_lines.ensures.kept c.in_ok-copy_lines.ensures.copied;
      apart = moved-apart s.spans.items s.lines.items s.within s.apart c.args.frame c.args.site span c.in_ok-wider.wider there widens;
    }

pub returns-clause-place : goal.returns-clause-place
returns-clause-place c =
    let s = c.args.self.now in
    let span = c.index-span.result.now in
    let there = slice_get_read s.spans.items (length s.spans.items) c.args.frame span refl c.requires c.index-span.ensures in
    let widens = subst (λ (n : ℕ). Widens span c.args.site n c.in_ok-wider.wider) (c.len.ensures ∙ s.lines.ok.0) c.in_ok-wider.ensures in
    moved-place s.spans.items s.lines.items s.within s.apart c.args.frame c.args.site span c.in_ok-wider.wider there widens

pub returns-clause-lines : goal.returns-clause-lines
returns-clause-lines c n m =
    let s = c.args.self.now in
    let span = c.index-span.result.now in
    let there = slice_get_read s.spans.items (length s.spans.items) c.args.frame span refl c.requires c.index-span.ensures in
    let widens = subst (λ (n : ℕ). Widens span c.args.site n c.in_ok-wider.wider) (c.len.ensures ∙ s.lines.ok.0) c.in_ok-wider.ensures in
    moved-lines s.spans.items s.lines.items s.within s.apart c.args.frame c.args.site span c.in_ok-wider.wider there widens c.copy_lines.new.lines.items c.in_ok-copy_lines.ensures.kept c.in_ok-copy_lines.ensures.copied n m
