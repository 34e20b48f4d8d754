use Rattle.std.proofs.Common.{◌≡◌, ℕ, List, ◌+◌, length, drop, arith, subst, ◌∙◌, ap}
use Rattle.yaml_scalars.specs.Lines.{is_space, lead}
use Rattle.yaml_scalars.specs.code.Walk.{line_at}
use Rattle.yaml_scalars.proofs.Places.{lead_le}
use Rattle.yaml_scalars.proofs.BlockLines.{part_in, part_out, line_length, line_over, spaces_boundary, line_boundary}
use Rattle.yaml_scalars.proofs.block.content_start.Goals as goal

pub returns-then-inner-spaces-clause-part : goal.returns-then-inner-spaces-clause-part
returns-then-inner-spaces-clause-part c =
    let count : c.spaces.result ≡ lead is_space (line_at (drop c.args.start c.args.text.now)) = subst (λ (t : List ℕ). c.spaces.result ≡ lead is_space (line_at (drop c.args.start t))) c.as_bytes-bytes.ensures.value c.spaces.ensures.count in
    part_in c.args.inner c.args.text.now c.args.start (omega (arith, count, c.if-inner-spaces.true))

pub returns-then-inner-spaces-clause-line : goal.returns-then-inner-spaces-clause-line
returns-then-inner-spaces-clause-line c =
    let count : c.spaces.result ≡ lead is_space (line_at (drop c.args.start c.args.text.now)) = subst (λ (t : List ℕ). c.spaces.result ≡ lead is_space (line_at (drop c.args.start t))) c.as_bytes-bytes.ensures.value c.spaces.ensures.count in
    line_length c.args.text.now c.args.start c.args.inner (omega (arith, count, c.if-inner-spaces.true, lead_le is_space (line_at (drop c.args.start c.args.text.now))))

pub returns-then-inner-spaces-clause-boundary : goal.returns-then-inner-spaces-clause-boundary
returns-then-inner-spaces-clause-boundary c =
    let count : c.spaces.result ≡ lead is_space (line_at (drop c.args.start c.args.text.now)) = subst (λ (t : List ℕ). c.spaces.result ≡ lead is_space (line_at (drop c.args.start t))) c.as_bytes-bytes.ensures.value c.spaces.ensures.count in
    spaces_boundary c.args.text.now c.args.start c.args.inner c.utf8.text c.requires.boundary (omega (arith, count, c.if-inner-spaces.true))

pub returns-clause-part : goal.returns-clause-part
returns-clause-part c =
    let count : c.spaces.result ≡ lead is_space (line_at (drop c.args.start c.args.text.now)) = subst (λ (t : List ℕ). c.spaces.result ≡ lead is_space (line_at (drop c.args.start t))) c.as_bytes-bytes.ensures.value c.spaces.ensures.count in
    let end : c.line_end.result ≡ c.args.start + length (line_at (drop c.args.start c.args.text.now)) = subst (λ (t : List ℕ). c.line_end.result ≡ c.args.start + length (line_at (drop c.args.start t))) c.as_bytes-bytes.ensures.value c.line_end.ensures.end in
    ap (λ k. line_at (drop k c.args.text.now)) end ∙ part_out c.args.inner c.args.text.now c.args.start (omega (arith, count, c.if-inner-spaces.false)) c.requires.content

pub returns-clause-line : goal.returns-clause-line
returns-clause-line c =
    let end : c.line_end.result ≡ c.args.start + length (line_at (drop c.args.start c.args.text.now)) = subst (λ (t : List ℕ). c.line_end.result ≡ c.args.start + length (line_at (drop c.args.start t))) c.as_bytes-bytes.ensures.value c.line_end.ensures.end in
    let over : length (line_at (drop c.line_end.result c.args.text.now)) ≡ 0 = ap (λ (k : ℕ). length (line_at (drop k c.args.text.now))) end ∙ ap (λ (t : List ℕ). length t) (line_over c.args.text.now c.args.start) in
    omega (arith, end, over)

pub returns-clause-boundary : goal.returns-clause-boundary
returns-clause-boundary c =
    let end : c.line_end.result ≡ c.args.start + length (line_at (drop c.args.start c.args.text.now)) = subst (λ (t : List ℕ). c.line_end.result ≡ c.args.start + length (line_at (drop c.args.start t))) c.as_bytes-bytes.ensures.value c.line_end.ensures.end in
    line_boundary c.args.text.now c.args.start c.line_end.result c.requires.within end
