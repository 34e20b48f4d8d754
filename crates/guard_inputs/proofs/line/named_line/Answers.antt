use Rattle.std.proofs.Common.{◌≡◌, ◌∙◌, ◌++◌, ℕ, List, ap, append_assoc, codes, decimal, refl, string_bytes, subst}
use Rattle.doc_values.specs.Position.{line_at, column_at}
use Rattle.guard_ends.specs.Lines.{file_word, kind_word}
use Rattle.guard_inputs.proofs.line.named_line.Goals as goal

-- the parts of the line, one behind the other
spelled : (a b c d e f g kind space name last : List ℕ)
    → (((a ++ b ++ c ++ d ++ e ++ f ++ g ++ kind) ++ space) ++ name) ++ last ≡ a ++ b ++ c ++ d ++ e ++ f ++ g ++ (kind ++ (space ++ name)) ++ last
spelled a b c d e f g kind space name last = simp append_assoc refl

pub returns : goal.returns
returns c =
    let name = c.args.name.now.text in
    let at = c.args.name.now.at in
    let begun : c.line_start-start.result.bytes ≡ codes "guard: " ++ file_word c.args.which ++ codes " " ++ decimal (line_at c.args.bytes.now at) ++ codes ":"
    ++ decimal (column_at c.args.bytes.now at) ++ codes ": " ++ kind_word c.args.kind =
    subst (λ (n : ℕ). c.line_start-start.result.bytes ≡ codes "guard: " ++ file_word c.args.which ++ codes " " ++ decimal (line_at c.args.bytes.now n) ++ codes ":"
    ++ decimal (column_at c.args.bytes.now n) ++ codes ": " ++ kind_word c.args.kind) c.at.ensures c.line_start-start.ensures.start in
    let first : string_bytes c.in_ok-line.line ≡ c.line_start-start.result.bytes = c.in_ok-line.ensures.ok ∙ c.as_str.ensures.value in
    let second : string_bytes c.push_str.new.self ≡ string_bytes c.in_ok-line.line ++ codes " " = c.in_ok-push_str.ensures.bytes in
    let third : string_bytes c.push_str-2.new.self ≡ string_bytes c.push_str.new.self ++ name = c.in_ok-push_str-2.ensures.bytes ∙ ap (λ (b : List ℕ). string_bytes c.push_str.new.self ++ b) c.as_str-2.ensures in
    let last : string_bytes c.push_str-3.new.self ≡ string_bytes c.push_str-2.new.self ++ codes "\n" = c.in_ok-push_str-3.ensures.bytes in
    last
    ∙ ap (λ (b : List ℕ). b ++ codes "\n")
    (third ∙ ap (λ (b : List ℕ). b ++ name) (second ∙ ap (λ (b : List ℕ). b ++ codes " ") (first ∙ begun)))
    ∙ spelled (codes "guard: ") (file_word c.args.which) (codes " ") (decimal (line_at c.args.bytes.now at)) (codes ":")
    (decimal (column_at c.args.bytes.now at)) (codes ": ") (kind_word c.args.kind) (codes " ") name (codes "\n")
