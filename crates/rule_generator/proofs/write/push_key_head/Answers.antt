use Rattle.std.proofs.Common.{ℕ, List, ◌++◌, codes, decimal, string_bytes, ap, ◌∙◌}
use Rattle.rule_generator.proofs.Written.{five, written-last}
use Rattle.rule_generator.proofs.write.push_key_head.Goals as goal
use Rattle.rule_spelling.specs.Spelling.{quoted}

pub returns : goal.returns
returns c =
    let out : List ℕ = string_bytes c.args.out.now in
    let number : List ℕ = decimal c.args.number in
    let key : List ℕ = quoted c.args.key.now in
    written-last c.push_str-3.result (string_bytes c.push_str-3.new.self) (string_bytes c.push_quoted.new.out) (codes " IN [")
    (out ++ ((((codes "  %t" ++ number) ++ codes ".Properties.") ++ key) ++ codes " IN ["))
    c.push_str-3.ensures.bytes
    (ap (λ (t : List ℕ). t ++ codes " IN [")
    (c.in_ok-push_quoted.ensures
    ∙ ap (λ (t : List ℕ). t ++ key) (c.in_ok-push_str-2.ensures.bytes
    ∙ ap (λ (t : List ℕ). t ++ codes ".Properties.") (c.in_ok-push_count.ensures
    ∙ ap (λ (t : List ℕ). t ++ number) c.in_ok-push_str.ensures.bytes)))
    ∙ five out (codes "  %t") number (codes ".Properties.") key (codes " IN ["))
