use Rattle.std.proofs.Common.{◌++◌, ◌≡◌, string_bytes, OnOk, ℕ, ◌%◌, List, subst}
use Rattle.std.specs.Prelude.{codes, decimal}
use Rattle.guard_drill.proofs.template.push_resource.Goals as goal

pub returns : goal.returns
returns c =
    subst (λ (letter : List ℕ). OnOk c.write.result (string_bytes c.write.new.self ≡ string_bytes c.args.text.now
    ++ (codes "\"R" ++ (decimal c.args.number ++ (codes "\":{\"Type\":\"T::" ++ (letter ++ (codes "\",\"Properties\":{\"N\":" ++ (decimal (c.args.number % 7) ++ codes "}}"))))))))
    c.type_letter-letter.ensures c.write.ensures.bytes
