use Rattle.std.proofs.Common.{◌≡◌, ◌++◌, List, ℕ, true, false, ap, sym, subst, ◌∙◌, true≢false}
use Rattle.std.specs.List.{flat_map}
use Rattle.std.specs.Str.{IsUtf8}
use Rattle.report_text.specs.Paths.{key_byte}
use Rattle.guard_testfile.proofs.KeyTexts.{key-text}
use Rattle.guard_testfile.proofs.read.spelled.Goals as goal

pub unreachable-requires : goal.unreachable-requires
unreachable-requires c =
    let key : List ℕ = c.args.key.now in
    let spelled : c.push_key_text.new.line.items ≡ flat_map key_byte key =
    c.in_ok-push_key_text.ensures ∙ ap (λ (t : List ℕ). t ++ flat_map key_byte key) c.new-bytes.ensures.items in
    let bad : false ≡ true = c.in-Err.ensures.succeeds (subst IsUtf8 (sym spelled) (key-text key c.utf8.key)) in
    true≢false (sym bad)
