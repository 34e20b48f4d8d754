-- What was read of a file before, in front of one item more.
use Rattle.std.proofs.Common.{◌≡◌, ℕ, ◌-◌, List, [], ◌∷◌, ◌++◌, refl, ap, sym, ◌∙◌, append_assoc}
use Rattle.guard_syntax.specs.Syntax as sx
use Rattle.guard_syntax.specs.code.Seen.{prepend}
use Rattle.guard_syntax.specs.Named.{Named}
use Rattle.literal_parser.specs.States.{State}
use Rattle.literal_parser.specs.code.Parser.{Outcome, Read, Fail, Parser, and_then, pure}
use Rattle.guard_parser.specs.code.FileReading as spec
use Rattle.part_parser.proofs.CodeSteps.{prepend-push, no_turns}
use Rattle.guard_parser.specs.code.FileReads.{put, before_items}

pub put_all : (names : List Named) → prepend put names [] ≡ names
put_all [] = refl
put_all (name ∷ names) = ap (λ l. name ∷ l) (put_all names)

no_items : (o : Outcome spec.FileItems) → before_items [] [] [] o ≡ o
no_items (Read x st seen) = refl
no_items (Fail k) = refl

-- nothing was read before the first turn
pub file_begun : (ls : List sx.Let) (rs : List sx.Rule) (ds : List sx.Disj) (list : ℕ → Parser spec.FileItems) (turns : ℕ) (st : State) (seen : ℕ) → ls ≡ [] → rs ≡ [] → ds ≡ []
    → before_items ls rs ds (list (turns - 0) st seen) ≡ list turns st seen
file_begun ls rs ds list turns st seen no_lets no_rules no_parts =
    ap (λ (k : ℕ). before_items ls rs ds (list k st seen)) (sym (no_turns turns)) ∙ ap (λ xs. before_items xs rs ds (list turns st seen)) no_lets ∙ ap (λ xs. before_items [] xs ds (list turns st seen)) no_rules
    ∙ ap (λ xs. before_items [] [] xs (list turns st seen)) no_parts ∙ no_items (list turns st seen)

pub let_turn : (ls : List sx.Let) (rs : List sx.Rule) (ds : List sx.Disj) (l : sx.Let) (o : Outcome spec.FileItems)
    → before_items ls rs ds (and_then o (λ x. pure (sx.more_lets l x.0, x.1, x.2))) ≡ before_items (ls ++ l ∷ []) rs ds o
let_turn ls rs ds l (Read x st seen) = ap (λ (z : sx.Lets). Read (z, rs ++ x.1, prepend sx.more_disjs ds x.2) st seen) (sym (prepend-push sx.more_lets ls l x.0))
let_turn ls rs ds l (Fail k) = refl

pub rule_turn : (ls : List sx.Let) (rs : List sx.Rule) (ds : List sx.Disj) (r : sx.Rule) (o : Outcome spec.FileItems)
    → before_items ls rs ds (and_then o (λ x. pure (x.0, r ∷ x.1, x.2))) ≡ before_items ls (rs ++ r ∷ []) ds o
rule_turn ls rs ds r (Read x st seen) = ap (λ (z : List sx.Rule). Read (prepend sx.more_lets ls x.0, z, prepend sx.more_disjs ds x.2) st seen) (sym (append_assoc rs (r ∷ []) x.1))
rule_turn ls rs ds r (Fail k) = refl

pub part_turn : (ls : List sx.Let) (rs : List sx.Rule) (ds : List sx.Disj) (d : sx.Disj) (o : Outcome spec.FileItems)
    → before_items ls rs ds (and_then o (λ x. pure (x.0, x.1, sx.more_disjs d x.2))) ≡ before_items ls rs (ds ++ d ∷ []) o
part_turn ls rs ds d (Read x st seen) = ap (λ (z : sx.Disjs). Read (prepend sx.more_lets ls x.0, rs ++ x.1, z) st seen) (sym (prepend-push sx.more_disjs ds d x.2))
part_turn ls rs ds d (Fail k) = refl
