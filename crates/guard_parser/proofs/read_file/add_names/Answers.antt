use Rattle.std.proofs.Common.{ℕ, [], ◌-◌, refl, ap, ◌∙◌}
use Rattle.guard_syntax.specs.Named.{Named}
use Rattle.literal_parser.specs.Forms.{is_comma, is_name, is_rparen, named_of}
use Rattle.literal_parser.specs.code.Parser.{One, Read, Fail, takes, has}
use Rattle.literal_parser.specs.code.Reads.{source, state_of}
use Rattle.guard_parser.specs.code.FileReading.{names}
use Rattle.guard_parser.specs.code.FileReads.{put, names_at, closed_names, closed_names_at}
use Rattle.part_parser.proofs.CodeSteps.{then_read, then_fail, saw, handed, halted_by, halted_adding, taken, closed_by, both, some_of, list_opened, item_failed, turns_spent, went_on}
use Rattle.guard_parser.proofs.Turns.{put_all}
use Rattle.guard_parser.proofs.read_file.add_names.Goals as goal

pub items-init : goal.items-init
items-init c =
    list_opened put (closed_names c.args.tokens) c.args.found.now.items (some_of put (has (source c.args.tokens) is_name named_of) (λ (k : ℕ). names_at c.args.tokens k) c.args.tokens.turns (state_of c.args.cursor.now) c.args.cursor.now.seen) (closed_names_at c.args.tokens (state_of c.args.cursor.now) c.args.cursor.now.seen) (both (names_at c.args.tokens c.args.tokens.turns) put (closed_names c.args.tokens) (has (source c.args.tokens) is_name named_of (state_of c.args.cursor.now) c.args.cursor.now.seen)) c.requires.none

pub items-preserved : goal.items-preserved
unfolding names
items-preserved c =
    let got = taken (λ (x : Named). x) ((has (source c.args.tokens) is_name named_of) (state_of c.items.cursor) c.items.cursor.seen) c.has_name.result _ _ c.has_name.new.self c.has_name.ensures c.in_ok-add.ensures in
    went_on put (closed_names c.args.tokens) c.items.found.items (has (source c.args.tokens) is_name named_of) (λ (k : ℕ). names_at c.args.tokens k) c.items.left (closed_names_at c.args.tokens (state_of c.args.cursor.now) c.args.cursor.now.seen) (state_of c.items.cursor) c.items.cursor.seen c.items.invariant
    got.0 c.add.new.found.items (state_of c.has_name.new.self) c.has_name.new.self.seen got.1 got.2 c.if-left-eq0.false (some_of put (has (source c.args.tokens) is_name named_of) (λ (k : ℕ). names_at c.args.tokens k) (c.items.left - 1) (state_of c.takes-in-items.new.self) c.takes-in-items.new.self.seen)
    (saw (source c.args.tokens) is_comma _ _ (state_of c.has_name.new.self) c.has_name.new.self.seen c.sees.ensures.token c.if-not-sees.false c.sees.ensures.state c.sees.ensures.seen (then_read _ c.in_ok-takes.ensures refl))

pub returns-then-left-eq0 : goal.returns-then-left-eq0
unfolding names
returns-then-left-eq0 c =
    let got = taken (λ (x : Named). x) ((has (source c.args.tokens) is_name named_of) (state_of c.items.cursor) c.items.cursor.seen) c.has_name.result _ _ c.has_name.new.self c.has_name.ensures c.in_ok-add.ensures in
    turns_spent put (closed_names c.args.tokens) c.items.found.items (has (source c.args.tokens) is_name named_of) (λ (k : ℕ). names_at c.args.tokens k) c.items.left (closed_names_at c.args.tokens (state_of c.args.cursor.now) c.args.cursor.now.seen) (state_of c.items.cursor) c.items.cursor.seen c.items.invariant
    got.0 c.add.new.found.items (state_of c.has_name.new.self) c.has_name.new.self.seen got.1 got.2 c.if-left-eq0.true refl

pub returns-then-not-sees : goal.returns-then-not-sees
unfolding names
returns-then-not-sees c =
    let got = taken (λ (x : Named). x) ((has (source c.args.tokens) is_name named_of) (state_of c.items.cursor) c.items.cursor.seen) c.has_name.result _ _ c.has_name.new.self c.has_name.ensures c.in_ok-add.ensures in
    handed (λ _. c.add.new.found.items) (closed_names_at c.args.tokens (state_of c.args.cursor.now) c.args.cursor.now.seen) ((closed_names c.args.tokens) (c.add.new.found.items) (state_of c.sees.new.self) c.sees.new.self.seen) c.takes.result c.takes.new.self
    (went_on put (closed_names c.args.tokens) c.items.found.items (has (source c.args.tokens) is_name named_of) (λ (k : ℕ). names_at c.args.tokens k) c.items.left (closed_names_at c.args.tokens (state_of c.args.cursor.now) c.args.cursor.now.seen) (state_of c.items.cursor) c.items.cursor.seen c.items.invariant
    got.0 c.add.new.found.items (state_of c.has_name.new.self) c.has_name.new.self.seen got.1 got.2 c.if-left-eq0.false (Read [] (state_of c.sees.new.self) c.sees.new.self.seen)
    (saw (source c.args.tokens) is_comma _ _ (state_of c.has_name.new.self) c.has_name.new.self.seen c.sees.ensures.token c.if-not-sees.true c.sees.ensures.state c.sees.ensures.seen refl) ∙ ap (λ xs. closed_names c.args.tokens xs (state_of c.sees.new.self) c.sees.new.self.seen) (put_all c.add.new.found.items))
    (closed_by (c.add.new.found.items) (takes (source c.args.tokens) is_rparen (state_of c.sees.new.self) c.sees.new.self.seen) c.takes.result c.takes.new.self c.takes.ensures)

pub returns-in_err-add : goal.returns-in_err-add
returns-in_err-add c =
    halted_adding (λ (x : Named). x) (λ _. c.add.new.found.items) ((has (source c.args.tokens) is_name named_of) (state_of c.items.cursor) c.items.cursor.seen)
    (closed_names_at c.args.tokens (state_of c.args.cursor.now) c.args.cursor.now.seen) c.has_name.result _ _ c.from_residual.result c.in_err-add.field-0.0 c.has_name.new.self c.has_name.new.self c.from_residual.ensures.1
    (λ k e. item_failed put (closed_names c.args.tokens) c.items.found.items (has (source c.args.tokens) is_name named_of) (λ (k : ℕ). names_at c.args.tokens k) c.items.left (closed_names_at c.args.tokens (state_of c.args.cursor.now) c.args.cursor.now.seen) (state_of c.items.cursor) c.items.cursor.seen c.items.invariant k e) c.has_name.ensures c.in_err-add.ensures

pub returns-in_err-takes : goal.returns-in_err-takes
unfolding names
returns-in_err-takes c =
    let got = taken (λ (x : Named). x) ((has (source c.args.tokens) is_name named_of) (state_of c.items.cursor) c.items.cursor.seen) c.has_name.result _ _ c.has_name.new.self c.has_name.ensures c.in_ok-add.ensures in
    halted_by (λ (x : One). x) (λ _. c.add.new.found.items) (takes (source c.args.tokens) is_comma (state_of c.sees.new.self) c.sees.new.self.seen)
    (closed_names_at c.args.tokens (state_of c.args.cursor.now) c.args.cursor.now.seen) c.from_residual-in_err-takes.result c.in_err-takes.field-0.0 c.takes-in-items.new.self c.takes-in-items.new.self c.from_residual-in_err-takes.ensures.1
    (λ k e. went_on put (closed_names c.args.tokens) c.items.found.items (has (source c.args.tokens) is_name named_of) (λ (k : ℕ). names_at c.args.tokens k) c.items.left (closed_names_at c.args.tokens (state_of c.args.cursor.now) c.args.cursor.now.seen) (state_of c.items.cursor) c.items.cursor.seen c.items.invariant
    got.0 c.add.new.found.items (state_of c.has_name.new.self) c.has_name.new.self.seen got.1 got.2 c.if-left-eq0.false (Fail k)
    (saw (source c.args.tokens) is_comma _ _ (state_of c.has_name.new.self) c.has_name.new.self.seen c.sees.ensures.token c.if-not-sees.false c.sees.ensures.state c.sees.ensures.seen (then_fail _ e))) c.in_err-takes.ensures
