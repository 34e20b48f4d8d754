-- The tokens of the rules of a drill spell their syntax: by reading it.
use Rattle.std.proofs.Common.{◌≡◌, ◌≤◌, ℕ, zero, suc, pred, Bool, true, false, [], ◌∷◌, None, length, arith, refl}
use Rattle.std.specs.Prelude.{if◌then◌else◌}
use Rattle.guard_syntax.specs.Syntax.{no_disjs, no_lets, more_lets}
use Rattle.literal_parser.specs.Lexemes.{Lexeme, keyword_of, lexemes}
use Rattle.literal_parser.specs.Forms.{form, is_closing, is_opening}
use Rattle.literal_parser.specs.code.Parser.{Read, note_range, opens, takes, has, choose, choose_pair, choose_next, choose_third}
use Rattle.literal_parser.specs.code.LiteralReading.{bounds, range, bounded, list, map_of, node, more_items, items_of, valued, entry, more_entries, entries_of, literal_of}
use Rattle.literal_parser.specs.Brackets.{open_before}
use Rattle.guard_parser.specs.File.{IsShallow, Rules}
use Rattle.part_parser.specs.code.Reading.{named_bar, capture, note, neg, worded, operator, keys_operator, dotted, keyed, filtered, bracketed, step, steps, start_step, query_of, tree_expr, applied, asked_expr, named_expr, expr_of, found_expr, value_of, more_exprs_of, exprs_of, right, tested, called, referred, ruled, judged, headed, led_by_name, cond_of, cond_part, ors, disj_of, disjs, conds_of, opt_conds, guarded_part, kinds_part, full_part, let_of, body_items, body_end, body_of}
use Rattle.guard_parser.specs.code.FileReading.{names, params, head, rule_of, file_items, contents, whole_file}
use Rattle.guard_parser.proofs.Laws.{read_is, reading}
use Rattle.guard_ends.specs.Drill.{drill_rules}
use Rattle.guard_laws.proofs.DrillRules.{all-let, drill-file, drill-places, drill-tokens, every-rule, low-rule, odd-rule}

-- ---- no brackets are too deep: there are fewer than 128 tokens

behind-most : (opening closing : Bool) (count i : ℕ) → count ≤ i → (if opening then suc count else (if closing then pred count else count)) ≤ suc i
behind-most true closing count i few = omega (arith, few)
behind-most false true zero i few = omega arith
behind-most false true (suc count) i few = omega (arith, few)
behind-most false false count i few = omega (arith, few)

before-most : (s : ℕ → Lexeme) (i : ℕ) → open_before s i ≤ i
before-most s zero = omega arith
before-most s (suc i) = behind-most (is_opening (form (s i))) (is_closing (form (s i))) (open_before s i) i (before-most s i)

few-tokens : length drill-tokens ≡ 57
few-tokens = refl

shallow : IsShallow drill_rules drill-tokens
shallow i within opens-one = let most = before-most (lexemes drill_rules drill-tokens) i in omega (arith, within, few-tokens, most)

-- ---- reading, with lists of at most seven items

rules-read : reading (lexemes drill_rules drill-tokens) 8 4
    ≡ Read (more_lets all-let no_lets, low-rule ∷ every-rule ∷ odd-rule ∷ [], no_disjs) (record { at = 57; places = drill-places; mixed = None }) 57
unfolding keyword_of opens takes has choose choose_pair choose_next choose_third note_range bounds range bounded list map_of node more_items items_of valued entry more_entries entries_of literal_of named_bar capture note neg worded operator keys_operator names params dotted keyed filtered bracketed step steps start_step query_of tree_expr applied asked_expr named_expr expr_of found_expr value_of more_exprs_of exprs_of right tested called referred ruled judged headed led_by_name cond_of cond_part ors disj_of disjs conds_of opt_conds guarded_part kinds_part full_part let_of body_items body_end body_of head rule_of file_items contents whole_file
rules-read = refl

pub rules-syntax : Rules drill_rules drill-tokens drill-file
rules-syntax = (
  shallow,
  read_is drill_rules drill-tokens 8 4 (more_lets all-let no_lets, low-rule ∷ every-rule ∷ odd-rule ∷ [], no_disjs)
      (record { at = 57; places = drill-places; mixed = None }) 57 rules-read,
)
