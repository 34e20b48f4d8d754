-- The canonical text of a file is read as the file: its items, in the order in which the source has them.
use Rattle.std.proofs.Common.{◌≡◌, ℕ, ◌<◌, ◌≤◌, Bool, true, false, if◌then◌else◌, nat_lt, is_none, List, [], ◌∷◌, map, length, Option, Some, None, codes, refl, sym, ap, ◌∙◌, subst, true≢false, arith}
use Rattle.guard_syntax.specs.Syntax.{Lets, Let, Disjs, Disj, Rule, File, no_lets, more_lets, assign, no_disjs, more_disjs, disj, no_parts, more_parts}
use Rattle.guard_syntax.specs.Sites.{sites_lets, sites_disjs}
use Rattle.literal_parser.specs.declared.keyword.Keyword.TheVariants as kw
use Rattle.literal_parser.specs.Lexemes.{Lexeme, Word, Reserved}
use Rattle.literal_parser.specs.Forms.{form, word_form, is_let, is_rule, is_or, begins_part}
use Rattle.literal_parser.specs.States.{State, start, opened}
use Rattle.literal_parser.proofs.Apart.{apart}
use Rattle.guard_parser.specs.Grammar.{Sort, ALet, ARule, APart, is_sort, of_sort, file_sort, part_sort, InRow, AreLets, AreRules, AreDisjs, IsLet, IsRule, IsDisj, IsContents}
use Rattle.guard_parser.specs.Grammar as grammar
use Rattle.guard_parser.specs.File.{IsSpelledBy}
use Rattle.guard_parser.proofs.Merging.{HeadFrom}
use Rattle.rule_spelling.specs.code.Pieces.{Piece}
use Rattle.rule_printer.specs.RuleText.{merged, before_each}
use Rattle.rule_printer.specs.code.RulePieces.{Spell, new_line, in_a_row, let_item, let_items, disj_item, disj_items, more_parts_pieces, part_pieces, rule_item, rule_items, rule_pieces}
use Rattle.printer_laws.specs.code.Unplaced.{unplaced_lets, unplaced_let, unplaced_disjs, unplaced_disj, unplaced_rule, unplaced}
use Rattle.printer_laws.specs.code.Shown.{IsReadBack, IsLevel, IsQuiet, Shows}
use Rattle.printer_laws.proofs.Showing.{level_same, shown_form}
use Rattle.printer_laws.proofs.WordsShown.{let_word, rule_word}
use Rattle.printer_laws.proofs.StartsShown.{site_told}
use Rattle.printer_laws.proofs.QuietShown.{EndsParts, quiet_word}
use Rattle.printer_laws.proofs.ConditionsShown.{join}
use Rattle.printer_laws.proofs.RowsShown.{Above, Under, first_let, first_part, not_below, below, above_disjs, under_lets, let_grows, disj_grows, disj_site}
use Rattle.printer_laws.proofs.PartsShown.{let_told, let_begins, disj_begins, part_begins}
use Rattle.printer_laws.proofs.BodiesShown.{ItemsTold, disj_items_told}
use Rattle.printer_laws.proofs.RulesShown.{rule_told, rule_grows}

-- ---- the first of the items

abbrev RulesFrom : ℕ → List Rule → Type 0
RulesFrom m [] = Unit {0}
RulesFrom m (r ∷ rs) = m ≤ r.site

lower : (m k : ℕ) (l : List ℕ) → k ≤ m → HeadFrom m l → HeadFrom k l
lower m k [] e h = tt
lower m k (x ∷ xs) e h = omega arith

lower_rules : (m k : ℕ) (rs : List Rule) → k ≤ m → RulesFrom m rs → RulesFrom k rs
lower_rules m k [] e h = tt
lower_rules m k (r ∷ rs) e h = omega arith

above_rules : (rs : List Rule) (n m : ℕ) → n < m → RulesFrom m rs → Above n (rule_items rs)
above_rules [] n m e h = tt
above_rules (r ∷ rs) n m e h = not_below n r.site (omega arith)

under_rules : (rs : List Rule) (n m : ℕ) → n < m → RulesFrom m rs → Under n (rule_items rs)
under_rules [] n m e h = tt
under_rules (r ∷ rs) n m e h = below r.site n (omega arith)

above_either : (n : ℕ) (v : Bool) (x y : ℕ × Spell) (xs ys : List (ℕ × Spell)) → nat_lt x.0 n ≡ false → nat_lt y.0 n ≡ false → Above n (if v then y ∷ ys else x ∷ xs)
above_either n true x y xs ys p q = q
above_either n false x y xs ys p q = p

above_merged : (n : ℕ) (xs ys : List (ℕ × Spell)) → Above n xs → Above n ys → Above n (merged xs ys)
above_merged n [] ys p q = q
above_merged n (x ∷ xs) [] p q = p
above_merged n (x ∷ xs) (y ∷ ys) p q = above_either n (nat_lt y.0 x.0) x y (merged xs (y ∷ ys)) (before_each x (merged xs) ys) p q

-- the sites of what is left are not below a number
record Heads (m : ℕ) (ls : Lets) (rs : List Rule) (ds : Disjs) : Type 0 where
  lets : HeadFrom m (sites_lets ls)
  rules : RulesFrom m rs
  parts : HeadFrom m (sites_disjs ds)

module _ (s : ℕ → Lexeme) where
  abbrev HeadsOf : List grammar.Piece → ℕ → Type 0
  HeadsOf ps m = (ls : Lets) (rs : List Rule) (ds : Disjs) → AreLets s ls (of_sort ALet ps) → AreRules s rs (of_sort ARule ps) → AreDisjs s ds (of_sort APart ps) → Heads m ls rs ds

  head_step : (k : Sort) (p : grammar.Piece) (ps : List grammar.Piece) (ls : Lets) (rs : List Rule) (ds : Disjs) → HeadsOf ps (length p.to.places) → AreLets s ls (if is_sort ALet k then p ∷ of_sort ALet ps else of_sort ALet ps)
      → AreRules s rs (if is_sort ARule k then p ∷ of_sort ARule ps else of_sort ARule ps) → AreDisjs s ds (if is_sort APart k then p ∷ of_sort APart ps else of_sort APart ps) → Heads (length p.from.places) ls rs ds
  head_step ALet p ps no_lets rs ds others l r d = absurd l
  head_step ALet p ps (more_lets (assign n own e) ls) rs ds others l r d =
      let more = others ls rs ds l.1 r d in
      let grows = let_grows s (assign n own e) p l.0 in
      let site : n ≡ length p.from.places = l.0.1.0 in
      record { lets = omega arith; rules = lower_rules _ _ rs (omega arith) more.rules; parts = lower _ _ (sites_disjs ds) (omega arith) more.parts }
  head_step ARule p ps ls [] ds others l r d = absurd r
  head_step ARule p ps ls (x ∷ rs) ds others l r d =
      let more = others ls rs ds l r.1 d in
      let grows = rule_grows s x p r.0 in
      let site : x.site ≡ length p.from.places = r.0.1.0 in
      record { lets = lower _ _ (sites_lets ls) (omega arith) more.lets; rules = omega arith; parts = lower _ _ (sites_disjs ds) (omega arith) more.parts }
  head_step APart p ps ls rs no_disjs others l r d = absurd d
  head_step APart p ps ls rs (more_disjs (disj n xs) ds) others l r d =
      let more = others ls rs ds l r d.1 in
      let grows = disj_grows s (disj n xs) p d.0 in
      let site = disj_site s n xs p.from p.to d.0 in
      record { lets = lower _ _ (sites_lets ls) (omega arith) more.lets; rules = lower_rules _ _ rs (omega arith) more.rules; parts = omega arith }

  heads : (ps : List grammar.Piece) (a b : State) → InRow s file_sort ps a b → HeadsOf ps (length a.places)
  heads [] a b row no_lets [] no_disjs l r d = record { lets = tt; rules = tt; parts = tt }
  heads [] a b row (more_lets x ls) rs ds l r d = absurd l
  heads [] a b row no_lets (x ∷ rs) ds l r d = absurd r
  heads [] a b row no_lets [] (more_disjs x ds) l r d = absurd d
  heads (p ∷ ps) a b row ls rs ds l r d = subst (λ (x : State). Heads (length x.places) ls rs ds) row.1 (head_step p.sort p ps ls rs ds (heads ps p.to b row.2) l r d)

abbrev items_of : Lets → List Rule → Disjs → List (ℕ × Spell)
items_of ls rs ds = merged (let_items ls) (merged (rule_items rs) (disj_items [] ds))

module _ (s : ℕ → Lexeme) (p : grammar.Piece) (ps : List grammar.Piece) (b : State) (ls : Lets) (rs : List Rule) (ds : Disjs) (row : InRow s file_sort ps p.to b) (l : AreLets s ls (of_sort ALet ps)) (r : AreRules s rs (of_sort ARule ps)) (d : AreDisjs s ds (of_sort APart ps)) where
  let_first : (x : Let) → IsLet s x p.from p.to → items_of (more_lets x ls) rs ds ≡ let_item x ∷ items_of ls rs ds
  let_first (assign n own e) h =
      let head = heads s ps p.to b row ls rs ds l r d in
      let grows = let_grows s (assign n own e) p h in
      let site : n ≡ length p.from.places = h.1.0 in
      first_let (let_item (assign n own e)) (let_items ls) (merged (rule_items rs) (disj_items [] ds))
      (above_merged n (rule_items rs) (disj_items [] ds) (above_rules rs n (length p.to.places) (omega arith) head.rules) (above_disjs [] ds n (length p.to.places) (omega arith) head.parts))

  rule_first : (x : Rule) → IsRule s x p.from p.to → items_of ls (x ∷ rs) ds ≡ rule_item x ∷ items_of ls rs ds
  rule_first x h =
      let head = heads s ps p.to b row ls rs ds l r d in
      let grows = rule_grows s x p h in
      let site : x.site ≡ length p.from.places = h.1.0 in
      ap (λ (ys : List (ℕ × Spell)). merged (let_items ls) ys) (first_let (rule_item x) (rule_items rs) (disj_items [] ds) (above_disjs [] ds x.site (length p.to.places) (omega arith) head.parts))
      ∙ first_part (let_items ls) (rule_item x) (merged (rule_items rs) (disj_items [] ds)) (under_lets ls x.site (length p.to.places) (omega arith) head.lets)

  part_first : (x : Disj) → IsDisj s true x p.from p.to → items_of ls rs (more_disjs x ds) ≡ disj_item [] x ∷ items_of ls rs ds
  part_first (disj n xs) h =
      let head = heads s ps p.to b row ls rs ds l r d in
      let grows = disj_grows s (disj n xs) p h in
      let site = disj_site s n xs p.from p.to h in
      ap (λ (ys : List (ℕ × Spell)). merged (let_items ls) ys) (first_part (rule_items rs) (disj_item [] (disj n xs)) (disj_items [] ds) (under_rules rs n (length p.to.places) (omega arith) head.rules))
      ∙ first_part (let_items ls) (disj_item [] (disj n xs)) (merged (rule_items rs) (disj_items [] ds)) (under_lets ls n (length p.to.places) (omega arith) head.lets)

module _ (s t : ℕ → Lexeme) (reads : (i : ℕ) → IsReadBack (s i).word) where
  -- ---- what stands behind an item

  abbrev AllBegin : List (ℕ × Spell) → Type 0
  AllBegin [] = Unit {0}
  AllBegin (x ∷ xs) = ((gap : List ℕ) (ps : List Piece) → EndsParts s reads true (x.1 gap ps)) × AllBegin xs

  begin_either : (v : Bool) (x y : ℕ × Spell) (xs ys : List (ℕ × Spell)) → AllBegin (y ∷ ys) → AllBegin (x ∷ xs) → AllBegin (if v then y ∷ ys else x ∷ xs)
  begin_either true x y xs ys p q = p
  begin_either false x y xs ys p q = q

  before_begin : (x : ℕ × Spell) (others : List (ℕ × Spell) → List (ℕ × Spell)) (ys : List (ℕ × Spell)) → ((gap : List ℕ) (ps : List Piece) → EndsParts s reads true (x.1 gap ps)) → AllBegin ys → ((zs : List (ℕ × Spell)) → AllBegin zs → AllBegin (others zs))
      → AllBegin (before_each x others ys)
  before_begin x others [] own h rest = (own, rest [] tt)
  before_begin x others (y ∷ ys) own h rest = begin_either (nat_lt y.0 x.0) x y (others (y ∷ ys)) (before_each x others ys) (h.0, before_begin x others ys own h.1 rest) (own, rest (y ∷ ys) h)

  merged_begin : (xs ys : List (ℕ × Spell)) → AllBegin xs → AllBegin ys → AllBegin (merged xs ys)
  merged_begin [] ys p q = q
  merged_begin (x ∷ xs) ys p q = before_begin x (merged xs) ys p.0 q (λ zs h. merged_begin xs zs p.1 h)

  lets_begin : (ls : Lets) → AllBegin (let_items ls)
  lets_begin no_lets = tt
  lets_begin (more_lets l ls) = (λ gap ps. let_begins s t reads l gap ps, lets_begin ls)

  rules_begin : (rs : List Rule) → AllBegin (rule_items rs)
  rules_begin [] = tt
  rules_begin (r ∷ rs) = let e = ap word_form rule_word in (λ gap ps. (quiet_word true _ _ (Reserved kw.Rule (codes "rule")) e refl refl, ap is_or e), rules_begin rs)

  parts_begin : (ds : Disjs) (ps : List grammar.Piece) → AreDisjs s ds ps → AllBegin (disj_items [] ds)
  parts_begin no_disjs ps h = tt
  parts_begin (more_disjs d ds) [] h = absurd h
  parts_begin (more_disjs d ds) (p ∷ ps) h = (λ gap qs. let x = disj_begins s t reads [] d gap p.from p.to qs h.0 in (x.0, x.1), parts_begin ds ps h.1)

  end_quiet : (v z : ℕ) → v ≡ 0 → IsQuiet true v z
  end_quiet v z e = subst (λ (n : ℕ). IsQuiet true n z) (sym e) (record { step = refl; paren = refl; note = refl; bar = refl; led = refl })

  row_begins : (g1 g : List ℕ) (items : List (ℕ × Spell)) → AllBegin items → EndsParts s reads true (in_a_row g1 g items [])
  row_begins g1 g [] h = (end_quiet 0 0 refl, refl)
  row_begins g1 g (x ∷ xs) h = h.0 g1 (in_a_row g g xs [])

  behind_item : (g : List ℕ) (ls : Lets) (rs : List Rule) (ds : Disjs) (ps : List grammar.Piece) → AreDisjs s ds ps → EndsParts s reads true (in_a_row g g (items_of ls rs ds) [])
  behind_item g ls rs ds ps h = row_begins g g (items_of ls rs ds) (merged_begin (let_items ls) (merged (rule_items rs) (disj_items [] ds)) (lets_begin ls) (merged_begin (rule_items rs) (disj_items [] ds) (rules_begin rs) (parts_begin ds ps h)))

  -- ---- the items in a row

  record RowTold (ls : Lets) (rs : List Rule) (ds : Disjs) (behind from : State) : Type 0 where
    lets : Lets
    rules : List Rule
    parts : Disjs
    row : List grammar.Piece
    same_lets : unplaced_lets lets ≡ unplaced_lets ls
    same_rules : map unplaced_rule rules ≡ map unplaced_rule rs
    same_parts : unplaced_disjs parts ≡ unplaced_disjs ds
    to : State
    in_row : InRow t file_sort row from to
    are_lets : AreLets t lets (of_sort ALet row)
    are_rules : AreRules t rules (of_sort ARule row)
    are_parts : AreDisjs t parts (of_sort APart row)
    level : IsLevel behind to
    last : ℕ
    shown : Shows t to.at last []

  part_sort_of : (x : Lexeme) → begins_part (form x) ≡ true → file_sort (form x) ≡ Some APart
  part_sort_of x e =
      ap (λ (v : Bool). if v then Some ALet else (if is_rule (form x) then Some ARule else part_sort (form x))) (apart begins_part is_let x refl e)
      ∙ ap (λ (v : Bool). if v then Some ARule else part_sort (form x)) (apart begins_part is_rule x refl e) ∙ ap (λ (v : Bool). if v then Some APart else None) e

  abbrev RowsTold : List grammar.Piece → Type 0
  RowsTold ps = (g1 g : List ℕ) (ls : Lets) (rs : List Rule) (ds : Disjs) → ItemsTold s t reads [] ds → (a b from : State) (at : ℕ) → InRow s file_sort ps a b → AreLets s ls (of_sort ALet ps) → AreRules s rs (of_sort ARule ps) → AreDisjs s ds (of_sort APart ps)
      → Shows t from.at at (in_a_row g1 g (items_of ls rs ds) []) → IsLevel a from → RowTold ls rs ds b from

  row_step : (k : Sort) (p : grammar.Piece) (ps : List grammar.Piece) → RowsTold ps → (g1 g : List ℕ) (ls : Lets) (rs : List Rule) (ds : Disjs) → ItemsTold s t reads [] ds → (b from : State) (at : ℕ) → InRow s file_sort ps p.to b
      → AreLets s ls (if is_sort ALet k then p ∷ of_sort ALet ps else of_sort ALet ps) → AreRules s rs (if is_sort ARule k then p ∷ of_sort ARule ps else of_sort ARule ps) → AreDisjs s ds (if is_sort APart k then p ∷ of_sort APart ps else of_sort APart ps)
      → Shows t from.at at (in_a_row g1 g (items_of ls rs ds) []) → IsLevel p.from from → RowTold ls rs ds b from
  row_step ALet p ps others g1 g no_lets rs ds all b from at row l r d shows level = absurd l
  row_step ALet p ps others g1 g (more_lets (assign n own e) ls) rs ds all b from at row l r d shows level =
      let shown = subst (λ (xs : List (ℕ × Spell)). Shows t from.at at (in_a_row g1 g xs [])) (let_first s p ps b ls rs ds row l.1 r d (assign n own e) l.0) shows in
      let quiet = behind_item g ls rs ds (of_sort APart ps) d in
      let one = let_told s t reads (assign n own e) g1 p.from p.to from at (in_a_row g g (items_of ls rs ds) []) l.0 shown level quiet.0.step quiet.0.paren in
      let more = others g g ls rs ds all p.to b one.to one.last row l.1 r d one.shown one.level in
      record {
        lets = more_lets one.value more.lets;
        rules = more.rules;
        parts = more.parts;
        row = record { sort = ALet; from = from; to = one.to } ∷ more.row;
        same_lets = join more_lets (unplaced_let one.value) (unplaced_let (assign n own e)) (unplaced_lets more.lets) (unplaced_lets ls) one.same more.same_lets;
        same_rules = more.same_rules;
        same_parts = more.same_parts;
        to = more.to;
        in_row = (ap (λ (z : Word). file_sort (word_form z)) (shown.0 ∙ let_word), refl, more.in_row);
        are_lets = (one.spelled, more.are_lets);
        are_rules = more.are_rules;
        are_parts = more.are_parts;
        level = more.level;
        last = more.last;
        shown = more.shown;
      }
  row_step ARule p ps others g1 g ls [] ds all b from at row l r d shows level = absurd r
  row_step ARule p ps others g1 g ls (x ∷ rs) ds all b from at row l r d shows level =
      let shown = subst (λ (xs : List (ℕ × Spell)). Shows t from.at at (in_a_row g1 g xs [])) (rule_first s p ps b ls rs ds row l r.1 d x r.0) shows in
      let one = rule_told s t reads x g1 p.from p.to from at (in_a_row g g (items_of ls rs ds) []) r.0 shown level in
      let more = others g g ls rs ds all p.to b one.to one.last row l r.1 d one.shown one.level in
      record {
        lets = more.lets;
        rules = one.value ∷ more.rules;
        parts = more.parts;
        row = record { sort = ARule; from = from; to = one.to } ∷ more.row;
        same_lets = more.same_lets;
        same_rules = join (λ (x : Rule) (y : List Rule). x ∷ y) (unplaced_rule one.value) (unplaced_rule x) (map unplaced_rule more.rules) (map unplaced_rule rs) one.same more.same_rules;
        same_parts = more.same_parts;
        to = more.to;
        in_row = (ap (λ (z : Word). file_sort (word_form z)) (shown.0 ∙ rule_word), refl, more.in_row);
        are_lets = more.are_lets;
        are_rules = (one.spelled, more.are_rules);
        are_parts = more.are_parts;
        level = more.level;
        last = more.last;
        shown = more.shown;
      }
  row_step APart p ps others g1 g ls rs no_disjs all b from at row l r d shows level = absurd d
  row_step APart p ps others g1 g ls rs (more_disjs (disj n no_parts) ds) all b from at row l r d shows level = absurd d.0
  row_step APart p ps others g1 g ls rs (more_disjs (disj n (more_parts x xs)) ds) all b from at row l r d shows level =
      let behind = in_a_row g g (items_of ls rs ds) [] in
      let shown = subst (λ (ys : List (ℕ × Spell)). Shows t from.at at (in_a_row g1 g ys [])) (part_first s p ps b ls rs ds row l r d.1 (disj n (more_parts x xs)) d.0) shows in
      let one = all.0 g1 p.from p.to from at behind d.0 shown level (behind_item g ls rs ds (of_sort APart ps) d.1) in
      let begins = part_begins s t reads [] x g1 d.0.0 d.0.2.0 (more_parts_pieces [] xs behind) d.0.2.1 in
      let more = others g g ls rs ds all.1 p.to b one.to one.last row l r d.1 one.shown one.level in
      record {
        lets = more.lets;
        rules = more.rules;
        parts = more_disjs one.value more.parts;
        row = record { sort = APart; from = from; to = one.to } ∷ more.row;
        same_lets = more.same_lets;
        same_rules = more.same_rules;
        same_parts = join more_disjs (unplaced_disj one.value) (unplaced_disj (disj n (more_parts x xs))) (unplaced_disjs more.parts) (unplaced_disjs ds) one.same more.same_parts;
        to = more.to;
        in_row = (part_sort_of (t from.at) (ap begins_part (shown_form t from.at at (part_pieces [] g1 x (more_parts_pieces [] xs behind)) shown) ∙ begins.2), refl, more.in_row);
        are_lets = more.are_lets;
        are_rules = more.are_rules;
        are_parts = (one.spelled, more.are_parts);
        level = more.level;
        last = more.last;
        shown = more.shown;
      }

  row_told : (ps : List grammar.Piece) → RowsTold ps
  row_told [] g1 g no_lets [] no_disjs all a b from at row l r d shows level = record {
    lets = no_lets;
    rules = [];
    parts = no_disjs;
    row = [];
    same_lets = refl;
    same_rules = refl;
    same_parts = refl;
    to = from;
    in_row = (ap file_sort (shown_form t from.at at [] shows), refl);
    are_lets = tt;
    are_rules = tt;
    are_parts = tt;
    level = level_same a b from row.1 level;
    last = at;
    shown = shows;
  }
  row_told [] g1 g (more_lets x ls) rs ds all a b from at row l r d shows level = absurd l
  row_told [] g1 g no_lets (x ∷ rs) ds all a b from at row l r d shows level = absurd r
  row_told [] g1 g no_lets [] (more_disjs x ds) all a b from at row l r d shows level = absurd d
  row_told (p ∷ ps) g1 g ls rs ds all a b from at row l r d shows level = row_step p.sort p ps (row_told ps) g1 g ls rs ds all b from at row.2 l r d shows (level_same a p.from from row.1 level)

  -- ---- files

  none_of : (o : Option ℕ) → is_none o ≡ true → o ≡ None
  none_of None e = refl
  none_of (Some x) e = absurd (true≢false (sym e))

  same_file : (x y : Lets) (us vs : List Rule) (c d : Disjs) (ps qs : List ℕ) → unplaced_lets x ≡ unplaced_lets y → map unplaced_rule us ≡ map unplaced_rule vs → unplaced_disjs c ≡ unplaced_disjs d
      → unplaced (record { lets = x; rules = us; loose = c; places = ps }) ≡ unplaced (record { lets = y; rules = vs; loose = d; places = qs })
  same_file x y us vs c d ps qs p q r =
      ap (λ (z : Lets). record { lets = z; rules = map unplaced_rule us; loose = unplaced_disjs c; places = [] }) p
      ∙ ap (λ (z : List Rule). record { lets = unplaced_lets y; rules = z; loose = unplaced_disjs c; places = [] }) q
      ∙ ap (λ (z : Disjs). record { lets = unplaced_lets y; rules = map unplaced_rule vs; loose = z; places = [] }) r

  -- where the source spells a file without a mixed range, the text spells up to its end one that is the same but for places
  pub file_told : (n : ℕ) (f : File) → IsSpelledBy s n f None → Shows t 0 0 (rule_pieces f) → (g : File) × (unplaced g ≡ unplaced f) × (end : ℕ) × IsSpelledBy t end g None × (last : ℕ) × Shows t end last []
  file_told n f (b, (c, o, (ps, row, l, r, d)), ends, placed, unmixed) shows =
      let site = site_told s t 0 start c start o (record { sites = refl; mixed = refl }) in
      let told = row_told ps [] (new_line []) f.lets f.rules f.loose (disj_items_told s t reads f.loose []) c b (opened (t 0).from start) 0 row l r d shows site.1 in
      let mixed = none_of told.to.mixed (told.level.mixed ∙ ap (λ (z : Option ℕ). is_none z) (sym unmixed)) in (
        record { lets = told.lets; rules = told.rules; loose = told.parts; places = told.to.places },
        same_file told.lets f.lets told.rules f.rules told.parts f.loose told.to.places f.places told.same_lets told.same_rules told.same_parts,
        told.to.at,
        (told.to, (opened (t 0).from start, site.0, (told.row, told.in_row, told.are_lets, told.are_rules, told.are_parts)), refl, refl, sym mixed),
        told.last,
        told.shown,
      )
