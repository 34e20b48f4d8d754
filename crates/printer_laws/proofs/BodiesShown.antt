-- The canonical text of parts and bodies is read as these: by recursion on the syntax.
use Rattle.std.proofs.Common.{◌≡◌, ℕ, Bool, true, false, if◌then◌else◌, List, [], ◌∷◌, Some, None, codes, refl, sym, ap, ◌∙◌, subst}
use Rattle.guard_lexer.specs.declared.token.Mark.TheVariants as m
use Rattle.guard_syntax.specs.Syntax.{Body, Lets, Let, Conds, OptConds, Disjs, Disj, Parts, Part, Query, body, no_lets, more_lets, assign, no_conds, with_conds, no_disjs, more_disjs, disj, no_parts, more_parts, block, guarded, kinds, test, refer, call, query, no_steps, more_steps}
use Rattle.literal_parser.specs.declared.keyword.Keyword.TheVariants as kw
use Rattle.literal_parser.specs.Lexemes.{Lexeme, Word, Reserved, TypeName, Sign}
use Rattle.literal_parser.specs.Forms.{form, word_form, is_type_name, is_let, is_when, is_lbrace, is_rbrace, is_or, begins_part, text_in}
use Rattle.literal_parser.specs.States.{State, past, opened}
use Rattle.literal_parser.proofs.Apart.{apart}
use Rattle.guard_parser.specs.Grammar.{Sort, ALet, ARule, APart, is_sort, of_sort, body_sort, part_sort, InRow, IsFilled, IsBody, AreLets, AreDisjs, IsLet, IsOptConds, IsDisj, IsOrs, IsPart}
use Rattle.guard_parser.specs.Grammar as grammar
use Rattle.rule_spelling.specs.code.Pieces.{Piece}
use Rattle.rule_printer.specs.RuleText.{within, merged}
use Rattle.rule_printer.specs.code.RulePieces.{Spell, space, new_line, mark, head, query_pieces, opt_conds_pieces, in_a_row, let_item, let_items, body_pieces, disj_item, disj_items, more_parts_pieces, part_pieces}
use Rattle.printer_laws.specs.code.Unplaced.{unplaced_body, unplaced_lets, unplaced_let, unplaced_conds, unplaced_opt_conds, unplaced_disjs, unplaced_disj, unplaced_parts, unplaced_part, unplaced_query}
use Rattle.printer_laws.specs.code.Shown.{IsReadBack, IsLevel, IsQuiet, Shows, Told, first_form, second_form}
use Rattle.printer_laws.proofs.Showing.{level_past, level_same, passes, fails, shown_form}
use Rattle.printer_laws.proofs.WordsShown.{or_word, when_word, let_word}
use Rattle.printer_laws.proofs.StartsShown.{site_told}
use Rattle.printer_laws.proofs.QuietShown.{EndsParts, EndsConds}
use Rattle.printer_laws.proofs.ConditionsShown.{join, any_told, test_told, refer_told, call_told, right_told, exprs_told, conds_told, steps_told}
use Rattle.printer_laws.proofs.RowsShown.{let_first, part_first}
use Rattle.printer_laws.proofs.PartsShown.{let_told, head_told, block_led, part_begins, behind_full_part, row_begins}

-- ---- bodies are not empty

filled_bare : (ds : Disjs) → IsFilled ds → IsFilled (unplaced_disjs ds)
filled_bare no_disjs h = h
filled_bare (more_disjs d ds) h = tt

filled_back : (ds : Disjs) → IsFilled (unplaced_disjs ds) → IsFilled ds
filled_back no_disjs h = h
filled_back (more_disjs d ds) h = tt

filled_same : (x y : Disjs) → unplaced_disjs x ≡ unplaced_disjs y → IsFilled y → IsFilled x
filled_same x y e h = filled_back x (subst IsFilled (sym e) (filled_bare y h))

-- ---- the sorts of items

body_has_no_rule : (v w : Bool) → (if v then Some ALet else (if w then Some APart else None)) ≡ Some ARule → ⊥
body_has_no_rule true w e = cc
body_has_no_rule false true e = cc
body_has_no_rule false false e = cc

let_sort : (x : Lexeme) → x.word ≡ Reserved kw.Let (codes "let") → body_sort (form x) ≡ Some ALet
let_sort x w = ap (λ (z : Word). body_sort (word_form z)) w

part_sort_of : (x : Lexeme) → begins_part (form x) ≡ true → body_sort (form x) ≡ Some APart
part_sort_of x e =
    ap (λ (v : Bool). if v then Some ALet else part_sort (form x)) (apart begins_part is_let x refl e) ∙ ap (λ (v : Bool). if v then Some APart else None) e

module _ (s t : ℕ → Lexeme) (reads : (i : ℕ) → IsReadBack (s i).word) where
  abbrev pub ItemTold : List ℕ → Disj → Type 0
  ItemTold margin d = (gap : List ℕ) (a b from : State) (at : ℕ) (rest : List Piece) → IsDisj s true d a b → Shows t from.at at ((disj_item margin d).1 gap rest) → IsLevel a from → EndsParts s reads true rest → Told t (IsDisj t true) unplaced_disj d b from rest

  abbrev pub ItemsTold : List ℕ → Disjs → Type 0
  ItemsTold margin no_disjs = Unit {0}
  ItemsTold margin (more_disjs d ds) = ItemTold margin d × ItemsTold margin ds

  -- the items of a body, in a row
  record RowTold (ls : Lets) (ds : Disjs) (behind from : State) (rest : List Piece) : Type 0 where
    lets : Lets
    parts : Disjs
    row : List grammar.Piece
    same_lets : unplaced_lets lets ≡ unplaced_lets ls
    same_parts : unplaced_disjs parts ≡ unplaced_disjs ds
    to : State
    in_row : InRow t body_sort row from to
    are_lets : AreLets t lets (of_sort ALet row)
    are_parts : AreDisjs t parts (of_sort APart row)
    level : IsLevel behind to
    last : ℕ
    shown : Shows t to.at last rest

  abbrev RowsTold : List grammar.Piece → Type 0
  RowsTold ps = (margin g1 g : List ℕ) (ls : Lets) (ds : Disjs) → ItemsTold margin ds → (a b from : State) (at : ℕ) (rest : List Piece) → InRow s body_sort ps a b → AreLets s ls (of_sort ALet ps) → AreDisjs s ds (of_sort APart ps)
      → Shows t from.at at (in_a_row g1 g (merged (let_items ls) (disj_items margin ds)) rest) → IsLevel a from → first_form rest ≡ 11 → RowTold ls ds b from rest

  let_in_row : (p : grammar.Piece) (ps : List grammar.Piece) → RowsTold ps → (margin g1 g : List ℕ) (l : Let) (ls : Lets) (ds : Disjs) → ItemsTold margin ds → (b from : State) (at : ℕ) (rest : List Piece) → IsLet s l p.from p.to → InRow s body_sort ps p.to b
      → AreLets s ls (of_sort ALet ps) → AreDisjs s ds (of_sort APart ps) → Shows t from.at at (in_a_row g1 g (merged (let_item l ∷ let_items ls) (disj_items margin ds)) rest) → IsLevel p.from from → first_form rest ≡ 11 → RowTold (more_lets l ls) ds b from rest
  let_in_row p ps others margin g1 g (assign n bound e) ls ds all b from at rest h row l d shows level first =
      let order = let_first s margin (assign n bound e) ls ds p ps b h row l d in
      let behind = in_a_row g g (merged (let_items ls) (disj_items margin ds)) rest in
      let shown = subst (λ (xs : List (ℕ × Spell)). Shows t from.at at (in_a_row g1 g xs rest)) order shows in
      let quiet = row_begins s t reads margin g g ls ds (of_sort APart ps) rest d first in
      let one = let_told s t reads (assign n bound e) g1 p.from p.to from at behind h shown level quiet.0.step quiet.0.paren in
      let more = others margin g g ls ds all p.to b one.to one.last rest row l d one.shown one.level first in
      record {
        lets = more_lets one.value more.lets;
        parts = more.parts;
        row = record { sort = ALet; from = from; to = one.to } ∷ more.row;
        same_lets = join more_lets (unplaced_let one.value) (unplaced_let (assign n bound e)) (unplaced_lets more.lets) (unplaced_lets ls) one.same more.same_lets;
        same_parts = more.same_parts;
        to = more.to;
        in_row = (let_sort (t from.at) (shown.0 ∙ let_word), refl, more.in_row);
        are_lets = (one.spelled, more.are_lets);
        are_parts = more.are_parts;
        level = more.level;
        last = more.last;
        shown = more.shown;
      }

  part_in_row : (p : grammar.Piece) (ps : List grammar.Piece) → RowsTold ps → (margin g1 g : List ℕ) (dj : Disj) (ls : Lets) (ds : Disjs) → ItemTold margin dj → ItemsTold margin ds → (b from : State) (at : ℕ) (rest : List Piece) → IsDisj s true dj p.from p.to → InRow s body_sort ps p.to b
      → AreLets s ls (of_sort ALet ps) → AreDisjs s ds (of_sort APart ps) → Shows t from.at at (in_a_row g1 g (merged (let_items ls) (disj_item margin dj ∷ disj_items margin ds)) rest) → IsLevel p.from from → first_form rest ≡ 11 → RowTold ls (more_disjs dj ds) b from rest
  part_in_row p ps others margin g1 g (disj n no_parts) ls ds told all b from at rest h row l d shows level first = absurd h
  part_in_row p ps others margin g1 g (disj n (more_parts x xs)) ls ds told all b from at rest h row l d shows level first =
      let order = part_first s margin (disj n (more_parts x xs)) ls ds p ps b h row l d in
      let behind = in_a_row g g (merged (let_items ls) (disj_items margin ds)) rest in
      let shown = subst (λ (ys : List (ℕ × Spell)). Shows t from.at at (in_a_row g1 g ys rest)) order shows in
      let quiet = row_begins s t reads margin g g ls ds (of_sort APart ps) rest d first in
      let one = told g1 p.from p.to from at behind h shown level quiet in
      let begins = part_begins s t reads margin x g1 h.0 h.2.0 (more_parts_pieces margin xs behind) h.2.1 in
      let more = others margin g g ls ds all p.to b one.to one.last rest row l d one.shown one.level first in
      record {
        lets = more.lets;
        parts = more_disjs one.value more.parts;
        row = record { sort = APart; from = from; to = one.to } ∷ more.row;
        same_lets = more.same_lets;
        same_parts = join more_disjs (unplaced_disj one.value) (unplaced_disj (disj n (more_parts x xs))) (unplaced_disjs more.parts) (unplaced_disjs ds) one.same more.same_parts;
        to = more.to;
        in_row = (part_sort_of (t from.at) (ap begins_part (shown_form t from.at at (part_pieces margin g1 x (more_parts_pieces margin xs behind)) shown) ∙ begins.2), refl, more.in_row);
        are_lets = more.are_lets;
        are_parts = (one.spelled, more.are_parts);
        level = more.level;
        last = more.last;
        shown = more.shown;
      }

  row_step : (k : Sort) (n : ℕ) → body_sort n ≡ Some k → (p : grammar.Piece) (ps : List grammar.Piece) → RowsTold ps → (margin g1 g : List ℕ) (ls : Lets) (ds : Disjs) → ItemsTold margin ds → (b from : State) (at : ℕ) (rest : List Piece) → InRow s body_sort ps p.to b
      → AreLets s ls (if is_sort ALet k then p ∷ of_sort ALet ps else of_sort ALet ps) → AreDisjs s ds (if is_sort APart k then p ∷ of_sort APart ps else of_sort APart ps)
      → Shows t from.at at (in_a_row g1 g (merged (let_items ls) (disj_items margin ds)) rest) → IsLevel p.from from → first_form rest ≡ 11 → RowTold ls ds b from rest
  row_step ALet n e p ps others margin g1 g no_lets ds all b from at rest row l d shows level first = absurd l
  row_step ALet n e p ps others margin g1 g (more_lets x ls) ds all b from at rest row l d shows level first = let_in_row p ps others margin g1 g x ls ds all b from at rest l.0 row l.1 d shows level first
  row_step APart n e p ps others margin g1 g ls no_disjs all b from at rest row l d shows level first = absurd d
  row_step APart n e p ps others margin g1 g ls (more_disjs x ds) all b from at rest row l d shows level first = part_in_row p ps others margin g1 g x ls ds all.0 all.1 b from at rest d.0 row l d.1 shows level first
  row_step ARule n e p ps others margin g1 g ls ds all b from at rest row l d shows level first = absurd (body_has_no_rule (is_let n) (begins_part n) e)

  row_told : (ps : List grammar.Piece) → RowsTold ps
  row_told [] margin g1 g no_lets no_disjs all a b from at rest row l d shows level first = record {
    lets = no_lets;
    parts = no_disjs;
    row = [];
    same_lets = refl;
    same_parts = refl;
    to = from;
    in_row = (ap body_sort (shown_form t from.at at rest shows ∙ first), refl);
    are_lets = tt;
    are_parts = tt;
    level = level_same a b from row.1 level;
    last = at;
    shown = shows;
  }
  row_told [] margin g1 g (more_lets x ls) ds all a b from at rest row l d shows level first = absurd l
  row_told [] margin g1 g no_lets (more_disjs x ds) all a b from at rest row l d shows level first = absurd d
  row_told (p ∷ ps) margin g1 g ls ds all a b from at rest row l d shows level first =
      row_step p.sort (form (s a.at)) row.0 p ps (row_told ps) margin g1 g ls ds all b from at rest row.2 l d shows (level_same a p.from from row.1 level) first

  -- ---- parts and bodies

  abbrev BodyTold : Body → Type 0
  BodyTold x = (margin : List ℕ) (a b from : State) (at : ℕ) (rest : List Piece) → IsBody s x a b → Shows t from.at at (body_pieces margin x rest) → IsLevel a from → Told t (IsBody t) unplaced_body x b from rest

  abbrev PartTold : Part → Type 0
  PartTold p = (margin gap : List ℕ) (a b from : State) (at : ℕ) (rest : List Piece) → IsPart s true p a b → Shows t from.at at (part_pieces margin gap p rest) → IsLevel a from → IsQuiet true (first_form rest) (second_form rest) → Told t (IsPart t true) unplaced_part p b from rest

  abbrev OrsTold : Parts → Type 0
  OrsTold ps = (margin : List ℕ) (a b from : State) (at : ℕ) (rest : List Piece) → IsOrs s true ps a b → Shows t from.at at (more_parts_pieces margin ps rest) → IsLevel a from → EndsParts s reads true rest → Told t (IsOrs t true) unplaced_parts ps b from rest

  brace_ends : (rest : List Piece) → EndsConds s reads (mark space m.LBrace rest)
  brace_ends rest = (record { step = refl; paren = refl; note = refl; bar = refl; led = refl }, refl, refl)

  pub opt_conds_told : (c : OptConds) (a b from : State) (at : ℕ) (rest : List Piece) → IsOptConds s c a b → Shows t from.at at (opt_conds_pieces c (mark space m.LBrace rest)) → IsLevel a from → Told t (IsOptConds t) unplaced_opt_conds c b from (mark space m.LBrace rest)
  opt_conds_told no_conds a b from at rest h shows level = record {
    value = no_conds;
    same = refl;
    to = from;
    spelled = (fails is_when (t from.at) (Sign m.LBrace) shows.0 refl, refl);
    level = level_same a b from h.1 level;
    last = at;
    shown = shows;
  }
  opt_conds_told (with_conds c) a b from at rest (d, w, h) shows level =
      let inner = conds_told s t reads c space d b (past from) (t from.at).to (mark space m.LBrace rest) h shows.2 (level_past a d from w.1 level) (brace_ends rest) in
      record {
        value = with_conds inner.value;
        same = ap with_conds inner.same;
        to = inner.to;
        spelled = (past from, (passes is_when (t from.at) (Reserved kw.When (codes "when")) (shows.0 ∙ when_word) refl, refl), inner.spelled);
        level = inner.level;
        last = inner.last;
        shown = inner.shown;
      }

  -- what stands behind the brace of a body
  abbrev pub in_body : List ℕ → Lets → Disjs → List Piece → List Piece
  in_body margin ls ds rest = in_a_row (new_line (within margin)) (new_line (within margin)) (merged (let_items ls) (disj_items (within margin) ds)) (mark (new_line margin) m.RBrace rest)

  mutual
    pub body_told : (x : Body) → BodyTold x
    body_told (body n ls ds) margin a b from at rest (c, o, (d, f, (e, (ps, row, l, p, filled), g))) shows level =
        let site = site_told s t n a c from o level in
        let from1 = opened (t from.at).from from in
        let closing = mark (new_line margin) m.RBrace rest in
        let inner = row_told ps (within margin) (new_line (within margin)) (new_line (within margin)) ls ds (disj_items_told ds (within margin)) d e (past from1) (t from.at).to closing row l p shows.2 (level_past c d from1 f.1 site.1) refl in
        let end = inner.shown in
        record {
          value = body n inner.lets inner.parts;
          same = join (λ (x : Lets) (y : Disjs). body n x y) (unplaced_lets inner.lets) (unplaced_lets ls) (unplaced_disjs inner.parts) (unplaced_disjs ds) inner.same_lets inner.same_parts;
          to = past inner.to;
          spelled = (
            from1,
            site.0,
            (
              past from1,
              (passes is_lbrace (t from.at) (Sign m.LBrace) shows.0 refl, refl),
              (
                inner.to,
                (inner.row, inner.in_row, inner.are_lets, inner.are_parts, filled_same inner.parts ds inner.same_parts filled),
                (passes is_rbrace (t inner.to.at) (Sign m.RBrace) end.0 refl, refl),
              ),
            ),
          );
          level = level_past e b inner.to g.1 inner.level;
          last = (t inner.to.at).to;
          shown = end.2;
        }

    pub disj_items_told : (ds : Disjs) (margin : List ℕ) → ItemsTold margin ds
    disj_items_told no_disjs margin = tt
    disj_items_told (more_disjs d ds) margin = (disj_item_told d margin, disj_items_told ds margin)

    disj_item_told : (d : Disj) (margin : List ℕ) → ItemTold margin d
    disj_item_told (disj n no_parts) margin gap a b from at rest h shows level ends = absurd h
    disj_item_told (disj n (more_parts p ps)) margin gap a b from at rest (c, o, (e, f, g)) shows level ends =
        let site = site_told s t n a c from o level in
        let first = part_told p margin gap c e (opened (t from.at).from from) at (more_parts_pieces margin ps rest) f shows site.1 (behind_full_part s t reads margin ps rest ends) in
        let others = full_ors_told ps margin e b first.to first.last rest g first.shown first.level ends in
        record {
          value = disj n (more_parts first.value others.value);
          same = join (λ (x : Part) (y : Parts). disj n (more_parts x y)) (unplaced_part first.value) (unplaced_part p) (unplaced_parts others.value) (unplaced_parts ps) first.same others.same;
          to = others.to;
          spelled = (opened (t from.at).from from, site.0, (first.to, first.spelled, others.spelled));
          level = others.level;
          last = others.last;
          shown = others.shown;
        }

    full_ors_told : (ps : Parts) → OrsTold ps
    full_ors_told no_parts margin a b from at rest h shows level ends = record {
      value = no_parts;
      same = refl;
      to = from;
      spelled = (ap is_or (shown_form t from.at at rest shows) ∙ ends.1, refl);
      level = level_same a b from h.1 level;
      last = at;
      shown = shows;
    }
    full_ors_told (more_parts p ps) margin a b from at rest (d, e, (c, f, g)) shows level ends =
        let first = part_told p margin space d c (past from) (t from.at).to (more_parts_pieces margin ps rest) f shows.2 (level_past a d from e.1 level) (behind_full_part s t reads margin ps rest ends) in
        let others = full_ors_told ps margin c b first.to first.last rest g first.shown first.level ends in
        record {
          value = more_parts first.value others.value;
          same = join more_parts (unplaced_part first.value) (unplaced_part p) (unplaced_parts others.value) (unplaced_parts ps) first.same others.same;
          to = others.to;
          spelled = (past from, (passes is_or (t from.at) (Reserved kw.Or (codes "or")) (shows.0 ∙ or_word) refl, refl), (first.to, first.spelled, others.spelled));
          level = others.level;
          last = others.last;
          shown = others.shown;
        }

    part_told : (p : Part) → PartTold p
    part_told (block n any q (body i ls ds)) margin gap a b from at rest (v, (c1, o, (c2, begins, (c3, hq, hb)))) shows level quiet =
        let site = site_told s t n a c1 from o level in
        let from1 = opened (t from.at).from from in
        let own = body_pieces margin (body i ls ds) rest in
        let some_of = any_told s t reads true any gap c1 c2 from1 at (λ g. head g q (query_pieces g q own) own) begins shows site.1 (block_led s t reads any q gap c1 c2 c3 from1 at (in_body margin ls ds rest) begins hq shows site.1) in
        let left = head_told s t reads q some_of.3 c2 c3 some_of.0 some_of.4 own hq some_of.5 some_of.2 refl in
        let inner = body_told (body i ls ds) margin c3 b left.to left.last rest hb left.shown left.level in
        record {
          value = block n any left.value inner.value;
          same = join (λ (x : Query) (y : Body). block n any x y) (unplaced_query left.value) (unplaced_query q) (unplaced_body inner.value) (unplaced_body (body i ls ds)) left.same inner.same;
          to = inner.to;
          spelled = (refl, (from1, site.0, (some_of.0, some_of.1, (left.to, left.spelled, inner.spelled))));
          level = inner.level;
          last = inner.last;
          shown = inner.shown;
        }
    part_told (guarded n c (body i ls ds)) margin gap a b from at rest (v, (c1, o, (c2, w, (c3, hc, hb)))) shows level quiet =
        let site = site_told s t n a c1 from o level in
        let from1 = opened (t from.at).from from in
        let own = conds_told s t reads c space c2 c3 (past from1) (t from.at).to (body_pieces margin (body i ls ds) rest) hc shows.2 (level_past c1 c2 from1 w.1 site.1) (brace_ends (in_body margin ls ds rest)) in
        let inner = body_told (body i ls ds) margin c3 b own.to own.last rest hb own.shown own.level in
        record {
          value = guarded n own.value inner.value;
          same = join (λ (x : Conds) (y : Body). guarded n x y) (unplaced_conds own.value) (unplaced_conds c) (unplaced_body inner.value) (unplaced_body (body i ls ds)) own.same inner.same;
          to = inner.to;
          spelled = (refl, (from1, site.0, (past from1, (passes is_when (t from.at) (Reserved kw.When (codes "when")) (shows.0 ∙ when_word) refl, refl), (own.to, own.spelled, inner.spelled))));
          level = inner.level;
          last = inner.last;
          shown = inner.shown;
        }
    part_told (kinds n text c (body i ls ds)) margin gap a b from at rest (v, (c1, o, (c2, f, (c3, hc, hb)))) shows level quiet =
        let site = site_told s t n a c1 from o level in
        let from1 = opened (t from.at).from from in
        let own = opt_conds_told c c2 c3 (past from1) (t from.at).to (in_body margin ls ds rest) hc shows.2 (level_past c1 c2 from1 f.2 site.1) in
        let inner = body_told (body i ls ds) margin c3 b own.to own.last rest hb own.shown own.level in
        record {
          value = kinds n text own.value inner.value;
          same = join (λ (x : OptConds) (y : Body). kinds n text x y) (unplaced_opt_conds own.value) (unplaced_opt_conds c) (unplaced_body inner.value) (unplaced_body (body i ls ds)) own.same inner.same;
          to = inner.to;
          spelled = (refl, (from1, site.0, (past from1, (passes is_type_name (t from.at) (TypeName text) shows.0 refl, sym (ap text_in shows.0), refl), (own.to, own.spelled, inner.spelled))));
          level = inner.level;
          last = inner.last;
          shown = inner.shown;
        }
    part_told (test n any (query i no_steps) o negated right message) margin gap a b from at rest (c, o1, (d, begins, (e, hq, more))) shows level quiet = absurd hq
    part_told (test n any (query i (more_steps p ps)) o negated right message) margin gap a b from at rest h shows level quiet =
        test_told s t reads true n any i p ps o negated right message (steps_told s t reads ps) (right_told s t reads right) gap a b from at rest h shows level quiet
    part_told (refer n negated text message) margin gap a b from at rest h shows level quiet = refer_told s t reads true n negated text message gap a b from at rest h shows level quiet
    part_told (call n negated text es message) margin gap a b from at rest h shows level quiet = call_told s t reads true n negated text es message (exprs_told s t reads es) gap a b from at rest h shows level quiet
