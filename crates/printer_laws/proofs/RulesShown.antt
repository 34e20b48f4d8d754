-- The canonical text of a rule is read as the rule.
use Rattle.std.proofs.Common.{◌≡◌, ℕ, ◌<◌, false, List, [], ◌∷◌, map, length, codes, refl, sym, ap, ◌∙◌, arith, length-append}
use Rattle.guard_lexer.specs.declared.token.Mark.TheVariants as m
use Rattle.guard_syntax.specs.Named.{Named}
use Rattle.guard_syntax.specs.Syntax.{Body, OptConds, Rule, body, no_conds, with_conds}
use Rattle.literal_parser.specs.declared.keyword.Keyword.TheVariants as kw
use Rattle.literal_parser.specs.Lexemes.{Lexeme, Reserved, Sign}
use Rattle.literal_parser.specs.Forms.{form, is_name, is_any_name, is_rule_name, is_rule, is_comma, is_lparen, is_rparen, text_of, named_of}
use Rattle.literal_parser.specs.States.{State, past, opened}
use Rattle.literal_parser.proofs.Apart.{implied}
use Rattle.guard_parser.specs.Grammar.{IsNames, IsHead, IsRule}
use Rattle.guard_parser.specs.Grammar as grammar
use Rattle.guard_parser.proofs.Numbered.{body_counted, places}
use Rattle.rule_spelling.specs.code.Pieces.{Piece}
use Rattle.rule_printer.specs.code.RulePieces.{space, name, mark, params, more_names, opt_conds_pieces, body_pieces, rule_item}
use Rattle.printer_laws.specs.code.Unplaced.{unplaced_name, unplaced_opt_conds, unplaced_body, unplaced_rule}
use Rattle.printer_laws.specs.code.Shown.{IsReadBack, IsLevel, Shows, Told, first_form}
use Rattle.printer_laws.proofs.Showing.{level_past, level_same, passes, fails, shown_form}
use Rattle.printer_laws.proofs.WordsShown.{rule_word, when_word}
use Rattle.printer_laws.proofs.StartsShown.{site_told}
use Rattle.printer_laws.proofs.ConditionsShown.{join, named_shown, named_text, named_passes}
use Rattle.printer_laws.proofs.BodiesShown.{body_told, opt_conds_told, in_body}
use Rattle.printer_laws.proofs.PlacesGrow.{Grows, none, opt_conds_grow, names_places}

module _ (s : ℕ → Lexeme) where
  head_grows : (ns : List Named) (c : OptConds) (a b : State) → IsHead s ns c a b → Grows a b
  head_grows [] c a b h = opt_conds_grow s c a b h.1
  head_grows (n ∷ ns) no_conds a b (c, e, (d, f, (m, g, h))) = none (places h.1 ∙ names_places s ns d m g ∙ places f.2 ∙ places e.1)
  head_grows (n ∷ ns) (with_conds c) a b h = absurd h

  -- a rule opens a site
  pub rule_grows : (r : Rule) (p : grammar.Piece) → IsRule s r p.from p.to → length p.from.places < length p.to.places
  rule_grows r p (b, o, (c, e, (d, f, (m, g, h)))) =
      let first = ap (λ (z : State). length z.places) o.1 in
      let second = ap (λ (z : List ℕ). length z) (places f.2 ∙ places e.1) in
      let third = (head_grows r.params r.cond d m g).more in
      let fourth = (body_counted s r.body m p.to h).more in
      omega (arith, first, second, third, fourth, length-append p.from.places ((s p.from.at).from ∷ []))

module _ (s t : ℕ → Lexeme) (reads : (i : ℕ) → IsReadBack (s i).word) where
  -- a name and its place
  named_same : (i j : ℕ) (n : Named) → n.text ≡ text_of (s i) → (t j).word ≡ (s i).word → unplaced_name (named_of (t j)) ≡ unplaced_name n
  named_same i j n e w = ap (λ (z : List ℕ). record { text = z; at = 0 }) (sym (named_text s t reads i j n.text e w))

  names_told : (ns : List Named) (a b from : State) (at : ℕ) (rest : List Piece) → IsNames s ns a b → Shows t from.at at (more_names ns rest) → IsLevel a from → first_form rest ≡ 13 → Told t (IsNames t) (map unplaced_name) ns b from rest
  names_told [] a b from at rest h shows level first = record {
    value = [];
    same = refl;
    to = from;
    spelled = (ap is_comma (shown_form t from.at at rest shows ∙ first), refl);
    level = level_same a b from h.1 level;
    last = at;
    shown = shows;
  }
  names_told (n ∷ ns) a b from at rest (c, f, (d, g, h)) shows level first =
      let p1 = past from in
      let own : n.text ≡ text_of (s c.at) = ap (λ (z : Named). z.text) g.1 in
      let w = named_shown s t reads c.at p1.at n.text (implied is_name is_any_name (s c.at) refl g.0) own shows.2.0 in
      let others = names_told ns d b (past p1) (t p1.at).to rest h shows.2.2 (level_past c d p1 g.2 (level_past a c from f.1 level)) first in
      record {
        value = named_of (t p1.at) ∷ others.value;
        same = join (λ (x : Named) (y : List Named). x ∷ y) (unplaced_name (named_of (t p1.at))) (unplaced_name n) (map unplaced_name others.value) (map unplaced_name ns) (named_same c.at p1.at n own w) others.same;
        to = others.to;
        spelled = (p1, (passes is_comma (t from.at) (Sign m.Comma) shows.0 refl, refl), (past p1, (named_passes s t reads is_name c.at p1.at g.0 w, refl, refl), others.spelled));
        level = others.level;
        last = others.last;
        shown = others.shown;
      }

  record HeadTold (ns : List Named) (c : OptConds) (behind from : State) (rest : List Piece) : Type 0 where
    names : List Named
    cond : OptConds
    same_names : map unplaced_name names ≡ map unplaced_name ns
    same_cond : unplaced_opt_conds cond ≡ unplaced_opt_conds c
    to : State
    spelled : IsHead t names cond from to
    level : IsLevel behind to
    last : ℕ
    shown : Shows t to.at last rest

  no_paren : (c : OptConds) (i at : ℕ) (rest : List Piece) → Shows t i at (opt_conds_pieces c (mark space m.LBrace rest)) → is_lparen (form (t i)) ≡ false
  no_paren no_conds i at rest h = fails is_lparen (t i) (Sign m.LBrace) h.0 refl
  no_paren (with_conds c) i at rest h = fails is_lparen (t i) (Reserved kw.When (codes "when")) (h.0 ∙ when_word) refl

  head_told : (ns : List Named) (c : OptConds) (a b from : State) (at : ℕ) (rest : List Piece) → IsHead s ns c a b → Shows t from.at at (params ns (opt_conds_pieces c (mark space m.LBrace rest))) → IsLevel a from → HeadTold ns c b from (mark space m.LBrace rest)
  head_told [] c a b from at rest (e, h) shows level =
      let inner = opt_conds_told s t reads c a b from at rest h shows level in
      record {
        names = [];
        cond = inner.value;
        same_names = refl;
        same_cond = inner.same;
        to = inner.to;
        spelled = (no_paren c from.at at rest shows, inner.spelled);
        level = inner.level;
        last = inner.last;
        shown = inner.shown;
      }
  head_told (n ∷ ns) no_conds a b from at rest (c, f, (d, g, (e, h, x))) shows level =
      let p1 = past from in
      let own : n.text ≡ text_of (s c.at) = ap (λ (z : Named). z.text) g.1 in
      let w = named_shown s t reads c.at p1.at n.text (implied is_name is_any_name (s c.at) refl g.0) own shows.2.0 in
      let others = names_told ns d e (past p1) (t p1.at).to (mark [] m.RParen (mark space m.LBrace rest)) h shows.2.2 (level_past c d p1 g.2 (level_past a c from f.1 level)) refl in
      let end = others.shown in
      record {
        names = named_of (t p1.at) ∷ others.value;
        cond = no_conds;
        same_names = join (λ (x : Named) (y : List Named). x ∷ y) (unplaced_name (named_of (t p1.at))) (unplaced_name n) (map unplaced_name others.value) (map unplaced_name ns) (named_same c.at p1.at n own w) others.same;
        same_cond = refl;
        to = past others.to;
        spelled = (p1, (passes is_lparen (t from.at) (Sign m.LParen) shows.0 refl, refl), (past p1, (named_passes s t reads is_name c.at p1.at g.0 w, refl, refl), (others.to, others.spelled, (passes is_rparen (t others.to.at) (Sign m.RParen) end.0 refl, refl))));
        level = level_past e b others.to x.1 others.level;
        last = (t others.to.at).to;
        shown = end.2;
      }
  head_told (n ∷ ns) (with_conds c) a b from at rest h shows level = absurd h

  same_rule : (n : ℕ) (x y : Named) (us vs : List Named) (c d : OptConds) (e f : Body) → unplaced_name x ≡ unplaced_name y → map unplaced_name us ≡ map unplaced_name vs → unplaced_opt_conds c ≡ unplaced_opt_conds d → unplaced_body e ≡ unplaced_body f
      → unplaced_rule (record { site = n; name = x; params = us; cond = c; body = e }) ≡ unplaced_rule (record { site = n; name = y; params = vs; cond = d; body = f })
  same_rule n x y us vs c d e f p q r v =
      ap (λ (z : Named). record { site = n; name = z; params = map unplaced_name us; cond = unplaced_opt_conds c; body = unplaced_body e }) p
      ∙ ap (λ (z : List Named). record { site = n; name = unplaced_name y; params = z; cond = unplaced_opt_conds c; body = unplaced_body e }) q
      ∙ ap (λ (z : OptConds). record { site = n; name = unplaced_name y; params = map unplaced_name vs; cond = z; body = unplaced_body e }) r
      ∙ ap (λ (z : Body). record { site = n; name = unplaced_name y; params = map unplaced_name vs; cond = unplaced_opt_conds d; body = z }) v

  rule_of_parts : (n : ℕ) (own : Named) (ns : List Named) (cond : OptConds) (x : Body) (gap : List ℕ) (a b from : State) (at : ℕ) (rest : List Piece) → (let r : Rule = record { site = n; name = own; params = ns; cond = cond; body = x } in IsRule s r a b)
      → Shows t from.at at (name gap (codes "rule") (name space own.text (params ns (opt_conds_pieces cond (body_pieces [] x rest))))) → IsLevel a from → (let r : Rule = record { site = n; name = own; params = ns; cond = cond; body = x } in Told t (IsRule t) unplaced_rule r b from rest)
  rule_of_parts n own ns cond (body i ls ds) gap a b from at rest (c, o, (d, f, (e, g, (x, h, y)))) shows level =
      let site = site_told s t n a c from o level in
      let from1 = opened (t from.at).from from in
      let p1 = past from1 in
      let text : own.text ≡ text_of (s d.at) = ap (λ (z : Named). z.text) g.1 in
      let w = named_shown s t reads d.at p1.at own.text (implied is_rule_name is_any_name (s d.at) refl g.0) text shows.2.0 in
      let first = head_told ns cond e x (past p1) (t p1.at).to (in_body s t reads [] ls ds rest) h shows.2.2 (level_past d e p1 g.2 (level_past c d from1 f.1 site.1)) in
      let inner = body_told s t reads (body i ls ds) [] x b first.to first.last rest y first.shown first.level in
      record {
        value = record { site = n; name = named_of (t p1.at); params = first.names; cond = first.cond; body = inner.value };
        same = same_rule n (named_of (t p1.at)) own first.names ns first.cond cond inner.value (body i ls ds) (named_same d.at p1.at own text w) first.same_names first.same_cond inner.same;
        to = inner.to;
        spelled = (from1, site.0, (p1, (passes is_rule (t from.at) (Reserved kw.Rule (codes "rule")) (shows.0 ∙ rule_word) refl, refl), (past p1, (named_passes s t reads is_rule_name d.at p1.at g.0 w, refl, refl), (first.to, first.spelled, inner.spelled))));
        level = inner.level;
        last = inner.last;
        shown = inner.shown;
      }

  pub rule_told : (r : Rule) (gap : List ℕ) (a b from : State) (at : ℕ) (rest : List Piece) → IsRule s r a b → Shows t from.at at ((rule_item r).1 gap rest) → IsLevel a from → Told t (IsRule t) unplaced_rule r b from rest
  rule_told r gap a b from at rest h shows level = rule_of_parts r.site r.name r.params r.cond r.body gap a b from at rest h shows level
