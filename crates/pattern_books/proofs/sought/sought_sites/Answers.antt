use Rattle.std.proofs.Common.{◌≡◌, ◌∙◌, sym, ap, Bool, false, List, length, replicate, get_or, arith}
use Rattle.std.specs.Prelude.{◌||◌}
use Rattle.std.specs.List.{list_any}
use Rattle.std.proofs.lemmas.List.{length-replicate, get_or-replicate}
use Rattle.guard_syntax.specs.code.Seen.{see_file}
use Rattle.guard_syntax.specs.Sites.{upto}
use Rattle.guard_syntax.specs.Syntax.{File}
use Rattle.rule_meaning.specs.Patterns.{is_site, sought_at}
use Rattle.pattern_books.proofs.SoughtSites.{sought-more}
use Rattle.pattern_books.proofs.sought.sought_sites.Goals as goal

pub loop-site-init : goal.loop-site-init
loop-site-init c =
    let is : c.in_ok-marks.marks.items ≡ replicate c.args.sites false = c.in_ok-marks.ensures.items_if_clones_equal (λ y h. h) in
    record {
      each = ap (λ (ms : List Bool). length ms) is ∙ length-replicate c.args.sites false;
      sought = λ n within. ap (λ (ms : List Bool). get_or ms n false) is ∙ get_or-replicate c.args.sites n false false within;
    }

pub loop-site-preserved : goal.loop-site-preserved
loop-site-preserved c =
    let f : File = see_file c.args.table.now.file.now.raw in
    let site = c.loop-site.site in
    let before = c.loop-site.invariant in
    record {
      each = c.mark.ensures.each ∙ before.each;
      sought = λ n within.
          let e = before.each in
          c.mark.ensures.marked n (omega arith) ∙ ap (λ b. b || is_site n c.sought.result) (before.sought n within)
          ∙ ap (λ o. list_any (λ m. is_site n (sought_at f m)) (upto 0 site) || is_site n o) c.sought.ensures
          ∙ sym (sought-more (λ m. is_site n (sought_at f m)) site);
    }

pub returns-clause-sought : goal.returns-clause-sought
returns-clause-sought c = λ n within.
    let f : File = see_file c.args.table.now.file.now.raw in
    let all : c.loop-site.site ≡ length f.places = omega (arith, c.requires) in
    c.loop-site.invariant.sought n within ∙ ap (λ k. list_any (λ m. is_site n (sought_at f m)) (upto 0 k)) all
