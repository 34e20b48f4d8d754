use Rattle.std.proofs.Common.{◌≡◌, ◌++◌, List, length, sym, ap, ◌∙◌, arith}
use Rattle.std.specs.List.{flat_map}
use Rattle.guard_syntax.specs.code.Seen.{see_file}
use Rattle.guard_syntax.specs.Sites.{upto}
use Rattle.guard_syntax.specs.Syntax.{File}
use Rattle.rule_meaning.specs.Patterns.{Written, patterns_at}
use Rattle.pattern_books.proofs.SitesWritten.{sites-more}
use Rattle.pattern_books.proofs.written.texts_in.Goals as goal

pub loop-site-preserved : goal.loop-site-preserved
loop-site-preserved c =
    let f : File = see_file c.args.table.now.file.now.raw in
    c.in_ok-push_site.ensures ∙ ap (λ (ws : List Written). ws ++ patterns_at f c.loop-site.site) c.loop-site.invariant ∙ sym (sites-more (patterns_at f) c.loop-site.site)

pub returns : goal.returns
returns c =
    let f : File = see_file c.args.table.now.file.now.raw in
    let all : c.loop-site.site ≡ length f.places = omega (arith, c.requires.sites) in
    c.loop-site.invariant ∙ ap (λ n. flat_map (patterns_at f) (upto 0 n)) all
