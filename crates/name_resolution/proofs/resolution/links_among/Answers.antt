use Rattle.std.proofs.Common.{◌∙◌, ap, ◌++◌, List}
use Rattle.name_scopes.specs.code.ScopeChains.{scopes_in}
use Rattle.name_scopes.specs.code.Seen.{see_given}
use Rattle.name_resolution.specs.code.FileLinks.{items_links}
use Rattle.name_resolution.specs.code.Sources.{file_in}
use Rattle.rule_names.specs.Resolution.{Linked}
use Rattle.name_resolution.proofs.LinksInTurn.{file-links}
use Rattle.name_resolution.proofs.resolution.links_among.Goals as goal

pub returns : goal.returns
returns c =
    c.in_ok-in_file.ensures
    ∙ ap (λ (l : List Linked). l ++ items_links (file_in c.args.sources.now) (scopes_in c.outermost-chain.result)) c.new-links.ensures.items
    ∙ file-links c.args.sources.now.file.now (see_given c.args.own.now.names.items) (scopes_in c.outermost-chain.result) c.requires c.outermost-chain.ensures.scopes
