use Rattle.pattern_books.proofs.SitesWritten.{node-written}
use Rattle.pattern_books.proofs.written.push_node.Goals as goal

pub returns : goal.returns
returns c = node-written c.args.texts.now.items c.push.new.self.items _ _ _ c.in_ok-push.ensures.items c.text-text.ensures c.at-at.ensures
