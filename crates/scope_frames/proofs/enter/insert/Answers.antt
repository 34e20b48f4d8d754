use Rattle.scope_frames.proofs.DistinctFrames.{found-itself, one-number}
use Rattle.scope_frames.proofs.enter.insert.Goals as goal

pub returns-clause-alone : goal.returns-clause-alone
returns-clause-alone c n is =
    one-number c.insert_full.new.self.keys c.insert_full.ensures.unique n c.in_ok-number.number c.args.frame is
    (found-itself c.insert_full.new.self.keys c.in_ok-number.number c.args.frame c.in_ok-number.ensures.stored)
