use Rattle.command.proofs.Ahead.{ahead-end}
use Rattle.command.proofs.PiecesIterator.next.Goals as goal

pub returns-then-self-clause-steps : goal.returns-then-self-clause-steps
returns-then-self-clause-steps c =
    let end = ahead-end c.args.self.now.second c.args.self.now.command.now c.args.self.now.at c.if-self.true in
    (end, end)
