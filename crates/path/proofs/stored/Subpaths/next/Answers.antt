use Rattle.path.proofs.StoredLaws.{rings_split, rings_over}
use Rattle.path.proofs.stored.Subpaths.next.Goals as goal

pub returns-in_err-points-clause-steps : goal.returns-in_err-points-clause-steps
returns-in_err-points-clause-steps c =
    let none = rings_over c.args.self.now.words.now c.in_err-points.ensures.cases in
    rw c.from_residual.ensures (none, none)

pub returns-clause-steps : goal.returns-clause-steps
returns-clause-steps c = rw c.new.ensures.points (rings_split c.args.self.now.words.now _ _ c.in_ok-points.ensures.cases)
