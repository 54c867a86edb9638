use Rattle.path.proofs.StoredLaws.{paths_split, paths_over}
use Rattle.path.proofs.stored.Clips.next.Goals as goal

pub returns-in_err-path-clause-steps : goal.returns-in_err-path-clause-steps
returns-in_err-path-clause-steps c =
    let none = paths_over c.args.self.now.words.now c.in_err-path.ensures.cases in
    rw c.from_residual.ensures (none, none)

pub returns-clause-steps : goal.returns-clause-steps
returns-clause-steps c = rw c.new.ensures.rings (paths_split c.args.self.now.words.now _ _ c.in_ok-path.ensures.cases)
