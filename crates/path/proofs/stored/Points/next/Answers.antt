use Rattle.std.proofs.Common.{◌%◌, ◌∷◌, get_or, sym, ap, ◌∙◌, arith}
use Rattle.std.proofs.lemmas.List.{take_rest}
use Rattle.path.specs.Stored.{points_in}
use Rattle.path.proofs.StoredLaws.{points_short, points_more}
use Rattle.path.proofs.stored.Points.next.Goals as goal

pub returns-in_default-clause-steps : goal.returns-in_default-clause-steps
returns-in_default-clause-steps c = (points_short _ (omega arith), points_short _ (omega arith))

pub returns-clause-steps : goal.returns-clause-steps
returns-clause-steps c =
    let ws = c.args.self.now.words.now in
    points_more ws (omega arith) ∙ sym (ap (λ r. record { x = get_or ws 0 0 % 16777216; y = get_or ws 1 0 % 16777216 } ∷ points_in r) (take_rest ws 2))
