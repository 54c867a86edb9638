use Rattle.std.proofs.Common.{◌≡◌, ◌*◌, min, length, sym, ap, ◌∙◌}
use Rattle.std.proofs.lemmas.List.{nil_from_length}
use Rattle.path.specs.Stored.{pieces}
use Rattle.path.proofs.StoredLaws.{pieces_none, pieces_cut, cut_twice}
use Rattle.path.proofs.stored.first_piece.Goals as goal

pub returns-in_err-count-clause-cases : goal.returns-in_err-count-clause-cases
returns-in_err-count-clause-cases c =
    let none = nil_from_length c.args.words.now c.in_err-count.ensures.cases in
    rw c.from_residual.ensures (ap (pieces c.args.size) none ∙ pieces_none c.args.size)

pub returns-clause-cases : goal.returns-clause-cases
returns-clause-cases c =
    let size = c.args.size in
    let count = c.in_ok-count.count.now in
    let others = c.in_ok-count.others.now in
    let cut : min (size * count) (length others) ≡ c.min-end.result =
    sym (c.min-end.ensures ∙ ap (λ n. min (size * n) (length others)) c.min-counted.ensures ∙ cut_twice size count (length others)) in
    rw (c.split_at.ensures.front, c.split_at.ensures.back) (ap (pieces size) c.in_ok-count.ensures.cases.0 ∙ pieces_cut size count c.min-end.result others cut)
