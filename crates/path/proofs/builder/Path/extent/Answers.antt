use Rattle.std.proofs.Common.{ap, ◌∙◌}
use Rattle.path.specs.Extent.{path_top, path_bottom}
use Rattle.path.proofs.BuildLaws.{laid_of, rings_front}
use Rattle.path.proofs.builder.Path.extent.Goals as goal

pub returns : goal.returns
returns c =
    let p = c.args.self.now in
    let front = rings_front p.words.now p.start p.last p.built.used p.total (laid_of p) in
    record { top = p.top ∙ ap (path_top 16777216) front; bottom = p.bottom ∙ ap (path_bottom 0) front }
