use Rattle.std.proofs.Common.{ap, ◌∙◌, rules}
use Rattle.band.proofs.Painting.{all_fits, canvas, paints}
use Rattle.band.proofs.sink.BandSinkSink.painted.Goals as goal

pub returns-then-self-eq0-clause-seen : goal.returns-then-self-eq0-clause-seen
returns-then-self-eq0-clause-seen c own =
    let self = c.args.self.now in
    let new = c.paint_within.new.self.bytes.now in
    let painted = paints self.band self.bytes.now new self.before self.done c.args.path.now c.args.clips.now c.args.grey c.if-not-self.true c.if-self-eq0.true (all_fits self.band _ self.fits) c.paint_within.ensures.len (c.paint_within.ensures.after own) in
    ap (canvas self.band self.before self.done) (search rules) ∙ painted
