use Rattle.std.proofs.Common.{sym, ap, ◌∙◌}
use Rattle.std.specs.List.{flat_map}
use Rattle.std.proofs.lemmas.List.{reverse-reverse}
use Rattle.path.specs.Stored.{paths_in}
use Rattle.machine.specs.Clips.{clips_in}
use Rattle.listing.specs.Lines.{path_lines, clip_lines, thing_lines}
use Rattle.listing.proofs.Putting.{then_put, put_as}
use Rattle.listing.proofs.writer.Writer.put_thing.Goals as goal

-- clips stand with the oldest first, and the written machine has the newest first
pub returns : goal.returns
unfolding thing_lines clips_in
returns c =
    let path = put_as (ap (path_lines 2) c.new.ensures.rings) c.put_path.ensures in
    let oldest = ap (flat_map clip_lines) (c.new-2.ensures.paths ∙ sym (reverse-reverse (paths_in c.args.clips.now))) in
    then_put c.put_text.ensures (then_put c.put_number.ensures (then_put c.put_text-2.ensures (then_put path (put_as oldest c.put_clips.ensures))))
