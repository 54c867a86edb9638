-- the words that are left are fewer each time
use Rattle.std.specs.Vec.Iter.{into_iter_len}
use Rattle.print_pages.proofs.options.command_line.Given as goal

abbrev pub decreases-loop-word : goal.decreases-loop-word
decreases-loop-word l = into_iter_len l.words
