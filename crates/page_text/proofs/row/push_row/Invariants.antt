use Rattle.std.proofs.Common.{◌≡◌, ◌++◌, map, take, vec_items}
use Rattle.page_text.specs.Marks.{mark_of}
use Rattle.page_text.proofs.row.push_row.Given as goal

-- the characters of the dots so far stand behind the text
abbrev pub invariant-loop-grey : goal.invariant-loop-grey
invariant-loop-grey l = vec_items l.text ≡ vec_items l.initial.text ++ map mark_of (take l.grey-index l.row)
