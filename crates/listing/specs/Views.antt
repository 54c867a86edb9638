-- The code's writer and sink as the output of the definitions. Cited by their contracts. Assumes nothing: these are definitions.
use Rattle.std.specs.Prelude.{◌≡◌, ℕ, ◌+◌, min, Bool, true, false, cond, List, []}
use Rattle.path.specs.Path.{Paint}
use Rattle.listing.specs.Lines.{thing_lines, page_line, unshown_line}
use Rattle.listing.specs.Output.{Output, output, put_text, Wrote}
use Rattle.listing.specs.declared.writer.Writer.{Writer}
use Rattle.listing.specs.declared.sink.ListingSink.{ListingSink}

abbrev pub output_of : Writer → Output
output_of w = output w.at w.bytes.now

-- a writer has put a text, over the same lent bytes
pub record Puts (text : List ℕ) (before after : Writer) : Type 0 where
  pub wrote : Wrote text (output_of before) (output_of after)
  pub lent : after.bytes.ghost_name ≡ before.bytes.ghost_name

-- what is written, how many pages were shown, at most 2^64 - 1, and whether anything was painted since the last
pub record Told : Type 0 where
  pub output : Output
  pub pages : ℕ
  pub unshown : Bool

abbrev pub telling : Output → ℕ → Bool → Told
telling o k u = record { output = o; pages = k; unshown = u }

abbrev pub told_of : ListingSink → Told
told_of s = telling (output s.at s.bytes.now) s.pages s.unshown

abbrev pub mark_of : Told → List ℕ
mark_of t = cond t.unshown unshown_line []

abbrev pub with_thing : Paint → Told → Told
with_thing p t = record { output = put_text (thing_lines p) t.output; pages = t.pages; unshown = true }

abbrev pub with_shown : Told → Told
with_shown t =
    let k = min (t.pages + 1) 18446744073709551615 in
    record { output = put_text (page_line k) t.output; pages = k; unshown = false }
