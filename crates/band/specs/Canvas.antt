-- What a job's events make of a band: the rows of one page, painted as the job goes, up to that page's end. Cited by the sink of a band. Assumes nothing: these are definitions.
use Rattle.std.specs.Prelude.{ℕ, ◌+◌, ◌-◌, ◌*◌, ◌/◌, ◌%◌, Bool, true, cond, not, ◌&&◌, List, map, length, ◌==◌, nat_le, nat_lt, slice_index}
use Rattle.std.specs.List.{range_with_len}
use Rattle.path.specs.Path.{Paint}
use Rattle.raster.specs.Coverage.{covers}
use Rattle.raster.specs.declared.band.Band.{Band}

-- which rows are asked for, how many pages are still to be shown before theirs, whether theirs has been shown, and the bytes
pub record Canvas : Type 0 where
  pub band : Band
  pub before : ℕ
  pub done : Bool
  pub bytes : List ℕ

-- whether the rows are on a page that can be painted, and in so many bytes
abbrev pub fits : Band → ℕ → Bool
fits b n = nat_le b.width 8192 && (nat_le (b.first + b.count) 65536 && nat_le (b.count * b.width) n)

-- what stands at place i once a thing is painted: its grey on the dots of the rows that it covers
abbrev pub byte_after : Paint → Band → List ℕ → ℕ → ℕ
byte_after t b bs i = cond (nat_lt i (b.count * b.width) && covers t (i % b.width) (b.first + i / b.width)) t.grey (slice_index bs i)

unfoldable pub painted : Paint → Band → List ℕ → List ℕ
painted t b bs = map (byte_after t b bs) (range_with_len 0 (length bs))

-- whether what is painted now is on the page that is asked for
abbrev pub on_page : Canvas → Bool
on_page c = not c.done && (c.before == 0 && fits c.band (length c.bytes))

abbrev pub paint_onto : Paint → Canvas → Canvas
paint_onto t c = cond (on_page c) (record { band = c.band; before = c.before; done = c.done; bytes = painted t c.band c.bytes }) c

-- after its page a band takes no more
abbrev pub page_over : Canvas → Canvas
page_over c =
    cond c.done c
    (cond (c.before == 0) (record { band = c.band; before = 0; done = true; bytes = c.bytes }) (record { band = c.band; before = c.before - 1; done = c.done; bytes = c.bytes }))
