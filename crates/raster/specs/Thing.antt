-- The thing that a stored path, stored clips and a grey paint. Cited by the contract of a band. Assumes nothing: these are definitions.
use Rattle.std.specs.Prelude.{ℕ, List}
use Rattle.path.specs.Path.{Paint}
use Rattle.path.specs.Stored.{rings_in, paths_in}
use Rattle.raster.specs.declared.thing.Thing.{Thing}

abbrev pub thing : List ℕ → List ℕ → ℕ → Paint
thing path clips grey = record { path = rings_in path; clips = paths_in clips; grey = grey }

-- the same of the code's type
abbrev pub painted_by : Thing → Paint
painted_by t = thing t.path.now t.clips.now t.grey
