-- What the code's machine, its path and its events mean to the written machine. The code holds nothing that was painted or shown before: a state is one for any such past. Cited by the contracts of this crate and of those who drive a machine. Assumes nothing: these are definitions.
use Rattle.std.specs.Prelude.{◌≡◌, ℕ, ◌+◌, ◌*◌, Bool, true, false, List, [], ◌∷◌, ◌++◌, map, length, take, Some, None, Ok, Err, Option, Result, nat_le, slice_index_or}
use Rattle.std.specs.Borrow.{Bor}
use Rattle.stack.specs.Contents.{top_down}
use Rattle.tokens.specs.Token.{Tokens}
use Rattle.tokens.specs.Stored.{decode, operator_of}
use Rattle.path.specs.declared.builder.Path.{Path}
use Rattle.path.specs.Path.{Point, Ring, Paint, points}
use Rattle.path.specs.declared.corner.Corner.{Corner}
use Rattle.path.specs.Points.{point, point_of}
use Rattle.path.specs.Stored.{rings_in}
use Rattle.path.specs.Building.{rings_of, ring_of}
use Rattle.machine.specs.Machine.{Value, amount, code, label, Manner, Binding, Frame, State, Went, on, ends, with_frames, with_manner, near_enough, points_in_all}
use Rattle.machine.specs.Clips.{clips_in}
use Rattle.machine.specs.Numbers.{fault_number, unsupported}
use Rattle.machine.specs.Stage.{Outside}
use Rattle.machine.specs.declared.event.Fault.{Fault}
use Rattle.machine.specs.declared.event.Event.{Event}
use Rattle.machine.specs.declared.event.Event.TheVariants.{On, Painted, Shown, Finished, Unsupported}
use Rattle.machine.specs.declared.state.Value as code_value
use Rattle.machine.specs.declared.state.Frame as CodeFrame
use Rattle.machine.specs.declared.graphics.GraphicsState.{GraphicsState}
use Rattle.tokens.specs.declared.stage.Stage as stage
use Rattle.machine.specs.declared.stage.Clipping.{Ghosts}
use Rattle.machine.specs.declared.bindings.Bindings.{Bindings}
use Rattle.machine.specs.declared.drawing.Drawing.{Drawing}
use Rattle.machine.specs.declared.state.Machine.{Machine}

abbrev pub value_of : code_value.Value → Value
value_of (code_value.TheVariants.Number n) = amount n
value_of (code_value.TheVariants.Body b) = code (decode b.now)
value_of (code_value.TheVariants.Label k) = label k

abbrev pub frame_of : CodeFrame.Frame → Frame
frame_of f = record { rest = decode f.rest.now; again = f.again; whole = decode f.whole.now }

abbrev pub graphics_of : List ℕ → GraphicsState → Manner
graphics_of ws g = record { grey = g.grey; scale = g.scale; left = g.left; top = g.top; clips = clips_in (take g.clips ws) }

-- what a name means by the row of meanings; it is asked only of bound names
abbrev pub meaning_of : Option code_value.Value → Value
meaning_of None = amount 0
meaning_of (Some v) = value_of v

abbrev pub binding_of : List (Option code_value.Value) → ℕ → Binding
binding_of vs k = record { called = k; means = meaning_of (slice_index_or vs k None) }

-- what the bound names mean, in the order in which they were first bound
abbrev pub bindings_of : Bindings → List Binding
bindings_of b = map (binding_of b.meanings.now) (take b.count b.order)

-- what was painted since the last page, and the pages shown
pub record Past : Type 0 where
  pub paints : List Paint
  pub pages : List (List Paint)

abbrev pub no_past : Past
no_past = record { paints = []; pages = [] }

abbrev pub with_painted : Past → Paint → Past
with_painted t p = record { paints = t.paints ++ (p ∷ []); pages = t.pages }

abbrev pub with_page : Past → Past
with_page t = record { paints = []; pages = t.pages ++ (t.paints ∷ []) }

-- a thing painted, by the words of its path and of its clips, and its grey
abbrev pub paint_in : List ℕ → List ℕ → ℕ → Paint
paint_in ps cs g = record { path = rings_in ps; clips = clips_in cs; grey = g }

-- of any stage
module _ {X : Type 0} {G : Ghosts X} {S : stage.Ghosts X} where
  abbrev pub manner_of : Drawing X G S → Manner
  manner_of d = graphics_of d.clips.now d.graphics

  -- the kept states, the last one first
  abbrev pub saved_of : Drawing X G S → List Manner
  saved_of d = map (graphics_of d.clips.now) (top_down d.kept)

  -- the top of the stack, and the innermost frame, come first
  abbrev pub stack_of : Machine X G S → List Value
  stack_of m = map value_of (top_down m.values.now)

  abbrev pub frames_of : Machine X G S → List Frame
  frames_of m = map frame_of (top_down m.frames.now)

  abbrev pub names_of : Machine X G S → List Binding
  names_of m = bindings_of m.names

  abbrev pub state : Machine X G S → Path → Past → State
  state m p t =
      record {
        stack = stack_of m;
        names = names_of m;
        rings = rings_of p;
        ring = ring_of p;
        manner = manner_of m.drawing;
        saved = saved_of m.drawing;
        paints = t.paints;
        pages = t.pages;
        frames = frames_of m;
      }

  -- the first n words of the path were painted, and still stand there
  abbrev pub thing_of : Machine X G S → Path → ℕ → Paint
  thing_of m p n = paint_in (take n p.words.now) (take m.drawing.graphics.clips m.drawing.clips.now) m.drawing.graphics.grey

  abbrev pub after_event : Event → Machine X G S → Path → Past → Went
  after_event On m p t = on (state m p t)
  after_event (Painted n) m p t = on (state m p (with_painted t (thing_of m p n)))
  after_event Shown m p t = on (state m p (with_page t))
  after_event Finished m p t = ends 0 (state m p t)
  after_event (Unsupported op) m p t = ends (unsupported (operator_of op)) (state m p t)

  abbrev pub after : Result Event Fault → Machine X G S → Path → Past → Went
  after (Ok e) m p t = after_event e m p t
  after (Err f) m p t = ends (fault_number f) (state m p t)

-- a step says `Unsupported` only at an operator outside of its stage
abbrev pub OnlyOutside : (ℕ → Bool) → Result Event Fault → Type 0
OnlyOutside can (Ok On) = Unit {0}
OnlyOutside can (Ok (Painted n)) = Unit {0}
OnlyOutside can (Ok Shown) = Unit {0}
OnlyOutside can (Ok Finished) = Unit {0}
OnlyOutside can (Ok (Unsupported op)) = Outside can op
OnlyOutside can (Err f) = Unit {0}

abbrev pub tail : {A : Type 0} → List A → List A
tail [] = []
tail (x ∷ xs) = xs

abbrev pub topped : List Frame → Frame → List Frame
topped [] f = []
topped (g ∷ gs) f = f ∷ gs

-- another innermost frame, and none in its place
abbrev pub with_top : State → Frame → State
with_top s f = with_frames s (topped s.frames f)

abbrev pub without_top : State → State
without_top s = with_frames s (tail s.frames)

-- what is done with one operand, and with two, and the stack below them
abbrev pub OneOperand : Type 0
OneOperand = ℕ → List Value → Went

abbrev pub TwoOperands : Type 0
TwoOperands = ℕ → ℕ → List Value → Went

-- an operand that was looked at: a number, or the fault that was found
abbrev pub with_number : Result ℕ Fault → State → List Value → OneOperand → Went
with_number (Ok n) s vs f = f n vs
with_number (Err e) s vs f = ends (fault_number e) s

abbrev pub with_numbers : Result (ℕ × ℕ) Fault → State → List Value → TwoOperands → Went
with_numbers (Ok p) s vs f = f p.0 p.1 vs
with_numbers (Err e) s vs f = ends (fault_number e) s

-- what is done with a body and the stack below it; and a body that was looked at
abbrev pub BodyOperand : Type 0
BodyOperand = Tokens → List Value → Went

abbrev pub with_body : Result (Bor (List ℕ)) Fault → State → List Value → BodyOperand → Went
with_body (Ok b) s vs f = f (decode b.now) vs
with_body (Err e) s vs f = ends (fault_number e) s

-- where a graphics state puts a point, and that it is on the page
abbrev pub place_of : GraphicsState → ℕ → ℕ → Point
place_of g a b = point (g.left + a * g.scale) (g.top + b * g.scale)

abbrev pub Placed : Option Corner → Point → Type 0
Placed None q = near_enough q ≡ false
Placed (Some c) q = (near_enough q ≡ true) × (point_of c ≡ q)

-- the graphics state that a job begins with
abbrev pub initial : Manner
initial = record { grey = 0; scale = 16; left = 0; top = 0; clips = [] }

-- another grey, another scale, another corner, and one more clip
abbrev pub grey_of : Manner → ℕ → Manner
grey_of m n = record { grey = n; scale = m.scale; left = m.left; top = m.top; clips = m.clips }

abbrev pub scale_of : Manner → ℕ → Manner
scale_of m n = record { grey = m.grey; scale = n; left = m.left; top = m.top; clips = m.clips }

abbrev pub corner_of : Manner → ℕ → ℕ → Manner
corner_of m x y = record { grey = m.grey; scale = m.scale; left = x; top = y; clips = m.clips }

abbrev pub clipped_by : Manner → List Ring → Manner
clipped_by m c = record { grey = m.grey; scale = m.scale; left = m.left; top = m.top; clips = c ∷ m.clips }

-- and a state with that
abbrev pub with_grey : State → ℕ → State
with_grey s n = with_manner s (grey_of s.manner n) s.saved

abbrev pub with_scale : State → ℕ → State
with_scale s n = with_manner s (scale_of s.manner n) s.saved

abbrev pub with_corner : State → ℕ → ℕ → State
with_corner s x y = with_manner s (corner_of s.manner x y) s.saved

abbrev pub with_clip : State → List Ring → State
with_clip s c = with_manner s (clipped_by s.manner c) s.saved

-- whether there may be one more clip, by what all of them count for
abbrev pub clip_fits : List (List Ring) → List Ring → Bool
clip_fits cs c = nat_le (1 + points c + (points_in_all cs + length cs)) 1024
