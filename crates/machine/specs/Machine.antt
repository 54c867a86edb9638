-- The written machine: what each step of a job does, and where it ends. Cited by every contract of this crate. Assumes nothing: these are definitions.
use Rattle.std.specs.Prelude.{ℕ, zero, suc, ◌+◌, ◌-◌, ◌*◌, ◌/◌, Bool, cond, ◌&&◌, List, [], ◌∷◌, ◌++◌, length, ◌==◌, nat_le, nat_lt}
use Rattle.tokens.specs.Token.{Token, number, does, name, quoted, body, Tokens, none, more, Operator, adds, takes, multiplies, divides, is_less, copies, drops, swaps, defines, repeats, when, moves, lines, fills, clips_by, greys, shifts, scales, keeps, back, shows}
use Rattle.path.specs.Path.{Point, Ring, Paint, points, finished}

-- what stands on the stack
pub data Value : Type 0 where
  amount : ℕ → Value
  code : Tokens → Value
  label : ℕ → Value

-- the graphics state: grey, scale in sixteenths of a dot, where the corner is, and the clips
pub record Manner : Type 0 where
  pub grey : ℕ
  pub scale : ℕ
  pub left : ℕ
  pub top : ℕ
  pub clips : List (List Ring)

pub record Binding : Type 0 where
  pub called : ℕ
  pub means : Value

-- tokens that are still to be run, and how often the body after that
pub record Frame : Type 0 where
  pub rest : Tokens
  pub again : ℕ
  pub whole : Tokens

pub record State : Type 0 where
  pub stack : List Value
  pub names : List Binding
  pub rings : List Ring
  pub ring : Ring
  pub manner : Manner
  pub saved : List Manner
  pub paints : List Paint
  pub pages : List (List Paint)
  pub frames : List Frame

-- how a step goes: on, or to an end; 0 is the end of the job, others are faults
pub data Went : Type 0 where
  on : State → Went
  ends : ℕ → State → Went

abbrev pub with_stack : State → List Value → State
with_stack s vs = record { stack = vs; names = s.names; rings = s.rings; ring = s.ring; manner = s.manner; saved = s.saved; paints = s.paints; pages = s.pages; frames = s.frames }

abbrev pub with_path : State → List Ring → Ring → State
with_path s rs r = record { stack = s.stack; names = s.names; rings = rs; ring = r; manner = s.manner; saved = s.saved; paints = s.paints; pages = s.pages; frames = s.frames }

abbrev pub with_manner : State → Manner → List Manner → State
with_manner s m ms = record { stack = s.stack; names = s.names; rings = s.rings; ring = s.ring; manner = m; saved = ms; paints = s.paints; pages = s.pages; frames = s.frames }

abbrev pub with_frames : State → List Frame → State
with_frames s fs = record { stack = s.stack; names = s.names; rings = s.rings; ring = s.ring; manner = s.manner; saved = s.saved; paints = s.paints; pages = s.pages; frames = fs }

abbrev pub with_names : State → List Binding → State
with_names s ns = record { stack = s.stack; names = ns; rings = s.rings; ring = s.ring; manner = s.manner; saved = s.saved; paints = s.paints; pages = s.pages; frames = s.frames }

abbrev pub with_paints : State → List Paint → List (List Paint) → State
with_paints s ps gs = record { stack = s.stack; names = s.names; rings = s.rings; ring = s.ring; manner = s.manner; saved = s.saved; paints = ps; pages = gs; frames = s.frames }

-- faults: 1 too little on the stack, 2 another kind than is wanted, 3 a number out of range, 4 a name that means nothing, 5 no point to go on from,
-- 6 no kept state to go back to, 7 too much: stack, frames, points, kept states, clips; 8 is the steps used up
abbrev pub push : State → List Value → Value → Went
push s vs v = cond (nat_lt (length vs) 256) (on (with_stack s (v ∷ vs))) (ends 7 s)

abbrev pub push_number : State → List Value → ℕ → Went
push_number s vs n = cond (nat_lt n 2147483648) (push s vs (amount n)) (ends 3 s)

unfoldable pub with_one : State → List Value → (ℕ → List Value → Went) → Went
with_one s [] f = ends 1 s
with_one s (amount n ∷ vs) f = f n vs
with_one s (code ts ∷ vs) f = ends 2 s
with_one s (label k ∷ vs) f = ends 2 s

-- the lower one first, then the upper one
unfoldable pub with_two : State → (ℕ → ℕ → List Value → Went) → Went
with_two s f = with_one s s.stack (λ b vs. with_one s vs (λ a us. f a b us))

unfoldable pub with_code : State → List Value → (Tokens → List Value → Went) → Went
with_code s [] f = ends 1 s
with_code s (amount n ∷ vs) f = ends 2 s
with_code s (code ts ∷ vs) f = f ts vs
with_code s (label k ∷ vs) f = ends 2 s

unfoldable pub points_in_all : List (List Ring) → ℕ
points_in_all [] = 0
points_in_all (c ∷ cs) = points c + points_in_all cs

-- a point of the page
abbrev pub placed : Manner → ℕ → ℕ → Point
placed m a b = record { x = m.left + a * m.scale; y = m.top + b * m.scale }

abbrev pub near_enough : Point → Bool
near_enough p = nat_lt p.x 16777216 && nat_lt p.y 16777216

unfoldable pub found : List Binding → ℕ → List Value → List Value
found [] k d = d
found (b ∷ bs) k d = cond (b.called == k) (b.means ∷ []) (found bs k d)

-- a name means one thing, the last
unfoldable pub rebound : List Binding → ℕ → Value → List Binding
rebound [] k v = record { called = k; means = v } ∷ []
rebound (b ∷ bs) k v = cond (b.called == k) (record { called = k; means = v } ∷ bs) (b ∷ rebound bs k v)

-- run a body so often
abbrev pub enter : State → Tokens → ℕ → Went
enter s ts n = cond (nat_lt (length s.frames) 64) (on (with_frames s (record { rest = none; again = n; whole = ts } ∷ s.frames))) (ends 7 s)

unfoldable pub go_to : State → ℕ → ℕ → List Value → Went
go_to s a b vs =
    let p : Point = placed s.manner a b in
    cond (near_enough p) (cond (nat_lt (points s.rings + length s.ring) 1024) (on (with_path (with_stack s vs) (finished s.rings s.ring) (p ∷ []))) (ends 7 s)) (ends 3 s)

unfoldable pub line_to : State → ℕ → ℕ → List Value → Ring → Went
line_to s a b vs [] = ends 5 s
line_to s a b vs (q ∷ qs) =
    let p : Point = placed s.manner a b in
    cond (near_enough p) (cond (nat_lt (points s.rings + length s.ring) 1024) (on (with_path (with_stack s vs) s.rings ((q ∷ qs) ++ (p ∷ [])))) (ends 7 s)) (ends 3 s)

abbrev pub whole_path : State → List Ring
whole_path s = finished s.rings s.ring

unfoldable pub bind : State → List Value → Went
bind s [] = ends 1 s
bind s (v ∷ []) = ends 1 s
bind s (v ∷ (label k ∷ vs)) = on (with_names (with_stack s vs) (rebound s.names k v))
bind s (v ∷ (amount n ∷ vs)) = ends 2 s
bind s (v ∷ (code ts ∷ vs)) = ends 2 s

unfoldable pub top_two : State → List Value → (Value → Value → List Value → Went) → Went
top_two s [] f = ends 1 s
top_two s (b ∷ []) f = ends 1 s
top_two s (b ∷ (a ∷ vs)) f = f a b vs

unfoldable pub top_one : State → List Value → (Value → List Value → Went) → Went
top_one s [] f = ends 1 s
top_one s (a ∷ vs) f = f a vs

unfoldable pub back_to : State → List Manner → Went
back_to s [] = ends 6 s
back_to s (m ∷ ms) = on (with_manner s m ms)

-- the operators
unfoldable pub operate : State → Operator → Went
operate s adds = with_two s (λ a b vs. push_number s vs (a + b))
operate s takes = with_two s (λ a b vs. cond (nat_le b a) (push_number s vs (a - b)) (ends 3 s))
operate s multiplies = with_two s (λ a b vs. push_number s vs (a * b))
operate s divides = with_two s (λ a b vs. cond (b == 0) (ends 3 s) (push_number s vs (a / b)))
operate s is_less = with_two s (λ a b vs. push_number s vs (cond (nat_lt a b) 1 0))
operate s copies = top_one s s.stack (λ a vs. push s (a ∷ vs) a)
operate s drops = top_one s s.stack (λ a vs. on (with_stack s vs))
operate s swaps = top_two s s.stack (λ a b vs. on (with_stack s (a ∷ (b ∷ vs))))
operate s defines = bind s s.stack
operate s repeats = with_code s s.stack (λ ts vs. with_one s vs (λ n us. enter (with_stack s us) ts n))
operate s when = with_code s s.stack (λ ts vs. with_one s vs (λ n us. enter (with_stack s us) ts (cond (n == 0) 0 1)))
operate s moves = with_two s (λ a b vs. go_to s a b vs)
operate s lines = with_two s (λ a b vs. line_to s a b vs s.ring)
operate s fills = on (with_path (with_paints s (s.paints ++ (record { path = whole_path s; clips = s.manner.clips; grey = s.manner.grey } ∷ [])) s.pages) [] [])
operate s clips_by = cond (nat_le (1 + points (whole_path s) + (points_in_all s.manner.clips + length s.manner.clips)) 1024) (on (with_path (with_manner s (record { grey = s.manner.grey; scale = s.manner.scale; left = s.manner.left; top = s.manner.top; clips = whole_path s ∷ s.manner.clips }) s.saved) [] [])) (ends 7 s)
operate s greys = with_one s s.stack (λ n vs. cond (nat_lt n 256) (on (with_manner (with_stack s vs) (record { grey = n; scale = s.manner.scale; left = s.manner.left; top = s.manner.top; clips = s.manner.clips }) s.saved)) (ends 3 s))
operate s shifts = with_two s (λ a b vs. cond (near_enough (placed s.manner a b)) (on (with_manner (with_stack s vs) (record { grey = s.manner.grey; scale = s.manner.scale; left = (placed s.manner a b).x; top = (placed s.manner a b).y; clips = s.manner.clips }) s.saved)) (ends 3 s))
operate s scales = with_one s s.stack (λ n vs. cond (nat_lt (s.manner.scale * n / 16) 65536) (on (with_manner (with_stack s vs) (record { grey = s.manner.grey; scale = s.manner.scale * n / 16; left = s.manner.left; top = s.manner.top; clips = s.manner.clips }) s.saved)) (ends 3 s))
operate s keeps = cond (nat_lt (length s.saved) 16) (on (with_manner s s.manner (s.manner ∷ s.saved))) (ends 7 s)
operate s back = back_to s s.saved
operate s shows = on (with_path (with_paints s [] (s.pages ++ (s.paints ∷ []))) [] [])

unfoldable pub call : State → List Value → Went
call s [] = ends 4 s
call s (amount n ∷ vs) = push s s.stack (amount n)
call s (code ts ∷ vs) = enter s ts 1
call s (label k ∷ vs) = push s s.stack (label k)

unfoldable pub run_token : State → Token → Went
run_token s (number n) = push s s.stack (amount n)
run_token s (does k) = operate s k
run_token s (name k) = call s (found s.names k [])
run_token s (quoted k) = push s s.stack (label k)
run_token s (body ts) = push s s.stack (code ts)

-- one step: the next token of the innermost frame, or its body again, or back to the frame around it
unfoldable pub advance : State → Tokens → ℕ → Tokens → List Frame → Went
advance s (more t ts) n w fs = run_token (with_frames s (record { rest = ts; again = n; whole = w } ∷ fs)) t
advance s none (suc n) w fs = on (with_frames s (record { rest = w; again = n; whole = w } ∷ fs))
advance s none zero w fs = on (with_frames s fs)

unfoldable pub step_in : State → List Frame → Went
step_in s [] = ends 0 s
step_in s (f ∷ fs) = advance s f.rest f.again f.whole fs

abbrev pub step : State → Went
step s = step_in s s.frames

-- a job ends by itself, by a fault, or because its steps are used up
unfoldable pub go_on : Went → (State → Went) → Went
go_on (on s) f = f s
go_on (ends e s) f = ends e s

unfoldable pub at_end : List Frame → State → Went
at_end [] s = ends 0 s
at_end (f ∷ fs) s = ends 8 s

unfoldable pub run : ℕ → State → Went
run zero s = at_end s.frames s
run (suc n) s = go_on (step s) (λ t. run n t)

abbrev pub plainly : Manner
plainly = record { grey = 0; scale = 16; left = 0; top = 0; clips = [] }

abbrev pub begin : Tokens → State
begin ts = record { stack = []; names = []; rings = []; ring = []; manner = plainly; saved = []; paints = []; pages = []; frames = record { rest = ts; again = 0; whole = none } ∷ [] }
