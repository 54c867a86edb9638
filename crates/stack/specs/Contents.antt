-- What a stack holds. Cited by the contracts of its methods and by who holds one. Assumes nothing: these are definitions.
use Rattle.std.specs.Prelude.{ℕ, List, reverse, take}
use Rattle.stack.specs.declared.Stack.{Stack}

-- the items, the top first
abbrev pub top_down : {T : Type 0} {N : ℕ} → Stack T N → List T
top_down s = reverse (take s.len s.items)
