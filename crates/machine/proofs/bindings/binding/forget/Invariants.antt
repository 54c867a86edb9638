use Rattle.std.proofs.Common.{◌≡◌, length, take, replicate, None}
use Rattle.machine.proofs.bindings.binding.forget.Given as goal

-- in front of the index nothing is meant
abbrev pub invariant-loop-meaning : goal.invariant-loop-meaning
invariant-loop-meaning l = (length l.meanings ≡ length l.initial.meanings) × (take l.meaning-index l.meanings ≡ replicate l.meaning-index None)
