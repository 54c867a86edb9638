-- The numbers that are told to the outside: of faults, and of operators that a stage can't do. Cited by the contracts of steps and runs. Assumes nothing: these are definitions.
use Rattle.std.specs.Prelude.{ℕ, ◌+◌}
use Rattle.tokens.specs.Token.{Operator, number_of}
use Rattle.path.specs.declared.builder.PathError.{PathError}
use Rattle.path.specs.declared.builder.PathError.TheVariants.{NoSubpath, TooManyPoints}
use Rattle.machine.specs.declared.event.Fault.{Fault}
use Rattle.machine.specs.declared.event.Fault.TheVariants.{StackUnderflow, WrongKind, OutOfRange, Undefined, NoCurrentPoint, NothingKept, LimitExceeded, StepsUsedUp}

abbrev pub fault_number : Fault → ℕ
fault_number StackUnderflow = 1
fault_number WrongKind = 2
fault_number OutOfRange = 3
fault_number Undefined = 4
fault_number NoCurrentPoint = 5
fault_number NothingKept = 6
fault_number LimitExceeded = 7
fault_number StepsUsedUp = 8

-- how a job ends where its path refuses a point
abbrev pub fault_of : PathError → Fault
fault_of NoSubpath = NoCurrentPoint
fault_of TooManyPoints = LimitExceeded

abbrev pub unsupported : Operator → ℕ
unsupported k = 9 + number_of k
