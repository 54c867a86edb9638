-- Which failures are messages, and what the message of an unknown option says. Cited by the contracts of failure. Assumes nothing: these are definitions.
use Rattle.std.specs.Prelude.{ℕ, List, ◌++◌, codes, string_bytes}
use Rattle.failure.specs.declared.Failure.{Failure}
use Rattle.failure.specs.declared.Failure.TheVariants.{Said, Told, NoMemory, Io}

-- a message of its own of such bytes, or no memory for one
abbrev pub Message : (List ℕ → Type 0) → Failure → Type 0
Message p (Said s) = p (string_bytes s)
Message p (Told t) = ⊥
Message p NoMemory = Unit {0}
Message p (Io e) = ⊥

-- how a program is told that it has no such option
abbrev pub unknown_bytes : List ℕ → List ℕ
unknown_bytes option = codes "unknown option " ++ (option ++ codes ": --help lists the options")
