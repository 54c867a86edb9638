-- How an unknown operator is printed. Cited by the contract of its Display. Assumes nothing: these are definitions.
use Rattle.std.specs.Prelude.{ℕ, List, ◌++◌, codes, decimal}
use Rattle.tokens.specs.declared.operator.UnknownOperator.{UnknownOperator}

-- the number that no operator has, behind what is wrong with it
abbrev pub unknown_bytes : UnknownOperator → List ℕ
unknown_bytes e = codes "no operator has number " ++ decimal e.0
