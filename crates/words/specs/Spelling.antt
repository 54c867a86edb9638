-- How operators are spelled, and what the code answers of a word. Cited by the contracts of operators. Assumes nothing: these are definitions.
use Rattle.std.specs.Prelude.{ℕ, List, [], ◌∷◌, Some, None, Option}
use Rattle.tokens.specs.declared.operator.Operator as code
use Rattle.tokens.specs.Token.{Operator, adds, takes, multiplies, divides, is_less, copies, drops, swaps, defines, repeats, when, moves, lines, fills, clips_by, greys, shifts, scales, keeps, back, shows}
use Rattle.lexer.specs.Reading.{Found, operator, no_operator}
use Rattle.tokens.specs.Stored.{operator_of}

-- the code's answer to which operator a word is
abbrev pub found_as : Option code.Operator → Found
found_as None = no_operator
found_as (Some op) = operator (operator_of op)

-- how an operator is spelled, in bytes
abbrev pub spelled : Operator → List ℕ
spelled adds = 97 ∷ (100 ∷ (100 ∷ (115 ∷ [])))
spelled takes = 116 ∷ (97 ∷ (107 ∷ (101 ∷ (115 ∷ []))))
spelled multiplies = 109 ∷ (117 ∷ (108 ∷ (116 ∷ (105 ∷ (112 ∷ (108 ∷ (105 ∷ (101 ∷ (115 ∷ [])))))))))
spelled divides = 100 ∷ (105 ∷ (118 ∷ (105 ∷ (100 ∷ (101 ∷ (115 ∷ []))))))
spelled is_less = 105 ∷ (115 ∷ (45 ∷ (108 ∷ (101 ∷ (115 ∷ (115 ∷ []))))))
spelled copies = 99 ∷ (111 ∷ (112 ∷ (105 ∷ (101 ∷ (115 ∷ [])))))
spelled drops = 100 ∷ (114 ∷ (111 ∷ (112 ∷ (115 ∷ []))))
spelled swaps = 115 ∷ (119 ∷ (97 ∷ (112 ∷ (115 ∷ []))))
spelled defines = 100 ∷ (101 ∷ (102 ∷ (105 ∷ (110 ∷ (101 ∷ (115 ∷ []))))))
spelled repeats = 114 ∷ (101 ∷ (112 ∷ (101 ∷ (97 ∷ (116 ∷ (115 ∷ []))))))
spelled when = 119 ∷ (104 ∷ (101 ∷ (110 ∷ [])))
spelled moves = 109 ∷ (111 ∷ (118 ∷ (101 ∷ (115 ∷ []))))
spelled lines = 108 ∷ (105 ∷ (110 ∷ (101 ∷ (115 ∷ []))))
spelled fills = 102 ∷ (105 ∷ (108 ∷ (108 ∷ (115 ∷ []))))
spelled clips_by = 99 ∷ (108 ∷ (105 ∷ (112 ∷ (115 ∷ (45 ∷ (98 ∷ (121 ∷ [])))))))
spelled greys = 103 ∷ (114 ∷ (101 ∷ (121 ∷ (115 ∷ []))))
spelled shifts = 115 ∷ (104 ∷ (105 ∷ (102 ∷ (116 ∷ (115 ∷ [])))))
spelled scales = 115 ∷ (99 ∷ (97 ∷ (108 ∷ (101 ∷ (115 ∷ [])))))
spelled keeps = 107 ∷ (101 ∷ (101 ∷ (112 ∷ (115 ∷ []))))
spelled back = 98 ∷ (97 ∷ (99 ∷ (107 ∷ [])))
spelled shows = 115 ∷ (104 ∷ (111 ∷ (119 ∷ (115 ∷ []))))
