use Rattle.tokens.specs.Token.{number_of}
use Rattle.tokens.specs.Stored.{operator_of}
use Rattle.std.proofs.Common.{◌≡◌, refl}
use Rattle.tokens.specs.declared.operator.Operator as code_operator
use Rattle.tokens.specs.contracts.operator.Operator.{the_type}
use denote.Enum.Declared.{tag_of}
use Rattle.tokens.proofs.operator.U8FromOperator.from.Goals as goal

tag_is : (op : code_operator.Operator) → tag_of the_type op ≡ number_of (operator_of op)
unfolding number_of
tag_is code_operator.TheVariants.Adds = refl
tag_is code_operator.TheVariants.Takes = refl
tag_is code_operator.TheVariants.Multiplies = refl
tag_is code_operator.TheVariants.Divides = refl
tag_is code_operator.TheVariants.IsLess = refl
tag_is code_operator.TheVariants.Copies = refl
tag_is code_operator.TheVariants.Drops = refl
tag_is code_operator.TheVariants.Swaps = refl
tag_is code_operator.TheVariants.Defines = refl
tag_is code_operator.TheVariants.Repeats = refl
tag_is code_operator.TheVariants.When = refl
tag_is code_operator.TheVariants.Moves = refl
tag_is code_operator.TheVariants.Lines = refl
tag_is code_operator.TheVariants.Fills = refl
tag_is code_operator.TheVariants.ClipsBy = refl
tag_is code_operator.TheVariants.Greys = refl
tag_is code_operator.TheVariants.Shifts = refl
tag_is code_operator.TheVariants.Scales = refl
tag_is code_operator.TheVariants.Keeps = refl
tag_is code_operator.TheVariants.Back = refl
tag_is code_operator.TheVariants.Shows = refl

pub returns : goal.returns
returns c = tag_is c.args.op
