use Rattle.std.proofs.Common.{bytes_eq, ◌≡◌, rules, ap, ◌∙◌, tests}
use Rattle.std.specs.List.{find}
use Rattle.std.specs.Option.{option_map}
use Rattle.std.proofs.lemmas.Iterator.{YieldsList-from_slice}
use Rattle.std.proofs.lemmas.Iterator.Search.{find_from_yields_List}
use Rattle.tokens.specs.Stored.{operator_of}
use Rattle.words.specs.Spelling.{spelled, found_as}
use Rattle.words.specs.declared.operators.TheConstants.{OPERATORS}
use Rattle.words.proofs.Spelling.{found_in, all_named}
use Rattle.words.proofs.operators.operator_named.Goals as goal

pub returns : goal.returns
returns c =
    let w = c.args.letters.now in
    let found : option_map (λ r. r.now) c.find.result ≡ find (λ o. bytes_eq w (spelled (operator_of o))) OPERATORS =
    find_from_yields_List (λ o. bytes_eq w (spelled (operator_of o))) _ _ c.find.result c.find.ensures.ran (YieldsList-from_slice OPERATORS c.iter.ensures.rest) (λ x b q k. search (rules, tests)) in
    let copy : c.copied.result ≡ option_map (λ r. r.now) c.find.result = search rules in
    ap found_as (copy ∙ found) ∙ found_in OPERATORS w ∙ all_named w
