use Rattle.std.proofs.Common.{take, rules, tests, bytes_eq, sym, refl, ◌∙◌, subst, arith}
use Rattle.std.proofs.lemmas.Bool.{le-ltb}
use Rattle.std.proofs.lemmas.Iterator.{YieldsList-from_slice}
use Rattle.std.proofs.lemmas.Iterator.Search.{position_from_yields_List}
use Rattle.words.specs.Naming.{words_of}
use Rattle.words.proofs.Naming.{Looked, found_place, known_many, place_within, with_known, entered_new}
use Rattle.words.proofs.names.Names.enter.Goals.{After-position}
use Rattle.words.proofs.names.Names.enter.Goals as goal

-- what the look-up told
looked : (c : After-position) → Looked (words_of c.args.self.now) c.args.letters.now c.position.result
looked c =
    let ns = take c.args.self.now.count c.args.self.now.words.now in
    let w = c.args.letters.now in
    found_place ns w c.position.result (position_from_yields_List (λ r. bytes_eq r.now w) _ _ c.position.result c.position.ensures.ran (YieldsList-from_slice ns (c.iter.ensures.rest ∙ c.known-known.ensures)) (λ x b q k. search (rules, tests)))

pub returns-in-Some : goal.returns-in-Some
returns-in-Some c =
    let n = c.args.self.now in
    let found = subst (Looked (words_of n) c.args.letters.now) c.in-Some.is (looked (goal.at.returns-in-Some c).After-position) in
    let m = known_many n.words.now n.count (omega (arith, n.whole, n.fits)) in
    (found.0, omega (arith, found.1, n.fits), sym (with_known (words_of n) c.args.letters.now (omega (arith, found.0, found.1))))

pub returns-then-self-eq-NAMES : goal.returns-then-self-eq-NAMES
returns-then-self-eq-NAMES c =
    let n = c.args.self.now in
    let m = known_many n.words.now n.count (omega (arith, n.whole, n.fits)) in
    let new = subst (Looked (words_of n) c.args.letters.now) c.in_default.is (looked (goal.at.returns-then-self-eq-NAMES c).After-position) in
    (le-ltb _ _ (omega arith), refl)

pub returns : goal.returns
returns c =
    let n = c.args.self.now in
    let m = known_many n.words.now n.count (omega (arith, n.whole, n.fits)) in
    let new = subst (Looked (words_of n) c.args.letters.now) c.in_default.is (looked (goal.at.returns c).After-position) in
    let bound = place_within (words_of n) c.args.letters.now in
    (omega arith, omega (arith, n.fits), entered_new n.words.now n.count c.args.letters (omega (arith, n.whole, n.fits)) (omega arith))
