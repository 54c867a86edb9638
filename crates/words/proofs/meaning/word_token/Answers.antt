use Rattle.std.proofs.Common.{Bool, true, false, sym, refl, ap, ◌∙◌, subst, arith}
use Rattle.std.specs.Bool.{then_some}
use Rattle.std.proofs.lemmas.Bool.{lt-ltb}
use Rattle.tokens.specs.Token.{name}
use Rattle.tokens.specs.declared.Token as code_token
use Rattle.lexer.specs.Reading.{as_token, word_limit, words_after}
use Rattle.words.specs.Naming.{words_of}
use Rattle.words.specs.Meaning.{WordRead, ReadAs}
use Rattle.words.specs.declared.names.Names.{Names}
use Rattle.tokens.specs.Stored.{token_of}
use Rattle.words.proofs.meaning.word_token.Goals as goal

-- an operator is its token where it can be done
then_read : (b : Bool) (t : code_token.Token) (n : Names) → ReadAs b (token_of t) (words_of n) (then_some b t) n
then_read true t n = (refl, refl, refl)
then_read false t n = refl

pub returns-in-Some : goal.returns-in-Some
unfolding word_limit words_after as_token
returns-in-Some g c =
    let w = c.args.letters.now in
    let n = c.args.names.now in
    let t = code_token.TheVariants.Does c.in-Some.op in
    subst (λ f. ReadAs (word_limit f g.S.Stage.can (words_of n) w) (as_token f (words_of n) w) (words_after f (words_of n) w) c.then_some.result n) c.in-Some.ensures
    (subst (λ b. ReadAs b (token_of t) (words_of n) c.then_some.result n) c.does.ensures
    (subst (λ r. ReadAs c.does.result (token_of t) (words_of n) r n) (sym c.then_some.ensures) (then_read c.does.result t n)))

pub returns-in_err-enter-in-None : goal.returns-in_err-enter-in-None
unfolding word_limit
returns-in_err-enter-in-None g c =
    let w = c.args.letters.now in
    let above = ap (λ f. word_limit f g.S.Stage.can (words_of c.args.names.now) w) (sym c.in-None.ensures) ∙ c.in_err-enter-in-None.ensures.0 in
    subst (λ r. WordRead g.S.Stage.can r w c.args.names.now c.enter.new.self) (sym c.from_residual.ensures) above

pub returns-in_ok-enter-in-None : goal.returns-in_ok-enter-in-None
unfolding word_limit words_after as_token
returns-in_ok-enter-in-None g c =
    let w = c.args.letters.now in
    let ws = words_of c.args.names.now in
    let is = c.in-None.ensures in
    let entered = c.in_ok-enter-in-None.ensures in
    (ap (λ f. word_limit f g.S.Stage.can ws w) (sym is) ∙ lt-ltb _ _ (omega (arith, entered.0, entered.1)), ap name entered.0 ∙ ap (λ f. as_token f ws w) is, entered.2 ∙ ap (λ f. words_after f ws w) is)
