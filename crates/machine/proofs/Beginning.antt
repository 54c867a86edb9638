-- The machine before its first step.
use Rattle.std.proofs.Common.{◌≡◌, List, [], refl, ap, ◌∙◌}
use Rattle.tokens.specs.Token.{none}
use Rattle.tokens.specs.Stored.{decode, decode_in}
use Rattle.path.specs.Path.{Ring}
use Rattle.machine.specs.Machine.{Value, Binding, Manner, Frame, State}

-- nothing is left in no words
pub nothing : decode [] ≡ none
unfolding decode decode_in
nothing = refl

abbrev begun : List Value → List Binding → List Ring → Ring → Manner → List Manner → List Frame → State
begun vs ns rs r m ms fs = record { stack = vs; names = ns; rings = rs; ring = r; manner = m; saved = ms; paints = []; pages = []; frames = fs }

-- states with nothing painted or shown are the same where their parts are
pub same_begun : {vs vs' : List Value} {ns ns' : List Binding} {rs rs' : List Ring} {r r' : Ring} {m m' : Manner} {ms ms' : List Manner} {fs fs' : List Frame} →
    vs ≡ vs' → ns ≡ ns' → rs ≡ rs' → r ≡ r' → m ≡ m' → ms ≡ ms' → fs ≡ fs' → begun vs ns rs r m ms fs ≡ begun vs' ns' rs' r' m' ms' fs'
same_begun {vs} {vs'} {ns} {ns'} {rs} {rs'} {r} {r'} {m} {m'} {ms} {ms'} {fs} {fs'} a b c d e f h =
    ap (λ x. begun x ns rs r m ms fs) a ∙ ap (λ x. begun vs' x rs r m ms fs) b ∙ ap (λ x. begun vs' ns' x r m ms fs) c ∙ ap (λ x. begun vs' ns' rs' x m ms fs) d
    ∙ ap (λ x. begun vs' ns' rs' r' x ms fs) e ∙ ap (λ x. begun vs' ns' rs' r' m' x fs) f ∙ ap (begun vs' ns' rs' r' m' ms') h
