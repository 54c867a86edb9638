-- Two small jobs with their pages, as statements about the definitions alone, each owed where a function's contract names it. Assumes nothing: these are definitions.
use Rattle.std.specs.Prelude.{◌≡◌, ℕ, cond, List, ◌++◌, map, codes, ◌==◌}
use Rattle.tokens.specs.Stage.{whole}
use Rattle.lexer.specs.Reading.{Read, tokens, read}
use Rattle.lexer.specs.Reading as reading
use Rattle.session.specs.Jobs.{band, Answer, dots, refused, answer}

-- the whole first page of a text's job, in at most a thousand steps
unfoldable pub first_page : Read → ℕ → ℕ → Answer
first_page (reading.Read.refused k p) w h = refused k
first_page (tokens ts) w h = answer (record { text = ts; steps = 1000; wide = w; tall = h }) (band 0 0 h)

-- a # is a black dot, any other character a white one
abbrev pub drawn : List ℕ → List ℕ
drawn picture = map (λ c. cond (c == 35) 0 255) picture

abbrev pub Prints : List ℕ → ℕ → ℕ → List ℕ → Type 0
Prints text w h picture = first_page (read whole text) w h ≡ dots (drawn picture)

abbrev pub EmptyPagePrints : Type 0
EmptyPagePrints = Prints (codes "shows") 4 2 (codes "...." ++ codes "....")

abbrev pub SquarePrints : Type 0
SquarePrints =
    Prints (codes "1 1 moves 4 1 lines 4 3 lines 1 3 lines fills shows") 6 4
    (codes "......" ++ (codes ".###.." ++ (codes ".###.." ++ codes "......")))
