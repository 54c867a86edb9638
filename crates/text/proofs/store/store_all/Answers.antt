use Rattle.std.proofs.Common.{◌≡◌, [], ◌++◌, length, drop, sym, refl, ap, ◌∙◌, arith, take-append-drop}
use Rattle.std.proofs.lemmas.List.{append-nil}
use Rattle.tokens.specs.Token.{none, turned}
use Rattle.lexer.specs.Reading.{build}
use Rattle.lexer.specs.Lexing.{from}
use Rattle.tokens.specs.Stored.{all_stored}
use Rattle.text.proofs.store.store_all.Goals as goal

-- the row of the whole text is its tokens
pub returns : goal.returns
returns g c =
    let row = c.store_row.ensures.row in
    let n = c.store_row.result.used in
    let is : turned row.row none ≡ build (from c.args.source.now 0) [] [] [] = sym (row.built [] [] refl ∙ ap (λ z. turned z none) (append-nil row.row)) ∙ ap (λ ws. build (from c.args.source.now 0) ws [] []) c.new-names.ensures in
    record {
      value = row.ends ∙ (omega arith) ∙ ap (λ z. length (all_stored z)) is;
      after = sym (take-append-drop n c.store_row.new.words) ∙ ap (λ z. z ++ drop n c.store_row.new.words) (row.front ∙ ap all_stored is) ∙ ap (λ z. all_stored (build (from c.args.source.now 0) [] [] []) ++ z) row.behind;
    }
