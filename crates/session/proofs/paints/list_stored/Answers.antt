use Rattle.std.proofs.Common.{ℕ, min, List, ◌++◌, length, take, drop, sym, ap, ◌∙◌, rules}
use Rattle.std.proofs.lemmas.List.{take_at}
use Rattle.tokens.specs.Stored.{decode}
use Rattle.machine.specs.Machine.{run, begin}
use Rattle.machine.specs.Laws.{state_of}
use Rattle.listing.specs.Lines.{listing_of}
use Rattle.session.proofs.paints.list_stored.Goals as goal

pub returns : goal.returns
returns c =
    let text = c.split_at_mut-text.ensures in
    let e = c.list_things-length.ensures in
    let same = ap (λ (ws : List ℕ). listing_of (state_of (run c.args.steps (begin (decode ws))))) (sym (ap (take c.args.used) text.value ∙ take_at _ _ c.args.used text.front_len)) in
    record {
      value = e.value ∙ ap (λ t. min (length t) 18446744073709551615) same;
      words = search rules;
      bytes = e.bytes ∙ ap (λ t. take (length c.args.bytes.now) t ++ drop (length t) c.args.bytes.now) same;
    }
