use Rattle.std.proofs.Common.{◌+◌, [], ◌++◌, length, get_or, take, drop, sym, ap, ◌∙◌, arith}
use Rattle.raster.specs.Coverage.{rows}
use Rattle.raster.proofs.BandLaws.{length-rows}
use Rattle.session.specs.Jobs.{shown}
use Rattle.session.specs.Views.{answer_of}
use Rattle.page_text.proofs.Answered.{by_dots, by_refusal, by_end}
use Rattle.page_text.proofs.page.put_band.Goals as goal

pub returns-then-size-out : goal.returns-then-size-out
returns-then-size-out c =
    let at = c.args.at in
    let out = c.args.out.now in
    record {
      within = omega (arith, c.copy_at.auto.out);
      serves = λ j h s. ((c.ask.ensures.printer h).0, (c.ask.ensures.right j h s).1);
      right = λ j h s few fits.
          let a = (c.ask.ensures.right j h s).0 in
          let d = by_dots j c.args.page c.args.row c.args.rows _ few (sym (ap (λ z. answer_of z c.ask.new.self.bytes.now) c.in-Dots.is) ∙ a) in
          let b = c.rows-band.ensures ∙ d.2 in
          let n = length-rows (get_or (shown j) c.args.page []) j.wide c.args.row c.args.rows in (
            d.0,
            d.1,
            ap (λ z. at + length z) b ∙ ap (λ z. at + z) n,
            c.copy_at.ensures ∙ ap (λ z. take at out ++ (z ++ drop (at + length z) out)) b ∙ ap (λ z. take at out ++ (rows (get_or (shown j) c.args.page []) j.wide c.args.row c.args.rows ++ drop (at + z) out)) n,
          );
    }

-- the rows of the answer have room, so this way is not taken
pub returns-else-size-out : goal.returns-else-size-out
returns-else-size-out c =
    record {
      within = tt;
      serves = λ j h s. ((c.ask.ensures.printer h).0, (c.ask.ensures.right j h s).1);
      right = λ j h s few fits.
          let a = (c.ask.ensures.right j h s).0 in
          let d = by_dots j c.args.page c.args.row c.args.rows _ few (sym (ap (λ z. answer_of z c.ask.new.self.bytes.now) c.in-Dots.is) ∙ a) in
          let b = c.rows-band.ensures ∙ d.2 in
          let n = length-rows (get_or (shown j) c.args.page []) j.wide c.args.row c.args.rows in
          omega (arith, ap length b, n, c.if-size-out.false);
    }

pub returns-in-Unanswered : goal.returns-in-Unanswered
returns-in-Unanswered c =
    record {
      within = tt;
      serves = λ j h s. ((c.ask.ensures.printer h).0, (c.ask.ensures.right j h s).1);
      right = λ j h s few fits.
          let a = (c.ask.ensures.right j h s).0 in
          by_refusal c.in-Unanswered.reason j c.args.page c.args.row c.args.rows c.args.at c.args.out.now few (sym (ap (λ z. answer_of z c.ask.new.self.bytes.now) c.in-Unanswered.is) ∙ a);
    }

pub returns-in-Ended : goal.returns-in-Ended
returns-in-Ended c =
    record {
      within = tt;
      serves = λ j h s. ((c.ask.ensures.printer h).0, (c.ask.ensures.right j h s).1);
      right = λ j h s few fits.
          let a = (c.ask.ensures.right j h s).0 in
          by_end j c.args.page c.args.row c.args.rows _ _ few (sym (ap (λ z. answer_of z c.ask.new.self.bytes.now) c.in-Ended.is) ∙ a);
    }
