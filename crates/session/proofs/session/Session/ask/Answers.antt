use Rattle.std.proofs.Common.{sym, ◌∙◌, subst}
use Rattle.session.specs.Promise.{Serves}
use Rattle.session.specs.Regions.{Shaped, the_printer}
use Rattle.session.specs.Views.{regions_of, asked_of}
use Rattle.session.proofs.Cutting.{promised}
use Rattle.session.proofs.Serving.{serves_says, serves_next}
use Rattle.session.proofs.session.Session.ask.Goals as goal

pub returns : goal.returns
returns c =
    let e = c.reply.ensures in
    let q = asked_of c.args.question in
    let p = λ (h : Shaped (regions_of c.args.self.now)). promised (regions_of c.args.self.now) _ q _ e.memory e.answer h in
    record {
      answer = e.answer;
      memory = e.memory;
      printer = p;
      right = λ j h s. ((p h).1 ∙ serves_says the_printer j _ s q, subst (Serves the_printer j) (sym (p h).2) (serves_next the_printer j _ s q));
    }
