use Rattle.std.proofs.Common.{◌<◌, ◌⊎◌, length, ◌∙◌, inl, inr, arith}
use Rattle.session.specs.Views.{asked_of}
use Rattle.session.proofs.Answering.{unanswered}
use Rattle.session.proofs.session.Session.reply.Goals as goal
use Rattle.session.proofs.session.Session.reply.Goals.{then-self-lt-PATH-via-then-self-lt-PATH, then-self-lt-PATH-via-else-self-lt-PATH+then-self-lt-CLIPS}

pub returns-then-self-lt-PATH : goal.returns-then-self-lt-PATH
returns-then-self-lt-PATH c =
    let s = c.args.self.now in
    let tight : (length s.path.now < 3072) ⊎ (length s.clips.now < 3072) =
    elim c.then-self-lt-PATH.branch [
      | then-self-lt-PATH-via-then-self-lt-PATH w ↦ inl (omega arith)
      | then-self-lt-PATH-via-else-self-lt-PATH+then-self-lt-CLIPS w ↦ inr (omega arith)
    ] in
    let r = unanswered s.text.now s.header.now s.path.now s.clips.now s.kept.now s.bytes.now (asked_of c.args.question) tight in
    record { answer = r.0; memory = c.zero_all.ensures ∙ r.1 }
