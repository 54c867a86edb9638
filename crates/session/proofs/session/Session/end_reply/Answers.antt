use Rattle.std.proofs.Common.{length, refl, ap, ◌∙◌}
use Rattle.tokens.specs.Stored.{decode}
use Rattle.machine.specs.Machine.{begin}
use Rattle.machine.proofs.Staged.{whole_is_whole}
use Rattle.machine.specs.Laws.{state_of, end_of}
use Rattle.session.specs.Jobs.{how_it_ends, ended}
use Rattle.session.specs.Regions.{pages_at, answer_in, put_answer}
use Rattle.session.proofs.Answering.{run_at, answered}
use Rattle.session.proofs.session.Session.end_reply.Goals as goal

pub returns : goal.returns
unfolding answer_in put_answer
returns c =
    let s = c.args.self.now in
    let ran = whole_is_whole c.steps.result (begin (decode s.text.now)) ∙ run_at s.text.now s.header.now c.steps.result c.steps.ensures in
    let e = c.count_pages-outcome.ensures in
    let pages = e.pages ∙ ap (λ w. length (state_of w).pages) ran in
    let ending = c.from.ensures ∙ e.ended ∙ ap end_of ran in
    let told = ap (λ z. ended z c.from.result) pages ∙ ap (ended (length (pages_at s.text.now s.header.now))) ending in
    let r = answered s.text.now s.header.now s.path.now s.clips.now s.kept.now s.bytes.now _ _ s.bytes.now how_it_ends _ c.requires told refl e.words e.clips in
    record { answer = r.0; memory = r.1 }
