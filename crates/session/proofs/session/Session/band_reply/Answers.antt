use Rattle.std.proofs.Common.{◌≡◌, ltb, length, replicate, sym, ap, ◌∙◌, rules}
use Rattle.machine.specs.Laws.{state_of}
use Rattle.session.specs.Jobs.{band, refused}
use Rattle.session.proofs.Answering.{run_at, no_page, no_rows, zeros_put, rows_answer, answered}
use Rattle.session.proofs.session.Session.band_reply.Goals as goal

pub returns-then-shown : goal.returns-then-shown
returns-then-shown c =
    let s = c.args.self.now in
    let ran = run_at s.text.now s.header.now c.steps-steps.result c.steps-steps.ensures in
    let zeros : c.fill.new.self ≡ replicate (length s.bytes.now) 0 = search rules in
    let e = c.run_band-shown.ensures in
    let page = sym (e.shown ∙ ap (λ w. ltb c.args.page (length (state_of w).pages)) ran) ∙ c.if-shown.true in
    let a = no_rows _ _ _ _ _ _ _ _ page c.in_default.ensures in
    let r = answered s.text.now s.header.now s.path.now s.clips.now s.kept.now s.bytes.now _ _ _ (band c.args.page c.args.row c.args.rows) (refused 5) c.requires (sym a) (zeros ∙ zeros_put _ 5 _ a) e.path e.clips in
    record { answer = r.0; memory = r.1 }

pub returns-else-shown : goal.returns-else-shown
returns-else-shown c =
    let s = c.args.self.now in
    let ran = run_at s.text.now s.header.now c.steps-steps.result c.steps-steps.ensures in
    let zeros : c.fill.new.self ≡ replicate (length s.bytes.now) 0 = search rules in
    let e = c.run_band-shown.ensures in
    let page = sym (e.shown ∙ ap (λ w. ltb c.args.page (length (state_of w).pages)) ran) ∙ c.if-shown.false in
    let a = no_page _ _ _ _ _ _ _ _ page in
    let r = answered s.text.now s.header.now s.path.now s.clips.now s.kept.now s.bytes.now _ _ _ (band c.args.page c.args.row c.args.rows) (refused 4) c.requires (sym a) (zeros ∙ zeros_put _ 4 _ a) e.path e.clips in
    record { answer = r.0; memory = r.1 }

pub returns-then-run_band : goal.returns-then-run_band
returns-then-run_band c =
    let s = c.args.self.now in
    let ran = run_at s.text.now s.header.now c.steps-steps.result c.steps-steps.ensures in
    let e = c.run_band.ensures in
    let b = c.in-Some.ensures in
    let page = sym (e.shown ∙ ap (λ w. ltb c.args.page (length (state_of w).pages)) ran) ∙ c.if-run_band.true in
    let put = rows_answer _ _ _ _ _ _ _ _ _ _ _ _ s.bytes.now _ (ap (λ w. (state_of w).pages) ran) b.1 b.2 b.3 page b.0 (e.rows c.if-run_band.true) in
    let r = answered s.text.now s.header.now s.path.now s.clips.now s.kept.now s.bytes.now _ _ _ (band c.args.page c.args.row c.args.rows) _ c.requires put.0 put.1 e.path e.clips in
    record { answer = r.0; memory = r.1 }

pub returns-else-run_band : goal.returns-else-run_band
returns-else-run_band c =
    let s = c.args.self.now in
    let ran = run_at s.text.now s.header.now c.steps-steps.result c.steps-steps.ensures in
    let e = c.run_band.ensures in
    let page = sym (e.shown ∙ ap (λ w. ltb c.args.page (length (state_of w).pages)) ran) ∙ c.if-run_band.false in
    let a = no_page _ _ _ _ _ _ _ _ page in
    let r = answered s.text.now s.header.now s.path.now s.clips.now s.kept.now s.bytes.now _ _ _ (band c.args.page c.args.row c.args.rows) (refused 4) c.requires (sym a) (e.none c.if-run_band.false ∙ zeros_put _ 4 _ a) e.path e.clips in
    record { answer = r.0; memory = r.1 }
