use Rattle.std.proofs.Common.{◌+◌, Ok, sym, refl, ap, ◌∙◌, subst, arith}
use Rattle.path.specs.Extent.{ExtentOf}
use Rattle.path.specs.Stored.{rings_in}
use Rattle.tokens.specs.Stored.{operator_of}
use Rattle.machine.specs.Numbers.{fault_number, unsupported}
use Rattle.machine.specs.Abstraction.{no_past, with_painted, with_page, state, thing_of, after_event, OnlyOutside}
use Rattle.machine.specs.declared.event.Fault.TheVariants.{StepsUsedUp}
use Rattle.run.specs.declared.drive.Ending.TheVariants.{Finished, Failed, Unsupported, Stopped}
use Rattle.run.proofs.Driving.{never, run_all, run_on, told_none, told_painted, told_page, closes, rests, same_paint, page_more, closed, rested, same_end}
use Rattle.run.proofs.drive.drive.Goals.{in-On, in-Painted, in-Shown+else-not-shown}
use Rattle.run.proofs.drive.drive.Goals as goal

pub loop-i-init : goal.loop-i-init
loop-i-init g c = (no_past, λ k. run_all g.S.Stage.can k _, told_none g.E.Sink.paint g.E.Sink.page _, omega arith, refl)

pub returns-in-Finished : goal.returns-in-Finished
returns-in-Finished g c =
    let inv = c.loop-i.invariant in
    let t = inv.0 in
    let m = c.step.new.m in
    let p = c.step.new.path in
    let went = ap (λ e. after_event e m p t) (sym c.in-Finished.is) ∙ c.in-Ok.ensures.steps t in
    record {
      driven = closes g.E.Sink.paint g.E.Sink.page g.S.Stage.can g.E.Sink.more Finished c.args.steps c.loop-i.i _ (state m p t) _ _ _ refl (omega arith) went inv.1 inv.2 inv.3;
      after = λ _. same_end m p t _ (closed g.S.Stage.can c.args.steps c.loop-i.i 0 _ (state m p t) _ (omega arith) went inv.1);
      lent = inv.4;
      unsupported = tt;
    }

pub returns-in-Unsupported : goal.returns-in-Unsupported
returns-in-Unsupported g c =
    let inv = c.loop-i.invariant in
    let t = inv.0 in
    let m = c.step.new.m in
    let p = c.step.new.path in
    let op = c.in-Unsupported.op in
    let went = ap (λ e. after_event e m p t) (sym c.in-Unsupported.is) ∙ c.in-Ok.ensures.steps t in
    record {
      driven = closes g.E.Sink.paint g.E.Sink.page g.S.Stage.can g.E.Sink.more (Unsupported op) c.args.steps c.loop-i.i _ (state m p t) _ _ _ refl (omega arith) went inv.1 inv.2 inv.3;
      after = λ _. same_end m p t _ (closed g.S.Stage.can c.args.steps c.loop-i.i (unsupported (operator_of op)) _ (state m p t) _ (omega arith) went inv.1);
      lent = inv.4;
      unsupported = subst (λ e. OnlyOutside g.S.Stage.can (Ok e)) c.in-Unsupported.is c.in-Ok.ensures.unsupported;
    }

pub returns-in-Err : goal.returns-in-Err
returns-in-Err g c =
    let inv = c.loop-i.invariant in
    let t = inv.0 in
    let m = c.step.new.m in
    let p = c.step.new.path in
    record {
      driven = closes g.E.Sink.paint g.E.Sink.page g.S.Stage.can g.E.Sink.more (Failed c.in-Err.fault) c.args.steps c.loop-i.i _ (state m p t) _ _ _ refl (omega arith) (c.in-Err.ensures.steps t) inv.1 inv.2 inv.3;
      after = λ _. same_end m p t _ (closed g.S.Stage.can c.args.steps c.loop-i.i (fault_number c.in-Err.fault) _ (state m p t) _ (omega arith) (c.in-Err.ensures.steps t) inv.1);
      lent = inv.4;
      unsupported = tt;
    }

-- a sink that wants no more has seen the page that was shown
pub returns-then-not-shown : goal.returns-then-not-shown
returns-then-not-shown g c =
    let inv = c.loop-i.invariant in
    let t = inv.0 in
    let m = c.step.new.m in
    let p = c.step.new.path in
    let i = c.loop-i.i in
    let last = state m p (with_page t) in
    let went = ap (λ e. after_event e m p t) (sym c.in-Shown.is) ∙ c.in-Ok.ensures.steps t in
    record {
      driven = rests g.E.Sink.paint g.E.Sink.page g.S.Stage.can g.E.Sink.more Stopped c.args.steps (i + 1) last _ _ _ (omega arith) (run_on g.S.Stage.can i _ last _ went inv.1) (c.shown.ensures.seen ∙ told_page g.E.Sink.paint g.E.Sink.page t _ _ inv.2) (page_more t i inv.3) (λ h. never h refl) (λ _. sym c.shown.ensures.value ∙ c.if-not-shown.true);
      after = λ h. never h refl;
      lent = c.shown.ensures.lent ∙ inv.4;
      unsupported = tt;
    }

-- a step that paints or shows has one thing or one page more
pub loop-i-preserved : goal.loop-i-preserved
loop-i-preserved g c =
    let inv = c.loop-i.invariant in
    let t = inv.0 in
    let m = c.step.new.m in
    let p = c.step.new.path in
    let before = state c.loop-i.m c.loop-i.path t in
    let i = c.loop-i.i in
    let went = c.in-Ok.ensures.steps t in
    elim c.match-event.branch [
      | in-On w ↦ (
        t,
        run_on g.S.Stage.can i before (state m p t) _ (ap (λ e. after_event e m p t) (sym w.in-On.is) ∙ went) inv.1,
        ap g.E.Sink.view w.sink-is ∙ inv.2,
        omega arith,
        ap g.E.Sink.lent w.sink-is ∙ inv.4,
      )
      | in-Painted w ↦
          (let u = with_painted t (thing_of m p w.in-Painted.n) in (
            u,
            run_on g.S.Stage.can i before (state m p u) _ (ap (λ e. after_event e m p t) (sym w.in-Painted.is) ∙ went) inv.1,
            ap g.E.Sink.view w.sink-is
                ∙ w.painted.ensures.seen (subst (λ ws. ExtentOf w.front_extent.result (rings_in ws)) (sym w.front.ensures) w.front_extent.ensures)
                ∙ ap (λ x. g.E.Sink.paint x (g.E.Sink.view c.loop-i.sink)) (same_paint w.front.ensures w.clip_words.ensures w.grey.ensures)
                ∙ told_painted g.E.Sink.paint g.E.Sink.page t _ _ _ inv.2,
            omega arith,
            ap g.E.Sink.lent w.sink-is ∙ w.painted.ensures.lent ∙ inv.4,
          ))
      | in-Shown+else-not-shown w ↦ (
        with_page t,
        run_on g.S.Stage.can i before (state m p (with_page t)) _ (ap (λ e. after_event e m p t) (sym w.in-Shown.is) ∙ went) inv.1,
        ap g.E.Sink.view w.sink-is ∙ w.shown.ensures.seen ∙ told_page g.E.Sink.paint g.E.Sink.page t _ _ inv.2,
        page_more t i inv.3,
        ap g.E.Sink.lent w.sink-is ∙ w.shown.ensures.lent ∙ inv.4,
      )
    ]

pub returns-then-is_finished : goal.returns-then-is_finished
returns-then-is_finished g c =
    let inv = c.loop-i.invariant in
    let last = state c.loop-i.m c.loop-i.path inv.0 in
    record {
      driven = rests g.E.Sink.paint g.E.Sink.page g.S.Stage.can g.E.Sink.more Finished c.args.steps c.loop-i.i last _ _ _ (omega arith) inv.1 inv.2 inv.3 (λ _. (omega arith, c.if-is_finished.ensures last)) (λ h. never refl h);
      after = λ _. same_end c.loop-i.m c.loop-i.path inv.0 _ (rested g.S.Stage.can c.args.steps c.loop-i.i last _ (omega arith) inv.1);
      lent = inv.4;
      unsupported = tt;
    }

pub returns-else-is_finished : goal.returns-else-is_finished
returns-else-is_finished g c =
    let inv = c.loop-i.invariant in
    let last = state c.loop-i.m c.loop-i.path inv.0 in
    record {
      driven = rests g.E.Sink.paint g.E.Sink.page g.S.Stage.can g.E.Sink.more (Failed StepsUsedUp) c.args.steps c.loop-i.i last _ _ _ (omega arith) inv.1 inv.2 inv.3 (λ _. (omega arith, c.if-is_finished.ensures last)) (λ h. never refl h);
      after = λ _. same_end c.loop-i.m c.loop-i.path inv.0 _ (rested g.S.Stage.can c.args.steps c.loop-i.i last _ (omega arith) inv.1);
      lent = inv.4;
      unsupported = tt;
    }
