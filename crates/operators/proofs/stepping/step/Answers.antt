use Rattle.std.proofs.Common.{[], sym, ap, ◌∙◌, arith}
use Rattle.tokens.specs.Token.{number, does, name, quoted, body, more}
use Rattle.tokens.specs.Stored.{decode, operator_of, token_of}
use Rattle.machine.specs.Machine.{on, amount, code, label, push, found, call, run_token}
use Rattle.machine.specs.Stage.{operate_of, run_token_of}
use Rattle.machine.specs.Abstraction.{no_past, state, frame_of}
use Rattle.machine.proofs.Ending.{step_outside}
use Rattle.operators.proofs.StepLaws.{finished_there, once_more, leaves, takes_one, Steps}
use Rattle.operators.proofs.stepping.step.Goals as goal

pub returns-in_default : goal.returns-in_default
returns-in_default g c = record { steps = λ t. finished_there g.S.Stage.can (state c.args.m.now c.args.path.now t) c.in_default.ensures; unsupported = tt }

pub returns-then-f-gt0 : goal.returns-then-f-gt0
returns-then-f-gt0 g c =
    let p = c.args.path.now in
    record {
      steps = λ t. ap on (c.replace_top.ensures p t) ∙ once_more g.S.Stage.can (state c.args.m.now p t) (frame_of c.in-Some.f) _ c.in-Some.ensures c.in-None.ensures.value c.if-f-gt0.true;
      unsupported = tt;
    }

pub returns-else-f-gt0 : goal.returns-else-f-gt0
returns-else-f-gt0 g c =
    let p = c.args.path.now in
    record {
      steps = λ t. ap on (c.leave.ensures p t) ∙ leaves g.S.Stage.can (state c.args.m.now p t) (frame_of c.in-Some.f) _ c.in-Some.ensures c.in-None.ensures.value (omega arith);
      unsupported = tt;
    }

pub returns-in-Number : goal.returns-in-Number
unfolding run_token_of run_token
returns-in-Number g c =
    let m = c.args.m.now in
    let p = c.args.path.now in
    let ts = decode c.in-Some-next_token.rest.now in
    let steps : Steps g.S.Stage.can c.push_value.result c.push_value.new.self p m p =
    λ t.
    c.push_value.ensures p t ∙ ap (λ s. push s s.stack (amount c.in-Number.n)) (c.replace_top-in-Some-next_token.ensures p t)
    ∙ takes_one g.S.Stage.can (state m p t) (frame_of c.in-Some.f) _ (number c.in-Number.n) ts c.in-Some.ensures (ap (λ x. more (token_of x) ts) (sym c.in-Number.is) ∙ c.in-Some-next_token.ensures.value)
    in
    record { steps = steps; unsupported = step_outside g.S.Stage.can c.push_value.result c.push_value.new.self p (state m p no_past) (steps no_past) }

pub returns-in-Does : goal.returns-in-Does
unfolding run_token_of run_token
returns-in-Does g c =
    let m = c.args.m.now in
    let p = c.args.path.now in
    let ts = decode c.in-Some-next_token.rest.now in
    let steps : Steps g.S.Stage.can c.operate.result c.operate.new.m c.operate.new.path m p =
    λ t.
    c.operate.ensures t ∙ ap (λ s. operate_of g.S.Stage.can s (operator_of c.in-Does.op)) (c.replace_top-in-Some-next_token.ensures p t)
    ∙ takes_one g.S.Stage.can (state m p t) (frame_of c.in-Some.f) _ (does (operator_of c.in-Does.op)) ts c.in-Some.ensures (ap (λ x. more (token_of x) ts) (sym c.in-Does.is) ∙ c.in-Some-next_token.ensures.value)
    in
    record { steps = steps; unsupported = step_outside g.S.Stage.can c.operate.result c.operate.new.m c.operate.new.path (state m p no_past) (steps no_past) }

pub returns-in-Name : goal.returns-in-Name
unfolding run_token_of run_token
returns-in-Name g c =
    let m = c.args.m.now in
    let p = c.args.path.now in
    let ts = decode c.in-Some-next_token.rest.now in
    let steps : Steps g.S.Stage.can c.call_name.result c.call_name.new.m p m p =
    λ t.
    c.call_name.ensures p t ∙ ap (λ s. call s (found s.names c.in-Name.k [])) (c.replace_top-in-Some-next_token.ensures p t)
    ∙ takes_one g.S.Stage.can (state m p t) (frame_of c.in-Some.f) _ (name c.in-Name.k) ts c.in-Some.ensures (ap (λ x. more (token_of x) ts) (sym c.in-Name.is) ∙ c.in-Some-next_token.ensures.value)
    in
    record { steps = steps; unsupported = step_outside g.S.Stage.can c.call_name.result c.call_name.new.m p (state m p no_past) (steps no_past) }

pub returns-in-Quoted : goal.returns-in-Quoted
unfolding run_token_of run_token
returns-in-Quoted g c =
    let m = c.args.m.now in
    let p = c.args.path.now in
    let ts = decode c.in-Some-next_token.rest.now in
    let steps : Steps g.S.Stage.can c.push_value-in-Quoted.result c.push_value-in-Quoted.new.self p m p =
    λ t.
    c.push_value-in-Quoted.ensures p t ∙ ap (λ s. push s s.stack (label c.in-Quoted.k)) (c.replace_top-in-Some-next_token.ensures p t)
    ∙ takes_one g.S.Stage.can (state m p t) (frame_of c.in-Some.f) _ (quoted c.in-Quoted.k) ts c.in-Some.ensures (ap (λ x. more (token_of x) ts) (sym c.in-Quoted.is) ∙ c.in-Some-next_token.ensures.value)
    in
    record { steps = steps; unsupported = step_outside g.S.Stage.can c.push_value-in-Quoted.result c.push_value-in-Quoted.new.self p (state m p no_past) (steps no_past) }

pub returns-in-Body : goal.returns-in-Body
unfolding run_token_of run_token
returns-in-Body g c =
    let m = c.args.m.now in
    let p = c.args.path.now in
    let ts = decode c.in-Some-next_token.rest.now in
    let steps : Steps g.S.Stage.can c.push_value-in-Body.result c.push_value-in-Body.new.self p m p =
    λ t.
    c.push_value-in-Body.ensures p t ∙ ap (λ s. push s s.stack (code (decode c.in-Body.b.now))) (c.replace_top-in-Some-next_token.ensures p t)
    ∙ takes_one g.S.Stage.can (state m p t) (frame_of c.in-Some.f) _ (body (decode c.in-Body.b.now)) ts c.in-Some.ensures (ap (λ x. more (token_of x) ts) (sym c.in-Body.is) ∙ c.in-Some-next_token.ensures.value)
    in
    record { steps = steps; unsupported = step_outside g.S.Stage.can c.push_value-in-Body.result c.push_value-in-Body.new.self p (state m p no_past) (steps no_past) }
