use Rattle.std.proofs.Common.{◌+◌, set, refl, arith, rules}
use Rattle.path.specs.declared.builder.Front.{Front}
use Rattle.path.proofs.BuildLaws.{laid_of, spans_of, spans_before, kept, added, spare, spans_spare, laid_added, spans_added, rings_added, ring_added, total_is, last_is}
use Rattle.path.proofs.builder.Path.append_point.Goals as goal

pub returns-then-self-eq0-clause-value : goal.returns-then-self-eq0-clause-value
returns-then-self-eq0-clause-value c = let n = last_is c.args.self.now in omega arith

pub returns-then-self-ge-MOST_POINTS-clause-value : goal.returns-then-self-ge-MOST_POINTS-clause-value
returns-then-self-ge-MOST_POINTS-clause-value c =
    let t = total_is c.args.self.now in
    let n = last_is c.args.self.now in
    (omega arith, omega arith)

pub invariant_of-self : goal.invariant_of-self
invariant_of-self c =
    let p = c.args.self.now in
    let used = p.ends (omega arith) in
    let none = p.begun (omega arith) in
    let at = c.args.corner in
    kept (set p.words.now p.built.used at.x) p.start p.last p.total p.built p.cleared
    (spare p.words.now p.start p.last p.built.used p.total p.built.used at.x (omega arith) (laid_of p))
    (spans_spare p.words.now p.built p.built.used at.x (omega arith) (spans_of p))
    (spans_spare p.words.now p.cleared p.built.used at.x (omega arith) (spans_before p)) p.begun

pub invariant_of-self-2 : goal.invariant_of-self-2
invariant_of-self-2 c =
    let p = c.args.self.now in
    let used = p.ends (omega arith) in
    let none = p.begun (omega arith) in
    let at = c.args.corner in
    let ws = set p.words.now p.built.used at.x in
    kept (set ws (p.built.used + 1) at.y) p.start p.last p.total p.built p.cleared
    (spare ws p.start p.last p.built.used p.total (p.built.used + 1) at.y (omega arith) (spare p.words.now p.start p.last p.built.used p.total p.built.used at.x (omega arith) (laid_of p)))
    (spans_spare ws p.built (p.built.used + 1) at.y (omega arith) (spans_spare p.words.now p.built p.built.used at.x (omega arith) (spans_of p)))
    (spans_spare ws p.cleared (p.built.used + 1) at.y (omega arith) (spans_spare p.words.now p.cleared p.built.used at.x (omega arith) (spans_before p))) p.begun

pub invariant_of-self-3 : goal.invariant_of-self-3
invariant_of-self-3 c =
    let p = c.args.self.now in
    let used = p.ends (omega arith) in
    let none = p.begun (omega arith) in
    let at = c.args.corner in
    let e = c.reaching-extent in
    let built : Front = record { used = p.built.used + 2; extent = e.result } in
    let one = set p.words.now p.built.used at.x in
    let ws = set one (p.built.used + 1) at.y in
    kept (added p.words.now p.start p.last p.built.used at.x at.y) p.start (p.last + 1) (p.total + 1) built p.cleared
    (laid_added p.words.now p.start p.last p.built.used p.total at.x at.y (omega arith) (omega arith) (laid_of p))
    (spans_added p.words.now p.start p.last p.total at.x at.y p.built e.result (laid_of p) (omega arith) (omega arith) (omega arith) (omega arith) (spans_of p) e.ensures.top e.ensures.bottom)
    (spans_spare ws p.cleared p.start (p.last + 1) (omega arith) (spans_spare one p.cleared (p.built.used + 1) at.y (omega arith) (spans_spare p.words.now p.cleared p.built.used at.x (omega arith) (spans_before p)))) (λ some. none)

pub returns : goal.returns
returns c =
    let p = c.args.self.now in
    let at = c.args.corner in
    let t = total_is p in
    let n = last_is p in
    record {
      value = (omega arith, omega arith);
      rings = rings_added p.words.now p.start p.last p.built.used p.total at.x at.y (laid_of p);
      ring = ring_added p.words.now p.start p.last p.built.used p.total at.x at.y (laid_of p) (omega arith) (omega arith) (omega arith) (omega arith);
      words = refl;
      lent = search rules;
    }
