use Rattle.std.proofs.Common.{◌+◌, set, refl, arith, rules}
use Rattle.path.specs.declared.builder.Front.{Front}
use Rattle.path.proofs.BuildLaws.{laid_of, spans_of, kept, begun, spare, spans_spare, spans_none, laid_begun, spans_begun, rings_begun, ring_begun, total_is}
use Rattle.path.proofs.builder.Path.begin_subpath.Goals as goal

pub returns-then-self-ge-MOST_POINTS-clause-value : goal.returns-then-self-ge-MOST_POINTS-clause-value
returns-then-self-ge-MOST_POINTS-clause-value c = let t = total_is c.args.self.now in (refl, omega arith)

-- the words of the path that was cleared last are forgotten before they are written over
pub invariant_of-self : goal.invariant_of-self
invariant_of-self c =
    let p = c.args.self.now in
    let none = c.none-self.ensures in
    kept p.words.now p.start p.last p.total p.built c.none-self.result (laid_of p) (spans_of p) (spans_none p.words.now c.none-self.result none.used none.extent) (λ some. none.used)

pub invariant_of-self-2 : goal.invariant_of-self-2
invariant_of-self-2 c =
    let p = c.args.self.now in
    let none = c.none-self.ensures in
    let ws = set p.words.now p.built.used 1 in
    kept ws p.start p.last p.total p.built c.none-self.result
    (spare p.words.now p.start p.last p.built.used p.total p.built.used 1 (omega arith) (laid_of p))
    (spans_spare p.words.now p.built p.built.used 1 (omega arith) (spans_of p))
    (spans_none ws c.none-self.result none.used none.extent) (λ some. none.used)

pub invariant_of-self-3 : goal.invariant_of-self-3
invariant_of-self-3 c =
    let p = c.args.self.now in
    let none = c.none-self.ensures in
    let ws = set p.words.now p.built.used 1 in
    kept (set ws (p.built.used + 1) c.args.corner.x) p.start p.last p.total p.built c.none-self.result
    (spare ws p.start p.last p.built.used p.total (p.built.used + 1) c.args.corner.x (omega arith) (spare p.words.now p.start p.last p.built.used p.total p.built.used 1 (omega arith) (laid_of p)))
    (spans_spare ws p.built (p.built.used + 1) c.args.corner.x (omega arith) (spans_spare p.words.now p.built p.built.used 1 (omega arith) (spans_of p)))
    (spans_none (set ws (p.built.used + 1) c.args.corner.x) c.none-self.result none.used none.extent) (λ some. none.used)

pub invariant_of-self-4 : goal.invariant_of-self-4
invariant_of-self-4 c =
    let p = c.args.self.now in
    let at = c.args.corner in
    let none = c.none-self.ensures in
    let e = c.reaching-extent in
    let built : Front = record { used = p.built.used + 3; extent = e.result } in
    let ws = begun p.words.now p.built.used at.x at.y in
    kept ws p.built.used 1 (p.total + 1) built c.none-self.result
    (laid_begun p.words.now p.start p.last p.built.used p.total at.x at.y (omega arith) (laid_of p))
    (spans_begun p.words.now p.start p.last p.total at.x at.y p.built e.result (laid_of p) (omega arith) (omega arith) (omega arith) (spans_of p) e.ensures.top e.ensures.bottom)
    (spans_none ws c.none-self.result none.used none.extent) (λ some. none.used)

pub returns : goal.returns
returns c =
    let p = c.args.self.now in
    let at = c.args.corner in
    let t = total_is p in
    record {
      value = omega arith;
      rings = rings_begun p.words.now p.start p.last p.built.used p.total at.x at.y (laid_of p);
      ring = ring_begun p.words.now p.built.used at.x at.y (omega arith) (omega arith) (omega arith);
      words = refl;
      lent = search rules;
    }
