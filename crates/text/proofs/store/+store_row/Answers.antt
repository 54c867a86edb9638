use Rattle.std.proofs.Common.{◌≡◌, ℕ, ◌+◌, ◌-◌, List, [], ◌∷◌, length, sym, ap, ◌∙◌, subst, inl, inr, arith}
use Rattle.lexer.specs.Reading.{Piece}
use Rattle.lexer.specs.Lexing.{from, Saw}
use Rattle.words.specs.Naming.{words_of}
use Rattle.tokens.specs.Stored.{token_of}
use Rattle.text.specs.Storing.{Ready, StoredRow}
use Rattle.lexer.proofs.Faults.{not_fine}
use Rattle.text.proofs.Limiting.{next_piece, placed, plain_of}
use Rattle.text.proofs.Storing.{Part, part_none, part_plain, part_body, part_close, part_end, ready_open, ready_plain, two_words}
use Rattle.text.proofs.store.+store_row.Goals as goal

pub loop-p-init : goal.loop-p-init
loop-p-init g t c =
    let s = c.args.source.now in
    let room = c.requires.ready.enough in
    (omega arith, part_none g.S.Stage.can (length s) (32 - c.args.depth) (from s c.args.start.at) (words_of c.args.names.now) c.args.start.used c.args.words.now (omega arith) c.requires.ready)

pub returns-in-End : goal.returns-in-End
returns-in-End g t c =
    let s = c.args.source.now in
    let p = c.loop-p.p in
    let j = c.lexeme_at-next.result.1 in
    let ws = words_of c.loop-p.names in
    let Row : List Piece → Type 0 = λ qs. Part g.S.Stage.can (length s) (32 - c.args.depth) (from s c.args.start.at) (words_of c.args.names.now) c.args.start.used c.args.words.now qs ws p.used c.loop-p.words in
    let saw : from s p.at ≡ [] =
    elim c.in-End.is [
      | inl e ↦ (subst (λ z. Saw s p.at z j) e c.lexeme_at-next.ensures).1
      | inr e ↦ absurd (not_fine e.0 (sym ((subst (λ z. Saw s p.at z j) e.1 c.lexeme_at-next.ensures).1 (length s) (32 - c.args.depth)) ∙ c.loop-p.invariant.1.ready.readable))
    ] in
    let whole = part_end g.S.Stage.can (length s) (32 - c.args.depth) (from s c.args.start.at) (words_of c.args.names.now) c.args.start.used c.args.words.now ws p.used c.loop-p.words (subst Row saw c.loop-p.invariant.1) in
    record { row = subst (λ z. StoredRow g.S.Stage.can (length s) (32 - c.args.depth) (from s c.args.start.at) (words_of c.args.names.now) c.args.start.used c.args.words.now z ws p.used c.loop-p.words) (sym saw) whole; bound = c.loop-p.invariant.0 }

pub returns-in-Close : goal.returns-in-Close
returns-in-Close g t c =
    let s = c.args.source.now in
    let p = c.loop-p.p in
    let j = c.lexeme_at-next.result.1 in
    let ws = words_of c.loop-p.names in
    let Row : List Piece → Type 0 = λ qs. Part g.S.Stage.can (length s) (32 - c.args.depth) (from s c.args.start.at) (words_of c.args.names.now) c.args.start.used c.args.words.now qs ws p.used c.loop-p.words in
    let saw = subst (λ z. Saw s p.at z j) c.in-Close.is c.lexeme_at-next.ensures in
    let row = part_close g.S.Stage.can (length s) (32 - c.args.depth) (from s c.args.start.at) (words_of c.args.names.now) c.args.start.used c.args.words.now c.in-Close.place (from s j) ws p.used c.loop-p.words (subst Row saw.2 c.loop-p.invariant.1) in
    record { row = row; bound = omega arith }

pub returns-then-depth-eq0 : goal.returns-then-depth-eq0
returns-then-depth-eq0 g t c =
    let s = c.args.source.now in
    let p = c.loop-p.p in
    let j = c.lexeme_at-next.result.1 in
    let ws = words_of c.loop-p.names in
    let Row : List Piece → Type 0 = λ qs. Part g.S.Stage.can (length s) (32 - c.args.depth) (from s c.args.start.at) (words_of c.args.names.now) c.args.start.used c.args.words.now qs ws p.used c.loop-p.words in
    let saw = subst (λ z. Saw s p.at z j) c.in-Open.is c.lexeme_at-next.ensures in
    let part = subst Row saw.2 c.loop-p.invariant.1 in
    let inner = ready_open g.S.Stage.can c.in-Open.place (from s j) ws (length s) (32 - c.args.depth) p.used (length c.args.words.now) part.ready in
    absurd (omega (arith, inner.0))

pub store_row-after-requires : goal.store_row-after-requires
store_row-after-requires g t c =
    let s = c.args.source.now in
    let p = c.loop-p.p in
    let j = c.lexeme_at-next.result.1 in
    let ws = words_of c.loop-p.names in
    let Row : List Piece → Type 0 = λ qs. Part g.S.Stage.can (length s) (32 - c.args.depth) (from s c.args.start.at) (words_of c.args.names.now) c.args.start.used c.args.words.now qs ws p.used c.loop-p.words in
    let saw = subst (λ z. Saw s p.at z j) c.in-Open.is c.lexeme_at-next.ensures in
    let part = subst Row saw.2 c.loop-p.invariant.1 in
    let inner = ready_open g.S.Stage.can c.in-Open.place (from s j) ws (length s) (32 - c.args.depth) p.used (length c.args.words.now) part.ready in
    let deeper : 32 - c.args.depth + 1 ≡ 32 - (c.args.depth - 1) = omega arith in
    let same : length c.args.words.now ≡ length c.loop-p.words = omega arith in
    λ κs h. (omega arith, (h, (omega arith, subst (λ z. Ready g.S.Stage.can (length s) z (p.used + 2) (length c.loop-p.words) (from s j) ws) deeper (subst (λ z. Ready g.S.Stage.can (length s) (32 - c.args.depth + 1) (p.used + 2) z (from s j) ws) same inner.1))))

pub loop-p-preserved-in-Open : goal.loop-p-preserved-in-Open
loop-p-preserved-in-Open g t c =
    let s = c.args.source.now in
    let p = c.loop-p.p in
    let j = c.lexeme_at-next.result.1 in
    let ws = words_of c.loop-p.names in
    let Row : List Piece → Type 0 = λ qs. Part g.S.Stage.can (length s) (32 - c.args.depth) (from s c.args.start.at) (words_of c.args.names.now) c.args.start.used c.args.words.now qs ws p.used c.loop-p.words in
    let saw = subst (λ z. Saw s p.at z j) c.in-Open.is c.lexeme_at-next.ensures in
    let part = subst Row saw.2 c.loop-p.invariant.1 in
    let after = c.store_row-after in
    let deeper : 32 - (c.args.depth - 1) ≡ 32 - c.args.depth + 1 = omega arith in
    let inner = subst (λ z. StoredRow g.S.Stage.can (length s) z (from s j) ws (p.used + 2) c.loop-p.words (from s after.result.at) (words_of after.new.names) after.result.used after.new.words) deeper after.ensures.row in
    let row = part_body g.S.Stage.can (length s) (32 - c.args.depth) (from s c.args.start.at) (words_of c.args.names.now) c.args.start.used c.args.words.now c.in-Open.place (from s j) (from s after.result.at) ws (words_of after.new.names) p.used after.result.used c.loop-p.words after.new.words part (omega arith) inner in
    (omega arith, subst (λ z. Part g.S.Stage.can (length s) (32 - c.args.depth) (from s c.args.start.at) (words_of c.args.names.now) c.args.start.used c.args.words.now (from s after.result.at) (words_of after.new.names) after.result.used z) (sym c.put.ensures) row)

pub returns-in_default-plain_token : goal.returns-in_default-plain_token
returns-in_default-plain_token g t c =
    let s = c.args.source.now in
    let p = c.loop-p.p in
    let j = c.lexeme_at-next.result.1 in
    let ws = words_of c.loop-p.names in
    let Row : List Piece → Type 0 = λ qs. Part g.S.Stage.can (length s) (32 - c.args.depth) (from s c.args.start.at) (words_of c.args.names.now) c.args.start.used c.args.words.now qs ws p.used c.loop-p.words in
    let x = c.lexeme_at-next.result.0 in
    let place = placed x c.in_default.not-End in
    let next = next_piece s p.at j (length s) (32 - c.args.depth) place.0 x c.lexeme_at-next.ensures place.1 c.loop-p.invariant.1.ready.readable in
    let plain = plain_of x next.piece next.stands c.in_default.not-Open c.in_default.not-Close in
    let part = subst Row next.is c.loop-p.invariant.1 in
    let within = (ready_plain g.S.Stage.can next.piece (from s j) ws (length s) (32 - c.args.depth) p.used (length c.args.words.now) plain part.ready).0 in
    let above = c.in_default-plain_token.ensures next.piece next.stands plain in
    let z : ◌≡◌ {A = ℕ} 0 1 = cc in
    absurd (omega arith)

pub loop-p-preserved : goal.loop-p-preserved
loop-p-preserved g t c =
    let s = c.args.source.now in
    let p = c.loop-p.p in
    let j = c.lexeme_at-next.result.1 in
    let ws = words_of c.loop-p.names in
    let Row : List Piece → Type 0 = λ qs. Part g.S.Stage.can (length s) (32 - c.args.depth) (from s c.args.start.at) (words_of c.args.names.now) c.args.start.used c.args.words.now qs ws p.used c.loop-p.words in
    let x = c.lexeme_at-next.result.0 in
    let place = placed x c.in_default.not-End in
    let next = next_piece s p.at j (length s) (32 - c.args.depth) place.0 x c.lexeme_at-next.ensures place.1 c.loop-p.invariant.1.ready.readable in
    let plain = plain_of x next.piece next.stands c.in_default.not-Open c.in_default.not-Close in
    let part = subst Row next.is c.loop-p.invariant.1 in
    let read = c.in-Some.ensures next.piece next.stands plain in
    let token = c.in-Some.token in
    let head = c.begun.result in
    let two = two_words token next.piece ws plain read.1 ∙ ap (λ h. h.0 ∷ (h.1 ∷ [])) (sym c.begun.ensures) in
    let row = part_plain g.S.Stage.can (length s) (32 - c.args.depth) (from s c.args.start.at) (words_of c.args.names.now) c.args.start.used c.args.words.now next.piece (from s j) ws (words_of c.plain_token.new.names) p.used c.loop-p.words (token_of token) head.0 head.1 part (omega arith) plain read.1 read.2 two in
    (omega (arith, next.on), subst (λ z. Part g.S.Stage.can (length s) (32 - c.args.depth) (from s c.args.start.at) (words_of c.args.names.now) c.args.start.used c.args.words.now (from s j) (words_of c.plain_token.new.names) (p.used + 2) z) (sym c.put-in_default.ensures) row)
