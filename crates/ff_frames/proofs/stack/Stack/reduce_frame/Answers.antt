use Rattle.std.proofs.Common.{◌-◌, vec_len, refl, arith}
use Rattle.std.specs.Vec.{with_item}
use Rattle.ff_frames.specs.declared.stack.Stack.{Stack}
use Rattle.ff_frames.proofs.Ends.{last-item, no-last}
use Rattle.ff_frames.proofs.Rewriting.{enough-values, local-frame, some-frame, still-bare, turned-off, turned-on}
use Rattle.ff_frames.proofs.stack.Stack.reduce_frame.Goals as goal

pub unreachable-requires : goal.unreachable-requires
unreachable-requires c =
    let s = c.args.self.now in
    some-frame s (no-last s.heads.items (vec_len s.heads) (let p = s.heads.ok.0 in omega arith) c.in-None.ensures.variant.1) c.requires.free c.requires.open

pub turn-requires-clause-ending : goal.turn-requires-clause-ending
turn-requires-clause-ending c =
    let s = c.args.self.now in
    let f = c.in-Some.head.now in
    let item = c.in-Some.ensures.item in
    let last = last-item s.heads.items (vec_len s.heads) f f (let p = s.heads.ok.0 in omega arith) item.3.0 item.3.1 in
    local-frame s last.0 f last.1 c.requires.free c.requires.valid c.requires.local

pub turn-requires-clause-value : goal.turn-requires-clause-value
turn-requires-clause-value c =
    let s = c.args.self.now in
    let f = c.in-Some.head.now in
    let item = c.in-Some.ensures.item in
    let last = last-item s.heads.items (vec_len s.heads) f f (let p = s.heads.ok.0 in omega arith) item.3.0 item.3.1 in
    enough-values s last.0 f last.1 c.requires.free c.requires.valid

pub leave-requires-clause-bare : goal.leave-requires-clause-bare
leave-requires-clause-bare c =
    let s = c.args.self.now in
    let f = c.in-Some.head.now in
    let item = c.in-Some.ensures.item in
    let last = last-item s.heads.items (vec_len s.heads) f c.turn.new.head (let p = s.heads.ok.0 in omega arith) item.3.0 item.3.1 in
    let t : Stack = record { heads = with_item s.heads (vec_len s.heads - 1) c.turn.new.head; hand = c.turn.new.hand; act = s.act; depth = s.depth } in
    still-bare s t last.0 f _ last.1 c.requires.free c.requires.valid c.requires.local last.2 (rw c.if-not-branch.true at c.in_ok-turn-in-Some.ensures) refl refl

pub returns-then-not-branch : goal.returns-then-not-branch
returns-then-not-branch c =
    let s = c.args.self.now in
    let f = c.in-Some.head.now in
    let item = c.in-Some.ensures.item in
    let last = last-item s.heads.items (vec_len s.heads) f c.turn.new.head (let p = s.heads.ok.0 in omega arith) item.3.0 item.3.1 in
    turned-off s _ last.0 f _ last.1 c.requires.free c.requires.valid c.requires.local last.2 (rw c.if-not-branch.true at c.in_ok-turn-in-Some.ensures) refl refl _ c.leave.ensures.rewrites

pub returns-else-not-branch : goal.returns-else-not-branch
returns-else-not-branch c =
    let s = c.args.self.now in
    let f = c.in-Some.head.now in
    let item = c.in-Some.ensures.item in
    let last = last-item s.heads.items (vec_len s.heads) f c.turn.new.head (let p = s.heads.ok.0 in omega arith) item.3.0 item.3.1 in
    turned-on s last.0 f last.1 c.requires.free c.requires.valid c.requires.local _ _ last.2 (rw c.if-not-branch.false at c.in_ok-turn-in-Some.ensures) refl refl
