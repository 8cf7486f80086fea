use Rattle.std.proofs.Common.{◌++◌, ◌∷◌, [], arith}
use Rattle.ff_frames.proofs.Rewriting.{enough-values, form-layer, form-row, frame-is, full-frame, last-count, last-values, top-of}
use Rattle.ff_frames.proofs.stack.Stack.next.Goals as goal

pub operands-requires : goal.operands-requires
operands-requires c = let rest = c.in-Some-top.ensures in enough-values c.args.self.now rest.0 _ rest.1 c.in-None.is c.requires.valid

pub read_form-requires : goal.read_form-requires
read_form-requires c = rw c.get.ensures (form-row c.args.self.now c.in-Some.form c.in-Some.is c.requires.valid)

pub read_frame-requires : goal.read_frame-requires
read_frame-requires c =
    let s = c.args.self.now in let rest = c.in-Some-top.ensures in
    let top = top-of s rest.0 _ rest.1 c.in-None.is c.requires.valid in
    let n = last-count s rest.0 _ top c.requires.valid in
    rw (c.operands.ensures top.below (top.own ++ top.value ∷ []) (last-values s rest.0 _ top c.requires.valid) n) (omega (arith, n))

pub returns-in-Some : goal.returns-in-Some
returns-in-Some c =
    rw (form-layer c.args.self.now c.in-Some.form c.get.result.now c.in-Some.is c.get.ensures c.requires.valid) c.read_form.ensures

pub returns-in-Some-top : goal.returns-in-Some-top
returns-in-Some-top c =
    let s = c.args.self.now in let rest = c.in-Some-top.ensures in
    let top = top-of s rest.0 _ rest.1 c.in-None.is c.requires.valid in
    let values = c.operands.ensures top.below (top.own ++ top.value ∷ []) (last-values s rest.0 _ top c.requires.valid) (last-count s rest.0 _ top c.requires.valid) in
    rw (frame-is s rest.0 _ top c.requires.valid) (c.read_frame.ensures top.own top.value values (full-frame s rest.0 _ top c.requires.valid) s.act)
