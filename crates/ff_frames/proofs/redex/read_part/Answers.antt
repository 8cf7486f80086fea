use Rattle.ff_tree.specs.declared.tree.Expr.{out-Expr}
use Rattle.ff_frames.proofs.Reading.{call-read, if-kind, if-read, prim-read}
use Rattle.ff_frames.proofs.redex.read_part.Goals as goal

pub returns-in-If : goal.returns-in-If
returns-in-If c = λ vs v r h. if-read (out-Expr c.args.form.now) vs v c.last-in-If.result.now (if-kind c.args.form.now c.in-If.is) (c.last-in-If.ensures vs v r)

pub returns-in-Prim : goal.returns-in-Prim
returns-in-Prim c = λ vs v r h. prim-read c.args.form.now c.in-Prim.op c.in-Prim.field-1 vs v c.args.values.now c.in-Prim.is h r

pub returns-in-Some : goal.returns-in-Some
returns-in-Some c = λ vs v r h.
    call-read c.args.form.now c.in-Apply.field-0 c.in-Apply.field-1 vs v c.in-Some.function.now c.in-Some.args.now c.args.values.now
    c.in-Apply.is h r c.in-Some.ensures.cases.0
