use Rattle.std.proofs.Common.{Err, ap, arith, sym, subst, inl, inr}
use Rattle.std.proofs.lemmas.Grind.{common_steps}
use Rattle.ff_contract.specs.Answering.{Answers}
use Rattle.ff_text.specs.declared.items.TextFault.TheVariants as fault
use Rattle.ff_text.proofs.Runs.{ReadsUpTo, up_to_none, up_to_more, up_to_stop, up_to_all}
use Rattle.ff_text.proofs.reading.read_whole.Goals as goal

pub loop-left-init : goal.loop-left-init
loop-left-init c = subst (ReadsUpTo c.args.bytes.now c.args.bytes.now) (sym c.new-reader.ensures) (up_to_none c.args.bytes.now)

pub loop-left-preserved : goal.loop-left-preserved
loop-left-preserved c =
    up_to_more c.args.bytes.now c.loop-left.left.now _ c.in-Ok.n c.loop-left.reader c.take_some.new.self c.loop-left.invariant c.in-Ok.ensures.1 c.in-Ok.ensures.2 (grind (arith, common_steps))

pub returns-in-Err : goal.returns-in-Err
returns-in-Err c = elim c.in-Err.ensures [
  | inl memory ↦ inr (ap Err memory)
  | inr stopped ↦ inl (sym (up_to_stop c.args.bytes.now c.loop-left.left.now c.loop-left.reader c.in-Err.fault c.loop-left.invariant stopped))
]

pub returns : goal.returns
returns c = subst (λ answer. Answers c.end.result answer (Err fault.NoMemory)) (sym (up_to_all c.args.bytes.now c.loop-left.left.now c.loop-left.reader c.loop-left.invariant (sym c.loop-left-test.ensures))) c.end.ensures
