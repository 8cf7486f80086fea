use Rattle.ff_core.proofs.parts.Parts.deliver.Goals as goal

pub returns-in-Slot-clause-step : goal.returns-in-Slot-clause-step
returns-in-Slot-clause-step g c = rw c.in-Slot.is (c.fill_reply.ensures.step c.args.outs.now.items)

pub returns-in-Call-clause-step : goal.returns-in-Call-clause-step
returns-in-Call-clause-step g c = rw c.in-Call.is (c.call_reply.ensures.step c.args.outs.now.items)
