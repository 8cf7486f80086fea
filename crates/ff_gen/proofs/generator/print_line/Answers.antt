use Rattle.ff_gen.proofs.generator.print_line.Goals as goal

pub returns-in-0 : goal.returns-in-0
returns-in-0 c = rw c.in-0.is c.put.ensures

pub returns-in-1 : goal.returns-in-1
returns-in-1 c = rw c.in-1.is c.put-in-1.ensures

pub returns-in-2 : goal.returns-in-2
returns-in-2 c = rw c.in-2.is c.print_typed.ensures

pub returns-in-3 : goal.returns-in-3
returns-in-3 c = rw c.in-3.is c.print_typed-in-3.ensures

pub returns-in-4 : goal.returns-in-4
returns-in-4 c = rw c.in-4.is c.put-in-4.ensures

pub returns-in-5 : goal.returns-in-5
returns-in-5 c = rw c.in-5.is c.put-in-5.ensures

pub returns-in-6 : goal.returns-in-6
returns-in-6 c = rw c.in-6.is c.put-in-6.ensures
