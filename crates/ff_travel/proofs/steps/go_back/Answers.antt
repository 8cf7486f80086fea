use Rattle.std.proofs.Common.{length, ap, ap₂, ◌∙◌}
use Rattle.ff_travel.specs.Beside.{cut, history_of}
use Rattle.ff_travel.proofs.Carrying.{back_some, counts_fit, parts_back}
use Rattle.ff_travel.proofs.steps.go_back.Goals as goal

pub cut_all-requires : goal.cut_all-requires
cut_all-requires g c =
    ap length c.counts.ensures ∙ counts_fit c.args.kept.now.items c.pop.new.self.items c.in-Some.last c.args.puts.now.items c.args.pool.now c.in-Some.ensures.items c.requires.0 c.requires.1

pub returns-in-Some-clause-done : goal.returns-in-Some-clause-done
returns-in-Some-clause-done g c =
    ap₂ (λ ps q. history_of c.pop.new.self.items ps q) (c.cut_all.ensures ∙ ap (λ ns. cut ns c.args.puts.now.items) c.counts.ensures) c.pool.ensures
    ∙ back_some c.args.kept.now.items c.pop.new.self.items c.in-Some.last c.args.puts.now.items c.args.pool.now c.in-Some.ensures.items

pub returns-in-Some-clause-parts : goal.returns-in-Some-clause-parts
returns-in-Some-clause-parts g c = λ p are.
    rw (c.cut_all.ensures, c.counts.ensures, c.pool.ensures)
    (parts_back c.args.kept.now.items c.pop.new.self.items c.in-Some.last c.args.puts.now.items c.args.pool.now c.in-Some.ensures.items p are)
