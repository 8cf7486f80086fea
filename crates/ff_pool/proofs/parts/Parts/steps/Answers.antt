use Rattle.std.proofs.Common.{◌∙◌, ap, ap₂, set, List, ℕ}
use Rattle.std.proofs.lemmas.Result.{on_ok_weaker}
use Rattle.ff_value.specs.declared.output.Out.{Out}
use Rattle.ff_confinement.specs.Worlds.{leader}
use Rattle.ff_pool.specs.Heads.{given}
use Rattle.ff_pool.proofs.Slicing.{may_of_class, on_err, stepped_counts, stepped_of_class, top_is}
use Rattle.ff_pool.proofs.parts.Parts.steps.Goals as goal

pub returns-in_err-steps-clause-most : goal.returns-in_err-steps-clause-most
returns-in_err-steps-clause-most g c =
    on_err c.from_residual.result (λ d. may_of_class c.args.self.now.heads.items c.args.self.now.leaders.items c.requires.level c.requires.led c.index-top.ensures c.index_mut.ensures.value c.new-outs.ensures.items d c.in_err-steps.ensures.most)

pub returns-clause-done : goal.returns-clause-done
returns-clause-done g c =
    let puts = c.args.self.now.puts.items in
    let top = top_is c.args.self.now.heads.items c.args.self.now.leaders.items c.requires.level c.requires.led c.index-top.ensures c.index_mut.ensures.value in
    on_ok_weaker c.give.result
    (λ puts_are. record {
      head = c.steps.new.self;
      outs = c.steps.new.outs.items;
      stepped = λ d. stepped_of_class c.args.self.now.heads.items c.args.self.now.leaders.items c.requires.level c.requires.led c.index-top.ensures c.index_mut.ensures.value c.new-outs.ensures.items d c.in_ok-steps.ensures.done;
      heads_are = ap (λ (k : ℕ). set c.args.self.now.heads.items k c.steps.new.self) top;
      puts_are = puts_are ∙ ap₂ (λ (leaders : List ℕ) (k : ℕ). given puts leaders k c.as_slice-2.result.now) c.as_slice.ensures.value top
          ∙ ap (λ (outs : List Out). given puts c.args.self.now.leaders.items (leader c.args.self.now.leaders.items c.args.l) outs) c.as_slice-2.ensures.value;
    }) c.give.ensures

pub returns-clause-most : goal.returns-clause-most
returns-clause-most g c =
    on_err c.give.result
    (λ d. may_of_class c.args.self.now.heads.items c.args.self.now.leaders.items c.requires.level c.requires.led c.index-top.ensures c.index_mut.ensures.value c.new-outs.ensures.items d
    (stepped_counts _ c.steps.new.self c.new-outs.result.items c.steps.new.outs.items c.args.turns.now c.steps.new.turns c.in_ok-steps.ensures.done))
