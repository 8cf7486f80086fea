use Rattle.std.proofs.Common.{◌∙◌, ap, sym, length}
use Rattle.ff_confinement.specs.Worlds.{split}
use Rattle.ff_confinement.proofs.Classes.{length-split}
use Rattle.ff_value.specs.Same.{same_input}
use Rattle.ff_pool.proofs.Parting.{same_input_decides}
use Rattle.ff_pool.proofs.parts.Parts.part.Goals as goal

pub fork_heads-requires-clause-count : goal.fork_heads-requires-clause-count
fork_heads-requires-clause-count g c =
    let offers = c.args.offers.now in
    ap length (c.as_slice-4.ensures.value ∙ c.in_ok-new.ensures ∙ ap (λ leaders. split same_input leaders offers) c.as_slice-2.ensures.value)
    ∙ length-split same_input same_input_decides c.args.self.now.leaders.items offers
    ∙ sym (ap length c.as_slice-3.ensures.value)

pub returns-clause-levels : goal.returns-clause-levels
returns-clause-levels g c =
    let offers = c.args.offers.now in
    ap length (c.in_ok-new.ensures ∙ ap (λ leaders. split same_input leaders offers) c.as_slice-2.ensures.value) ∙ length-split same_input same_input_decides c.args.self.now.leaders.items offers
