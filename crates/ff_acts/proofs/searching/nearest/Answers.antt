use Rattle.std.proofs.Common.{Some, sym, ap, ◌∙◌, arith}
use Rattle.ff_acts.specs.Held.{top_of}
use Rattle.ff_acts.specs.Stops.{IsOpen}
use Rattle.ff_acts.proofs.Holders.{there, absent, low, parent_at, held_here, held_above, held_nowhere}
use Rattle.ff_acts.proofs.searching.nearest.Goals as goal

pub returns-in-Found : goal.returns-in-Found
returns-in-Found c =
    let is = c.in-Found.ensures in
    let acts = c.args.acts.now in
    let vars = c.args.vars.now in
    let held = c.requires.held in
    record {
      cell = is.cell;
      at = is.at;
      name = is.name;
      holds = c.loop-k.invariant.same ∙ held_here acts vars held c.loop-k.at c.args.name.now (there acts vars held c.loop-k.at c.args.name.now c.in-Found.k is) ∙ ap Some (sym is.owner);
    }

pub loop-k-preserved : goal.loop-k-preserved
loop-k-preserved c =
    let acts = c.args.acts.now in
    let vars = c.args.vars.now in
    let held = c.requires.held in
    let ends : IsOpen (top_of acts c.loop-k.at) vars c.loop-k.at c.args.name.now c.in-Open._place = c.in-Open.ensures in
    let other = absent acts vars held c.loop-k.at c.args.name.now c.loop-k.invariant.lives ends.none in
    let above = parent_at acts vars held c.loop-k.at c.cell_at.result.now c.cell_at.ensures ∙ c.in-Some.is in
    record {
      lives = omega (arith, low acts vars held c.loop-k.at c.in-Some.parent above, c.loop-k.invariant.lives);
      same = c.loop-k.invariant.same ∙ held_above acts vars held c.loop-k.at c.args.name.now other c.in-Some.parent above;
    }

pub returns-in-None : goal.returns-in-None
returns-in-None c =
    let acts = c.args.acts.now in
    let vars = c.args.vars.now in
    let held = c.requires.held in
    let ends : IsOpen (top_of acts c.loop-k.at) vars c.loop-k.at c.args.name.now c.in-Open._place = c.in-Open.ensures in
    let other = absent acts vars held c.loop-k.at c.args.name.now c.loop-k.invariant.lives ends.none in
    c.loop-k.invariant.same
    ∙ held_nowhere acts vars held c.loop-k.at c.args.name.now other (parent_at acts vars held c.loop-k.at c.cell_at.result.now c.cell_at.ensures ∙ c.in-None.is)
