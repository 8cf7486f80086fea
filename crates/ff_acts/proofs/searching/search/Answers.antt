use Rattle.std.proofs.Common.{◌≡◌, false, rules, None, sym, subst, ◌∙◌}
use Rattle.ff_acts.specs.Held.{is_var, top_of}
use Rattle.ff_acts.proofs.Ahead.{IsAhead, goes_right, goes_left, ends}
use Rattle.ff_acts.proofs.searching.search.Goals as goal

pub loop-link-preserved-then-next : goal.loop-link-preserved-then-next
loop-link-preserved-then-next c =
    let cell = c.cell_at-cell.result.now in
    let x = c.args.name.now in
    let cells = c.args.vars.now in
    let other : is_var c.args.a x cell ≡ false = cc in
    let has = c.requires.held.links c.in-Some.k cell c.cell_at-cell.ensures in
    let top = top_of c.args.acts.now c.args.a in
    subst (IsAhead top cells c.args.a x _ _) (sym c.next.ensures.rest)
    (goes_right top cells c.args.a x c.loop-link.place c.loop-link.link c.loop-link.rest c.loop-link.invariant c.in-Some.k cell c.in-Some.is c.cell_at-cell.ensures other has (sym c.next.ensures.digit ∙ c.if-next.true))

pub loop-link-preserved : goal.loop-link-preserved
loop-link-preserved c =
    let cell = c.cell_at-cell.result.now in
    let x = c.args.name.now in
    let cells = c.args.vars.now in
    let other : is_var c.args.a x cell ≡ false = cc in
    let has = c.requires.held.links c.in-Some.k cell c.cell_at-cell.ensures in
    let top = top_of c.args.acts.now c.args.a in
    subst (IsAhead top cells c.args.a x _ _) (sym c.next.ensures.rest)
    (goes_left top cells c.args.a x c.loop-link.place c.loop-link.link c.loop-link.rest c.loop-link.invariant c.in-Some.k cell c.in-Some.is c.cell_at-cell.ensures other has (sym c.next.ensures.digit ∙ c.if-next.false))

pub returns : goal.returns
returns c =
    let none : c.loop-link.link ≡ None = search rules in
    ends (top_of c.args.acts.now c.args.a) c.args.vars.now c.args.a c.args.name.now c.loop-link.place c.loop-link.link c.loop-link.rest c.loop-link.invariant none
