use Rattle.std.proofs.Common.{◌≡◌, ◌<◌, None, [], All, length, ap, sym, subst, ◌∙◌, arith, rules}
use Rattle.std.proofs.lemmas.Bool.{true≢false}
use Rattle.ff_machine.specs.State.{State}
use Rattle.ff_machine.specs.Turns as turns
use Rattle.ff_machine.specs.Valid.{IsTask}
use Rattle.ff_core.proofs.Turning.{same_step, turn_settles, turn_stops, spent_works, spent_begins, no_items}
use Rattle.ff_core.proofs.parts.Parts.turn.Goals as goal

pub returns-then-idle-clause-step : goal.returns-then-idle-clause-step
returns-then-idle-clause-step g c =
    same_step c.args.self.now c.args.self.now c.settle.new.self c.args.outs.now.items c.settle.new.outs.items _ _ c.settle.result
    (sym (turn_settles c.args.self.now (c.idle.ensures.0 c.if-idle.true))) c.settle.ensures

pub returns-then-self-eq0-clause-step : goal.returns-then-self-eq0-clause-step
returns-then-self-eq0-clause-step g c =
    let spent = ap (λ (s : State). s.fuel) (sym c.self.view_is) ∙ c.if-self-eq0.true in
    same_step c.args.self.now c.args.self.now c.stop.new.self c.args.outs.now.items c.stop.new.outs.items _ _ c.stop.result
    (sym (turn_stops c.args.self.now (λ none. true≢false (sym (c.idle.ensures.1 none) ∙ c.if-idle.false)) spent)) c.stop.ensures

pub work-requires : goal.work-requires
work-requires g c = subst (λ (u : State). All (IsTask u.stores) u.tasks) (sym c.spend.ensures) c.requires

pub returns-then-is_empty-clause-step : goal.returns-then-is_empty-clause-step
returns-then-is_empty-clause-step g c =
    let now = c.args.self.now in
    let u = c.spend.new.self in
    let fuel : now.fuel ≡ c.self.inside.fuel = ap (λ (s : State). s.fuel) (sym c.self.view_is) in
    let some : 0 < now.fuel = omega (arith, fuel, c.if-self-eq0.false) in
    let count : length c.self-2.inside.tasks.items ≡ 0 = search rules in
    let none : u.tasks ≡ [] = ap (λ (s : State). s.tasks) (sym c.self-2.view_is) ∙ no_items c.self-2.inside.tasks.items count in
    let to_do : turns.next_work now ≡ None → ⊥ = λ idle. true≢false (sym (c.idle.ensures.1 idle) ∙ c.if-idle.false) in
    same_step u now c.begin_script.new.self c.args.outs.now.items c.args.outs.now.items _ (turns.turn now) c.begin_script.result
    (sym (spent_begins now u u.tasks c.spend.ensures none none to_do some)) (c.begin_script.ensures.step c.args.outs.now.items)

pub returns-else-is_empty-clause-step : goal.returns-else-is_empty-clause-step
returns-else-is_empty-clause-step g c =
    let now = c.args.self.now in
    let u = c.spend.new.self in
    let fuel : now.fuel ≡ c.self.inside.fuel = ap (λ (s : State). s.fuel) (sym c.self.view_is) in
    let some : 0 < now.fuel = omega (arith, fuel, c.if-self-eq0.false) in
    let count : 0 < length c.self-2.inside.tasks.items = search rules in
    let are : u.tasks ≡ c.self-2.inside.tasks.items = ap (λ (s : State). s.tasks) (sym c.self-2.view_is) in
    same_step u now c.work.new.self c.args.outs.now.items c.work.new.outs.items _ (turns.turn now) c.work.result
    (sym (spent_works now u c.spend.ensures (rw are count) some)) c.work.ensures.step
