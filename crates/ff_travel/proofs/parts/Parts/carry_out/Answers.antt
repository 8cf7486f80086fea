use Rattle.std.proofs.Common.{◌<◌, ◌+◌, ◌∷◌, [], ◌++◌, ap, ◌∙◌, arith}
use Rattle.std.proofs.lemmas.Result.{on_ok_weaker}
use Rattle.ff_lattice.specs.Order.{size}
use Rattle.ff_travel.specs.Beside.{kept_now}
use Rattle.ff_travel.specs.declared.command.Command.TheVariants.{Arrive, Turn, Drain}
use Rattle.ff_travel.proofs.Carrying.{arrived_is, turned_is, drained_is, turn_counts, drain_counts, step_kept, parts_kept}
use Rattle.ff_travel.proofs.parts.Parts.carry_out.Goals as goal

pub returns-in_ok-arrive-in-Arrive-clause-done : goal.returns-in_ok-arrive-in-Arrive-clause-done
returns-in_ok-arrive-in-Arrive-clause-done g c =
    rw c.in-Arrive.is
    (on_ok_weaker c.gather.result
    (step_kept c.args.self.now.policy.now c.args.self.now.kept.items c.keep.new.kept.items c.args.self.now.puts.items c.gather.new.puts.items c.args.self.now.pool c.arrive.new.pool c.gather.new.pool (Arrive c.in-Arrive.input) c.requires.parts
    (c.in_ok-keep-in-Arrive.ensures.done ∙ ap (λ ps. c.args.self.now.kept.items ++ kept_now ps c.args.self.now.pool ∷ []) c.as_slice.ensures.value)
    (arrived_is c.args.self.now.policy.now c.args.self.now.pool c.arrive.new.pool c.requires.parts.last c.in-Arrive.input c.in_ok-arrive-in-Arrive.ensures.done c.in_ok-arrive-in-Arrive.ensures.levels))
    c.gather.ensures)

pub returns-in_ok-turn-in-Turn-clause-done : goal.returns-in_ok-turn-in-Turn-clause-done
returns-in_ok-turn-in-Turn-clause-done g c =
    rw c.in-Turn.is
    (on_ok_weaker c.gather-in-Turn.result
    (step_kept c.args.self.now.policy.now c.args.self.now.kept.items c.keep-in-Turn.new.kept.items c.args.self.now.puts.items c.gather-in-Turn.new.puts.items c.args.self.now.pool c.turn.new.self c.gather-in-Turn.new.pool (Turn c.in-Turn.level) c.requires.parts
    (c.in_ok-keep-in-Turn.ensures.done ∙ ap (λ ps. c.args.self.now.kept.items ++ kept_now ps c.args.self.now.pool ∷ []) c.as_slice-in-Turn.ensures.value)
    (turned_is c.args.self.now.policy.now c.args.self.now.pool c.turn.new.self c.requires.parts.last c.in-Turn.level c.in_ok-turn-in-Turn.ensures.done))
    c.gather-in-Turn.ensures)

pub returns-in_ok-turn-in-Turn-clause-parts : goal.returns-in_ok-turn-in-Turn-clause-parts
returns-in_ok-turn-in-Turn-clause-parts g c =
    on_ok_weaker c.gather-in-Turn.result
    (parts_kept c.args.self.now.policy.now c.args.self.now.kept.items c.keep-in-Turn.new.kept.items c.args.self.now.puts.items c.gather-in-Turn.new.puts.items c.args.self.now.pool c.turn.new.self c.gather-in-Turn.new.pool (Turn c.in-Turn.level) c.requires.parts
    (c.in_ok-keep-in-Turn.ensures.done ∙ ap (λ ps. c.args.self.now.kept.items ++ kept_now ps c.args.self.now.pool ∷ []) c.as_slice-in-Turn.ensures.value)
    (turned_is c.args.self.now.policy.now c.args.self.now.pool c.turn.new.self c.requires.parts.last c.in-Turn.level c.in_ok-turn-in-Turn.ensures.done))
    c.gather-in-Turn.ensures

pub returns-in_ok-turn-in-Turn-clause-count : goal.returns-in_ok-turn-in-Turn-clause-count
returns-in_ok-turn-in-Turn-clause-count g c =
    let level : c.in-Turn.level.0 < size c.args.self.now.policy.now.order = rw c.in-Turn.is at c.requires.command in
    let counts = turn_counts c.args.self.now.policy.now c.args.self.now.puts.items c.args.self.now.pool c.in-Turn.level c.requires.parts.last level in
    rw c.in-Turn.is (on_ok_weaker c.gather-in-Turn.result (λ done. c.in_ok-turn-in-Turn.ensures.count ∙ ap (λ n. c.args.turns.now + n) counts) c.gather-in-Turn.ensures)

pub returns-in_ok-turn-in-Turn-clause-most : goal.returns-in_ok-turn-in-Turn-clause-most
returns-in_ok-turn-in-Turn-clause-most g c =
    let level : c.in-Turn.level.0 < size c.args.self.now.policy.now.order = rw c.in-Turn.is at c.requires.command in
    let counts = turn_counts c.args.self.now.policy.now c.args.self.now.puts.items c.args.self.now.pool c.in-Turn.level c.requires.parts.last level in
    let most = c.turn.ensures.most in
    rw c.in-Turn.is (omega (arith, counts, most))

pub returns-in_err-turn-in-Turn-clause-most : goal.returns-in_err-turn-in-Turn-clause-most
returns-in_err-turn-in-Turn-clause-most g c =
    let level : c.in-Turn.level.0 < size c.args.self.now.policy.now.order = rw c.in-Turn.is at c.requires.command in
    let counts = turn_counts c.args.self.now.policy.now c.args.self.now.puts.items c.args.self.now.pool c.in-Turn.level c.requires.parts.last level in
    let most = c.turn.ensures.most in
    rw c.in-Turn.is (omega (arith, counts, most))

pub returns-in_ok-drain-in-Drain-clause-done : goal.returns-in_ok-drain-in-Drain-clause-done
returns-in_ok-drain-in-Drain-clause-done g c =
    rw c.in-Drain.is
    (on_ok_weaker c.gather-in-Drain.result
    (step_kept c.args.self.now.policy.now c.args.self.now.kept.items c.keep-in-Drain.new.kept.items c.args.self.now.puts.items c.gather-in-Drain.new.puts.items c.args.self.now.pool c.drain.new.self c.gather-in-Drain.new.pool Drain c.requires.parts
    (c.in_ok-keep-in-Drain.ensures.done ∙ ap (λ ps. c.args.self.now.kept.items ++ kept_now ps c.args.self.now.pool ∷ []) c.as_slice-in-Drain.ensures.value)
    (drained_is c.args.self.now.policy.now c.args.self.now.pool c.drain.new.self c.requires.parts.last c.in_ok-drain-in-Drain.ensures.done))
    c.gather-in-Drain.ensures)

pub returns-in_ok-drain-in-Drain-clause-count : goal.returns-in_ok-drain-in-Drain-clause-count
returns-in_ok-drain-in-Drain-clause-count g c =
    let counts = drain_counts c.args.self.now.policy.now c.args.self.now.puts.items c.args.self.now.pool c.requires.parts.last in
    rw c.in-Drain.is (on_ok_weaker c.gather-in-Drain.result (λ done. c.in_ok-drain-in-Drain.ensures.count ∙ ap (λ n. c.args.turns.now + n) counts) c.gather-in-Drain.ensures)

pub returns-in_ok-drain-in-Drain-clause-most : goal.returns-in_ok-drain-in-Drain-clause-most
returns-in_ok-drain-in-Drain-clause-most g c =
    let counts = drain_counts c.args.self.now.policy.now c.args.self.now.puts.items c.args.self.now.pool c.requires.parts.last in
    let most = c.drain.ensures.most in
    rw c.in-Drain.is (omega (arith, counts, most))

pub returns-in_err-drain-in-Drain-clause-most : goal.returns-in_err-drain-in-Drain-clause-most
returns-in_err-drain-in-Drain-clause-most g c =
    let counts = drain_counts c.args.self.now.policy.now c.args.self.now.puts.items c.args.self.now.pool c.requires.parts.last in
    let most = c.drain.ensures.most in
    rw c.in-Drain.is (omega (arith, counts, most))
