use Rattle.std.proofs.Common.{◌≡◌, ◌++◌, ◌∷◌, [], refl}
use Rattle.ff_frames.specs.declared.frame.Head.TheVariants as head
use Rattle.ff_frames.proofs.Heads.{fit-none, fit-snoc}
use Rattle.ff_frames.proofs.Walk.{went-down}
use Rattle.ff_frames.proofs.seek.opened.Goals as goal

pub returns-in_ok-push-clause-fit : goal.returns-in_ok-push-clause-fit
returns-in_ok-push-clause-fit c =
    let f = head.Part c.args.form 0 in
    let p : c.push.new.self.items ≡ c.args.heads.now.items ++ f ∷ [] = c.in_ok-push.ensures.items in
    rw p (fit-snoc c.args.heads.now.items f c.requires.fit (fit-none f refl))

pub returns-in_ok-push-clause-laid : goal.returns-in_ok-push-clause-laid
returns-in_ok-push-clause-laid c =
    (went-down c.args.heads.now.items _ c.args.hand.now c.hold_operand.new.self c.args.form c.requires.empty c.in_ok-push.ensures.items (rw (c.get.ensures, c.if-on.true) at c.in_ok-on.ensures)).laid

pub returns-in_ok-push-clause-step : goal.returns-in_ok-push-clause-step
returns-in_ok-push-clause-step c =
    rw c.if-on.true
    (went-down c.args.heads.now.items _ c.args.hand.now c.hold_operand.new.self c.args.form c.requires.empty c.in_ok-push.ensures.items (rw (c.get.ensures, c.if-on.true) at c.in_ok-on.ensures)).step
