use Rattle.std.proofs.Common.{◌∙◌, ◌+◌, ◌<◌, ◌∷◌, ap, sym, subst, arith, length, map}
use Rattle.std.specs.List.{remove}
use Rattle.std.proofs.lemmas.List.{length-map}
use Rattle.std.proofs.lemmas.List.Elements.{All-map}
use Rattle.ff_pool.specs.Heads.{Head}
use Rattle.ff_pool.specs.Restored.{IsReady}
use Rattle.ff_pool.proofs.AtRest.{heads_start, heads_lead, heads_other, heads_wait, heads_ready, heads_done, fresh_new, fresh_of, first_left, AreHeads}
use Rattle.ff_pool.proofs.restoring.led_heads.Goals as goal
use Rattle.ff_pool.proofs.restoring.led_heads.Goals.{then-leaders-l+in_ok-push, else-leaders-l+in_ok-push-2}

pub loop-l-init : goal.loop-l-init
loop-l-init g c =
    let states = map g.B.Reactor.state in
    heads_start c.new-heads.result.items (states c.into_vec-browsers.result.items) c.new-heads.ensures.items (ap states c.into_vec-browsers.ensures)

pub remove-requires : goal.remove-requires
remove-requires g c =
    let states = map g.B.Reactor.state in
    let count = c.requires.count ∙ sym (length-map c.args.browsers g.B.Reactor.state) in
    let some = heads_wait (states c.loop-l.browsers.items) c.loop-l.heads.items c.loop-l.l c.loop-l.invariant c.loop-l-test.true c.if-leaders-l.true count in
    let same = length-map c.loop-l.browsers.items g.B.Reactor.state in
    let long = c.loop-l.browsers.ok.0 in
    omega (arith, some, same, long)

pub loop-l-preserved : goal.loop-l-preserved
loop-l-preserved g c =
    let state = g.B.Reactor.state in
    let states = map state in
    let count = c.requires.count ∙ sym (length-map c.args.browsers state) in
    elim c.if-leaders-l.branch [
      | then-leaders-l+in_ok-push w ↦
          let left = heads_wait (states c.loop-l.browsers.items) c.loop-l.heads.items c.loop-l.l c.loop-l.invariant c.loop-l-test.true w.if-leaders-l.true count in
          let some : 0 < length c.loop-l.browsers.items = omega (arith, left, length-map c.loop-l.browsers.items state) in
          let first = first_left c.loop-l.browsers.items w.remove.result some w.remove.ensures.value in
          subst (λ hs. AreHeads c.args.fuel c.args.leaders.now (states c.args.browsers) (states c.if-leaders-l.browsers.items) hs (c.loop-l.l + 1)) (sym (ap (λ v. v.items) w.heads-is ∙ w.in_ok-push.ensures.items))
          (heads_lead (state w.remove.result) (states c.if-leaders-l.browsers.items) (states c.loop-l.browsers.items) c.loop-l.heads.items c.loop-l.l w.of.result c.loop-l.invariant
          (ap states (first ∙ ap (λ ss. w.remove.result ∷ ss) (sym (ap (λ v. v.items) w.browsers-is ∙ w.remove.ensures.items)))) w.if-leaders-l.true
          (fresh_of c.args.fuel (state w.remove.result) w.of.result w.of.ensures.made w.of.ensures.valid
          (heads_ready (state w.remove.result) (states (remove c.loop-l.browsers.items 0)) (states c.loop-l.browsers.items) c.loop-l.heads.items c.loop-l.l c.loop-l.invariant (ap states first) (All-map (IsReady c.args.fuel) state c.args.browsers c.requires.ready)))
          (ap (λ (h : Head). h.state) w.of.ensures.made))
      | else-leaders-l+in_ok-push-2 w ↦
          subst (λ bs. AreHeads c.args.fuel c.args.leaders.now (states c.args.browsers) (states bs) c.if-leaders-l.heads.items (c.loop-l.l + 1)) (sym (ap (λ v. v.items) w.browsers-is))
          (subst (λ hs. AreHeads c.args.fuel c.args.leaders.now (states c.args.browsers) (states c.loop-l.browsers.items) hs (c.loop-l.l + 1)) (sym (ap (λ v. v.items) w.heads-is ∙ w.in_ok-push-2.ensures.items))
          (heads_other (states c.loop-l.browsers.items) c.loop-l.heads.items c.loop-l.l w.new.result c.loop-l.invariant w.if-leaders-l.false (fresh_new c.args.fuel w.new.result w.new.ensures)))
    ]

pub returns : goal.returns
returns g c =
    let states = map g.B.Reactor.state in
    heads_done (states c.loop-l.browsers.items) c.loop-l.heads.items c.loop-l.l c.loop-l.invariant (omega arith) (c.requires.count ∙ sym (length-map c.args.browsers g.B.Reactor.state))
