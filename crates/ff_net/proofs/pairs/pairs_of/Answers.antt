use Rattle.std.proofs.Common.{◌≡◌, ◌-◌, arith, sym, ap, ◌∙◌, true, false}
use Rattle.ff_net.specs.Cookies.{is_of}
use Rattle.ff_net.proofs.Gathered.{in_order, gathered_none, gathered_here, gathered_elsewhere}
use Rattle.ff_net.proofs.pairs.pairs_of.Goals as goal

pub loop-i-init : goal.loop-i-init
loop-i-init c = record { within = omega arith; pairs = c.new-pairs.ensures.items ∙ gathered_none c.args.domain.now c.args.cookies.now c.len-i.result c.len-i.ensures }

pub loop-i-preserved-in_ok-put_in_order : goal.loop-i-preserved-in_ok-put_in_order
loop-i-preserved-in_ok-put_in_order c =
    let here : is_of c.args.domain.now c.at-cookie.result.now ≡ true = cc in
    record {
      within = omega (arith, c.loop-i.invariant.within);
      pairs =
          c.in_ok-put_in_order.ensures
          ∙ ap (λ p. in_order p c.loop-i.pairs.items) c.in_ok-pair.ensures
          ∙ ap (in_order _) c.loop-i.invariant.pairs
          ∙ sym (gathered_here c.args.domain.now c.args.cookies.now c.requires (c.loop-i.i - 1) c.loop-i.i (omega arith) c.at-cookie.result.now c.at-cookie.ensures here);
    }

pub loop-i-preserved : goal.loop-i-preserved
loop-i-preserved c =
    let other : is_of c.args.domain.now c.at-cookie.result.now ≡ false = cc in
    record {
      within = omega (arith, c.loop-i.invariant.within);
      pairs =
          c.loop-i.invariant.pairs
          ∙ sym (gathered_elsewhere c.args.domain.now c.args.cookies.now c.requires (c.loop-i.i - 1) c.loop-i.i (omega arith) c.at-cookie.result.now c.at-cookie.ensures other);
    }
