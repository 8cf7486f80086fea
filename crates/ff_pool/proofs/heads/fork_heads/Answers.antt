use Rattle.std.proofs.Common.{◌+◌, ◌∙◌, sym, subst, length, ◌<◌, arith}
use Rattle.ff_pool.proofs.Forking.{IsForking, forking_forked, forking_stay, forking_skip}
use Rattle.ff_pool.proofs.heads.fork_heads.Goals as goal
use Rattle.ff_pool.proofs.heads.fork_heads.Goals.{then-new-l+then-old-l+in_ok-fork_head, else-new-l, else-new-l-via-then-new-l+else-old-l, else-new-l-via-else-new-l}

pub loop-l-preserved : goal.loop-l-preserved
loop-l-preserved g c =
    let at = c.loop-l.invariant in
    let count = at.forking.count in
    let a = c.requires.heads in
    let b = c.requires.count in
    let in_heads : c.loop-l.l < length c.loop-l.heads = omega (arith, count, a, b) in
    let in_old : c.loop-l.l < length c.args.old.now = omega (arith, b) in
    elim c.if-new-l.branch [
      | then-new-l+then-old-l+in_ok-fork_head w ↦
          record {
            forking = subst (λ hs. IsForking c.args.heads.now c.args.old.now c.args.new.now hs (c.loop-l.l + 1)) (sym w.heads-is)
                (forking_forked c.loop-l.heads c.loop-l.l at.forking w.if-old-l.true in_heads c.requires.led in_old w.fork_head.new.heads w.in_ok-fork_head.ensures.forked);
            same = w.copies-is ∙ w.in_ok-fork_head.ensures.copies ∙ at.same;
          }
      | else-new-l w ↦
          let same = w.copies-is ∙ at.same in
          elim w.else-new-l.branch [
            | else-new-l-via-then-new-l+else-old-l w' ↦
                record {
                  forking = subst (λ hs. IsForking c.args.heads.now c.args.old.now c.args.new.now hs (c.loop-l.l + 1)) (sym w.heads-is) (forking_stay c.loop-l.heads c.loop-l.l at.forking w'.if-old-l.false);
                  same = same;
                }
            | else-new-l-via-else-new-l w' ↦
                record {
                  forking = subst (λ hs. IsForking c.args.heads.now c.args.old.now c.args.new.now hs (c.loop-l.l + 1)) (sym w.heads-is) (forking_skip c.loop-l.heads c.loop-l.l at.forking w'.if-new-l.false);
                  same = same;
                }
          ]
    ]
