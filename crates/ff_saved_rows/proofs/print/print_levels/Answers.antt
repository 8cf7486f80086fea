use Rattle.std.proofs.Common.{◌≡◌, ◌+◌, [], ◌∷◌, filter, ap, sym, ◌∙◌, arith}
use Rattle.ff_forms.specs.Canonical.{word}
use Rattle.ff_lattice.specs.LevelSet.{has, below}
use Rattle.ff_lattice.specs.Order.{name, size}
use Rattle.ff_printing.specs.Pieces.{each_after_blank}
use Rattle.ff_printing.proofs.Printing.{prints_as, nothing}
use Rattle.ff_saved_rows.proofs.Printing.{and_more}
use Rattle.ff_saved_rows.proofs.Levels.{all_levels, one_level_more}
use Rattle.ff_saved_rows.proofs.print.print_levels.Goals as goal

pub loop-number-init : goal.loop-number-init
unfolding below
loop-number-init c = nothing c.args.out.now

pub loop-number-preserved : goal.loop-number-preserved
loop-number-preserved c =
    prints_as (each_after_blank (λ k. word (name c.args.lattice.now k)) (filter (has c.args.levels) (below (c.loop-number.number + 1))))
    (ap (each_after_blank (λ k. word (name c.args.lattice.now k))) (one_level_more c.args.levels c.loop-number.number))
    (and_more (λ k. word (name c.args.lattice.now k)) (filter (has c.args.levels) (below c.loop-number.number)) (filter (has c.args.levels) (c.loop-number.number ∷ [])) c.loop-number.invariant c.print_member.ensures)

pub returns : goal.returns
returns c =
    let end : c.size-number-end.result ≡ size c.args.lattice.now = c.size-number-end.ensures.value in
    let all : c.loop-number.number ≡ size c.args.lattice.now = omega arith in
    let few = c.size-number-end.ensures.valid.few in
    prints_as (each_after_blank (λ k. word (name c.args.lattice.now k)) c.args.levels)
    (ap (each_after_blank (λ k. word (name c.args.lattice.now k))) (sym (all_levels c.args.levels (size c.args.lattice.now) c.len-known.ensures.valid few c.requires) ∙ ap (λ n. filter (has c.args.levels) (below n)) (sym all)))
    c.loop-number.invariant
