use Rattle.std.proofs.Common.{◌≡◌, rules, arith, refl}
use Rattle.std.proofs.lemmas.Bool.Decides.{Decides-eqb}
use Rattle.std.proofs.lemmas.Slice.Eq.{slice_eq-Decides}
use Rattle.ff_pool.proofs.leading.leaders_of.Goals as goal

pub returns-then-ne : goal.returns-then-ne
returns-then-ne c =
    let made = c.as_slice-3.result.now in
    let given = c.args.classes.now in
    let other : made ≡ given → ⊥ = λ same. grind (arith, slice_eq-Decides (λ a b. slice_eq-Decides Decides-eqb a b _ refl) made given _ refl, c.ne.ensures, c.if-ne.true, same) in
    search (rules, other)

pub returns : goal.returns
returns c =
    let made = c.as_slice-3.result.now in
    let given = c.args.classes.now in
    let same : made ≡ given = grind (arith, slice_eq-Decides (λ a b. slice_eq-Decides Decides-eqb a b _ refl) made given _ refl, c.if-ne.ensures) in
    search (rules, same)
