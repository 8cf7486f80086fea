use Rattle.std.proofs.Common.{◌≡◌, ℕ, true, List, ap, ◌∙◌, rules}
use Rattle.std.specs.Cmp.{nat_cmp_total}
use Rattle.std.specs.Ordering.{nat_cmp}
use Rattle.std.specs.FinSet as finset
use Rattle.std.specs.FinSet.{contains-from_list_nat}
use Rattle.ff_stores.proofs.Touching.{insert_there}
use Rattle.ff_stores.proofs.touched.Touched.add.Goals as goal

pub returns-in_ok-push-clause-done : goal.returns-in_ok-push-clause-done
returns-in_ok-push-clause-done c =
    ap (λ (ns : List ℕ). finset.from_list {R = nat_cmp} ns) c.in_ok-push.ensures.items
    ∙ finset.from_list_push nat_cmp_total finset.nat_cmp-IsAntisymmetric c.self.inside.pages.items c.args.page.0
    ∙ ap (λ (s : finset.FinSet nat_cmp). finset.insert s c.args.page.0) c.self.view_is

pub returns-else-not-contains-clause-done : goal.returns-else-not-contains-clause-done
returns-else-not-contains-clause-done c =
    let members = contains-from_list_nat c.self.inside.pages.items c.args.page.0 in
    let found : c.contains.result ≡ true = search rules in
    let is : finset.contains c.args.self.now c.args.page.0 ≡ true = cc (c.contains.ensures.value, c.deref.ensures.value, c.self.view_is, members, found) in
    insert_there c.args.self.now c.args.page.0 is
