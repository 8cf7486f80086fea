use Rattle.std.specs.FinSet.{contains-from_list_nat}
use Rattle.ff_stores.proofs.touched.Touched.has.Goals as goal

pub returns : goal.returns
returns c =
    let members = contains-from_list_nat c.self.inside.pages.items c.args.page.0 in
    cc (c.contains.ensures.value, c.deref.ensures.value, c.self.view_is, members)
