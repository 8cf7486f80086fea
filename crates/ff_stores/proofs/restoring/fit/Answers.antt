use Rattle.std.proofs.lemmas.Bool.{leb-true, le-leb}
use Rattle.ff_stores.specs.Restored.{Parts}
use Rattle.ff_stores.proofs.Restored.{stores_refer, roots_live}
use Rattle.ff_stores.proofs.restoring.fit.Goals as goal

pub are_rooted-requires : goal.are_rooted-requires
are_rooted-requires c =
    let p : Parts = record { nodes = c.args.nodes.now; windows = c.args.windows.now; jar = c.args.jar.now; requests = c.args.requests.now; mass = c.args.mass } in
    roots_live p (c.refer.ensures.value.0 c.if-not-refer.false)

pub returns : goal.returns
returns c =
    let p : Parts = record { nodes = c.args.nodes.now; windows = c.args.windows.now; jar = c.args.jar.now; requests = c.args.requests.now; mass = c.args.mass } in (
      λ light. record {
        nodes = c.refer.ensures.nodes;
        windows = c.refer.ensures.windows;
        jar = c.len-known.ensures.valid;
        requests = c.refer.ensures.requests;
        refer = stores_refer p (c.refer.ensures.value.0 c.if-not-refer.false);
        rooted = c.are_rooted.ensures.0 c.if-not-are_rooted.false;
        queued = c.are_queued.ensures.0 c.if-not-are_queued.false;
        light = leb-true _ _ light;
      },
      λ valid. le-leb _ _ valid.light,
    )
