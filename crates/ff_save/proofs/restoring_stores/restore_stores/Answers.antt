use Rattle.std.proofs.Common.{subst}
use Rattle.ff_machine.specs.Alone.{AreNodes, AreWindows, IsJar, AreRequests}
use Rattle.ff_records.specs.Records.{node_recs, windows_recs, cookie_recs, ask_recs}
use Rattle.ff_records.specs.Restored.{Restores}
use Rattle.ff_saved_rows.specs.Drafted.{recs_of}
use Rattle.ff_save.proofs.Remade.{remade_ok}
use Rattle.ff_save.proofs.restoring_stores.restore_stores.Goals as goal

pub returns-clause-value : goal.returns-clause-value
returns-clause-value g c =
    let recs = recs_of c.args.recs.now in
    let nodes = subst (Restores AreNodes node_recs recs.nodes) c.in-Some.is c.in_ok-nodes.ensures.value in
    let windows = subst (Restores AreWindows windows_recs recs.windows) c.in-Some-2.is c.in_ok-windows.ensures.value in
    let jar = subst (Restores IsJar cookie_recs recs.cookies) c.in-Some-3.is c.in_ok-jar.ensures.value in
    let requests = subst (Restores AreRequests ask_recs recs.asks) c.in-Some-4.is c.in_ok-requests.ensures.value in
    remade_ok recs c.in-Some.nodes c.in-Some-2.windows c.in-Some-3.jar c.in-Some-4.requests nodes.0 requests.0 nodes.1 windows.1 jar.1 requests.1 c.restore-5.result c.restore-5.ensures.value
