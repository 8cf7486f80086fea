-- Records as they are gathered, and as they are gathered whole.
use Rattle.std.specs.Prelude.{map}
use Rattle.ff_records.specs.declared.records.NodeRec.{NodeRec}
use Rattle.ff_saved_rows.specs.Recs.{StoresRecs}
use Rattle.ff_saved_rows.specs.declared.draft.Draft.{Draft}
use Rattle.ff_saved_rows.specs.declared.draft.Drafted.{Drafted}
use Rattle.ff_saved_rows.specs.declared.draft.NodeDraft.{NodeDraft}

abbrev pub node_of : NodeDraft → NodeRec
node_of draft = record { shape = draft.shape; on = draft.on.items; kids = draft.kids }

abbrev pub so_far : Draft → StoresRecs
so_far d = record {
  nodes = map node_of d.nodes.items;
  windows = record { acts = d.acts.items; pages = d.pages.items; wins = d.wins.items; opened = d.opened };
  cookies = d.cookies.items;
  asks = d.asks.items;
  mass = d.mass;
}

abbrev pub recs_of : Drafted → StoresRecs
recs_of d = record {
  nodes = d.nodes;
  windows = record { acts = d.acts; pages = d.pages; wins = d.wins; opened = d.opened };
  cookies = d.cookies;
  asks = d.asks;
  mass = d.mass;
}
