use Rattle.std.proofs.Common.{suc, arith}
use Rattle.ff_machine.proofs.MadeTrees.{tree_made, page_made}
use Rattle.ff_machine.proofs.validity.a_made_tree_leaves_valid_nodes.Goals as goal

pub returns : goal.returns
returns c = record {
  tree = λ nodes env d are well room. tree_made (record { wins = 0; pages = 0; nodes = 0; acts = suc env.0 }) env (omega arith) nodes are d well room;
  page = λ nodes page env ds are spelled shallow room. page_made (record { wins = 0; pages = suc page.0; nodes = 0; acts = suc env.0 }) env (omega arith) nodes are page (omega arith) ds spelled shallow room;
}
