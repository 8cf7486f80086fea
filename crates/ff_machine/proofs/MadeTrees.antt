-- A tree that is made of a spelled document, or of a page, keeps nodes valid.
use Rattle.std.proofs.Common.{◌≡◌, ℕ, suc, ◌+◌, ◌<◌, ◌≤◌, true, Some, None, List, [], ◌∷◌, map, length, All, arith, refl}
use Rattle.std.specs.List.{AllByRecursion}
use Rattle.std.proofs.lemmas.Bool.{leb-true}
use Rattle.std.proofs.lemmas.List.{length-append}
use Rattle.std.proofs.lemmas.List.Elements.{All-nil, All-cons, All-append}
use Rattle.ff_name.specs.declared.limits.TheConstants.{MOST_DEPTH}
use Rattle.ff_tree.specs.Spelled.{IsSpelledDoc, IsWellSpelledDoc, doc_depth, most}
use Rattle.ff_tree.specs.declared.tree.Doc.{Doc}
use Rattle.ff_value.specs.declared.ids.ActId.{ActId}
use Rattle.ff_value.specs.declared.ids.PageId.{PageId}
use Rattle.ff_machine.specs.declared.limits.TheConstants.{MOST_NODES, MOST_TREE_DEPTH}
use Rattle.ff_machine.specs.Nodes.{Node, has_room}
use Rattle.ff_machine.specs.Documents.{Laid, laid, laid_page, lay_all, with_tree}
use Rattle.ff_machine.specs.Alone.{AreNodes, IsNode, IsHandler}
use Rattle.ff_machine.specs.References.{Made, NodeRefers, CodeRefers}
use Rattle.ff_machine.proofs.LaidDocs.{IsGood, HasGood, all_good, doc_good, doc_laid, page_laid}
use Rattle.ff_machine.proofs.MoreTrees.{more_trees}
use Rattle.ff_machine.proofs.Parts.{IsLaid}

-- a valid node that refers to what was made
abbrev pub IsSound : Made → Node → Type 0
IsSound m n = IsNode n × NodeRefers m n

sound : (m : Made) (ns : List Node) → All (IsGood m) ns → All (IsSound m) ns
sound m ns good k d less = let g = good k d less in (g.node, g.refers)

-- what keeps the nodes valid, where there is room: a tree whose nodes are sound
more_nodes : (m : Made) (nodes : List Node) (d : Laid) (h : ℕ) → AreNodes nodes → IsLaid d h → h ≤ MOST_TREE_DEPTH → All (IsSound m) (d.nodes (length nodes) None) → has_room nodes d.size ≡ true → AreNodes (with_tree nodes d)
more_nodes m nodes d h are is shallow good room = record {
  each = All-append IsNode nodes (d.nodes (length nodes) None) are.each (λ k n less. (good k n less).0);
  trees = more_trees nodes are.trees d h is shallow;
  few =
      let total = length-append nodes (d.nodes (length nodes) None) in
      let size = is.sized (length nodes) None in
      let fits = leb-true (length nodes + d.size) MOST_NODES room in
      omega (arith, total, size, fits);
}

more_refer : (m : Made) (nodes : List Node) (d : Laid) → All (NodeRefers m) nodes → All (IsSound m) (d.nodes (length nodes) None) → All (NodeRefers m) (with_tree nodes d)
more_refer m nodes d refer good = All-append (NodeRefers m) nodes (d.nodes (length nodes) None) refer (λ k n less. (good k n less).1)

module _ (m : Made) (env : ActId) (there : env.0 < m.acts) (nodes : List Node) (are : AreNodes nodes) where
  -- the nodes of a spelled document are sound
  doc_sound : (d : Doc) → IsWellSpelledDoc d → All (IsSound m) ((laid env d).nodes (length nodes) None)
  doc_sound d well = sound m _ (doc_good m env there d well.spelled well.shallow (length nodes) None)

  -- a tree more of a spelled document keeps nodes valid, where there is room
  pub tree_made : (d : Doc) → IsWellSpelledDoc d → has_room nodes (laid env d).size ≡ true → AreNodes (with_tree nodes (laid env d))
  tree_made d well room = more_nodes m nodes (laid env d) (doc_depth d) are (doc_laid env d) (let shallow = well.shallow in omega (arith, shallow)) (doc_sound d well) room

  -- what it refers to was made
  pub tree_refers : (d : Doc) → IsWellSpelledDoc d → All (NodeRefers m) nodes → All (NodeRefers m) (with_tree nodes (laid env d))
  tree_refers d well refer = more_refer m nodes (laid env d) refer (doc_sound d well)

  each_good : (ds : List Doc) → AllByRecursion IsSpelledDoc ds → most (map doc_depth ds) ≤ MOST_DEPTH → AllByRecursion (HasGood m) (map (laid env) ds)
  each_good [] spelled shallow = tt
  each_good (d ∷ ds) spelled shallow = (doc_good m env there d spelled.0 (grind (arith, shallow)), each_good ds spelled.1 (grind (arith, shallow)))

  -- the nodes of a page of spelled documents are sound
  page_sound : (page : PageId) → page.0 < m.pages → (ds : List Doc) → AllByRecursion IsSpelledDoc ds → most (map doc_depth ds) ≤ MOST_DEPTH → All (IsSound m) ((laid_page page env ds).nodes (length nodes) None)
  page_sound page made ds spelled shallow = All-cons (IsSound m) _ (lay_all (map (laid env) ds) (suc (length nodes)) (Some (record { 0 = length nodes }))) (
    record {
      shape = tt;
      handlers = All-nil IsHandler;
      form = record { few_handlers = omega arith; no_handlers = λ _. refl; no_children = λ no. cc; no_parent = λ _. refl };
    },
    record { shape = made; handlers = All-nil (CodeRefers m) },
  ) (sound m _ (all_good m (map (laid env) ds) (each_good ds spelled shallow) (suc (length nodes)) (Some (record { 0 = length nodes }))))

  -- a page more of spelled documents keeps nodes valid, where there is room
  pub page_made : (page : PageId) → page.0 < m.pages → (ds : List Doc) → AllByRecursion IsSpelledDoc ds → most (map doc_depth ds) ≤ MOST_DEPTH → has_room nodes (laid_page page env ds).size ≡ true → AreNodes (with_tree nodes (laid_page page env ds))
  page_made page made ds spelled shallow room = more_nodes m nodes (laid_page page env ds) (suc (most (map doc_depth ds))) are (page_laid page env ds) (omega (arith, shallow)) (page_sound page made ds spelled shallow) room

  -- what it refers to was made
  pub page_refers : (page : PageId) → page.0 < m.pages → (ds : List Doc) → AllByRecursion IsSpelledDoc ds → most (map doc_depth ds) ≤ MOST_DEPTH → All (NodeRefers m) nodes → All (NodeRefers m) (with_tree nodes (laid_page page env ds))
  page_refers page made ds spelled shallow refer = more_refer m nodes (laid_page page env ds) refer (page_sound page made ds spelled shallow)
