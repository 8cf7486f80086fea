-- A page load, and what the other traces begin with.
use Rattle.std.proofs.Common.{◌≡◌, ℕ, suc, ◌+◌, true, List, [], ◌∷◌, leb, refl, ap, ◌∙◌}
use Rattle.std.specs.Prelude.{codes}
use Rattle.std.specs.FinMap as finmap
use Rattle.std.specs.FinSet as finset
use Rattle.ff_operators.specs.Limits.{most_mass}
use Rattle.ff_confinement.specs.Runs.{plain}
use Rattle.ff_confinement.specs.Turns.{Stepped}
use Rattle.ff_tree.specs.declared.tree.Doc.{Doc}
use Rattle.ff_value.specs.Weight.{resp_weight}
use Rattle.ff_value.specs.declared.output.Out.{Out}
use Rattle.ff_value.specs.declared.output.ShownPart.TheVariants as shown_part
use Rattle.ff_value.specs.declared.reply.Resp.TheVariants as resp
use Rattle.ff_machine.specs.declared.records.Shape.TheVariants as shape
use Rattle.ff_machine.specs.Nodes.{Walk, shown}
use Rattle.ff_machine.specs.Documents.{Laid, laid_page, lay_leaf, lay_over, with_tree}
use Rattle.ff_machine.specs.Windows as windows
use Rattle.ff_machine.specs.Stores as stores
use Rattle.ff_machine.specs.Stores.{Stores, has_load_room}
use Rattle.ff_machine.specs.State.{empty, lifted}
use Rattle.ff_machine.specs.Inputs.{begin}
use Rattle.ff_machine.specs.Turns.{turn}
use Rattle.ff_machine.specs.Machine.{reactor, browser}
use Rattle.ff_machine.specs.Traces.{home, opening, replying, opened, loaded, a_com, greeting, page_load}
use Rattle.ff_machine.proofs.Derived.{rest, turned, handled, ran}
use Rattle.ff_machine.proofs.Given.{for_window, root_of, leaf, waiting, answered, with_home, busy, resting, activation, node, page, win, settling, runs_alike}
use Rattle.ff_machine.proofs.Maps.{no_pairs, room_first, same_domain, asked_none, asked_one, answered_one, touched_none}
use Rattle.ff_machine.proofs.Laying.{laid-Text}
use Rattle.ff_machine.proofs.Weights.{weight-Text}

-- the root of the page, and below it these
abbrev pub under_root : List Laid → Laid
under_root = lay_over (shape.Page (page 1))

module _ (domain : List ℕ) where
  -- A window is opened.

  opens : (fuel : ℕ) → begin (empty fuel) (opening domain) ≡ record { outputs = opened domain; after = busy fuel (waiting domain) }
  unfolding begin
  opens fuel = rw (room_first domain, no_pairs domain) refl

  waits : (fuel : ℕ) → turn (busy fuel (waiting domain)) ≡ record { outputs = []; after = resting fuel (waiting domain) }
  unfolding turn
  waits fuel = rw (touched_none 0) refl

  -- opening the window takes one turn
  pub handles_opening : (fuel : ℕ) → (settling fuel).handle (empty fuel) (opening domain) ≡ record { outputs = opened domain; after = resting fuel (waiting domain); turns = 1 }
  handles_opening fuel =
      let r = reactor fuel in
      let s = resting fuel (waiting domain) in
      handled r (suc fuel) (empty fuel) (busy fuel (waiting domain)) s (opening domain) (opened domain) [] 1 (opens fuel)
      (turned r fuel (busy fuel (waiting domain)) s s [] [] 0 refl (waits fuel) (rest r fuel s refl))

  -- Its page comes.

  -- a page for the window that weighs so much is loaded, where there is room
  pub loads_page : (fuel w : ℕ) (docs : List Doc) → resp_weight (resp.Page [] docs) ≡ w → leb (0 + w) most_mass ≡ true → has_load_room (answered domain (0 + w)) docs ≡ true
      → begin (resting fuel (waiting domain)) (replying domain docs) ≡ lifted (busy fuel (answered domain (0 + w))) (stores.loaded (answered domain (0 + w)) (win 0) (home domain) docs)
  unfolding begin
  loads_page fuel w docs weighs light room = rw (asked_one domain for_window (same_domain domain), answered_one domain for_window (same_domain domain), weighs, light, room) refl

  -- what loading the window's page leaves, where the page is laid so
  abbrev pub loaded_tree : ℕ → Laid → Stepped Out Stores
  loaded_tree w tree =
      let s = answered domain w in
      let t = record s { nodes = with_tree s.nodes tree; windows = windows.page_shown (windows.with_page s.windows (home domain) (win 0) (node 1)) (win 0) (page 1) } in
      let started = stores.start (page 1) (node 1) t in
      record { outputs = loaded domain (shown t.nodes (node 1)) ∷ started.outputs; after = started.after }

  -- loading documents that are laid so
  pub lays : (w : ℕ) (docs : List Doc) (tree : Laid) → laid_page (page 1) (activation 1) docs ≡ tree → stores.loaded (answered domain w) (win 0) (home domain) docs ≡ loaded_tree w tree
  lays w docs tree e = ap (loaded_tree w) e

-- The page of the load.

weight_greeting : resp_weight (resp.Page [] greeting) ≡ 114
weight_greeting = rw (weight-Text (codes "t") (codes "hi")) refl

room_greeting : has_load_room (answered a_com 114) greeting ≡ true
room_greeting = rw (laid-Text (activation 1) (codes "t") (codes "hi")) refl

abbrev at_home : Stores
at_home = with_home a_com (root_of (node 2 ∷ []) ∷ leaf (shape.Text (codes "t") (codes "hi")) ∷ []) 0 [] [] finmap.empty 114 finset.empty

abbrev lines : List Out
lines = loaded a_com (shown_part.Text (codes "hi") ∷ []) ∷ []

shows_tree : loaded_tree a_com 114 (under_root (lay_leaf (shape.Text (codes "t") (codes "hi")) [] ∷ [])) ≡ record { outputs = lines; after = at_home }
unfolding Walk shown
shows_tree = refl

shows_greeting : stores.loaded (answered a_com 114) (win 0) (home a_com) greeting ≡ record { outputs = lines; after = at_home }
shows_greeting =
    lays a_com 114 greeting (under_root (lay_leaf (shape.Text (codes "t") (codes "hi")) [] ∷ []))
    (ap (λ d. under_root (d ∷ [])) (laid-Text (activation 1) (codes "t") (codes "hi")))
    ∙ shows_tree

module _ (fuel : ℕ) where
  settles : turn (busy fuel at_home) ≡ record { outputs = []; after = resting fuel at_home }
  unfolding turn
  settles = rw (touched_none 1) refl

  handles_reply : (settling fuel).handle (resting fuel (waiting a_com)) (replying a_com greeting) ≡ record { outputs = lines; after = resting fuel at_home; turns = 1 }
  handles_reply =
      let r = reactor fuel in
      let s = resting fuel at_home in
      handled r (suc fuel) (resting fuel (waiting a_com)) (busy fuel at_home) s (replying a_com greeting) lines [] 1
      (loads_page a_com fuel 114 greeting weight_greeting refl room_greeting ∙ ap (lifted (busy fuel (answered a_com 114))) shows_greeting)
      (turned r fuel (busy fuel at_home) s s [] [] 0 refl settles (rest r fuel s refl))

  -- It comes again.

  nothing_asked : begin (resting fuel at_home) (replying a_com greeting) ≡ record { outputs = []; after = busy fuel at_home }
  unfolding begin
  nothing_asked = rw (asked_none a_com) refl

  handles_again : (settling fuel).handle (resting fuel at_home) (replying a_com greeting) ≡ record { outputs = []; after = resting fuel at_home; turns = 1 }
  handles_again =
      let r = reactor fuel in
      let s = resting fuel at_home in
      handled r (suc fuel) s (busy fuel at_home) s (replying a_com greeting) [] [] 1 nothing_asked
      (turned r fuel (busy fuel at_home) s s [] [] 0 refl settles (rest r fuel s refl))

  runs_once : plain (settling fuel) page_load.inputs ≡ page_load.outputs
  unfolding plain
  runs_once =
      let m = settling fuel in
      ran m (empty fuel) (resting fuel (waiting a_com)) (opening a_com) (replying a_com greeting ∷ replying a_com greeting ∷ []) (opened a_com) (lines ∷ [] ∷ []) 1 (handles_opening a_com fuel)
      (ran m (resting fuel (waiting a_com)) (resting fuel at_home) (replying a_com greeting) (replying a_com greeting ∷ []) lines ([] ∷ []) 1 handles_reply
      (ran m (resting fuel at_home) (resting fuel at_home) (replying a_com greeting) [] [] [] 1 handles_again refl))

-- the page is loaded once
pub loads_once : (fuel : ℕ) → plain (browser fuel) page_load.inputs ≡ page_load.outputs
loads_once fuel = runs_alike fuel page_load (runs_once fuel)
