-- Traces of scripts: a fault, a slot that waits, and a queue that is left for want of fuel.
use Rattle.std.proofs.Common.{◌≡◌, ℕ, suc, ◌≤◌, pos, true, false, List, [], ◌∷◌, refl, ap, ◌∙◌}
use Rattle.std.specs.Prelude.{codes}
use Rattle.std.specs.FinMap as finmap
use Rattle.std.specs.FinSet as finset
use Rattle.ff_confinement.specs.Runs.{plain}
use Rattle.ff_confinement.specs.Turns.{settle}
use Rattle.ff_tree.specs.declared.op.Op.TheVariants as op
use Rattle.ff_tree.specs.declared.tree.Expr.{Expr}
use Rattle.ff_tree.specs.declared.tree.Lit.TheVariants as lit
use Rattle.ff_tree.specs.Weight.{expr_weight}
use Rattle.ff_value.specs.Weight.{resp_weight}
use Rattle.ff_value.specs.declared.fault.Fault.TheVariants as fault
use Rattle.ff_value.specs.declared.output.Out.{Out}
use Rattle.ff_value.specs.declared.output.Out.TheVariants as out
use Rattle.ff_value.specs.declared.output.ShownPart.TheVariants as shown_part
use Rattle.ff_value.specs.declared.reply.Resp.TheVariants as resp
use Rattle.ff_value.specs.declared.value.Val.TheVariants as val
use Rattle.ff_term.specs.Running.{Running, Done, Prim, none, more}
use Rattle.ff_term.specs.Whole.{whole}
use Rattle.ff_term.proofs.Forms.{whole-Lit, whole-Prim}
use Rattle.ff_machine.specs.declared.records.Entry.{Entry}
use Rattle.ff_machine.specs.declared.records.Entry.TheVariants.{Ready, Wait}
use Rattle.ff_machine.specs.declared.records.Pending.{Pending}
use Rattle.ff_machine.specs.declared.records.Dst.TheVariants as dst
use Rattle.ff_machine.specs.declared.records.Shape.TheVariants as shape
use Rattle.ff_machine.specs.Nodes.{Node, Walk, root, shown}
use Rattle.ff_machine.specs.Net.{with_ask}
use Rattle.ff_machine.specs.Documents.{Laid, laid_page, lay_leaf}
use Rattle.ff_machine.specs.Stores as stores
use Rattle.ff_machine.specs.Stores.{Stores, has_load_room}
use Rattle.ff_machine.specs.State.{empty, lifted}
use Rattle.ff_machine.specs.Inputs.{begin}
use Rattle.ff_machine.specs.Turns.{turn}
use Rattle.ff_machine.specs.Reduction.{Red, reduction}
use Rattle.ff_machine.specs.Machine.{reactor, browser}
use Rattle.ff_machine.specs.Traces.{home, opening, replying, script_comes, opened, loaded, updated, send_to, num, set_x, a_com, too_large, faulty, fault_in_script, address, slotted, waiting_slot, numbers, close_five, queue_left}
use Rattle.ff_machine.proofs.Numbers as amount
use Rattle.ff_machine.proofs.Derived.{rest, turned, handled, ran}
use Rattle.ff_machine.proofs.Given.{root_of, leaf, waiting, answered, with_home, busy, between, running, resting, activation, node, page, win, settling, runs_alike, runs_from}
use Rattle.ff_machine.proofs.Maps.{no_pairs, room_first, same_domain, asked_one, answered_one, touched_none}
use Rattle.ff_machine.proofs.Laying.{laid-Text, laid-Script, laid-Src}
use Rattle.ff_machine.proofs.Weights.{weight-Text, weight-Script, weight-Src, weight-Lit, weight-Prim}
use Rattle.ff_machine.proofs.Worked.{handles_opening, loads_page, loaded_tree, lays, under_root}
use Rattle.ff_machine.proofs.Texts.{IsText, weight_set, at, sets_text, shows_text}

-- A fault: `(text x ..) (script s (+ 9223372036854775807 1)) (script t (set-text .. "ok"))`.

abbrev summing : Running
summing = Prim op.Add (more (Done (val.Num (pos 9223372036854775807))) (more (Done (val.Num (pos 1))) none))

whole_sum : whole too_large ≡ summing
whole_sum = simp (whole-Prim, whole-Lit) refl

weight_sum : expr_weight too_large ≡ 64
weight_sum = simp (weight-Prim, weight-Lit) refl

abbrev ok : Expr
ok = set_x (codes "ok")

abbrev faulty_nodes : List ℕ → List Node
faulty_nodes text = root_of (node 2 ∷ node 3 ∷ node 4 ∷ []) ∷ leaf (shape.Text (codes "x") text) ∷ leaf (shape.Script (codes "s") true too_large) ∷ leaf (shape.Script (codes "t") true ok) ∷ []

faulty_text : IsText faulty_nodes (node 2)
unfolding Walk root shown
faulty_text = record { found = λ text. refl; may_be_set = λ text. refl; set = λ old text. refl; page_is = λ text. refl; shows = λ text. refl }

weight_faulty : resp_weight (resp.Page [] faulty) ≡ 437
weight_faulty = rw (weight-Text (codes "x") (codes "no"), weight-Script (codes "s") too_large, weight-Script (codes "t") ok, weight_sum, weight_set (codes "ok")) refl

abbrev faulty_tree : Laid
faulty_tree = under_root (lay_leaf (shape.Text (codes "x") (codes "no")) [] ∷ lay_leaf (shape.Script (codes "s") false too_large) [] ∷ lay_leaf (shape.Script (codes "t") false ok) [] ∷ [])

lays_faulty : laid_page (page 1) (activation 1) faulty ≡ faulty_tree
lays_faulty = rw (laid-Text (activation 1) (codes "x") (codes "no"), laid-Script (activation 1) (codes "s") too_large, laid-Script (activation 1) (codes "t") ok) refl

room_faulty : has_load_room (answered a_com 437) faulty ≡ true
room_faulty = rw (laid-Text (activation 1) (codes "x") (codes "no"), laid-Script (activation 1) (codes "s") too_large, laid-Script (activation 1) (codes "t") ok) refl

-- the page with a text and a queue
abbrev with_faulty : List ℕ → List Entry → Stores
with_faulty text queue = with_home a_com (faulty_nodes text) 0 queue [] finmap.empty 437 finset.empty

abbrev both : List Entry
both = Ready too_large ∷ Ready ok ∷ []

abbrev no_lines : List Out
no_lines = loaded a_com (shown_part.Text (codes "no") ∷ []) ∷ []

shows_faulty_tree : loaded_tree a_com 437 faulty_tree ≡ record { outputs = no_lines; after = with_faulty (codes "no") both }
unfolding Walk shown
shows_faulty_tree = refl

shows_faulty : stores.loaded (answered a_com 437) (win 0) (home a_com) faulty ≡ record { outputs = no_lines; after = with_faulty (codes "no") both }
shows_faulty = lays a_com 437 faulty faulty_tree lays_faulty ∙ shows_faulty_tree

begins_sum : (budget k : ℕ) → turn (between budget (suc k) (with_faulty (codes "no") both)) ≡ record { outputs = []; after = running budget k (with_faulty (codes "no") (Ready ok ∷ [])) summing }
unfolding turn
begins_sum budget k = rw whole_sum refl

-- the error is put, the task is gone, and nothing else changes
fails : (budget k : ℕ) → turn (running budget (suc k) (with_faulty (codes "no") (Ready ok ∷ [])) summing) ≡ record { outputs = out.Error 0 fault.Overflow ∷ []; after = between budget k (with_faulty (codes "no") (Ready ok ∷ [])) }
unfolding turn Red reduction
fails budget k = refl

abbrev fault_lines : List Out
fault_lines = loaded a_com (shown_part.Text (codes "no") ∷ []) ∷ out.Error 0 fault.Overflow ∷ updated (shown_part.Text (codes "ok") ∷ []) ∷ []

-- the page with the text that the second script sets
abbrev ok_page : Stores
ok_page = at a_com faulty_nodes (node 2) faulty_text 0 0 (codes "ok") [] 439 finset.empty

module _ (n : ℕ) where
  abbrev eight : ℕ
  eight = amount.more 8 n

  handles_faulty : (settling eight).handle (resting eight (waiting a_com)) (replying a_com faulty) ≡ record { outputs = fault_lines; after = resting eight ok_page; turns = 9 }
  handles_faulty =
      let r = reactor eight in
      let end = resting eight ok_page in
      let os = updated (shown_part.Text (codes "ok") ∷ []) ∷ [] in
      handled r (suc eight) (resting eight (waiting a_com)) (busy eight (with_faulty (codes "no") both)) end (replying a_com faulty) no_lines (out.Error 0 fault.Overflow ∷ os) 9
      (loads_page a_com eight 437 faulty weight_faulty refl room_faulty ∙ ap (lifted (busy eight (answered a_com 437))) shows_faulty)
      (turned r eight _ _ end [] (out.Error 0 fault.Overflow ∷ os) 8 refl (begins_sum eight (amount.more 7 n))
      (turned r (amount.more 7 n) _ _ end (out.Error 0 fault.Overflow ∷ []) os 7 refl (fails eight (amount.more 6 n))
      (sets_text a_com faulty_nodes (node 2) faulty_text 0 eight (codes "no") (codes "ok") [] 437 finset.empty refl (suc n) n end os 1
      (turned r n _ end end os [] 0 refl (shows_text a_com faulty_nodes (node 2) faulty_text 0 eight (codes "ok") 439 n finset.empty) (rest r n end refl)))))

  script_fails : plain (settling eight) fault_in_script.inputs ≡ fault_in_script.outputs
  unfolding plain
  script_fails =
      let m = settling eight in
      ran m (empty eight) (resting eight (waiting a_com)) (opening a_com) (replying a_com faulty ∷ []) (opened a_com) (fault_lines ∷ []) 1 (handles_opening a_com eight)
      (ran m (resting eight (waiting a_com)) (resting eight ok_page) (replying a_com faulty) [] fault_lines [] 9 handles_faulty refl)

-- a script that fails ends with its error, and the next one runs
pub a_fault_in_a_script : (fuel : ℕ) → 8 ≤ fuel → plain (browser fuel) fault_in_script.inputs ≡ fault_in_script.outputs
a_fault_in_a_script fuel enough = runs_from 8 fault_in_script script_fails fuel enough

-- A slot that waits: `(src a http://a.com/s) (script b (set-text .. "two")) (text x ..)`, and then
-- `(set-text .. "one")` for the slot.

abbrev one : Expr
one = set_x (codes "one")

abbrev two : Expr
two = set_x (codes "two")

abbrev slotted_nodes : List ℕ → List Node
slotted_nodes text = root_of (node 2 ∷ node 3 ∷ node 4 ∷ []) ∷ leaf (shape.Src (codes "a") true address) ∷ leaf (shape.Script (codes "b") true two) ∷ leaf (shape.Text (codes "x") text) ∷ []

slotted_text : IsText slotted_nodes (node 4)
unfolding Walk root shown
slotted_text = record { found = λ text. refl; may_be_set = λ text. refl; set = λ old text. refl; page_is = λ text. refl; shows = λ text. refl }

weight_slotted : resp_weight (resp.Page [] slotted) ≡ 392
weight_slotted = rw (weight-Src (codes "a") address, weight-Script (codes "b") two, weight-Text (codes "x") (codes "zero"), weight_set (codes "two")) refl

abbrev slotted_tree : Laid
slotted_tree = under_root (lay_leaf (shape.Src (codes "a") false address) [] ∷ lay_leaf (shape.Script (codes "b") false two) [] ∷ lay_leaf (shape.Text (codes "x") (codes "zero")) [] ∷ [])

lays_slotted : laid_page (page 1) (activation 1) slotted ≡ slotted_tree
lays_slotted = rw (laid-Src (activation 1) (codes "a") address, laid-Script (activation 1) (codes "b") two, laid-Text (activation 1) (codes "x") (codes "zero")) refl

room_slotted : has_load_room (answered a_com 392) slotted ≡ true
room_slotted = rw (laid-Src (activation 1) (codes "a") address, laid-Script (activation 1) (codes "b") two, laid-Text (activation 1) (codes "x") (codes "zero")) refl

-- the request for the script at the address
abbrev for_slot : Pending
for_slot = record { uri = codes "/s"; dst = dst.Slot (page 1) 0 }

-- the script was asked for, and the next one is behind its slot
abbrev slot_waits : Stores
slot_waits = with_home a_com (slotted_nodes (codes "zero")) 1 (Wait 0 ∷ Ready two ∷ []) [] (with_ask finmap.empty a_com for_slot) 392 finset.empty

-- the page with a text, a queue and a mass, when the script came
abbrev slot_filled : List ℕ → List Entry → ℕ → Stores
slot_filled text queue mass = with_home a_com (slotted_nodes text) 1 queue [] finmap.empty mass finset.empty

abbrev zero_lines : List Out
zero_lines = loaded a_com (shown_part.Text (codes "zero") ∷ []) ∷ send_to a_com (codes "/s") [] ∷ []

abbrev two_lines : List Out
two_lines = updated (shown_part.Text (codes "two") ∷ []) ∷ []

shows_slotted_tree : loaded_tree a_com 392 slotted_tree ≡ record { outputs = zero_lines; after = slot_waits }
unfolding Walk shown
shows_slotted_tree = rw (room_first a_com, no_pairs a_com) refl

shows_slotted : stores.loaded (answered a_com 392) (win 0) (home a_com) slotted ≡ record { outputs = zero_lines; after = slot_waits }
shows_slotted = lays a_com 392 slotted slotted_tree lays_slotted ∙ shows_slotted_tree

settles_waiting : (budget : ℕ) → turn (busy budget slot_waits) ≡ record { outputs = []; after = resting budget slot_waits }
unfolding turn
settles_waiting budget = rw (touched_none 1) refl

fills : (budget : ℕ) → begin (resting budget slot_waits) (script_comes a_com one) ≡ record { outputs = []; after = busy budget (slot_filled (codes "zero") (Ready one ∷ Ready two ∷ []) 604) }
unfolding begin
fills budget = rw (asked_one a_com for_slot (same_domain a_com), answered_one a_com for_slot (same_domain a_com), weight_set (codes "one")) refl

-- the page with the text that the second script sets
abbrev two_page : Stores
two_page = slot_filled (codes "two") [] 610

module _ (n : ℕ) where
  abbrev twelve : ℕ
  twelve = amount.more 12 n

  handles_slotted : (settling twelve).handle (resting twelve (waiting a_com)) (replying a_com slotted) ≡ record { outputs = zero_lines; after = resting twelve slot_waits; turns = 1 }
  handles_slotted =
      let r = reactor twelve in
      let s = resting twelve slot_waits in
      handled r (suc twelve) (resting twelve (waiting a_com)) (busy twelve slot_waits) s (replying a_com slotted) zero_lines [] 1
      (loads_page a_com twelve 392 slotted weight_slotted refl room_slotted ∙ ap (lifted (busy twelve (answered a_com 392))) shows_slotted)
      (turned r twelve (busy twelve slot_waits) s s [] [] 0 refl (settles_waiting twelve) (rest r twelve s refl))

  handles_script : (settling twelve).handle (resting twelve slot_waits) (script_comes a_com one) ≡ record { outputs = two_lines; after = resting twelve two_page; turns = 13 }
  handles_script =
      let r = reactor twelve in
      let end = resting twelve two_page in
      let touched = finset.insert finset.empty 1 in
      handled r (suc twelve) (resting twelve slot_waits) (busy twelve (slot_filled (codes "zero") (Ready one ∷ Ready two ∷ []) 604)) end (script_comes a_com one) [] two_lines 13 (fills twelve)
      (sets_text a_com slotted_nodes (node 4) slotted_text 1 twelve (codes "zero") (codes "one") (Ready two ∷ []) 604 finset.empty refl (amount.more 7 n) (amount.more 6 n) end two_lines 7
      (sets_text a_com slotted_nodes (node 4) slotted_text 1 twelve (codes "one") (codes "two") [] 607 touched refl (suc n) n end two_lines 1
      (turned r n _ end end two_lines [] 0 refl (shows_text a_com slotted_nodes (node 4) slotted_text 1 twelve (codes "two") 610 n touched) (rest r n end refl))))

  slot_holds_back : plain (settling twelve) waiting_slot.inputs ≡ waiting_slot.outputs
  unfolding plain
  slot_holds_back =
      let m = settling twelve in
      ran m (empty twelve) (resting twelve (waiting a_com)) (opening a_com) (replying a_com slotted ∷ script_comes a_com one ∷ []) (opened a_com) (zero_lines ∷ two_lines ∷ []) 1 (handles_opening a_com twelve)
      (ran m (resting twelve (waiting a_com)) (resting twelve slot_waits) (replying a_com slotted) (script_comes a_com one ∷ []) zero_lines (two_lines ∷ []) 1 handles_slotted
      (ran m (resting twelve slot_waits) (resting twelve two_page) (script_comes a_com one) [] two_lines [] 13 handles_script refl))

-- the script that came late runs first
pub a_waiting_slot : (fuel : ℕ) → 12 ≤ fuel → plain (browser fuel) waiting_slot.inputs ≡ waiting_slot.outputs
a_waiting_slot fuel enough = runs_from 12 waiting_slot slot_holds_back fuel enough

-- A queue that is left: `(script a 1) (script b 2)`, with one fuel for each input.

weight_num : (n : ℕ) → expr_weight (num n) ≡ 16
weight_num n = weight-Lit (lit.Num (pos n))

abbrev with_numbers : List Entry → Stores
with_numbers queue = with_home a_com (root_of (node 2 ∷ node 3 ∷ []) ∷ leaf (shape.Script (codes "a") true (num 1)) ∷ leaf (shape.Script (codes "b") true (num 2)) ∷ []) 0 queue [] finmap.empty 176 finset.empty

abbrev blank_lines : List Out
blank_lines = loaded a_com [] ∷ []

abbrev stopped : List Out
stopped = out.Stopped ∷ []

weight_numbers : resp_weight (resp.Page [] numbers) ≡ 176
weight_numbers = rw (weight-Script (codes "a") (num 1), weight-Script (codes "b") (num 2), weight_num 1, weight_num 2) refl

abbrev numbers_tree : Laid
numbers_tree = under_root (lay_leaf (shape.Script (codes "a") false (num 1)) [] ∷ lay_leaf (shape.Script (codes "b") false (num 2)) [] ∷ [])

lays_numbers : laid_page (page 1) (activation 1) numbers ≡ numbers_tree
lays_numbers = rw (laid-Script (activation 1) (codes "a") (num 1), laid-Script (activation 1) (codes "b") (num 2)) refl

room_numbers : has_load_room (answered a_com 176) numbers ≡ true
room_numbers = rw (laid-Script (activation 1) (codes "a") (num 1), laid-Script (activation 1) (codes "b") (num 2)) refl

shows_numbers_tree : loaded_tree a_com 176 numbers_tree ≡ record { outputs = blank_lines; after = with_numbers (Ready (num 1) ∷ Ready (num 2) ∷ []) }
unfolding Walk shown
shows_numbers_tree = refl

shows_numbers : stores.loaded (answered a_com 176) (win 0) (home a_com) numbers ≡ record { outputs = blank_lines; after = with_numbers (Ready (num 1) ∷ Ready (num 2) ∷ []) }
shows_numbers = lays a_com 176 numbers numbers_tree lays_numbers ∙ shows_numbers_tree

begins_next : (k : ℕ) (queue : List Entry) → turn (busy 1 (with_numbers (Ready (num k) ∷ queue))) ≡ record { outputs = []; after = running 1 0 (with_numbers queue) (Done (val.Num (pos k))) }
unfolding turn
begins_next k queue = rw (whole-Lit (lit.Num (pos k))) refl

stops : (k : ℕ) (queue : List Entry) → turn (running 1 0 (with_numbers queue) (Done (val.Num (pos k)))) ≡ record { outputs = stopped; after = resting 1 (with_numbers queue) }
unfolding turn
stops k queue = rw (touched_none 1) refl

no_such_window : (queue : List Entry) → begin (resting 1 (with_numbers queue)) close_five ≡ record { outputs = []; after = busy 1 (with_numbers queue) }
unfolding begin
no_such_window queue = refl

settles_numbers : turn (busy 1 (with_numbers [])) ≡ record { outputs = []; after = resting 1 (with_numbers []) }
unfolding turn
settles_numbers = rw (touched_none 1) refl

-- a script begins, and there is no fuel for it
stops_next : (k : ℕ) (queue : List Entry) → settle (reactor 1) 2 (busy 1 (with_numbers (Ready (num k) ∷ queue))) ≡ record { outputs = stopped; after = resting 1 (with_numbers queue); turns = 2 }
stops_next k queue =
    let r = reactor 1 in
    let end = resting 1 (with_numbers queue) in
    turned r 1 (busy 1 (with_numbers (Ready (num k) ∷ queue))) (running 1 0 (with_numbers queue) (Done (val.Num (pos k)))) end [] stopped 1 refl (begins_next k queue)
    (turned r 0 (running 1 0 (with_numbers queue) (Done (val.Num (pos k)))) end end stopped [] 0 refl (stops k queue) (rest r 0 end refl))

both_stop : plain (settling 1) queue_left.inputs ≡ queue_left.outputs
unfolding plain
both_stop =
    let r = reactor 1 in
    let m = settling 1 in
    let first = busy 1 (with_numbers (Ready (num 1) ∷ Ready (num 2) ∷ [])) in
    let one_left = resting 1 (with_numbers (Ready (num 2) ∷ [])) in
    let end = resting 1 (with_numbers []) in
    ran m (empty 1) (resting 1 (waiting a_com)) (opening a_com) (replying a_com numbers ∷ close_five ∷ close_five ∷ []) (opened a_com) ((loaded a_com [] ∷ stopped) ∷ stopped ∷ [] ∷ []) 1 (handles_opening a_com 1)
    (ran m (resting 1 (waiting a_com)) one_left (replying a_com numbers) (close_five ∷ close_five ∷ []) (loaded a_com [] ∷ stopped) (stopped ∷ [] ∷ []) 2
    (handled r 2 (resting 1 (waiting a_com)) first one_left (replying a_com numbers) blank_lines stopped 2
    (loads_page a_com 1 176 numbers weight_numbers refl room_numbers ∙ ap (lifted (busy 1 (answered a_com 176))) shows_numbers) (stops_next 1 (Ready (num 2) ∷ [])))
    (ran m one_left end close_five (close_five ∷ []) stopped ([] ∷ []) 2
    (handled r 2 one_left (busy 1 (with_numbers (Ready (num 2) ∷ []))) end close_five [] stopped 2 (no_such_window (Ready (num 2) ∷ [])) (stops_next 2 []))
    (ran m end end close_five [] [] [] 1
    (handled r 2 end (busy 1 (with_numbers [])) end close_five [] [] 1 (no_such_window [])
    (turned r 1 (busy 1 (with_numbers [])) end end [] [] 0 refl settles_numbers (rest r 1 end refl))) refl)))

-- each script is stopped, the second with the next input
pub a_queue_that_is_left : plain (browser 1) queue_left.inputs ≡ queue_left.outputs
a_queue_that_is_left = runs_alike 1 queue_left both_stop
