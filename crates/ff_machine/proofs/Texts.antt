-- A script that sets the text of the node named x.
use Rattle.std.proofs.Common.{◌≡◌, ℕ, suc, ◌+◌, true, Option, Some, None, List, [], ◌∷◌, leb, length, refl, ap, ◌∙◌}
use Rattle.std.specs.Prelude.{codes}
use Rattle.std.specs.FinMap as finmap
use Rattle.std.specs.FinSet as finset
use Rattle.ff_operators.specs.Limits.{most_mass}
use Rattle.ff_confinement.specs.Turns.{settle}
use Rattle.ff_tree.specs.declared.op.Op.TheVariants as op
use Rattle.ff_tree.specs.Weight.{string, expr_weight}
use Rattle.ff_value.specs.declared.ids.NodeId.{NodeId}
use Rattle.ff_value.specs.declared.ids.PageId.{PageId}
use Rattle.ff_value.specs.declared.output.Out.{Out}
use Rattle.ff_value.specs.declared.output.ShownPart.TheVariants as shown_part
use Rattle.ff_value.specs.declared.value.Val.TheVariants as val
use Rattle.ff_term.specs.Running.{Running, Evaluation, Done, Prim, none, more}
use Rattle.ff_term.specs.Whole.{whole}
use Rattle.ff_term.proofs.Forms.{whole-Lit, whole-Prim}
use Rattle.ff_machine.specs.declared.records.Entry.{Entry}
use Rattle.ff_machine.specs.declared.records.Entry.TheVariants.{Ready}
use Rattle.ff_machine.specs.Nodes.{Node, by_name, text_fault, text_set, page_root_of, shown}
use Rattle.ff_machine.specs.Faults.{first_fault, limit_unless}
use Rattle.ff_machine.specs.Stores.{Stores, Pages, may_weigh, touch, touched_at, set_text_fault, with_text}
use Rattle.ff_machine.specs.Operators.{Outcome, set_text, unless, becomes}
use Rattle.ff_machine.specs.State.{State, Step}
use Rattle.ff_machine.specs.Turns.{turn, go_on, with_worked}
use Rattle.ff_machine.specs.Reduction.{Red, reduction, of_outcome, by_redex}
use Rattle.ff_machine.specs.Machine.{reactor}
use Rattle.ff_machine.specs.Traces.{set_x, updated}
use Rattle.ff_machine.proofs.Numbers as amount
use Rattle.ff_machine.proofs.Derived.{turned}
use Rattle.ff_machine.proofs.Given.{blank_root, with_home, between, running, resting, activation, node, page, win}
use Rattle.ff_machine.proofs.Maps.{touched_last}
use Rattle.ff_machine.proofs.Weights.{weight-Lit, weight-Prim}

-- `(page (self))`, and what becomes of it

abbrev pub page_of_self : Running
page_of_self = Prim op.Page (more (Prim op.SelfWindow none) none)

abbrev pub page_of_window : Running
page_of_window = Prim op.Page (more (Done (val.Win (win 0))) none)

abbrev finding : Running → Running
finding root = Prim op.Find (more root (more (Done (val.Str (codes "x"))) none))

abbrev setting : Running → List ℕ → Running
setting n text = Prim op.SetText (more n (more (Done (val.Str text)) none))

whole_set : (text : List ℕ) → whole (set_x text) ≡ setting (finding page_of_self) text
whole_set text = simp (whole-Prim, whole-Lit) refl

-- the weight of the script
pub weight_set : (text : List ℕ) → expr_weight (set_x text) ≡ 32 + (113 + string text)
weight_set text = simp (weight-Prim, weight-Lit) refl

-- the node is the page's only one that is shown: it is named x and has the text
pub record IsText (nodes : List ℕ → List Node) (n : NodeId) : Type 0 where
  pub found : (text : List ℕ) → by_name (blank_root ∷ nodes text) (node 1) (codes "x") ≡ Some n
  pub may_be_set : (text : List ℕ) → text_fault (blank_root ∷ nodes text) n ≡ None
  pub set : (old text : List ℕ) → text_set (blank_root ∷ nodes old) n text ≡ blank_root ∷ nodes text
  pub page_is : (text : List ℕ) → page_root_of (blank_root ∷ nodes text) n ≡ Some (page 1)
  pub shows : (text : List ℕ) → shown (blank_root ∷ nodes text) (node 1) ≡ shown_part.Text text ∷ []

module _ (domain : List ℕ) (nodes : List ℕ → List Node) (n : NodeId) (is_text : IsText nodes n) (next budget : ℕ) where
  -- the page with a text, and its queue
  abbrev pub at : List ℕ → List Entry → ℕ → Pages → Stores
  at text queue mass touched = with_home domain (nodes text) next queue [] finmap.empty mass touched

  module _ (old text : List ℕ) (queue : List Entry) (mass : ℕ) (touched : Pages) where
    abbrev before : Stores
    before = at old queue mass touched

    abbrev after : Stores
    after = at text queue (mass + length text) (finset.insert touched 1)

    begins : (k : ℕ) → turn (between budget (suc k) (at old (Ready (set_x text) ∷ queue) mass touched)) ≡ record { outputs = []; after = running budget k before (setting (finding page_of_self) text) }
    unfolding turn
    begins k = rw (whole_set text) refl

    finds_window : (k : ℕ) → turn (running budget (suc k) before (setting (finding page_of_self) text)) ≡ record { outputs = []; after = running budget k before (setting (finding page_of_window) text) }
    unfolding turn Red reduction
    finds_window k = refl

    finds_root : (k : ℕ) → turn (running budget (suc k) before (setting (finding page_of_window) text)) ≡ record { outputs = []; after = running budget k before (setting (finding (Done (val.Node (node 1)))) text) }
    unfolding turn Red reduction
    finds_root k = refl

    finds_x : (k : ℕ) → turn (running budget (suc k) before (setting (finding (Done (val.Node (node 1)))) text)) ≡ record { outputs = []; after = running budget k before (setting (Done (val.Node n)) text) }
    unfolding turn Red reduction
    finds_x k = rw (is_text.found old) refl

    no_fault : leb (mass + length text) most_mass ≡ true → set_text_fault before n text ≡ None
    no_fault light = ap (λ f. first_fault f (limit_unless (may_weigh before (length text)))) (is_text.may_be_set old) ∙ ap limit_unless light

    text_is_set : with_text before n text ≡ after
    text_is_set =
        ap (λ (ns : List Node). let s : Stores = record before { nodes = ns; mass = mass + length text; touched = touched_at before n } in s) (is_text.set old text)
        ∙ ap (λ (p : Option PageId). record after { touched = touch p touched }) (is_text.page_is old)

    does_set : leb (mass + length text) most_mass ≡ true → set_text before n text ≡ becomes after
    does_set light = ap (λ f. unless f (becomes (with_text before n text))) (no_fault light) ∙ ap becomes text_is_set

    -- the evaluation in which the text is set
    abbrev ready : Evaluation
    ready = record { base = activation 1; expr = setting (Done (val.Node n)) text }

    -- the turn, where setting the text has this outcome
    abbrev set_turn : ℕ → Outcome → Step
    set_turn k o =
        let r = by_redex before ready (of_outcome o) in
        with_worked (between budget k before) [] (go_on before (record { page = page 1; running = ready }) r r.answer)

    sets : leb (mass + length text) most_mass ≡ true → (k : ℕ) → turn (running budget (suc k) before (setting (Done (val.Node n)) text)) ≡ record { outputs = []; after = running budget k after (Done val.Null) }
    unfolding turn Red reduction
    sets light k = ap (set_turn k) (does_set light)

    ends : (k : ℕ) → turn (running budget (suc k) after (Done val.Null)) ≡ record { outputs = []; after = between budget k after }
    unfolding turn Red reduction
    ends k = refl

    -- the script takes six turns, each of which spends fuel
    pub sets_text : leb (mass + length text) most_mass ≡ true → (most k : ℕ) (u : State) (others : List Out) (turns : ℕ) → settle (reactor budget) most (between budget k after) ≡ record { outputs = others; after = u; turns = turns }
        → settle (reactor budget) (amount.more 6 most) (between budget (amount.more 6 k) (at old (Ready (set_x text) ∷ queue) mass touched)) ≡ record { outputs = others; after = u; turns = amount.more 6 turns }
    sets_text light most k u others turns later =
        let r = reactor budget in
        turned r (amount.more 5 most) _ _ u [] others (amount.more 5 turns) refl (begins (amount.more 5 k))
        (turned r (amount.more 4 most) _ _ u [] others (amount.more 4 turns) refl (finds_window (amount.more 4 k))
        (turned r (amount.more 3 most) _ _ u [] others (amount.more 3 turns) refl (finds_root (amount.more 3 k))
        (turned r (amount.more 2 most) _ _ u [] others (amount.more 2 turns) refl (finds_x (amount.more 2 k))
        (turned r (amount.more 1 most) _ _ u [] others (amount.more 1 turns) refl (sets light (amount.more 1 k))
        (turned r most _ _ u [] others turns refl (ends k) later)))))

  -- with nothing else to do, the text is shown
  pub shows_text : (text : List ℕ) (mass fuel : ℕ) (touched : Pages) → turn (between budget fuel (at text [] mass (finset.insert touched 1))) ≡ record { outputs = updated (shown_part.Text text ∷ []) ∷ []; after = resting budget (at text [] mass finset.empty) }
  unfolding turn
  shows_text text mass fuel touched = rw (touched_last touched 1 refl, is_text.shows text) refl
