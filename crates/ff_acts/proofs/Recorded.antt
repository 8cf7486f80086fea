-- Cells as records: the variables of each activation in order, and what their values refer to.
use Rattle.std.proofs.Common.{◌≡◌, ◌≢◌, ℕ, suc, ◌+◌, ◌<◌, ◌≤◌, ⊎_elim, Bool, true, false, cond, ◌==◌, Some, None, List, [], ◌∷◌, ◌++◌, All, map, filter, take, drop, length, get_or, set, refl, sym, ap, subst, ◌∙◌, arith, option_and_then}
use Rattle.std.specs.List.{slice_get}
use Rattle.std.specs.BTreeMap.{BTreeMap, insert_entry}
use Rattle.std.specs.Ordering.{nat_cmp}
use Rattle.std.specs.Cmp.Lexicographic.{slice_cmp, nat_list_cmp_total}
use Rattle.std.specs.FinMap as finmap
use Rattle.std.proofs.lemmas.Bool.{cases_lt, eqb-true, eq-eqb}
use Rattle.std.proofs.lemmas.List.{drop_all, drop_more, get_or_past, get_or-map, length-map, take_more}
use Rattle.std.proofs.lemmas.Option.{get_or_from_slice_get, slice_get_within, slice_get_past, slice_get-get_or}
use Rattle.ff_value.specs.declared.ids.ActId.{ActId}
use Rattle.ff_value.specs.declared.value.Val.{Val}
use Rattle.ff_machine.specs.Windows.{Activation, no_act, act_at}
use Rattle.ff_machine.specs.References.{Made, ValRefers, ActRefers}
use Rattle.ff_machine.proofs.Maps.{entries-empty}
use Rattle.ff_records.specs.Records.{act_rec, act_recs, variable}
use Rattle.ff_records.specs.declared.records.Variable.{Variable}
use Rattle.ff_records.specs.declared.records.ActRec.{ActRec}
use Rattle.ff_records.proofs.Sorted.{sorted_insert}
use Rattle.ff_acts.specs.declared.cells.ActCell.{ActCell}
use Rattle.ff_acts.specs.declared.cells.VarCell.{VarCell}
use Rattle.ff_acts.specs.Digits.{digits}
use Rattle.ff_acts.specs.Held.{AreHeld, found, seen, top_of, vars_in}
use Rattle.ff_acts.specs.Recorded.{AreSorted, OwnersLive}
use Rattle.ff_acts.proofs.Ahead.{nowhere}
use Rattle.ff_acts.proofs.Places.{written, pushed}
use Rattle.ff_acts.proofs.Rows.{Has, got_has, has_got}
use Rattle.ff_acts.proofs.Seen.{length_seen, seen_at, vars_at}

abbrev pub Sorted : Type 0
Sorted = BTreeMap (List ℕ) Val

-- The owners of variables.

owner_at : (acts : List ActCell) (cells : List VarCell) → AreHeld acts cells → (i : ℕ) (c : VarCell) → slice_get cells i ≡ Some c → length acts ≤ c.owner.0 → ⊥
owner_at acts cells held i c at past =
    let none : top_of acts c.owner ≡ None = ap (option_and_then (λ (act : ActCell). act.top)) (slice_get_past acts c.owner.0 past) in
    nowhere (length cells) cells c.owner c.name (digits c.name) i (subst (λ link. found (length cells) cells c.owner c.name (digits c.name) link ≡ Some i) none (held.each_var i c at))

pub owners_live : (acts : List ActCell) (cells : List VarCell) → AreHeld acts cells → OwnersLive cells (length acts)
owners_live acts cells held = λ i c at. ⊎_elim (λ below. below) (λ past. absurd (owner_at acts cells held i c at past)) (cases_lt c.owner.0 (length acts))

-- The variables of activations, one cell after another, the last one first.

zeroth : (k : ℕ) → 0 + k ≡ k
zeroth k = omega arith

pub none_left : (cells : List VarCell) (i a : ℕ) → i ≡ length cells → [] ≡ finmap.entries (vars_in (drop i cells) a)
none_left cells i a e = sym (ap (λ (cs : List VarCell). finmap.entries (vars_in cs a)) (drop_all i cells (omega (arith, e))) ∙ entries-empty (slice_cmp nat_cmp))

pub none_left_sorted : (cells : List VarCell) (i : ℕ) (each : List Sorted) → i ≡ length cells → AreSorted [] 0 each → AreSorted (drop i cells) 0 each
none_left_sorted cells i each e are = subst (λ (cs : List VarCell). AreSorted cs 0 each) (sym (drop_all i cells (omega (arith, e)))) are

vars_first : (a : ℕ) (c : VarCell) (cs : List VarCell) → vars_in (c ∷ cs) a ≡ cond (c.owner.0 == a) (finmap.insert (vars_in cs a) c.name c.value) (vars_in cs a)
vars_first a c cs =
    elim (c.owner.0 == a) as (λ b. finmap.from_entries {R = slice_cmp nat_cmp} (map (λ (d : VarCell). (d.name, d.value)) (cond b (c ∷ filter (λ (d : VarCell). d.owner.0 == a) cs) (filter (λ (d : VarCell). d.owner.0 == a) cs)))
    ≡ cond b (finmap.insert (vars_in cs a) c.name c.value) (vars_in cs a)) [
      | true ↦ refl
      | false ↦ refl
    ]

module _ (cells : List VarCell) (i j : ℕ) (next : i + 1 ≡ j) (c : VarCell) (at : slice_get cells i ≡ Some c) where
  here : drop i cells ≡ c ∷ drop j cells
  here =
      drop_more cells i c (slice_get_within cells i c at)
      ∙ ap (λ y. y ∷ drop (i + 1) cells) (get_or_from_slice_get cells i c c at)
      ∙ ap (λ k. c ∷ drop k cells) next

  vars_here : (a : ℕ) (b : Bool) → (c.owner.0 == a) ≡ b → vars_in (drop i cells) a ≡ cond b (finmap.insert (vars_in (drop j cells) a) c.name c.value) (vars_in (drop j cells) a)
  vars_here a b e =
      ap (λ (cs : List VarCell). vars_in cs a) here
      ∙ vars_first a c (drop j cells)
      ∙ ap (λ t. cond t (finmap.insert (vars_in (drop j cells) a) c.name c.value) (vars_in (drop j cells) a)) e

  -- one of the activation
  pub one_of_its : (a : ℕ) (es : List (List ℕ × Val)) → c.owner.0 ≡ a → es ≡ finmap.entries (vars_in (drop j cells) a) → insert_entry (slice_cmp nat_cmp) es c.name c.value ≡ finmap.entries (vars_in (drop i cells) a)
  one_of_its a es mine e =
      sorted_insert (slice_cmp nat_cmp) nat_list_cmp_total (vars_in (drop j cells) a) es c.name c.value e
      ∙ ap (λ m. finmap.entries m) (sym (vars_here a true (eq-eqb c.owner.0 a mine)))

  not_same : (a : ℕ) → c.owner.0 ≢ a → (b : Bool) → (c.owner.0 == a) ≡ b → b ≡ false
  not_same a other true e = absurd (other (eqb-true c.owner.0 a e))
  not_same a other false e = refl

  -- one of another
  pub one_of_another : (a : ℕ) (es : List (List ℕ × Val)) → c.owner.0 ≢ a → es ≡ finmap.entries (vars_in (drop j cells) a) → es ≡ finmap.entries (vars_in (drop i cells) a)
  one_of_another a es other e = e ∙ ap (λ m. finmap.entries m) (sym (vars_here a false (not_same a other (c.owner.0 == a) refl)))

  -- all of them
  pub one_sorted : (each : List Sorted) (old new : Sorted) → AreSorted (drop j cells) 0 each → slice_get each c.owner.0 ≡ Some old → new.entries ≡ insert_entry (slice_cmp nat_cmp) old.entries c.name c.value → AreSorted (drop i cells) 0 (set each c.owner.0 new)
  one_sorted each old new are before e = λ k sorted got.
      ⊎_elim
      (λ h. ap (λ (s : Sorted). s.entries) h.1 ∙ e ∙ one_of_its c.owner.0 old.entries refl (subst (λ n. old.entries ≡ finmap.entries (vars_in (drop j cells) n)) (zeroth c.owner.0) (are c.owner.0 old before)) ∙ ap (λ n. finmap.entries (vars_in (drop i cells) n)) (sym h.0 ∙ sym (zeroth k)))
      (λ h. one_of_another k sorted.entries (λ same. h.0 (sym same)) (subst (λ n. sorted.entries ≡ finmap.entries (vars_in (drop j cells) n)) (zeroth k) (are k sorted h.1)) ∙ ap (λ n. finmap.entries (vars_in (drop i cells) n)) (sym (zeroth k)))
      (written each c.owner.0 k new sorted got)

-- no variable yet
pub none_sorted : (each : List Sorted) (new : Sorted) → AreSorted [] 0 each → new.entries ≡ [] → AreSorted [] 0 (each ++ new ∷ [])
none_sorted each new are empty = λ k sorted got.
    ⊎_elim (λ h. are k sorted h) (λ h. ap (λ (s : Sorted). s.entries) h.1 ∙ empty ∙ sym (entries-empty (slice_cmp nat_cmp))) (pushed each k new sorted got)

-- one of what is left to be recorded
pub left_more : (cells : List VarCell) (a : ℕ) (left rest : List Sorted) (sorted : Sorted) → left ≡ sorted ∷ rest → AreSorted cells a left → (sorted.entries ≡ finmap.entries (vars_in cells a)) × AreSorted cells (a + 1) rest
left_more cells a left rest sorted e are =
    let none : a + 0 ≡ a = omega arith in (
      are 0 sorted (ap (λ (ss : List Sorted). slice_get ss 0) e) ∙ ap (λ n. finmap.entries (vars_in cells n)) none,
      λ k next got.
          let more : a + suc k ≡ a + 1 + k = omega arith in
          are (suc k) next (ap (λ (ss : List Sorted). slice_get ss (suc k)) e ∙ got) ∙ ap (λ n. finmap.entries (vars_in cells n)) more,
    )

pub rec_more : (acts : List ActCell) (cells : List VarCell) (a : ℕ) (act : ActCell) (vs : List Variable) → slice_get acts a ≡ Some act → vs ≡ map variable (finmap.entries (vars_in cells a))
    → take (a + 1) (act_recs (seen acts cells)) ≡ take a (act_recs (seen acts cells)) ++ record { parent = act.parent; vars = vs } ∷ []
rec_more acts cells a act vs at e =
    let rec : ActRec = record { parent = act.parent; vars = vs } in
    let below : a < length (seen acts cells) = omega (arith, slice_get_within acts a act at, length_seen acts cells) in
    let within : a < length (act_recs (seen acts cells)) = omega (arith, below, length-map (seen acts cells) act_rec) in
    take_more (act_recs (seen acts cells)) a rec within
    ∙ ap (λ (y : ActRec). take a (act_recs (seen acts cells)) ++ y ∷ [])
    (get_or-map act_rec (seen acts cells) a no_act rec below ∙ ap act_rec (seen_at acts cells a act at) ∙ ap (λ (ws : List Variable). let r : ActRec = record { parent = act.parent; vars = ws } in r) (sym e))

-- What values refer to.

none_some : {A : Type 0} {x : A} → None ≡ Some x → ⊥
none_some e = cc

pub of_cells : (m : Made) (acts : List ActCell) (cells : List VarCell) → AreHeld acts cells → All (λ cell. ValRefers m cell.value) cells → (a : ActId) → ActRefers m (act_at (seen acts cells) a)
of_cells m acts cells held all a = λ x v e.
    ⊎_elim
    (λ below.
    let has : Has cells a.0 x v = got_has cells a.0 x v (ap (λ vars. finmap.get vars x) (sym (vars_at acts cells a below)) ∙ e) in
    subst (ValRefers m) (ap (λ (c : VarCell). c.value) (get_or_from_slice_get cells has.place has.cell has.cell has.at) ∙ has.value) (all has.place has.cell (slice_get_within cells has.place has.cell has.at)))
    (λ past.
    let none : finmap.get (act_at (seen acts cells) a).vars x ≡ None = ap (λ (act : Activation). finmap.get act.vars x) (get_or_past (seen acts cells) a.0 no_act (omega (arith, past, length_seen acts cells))) ∙ finmap.get-empty (slice_cmp nat_cmp) x in
    absurd (none_some (sym none ∙ e)))
    (cases_lt a.0 (length acts))

pub to_cells : (m : Made) (acts : List ActCell) (cells : List VarCell) → AreHeld acts cells → ((a : ActId) → ActRefers m (act_at (seen acts cells) a)) → All (λ cell. ValRefers m cell.value) cells
to_cells m acts cells held refer = λ k d less.
    let c = get_or cells k d in
    let at : slice_get cells k ≡ Some c = slice_get-get_or cells k d less in
    let lives = owners_live acts cells held k c at in
    let got = has_got acts cells held.each_var c.owner.0 c.name c.value (record { place = k; cell = c; at = at; owner = refl; name = refl; value = refl }) in
    refer c.owner c.name c.value (ap (λ vars. finmap.get vars c.name) (vars_at acts cells c.owner lives) ∙ got)
