-- A window that is opened where there is room, and what is asked for then.
use Rattle.std.proofs.Common.{◌≡◌, ℕ, ◌<◌, Bool, true, false, Option, Some, None, List, [], ◌∷◌, ◌++◌, Result, Err, All, length, refl, sym, ap, subst, ◌∙◌}
use Rattle.std.specs.Prelude.{◌||◌}
use Rattle.std.specs.List.{list_any}
use Rattle.std.proofs.lemmas.Bool.{eqb-true}
use Rattle.std.proofs.lemmas.List.Elements.{All-head, All-tail}
use Rattle.ff_contract.proofs.Sequence.{front_first, front_none}
use Rattle.ff_confinement.specs.Turns.{Stepped}
use Rattle.ff_value.specs.declared.ids.WinId.{WinId}
use Rattle.ff_value.specs.declared.output.Out.{Out}
use Rattle.ff_machine.specs.Answers.{Makes, MakesIfRoom}
use Rattle.ff_machine.specs.Windows.{is_win, is_open}
use Rattle.ff_machine.specs.Stores.{Stores, and_then}
use Rattle.ff_machine.specs.Valid.{IsStores}

module _ (E : Type 0) (s : Stores) (puts : List Out) (next : Stores → Stepped Out Stores) (s' : Stores) (puts' : List Out) where
  -- the first step was refused memory
  pub room_refused : (X : Type 0) (e : E) (o : Option (Stepped Out Stores)) → MakesIfRoom s s' puts puts' o (let r : Result Bool E = Err e in r)
      → Makes s s' puts puts' (and_then s o next) (let r : Result X E = Err e in r)
  room_refused X e None h = front_none puts puts' [] h
  room_refused X e (Some step) h = front_first puts puts' step.outputs (next step.after).outputs (step.outputs ++ (next step.after).outputs) refl h

among : (n : ℕ) (w : WinId) (ws : List WinId) → All (λ v. v.0 < n) ws → list_any (is_win w) ws ≡ true → w.0 < n
among n w [] all e = cc
among n w (v ∷ ws) all e = by (is_win w v) refl (among n w ws (All-tail (λ (u : WinId). u.0 < n) v ws all)) where
  by : (b : Bool) → is_win w v ≡ b → (list_any (is_win w) ws ≡ true → w.0 < n) → w.0 < n
  by true is more = let same = eqb-true w.0 v.0 is in subst (λ (k : ℕ). k < n) (sym same) (All-head (λ (u : WinId). u.0 < n) v ws all)
  by false is more = more (ap (λ b. b || list_any (is_win w) ws) (sym is) ∙ e)

-- an open window was made
pub open_lives : (s : Stores) (w : WinId) → IsStores s → is_open s.windows w ≡ true → w.0 < length s.windows.windows
open_lives s w valid e = among (length s.windows.windows) w s.windows.opened valid.windows.opened.there e
