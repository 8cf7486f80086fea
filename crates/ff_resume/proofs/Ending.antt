-- A run from where the copies of a pool at rest stand ends where those of a pool at rest stand.
use Rattle.std.proofs.Common.{◌≡◌, ◌≤◌, ◌+◌, ℕ, zero, suc, List, [], ◌∷◌, ◌++◌, All, refl, sym, subst, arith, append-nil, append_assoc}
use Rattle.std.proofs.lemmas.List.Elements.{All-head, All-tail}
use Rattle.ff_lattice.specs.Order.{size}
use Rattle.ff_machine.specs.State.{State}
use Rattle.ff_policy.specs.Assignment.{Assignment}
use Rattle.ff_pool.specs.Pooled as pooled
use Rattle.ff_pool.specs.Pooled.{Pooled, arrived, drained, taken, copy_of}
use Rattle.ff_pool.specs.Restored.{IsResting}
use Rattle.ff_pool.proofs.Gathering.{ends}
use Rattle.ff_pool.proofs.Parting.{same_input_decides}
use Rattle.ff_confinement.specs.Copies.{at_level}
use Rattle.ff_confinement.specs.Rested.{offers_of}
use Rattle.ff_confinement.specs.Standings.{Standing}
use Rattle.ff_confinement.specs.Text.{text_of}
use Rattle.ff_confinement.specs.Worlds.{AreOffers}
use Rattle.ff_confinement.proofs.Resting.{offers_ok}
use Rattle.ff_session.specs.Levels.{levels}
use Rattle.ff_session.specs.Multi.{AreCopiesAt, seen_by}
use Rattle.ff_session.proofs.Feeding.{IsLettingOut, seen_spelled, taking_starts, out_start, out_step, all_taken}
use Rattle.ff_trace.specs.Lines.{IsInputOf}
use Rattle.ff_value.specs.Same.{same_input}
use Rattle.ff_value.specs.Spelled.{IsWellSpelledInput}
use Rattle.ff_value.specs.declared.input.Input.{Input}
use Rattle.ff_resume.specs.Resumed.{EndsAtRest, stand_of}
use Rattle.ff_resume.proofs.Resting.{stands_at, rests_again, stands_there}

module _ (p : Assignment) where
  -- the outputs of the levels below one are taken
  record TakenBelow (pool : Pooled) (l : ℕ) : Type 0 where
    now : Pooled
    text : List ℕ
    letting : IsLettingOut p pool [] now text l

  taken_below : (pool : Pooled) → pooled.size pool ≡ size p.order → (l : ℕ) → l ≤ size p.order → TakenBelow pool l
  taken_below pool count zero fewer = record { now = pool; text = []; letting = out_start p pool [] count }
  taken_below pool count (suc l) fewer =
      let before = taken_below pool count l (omega (arith, fewer)) in
      let outs = (copy_of before.now l).outputs in
      let next : l + 1 ≡ suc l = omega arith in
      record {
        now = taken before.now l;
        text = before.text ++ text_of (levels p) (at_level (levels p) l outs);
        letting =
            subst (IsLettingOut p pool [] (taken before.now l) (before.text ++ text_of (levels p) (at_level (levels p) l outs))) next
            (out_step p pool [] before.now (taken before.now l) before.text (before.text ++ text_of (levels p) (at_level (levels p) l outs)) l outs before.letting (omega (arith, fewer)) refl refl refl);
      }

  module _ (from : Standing State) where
    -- a pool whose copies stand where the inputs have brought them
    record IsBrought (is : List Input) : Type 0 where
      pool : Pooled
      at : AreCopiesAt p (seen_by p) from pool is

    -- one input more
    one_more : (is : List Input) (i : Input) → IsInputOf p.order i → IsBrought is → IsBrought (is ++ i ∷ [])
    one_more is i good brought =
        let offers = offers_of (seen_by p) (size p.order) is i in
        let fit : AreOffers IsWellSpelledInput (size p.order) offers = offers_ok (ends p.fuel) (levels p) (seen_by p) from same_input same_input_decides is i (seen_spelled p is i good) in
        let begun = drained (arrived brought.pool offers) in
        let start = taking_starts p brought.pool offers fit (seen_by p) from is brought.at i refl begun refl in
        let whole = taken_below begun start.taking.count (size p.order) (omega arith) in
        record { pool = whole.now; at = all_taken p begun whole.now [] whole.text (size p.order) whole.letting refl (seen_by p) from is i start }

    -- all of them
    all_more : (before is : List Input) → All (IsInputOf p.order) is → IsBrought before → IsBrought (before ++ is)
    all_more before [] good brought = subst IsBrought (sym (append-nil before)) brought
    all_more before (i ∷ is) good brought =
        subst IsBrought (append_assoc before (i ∷ []) is)
        (all_more (before ++ i ∷ []) is (All-tail (IsInputOf p.order) i is good) (one_more before i (All-head (IsInputOf p.order) i is good) brought))

  pub ends_at_rest : (from : Pooled) (is : List Input) → IsResting (size p.order) p.fuel from → All (IsInputOf p.order) is → EndsAtRest p from is
  ends_at_rest from is rests good =
      let end = all_more (stand_of from) [] is good (record { pool = from; at = stands_at p from rests }) in
      record { there = end.pool; rests = rests_again p end.pool (stand_of from) is end.at; stands = stands_there p end.pool (stand_of from) is end.at }
