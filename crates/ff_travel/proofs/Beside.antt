-- Outputs that lie beside copies: each step leaves them, and those that are taken go behind them.
use Rattle.std.proofs.Common.{◌≡◌, ℕ, suc, ◌<◌, Bool, true, false, cond, ◌==◌, Option, List, [], ◌∷◌, ◌++◌, length, map, take, get_or, set, refl, sym, ap, ap₂, ◌∙◌, append_assoc, append-nil, arith, get_or-set_same, get_or-set_other}
use Rattle.std.proofs.Math.Seq.{take-append_seam}
use Rattle.std.proofs.lemmas.Bool.{eqb-true, eqb-false}
use Rattle.std.proofs.lemmas.List.{get_or-map, get_or_default}
use Rattle.ff_confinement.specs.Runs.{joined, after_from, plain_from}
use Rattle.ff_confinement.specs.Turns.{settle, machine_of}
use Rattle.ff_confinement.specs.Worlds.{Copy, leader, levels, each, new_copy, copy_at, offer, offered, stepped, step_copy, emptied, settled, finish, left, split, new_world, world_arrive, world_turn, world_take, world_drain, world_left}
use Rattle.ff_confinement.proofs.Below.{get_or-each, each_agree, each_is, sum_agree_below}
use Rattle.ff_confinement.proofs.Classes.{length-split}
use Rattle.ff_confinement.proofs.Worlds.{copy-arrive, copy-turn, copy-take, copy-drain, copy-new, levels-new}
use Rattle.ff_machine.specs.Machine.{reactor}
use Rattle.ff_machine.specs.State.{State}
use Rattle.ff_value.specs.Same.{same_input}
use Rattle.ff_pool.proofs.Parting.{same_input_decides}
use Rattle.ff_contract.specs.Lists.{Begins}
use Rattle.ff_travel.specs.Beside.{Kept, put_before, behind, cut, cuts, kept_worlds, none_put, under}
use Rattle.ff_pool.specs.Heads.{outputs_at}
use Rattle.ff_travel.specs.Force.{Copies}
use Rattle.ff_value.specs.declared.input.Input.{Input}
use Rattle.ff_value.specs.declared.output.Out.{Out}

module _ (fuel : ℕ) where
  abbrev at : Copies → ℕ → Copy Input Out State
  at w l = copy_at (reactor fuel) w l

  -- ---- one copy

  step_before : (outs : List Out) (c : Copy Input Out State) → put_before outs (step_copy (reactor fuel) c) ≡ step_copy (reactor fuel) (put_before outs c)
  step_before outs c =
      let done = stepped (reactor fuel) c.state c.inbox in
      ap (λ os. record { state = done.state; inbox = done.inbox; outputs = os }) (sym (append_assoc outs c.outputs done.outputs))

  turned_before : (outs : List Out) (c : Copy Input Out State) (b : Bool) → put_before outs (cond b (step_copy (reactor fuel) c) c) ≡ cond b (step_copy (reactor fuel) (put_before outs c)) (put_before outs c)
  turned_before outs c true = step_before outs c
  turned_before outs c false = refl

  finish_before : (most : ℕ) (outs : List Out) (c : Copy Input Out State) → put_before outs (finish (reactor fuel) most c) ≡ finish (reactor fuel) most (put_before outs c)
  unfolding finish
  finish_before most outs c =
      let a = (settle (reactor fuel) most c.state).outputs in
      let b = joined (plain_from (machine_of (reactor fuel) most) (settled (reactor fuel) most c) c.inbox) in
      ap (λ os. record { state = after_from (machine_of (reactor fuel) most) (settled (reactor fuel) most c) c.inbox; inbox = []; outputs = os })
      (sym (append_assoc outs (c.outputs ++ a) b) ∙ ap (λ os. os ++ b) (sym (append_assoc outs c.outputs a)))

  left_before : (most : ℕ) (outs : List Out) (c : Copy Input Out State) → left (reactor fuel) most (put_before outs c) ≡ left (reactor fuel) most c
  unfolding left
  left_before most outs c = refl

  -- ---- all copies

  module _ (puts : List (List Out)) where
    pub copy-behind : (w : Copies) (l : ℕ) → l < levels w → at (behind fuel puts w) l ≡ put_before (outputs_at puts l) (at w l)
    unfolding behind
    copy-behind w l lt = get_or-each (λ k. put_before (outputs_at puts k) (at w k)) (levels w) l (new_copy (reactor fuel)) lt

    pub leaders-behind : (w : Copies) → (behind fuel puts w).leaders ≡ w.leaders
    unfolding behind
    leaders-behind w = refl

    pub behind-arrive : (w : Copies) (offers : List (Option Input)) → behind fuel puts (world_arrive (reactor fuel) same_input w offers) ≡ world_arrive (reactor fuel) same_input (behind fuel puts w) offers
    unfolding behind world_arrive
    behind-arrive w offers = ap (λ cs. record { copies = cs; leaders = split same_input w.leaders offers })
        (ap (each (λ k. put_before (outputs_at puts k) (at (world_arrive (reactor fuel) same_input w offers) k))) (length-split same_input same_input_decides w.leaders offers)
        ∙ each_agree (λ k. put_before (outputs_at puts k) (at (world_arrive (reactor fuel) same_input w offers) k)) (λ k. offered (reactor fuel) (at (behind fuel puts w) k) (offer offers k)) (levels w)
        (λ k lt. ap (put_before (outputs_at puts k)) (copy-arrive (reactor fuel) same_input w offers k lt) ∙ sym (ap (λ c. offered (reactor fuel) c (offer offers k)) (copy-behind w k lt))))

    pub behind-turn : (w : Copies) (l : ℕ) → behind fuel puts (world_turn (reactor fuel) w l) ≡ world_turn (reactor fuel) (behind fuel puts w) l
    unfolding behind world_turn
    behind-turn w l = ap (λ cs. record { copies = cs; leaders = w.leaders })
        (each_agree (λ k. put_before (outputs_at puts k) (at (world_turn (reactor fuel) w l) k)) (λ k. cond (same k) (step_copy (reactor fuel) (at (behind fuel puts w) k)) (at (behind fuel puts w) k)) (levels w)
        (λ k lt. ap (put_before (outputs_at puts k)) (copy-turn (reactor fuel) w l k lt) ∙ turned_before (outputs_at puts k) (at w k) (same k)
        ∙ sym (ap (λ c. cond (same k) (step_copy (reactor fuel) c) c) (copy-behind w k lt))))
      where
        same : ℕ → Bool
        same k = leader w.leaders k == leader w.leaders l

    pub behind-drain : (most : ℕ) (w : Copies) → behind fuel puts (world_drain (reactor fuel) most w) ≡ world_drain (reactor fuel) most (behind fuel puts w)
    unfolding behind world_drain
    behind-drain most w = ap (λ cs. record { copies = cs; leaders = w.leaders })
        (each_agree (λ k. put_before (outputs_at puts k) (at (world_drain (reactor fuel) most w) k)) (λ k. finish (reactor fuel) most (at (behind fuel puts w) k)) (levels w)
        (λ k lt. ap (put_before (outputs_at puts k)) (copy-drain (reactor fuel) most w k lt) ∙ finish_before most (outputs_at puts k) (at w k) ∙ sym (ap (finish (reactor fuel) most) (copy-behind w k lt))))

    -- what of the copies doesn't depend on what was put
    pub left-behind : (most : ℕ) (w : Copies) → world_left (reactor fuel) most (behind fuel puts w) ≡ world_left (reactor fuel) most w
    unfolding behind world_left
    left-behind most w = sum_agree_below (λ l. cond (leader w.leaders l == l) (left (reactor fuel) most (at (behind fuel puts w) l)) 0) (λ l. cond (leader w.leaders l == l) (left (reactor fuel) most (at w l)) 0) (levels w)
        (λ l lt. ap (λ n. cond (leader w.leaders l == l) n 0) (ap (left (reactor fuel) most) (copy-behind w l lt) ∙ left_before most (outputs_at puts l) (at w l)))

    -- the outputs of a level are taken, and go behind those that lay beside
    pub behind-take : (now : List (List Out)) (w : Copies) (l : ℕ) → l < length puts → now ≡ set puts l (outputs_at puts l ++ (at w l).outputs) → behind fuel now (world_take (reactor fuel) w l) ≡ behind fuel puts w
    unfolding behind world_take
    behind-take now w l in_puts now_is = ap (λ cs. record { copies = cs; leaders = w.leaders })
        (each_agree (λ k. put_before (outputs_at now k) (at (world_take (reactor fuel) w l) k)) (λ k. put_before (outputs_at puts k) (at w k)) (levels w)
        (λ k lt. ap₂ put_before (ap (λ ps. outputs_at ps k) now_is) (copy-take (reactor fuel) w l k lt) ∙ taken k (k == l) refl))
      where
        taken : (k : ℕ) (b : Bool) → (k == l) ≡ b → put_before (outputs_at (set puts l (outputs_at puts l ++ (at w l).outputs)) k) (cond b (emptied (reactor fuel) (at w k)) (at w k)) ≡ put_before (outputs_at puts k) (at w k)
        taken k true e =
            let same = eqb-true k l e in
            ap (λ os. put_before os (emptied (reactor fuel) (at w k)))
            (ap (λ j. outputs_at (set puts l (outputs_at puts l ++ (at w l).outputs)) j) same ∙ get_or-set_same puts l (outputs_at puts l ++ (at w l).outputs) [] in_puts ∙ ap (λ j. outputs_at puts j ++ (at w j).outputs) (sym same))
            ∙ ap (λ os. record { state = (at w k).state; inbox = (at w k).inbox; outputs = os }) (append-nil (outputs_at puts k ++ (at w k).outputs))
        taken k false e = ap (λ os. put_before os (at w k)) (get_or-set_other puts l k (outputs_at puts l ++ (at w l).outputs) [] (eqb-false k l e))

  -- nothing lies beside new copies
  pub behind-new : (n : ℕ) → behind fuel (none_put n) (new_world (reactor fuel) n) ≡ new_world (reactor fuel) n
  unfolding behind new_world
  behind-new n = ap (λ cs. record { copies = cs; leaders = each (λ l. 0) n })
      (ap (each (λ l. put_before (outputs_at (none_put n) l) (at (new_world (reactor fuel) n) l))) (levels-new (reactor fuel) n)
      ∙ each_agree (λ l. put_before (outputs_at (none_put n) l) (at (new_world (reactor fuel) n) l)) (λ l. new_copy (reactor fuel)) n (λ l lt. ap₂ put_before (get_or-each (λ k. []) n l [] lt) (copy-new (reactor fuel) n l lt)))

-- ---- what stays of what lies beside

pub cut_again : (before now : List (List Out)) → length now ≡ length before → ((l : ℕ) → l < length before → Begins (outputs_at now l) (outputs_at before l)) → cut (map length before) now ≡ before
unfolding cut
cut_again before now count more = sym (each_is (λ l. take (get_or (map length before) l 0) (outputs_at now l)) before (length now) (sym count)
    (λ l d lt.
    let in_it : l < length before = omega (arith, count, lt) in
    let rest = more l in_it in
    get_or_default before l d [] in_it ∙ sym (ap₂ take (get_or-map length before l [] 0 in_it) rest.1 ∙ take-append_seam (outputs_at before l) rest.0)))

pub cuts_push : (ks : List Kept) (k : Kept) (puts : List (List Out)) → cuts (ks ++ k ∷ []) puts ≡ cuts ks (cut k.counts puts)
cuts_push [] k puts = refl
cuts_push (x ∷ ks) k puts = ap (cut x.counts) (cuts_push ks k puts)

pub kept_push : (ks : List Kept) (k : Kept) (puts : List (List Out)) → kept_worlds (ks ++ k ∷ []) puts ≡ kept_worlds ks (cut k.counts puts) ++ under (cut k.counts puts) k.pool ∷ []
kept_push [] k puts = refl
kept_push (x ∷ ks) k puts = ap₂ (λ ps ws. under (cut x.counts ps) x.pool ∷ ws) (cuts_push ks k puts) (kept_push ks k puts)

pub length_kept : (ks : List Kept) (puts : List (List Out)) → length (kept_worlds ks puts) ≡ length ks
length_kept [] puts = refl
length_kept (k ∷ ks) puts = ap suc (length_kept ks puts)
