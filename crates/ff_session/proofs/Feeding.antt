-- Offers of one input come to the copies, and the outputs of one level after another are let out.
use Rattle.std.proofs.Common.{◌≡◌, ℕ, ◌+◌, ◌<◌, Option, Some, List, [], ◌∷◌, ◌++◌, length, refl, sym, ap, subst, ◌∙◌, append-nil, append_assoc}
use Rattle.ff_confinement.specs.Copies.{at_level}
use Rattle.ff_confinement.specs.Text.{text_of}
use Rattle.ff_confinement.specs.Worlds.{copy_at, world_arrive, world_take, world_drain, world_left, AreOffers}
use Rattle.ff_confinement.proofs.Text.{text_of_none, text_of-append}
use Rattle.ff_confinement.proofs.Worlds.{new_world_ok, arrive_ok, take_ok, drain_ok, leaders-take}
use Rattle.ff_confinement.specs.Standings.{Standing, Offering, fresh, puts_own, puts_below}
use Rattle.ff_confinement.specs.Rested.{IsTaking, offers_of}
use Rattle.ff_confinement.proofs.Standings.{puts_below_more}
use Rattle.ff_confinement.proofs.Resting.{offers_ok, rested_new, taking_begun, taking_entry, taking_more, taking_done, rested_left}
use Rattle.ff_lattice.specs.Order.{size}
use Rattle.ff_value.specs.Spelled.{IsWellSpelledInput}
use Rattle.ff_value.specs.declared.input.Input.{Input}
use Rattle.ff_value.specs.declared.output.Out.{Out}
use Rattle.ff_machine.specs.State.{State}
use Rattle.ff_machine.specs.Machine.{reactor}
use Rattle.ff_value.specs.Same.{same_input}
use Rattle.ff_pool.specs.Heads.{IsWorldOf}
use Rattle.ff_pool.specs.Pooled as pooled
use Rattle.ff_pool.specs.Pooled.{Pooled, arrived, drained, taken, left, copy_of, new_pool, AreOffersTo}
use Rattle.ff_pool.proofs.Parting.{same_input_decides}
use Rattle.ff_pool.proofs.Gathering.{ends}
use Rattle.ff_policy.specs.Assignment.{Assignment}
use Rattle.ff_session.specs.Levels as session
use Rattle.ff_session.specs.Levels.{machine}
use Rattle.ff_route.proofs.Fits.{sees_spelled}
use Rattle.ff_trace.specs.Lines.{IsInputOf}
use Rattle.ff_session.specs.Multi.{seen_by, copies_entry, copies_turns, AreCopiesAt, AreTakenBelow, IsOffered}

-- ---- an input comes

-- what the levels see of a well spelled input is well spelled
pub seen_spelled : (p : Assignment) (before : List Input) (i : Input) → IsInputOf p.order i → (l : ℕ) (x : Input) → seen_by p before l i ≡ Some x → IsWellSpelledInput x
seen_spelled p before i is l x seen = sees_spelled p l i x is.spelled seen

pub seen_fit : (p : Assignment) (i : Input) (offers : List (Option Input)) → IsInputOf p.order i → offers ≡ offers_of (seen_by p) (size p.order) [] i → AreOffers IsWellSpelledInput (size p.order) offers
seen_fit p i offers is given = subst (AreOffers IsWellSpelledInput (size p.order)) (sym given)
    (offers_ok (ends p.fuel) (session.levels p) (seen_by p) (fresh (session.machine p)) same_input same_input_decides [] i (seen_spelled p [] i is))

module _ (p : Assignment) (pool : Pooled) (offers : List (Option Input)) (fit : AreOffers IsWellSpelledInput (size p.order) offers) (all : Offering Input) (from : Standing State) (is : List Input) (at : AreCopiesAt p all from pool is) where
  pub offers_fit : AreOffersTo pool offers
  offers_fit = subst (λ n. AreOffers IsWellSpelledInput n offers) (sym at.rested.count) fit

  module _ (i : Input) (given : IsOffered p all is i offers) where
    rest_fit : AreOffersTo pool (offers_of all (size p.order) is i)
    rest_fit = subst (AreOffersTo pool) given offers_fit

    -- the turns that are left then are its part of the work
    pub turns_left : left (arrived pool offers) ≡ copies_turns p all from is i
    turns_left =
        ap (λ f. world_left (reactor f) (f + 1) (world_arrive (reactor f) same_input pool.world offers)) at.pool_of.fuel
        ∙ ap (λ os. world_left (reactor p.fuel) (p.fuel + 1) (world_arrive (reactor p.fuel) same_input pool.world os)) given
        ∙ rested_left (ends p.fuel) (session.levels p) all from same_input same_input_decides pool.world is i at.pool_of.world at.rested rest_fit

    -- and where they were made, its outputs can be taken
    pub taking_starts : (next : Pooled) → next ≡ drained (arrived pool offers) → AreTakenBelow p all from next is i 0
    taking_starts next made = subst (λ q. AreTakenBelow p all from q is i 0) (sym made) (record {
      pool_of = record {
        fuel = at.pool_of.fuel;
        unspent = at.pool_of.unspent;
        world = subst (IsWorldOf p.fuel) (sym world_is)
            (drain_ok (ends p.fuel) (world_arrive (reactor p.fuel) same_input pool.world offers)
            (arrive_ok (ends p.fuel) same_input same_input_decides pool.world offers at.pool_of.world offers_fit));
      };
      taking = subst (λ w. IsTaking (reactor p.fuel) (p.fuel + 1) (session.levels p) all from same_input w is i 0) (sym (world_is ∙ ap (λ os. world_drain (reactor p.fuel) (p.fuel + 1) (world_arrive (reactor p.fuel) same_input pool.world os)) given))
          (taking_begun (ends p.fuel) (session.levels p) all from same_input same_input_decides pool.world is i at.pool_of.world at.rested rest_fit);
    })
      where
        world_is : (drained (arrived pool offers)).world ≡ world_drain (reactor p.fuel) (p.fuel + 1) (world_arrive (reactor p.fuel) same_input pool.world offers)
        world_is = ap (λ f. world_drain (reactor f) (f + 1) (world_arrive (reactor f) same_input pool.world offers)) at.pool_of.fuel

-- ---- its outputs are let out

-- Where the loop over the levels stands: of what was to be taken, that at the levels below l was,
-- and their text was appended.
pub record IsOutBelow (p : Assignment) (text : List ℕ) (now : Pooled) (text_now : List ℕ) (l : ℕ) (all : Offering Input) (from : Standing State) (is : List Input) (i : Input) : Type 0 where
  pub taken : AreTakenBelow p all from now is i l
  pub text_is : text_now ≡ text ++ text_of (session.levels p) (puts_below (machine p) (session.levels p) all from is i l)

pub record IsLettingOut (p : Assignment) (pool : Pooled) (text : List ℕ) (now : Pooled) (text_now : List ℕ) (l : ℕ) : Type 0 where
  pub count : pooled.size now ≡ size p.order
  pub goes : (all : Offering Input) (from : Standing State) (is : List Input) (i : Input) → AreTakenBelow p all from pool is i 0 → IsOutBelow p text now text_now l all from is i

pub out_start : (p : Assignment) (pool : Pooled) (text : List ℕ) → pooled.size pool ≡ size p.order → IsLettingOut p pool text pool text 0
out_start p pool text count = record {
  count = count;
  goes = λ all from is i at. record { taken = at; text_is = sym (ap (λ bs. text ++ bs) (text_of_none (session.levels p)) ∙ append-nil text) };
}

-- one level more
pub out_step : (p : Assignment) (pool : Pooled) (text : List ℕ) (now next : Pooled) (text_now longer : List ℕ) (l : ℕ) (outs : List Out)
    → IsLettingOut p pool text now text_now l → l < size p.order → next ≡ taken now l → outs ≡ (copy_of now l).outputs
    → longer ≡ text_now ++ text_of (session.levels p) (at_level (session.levels p) l outs) → IsLettingOut p pool text next longer (l + 1)
out_step p pool text now next text_now longer l outs out lt made took printed = record {
  count = ap pooled.size made ∙ ap length (leaders-take (reactor now.fuel) now.world l) ∙ out.count;
  goes = λ all from is i start. step all from is i (out.goes all from is i start);
}
  where
    step : (all : Offering Input) (from : Standing State) (is : List Input) (i : Input) → IsOutBelow p text now text_now l all from is i → IsOutBelow p text next longer (l + 1) all from is i
    step all from is i on =
        let of_level : at_level (session.levels p) l outs ≡ puts_own (machine p) (session.levels p) all from l is i =
        ap (at_level (session.levels p) l) (took ∙ ap (λ f. (copy_at (reactor f) now.world l).outputs) on.taken.pool_of.fuel)
        ∙ taking_entry (ends p.fuel) (session.levels p) all from same_input same_input_decides now.world is i l on.taken.taking lt in
        let world_is : next.world ≡ world_take (reactor p.fuel) now.world l = ap (λ q. q.world) made ∙ ap (λ f. world_take (reactor f) now.world l) on.taken.pool_of.fuel in
        record {
          taken = record {
            pool_of = record {
              fuel = ap (λ q. q.fuel) made ∙ on.taken.pool_of.fuel;
              unspent = ap (λ q. q.spent) made ∙ on.taken.pool_of.unspent;
              world = subst (IsWorldOf p.fuel) (sym world_is) (take_ok (ends p.fuel) now.world l on.taken.pool_of.world);
            };
            taking = subst (λ w. IsTaking (reactor p.fuel) (p.fuel + 1) (session.levels p) all from same_input w is i (l + 1)) (sym world_is)
                (taking_more (ends p.fuel) (session.levels p) all from same_input same_input_decides now.world is i l on.taken.taking lt);
          };
          text_is =
              printed ∙ ap (λ bs. bs ++ text_of (session.levels p) (at_level (session.levels p) l outs)) on.text_is
              ∙ append_assoc text (text_of (session.levels p) (puts_below (machine p) (session.levels p) all from is i l)) (text_of (session.levels p) (at_level (session.levels p) l outs))
              ∙ ap (λ bs. text ++ bs)
              (ap (λ os. text_of (session.levels p) (puts_below (machine p) (session.levels p) all from is i l) ++ text_of (session.levels p) os) of_level
              ∙ sym (text_of-append (session.levels p) (puts_below (machine p) (session.levels p) all from is i l) (puts_own (machine p) (session.levels p) all from l is i))
              ∙ sym (ap (text_of (session.levels p)) (puts_below_more (machine p) (session.levels p) all from is i l)));
        }

-- all levels
pub out_done : (p : Assignment) (now : Pooled) (all : Offering Input) (from : Standing State) (is : List Input) (i : Input) → AreTakenBelow p all from now is i (size p.order) → AreCopiesAt p all from now (is ++ i ∷ [])
out_done p now all from is i taken = record {
  pool_of = taken.pool_of;
  rested = taking_done (ends p.fuel) (session.levels p) all from same_input same_input_decides now.world is i taken.taking;
}

pub all_taken : (p : Assignment) (pool now : Pooled) (text text_now : List ℕ) (l : ℕ) → IsLettingOut p pool text now text_now l → l ≡ size p.order
    → (all : Offering Input) (from : Standing State) (is : List Input) (i : Input) → AreTakenBelow p all from pool is i 0 → AreCopiesAt p all from now (is ++ i ∷ [])
all_taken p pool now text text_now l out whole all from is i start = out_done p now all from is i (subst (AreTakenBelow p all from now is i) whole (out.goes all from is i start).taken)

pub all_let_out : (p : Assignment) (pool now : Pooled) (text text_now : List ℕ) (l : ℕ) → IsLettingOut p pool text now text_now l → l ≡ size p.order
    → (all : Offering Input) (from : Standing State) (is : List Input) (i : Input) → AreTakenBelow p all from pool is i 0 → text_now ≡ text ++ copies_entry p all from is i
all_let_out p pool now text text_now l out whole all from is i start =
    (out.goes all from is i start).text_is ∙ ap (λ n. text ++ text_of (session.levels p) (puts_below (machine p) (session.levels p) all from is i n)) whole

-- ---- a new pool

pub fresh_copies : (p : Assignment) (all : Offering Input) (pool : Pooled) (n fuel : ℕ) → n ≡ size p.order → fuel ≡ p.fuel → pool ≡ new_pool n fuel → AreCopiesAt p all (fresh (machine p)) pool []
fresh_copies p all pool n fuel n_is fuel_is made = subst (λ q. AreCopiesAt p all (fresh (machine p)) q []) (sym (made ∙ ap (λ k. new_pool k fuel) n_is ∙ ap (new_pool (size p.order)) fuel_is)) (record {
  pool_of = record { fuel = refl; unspent = refl; world = new_world_ok (ends p.fuel) (size p.order) };
  rested = rested_new (ends p.fuel) (session.levels p) all same_input same_input_decides;
})
