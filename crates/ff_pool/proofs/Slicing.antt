-- Steps of one class, one after another, on the way to rest.
use Rattle.std.proofs.Common.{◌≡◌, ℕ, ◌+◌, ◌<◌, ◌≤◌, Bool, true, false, cond, ◌==◌, Result, Ok, Err, List, [], ◌∷◌, ◌++◌, length, All, get_or, set, refl, sym, ap, ap₂, subst, ◌∙◌, arith, append_assoc, get_or-set_same}
use Rattle.std.specs.Result.{OnErr}
use Rattle.std.proofs.lemmas.List.{get_or_default, set-set}
use Rattle.std.proofs.lemmas.List.Elements.{All-tail}
use Rattle.ff_value.specs.Spelled.{IsWellSpelledInput}
use Rattle.ff_value.specs.declared.input.Input.{Input}
use Rattle.ff_value.specs.declared.output.Out.{Out}
use Rattle.ff_machine.specs.Machine.{reactor}
use Rattle.ff_confinement.specs.Worlds.{leader, taken, turned_once}
use Rattle.ff_confinement.proofs.Below.{each_agree, get_or-each}
use Rattle.ff_pool.specs.Draining.{IsOnward, steps_left}
use Rattle.ff_pool.specs.Heads.{Head, IsClassStepped, IsKept, IsStepped, MayCount, given, head_at, head_turns, head_works, led_head, new_head, outputs_at, step_head, step_of}
use Rattle.ff_pool.specs.Pooled as pooled
use Rattle.ff_pool.specs.Pooled.{Pooled, has_work, left, seen, size, turned}
use Rattle.ff_pool.proofs.Gathering.{gathered-turn, head_in, kept-turn, turns_at, work_at}
use Rattle.ff_pool.proofs.Onward.{counts_within, onward_start, onward_turn, onward_within, steps_fall}
use Rattle.ff_pool.proofs.Reading.{level_in, read_head}

-- what holds in any case holds where there is an error
pub on_err : {T E P : Type 0} (result : Result T E) → P → OnErr result P
on_err (Ok value) holds = tt
on_err (Err error) holds = holds

-- what waits after a step is well spelled
pub step_spelled : (h : Head) → All IsWellSpelledInput h.inbox → All IsWellSpelledInput (step_head h).inbox
step_spelled h good = by h.state.quiet h.inbox good
  where
    by : (quiet : Bool) (is : List Input) → All IsWellSpelledInput is → All IsWellSpelledInput (cond quiet (taken (reactor h.state.budget) h.state is) (turned_once (reactor h.state.budget) h.state is)).inbox
    by true [] none = none
    by true (i ∷ is) all = All-tail IsWellSpelledInput i is all
    by false is all = all

-- no more turns were counted than were made
pub stepped_counts : (g h : Head) (before outs : List Out) (turns now : ℕ) → IsStepped g before turns h outs now → MayCount g before turns now
stepped_counts g h before outs turns now stepped = MayCount.later h outs now stepped (omega arith)

-- the head of a class, as it is read at the place of the leader that was read
module _ (heads : List Head) (leaders : List ℕ) {l top : ℕ} {g : Head} (level : l < length leaders) (led : leader leaders l < length heads) (at : top ≡ get_or leaders l top) (has : g ≡ get_or heads top g) where
  pub top_is : top ≡ leader leaders l
  top_is = at ∙ get_or_default leaders l top 0 level

  pub head_read : (d : Head) → g ≡ led_head heads leaders l d
  head_read d = has ∙ ap (λ k. get_or heads k g) top_is ∙ get_or_default heads (leader leaders l) g d led

  module _ {before : List Out} (none : before ≡ []) {turns : ℕ} (d : Head) where
    pub may_of_class : {now : ℕ} → MayCount g before turns now → MayCount (led_head heads leaders l d) [] turns now
    may_of_class {now} may = subst (λ h. MayCount h [] turns now) (head_read d) (subst (λ os. MayCount g os turns now) none may)

    pub stepped_of_class : {h : Head} {outs : List Out} {now : ℕ} → IsStepped g before turns h outs now → IsStepped (led_head heads leaders l d) [] turns h outs now
    stepped_of_class {h} {outs} {now} stepped = subst (λ f. IsStepped f [] turns h outs now) (head_read d) (subst (λ os. IsStepped g os turns h outs now) none stepped)

-- outputs that are given to a class, and then more
given_twice : (puts : List (List Out)) (leaders : List ℕ) (top : ℕ) (outs more : List Out) → given (given puts leaders top outs) leaders top more ≡ given puts leaders top (outs ++ more)
unfolding given
given_twice puts leaders top outs more =
    each_agree (λ k. cond (leader leaders k == top) (outputs_at (given puts leaders top outs) k ++ more) (outputs_at (given puts leaders top outs) k))
    (λ k. cond (leader leaders k == top) (outputs_at puts k ++ (outs ++ more)) (outputs_at puts k)) (length leaders)
    (λ k lt. ap (λ os. cond (leader leaders k == top) (os ++ more) os) (get_or-each (λ j. cond (leader leaders j == top) (outputs_at puts j ++ outs) (outputs_at puts j)) (length leaders) k [] lt)
    ∙ both (leader leaders k == top) (outputs_at puts k))
  where
    both : (of_class : Bool) (os : List Out) → cond of_class (cond of_class (os ++ outs) os ++ more) (cond of_class (os ++ outs) os) ≡ cond of_class (os ++ (outs ++ more)) os
    both true os = append_assoc os outs more
    both false os = refl

module _ {fuel : ℕ} {heads : List Head} {puts : List (List Out)} {leaders : List ℕ} (kept : IsKept fuel heads puts leaders) (l : ℕ) (lt : l < length leaders) (turns : ℕ) where
  abbrev top : ℕ
  top = leader leaders l

  abbrev start : Pooled
  start = seen fuel false heads puts leaders

  -- the pool where the class has come to a head, and has put outputs
  abbrev pool_at : Head → List Out → Pooled
  pool_at h outs = seen fuel false (set heads top h) (given puts leaders top outs) leaders

  record IsAlong (h : Head) (outs : List Out) (now : ℕ) : Type 0 where
    keeps : IsKept fuel (set heads top h) (given puts leaders top outs) leaders
    on : IsOnward start turns (pool_at h outs) now
    fewer : steps_left (pool_at h outs) < steps_left start

  -- the head of the class, once it has come to one
  head_is : (h : Head) → head_at fuel (set heads top h) top ≡ h
  head_is h = get_or-set_same heads top h (new_head fuel) (head_in kept l lt)

  module _ (works : head_works (head_at fuel heads top) ≡ true) where
    along : (h : Head) (outs : List Out) (now : ℕ) → IsStepped (head_at fuel heads top) [] turns h outs now → IsAlong h outs now
    along _ _ _ (IsStepped.once h outs now h_is outs_is now_is) =
        let heads_are : set heads top h ≡ set heads top (step_head (head_at fuel heads top)) = ap (set heads top) h_is in
        let puts_are : given puts leaders top outs ≡ given puts leaders top (step_of (head_at fuel heads top)).outputs = ap (given puts leaders top) outs_is in
        let done : pool_at h outs ≡ turned start l = ap (λ w. record { fuel = fuel; spent = false; world = w }) (gathered-turn kept (set heads top h) (given puts leaders top outs) l lt heads_are puts_are) in
        record {
          keeps = kept-turn kept (set heads top h) (given puts leaders top outs) l lt heads_are puts_are;
          on = onward_turn start start (pool_at h outs) turns turns now l (onward_start start turns refl kept.world) lt done (now_is ∙ ap (λ n. turns + n) (turns_at kept l lt));
          fewer = steps_fall start (pool_at h outs) l kept.world lt (sym (work_at kept l lt) ∙ works) done;
        }
    along _ _ _ (IsStepped.again mid h between outs since now before busy h_is outs_is now_is) =
        let at = along mid between since before in
        let here = sym (head_is mid) in
        let heads_are : set heads top h ≡ set (set heads top mid) top (step_head (head_at fuel (set heads top mid) top)) =
        ap (set heads top) (h_is ∙ ap step_head here) ∙ sym (set-set heads top mid (step_head (head_at fuel (set heads top mid) top))) in
        let puts_are : given puts leaders top outs ≡ given (given puts leaders top between) leaders top (step_of (head_at fuel (set heads top mid) top)).outputs =
        ap (given puts leaders top) (outs_is ∙ ap (λ x. between ++ (step_of x).outputs) here) ∙ sym (given_twice puts leaders top between (step_of (head_at fuel (set heads top mid) top)).outputs) in
        let done : pool_at h outs ≡ turned (pool_at mid between) l =
        ap (λ w. record { fuel = fuel; spent = false; world = w }) (gathered-turn at.keeps (set heads top h) (given puts leaders top outs) l lt heads_are puts_are) in
        let falls = steps_fall (pool_at mid between) (pool_at h outs) l at.keeps.world lt (sym (work_at at.keeps l lt) ∙ ap head_works (head_is mid) ∙ busy) done in
        let before_fewer = at.fewer in
        record {
          keeps = kept-turn at.keeps (set heads top h) (given puts leaders top outs) l lt heads_are puts_are;
          on = onward_turn start (pool_at mid between) (pool_at h outs) turns since now l at.on lt done (now_is ∙ ap (λ x. since + head_turns x) here ∙ ap (λ n. since + n) (turns_at at.keeps l lt));
          fewer = omega (arith, falls, before_fewer);
        }

    -- where a step found no memory
    within : (now : ℕ) → MayCount (head_at fuel heads top) [] turns now → now ≤ turns + left start
    within now (MayCount.at_once made) =
        let few = counts_within start l kept.world lt in
        let same = turns_at kept l lt in
        omega (arith, made, few, same)
    within now (MayCount.later mid between since before made) =
        let at = along mid between since before in
        let few = counts_within (pool_at mid between) l at.keeps.world lt in
        let same : head_turns mid ≡ pooled.step_turns (pool_at mid between) l = ap head_turns (sym (head_is mid)) ∙ turns_at at.keeps l lt in
        onward_within start (pool_at mid between) turns since now (head_turns mid) at.on made (omega (arith, few, same))

-- what is known where a call has opened a pool that isn't spent
module _ {fuel : ℕ} {spent : Bool} {heads : List Head} {puts : List (List Out)} {leaders : List ℕ} {p : Pooled} (invariant : spent ≡ false → IsKept fuel heads puts leaders) (unspent : spent ≡ false) (view : seen fuel spent heads puts leaders ≡ p)
    {k l : ℕ} (inside : l < size p) (work : has_work p l ≡ true) (at : k ≡ l) where
  level : l < length leaders
  level = level_in invariant unspent view l (λ again. inside)

  works : head_works (head_at fuel heads (leader leaders l)) ≡ true
  works = work_at (invariant unspent) l level ∙ ap (λ q. has_work q l) view ∙ work

  whole_view : seen fuel false heads puts leaders ≡ p
  whole_view = ap (λ b. seen fuel b heads puts leaders) (sym unspent) ∙ view

  -- where memory was refused, the turns are among those that were left
  pub visit_within : (turns now : ℕ) → ((d : Head) → MayCount (led_head heads leaders k d) [] turns now) → now ≤ turns + left p
  visit_within turns now may =
      subst (λ q. now ≤ turns + left q) whole_view
      (within (invariant unspent) l level turns works now
      (subst (λ h. MayCount h [] turns now) (read_head invariant unspent view (λ again. inside) at (λ h. h) (new_head fuel)) (may (new_head fuel))))

  module _ {heads' : List Head} {puts' : List (List Out)} {leaders' : List ℕ} (same : leaders' ≡ leaders) {turns now : ℕ} (done : IsClassStepped heads puts leaders k turns heads' puts' now) where
    stepped_on : IsClassStepped heads puts leaders l turns heads' puts' now
    stepped_on = subst (λ j. IsClassStepped heads puts leaders j turns heads' puts' now) at done

    there : IsAlong (invariant unspent) l level turns stepped_on.head stepped_on.outs now
    there = along (invariant unspent) l level turns works stepped_on.head stepped_on.outs now (stepped_on.stepped (new_head fuel))

    pool_is : seen fuel false (set heads (leader leaders l) stepped_on.head) (given puts leaders (leader leaders l) stepped_on.outs) leaders ≡ seen fuel false heads' puts' leaders'
    pool_is = ap₂ (λ hs os. seen fuel false hs os leaders) (sym stepped_on.heads_are) (sym stepped_on.puts_are) ∙ ap (seen fuel false heads' puts') (sym same)

    pub visit_kept : IsKept fuel heads' puts' leaders'
    visit_kept =
        subst (λ ls. IsKept fuel heads' puts' ls) (sym same)
        (subst (λ hs. IsKept fuel hs puts' leaders) (sym stepped_on.heads_are)
        (subst (λ os. IsKept fuel (set heads (leader leaders l) stepped_on.head) os leaders) (sym stepped_on.puts_are) there.keeps))

    pub visit_on : IsOnward p turns (seen fuel false heads' puts' leaders') now
    visit_on = subst (λ q. IsOnward p turns q now) pool_is (subst (λ q. IsOnward q turns (seen fuel false (set heads (leader leaders l) stepped_on.head) (given puts leaders (leader leaders l) stepped_on.outs) leaders) now) whole_view there.on)

    pub visit_most : now ≤ turns + left p
    visit_most = let e = visit_on.turns in omega (arith, e)

    pub visit_fewer : steps_left (seen fuel false heads' puts' leaders') < steps_left p
    visit_fewer =
        let less = there.fewer in
        let before : steps_left (seen fuel false heads puts leaders) ≡ steps_left p = ap steps_left whole_view in
        let now_is = ap steps_left pool_is in
        omega (arith, less, before, now_is)
