-- What each command makes of a pool, of what lies beside it, and of the steps that are kept.
use Rattle.std.proofs.Common.{◌≡◌, ℕ, ◌+◌, ◌<◌, Some, List, [], ◌∷◌, ◌++◌, length, map, All, refl, sym, ap, ap₂, subst, ◌∙◌, arith}
use Rattle.std.proofs.lemmas.List.Elements.{All-nil, All-push, All-pop}
use Rattle.std.proofs.lemmas.List.{length-map}
use Rattle.ff_confinement.specs.Worlds as worlds
use Rattle.ff_confinement.specs.Worlds.{AreOffers, copy_at, levels, world_arrive, world_turn, world_drain, world_left}
use Rattle.ff_confinement.proofs.Below.{length-each}
use Rattle.ff_confinement.proofs.Worlds.{copy-new, levels-new, leaders-turn, leaders-drain}
use Rattle.ff_lattice.specs.Order.{size}
use Rattle.ff_name.specs.declared.levels.Level.{Level}
use Rattle.ff_value.specs.Spelled.{IsWellSpelledInput}
use Rattle.ff_value.specs.declared.input.Input.{Input}
use Rattle.ff_value.specs.declared.output.Out.{Out}
use Rattle.ff_machine.specs.Machine.{reactor}
use Rattle.ff_value.specs.Same.{same_input}
use Rattle.ff_pool.specs.Pooled as pooled
use Rattle.ff_pool.specs.Pooled.{Pooled, turned, drained, arrived, new_pool}
use Rattle.ff_policy.specs.Assignment.{Assignment}
use Rattle.ff_route.specs.Route.{offers}
use Rattle.ff_trace.specs.Lines.{IsInputOf}
use Rattle.ff_session.proofs.Feeding.{seen_fit}
use Rattle.ff_travel.specs.Beside.{Kept, HasGathered, ArePartsFor, IsKeptFor, IsPoolFor, behind, cut, history_of, kept_now, kept_worlds, none_put, under}
use Rattle.ff_travel.specs.Force.{first_world, stepped, step_turns, without_last, last_or}
use Rattle.ff_travel.specs.Travelled.{moved, taken_back}
use Rattle.ff_travel.specs.declared.command.Command.{Command}
use Rattle.ff_travel.specs.declared.command.Command.TheVariants.{Arrive, Turn, Drain}
use Rattle.ff_travel.proofs.Beside.{behind-arrive, behind-turn, behind-drain, behind-new, copy-behind, left-behind, cut_again, kept_push}
use Rattle.ff_travel.proofs.Force.{without_last_push, last_or_push}

-- ---- offers

pub offers_fit : (p : Assignment) (i : Input) (n : ℕ) → IsInputOf p.order i → n ≡ size p.order → AreOffers IsWellSpelledInput n (offers p i)
offers_fit p i n input count = subst (λ k. AreOffers IsWellSpelledInput k (offers p i)) (sym count) (seen_fit p i (offers p i) input refl)

-- ---- steps of a pool

-- A pool after a step, before its outputs are gathered.
pub record HasStepped (p : Assignment) (pool mid : Pooled) (command : Command) : Type 0 where
  pub fuel : mid.fuel ≡ pool.fuel
  pub unspent : mid.spent ≡ pool.spent
  pub levels : pooled.size mid ≡ pooled.size pool
  pub world : (puts : List (List Out)) → behind p.fuel puts mid.world ≡ stepped p (behind p.fuel puts pool.world) command

module _ (p : Assignment) (pool mid : Pooled) (is : IsPoolFor p pool) where
  pub arrived_is : (i : Input) → mid ≡ arrived pool (offers p i) → pooled.size mid ≡ pooled.size pool → HasStepped p pool mid (Arrive i)
  arrived_is i made levels = record {
    fuel = ap (λ q. q.fuel) made;
    unspent = ap (λ q. q.spent) made;
    levels = levels;
    world = λ puts.
        ap (λ q. behind p.fuel puts q.world) made ∙ ap (λ f. behind p.fuel puts (world_arrive (reactor f) same_input pool.world (offers p i))) is.fuel
        ∙ behind-arrive p.fuel puts pool.world (offers p i);
  }

  pub turned_is : (l : Level) → mid ≡ turned pool l.0 → HasStepped p pool mid (Turn l)
  turned_is l made = record {
    fuel = ap (λ q. q.fuel) made;
    unspent = ap (λ q. q.spent) made;
    levels = ap pooled.size made ∙ ap length (leaders-turn (reactor pool.fuel) pool.world l.0);
    world = λ puts.
        ap (λ q. behind p.fuel puts q.world) made ∙ ap (λ f. behind p.fuel puts (world_turn (reactor f) pool.world l.0)) is.fuel
        ∙ behind-turn p.fuel puts pool.world l.0;
  }

  pub drained_is : mid ≡ drained pool → HasStepped p pool mid Drain
  drained_is made = record {
    fuel = ap (λ q. q.fuel) made;
    unspent = ap (λ q. q.spent) made;
    levels = ap pooled.size made ∙ ap length (leaders-drain (reactor pool.fuel) (pool.fuel + 1) pool.world);
    world = λ puts.
        ap (λ q. behind p.fuel puts q.world) made ∙ ap (λ f. behind p.fuel puts (world_drain (reactor f) (f + 1) pool.world)) is.fuel
        ∙ behind-drain p.fuel puts (p.fuel + 1) pool.world;
  }

-- its turns
pub turn_counts : (p : Assignment) (puts : List (List Out)) (pool : Pooled) (l : Level) → IsPoolFor p pool → l.0 < size p.order → pooled.step_turns pool l.0 ≡ step_turns p (under puts pool) (Turn l)
turn_counts p puts pool l is lt =
    let within : l.0 < pooled.size pool = let e = is.levels in omega (arith, e, lt) in
    ap (λ c. worlds.step_turns (reactor pool.fuel) c.state) (sym (copy-behind pool.fuel puts pool.world l.0 within))
    ∙ ap (λ f. worlds.step_turns (reactor f) (copy_at (reactor f) (under puts pool) l.0).state) is.fuel

pub drain_counts : (p : Assignment) (puts : List (List Out)) (pool : Pooled) → IsPoolFor p pool → pooled.left pool ≡ step_turns p (under puts pool) Drain
drain_counts p puts pool is =
    sym (left-behind pool.fuel puts (pool.fuel + 1) pool.world) ∙ ap (λ f. world_left (reactor f) (f + 1) (under puts pool)) is.fuel

-- ---- the history

module _ (p : Assignment) (kept longer : List Kept) (puts later : List (List Out)) (pool mid now : Pooled) (command : Command)
    (are : ArePartsFor p kept puts pool) (more : longer ≡ kept ++ kept_now puts pool ∷ []) (step : HasStepped p pool mid command) (gathered : HasGathered mid puts now later) where
  -- what lay beside is known again
  again : cut (map length puts) later ≡ puts
  again = cut_again puts later gathered.count gathered.more

  worlds_are : kept_worlds longer later ≡ kept_worlds kept puts ++ under puts pool ∷ []
  worlds_are = ap (λ ks. kept_worlds ks later) more ∙ kept_push kept (kept_now puts pool) later ∙ ap (λ ps. kept_worlds kept ps ++ under ps pool ∷ []) again

  world_is : under later now ≡ stepped p (under puts pool) command
  world_is =
      gathered.same ∙ ap (λ f. behind f puts mid.world) (step.fuel ∙ are.last.fuel) ∙ step.world puts
      ∙ ap (λ f. stepped p (behind f puts pool.world) command) (sym are.last.fuel)

  -- the copies moved, and those before are kept
  pub step_kept : history_of longer later now ≡ moved (history_of kept puts pool) (stepped p (under puts pool) command)
  step_kept = ap₂ (λ b w. record { before = b; world = w }) worlds_are world_is

  pub parts_kept : ArePartsFor p longer later now
  parts_kept = record {
    each = subst (All (IsKeptFor p)) (sym more) (All-push (IsKeptFor p) kept (kept_now puts pool) are.each (record { pool = are.last; counts = length-map puts length ∙ are.count }));
    count = gathered.count ∙ are.count;
    last = record {
      fuel = gathered.fuel ∙ step.fuel ∙ are.last.fuel;
      unspent = gathered.unspent ∙ step.unspent ∙ are.last.unspent;
      levels = gathered.levels ∙ step.levels ∙ are.last.levels;
      taken = gathered.taken;
    };
  }

-- the last step is taken back
module _ (kept shorter : List Kept) (last : Kept) (puts : List (List Out)) (pool : Pooled) (split : kept ≡ shorter ++ last ∷ []) where
  before_are : kept_worlds kept puts ≡ kept_worlds shorter (cut last.counts puts) ++ under (cut last.counts puts) last.pool ∷ []
  before_are = ap (λ ks. kept_worlds ks puts) split ∙ kept_push shorter last puts

  pub back_some : history_of shorter (cut last.counts puts) last.pool ≡ taken_back (history_of kept puts pool)
  back_some =
      let less = cut last.counts puts in
      ap₂ (λ b w. record { before = b; world = w })
      (sym (ap without_last before_are ∙ without_last_push (kept_worlds shorter less) (under less last.pool)))
      (sym (ap (last_or (under puts pool)) before_are ∙ last_or_push (under puts pool) (kept_worlds shorter less) (under less last.pool)))

  -- its counts are one for each level
  pub counts_fit : (p : Assignment) → ArePartsFor p kept puts pool → length last.counts ≡ length puts
  counts_fit p are =
      let parts = All-pop (IsKeptFor p) kept shorter (Some last) split are.each in
      parts.1.counts ∙ sym are.count

  pub parts_back : (p : Assignment) → ArePartsFor p kept puts pool → ArePartsFor p shorter (cut last.counts puts) last.pool
  unfolding cut
  parts_back p are =
      let parts = All-pop (IsKeptFor p) kept shorter (Some last) split are.each in
      record { each = parts.0; count = length-each _ (length puts) ∙ are.count; last = parts.1.pool }

-- ---- a new travel

pub new_is : (p : Assignment) (pool : Pooled) (n fuel : ℕ) → n ≡ size p.order → fuel ≡ p.fuel → pool ≡ new_pool n fuel → (pool.world ≡ first_world p) × IsPoolFor p pool
new_is p pool n fuel n_is fuel_is fresh =
    let made : pool ≡ new_pool (size p.order) p.fuel = fresh ∙ ap (λ k. new_pool k fuel) n_is ∙ ap (new_pool (size p.order)) fuel_is in (
      ap (λ q. q.world) made,
      subst (IsPoolFor p) (sym made) (record {
        fuel = refl;
        unspent = refl;
        levels = levels-new (reactor p.fuel) (size p.order);
        taken = λ l lt. ap (λ c. c.outputs) (copy-new (reactor p.fuel) (size p.order) l (let e = levels-new (reactor p.fuel) (size p.order) in omega (arith, e, lt)));
      }),
    )

pub new_history : (p : Assignment) (pool : Pooled) (puts : List (List Out)) (n : ℕ) → (pool.world ≡ first_world p) × IsPoolFor p pool → puts ≡ none_put n → n ≡ size p.order
    → (history_of [] puts pool ≡ record { before = []; world = first_world p }) × ArePartsFor p [] puts pool
new_history p pool puts n fresh none count =
    let none_is : puts ≡ none_put (size p.order) = none ∙ ap none_put count in (
      ap (λ w. record { before = []; world = w })
          (ap₂ (λ f ps. behind f ps pool.world) fresh.1.fuel none_is ∙ ap (behind p.fuel (none_put (size p.order))) fresh.0 ∙ behind-new p.fuel (size p.order)),
      record { each = All-nil (IsKeptFor p); count = ap length none_is ∙ length-each (λ l. []) (size p.order); last = fresh.1 },
    )
