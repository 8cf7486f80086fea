-- What is said of a run, by the log of a port and the fetches of a shelf to which nothing came
-- before.
use Rattle.std.proofs.Common.{◌≡◌, ◌≢◌, ℕ, Option, Some, List, [], ◌++◌, refl, sym, ap, subst, ◌∙◌, append-nil}
use Rattle.std.specs.Option.{option_map}
use Rattle.ff_io.specs.Fetched.{all_came}
use Rattle.ff_io.specs.Port.{Told}
use Rattle.ff_io.specs.Shelf.{Fetch, ShelfTold}
use Rattle.ff_pool.specs.Pooled.{Pooled}
use Rattle.ff_policy.specs.Assignment.{Assignment, IsAssignment}
use Rattle.ff_route.specs.declared.rule.Rule.{Rule}
use Rattle.ff_status.specs.declared.status.Status.{Status}
use Rattle.ff_run.specs.Names.{GivenFor, IsByGiven, Kind}
use Rattle.ff_run.specs.Policies.{policies}
use Rattle.ff_run.specs.Rules.{rules_for}
use Rattle.ff_run.specs.States.{states_under}
use Rattle.ff_run.specs.System.{ByFetches, IsByFetches, IsConfinedRun, TellsByFetches}
use Rattle.ff_run.specs.Telling.{Tells, TellsAsGiven}
use Rattle.ff_run.specs.Words.{Command, IsByNoFile, policy_of}

-- what was added to a list is behind it
all_added : {X : Type 0} (before now : Option (List X)) (first added : List X) → before ≡ Some first → now ≡ option_map (λ log. log ++ added) before → now ≡ Some (first ++ added)
all_added before now first added is more = more ∙ ap (option_map (λ log. log ++ added)) is

-- what a shelf gave for a name, by the fetches that were made for it
record AreMade {X : Type 0} (kind : Kind X) (before now : ShelfTold) (name : List ℕ) (first : List Fetch) (x : X) : Type 0 where
  pub made : List Fetch
  pub added : now.fetches ≡ Some (first ++ made)
  pub given : IsByFetches kind made name x

made_for : {X : Type 0} (kind : Kind X) (before now : ShelfTold) (name : List ℕ) (first : List Fetch) (x : X) → before.fetches ≡ Some first → IsByGiven kind before now name x → AreMade kind before now name first x
made_for kind before now name first _ is (IsByGiven.at_dash other is_dash same) =
    record { made = []; added = ap (λ s. s.fetches) same ∙ is ∙ ap (λ l. Some l) (sym (append-nil first)); given = IsByFetches.at_dash name is_dash }
made_for kind before now name first x is (IsByGiven.in_bytes other bytes found no_dash given gives) =
    record { made = given.fetches; added = all_added before.fetches now.fetches first given.fetches is given.added; given = IsByFetches.in_bytes name x no_dash (subst (λ bs. kind.gives bs x) given.came gives) }

-- what holds of what the shelf gave holds by its fetches
record HoldMade {X : Type 0} (kind : Kind X) (now : ShelfTold) (name : List ℕ) (first : List Fetch) (holds : X → Type 0) : Type 0 where
  pub made : List Fetch
  pub added : now.fetches ≡ Some (first ++ made)
  pub by : ByFetches kind made name holds

hold_made : {X : Type 0} (kind : Kind X) (before now : ShelfTold) (name : List ℕ) (first : List Fetch) (holds : X → Type 0) → before.fetches ≡ Some first → GivenFor kind before now name holds → HoldMade kind now name first holds
hold_made kind before now name first holds is given =
    let m = made_for kind before now name first given.found is given.given in
    record { made = m.made; added = m.added; by = record { found = given.found; given = m.given; held = given.held } }

-- where nothing was fetched since
none_added : (mid shelf_now : ShelfTold) (first : List Fetch) → mid.fetches ≡ Some first → shelf_now ≡ mid → shelf_now.fetches ≡ Some (first ++ [])
none_added mid shelf_now first is same = ap (λ s. s.fetches) same ∙ is ∙ ap (λ l. Some l) (sym (append-nil first))

-- so of what a command tells
record TellMade (command : Command) (p : Assignment) (mid shelf_now : ShelfTold) (first : List Fetch) (before now : Told) (s : Status) : Type 0 where
  pub more : List Fetch
  pub added : shelf_now.fetches ≡ Some (first ++ more)
  pub tells : Tells (λ X kind. ByFetches kind more) command p before now s

tell_made : (c : Command) (p : Assignment) (mid shelf_now : ShelfTold) (first : List Fetch) (before now : Told) (s : Status) → mid.fetches ≡ Some first → (IsByNoFile c → shelf_now ≡ mid) → Tells (λ X kind. GivenFor kind mid shelf_now) c p before now s → TellMade c p mid shelf_now first before now s
tell_made (Command.resume policy from) p mid shelf_now first before now s is no_more tells =
    let m = hold_made (states_under p) mid shelf_now from first _ is tells in
    record { more = m.made; added = m.added; tells = m.by }
tell_made (Command.release policy rules) p mid shelf_now first before now s is no_more tells =
    let m = hold_made (rules_for p.order) mid shelf_now rules first _ is tells in
    record { more = m.made; added = m.added; tells = m.by }
tell_made (Command.check policy) p mid shelf_now first before now s is no_more tells = record { more = []; added = none_added mid shelf_now first is (no_more (λ name none. absurd none)); tells = tells }
tell_made (Command.upgrade policy) p mid shelf_now first before now s is no_more tells = record { more = []; added = none_added mid shelf_now first is (no_more (λ name none. absurd none)); tells = tells }
tell_made (Command.generate start inputs) p mid shelf_now first before now s is no_more tells = record { more = []; added = none_added mid shelf_now first is (no_more (λ name none. absurd none)); tells = tells }
tell_made (Command.multi policy slice) p mid shelf_now first before now s is no_more tells = record { more = []; added = none_added mid shelf_now first is (no_more (λ name none. absurd none)); tells = tells }
tell_made (Command.plain policy) p mid shelf_now first before now s is no_more tells = record { more = []; added = none_added mid shelf_now first is (no_more (λ name none. absurd none)); tells = tells }
tell_made (Command.format policy) p mid shelf_now first before now s is no_more tells = record { more = []; added = none_added mid shelf_now first is (no_more (λ name none. absurd none)); tells = tells }
tell_made (Command.audit policy) p mid shelf_now first before now s is no_more tells = record { more = []; added = none_added mid shelf_now first is (no_more (λ name none. absurd none)); tells = tells }
tell_made (Command.travel policy) p mid shelf_now first before now s is no_more tells = record { more = []; added = none_added mid shelf_now first is (no_more (λ name none. absurd none)); tells = tells }

pub tells_by_fetches : (c : Command) (shelf shelf_now : ShelfTold) (before now : Told) (s : Status) → shelf.fetches ≡ Some [] → TellsAsGiven c shelf shelf_now before now s → TellsByFetches c shelf_now.fetches before now s
tells_by_fetches c shelf shelf_now before now s none tells =
    let p = tells.under.found in
    let m = made_for policies shelf tells.between (policy_of c) [] p none tells.under.given in
    let t = tell_made c p tells.between shelf_now m.made before now s m.added tells.no_more tells.under.held.1 in
    record { first = m.made; more = t.more; all = t.added; under = record { found = p; given = m.given; held = (tells.under.held.0, t.tells) } }

-- the headline, over a port from which no piece passed before
pub confined_run : (name : List ℕ) (slice : ℕ) (shelf shelf_now : ShelfTold) (before now : Told) (s : Status) → shelf.fetches ≡ Some [] → before.log ≡ Some [] → TellsAsGiven (Command.multi name slice) shelf shelf_now before now s
    → IsConfinedRun name shelf_now.fetches now.log
confined_run name slice shelf shelf_now before now s no_fetch no_piece tells =
    let p = tells.under.found in
    let m = made_for policies shelf tells.between name [] p no_fetch tells.under.given in
    let claims = tells.under.held.1 in
    record {
      made = m.made;
      all_made = ap (λ there. there.fetches) (tells.no_more (λ other none. absurd none)) ∙ m.added;
      policy = p;
      given = m.given;
      valid = tells.under.held.0;
      pieces = claims.pieces;
      all = all_added before.log now.log [] claims.pieces no_piece claims.passed.added;
      confined = claims.held;
    }
