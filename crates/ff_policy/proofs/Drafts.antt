-- The levels that a plan names lie in the lattice, and its keys rise.
use Rattle.std.proofs.Common.{◌≡◌, ℕ, zero, suc, ◌<◌, ◌≤◌, Bool, true, false, if◌then◌else◌, List, [], ◌∷◌, ◌++◌, length, codes, Option, Some, None, Result, Ok, Err, Less, nat_cmp, refl, ap, subst, ◌∙◌, arith, bytes_eq}
use Rattle.std.specs.Cmp.Lexicographic.{slice_cmp}
use Rattle.std.specs.List.{find, list_all}
use Rattle.std.specs.Option.{ok_or}
use Rattle.ff_name.specs.declared.levels.Level.{Level}
use Rattle.ff_lattice.specs.LevelSet.{below}
use Rattle.ff_lattice.specs.Order.{Order, size, leq, pick, bottom, level_named, IsTag, IsOrder}
use Rattle.ff_policy.specs.declared.fault.PolicyFault.{PolicyFault}
use Rattle.ff_policy.specs.declared.fault.PolicyFault.TheVariants.{UnknownLevel}
use Rattle.ff_value.specs.declared.kind.Kind.{Kind}
use Rattle.ff_value.specs.declared.kind.Kind.TheVariants as kind
use Rattle.ff_policy.specs.Assignment.{KindLevels, Kinds, Key, Assignment, both, key_at, levels_of, AreKeys, IsWithin, AreWithin, IsDraft}
use Rattle.ff_policy.specs.Members.{Named, NamedKind, Plan, ◌>>=◌, in_kinds}
use Rattle.ff_policy.specs.Naming.{named_at, AreRising, numbered, level_at, keys_named, levels_or_bottom, kind_named, kinds_named, assigned}
use Rattle.ff_lattice.proofs.Named.{level_within}

value_or : {X : Type 0} → X → Result X PolicyFault → X
value_or x (Ok y) = y
value_or x (Err fault) = x

-- a step that gave something was given something
pub step_ok : {X Y : Type 0} (r : Result X PolicyFault) (step : X → Result Y PolicyFault) (y : Y) → (r >>= step) ≡ Ok y → (x : X) × (r ≡ Ok x) × (step x ≡ Ok y)
step_ok (Ok x) step y e = (x, refl, e)
step_ok {X} {Y} (Err fault) step y e = absurd (let no : ◌≡◌ {A = Result Y PolicyFault} (Err fault) (Ok y) = e in cc)

ok_same : {X : Type 0} (x y : X) → ◌≡◌ {A = Result X PolicyFault} (Ok x) (Ok y) → x ≡ y
unfolding value_or
ok_same x y e = ap (value_or x) e

at_within : (order : Order) (place text : List ℕ) (l : ℕ) → level_at order place text ≡ Ok l → l < size order
at_within order place text l is = go (level_named order text) (level_within order text) is
  where
    go : (found : Option Level) → IsTag order found → ok_or (numbered found) (UnknownLevel place) ≡ Ok l → l < size order
    go None within e = absurd (let no : ◌≡◌ {A = Result ℕ PolicyFault} (Err (UnknownLevel place)) (Ok l) = e in cc)
    go (Some level) within e = subst (λ (n : ℕ). n < size order) (ok_same level.0 l e) within

picked_within : (passes : ℕ → Bool) (n : ℕ) → pick passes (suc n) < suc n
unfolding pick
picked_within passes zero = go (passes 0)
  where
    go : (b : Bool) → (if b then 0 else 0) < 1
    go true = omega arith
    go false = omega arith
picked_within passes (suc n) = go (passes (suc n)) (picked_within passes n)
  where
    go : (b : Bool) → pick passes (suc n) < suc n → (if b then suc n else pick passes (suc n)) < suc (suc n)
    go true less = omega arith
    go false less = omega arith

bottom_within : (order : Order) → IsOrder order → bottom order < size order
unfolding bottom
bottom_within order valid = go (size order) valid.some
  where
    go : (n : ℕ) → 1 ≤ n → pick (λ l. list_all (leq order l) (below (size order))) n < n
    go zero some = absurd (omega arith)
    go (suc n) some = picked_within (λ l. list_all (leq order l) (below (size order))) n

all_within : (n : ℕ) (kinds : Kinds) → IsWithin n kinds.opens → IsWithin n kinds.goes → IsWithin n kinds.links → IsWithin n kinds.closes → IsWithin n kinds.types → IsWithin n kinds.clicks → IsWithin n kinds.replies
    → (k : Kind) → IsWithin n (levels_of kinds k)
all_within n kinds opens goes links closes types clicks replies kind.Open = opens
all_within n kinds opens goes links closes types clicks replies kind.Go = goes
all_within n kinds opens goes links closes types clicks replies kind.Link = links
all_within n kinds opens goes links closes types clicks replies kind.Close = closes
all_within n kinds opens goes links closes types clicks replies kind.Type = types
all_within n kinds opens goes links closes types clicks replies kind.Click = clicks
all_within n kinds opens goes links closes types clicks replies kind.Reply = replies

module _ (order : Order) (within : bottom order < size order) where
  or_bottom_within : (word : List ℕ) (one : Option NamedKind) (levels : KindLevels) → levels_or_bottom order word one ≡ Ok levels → IsWithin (size order) levels
  or_bottom_within word None levels is = subst (IsWithin (size order)) (ok_same (both (bottom order)) levels is) (record { presence = within; content = within })
  or_bottom_within word (Some one) levels is =
      let presence = step_ok (level_at order (in_kinds word) one.presence) _ levels is in
      let content = step_ok (level_at order (in_kinds word) one.content) _ levels presence.2 in
      subst (IsWithin (size order)) (ok_same _ levels content.2)
      (record { presence = at_within order (in_kinds word) one.presence presence.0 presence.1; content = at_within order (in_kinds word) one.content content.0 content.1 })

  kind_within : (named : List NamedKind) (word : List ℕ) (levels : KindLevels) → kind_named order named word ≡ Ok levels → IsWithin (size order) levels
  kind_within named word levels is = or_bottom_within word (find (λ one. bytes_eq one.key word) named) levels is

  kinds_within : (named : List NamedKind) (kinds : Kinds) → kinds_named order named ≡ Ok kinds → AreWithin (size order) kinds
  unfolding kinds_named
  kinds_within named kinds is =
      let opens = step_ok (kind_named order named (codes "open")) _ kinds is in
      let goes = step_ok (kind_named order named (codes "go")) _ kinds opens.2 in
      let links = step_ok (kind_named order named (codes "link")) _ kinds goes.2 in
      let closes = step_ok (kind_named order named (codes "close")) _ kinds links.2 in
      let types = step_ok (kind_named order named (codes "type")) _ kinds closes.2 in
      let clicks = step_ok (kind_named order named (codes "click")) _ kinds types.2 in
      let replies = step_ok (kind_named order named (codes "reply")) _ kinds clicks.2 in
      subst (AreWithin (size order)) (ok_same _ kinds replies.2)
      (all_within (size order) _
      (kind_within named (codes "open") opens.0 opens.1)
      (kind_within named (codes "go") goes.0 goes.1)
      (kind_within named (codes "link") links.0 links.1)
      (kind_within named (codes "close") closes.0 closes.1)
      (kind_within named (codes "type") types.0 types.1)
      (kind_within named (codes "click") clicks.0 clicks.1)
      (kind_within named (codes "reply") replies.0 replies.1))

-- the keys as they were named, with levels of the lattice
record AreNamed (order : Order) (named : List Named) (keys : List Key) : Type 0 where
  long : length keys ≡ length named
  same : (k : ℕ) → k < length keys → (key_at keys k).key ≡ (named_at named k).key
  levels : (k : ℕ) → k < length keys → (key_at keys k).level < size order

same_more : (one : Named) (named : List Named) (level : ℕ) (keys : List Key) → ((k : ℕ) → k < length keys → (key_at keys k).key ≡ (named_at named k).key)
    → (k : ℕ) → k < length (record { key = one.key; level = level } ∷ keys) → (key_at (record { key = one.key; level = level } ∷ keys) k).key ≡ (named_at (one ∷ named) k).key
same_more one named level keys same zero less = refl
same_more one named level keys same (suc k) less = same k (omega arith)

levels_more : (n : ℕ) (key : Key) (keys : List Key) → key.level < n → ((k : ℕ) → k < length keys → (key_at keys k).level < n) → (k : ℕ) → k < length (key ∷ keys) → (key_at (key ∷ keys) k).level < n
levels_more n key keys within rest zero less = within
levels_more n key keys within rest (suc k) less = rest k (omega arith)

one_more : (order : Order) (one : Named) (named : List Named) (level : ℕ) (keys : List Key) → level < size order → AreNamed order named keys
    → AreNamed order (one ∷ named) (record { key = one.key; level = level } ∷ keys)
one_more order one named level keys within are = record {
  long = ap suc are.long;
  same = same_more one named level keys are.same;
  levels = levels_more (size order) (record { key = one.key; level = level }) keys within are.levels;
}

keys_are : (order : Order) (named : List Named) (keys : List Key) → keys_named order named ≡ Ok keys → AreNamed order named keys
keys_are order [] keys is =
    subst (AreNamed order []) (ok_same [] keys is) (record { long = refl; same = λ k less. absurd (omega arith); levels = λ k less. absurd (omega arith) })
keys_are order (one ∷ more) keys is =
    let level = step_ok (level_at order (codes "domains." ++ one.key) one.level) _ keys is in
    let rest = step_ok (keys_named order more) _ keys level.2 in
    subst (AreNamed order (one ∷ more)) (ok_same _ keys rest.2)
    (one_more order one more level.0 rest.0 (at_within order (codes "domains." ++ one.key) one.level level.0 level.1) (keys_are order more rest.0 rest.1))

less_along : (a b c d : List ℕ) → a ≡ b → c ≡ d → slice_cmp nat_cmp b d ≡ Less → slice_cmp nat_cmp a c ≡ Less
less_along a b c d one other less = ap (λ (x : List ℕ). slice_cmp nat_cmp x c) one ∙ ap (slice_cmp nat_cmp b) other ∙ less

keys_rising : (order : Order) (named : List Named) (keys : List Key) → AreRising named → AreNamed order named keys → AreKeys (size order) keys
keys_rising order named keys rising are = record {
  rising = λ j k less within.
      let far : k < length named = subst (λ (n : ℕ). k < n) are.long within in
      less_along (key_at keys j).key (named_at named j).key (key_at keys k).key (named_at named k).key (are.same j (omega arith)) (are.same k within) (rising j k less far);
  levels = are.levels;
}

-- what a plan names in a lattice is a draft of a policy
pub assigned-is_draft : (order : Order) (plan : Plan) (policy : Assignment) → IsOrder order → AreRising plan.domains → assigned order plan ≡ Ok policy → IsDraft policy
unfolding assigned
assigned-is_draft order plan policy valid rising is =
    let ui = step_ok (level_at order (codes "ui") plan.ui) _ policy is in
    let other = step_ok (level_at order (codes "domain") plan.other) _ policy ui.2 in
    let domains = step_ok (keys_named order plan.domains) _ policy other.2 in
    let kinds = step_ok (kinds_named order plan.kinds) _ policy domains.2 in
    subst IsDraft (ok_same _ policy kinds.2) (record {
      order_is = valid;
      ui_within = at_within order (codes "ui") plan.ui ui.0 ui.1;
      other_within = at_within order (codes "domain") plan.other other.0 other.1;
      keys = keys_rising order plan.domains domains.0 rising (keys_are order plan.domains domains.0 domains.1);
      kinds_within = kinds_within order (bottom_within order valid) plan.kinds kinds.0 kinds.1;
    })
