-- The levels of domains, kinds and outputs are levels of the lattice.
use Rattle.std.proofs.Common.{◌≡◌, ℕ, suc, ◌<◌, List, [], ◌∷◌, length, Option, Some, None, Bool, true, false, cond, refl, sym, subst, arith, bytes_eq}
use Rattle.std.specs.List.{find}
use Rattle.ff_value.specs.declared.output.Out.{Out}
use Rattle.ff_value.specs.declared.output.Out.TheVariants as out
use Rattle.ff_lattice.specs.Order.{size}
use Rattle.ff_policy.specs.Assignment.{Key, Assignment, key_at, longest, level_or, domain_level, level_out, IsAssignment}
use Rattle.ff_policy.proofs.Longest.{longest_is}

AreBelow : ℕ → List Key → Type 0
AreBelow n keys = (k : ℕ) → k < length keys → (key_at keys k).level < n

rest_below : (n : ℕ) (key : Key) (keys : List Key) → AreBelow n (key ∷ keys) → AreBelow n keys
unfolding AreBelow
rest_below n key keys all k within = all (suc k) (omega arith)

found_below : (n : ℕ) (test : Key → Bool) (keys : List Key) (other : ℕ) → AreBelow n keys → other < n → level_or (find test keys) other < n
unfolding AreBelow
found_below n test [] other all less = less
found_below n test (key ∷ keys) other all less = go (test key) (found_below n test keys other (rest_below n key keys all) less)
  where
    go : (b : Bool) → level_or (find test keys) other < n → level_or (cond b (Some key) (find test keys)) other < n
    go true rest = all 0 (omega arith)
    go false rest = rest

longest_below : (n : ℕ) (domain : List ℕ) (keys : List Key) (other : ℕ) → AreBelow n keys → other < n → level_or (longest domain keys) other < n
unfolding AreBelow
longest_below n domain keys other all less = go (longest domain keys) refl
  where
    go : (found : Option Key) → longest domain keys ≡ found → level_or found other < n
    go None is = less
    go (Some key) is =
        let long = longest_is domain keys key is in
        subst (λ (k : Key). k.level < n) (sym long.is) (all long.place long.within)

pub domain_level_within : (policy : Assignment) (domain : List ℕ) → IsAssignment policy → domain_level policy domain < size policy.order
unfolding domain_level AreBelow
domain_level_within policy domain valid =
    let n = size policy.order in
    found_below n (λ k. bytes_eq k.key domain) policy.domains (level_or (longest domain policy.domains) policy.other) valid.draft.keys.levels
    (longest_below n domain policy.domains policy.other valid.draft.keys.levels valid.draft.other_within)

pub level_out_within : (policy : Assignment) (o : Out) → IsAssignment policy → level_out policy o < size policy.order
unfolding level_out
level_out_within policy (out.Send domain request cookies body) valid = domain_level_within policy domain valid
level_out_within policy out.Opened valid = valid.draft.ui_within
level_out_within policy (out.Closed win) valid = valid.draft.ui_within
level_out_within policy (out.Loaded win url shown) valid = valid.draft.ui_within
level_out_within policy (out.Updated win shown) valid = valid.draft.ui_within
level_out_within policy (out.Error win fault) valid = valid.draft.ui_within
level_out_within policy out.Stopped valid = valid.draft.ui_within
