-- Bytes are a policy or have a fault: each test that tells can be made.
use Rattle.std.proofs.Common.{◌≡◌, ℕ, ◌<◌, ◌≤◌, ◌⊎◌, inl, inr, Bool, true, false, Option, Some, None, Result, Ok, Err, List, [], ◌∷◌, length, refl, sym, ◌∙◌, ap, subst, arith}
use Rattle.std.specs.Str.{IsUtf8, is_utf8}
use Rattle.std.proofs.lemmas.Bool.{cases_Bool, cases_eq, cases_lt, true≢false}
use Rattle.std.proofs.lemmas.Option.{none-some}
use Rattle.std.proofs.lemmas.Str.{IsUtf8-from_is_utf8, is_utf8-from_IsUtf8}
use Rattle.serde_json.specs.Data.{Data}
use Rattle.serde_json.specs.Read.{read}
use Rattle.ff_name.specs.Spelling.{IsDomain}
use Rattle.ff_name.specs.Reading.{is_domain}
use Rattle.ff_name.proofs.Reading.{is_domain-from, IsDomain-from}
use Rattle.ff_lattice.specs.Order.{Order}
use Rattle.ff_lattice.proofs.Total.{opposite, settled, Search, first_at, nowhere, first_below, Judged, a_lattice, a_fault, judged}
use Rattle.ff_value.specs.declared.kind.Kind.{Kind}
use Rattle.ff_value.specs.Kinds.{word_of}
use Rattle.ff_policy.specs.declared.fault.PolicyFault.{PolicyFault}
use Rattle.ff_policy.specs.declared.fault.PolicyFault.TheVariants.{TooLarge, NotJson, Levels, BadDomain, BadFuel, ContentBelowPresence}
use Rattle.ff_policy.specs.declared.limits.TheConstants.{MOST_FUEL, MOST_POLICY_BYTES}
use Rattle.ff_policy.specs.Assignment.{Assignment, key_at, IsKey, AreSpelled, first_unordered}
use Rattle.ff_policy.specs.Members.{Plan, plan_in}
use Rattle.ff_policy.specs.Naming.{assigned}
use Rattle.ff_policy.specs.Reading.{no_key, no_levels, IsFueled, Checks, bad_domain, bad_fuel, unordered, whole, Names, unknown, named, Orders, no_lattice, lattice, Says, bad_member, planned, Reads, too_large, not_json, valued}

abbrev Answer : Type 0
Answer = Result Assignment PolicyFault

-- an answer that is the right one
abbrev Answered : (Answer → Type 0) → Type 0
Answered Is = (answer : Answer) × Is answer

-- ---- keys, fuel and kinds

dotted_or : (key : List ℕ) → ¬ (is_domain key ≡ true) → IsKey key ⊎ (¬ IsKey key)
dotted_or [] none = inr isnt
  where
    isnt : ¬ IsKey []
    isnt (inl domain) = none (is_domain-from [] domain)
    isnt (inr dotted) = let never = dotted.1 in cc
dotted_or (b ∷ rest) none = from (cases_eq b 46) (cases_Bool (is_domain rest))
  where
    from : (b ≡ 46) ⊎ (¬ (b ≡ 46)) → (is_domain rest ≡ true) ⊎ (is_domain rest ≡ false) → IsKey (b ∷ rest) ⊎ (¬ IsKey (b ∷ rest))
    from (inl dot) (inl is) = inl (inr (rest, ap (λ c. c ∷ rest) dot, IsDomain-from rest is))
    from (inl dot) (inr wrong) = inr isnt
      where
        isnt : ¬ IsKey (b ∷ rest)
        isnt (inl domain) = none (is_domain-from (b ∷ rest) domain)
        isnt (inr dotted) = let same : rest ≡ dotted.0 = (let e = dotted.1 in cc) in true≢false (sym (is_domain-from rest (subst IsDomain (sym same) dotted.2)) ∙ wrong)
    from (inr other) is = inr isnt
      where
        isnt : ¬ IsKey (b ∷ rest)
        isnt (inl domain) = none (is_domain-from (b ∷ rest) domain)
        isnt (inr dotted) = let e = dotted.1 in other (let same : b ≡ 46 = cc in same)

key_or : (key : List ℕ) → IsKey key ⊎ (¬ IsKey key)
key_or key = from (cases_Bool (is_domain key))
  where
    from : (is_domain key ≡ true) ⊎ (is_domain key ≡ false) → IsKey key ⊎ (¬ IsKey key)
    from (inl is) = inl (inl (IsDomain-from key is))
    from (inr isnt) = dotted_or key (λ is. true≢false (sym is ∙ isnt))

module _ (policy : Assignment) where
  by_kinds : IsFueled policy → (first : Option Kind) → first_unordered policy ≡ first → Answered (Checks policy)
  by_kinds fueled None is = (Ok policy, whole fueled is)
  by_kinds fueled (Some kind) is = (Err (ContentBelowPresence (word_of kind)), unordered kind fueled is)

  by_fuel : AreSpelled policy.domains → (policy.fuel < 1) ⊎ (1 ≤ policy.fuel) → (MOST_FUEL < policy.fuel) ⊎ (policy.fuel ≤ MOST_FUEL) → Answered (Checks policy)
  by_fuel spelled (inl none) most = (Err BadFuel, bad_fuel spelled (inl (omega arith)))
  by_fuel spelled (inr some) (inl much) = (Err BadFuel, bad_fuel spelled (inr much))
  by_fuel spelled (inr some) (inr little) = by_kinds (record { spelled = spelled; some_fuel = some; little_fuel = little }) (first_unordered policy) refl

  by_keys : Search (length policy.domains) (λ k. ¬ IsKey (key_at policy.domains k).key) → Answered (Checks policy)
  by_keys (first_at place found) =
      let key = (key_at policy.domains place).key in
      (Err (BadDomain key), bad_domain (BadDomain key) (no_key key (record { place = place; within = found.within; before = λ k less. settled (key_or (key_at policy.domains k).key) (found.first k less); is = refl; wrong = found.shows })))
  by_keys (nowhere isnt) = by_fuel (λ k less. settled (key_or (key_at policy.domains k).key) (isnt k less)) (cases_lt policy.fuel 1) (cases_lt MOST_FUEL policy.fuel)

  checked : Answered (Checks policy)
  checked = by_keys (first_below (length policy.domains) (λ k. ¬ IsKey (key_at policy.domains k).key) (λ k less. opposite (key_or (key_at policy.domains k).key)))

-- ---- names, levels, members and bytes

names_read : (order : Order) (plan : Plan) (r : Answer) → assigned order plan ≡ r → Answered (Names order plan)
names_read order plan (Ok policy) is = let then = checked policy in (then.0, named policy then.0 is then.1)
names_read order plan (Err fault) is = (Err fault, unknown fault is)

orders_read : (plan : Plan) → Judged plan.levels plan.below → Answered (Orders plan)
orders_read plan (a_lattice order is) = let then = names_read order plan (assigned order plan) refl in (then.0, lattice order then.0 is then.1)
orders_read plan (a_fault fault is) = (Err (Levels fault), no_lattice (Levels fault) (no_levels fault is))

members_read : (value : Data) (r : Result Plan PolicyFault) → plan_in value ≡ r → Answered (Says value)
members_read value (Ok plan) is = let then = orders_read plan (judged plan.levels plan.below) in (then.0, planned plan then.0 is then.1)
members_read value (Err fault) is = (Err fault, bad_member fault is)

module _ (bytes : List ℕ) (small : length bytes ≤ MOST_POLICY_BYTES) where
  value_read : IsUtf8 bytes → (value : Option Data) → read bytes ≡ value → Answered (Reads bytes)
  value_read utf8 None none = (Err NotJson, not_json small (λ value is. none-some value (sym none ∙ is.is)))
  value_read utf8 (Some value) is = let then = members_read value (plan_in value) refl in (then.0, valued value then.0 small (record { utf8 = utf8; is = is }) then.1)

  bytes_read : (is_utf8 bytes ≡ true) ⊎ (is_utf8 bytes ≡ false) → Answered (Reads bytes)
  bytes_read (inl is) = value_read (IsUtf8-from_is_utf8 bytes is) (read bytes) refl
  bytes_read (inr isnt) = (Err NotJson, not_json small (λ value is. true≢false (sym (is_utf8-from_IsUtf8 bytes is.utf8) ∙ isnt)))

-- bytes are a policy or have a fault
pub reads_some : (bytes : List ℕ) → (answer : Result Assignment PolicyFault) × Reads bytes answer
reads_some bytes = from (cases_lt MOST_POLICY_BYTES (length bytes))
  where
    from : (MOST_POLICY_BYTES < length bytes) ⊎ (length bytes ≤ MOST_POLICY_BYTES) → Answered (Reads bytes)
    from (inl large) = (Err TooLarge, too_large large)
    from (inr small) = bytes_read bytes small (cases_Bool (is_utf8 bytes))
