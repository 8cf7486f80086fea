-- Bytes are one policy, or have one fault.
use Rattle.std.proofs.Common.{◌≡◌, ◌≢◌, ◌⊎◌, inl, inr, ℕ, ◌<◌, ◌≤◌, List, refl, sym, ap, subst, ◌∙◌, arith, Some, Option, None, Result, Ok, Err, IfOk, IfErr, IsErrOf}
use Rattle.std.proofs.lemmas.Bool.{cases_order}
use Rattle.serde_json.specs.Data.{Data}
use Rattle.ff_lattice.specs.Order.{Order}
use Rattle.ff_lattice.specs.Levels as levels
use Rattle.ff_lattice.proofs.Faults.{IsFault-unique, no_fault}
use Rattle.ff_lattice.proofs.Callers.{lattice_of_unique}
use Rattle.ff_value.specs.declared.kind.Kind.{Kind}
use Rattle.ff_value.specs.Kinds.{word_of}
use Rattle.ff_policy.specs.declared.fault.PolicyFault.{PolicyFault}
use Rattle.ff_policy.specs.declared.fault.PolicyFault.TheVariants.{TooLarge, NotJson, BadVersion, UnknownField, BadShape, Levels, UnknownLevel, BadDomain, BadFuel, ContentBelowPresence, NoMemory}
use Rattle.ff_policy.specs.declared.limits.TheConstants.{MOST_FUEL}
use Rattle.ff_policy.specs.Assignment.{Key, Assignment, key_at, IsKey, AreSpelled, first_unordered}
use Rattle.ff_policy.specs.Members.{Plan, plan_in}
use Rattle.ff_policy.specs.Naming.{assigned}
use Rattle.ff_policy.specs.Reading.{IsValueOf, IsFirstNoKey, IsKeyFault, no_key, IsLevelsFault, no_levels, Checks, bad_domain, bad_fuel, unordered, whole, Names, unknown, named, Orders, no_lattice, lattice, Says, bad_member, planned, Reads, too_large, not_json, valued, IsPolicyOf, IsFault}

abbrev Answer : Type 0
Answer = Result Assignment PolicyFault

-- ---- answers

value_or : {X : Type 0} → X → Result X PolicyFault → X
value_or x (Ok y) = y
value_or x (Err fault) = x

fault_or : {X : Type 0} → PolicyFault → Result X PolicyFault → PolicyFault
fault_or fault (Ok x) = fault
fault_or fault (Err other) = other

some_or : {X : Type 0} → X → Option X → X
some_or x None = x
some_or x (Some y) = y

ok_same : {X : Type 0} (r : Result X PolicyFault) (x y : X) → r ≡ Ok x → r ≡ Ok y → x ≡ y
unfolding value_or
ok_same r x y one other = ap (value_or x) (sym one ∙ other)

err_same : {X : Type 0} (r : Result X PolicyFault) (f g : PolicyFault) → r ≡ Err f → r ≡ Err g → f ≡ g
unfolding fault_or
err_same r f g one other = ap (fault_or f) (sym one ∙ other)

not_both : {X : Type 0} (r : Result X PolicyFault) (x : X) (f : PolicyFault) → r ≡ Ok x → r ≡ Err f → ⊥
not_both r x f one other = let no : Ok x ≡ Err f = sym one ∙ other in cc

-- ---- keys

no_key_unique : (keys : List Key) (a b : List ℕ) → IsFirstNoKey keys a → IsFirstNoKey keys b → a ≡ b
no_key_unique keys a b one other =
    elim (cases_order one.place other.place) as (λ _. a ≡ b) [
      | inl e ↦ one.is ∙ ap (λ k. (key_at keys k).key) e ∙ sym other.is
      | inr apart ↦ elim apart as (λ _. a ≡ b) [
        | inl less ↦ absurd (one.wrong (subst IsKey (sym one.is) (other.before one.place less)))
        | inr more ↦ absurd (other.wrong (subst IsKey (sym other.is) (one.before other.place more)))
      ]
    ]

key_fault_unique : (keys : List Key) (f g : PolicyFault) → IsKeyFault keys f → IsKeyFault keys g → f ≡ g
key_fault_unique keys f g (no_key a is_a) (no_key b is_b) = ap BadDomain (no_key_unique keys a b is_a is_b)

spelled_or : (keys : List Key) (f : PolicyFault) → IsKeyFault keys f → AreSpelled keys → ⊥
spelled_or keys f (no_key a is) spelled = is.wrong (subst IsKey (sym is.is) (spelled is.place is.within))

out_of_range : (fuel : ℕ) → (fuel ≡ 0) ⊎ (MOST_FUEL < fuel) → 1 ≤ fuel → fuel ≤ MOST_FUEL → ⊥
out_of_range fuel (inl none) some little = omega arith
out_of_range fuel (inr much) some little = omega arith

some_kind : Kind → Option Kind → Kind
some_kind kind None = kind
some_kind kind (Some other) = other

same_kind : (o : Option Kind) (j k : Kind) → o ≡ Some j → o ≡ Some k → j ≡ k
unfolding some_kind
same_kind o j k one other = ap (some_kind j) (sym one ∙ other)

none_or : (o : Option Kind) (k : Kind) → o ≡ Some k → o ≡ None → ⊥
none_or o k one other = let no : Some k ≡ None = sym one ∙ other in cc

checks_unique : (policy : Assignment) (r s : Answer) → Checks policy r → Checks policy s → r ≡ s
checks_unique policy r s (bad_domain f is) (bad_domain g is_also) = ap Err (key_fault_unique policy.domains f g is is_also)
checks_unique policy r s (bad_domain f is) (bad_fuel spelled range) = absurd (spelled_or policy.domains f is spelled)
checks_unique policy r s (bad_domain f is) (unordered k fueled first) = absurd (spelled_or policy.domains f is fueled.spelled)
checks_unique policy r s (bad_domain f is) (whole fueled none) = absurd (spelled_or policy.domains f is fueled.spelled)
checks_unique policy r s (bad_fuel spelled range) (bad_domain g is) = absurd (spelled_or policy.domains g is spelled)
checks_unique policy r s (bad_fuel spelled range) (bad_fuel spelled_also range_also) = refl
checks_unique policy r s (bad_fuel spelled range) (unordered k fueled first) = absurd (out_of_range policy.fuel range fueled.some_fuel fueled.little_fuel)
checks_unique policy r s (bad_fuel spelled range) (whole fueled none) = absurd (out_of_range policy.fuel range fueled.some_fuel fueled.little_fuel)
checks_unique policy r s (unordered j fueled first) (bad_domain g is) = absurd (spelled_or policy.domains g is fueled.spelled)
checks_unique policy r s (unordered j fueled first) (bad_fuel spelled range) = absurd (out_of_range policy.fuel range fueled.some_fuel fueled.little_fuel)
checks_unique policy r s (unordered j fueled first) (unordered k fueled_also first_also) =
    ap (λ (k : Kind). Err (ContentBelowPresence (word_of k))) (same_kind (first_unordered policy) j k first first_also)
checks_unique policy r s (unordered j fueled first) (whole fueled_also none) = absurd (none_or (first_unordered policy) j first none)
checks_unique policy r s (whole fueled none) (bad_domain g is) = absurd (spelled_or policy.domains g is fueled.spelled)
checks_unique policy r s (whole fueled none) (bad_fuel spelled range) = absurd (out_of_range policy.fuel range fueled.some_fuel fueled.little_fuel)
checks_unique policy r s (whole fueled none) (unordered k fueled_also first) = absurd (none_or (first_unordered policy) k first none)
checks_unique policy r s (whole fueled none) (whole fueled_also none_also) = refl

-- ---- names

names_unique : (order : Order) (plan : Plan) (r s : Answer) → Names order plan r → Names order plan s → r ≡ s
names_unique order plan r s (unknown f is) (unknown g is_also) = ap Err (err_same (assigned order plan) f g is is_also)
names_unique order plan r s (unknown f is) (named p t is_also checks) = absurd (not_both (assigned order plan) p f is_also is)
names_unique order plan r s (named p q is checks) (unknown g is_also) = absurd (not_both (assigned order plan) p g is is_also)
names_unique order plan r s (named p q is checks) (named other t is_also checks_also) =
    checks_unique other q t (subst (λ (p : Assignment). Checks p q) (ok_same (assigned order plan) p other is is_also) checks) checks_also

-- ---- levels

levels_fault_unique : (plan : Plan) (f g : PolicyFault) → IsLevelsFault plan f → IsLevelsFault plan g → f ≡ g
levels_fault_unique plan f g (no_levels a is_a) (no_levels b is_b) = ap Levels (IsFault-unique plan.levels plan.below a b is_a is_b)

lattice_or : (plan : Plan) (order : Order) (f : PolicyFault) → IsLevelsFault plan f → levels.IsLatticeOf plan.levels plan.below order → ⊥
lattice_or plan order f (no_levels a is) good = no_fault plan.levels plan.below good.levels good.lattice a is

orders_unique : (plan : Plan) (r s : Answer) → Orders plan r → Orders plan s → r ≡ s
orders_unique plan r s (no_lattice f is) (no_lattice g is_also) = ap Err (levels_fault_unique plan f g is is_also)
orders_unique plan r s (no_lattice f is) (lattice order t is_also names) = absurd (lattice_or plan order f is is_also)
orders_unique plan r s (lattice order q is names) (no_lattice g is_also) = absurd (lattice_or plan order g is_also is)
orders_unique plan r s (lattice order q is names) (lattice other t is_also names_also) =
    names_unique other plan q t (subst (λ (o : Order). Names o plan q) (lattice_of_unique plan.levels plan.below order other is is_also) names) names_also

-- ---- members

says_unique : (value : Data) (r s : Answer) → Says value r → Says value s → r ≡ s
says_unique value r s (bad_member f is) (bad_member g is_also) = ap Err (err_same (plan_in value) f g is is_also)
says_unique value r s (bad_member f is) (planned plan t is_also orders) = absurd (not_both (plan_in value) plan f is_also is)
says_unique value r s (planned plan q is orders) (bad_member g is_also) = absurd (not_both (plan_in value) plan g is is_also)
says_unique value r s (planned plan q is orders) (planned other t is_also orders_also) =
    orders_unique other q t (subst (λ (p : Plan). Orders p q) (ok_same (plan_in value) plan other is is_also) orders) orders_also

-- ---- bytes

value_unique : (bytes : List ℕ) (v w : Data) → IsValueOf bytes v → IsValueOf bytes w → v ≡ w
unfolding some_or
value_unique bytes v w one other = ap (some_or v) (sym one.is ∙ other.is)

-- bytes read as one policy, or as one fault
pub reads_unique : (bytes : List ℕ) (r s : Result Assignment PolicyFault) → Reads bytes r → Reads bytes s → r ≡ s
reads_unique bytes r s (too_large large) (too_large large_also) = refl
reads_unique bytes r s (too_large large) (not_json small none) = absurd (omega arith)
reads_unique bytes r s (too_large large) (valued v t small is says) = absurd (omega arith)
reads_unique bytes r s (not_json small none) (too_large large) = absurd (omega arith)
reads_unique bytes r s (not_json small none) (not_json small_also none_also) = refl
reads_unique bytes r s (not_json small none) (valued v t small_also is says) = absurd (none v is)
reads_unique bytes r s (valued v q small is says) (too_large large) = absurd (omega arith)
reads_unique bytes r s (valued v q small is says) (not_json small_also none) = absurd (none v is)
reads_unique bytes r s (valued v q small is says) (valued w t small_also is_also says_also) =
    says_unique w q t (subst (λ (d : Data). Says d q) (value_unique bytes v w is is_also) says) says_also

-- ---- what a right answer is

memory_or : (fault : PolicyFault) → (fault ≡ NoMemory) ⊎ (fault ≢ NoMemory)
memory_or NoMemory = inl refl
memory_or TooLarge = inr (λ e. cc)
memory_or NotJson = inr (λ e. cc)
memory_or BadVersion = inr (λ e. cc)
memory_or (UnknownField _) = inr (λ e. cc)
memory_or (BadShape _) = inr (λ e. cc)
memory_or (Levels _) = inr (λ e. cc)
memory_or (UnknownLevel _) = inr (λ e. cc)
memory_or (BadDomain _) = inr (λ e. cc)
memory_or BadFuel = inr (λ e. cc)
memory_or (ContentBelowPresence _) = inr (λ e. cc)

-- an answer that is right where it comes is the one answer, or want of memory
right_from : (bytes : List ℕ) (answer : Answer) → IfOk answer (IsPolicyOf bytes) → IfErr answer (λ fault. fault ≢ NoMemory → IsFault bytes fault)
    → (is : Answer) → Reads bytes is → (answer ≡ is) ⊎ (answer ≡ Err NoMemory)
right_from bytes (Ok p) good right is reads = inl (reads_unique bytes (Ok p) is good reads)
right_from bytes (Err f) good right is reads =
    elim (memory_or f) as (λ _. (◌≡◌ {A = Answer} (Err f) is) ⊎ (◌≡◌ {A = Answer} (Err f) (Err NoMemory))) [
      | inl e ↦ inr (ap Err e)
      | inr other ↦ inl (reads_unique bytes (Err f) is (right other) reads)
    ]

pub accepts_from : (bytes : List ℕ) (answer : Result Assignment PolicyFault) → IfOk answer (IsPolicyOf bytes) → IfErr answer (λ fault. fault ≢ NoMemory → IsFault bytes fault)
    → (policy : Assignment) → IsPolicyOf bytes policy → (answer ≡ Ok policy) ⊎ (answer ≡ Err NoMemory)
accepts_from bytes answer good right policy is = right_from bytes answer good right (Ok policy) is

pub only_from : (bytes : List ℕ) (answer : Result Assignment PolicyFault) → IfOk answer (IsPolicyOf bytes) → IfErr answer (λ fault. fault ≢ NoMemory → IsFault bytes fault)
    → (fault : PolicyFault) → IsFault bytes fault → IsErrOf answer fault ⊎ IsErrOf answer NoMemory
only_from bytes answer good right fault is = right_from bytes answer good right (Err fault) is
