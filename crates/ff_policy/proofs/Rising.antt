-- The members of a JSON value that is read stand in byte order, so the first that passes a test is
-- the least.
use Rattle.std.proofs.Common.{◌≡◌, ◌≢◌, ℕ, zero, suc, ◌<◌, List, [], length, get_or, Option, Some, None, option_map, option_and_then, Bool, true, false, cond, Ordering, Less, Equal, Greater, nat_cmp, refl, sym, ap, subst, ◌∙◌, arith}
use Rattle.std.proofs.lemmas.Bool.{true≢false}
use Rattle.std.proofs.lemmas.Cmp.{nat_list_cmp_total, tied_itself}
use Rattle.std.specs.Bool.{⊤}
use Rattle.std.specs.Cmp.Lexicographic.{slice_cmp}
use Rattle.std.specs.List.{find}
use Rattle.std.specs.Ordering.{match_ordering, ordering_reverse}
use Rattle.json.specs.Json as json
use Rattle.json.specs.Lex.{tokens}
use Rattle.serde_json.specs.Data.{Data, null, boolean, number, string, array, object, no_items, item, Members, no_members, member, put}
use Rattle.serde_json.specs.Read.{of_json, of_items, of_members, number_of, max_depth, read}
use Rattle.ff_policy.specs.Members.{keys_of}
use Rattle.ff_policy.specs.ByteOrder.{IsBefore, AreRising, IsInOrder, AreInOrder, HoldInOrder}

some_or : {X : Type 0} → X → Option X → X
some_or x None = x
some_or x (Some y) = y

some_same : (a b : List ℕ) → Some a ≡ Some b → a ≡ b
unfolding some_or
some_same a b e = ap (some_or a) e

less_back : (a b : List ℕ) → slice_cmp nat_cmp a b ≡ Greater → slice_cmp nat_cmp b a ≡ Less
less_back a b greater = nat_list_cmp_total.antisymm b a ∙ ap ordering_reverse greater

before_trans : (a b : List ℕ) (ms : Members) → slice_cmp nat_cmp a b ≡ Less → IsBefore b ms → IsBefore a ms
before_trans a b no_members less before = tt
before_trans a b (member key d ms) less before = (nat_list_cmp_total.trans a b key less before.0, before_trans a b ms less before.1)

put_before : (j k : List ℕ) (d : Data) (ms : Members) → slice_cmp nat_cmp j k ≡ Less → IsBefore j ms → IsBefore j (put k d ms)
put_before j k d no_members less before = (less, tt)
put_before j k d (member l e ms) less before = go (slice_cmp nat_cmp k l) (put_before j k d ms less before.1)
  where
    go : (o : Ordering) → IsBefore j (put k d ms) → IsBefore j (match_ordering o (member k d (member l e ms)) (member l d ms) (member l e (put k d ms)))
    go Less later = (less, before)
    go Equal later = before
    go Greater later = (before.0, later)

put_rising : (k : List ℕ) (d : Data) (ms : Members) → AreRising ms → AreRising (put k d ms)
put_rising k d no_members rising = (tt, tt)
put_rising k d (member l e ms) rising = go (slice_cmp nat_cmp k l) refl (put_rising k d ms rising.1)
  where
    go : (o : Ordering) → slice_cmp nat_cmp k l ≡ o → AreRising (put k d ms) → AreRising (match_ordering o (member k d (member l e ms)) (member l d ms) (member l e (put k d ms)))
    go Less is later = ((is, before_trans k l ms is rising.0), rising)
    go Equal is later = rising
    go Greater is later = (put_before l k d ms (less_back k l is) rising.0, later)

put_holds : (k : List ℕ) (d : Data) (ms : Members) → IsInOrder d → HoldInOrder ms → HoldInOrder (put k d ms)
put_holds k d no_members one all = (one, tt)
put_holds k d (member l e ms) one all = go (slice_cmp nat_cmp k l) (put_holds k d ms one all.1)
  where
    go : (o : Ordering) → HoldInOrder (put k d ms) → HoldInOrder (match_ordering o (member k d (member l e ms)) (member l d ms) (member l e (put k d ms)))
    go Less later = (one, all)
    go Equal later = (one, all.1)
    go Greater later = (all.0, later)

-- ---- what is made of a JSON value

-- the value where there is one
record Made {X : Type 0} (P : X → Type 0) (o : Option X) : Type 0 where
  made : (x : X) → o ≡ Some x → P x

not_made : {X : Type 0} (P : X → Type 0) → Made P None
not_made {X} P = record { made = λ x is. absurd (let no : ◌≡◌ {A = Option X} None (Some x) = is in cc) }

made_now : {X : Type 0} (P : X → Type 0) (x : X) → P x → Made P (Some x)
unfolding some_or
made_now P x holds = record { made = λ y is. subst P (ap (some_or x) is) holds }

made_map : {X Y : Type 0} (P : X → Type 0) (Q : Y → Type 0) (f : X → Y) (o : Option X) → ((x : X) → P x → Q (f x)) → Made P o → Made Q (option_map f o)
made_map P Q f None more given = not_made Q
made_map P Q f (Some x) more given = made_now Q (f x) (more x (given.made x refl))

made_then : {X Y : Type 0} (P : X → Type 0) (Q : Y → Type 0) (f : X → Option Y) (o : Option X) → ((x : X) → P x → Made Q (f x)) → Made P o → Made Q (option_and_then f o)
made_then P Q f None more given = not_made Q
made_then P Q f (Some x) more given = more x (given.made x refl)

abbrev Any : {X : Type 0} → X → Type 0
Any x = ⊤

made_any : {X : Type 0} (o : Option X) → Made Any o
made_any o = record { made = λ x is. tt }

abbrev InOrder : Members → Type 0
InOrder ms = AreRising ms × HoldInOrder ms

mutual
  value_made : (j : json.Json) → Made IsInOrder (of_json j)
  value_made json.null = made_now IsInOrder null tt
  value_made (json.boolean b) = made_now IsInOrder (boolean b) tt
  value_made (json.number s) = made_map Any IsInOrder number (number_of s) (λ n _. tt) (made_any (number_of s))
  value_made (json.string s) = made_now IsInOrder (string s) tt
  value_made (json.array js) = made_map AreInOrder IsInOrder array (of_items js) (λ ds all. all) (items_made js)
  value_made (json.object ms) = made_map InOrder IsInOrder object (of_members ms no_members) (λ ms all. all) (members_made ms no_members (tt, tt))

  items_made : (js : json.Items) → Made AreInOrder (of_items js)
  items_made json.no_items = made_now AreInOrder no_items tt
  items_made (json.item j js) =
      made_then IsInOrder AreInOrder (λ d. option_map (item d) (of_items js)) (of_json j)
      (λ d one. made_map AreInOrder AreInOrder (item d) (of_items js) (λ ds all. (one, all)) (items_made js)) (value_made j)

  members_made : (ms : json.Members) (found : Members) → InOrder found → Made InOrder (of_members ms found)
  members_made json.no_members found all = made_now InOrder found all
  members_made (json.member k j ms) found all =
      made_then IsInOrder InOrder (λ d. of_members ms (put k d found)) (of_json j)
      (λ d one. members_made ms (put k d found) (put_rising k d found all.0, put_holds k d found one all.1)) (value_made j)

-- what is read stands in byte order
pub read_in_order : (bytes : List ℕ) (value : Data) → read bytes ≡ Some value → IsInOrder value
read_in_order bytes value is =
    (made_then Any IsInOrder of_json (option_and_then (λ p. json.if_last p.0 p.1) (json.value max_depth (tokens bytes))) (λ j _. value_made j) (made_any _)).made value is

-- ---- the first is the least

before_each : (key : List ℕ) (ms : Members) → IsBefore key ms → (k : ℕ) → k < length (keys_of ms) → slice_cmp nat_cmp key (get_or (keys_of ms) k []) ≡ Less
before_each key no_members before k within = absurd (omega arith)
before_each key (member other d ms) before zero within = before.0
before_each key (member other d ms) before (suc k) within = before_each key ms before.1 k (omega arith)

not_greater : (a b : List ℕ) (o : Ordering) → slice_cmp nat_cmp a b ≡ o → o ≢ Greater → slice_cmp nat_cmp a b ≢ Greater
not_greater a b o is other greater = other (sym is ∙ greater)

-- the first of rising keys that passes a test is at or before each that passes
pub first_is_least : (test : List ℕ → Bool) (ms : Members) (name : List ℕ) → AreRising ms → find test (keys_of ms) ≡ Some name
    → (k : ℕ) → k < length (keys_of ms) → test (get_or (keys_of ms) k []) ≡ true → slice_cmp nat_cmp name (get_or (keys_of ms) k []) ≢ Greater
first_is_least test no_members name rising is k within passes = absurd (omega arith)
first_is_least test (member key d ms) name rising is k within passes = go (test key) refl k within passes (first_is_least test ms name rising.1)
  where
    here : (k : ℕ) → k < length (keys_of (member key d ms)) → slice_cmp nat_cmp key (get_or (keys_of (member key d ms)) k []) ≢ Greater
    here zero within = not_greater key key Equal (tied_itself nat_list_cmp_total key) (λ e. cc)
    here (suc k) within = not_greater key (get_or (keys_of ms) k []) Less (before_each key ms rising.0 k (omega arith)) (λ e. cc)

    found : (b : Bool) → test key ≡ b → cond b (Some key) (find test (keys_of ms)) ≡ Some name
    found b tested = sym (ap (λ b. cond b (Some key) (find test (keys_of ms))) tested) ∙ is

    go : (b : Bool) → test key ≡ b → (k : ℕ) → k < length (keys_of (member key d ms)) → test (get_or (keys_of (member key d ms)) k []) ≡ true
        → (find test (keys_of ms) ≡ Some name → (k : ℕ) → k < length (keys_of ms) → test (get_or (keys_of ms) k []) ≡ true → slice_cmp nat_cmp name (get_or (keys_of ms) k []) ≢ Greater)
        → slice_cmp nat_cmp name (get_or (keys_of (member key d ms)) k []) ≢ Greater
    go true tested k within passes later = subst (λ (n : List ℕ). slice_cmp nat_cmp n (get_or (keys_of (member key d ms)) k []) ≢ Greater) (some_same key name (found true tested)) (here k within)
    go false tested zero within passes later = absurd (true≢false (sym passes ∙ tested))
    go false tested (suc k) within passes later = later (found false tested) k (omega arith) passes
