-- A request more, and one that was answered, keep stores valid.
use Rattle.std.proofs.Common.{◌≡◌, ◌≢◌, ℕ, ◌+◌, ◌<◌, ◌≤◌, Bool, true, false, cond, ltb-true, Option, Some, None, List, [], ◌∷◌, ◌++◌, length, sum_by, All, refl, sym, ap, subst, ◌∙◌, arith, unwrap_or, length-append}
use Rattle.std.proofs.lemmas.Bool.{and_parts}
use Rattle.std.proofs.lemmas.List.Elements.{All-push, All-nil}
use Rattle.std.specs.Ordering.{nat_cmp, eq_by_cmp}
use Rattle.std.specs.Cmp.Lexicographic.{slice_cmp, nat_list_cmp_total}
use Rattle.std.specs.FinMap as finmap
use Rattle.ff_name.specs.Spelling.{IsDomain}
use Rattle.ff_name.specs.Address.{IsRequest}
use Rattle.ff_machine.specs.declared.records.Dst.{Dst}
use Rattle.ff_machine.specs.declared.records.Pending.{Pending}
use Rattle.ff_machine.specs.declared.limits.TheConstants.{MOST_ASKS, MOST_ASKS_OF_DOMAIN}
use Rattle.ff_machine.specs.Net.{Requests, asked, count_asks, with_ask, has_ask_room}
use Rattle.ff_machine.specs.Stores as stores
use Rattle.ff_machine.specs.Stores.{Stores}
use Rattle.ff_machine.specs.Alone.{IsDst, IsPending, AreAsked, AreRequests}
use Rattle.ff_machine.specs.References.{Made, made, DstRefers, RequestsRefer}
use Rattle.ff_machine.specs.Valid.{IsStores}
use Rattle.ff_laws.specs.Keeps.{Keeps}
use Rattle.ff_laws.proofs.Growing.{as_many}
use Rattle.ff_machine.proofs.ActChanges.{same_name}
use Rattle.ff_laws.proofs.Sums.{value_or, sum_values, sum_put}

-- a pending request refers to what was made
abbrev pub PendingRefers : Made → Pending → Type 0
PendingRefers m pending = DstRefers m pending.dst

-- other requests, which are valid and refer to what was made, keep stores valid
pub requests_changed : (s : Stores) (requests : Requests) → IsStores s → AreRequests requests → RequestsRefer (made s) requests → Keeps s (record s { requests = requests })
requests_changed s requests valid alone refer = record {
  stores = record {
    nodes = valid.nodes;
    windows = valid.windows;
    jar = valid.jar;
    requests = alone;
    refer = record { nodes = valid.refer.nodes; pages = valid.refer.pages; acts = valid.refer.acts; requests = refer; touched = valid.refer.touched };
    rooted = valid.rooted;
    queued = valid.queued;
    light = valid.light;
  };
  grows = as_many (made s);
}

length_or : (o : Option (List Pending)) → length (unwrap_or o []) ≡ value_or length o
length_or None = refl
length_or (Some ps) = refl

pushed_some : (ps : List Pending) (p : Pending) → ps ++ p ∷ [] ≢ []
pushed_some [] p e = cc
pushed_some (q ∷ ps) p e = cc

module _ (requests : Requests) (domain : List ℕ) (all : List Pending) where
  -- the requests after those of the domain were set
  abbrev pub after : Requests
  after = finmap.insert requests domain all

  -- what is asked of each domain after that of one was set
  pub asked_set : (P : List Pending → Type 0) (q : List ℕ) → P all → P (asked requests q) → P (asked after q)
  asked_set P q new old =
      subst P (sym (ap (λ (o : Option (List Pending)). unwrap_or o []) (finmap.get-insert nat_list_cmp_total requests domain all q))) (by (eq_by_cmp (slice_cmp nat_cmp) q domain)) where
        by : (b : Bool) → P (unwrap_or (cond b (Some all) (finmap.get requests q)) [])
        by true = new
        by false = old

  found : (q : List ℕ) (ps : List Pending) → ((q ≡ domain) → AreAsked domain all) → (finmap.get requests q ≡ Some ps → AreAsked q ps) → finmap.get after q ≡ Some ps → AreAsked q ps
  found q ps new old e =
      by (eq_by_cmp (slice_cmp nat_cmp) q domain) (same_name q domain) (sym (finmap.get-insert nat_list_cmp_total requests domain all q) ∙ e) where
        same : (q ≡ domain) → Some all ≡ Some ps → AreAsked q ps
        same here e = let one : all ≡ ps = cc in subst (AreAsked q) one (subst (λ (d : List ℕ). AreAsked d all) (sym here) (new here))

        by : (b : Bool) → (b ≡ true → q ≡ domain) → cond b (Some all) (finmap.get requests q) ≡ Some ps → AreAsked q ps
        by true here e = same (here refl) e
        by false here e = old e

  count_after : count_asks after + length (asked requests domain) ≡ count_asks requests + length all
  count_after =
      let now : count_asks after ≡ sum_by (λ (e : List ℕ × List Pending). length e.1) (finmap.put (slice_cmp nat_cmp) domain all (finmap.entries requests)) =
      sum_values length (finmap.entries after)
      ∙ ap (λ (es : List (List ℕ × List Pending)). sum_by (λ (e : List ℕ × List Pending). length e.1) es) (finmap.entries-insert nat_list_cmp_total requests domain all) in
      let before : count_asks requests ≡ sum_by (λ (e : List ℕ × List Pending). length e.1) (finmap.entries requests) = sum_values length (finmap.entries requests) in
      let old : length (asked requests domain) ≡ value_or length (finmap.find (slice_cmp nat_cmp) domain (finmap.entries requests)) =
      length_or (finmap.get requests domain) ∙ ap (value_or length) (finmap.get-entries requests domain) in
      let put = sum_put nat_list_cmp_total length domain all (finmap.entries requests) (finmap.entries_sorted requests) in
      omega (arith, now, before, old, put)

  -- the requests of one domain may be others, if these are valid and not too many together
  pub set_valid : AreRequests requests → AreAsked domain all → count_asks requests + length all ≤ MOST_ASKS + length (asked requests domain) → AreRequests after
  set_valid are new few = record {
    each = λ q ps e. found q ps (λ _. new) (are.each q ps) e;
    few = omega (arith, count_after, few);
  }

-- the requests of a domain, if there are any, are valid
pub asked_each : (requests : Requests) (domain : List ℕ) (o : Option (List Pending)) → finmap.get requests domain ≡ o → AreRequests requests → All IsPending (unwrap_or o [])
asked_each requests domain None e are = All-nil IsPending
asked_each requests domain (Some ps) e are = (are.each domain ps e).each

-- a request more keeps requests valid
module _ (requests : Requests) (domain : List ℕ) (new : Pending) (are : AreRequests requests) (is_domain : IsDomain domain) (is : IsPending new) (room : has_ask_room requests domain ≡ true) where
  size : length (asked requests domain ++ new ∷ []) ≡ length (asked requests domain) + 1
  size = length-append (asked requests domain) (new ∷ [])

  pub asked_alone : AreRequests (with_ask requests domain new)
  asked_alone =
      let may = and_parts _ _ room in
      let few_of : length (asked requests domain) < MOST_ASKS_OF_DOMAIN = ltb-true (length (asked requests domain)) MOST_ASKS_OF_DOMAIN may.0 in
      let few : count_asks requests < MOST_ASKS = ltb-true (count_asks requests) MOST_ASKS may.1 in
      let now : AreAsked domain (asked requests domain ++ new ∷ []) = record {
        domain_is = is_domain;
        some = pushed_some (asked requests domain) new;
        each = All-push IsPending (asked requests domain) new (asked_each requests domain (finmap.get requests domain) refl are) is;
        few = omega (arith, size, few_of);
      } in
      set_valid requests domain (asked requests domain ++ new ∷ []) are now (omega (arith, size, few))

module _ (s : Stores) (domain uri body : List ℕ) (to : Dst) (valid : IsStores s) (is_domain : IsDomain domain) (is_request : IsRequest uri) (is_dst : IsDst to) (refers : DstRefers (made s) to) where
  abbrev new : Pending
  new = record { uri = uri; dst = to }

  -- a request that is sent keeps stores valid
  pub sent_valid : stores.has_ask_room s domain ≡ true → Keeps s (stores.sent s domain uri body to).after
  sent_valid room =
      let asks = asked s.requests domain in
      requests_changed s (with_ask s.requests domain new) valid
      (asked_alone s.requests domain new valid.requests is_domain (record { uri = is_request; dst = is_dst }) room)
      (λ q. asked_set s.requests domain (asks ++ new ∷ []) (All (PendingRefers (made s))) q (All-push (PendingRefers (made s)) asks new (valid.refer.requests domain) refers) (valid.refer.requests q))
