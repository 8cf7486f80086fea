-- Nothing was made: the empty stores, and a new browser, are valid.
use Rattle.std.proofs.Common.{◌≡◌, ℕ, ◌≤◌, ◌<◌, Some, None, List, [], length, map, sum_by, count_by, bytes_eq, All, IsTrue, arith, refl, sym, subst, ◌∙◌}
use Rattle.std.proofs.lemmas.List.Elements.{All-nil}
use Rattle.std.proofs.lemmas.Bool.{false≢true}
use Rattle.std.specs.List.{IsDistinct}
use Rattle.std.specs.Cmp.Lexicographic.{slice_cmp}
use Rattle.std.specs.Ordering.{nat_cmp}
use Rattle.std.specs.FinMap as finmap
use Rattle.std.specs.FinSet as finset
use Rattle.ff_machine.specs.declared.limits.TheConstants.{MOST_COOKIES_OF_DOMAIN, MOST_ASKS}
use Rattle.ff_machine.specs.declared.records.Pending.{Pending}
use Rattle.ff_machine.specs.Nodes.{depth}
use Rattle.ff_machine.specs.Windows as windows
use Rattle.ff_machine.specs.Net.{cookie_cmp}
use Rattle.ff_machine.specs.Stores as stores
use Rattle.ff_machine.specs.State.{empty}
use Rattle.ff_machine.specs.Alone.{AreTrees, IsNode, IsWindow, IsPage, AreOpen, AreWindows, IsJar, AreRequests}
use Rattle.ff_machine.specs.References.{made, NodeRefers, PageRefers, DstRefers}
use Rattle.ff_machine.specs.Valid.{IsStores, IsTask, IsState}
use Rattle.ff_machine.proofs.ActChanges.{no_act_valid}
use Rattle.ff_machine.proofs.Maps.{entries-empty, asked_none}

none_some : {A : Type 0} {x : A} → None ≡ Some x → ⊥
none_some e = cc

no_trees : AreTrees []
unfolding depth
no_trees = record {
  below = λ n. All-nil (λ c. c.0 < 0);
  agree = λ n. All-nil (λ c. None ≡ Some n);
  once = λ n p e. cc;
  ends = λ n. omega arith;
}

none_open : AreOpen 0 []
unfolding IsDistinct
none_open = record { there = All-nil (λ w. w.0 < 0); differ = tt; few = omega arith }

no_cookies : IsJar finmap.empty
no_cookies = record {
  each = λ d k v e. absurd (none_some (sym (finmap.get-empty cookie_cmp (d, k)) ∙ e));
  few = omega (arith, finmap.len-empty cookie_cmp (List ℕ));
  few_of = λ d. subst (λ (es : List ((List ℕ × List ℕ) × List ℕ)). count_by (λ e. bytes_eq e.0.0 d) es ≤ MOST_COOKIES_OF_DOMAIN) (sym (entries-empty cookie_cmp)) (omega arith);
}

no_requests : AreRequests finmap.empty
no_requests = record {
  each = λ d asks e. absurd (none_some (sym (finmap.get-empty (slice_cmp nat_cmp) d) ∙ e));
  few = subst (λ (es : List (List ℕ × List Pending)). sum_by length (map (λ e. e.1) es) ≤ MOST_ASKS) (sym (entries-empty (slice_cmp nat_cmp))) (omega arith);
}

nothing_touched : (p : ℕ) → IsTrue (finset.contains (finset.empty {R = nat_cmp}) p) → p < 0
nothing_touched p e = absurd (false≢true (sym (finset.contains-empty nat_cmp p) ∙ e))

-- no windows, pages and activations are valid by themselves
pub empty_windows : AreWindows windows.empty
empty_windows = record {
  windows = All-nil (IsWindow 0 0);
  opened = none_open;
  pages = record { each = All-nil (IsPage 0); few = omega arith; few_entries = omega arith };
  own = record { own = λ w h. absurd (omega (arith, h)); fewer = omega arith };
  acts = record { each = λ a. no_act_valid a.0; few = omega arith; few_vars = omega arith };
}

-- the empty stores are valid
pub empty_valid : IsStores stores.empty
empty_valid = record {
  nodes = record { each = All-nil IsNode; trees = no_trees; few = omega arith };
  windows = empty_windows;
  jar = no_cookies;
  requests = no_requests;
  refer = record {
    nodes = All-nil (NodeRefers (made stores.empty));
    pages = All-nil (PageRefers (made stores.empty));
    acts = λ a x v e. absurd (none_some (sym (finmap.get-empty (slice_cmp nat_cmp) x) ∙ e));
    requests = λ d. subst (All (λ pending. DstRefers (made stores.empty) pending.dst)) (sym (asked_none d)) (All-nil (λ (pending : Pending). DstRefers (made stores.empty) pending.dst));
    touched = nothing_touched;
  };
  rooted = record { root = λ p h. absurd (omega (arith, h)); only = λ n p e. cc };
  queued = record { entries = omega arith; slots = omega arith };
  light = omega arith;
}

-- a new browser is valid
pub empty_state : (budget : ℕ) → IsState budget (empty budget)
empty_state budget = record {
  stores = empty_valid;
  tasks = All-nil (IsTask stores.empty);
  budget_is = refl;
  within = omega arith;
  quiet = λ _. record { tasks = refl; fuel = refl; touched = refl };
}
