-- What valid stores put into outputs is well spelled: cookies, which stand in order of their keys,
-- what is shown, and places of windows.
use Rattle.std.proofs.Common.{◌≡◌, ℕ, zero, suc, ◌<◌, ◌≤◌, Bool, true, false, cond, ◌&&◌, Option, Some, None, List, [], ◌∷◌, ◌++◌, map, flat_map, filter, length, All, unwrap_or, bytes_eq, refl, sym, ap, subst, ◌∙◌, arith}
use Rattle.std.specs.Prelude.{T}
use Rattle.std.specs.List.{AllByRecursion, position}
use Rattle.std.specs.List.Sorted.{IsStrictlySortedBy}
use Rattle.std.specs.Ordering.{nat_cmp, eq_by_cmp, is_eq, is_lt, ordering_then}
use Rattle.std.specs.declared.cmp.Ordering.{Ordering}
use Rattle.std.specs.declared.cmp.Ordering.TheVariants.{Less, Equal, Greater}
use Rattle.std.specs.Cmp.{IsTotalOrder, Equal-is, eq_by_cmp_equiv}
use Rattle.std.specs.Cmp.Lexicographic.{slice_cmp, nat_list_cmp_total}
use Rattle.std.specs.FinMap as finmap
use Rattle.std.specs.FinMap.Entries.{below_all, is_sorted, is_sorted-where_key, find}
use Rattle.std.proofs.lemmas.List.Elements.{All-from_recursion, recursion_from_All, All-filter, All-map, All-weaker, filter_passes}
use Rattle.std.proofs.lemmas.List.Quantifiers.{position-Some}
use Rattle.std.proofs.lemmas.Map.Text.{is_eq-slice_cmp}
use Rattle.ff_value.specs.Spelled.{IsNat, IsSpelledPair, IsSpelledShownPart, shown_part_spelled}
use Rattle.ff_value.specs.declared.ids.NodeId.{NodeId}
use Rattle.ff_value.specs.declared.ids.WinId.{WinId}
use Rattle.ff_value.specs.declared.output.Pair.{Pair}
use Rattle.ff_value.specs.declared.output.ShownPart.{ShownPart}
use Rattle.ff_value.specs.declared.output.ShownPart.TheVariants as shown_part
use Rattle.ff_value.specs.declared.output.ShownPart.TheOpen.{ShownPart-F}
use Rattle.ff_value.specs.declared.output.ShownPart.TheViews.{out-ShownPart, roll-out-ShownPart}
use Rattle.ff_value.specs.declared.output.ShownPart.TheFolds.{map-ShownPart, rec-roll-ShownPart}
use Rattle.ff_machine.specs.declared.limits.TheConstants.{MOST_WINDOWS, MOST_TREE_DEPTH}
use Rattle.ff_machine.specs.declared.records.Shape.{Shape}
use Rattle.ff_machine.specs.declared.records.Shape.TheVariants as shape
use Rattle.ff_machine.specs.Shapes.{shown_as}
use Rattle.ff_machine.specs.Nodes.{Node, no_node, node_at, children, shown_within, shown}
use Rattle.ff_machine.specs.Windows.{is_win}
use Rattle.ff_machine.specs.Net.{Jar, cookie_cmp, pairs_of}
use Rattle.ff_machine.specs.Stores as stores
use Rattle.ff_machine.specs.Stores.{Stores}
use Rattle.ff_machine.specs.Alone.{IsShape, IsNode, IsJar}
use Rattle.ff_machine.specs.Valid.{IsStores}
use Rattle.ff_machine.proofs.ActChanges.{same_name}
use Rattle.ff_laws.proofs.Cookies.{cookie_total}
use Rattle.ff_laws.proofs.Simple.{at_any}

-- Cookies.

-- where both of two tests pass, each does
both_hold : (a b : Bool) → T (a && b) → T a × T b
both_hold true b h = (tt, h)
both_hold false b h = absurd h

-- what is less is not a tie
less_apart : (r : Ordering) → T (is_lt r) → is_eq r ≡ false
less_apart Less h = refl
less_apart Equal h = absurd h
less_apart Greater h = absurd h

module _ {K X : Type 0} {R : K → K → Ordering} (o : IsTotalOrder R) where
  -- what is found among later entries is found where a lower one stands before them
  found_behind : (e : K × X) (rest es : List (K × X)) → T (below_all R e.0 es) → AllByRecursion (λ x. find R x.0 rest ≡ Some x.1) es → AllByRecursion (λ x. find R x.0 (e ∷ rest) ≡ Some x.1) es
  found_behind e rest [] below h = tt
  found_behind e rest (x ∷ xs) below h =
      let below_both = both_hold (is_lt (R e.0 x.0)) (below_all R e.0 xs) below in
      let apart : eq_by_cmp R x.0 e.0 ≡ false = (eq_by_cmp_equiv o).symm x.0 e.0 ∙ less_apart (R e.0 x.0) below_both.0 in
      (ap (λ (b : Bool). cond b (Some e.1) (find R x.0 rest)) apart ∙ h.0, found_behind e rest xs below_both.1 h.1)

  -- each of sorted entries is found by its key
  each_found : (es : List (K × X)) → T (is_sorted R es) → AllByRecursion (λ x. find R x.0 es ≡ Some x.1) es
  each_found [] sorted = tt
  each_found (e ∷ es) sorted =
      let sorted_both = both_hold (below_all R e.0 es) (is_sorted R es) sorted in
      (ap (λ (b : Bool). cond b (Some e.1) (find R e.0 es)) ((eq_by_cmp_equiv o).refl e.0), found_behind e es es sorted_both.0 (each_found es sorted_both.1))

-- a cookie as a pair of its key and its value
abbrev pair_of : (List ℕ × List ℕ) × List ℕ → Pair
pair_of e = record { key = e.0.1; value = e.1 }

-- the cookies of a domain are spelled
pub pairs_spelled : (jar : Jar) (domain : List ℕ) → IsJar jar → AllByRecursion IsSpelledPair (pairs_of jar domain)
pairs_spelled jar domain are =
    let es = finmap.entries jar in
    let found : All (λ (e : (List ℕ × List ℕ) × List ℕ). find cookie_cmp e.0 es ≡ Some e.1) es = All-from_recursion _ es (each_found cookie_total es (finmap.entries_sorted jar)) in
    let each : All (λ (e : (List ℕ × List ℕ) × List ℕ). IsSpelledPair (pair_of e)) es =
    All-weaker (λ (e : (List ℕ × List ℕ) × List ℕ). find cookie_cmp e.0 es ≡ Some e.1) (λ e. IsSpelledPair (pair_of e))
    (λ e h. let is = are.each e.0.0 e.0.1 e.1 (finmap.get-entries jar e.0 ∙ h) in (is.key_is, is.value_is)) es found in
    let own = filter (λ (e : (List ℕ × List ℕ) × List ℕ). bytes_eq e.0.0 domain) es in
    recursion_from_All IsSpelledPair (map pair_of own) (All-map IsSpelledPair pair_of own (All-filter _ (λ e. IsSpelledPair (pair_of e)) es each))

-- where the first keys tie, the second are less
less_then : (r q : Ordering) → r ≡ Equal → T (is_lt (ordering_then r q)) → q ≡ Less
less_then Less q e h = cc
less_then Greater q e h = cc
less_then Equal Less e h = refl
less_then Equal Equal e h = absurd h
less_then Equal Greater e h = absurd h

-- equal bytes are one domain
own_domain : (d domain : List ℕ) → bytes_eq d domain ≡ true → d ≡ domain
own_domain d domain e = same_name d domain (is_eq-slice_cmp d domain ∙ e)

module _ (domain : List ℕ) where
  -- a cookie of the domain
  abbrev IsOwn : (List ℕ × List ℕ) × List ℕ → Type 0
  IsOwn e = bytes_eq e.0.0 domain ≡ true

  -- two that are the domain tie
  tied : (d e : List ℕ) → d ≡ domain → e ≡ domain → slice_cmp nat_cmp d e ≡ Equal
  tied d e p q =
      let same : slice_cmp nat_cmp domain domain ≡ Equal = (Equal-is (slice_cmp nat_cmp domain domain)).0 ((eq_by_cmp_equiv nat_list_cmp_total).refl domain) in
      ap (λ (x : List ℕ). slice_cmp nat_cmp x e) p ∙ ap (λ (x : List ℕ). slice_cmp nat_cmp domain x) q ∙ same

  -- the keys of later cookies of the domain are greater
  keys_above : (e : (List ℕ × List ℕ) × List ℕ) (es : List ((List ℕ × List ℕ) × List ℕ)) → IsOwn e → AllByRecursion IsOwn es → T (below_all cookie_cmp e.0 es)
      → AllByRecursion (λ k. slice_cmp nat_cmp e.0.1 k ≡ Less) (map (λ (p : Pair). p.key) (map pair_of es))
  keys_above e [] is own below = tt
  keys_above e (x ∷ xs) is own below =
      let below_both = both_hold (is_lt (cookie_cmp e.0 x.0)) (below_all cookie_cmp e.0 xs) below in
      let tie = tied e.0.0 x.0.0 (own_domain e.0.0 domain is) (own_domain x.0.0 domain own.0) in
      (less_then (slice_cmp nat_cmp e.0.0 x.0.0) (slice_cmp nat_cmp e.0.1 x.0.1) tie below_both.0, keys_above e xs is own.1 below_both.1)

  -- the keys of sorted cookies of one domain rise
  keys_rise : (es : List ((List ℕ × List ℕ) × List ℕ)) → AllByRecursion IsOwn es → T (is_sorted cookie_cmp es) → IsStrictlySortedBy (slice_cmp nat_cmp) (map (λ (p : Pair). p.key) (map pair_of es))
  unfolding IsStrictlySortedBy
  keys_rise [] own sorted = tt
  keys_rise (e ∷ es) own sorted =
      let sorted_both = both_hold (below_all cookie_cmp e.0 es) (is_sorted cookie_cmp es) sorted in
      (keys_above e es own.0 own.1 sorted_both.0, keys_rise es own.1 sorted_both.1)

-- the cookies of a domain stand in the order of their keys
pub pairs_ordered : (jar : Jar) (domain : List ℕ) → IsStrictlySortedBy (slice_cmp nat_cmp) (map (λ (p : Pair). p.key) (pairs_of jar domain))
pairs_ordered jar domain =
    let es = finmap.entries jar in
    let own = filter (λ (e : (List ℕ × List ℕ) × List ℕ). bytes_eq e.0.0 domain) es in
    keys_rise domain own (recursion_from_All (IsOwn domain) own (filter_passes (λ (e : (List ℕ × List ℕ) × List ℕ). bytes_eq e.0.0 domain) es))
    (is_sorted-where_key cookie_cmp (λ (k : List ℕ × List ℕ). bytes_eq k.0 domain) es (finmap.entries_sorted jar))

-- What is shown.

-- what holds of mapped items holds of each through the map
all_mapped : {A B : Type 0} (f : A → B) (P : B → Type 0) (xs : List A) → AllByRecursion (λ x. P (f x)) xs ≡ AllByRecursion P (map f xs)
all_mapped f P [] = refl
all_mapped f P (x ∷ xs) = ap (λ (A : Type 0). P (f x) × A) (all_mapped f P xs)

-- a layer is spelled where its mapped parts are
shown_of_parts : (S : Type 0) (s : S → ShownPart) (claim : ShownPart → Type 0) (x : ShownPart-F S) → shown_part_spelled S (λ p. claim (s p)) x ≡ shown_part_spelled ShownPart claim (map-ShownPart S ShownPart s x)
shown_of_parts S s claim (ShownPart-F.Text text) = refl
shown_of_parts S s claim (ShownPart-F.Link url label) = refl
shown_of_parts S s claim (ShownPart-F.TextBox text) = refl
shown_of_parts S s claim (ShownPart-F.Button label) = refl
shown_of_parts S s claim (ShownPart-F.Div parts) = all_mapped s claim parts

-- what is shown is spelled as its layer is
shown_part_out : (x : ShownPart) → IsSpelledShownPart x ≡ shown_part_spelled ShownPart IsSpelledShownPart (out-ShownPart x)
unfolding IsSpelledShownPart
shown_part_out x = ap IsSpelledShownPart (sym (roll-out-ShownPart x)) ∙ rec-roll-ShownPart (Type 0) (λ S _. shown_part_spelled S) shown_of_parts (out-ShownPart x)

-- what is shown is spelled where its layer is
shown_part_is : (x : ShownPart) (layer : ShownPart-F ShownPart) → out-ShownPart x ≡ layer → shown_part_spelled ShownPart IsSpelledShownPart layer → IsSpelledShownPart x
shown_part_is x layer e h = subst (λ (A : Type 0). A) (sym (shown_part_out x ∙ ap (shown_part_spelled ShownPart IsSpelledShownPart) e)) h

-- a valid shape is shown as something spelled
shown_as_spelled : (x : Shape) (parts : List ShownPart) → IsShape x → AllByRecursion IsSpelledShownPart parts → AllByRecursion IsSpelledShownPart (shown_as x parts)
shown_as_spelled (shape.Page page) parts is h = tt
shown_as_spelled (shape.Text x text) parts is h = (shown_part_is (shown_part.Text text) (ShownPart-F.Text text) (shown_part.outs-Text text) is.1, tt)
shown_as_spelled (shape.Link x url text) parts is h = (shown_part_is (shown_part.Link url text) (ShownPart-F.Link url text) (shown_part.outs-Link url text) (is.1, is.2), tt)
shown_as_spelled (shape.TextBox x text) parts is h = (shown_part_is (shown_part.TextBox text) (ShownPart-F.TextBox text) (shown_part.outs-TextBox text) is.1, tt)
shown_as_spelled (shape.Button x text) parts is h = (shown_part_is (shown_part.Button text) (ShownPart-F.Button text) (shown_part.outs-Button text) is.1, tt)
shown_as_spelled (shape.Script x started body) parts is h = tt
shown_as_spelled (shape.Src x started url) parts is h = tt
shown_as_spelled (shape.Div x) parts is h = (shown_part_is (shown_part.Div parts) (ShownPart-F.Div parts) (shown_part.outs-Div parts) h, tt)

-- two lists of what is shown are spelled together
joined_spelled : (xs ys : List ShownPart) → AllByRecursion IsSpelledShownPart xs → AllByRecursion IsSpelledShownPart ys → AllByRecursion IsSpelledShownPart (xs ++ ys)
joined_spelled [] ys g h = h
joined_spelled (x ∷ xs) ys g h = (g.0, joined_spelled xs ys g.1 h)

-- what is shown of each of some nodes is spelled together
each_spelled : (f : NodeId → List ShownPart) (ns : List NodeId) → ((n : NodeId) → AllByRecursion IsSpelledShownPart (f n)) → AllByRecursion IsSpelledShownPart (flat_map f ns)
each_spelled f [] h = tt
each_spelled f (n ∷ ns) h = joined_spelled (f n) (flat_map f ns) (h n) (each_spelled f ns h)

-- what is shown of valid nodes through so many generations is spelled
within_spelled : (more : ℕ) (all : List Node) (n : NodeId) → All IsNode all → AllByRecursion IsSpelledShownPart (shown_within more all n)
within_spelled zero all n are = tt
within_spelled (suc more) all n are =
    each_spelled (λ c. shown_as (node_at all c).shape (shown_within more all c)) (children all n) (λ c.
    let parts = shown_within more all c in
    let inner = within_spelled more all c are in
    at_any (λ (node : Node). AllByRecursion IsSpelledShownPart (shown_as node.shape parts)) all c.0 no_node
    (All-weaker IsNode (λ (node : Node). AllByRecursion IsSpelledShownPart (shown_as node.shape parts)) (λ node is. shown_as_spelled node.shape parts is.shape inner) all are)
    (shown_part_is (shown_part.Div parts) (ShownPart-F.Div parts) (shown_part.outs-Div parts) inner, tt))

-- what the user is shown of valid nodes is spelled
pub shown_spelled : (all : List Node) (n : NodeId) → All IsNode all → AllByRecursion IsSpelledShownPart (shown all n)
unfolding shown
shown_spelled all n are = within_spelled (suc MOST_TREE_DEPTH) all n are

-- Places of windows.

-- a place below a bound, or none, is a number up to it
place_below : (most : ℕ) (at : Option ℕ) → ((i : ℕ) → at ≡ Some i → i < most) → unwrap_or at 0 ≤ most
place_below most None h = omega arith
place_below most (Some i) h = let lt = h i refl in omega (arith, lt)

-- the place of a window is a number of an output
pub place_fits : (s : Stores) (w : WinId) → IsStores s → IsNat (stores.place s w)
place_fits s w valid =
    let few : length s.windows.opened ≤ MOST_WINDOWS = valid.windows.opened.few in
    let below : stores.place s w ≤ length s.windows.opened = place_below (length s.windows.opened) (position (is_win w) s.windows.opened) (λ i e. (position-Some (is_win w) s.windows.opened i w e).0) in
    omega (arith, few, below)
