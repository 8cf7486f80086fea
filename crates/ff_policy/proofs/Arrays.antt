-- What is read of each element of a list, one after another.
use Rattle.std.proofs.Common.{◌≡◌, ℕ, ◌+◌, ◌<◌, ◌≤◌, List, [], ◌∷◌, ◌++◌, length, drop, get_or, Option, Some, None, option_map, option_and_then, String, Global, string_bytes, refl, sym, ap, ◌∙◌, append_assoc, append-nil}
use Rattle.std.proofs.lemmas.List.{drop_more, drop_all}
use Rattle.serde_json.specs.Find.{as_str}
use Rattle.serde_json.specs.View.{view, items_view, members_view}
use Rattle.serde_json.specs.declared.value.Value.{Value}
use Rattle.ff_lattice.specs.declared.pair.Pair.{Pair}
use Rattle.ff_policy.specs.declared.version.Version.{Version}
use Rattle.ff_policy.specs.Members.{Named, NamedKind, texts, texts_of, pair_of, pairs_of, named_of, kind_shape, kinds_of}

module _ {V X : Type 0} (shape : V → Option X) where
  pub gather : List V → Option (List X)
  gather [] = Some []
  gather (v ∷ vs) = option_and_then (λ x. option_map (λ xs. x ∷ xs) (gather vs)) (shape v)

  -- what is read of all is what was read and then what is read of those that are left
  pub record Gathers (all : List V) (so_far : List X) (left : List V) : Type 0 where
    pub is : gather all ≡ option_map (λ rest. so_far ++ rest) (gather left)

  one_before : (so_far : List X) (x : X) (r : Option (List X)) → option_map (λ rest. so_far ++ rest) (option_map (λ xs. x ∷ xs) r) ≡ option_map (λ rest. (so_far ++ x ∷ []) ++ rest) r
  one_before so_far x None = refl
  one_before so_far x (Some xs) = ap Some (sym (append_assoc so_far (x ∷ []) xs))

  pub gather_step : (all : List V) (so_far : List X) (left more : List V) (v : V) (x : X) → Gathers all so_far left → left ≡ v ∷ more → shape v ≡ Some x → Gathers all (so_far ++ x ∷ []) more
  unfolding gather
  gather_step all so_far left more v x given cut found = record {
    is = given.is ∙ ap (λ (vs : List V). option_map (λ rest. so_far ++ rest) (gather vs)) cut
        ∙ ap (λ o. option_map (λ rest. so_far ++ rest) (option_and_then (λ x. option_map (λ xs. x ∷ xs) (gather more)) o)) found
        ∙ one_before so_far x (gather more);
  }

  pub gather_stop : (all : List V) (so_far : List X) (left more : List V) (v : V) → Gathers all so_far left → left ≡ v ∷ more → shape v ≡ None → gather all ≡ None
  unfolding gather
  gather_stop all so_far left more v given cut none =
      given.is ∙ ap (λ (vs : List V). option_map (λ rest. so_far ++ rest) (gather vs)) cut
      ∙ ap (λ o. option_map (λ rest. so_far ++ rest) (option_and_then (λ x. option_map (λ xs. x ∷ xs) (gather more)) o)) none

  pub gather_done : (all : List V) (so_far : List X) (left : List V) → Gathers all so_far left → left ≡ [] → gather all ≡ Some so_far
  unfolding gather
  gather_done all so_far left given none =
      given.is ∙ ap (λ (vs : List V). option_map (λ rest. so_far ++ rest) (gather vs)) none ∙ ap Some (append-nil so_far)

  cut_at : (all : List V) (i : ℕ) (v : V) → i < length all → v ≡ get_or all i v → drop i all ≡ v ∷ drop (i + 1) all
  cut_at all i v within is = drop_more all i v within ∙ ap (λ w. w ∷ drop (i + 1) all) (sym is)

  pub gather_step_at : (all : List V) (so_far : List X) (i : ℕ) (v : V) (x : X) → Gathers all so_far (drop i all) → i < length all → v ≡ get_or all i v → shape v ≡ Some x → Gathers all (so_far ++ x ∷ []) (drop (i + 1) all)
  gather_step_at all so_far i v x given within is found = gather_step all so_far (drop i all) (drop (i + 1) all) v x given (cut_at all i v within is) found

  pub gather_stop_at : (all : List V) (so_far : List X) (i : ℕ) (v : V) → Gathers all so_far (drop i all) → i < length all → v ≡ get_or all i v → shape v ≡ None → gather all ≡ None
  gather_stop_at all so_far i v given within is none = gather_stop all so_far (drop i all) (drop (i + 1) all) v given (cut_at all i v within is) none

  pub gather_done_at : (all : List V) (so_far : List X) (i : ℕ) → Gathers all so_far (drop i all) → length all ≤ i → gather all ≡ Some so_far
  gather_done_at all so_far i given far = gather_done all so_far (drop i all) given (drop_all i all far)

-- ---- the arrays and objects of a policy

pub text_shape : Value → Option (List ℕ)
text_shape v = as_str (view v)

pub texts_gather : (vs : List Value) → texts_of (items_view vs) ≡ gather text_shape vs
unfolding gather text_shape
texts_gather [] = refl
texts_gather (v ∷ vs) = ap (λ r. option_and_then (λ text. option_map (λ texts. text ∷ texts) r) (as_str (view v))) (texts_gather vs)

pub pair_shape : Value → Option Pair
pair_shape v = option_and_then pair_of (texts (view v))

pub pairs_gather : (vs : List Value) → pairs_of (items_view vs) ≡ gather pair_shape vs
unfolding gather pair_shape
pairs_gather [] = refl
pairs_gather (v ∷ vs) = ap (λ r. option_and_then (λ pair. option_map (λ pairs. pair ∷ pairs) r) (option_and_then pair_of (texts (view v)))) (pairs_gather vs)

abbrev pub Entry : Type 0
Entry = String Global × Value

pub named_shape : Entry → Option Named
named_shape e = option_map (λ level. record { key = string_bytes e.0; level = level }) (as_str (view e.1))

mapped : {X Y Z : Type 0} (f : X → Y) (g : Y → Option Z) (o : Option X) → option_and_then (λ x. g (f x)) o ≡ option_and_then g (option_map f o)
mapped f g None = refl
mapped f g (Some x) = refl

pub named_gather : (es : List Entry) → named_of (members_view es) ≡ gather named_shape es
unfolding gather named_shape
named_gather [] = refl
named_gather (e ∷ es) =
    ap (λ r. option_and_then (λ level. option_map (λ named. record { key = string_bytes e.0; level = level } ∷ named) r) (as_str (view e.1))) (named_gather es)
    ∙ mapped (λ level. record { key = string_bytes e.0; level = level }) (λ one. option_map (λ named. one ∷ named) (gather named_shape es)) (as_str (view e.1))

pub kind_read : Version → Entry → Option NamedKind
kind_read version e = kind_shape version (string_bytes e.0) (view e.1)

pub kinds_gather : (version : Version) (es : List Entry) → kinds_of version (members_view es) ≡ gather (kind_read version) es
unfolding gather kind_read
kinds_gather version [] = refl
kinds_gather version (e ∷ es) =
    ap (λ r. option_and_then (λ one. option_map (λ kinds. one ∷ kinds) r) (kind_shape version (string_bytes e.0) (view e.1))) (kinds_gather version es)

-- ---- the answers of the loops

pub texts_stop : (vs : List Value) (so_far : List (List ℕ)) (i : ℕ) (v : Value) → Gathers text_shape vs so_far (drop i vs) → i < length vs → v ≡ get_or vs i v → as_str (view v) ≡ None → texts_of (items_view vs) ≡ None
unfolding text_shape
texts_stop vs so_far i v given within is none = texts_gather vs ∙ gather_stop_at text_shape vs so_far i v given within is none

pub texts_step : (vs : List Value) (so_far : List (List ℕ)) (i : ℕ) (v : Value) (text : List ℕ) → Gathers text_shape vs so_far (drop i vs) → i < length vs → v ≡ get_or vs i v → as_str (view v) ≡ Some text → Gathers text_shape vs (so_far ++ text ∷ []) (drop (i + 1) vs)
unfolding text_shape
texts_step vs so_far i v text given within is found = gather_step_at text_shape vs so_far i v text given within is found

pub texts_done : (vs : List Value) (so_far : List (List ℕ)) (i : ℕ) → Gathers text_shape vs so_far (drop i vs) → length vs ≤ i → texts_of (items_view vs) ≡ Some so_far
texts_done vs so_far i given far = texts_gather vs ∙ gather_done_at text_shape vs so_far i given far

pub pairs_stop : (vs : List Value) (so_far : List Pair) (i : ℕ) (v : Value) → Gathers pair_shape vs so_far (drop i vs) → i < length vs → v ≡ get_or vs i v → option_and_then pair_of (texts (view v)) ≡ None → pairs_of (items_view vs) ≡ None
unfolding pair_shape
pairs_stop vs so_far i v given within is none = pairs_gather vs ∙ gather_stop_at pair_shape vs so_far i v given within is none

pub pairs_step : (vs : List Value) (so_far : List Pair) (i : ℕ) (v : Value) (pair : Pair) → Gathers pair_shape vs so_far (drop i vs) → i < length vs → v ≡ get_or vs i v → option_and_then pair_of (texts (view v)) ≡ Some pair → Gathers pair_shape vs (so_far ++ pair ∷ []) (drop (i + 1) vs)
unfolding pair_shape
pairs_step vs so_far i v pair given within is found = gather_step_at pair_shape vs so_far i v pair given within is found

pub pairs_done : (vs : List Value) (so_far : List Pair) (i : ℕ) → Gathers pair_shape vs so_far (drop i vs) → length vs ≤ i → pairs_of (items_view vs) ≡ Some so_far
pairs_done vs so_far i given far = pairs_gather vs ∙ gather_done_at pair_shape vs so_far i given far

named_from : (e : Entry) (o : Option (List ℕ)) → as_str (view e.1) ≡ o → named_shape e ≡ option_map (λ level. record { key = string_bytes e.0; level = level }) o
unfolding named_shape
named_from e o is = ap (option_map (λ level. record { key = string_bytes e.0; level = level })) is

pub named_stop : (es : List Entry) (so_far : List Named) (left more : List Entry) (e : Entry) → Gathers named_shape es so_far left → left ≡ e ∷ more → as_str (view e.1) ≡ None → named_of (members_view es) ≡ None
named_stop es so_far left more e given cut none = named_gather es ∙ gather_stop named_shape es so_far left more e given cut (named_from e None none)

pub named_step : (es : List Entry) (so_far : List Named) (left more : List Entry) (e : Entry) (key level : List ℕ) → Gathers named_shape es so_far left → left ≡ e ∷ more → as_str (view e.1) ≡ Some level → key ≡ string_bytes e.0
    → Gathers named_shape es (so_far ++ record { key = key; level = level } ∷ []) more
named_step es so_far left more e key level given cut found is =
    gather_step named_shape es so_far left more e (record { key = key; level = level }) given cut (named_from e (Some level) found ∙ ap (λ (k : List ℕ). Some (record { key = k; level = level })) (sym is))

pub named_done : (es : List Entry) (so_far : List Named) (left : List Entry) → Gathers named_shape es so_far left → left ≡ [] → named_of (members_view es) ≡ Some so_far
named_done es so_far left given none = named_gather es ∙ gather_done named_shape es so_far left given none

module _ (version : Version) (es : List Entry) (so_far : List NamedKind) (left : List Entry) (given : Gathers (kind_read version) es so_far left) where
  pub kinds_stop : (more : List Entry) (e : Entry) → left ≡ e ∷ more → kind_shape version (string_bytes e.0) (view e.1) ≡ None → kinds_of version (members_view es) ≡ None
  unfolding kind_read
  kinds_stop more e cut none = kinds_gather version es ∙ gather_stop (kind_read version) es so_far left more e given cut none

  pub kinds_step : (more : List Entry) (e : Entry) (one : NamedKind) → left ≡ e ∷ more → kind_shape version (string_bytes e.0) (view e.1) ≡ Some one → Gathers (kind_read version) es (so_far ++ one ∷ []) more
  unfolding kind_read
  kinds_step more e one cut found = gather_step (kind_read version) es so_far left more e one given cut found

  pub kinds_done : left ≡ [] → kinds_of version (members_view es) ≡ Some so_far
  kinds_done none = kinds_gather version es ∙ gather_done (kind_read version) es so_far left given none
