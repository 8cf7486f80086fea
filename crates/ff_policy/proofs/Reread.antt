-- What is printed of a policy is read back as that policy.
use Rattle.std.proofs.Common.{◌≡◌, ℕ, suc, ◌<◌, ◌≤◌, ◌+◌, max, ◌||◌, false, List, [], ◌∷◌, ◌++◌, length, map, codes, Option, Some, option_map, Result, Ok, IsUtf8, rules, refl, sym, ap, subst, ◌∙◌, arith}
use Rattle.std.specs.Option.{ok_or}
use Rattle.std.proofs.lemmas.Str.{IsUtf8-append}
use Rattle.json.specs.Tree.{HasNumbers, ItemsHaveNumbers, MembersHaveNumbers}
use Rattle.json.proofs.Printed.Decimals.{IsNumber-decimal}
use Rattle.serde_json.specs.Data.{Data, string, depth, items_depth, members_depth}
use Rattle.serde_json.specs.Read.{read, max_depth}
use Rattle.serde_json.specs.View.{items_of}
use Rattle.serde_json.specs.Written.{outline, items_outline, members_outline, has_float, items_have_float, members_have_float, compact_text}
use Rattle.ff_name.specs.declared.levels.Level.{Level}
use Rattle.ff_value.specs.declared.kind.Kind.TheVariants as kind
use Rattle.ff_lattice.specs.declared.pair.Pair.{Pair}
use Rattle.ff_lattice.specs.Order.{Order, size, name, IsOrder}
use Rattle.ff_lattice.proofs.Named.{level_found}
use Rattle.ff_policy.specs.declared.fault.PolicyFault.{PolicyFault}
use Rattle.ff_policy.specs.declared.fault.PolicyFault.TheVariants.{UnknownLevel, BadShape}
use Rattle.ff_policy.specs.declared.limits.TheConstants.{MOST_FUEL, MOST_POLICY_BYTES}
use Rattle.ff_policy.specs.declared.version.Version.TheVariants.{Two}
use Rattle.ff_policy.specs.Assignment.{KindLevels, Key, Assignment, key_at, IsWithin, IsAssignment}
use Rattle.ff_policy.specs.Members.{Named, NamedKind, Plan, ◌>>=◌, texts, texts_of, pairs, pairs_of, named, named_of, required, optional, in_kinds, known, shaped, plan_of, plan_in}
use Rattle.ff_policy.specs.Naming.{numbered, level_at, keys_named, levels_or_bottom, kinds_named, assigned}
use Rattle.ff_policy.specs.Printing.{pairs_in, pair_data, pairs_data, keys_data, kind_data, kinds_data, data_of, printed}
use Rattle.ff_policy.specs.Reading as reading
use Rattle.ff_policy.specs.Reading.{whole, lattice, planned, valued, IsPolicyOf}
use Rattle.ff_policy.proofs.Given.{lattice_again}
use Rattle.ff_policy.proofs.Newlines.{same_value}

-- ---- what the value says

-- a key and the name of its level
abbrev named_key : Order → Key → Named
named_key order one = record { key = one.key; level = name order one.level }

-- a kind's word and the names of its levels
abbrev named_levels : Order → List ℕ → KindLevels → NamedKind
named_levels order word levels = record { key = word; presence = name order levels.presence; content = name order levels.content }

abbrev plan_said : Assignment → Plan
plan_said p = record {
  levels = p.order.names;
  below = pairs_in p.order;
  ui = name p.order p.ui;
  other = name p.order p.other;
  domains = map (named_key p.order) p.domains;
  kinds =
      named_levels p.order (codes "click") p.kinds.clicks
      ∷ named_levels p.order (codes "close") p.kinds.closes
      ∷ named_levels p.order (codes "go") p.kinds.goes
      ∷ named_levels p.order (codes "link") p.kinds.links
      ∷ named_levels p.order (codes "open") p.kinds.opens
      ∷ named_levels p.order (codes "reply") p.kinds.replies
      ∷ named_levels p.order (codes "type") p.kinds.types
      ∷ [];
  fuel = p.fuel;
}

texts_again : (texts : List (List ℕ)) → texts_of (items_of (map string texts)) ≡ Some texts
texts_again [] = refl
texts_again (text ∷ texts) = ap (option_map (λ (ts : List (List ℕ)). text ∷ ts)) (texts_again texts)

pairs_again : (pairs : List Pair) → pairs_of (items_of (map pair_data pairs)) ≡ Some pairs
pairs_again [] = refl
pairs_again (pair ∷ pairs) = ap (option_map (λ (ps : List Pair). pair ∷ ps)) (pairs_again pairs)

keys_again : (order : Order) (keys : List Key) → named_of (keys_data order keys) ≡ Some (map (named_key order) keys)
keys_again order [] = refl
keys_again order (one ∷ keys) = ap (option_map (λ (ns : List Named). named_key order one ∷ ns)) (keys_again order keys)

version_said : (p : Assignment) → plan_in (data_of p) ≡ plan_of Two (data_of p)
unfolding plan_in data_of
version_said p = refl

known_said : (p : Assignment) → known Two (data_of p) ≡ Ok tt
unfolding known data_of
known_said p = refl

-- a step whose answer is known
step_with : {X Y : Type 0} (r : Result X PolicyFault) (x : X) (step : X → Result Y PolicyFault) (answer : Result Y PolicyFault) → r ≡ Ok x → step x ≡ answer → (r >>= step) ≡ answer
step_with {X} r x step answer is rest = ap (λ (r : Result X PolicyFault). r >>= step) is ∙ rest

shape_said : {X : Type 0} (name : List ℕ) (found : Option X) (x : X) → found ≡ Some x → ok_or found (BadShape name) ≡ Ok x
shape_said {X} name found x is = ap (λ (o : Option X). ok_or o (BadShape name)) is

shaped_said : (p : Assignment) → shaped Two (data_of p) ≡ Ok (plan_said p)
unfolding shaped data_of
shaped_said p =
    step_with (required texts (codes "levels") (data_of p)) p.order.names _ _ (shape_said (codes "levels") _ p.order.names (texts_again p.order.names))
    (step_with (optional [] pairs (codes "below") (data_of p)) (pairs_in p.order) _ _ (shape_said (codes "below") _ (pairs_in p.order) (pairs_again (pairs_in p.order)))
    (step_with (optional [] named (codes "domains") (data_of p)) (map (named_key p.order) p.domains) _ _ (shape_said (codes "domains") _ (map (named_key p.order) p.domains) (keys_again p.order p.domains)) refl))

plan_again : (p : Assignment) → plan_in (data_of p) ≡ Ok (plan_said p)
plan_again p = version_said p ∙ step_with (known Two (data_of p)) tt (λ _. shaped Two (data_of p)) (Ok (plan_said p)) (known_said p) (shaped_said p)

-- ---- the levels that it names

module _ (order : Order) (valid : IsOrder order) where
  level_again : (place : List ℕ) (l : ℕ) → l < size order → level_at order place (name order l) ≡ Ok l
  level_again place l within = ap (λ (found : Option Level). ok_or (numbered found) (UnknownLevel place)) (level_found order (name order l) (record { 0 = l }) valid within refl)

  keys_named_again : (keys : List Key) → ((k : ℕ) → k < length keys → (key_at keys k).level < size order) → keys_named order (map (named_key order) keys) ≡ Ok keys
  keys_named_again [] within = refl
  keys_named_again (one ∷ keys) within =
      step_with (level_at order (codes "domains." ++ one.key) (name order one.level)) one.level _ _ (level_again (codes "domains." ++ one.key) one.level (within 0 (omega arith)))
      (step_with (keys_named order (map (named_key order) keys)) keys _ _ (keys_named_again keys (λ k less. within (suc k) (omega arith))) refl)

  kind_again : (word : List ℕ) (levels : KindLevels) → IsWithin (size order) levels → levels_or_bottom order word (Some (named_levels order word levels)) ≡ Ok levels
  kind_again word levels within =
      step_with (level_at order (in_kinds word) (name order levels.presence)) levels.presence _ _ (level_again (in_kinds word) levels.presence within.presence)
      (step_with (level_at order (in_kinds word) (name order levels.content)) levels.content _ _ (level_again (in_kinds word) levels.content within.content) refl)

kinds_again : (p : Assignment) → IsAssignment p → kinds_named p.order (plan_said p).kinds ≡ Ok p.kinds
unfolding kinds_named
kinds_again p valid =
    let order_is = valid.draft.order_is in
    let within = valid.draft.kinds_within in
    step_with _ p.kinds.opens _ _ (kind_again p.order order_is (codes "open") p.kinds.opens (within kind.Open))
    (step_with _ p.kinds.goes _ _ (kind_again p.order order_is (codes "go") p.kinds.goes (within kind.Go))
    (step_with _ p.kinds.links _ _ (kind_again p.order order_is (codes "link") p.kinds.links (within kind.Link))
    (step_with _ p.kinds.closes _ _ (kind_again p.order order_is (codes "close") p.kinds.closes (within kind.Close))
    (step_with _ p.kinds.types _ _ (kind_again p.order order_is (codes "type") p.kinds.types (within kind.Type))
    (step_with _ p.kinds.clicks _ _ (kind_again p.order order_is (codes "click") p.kinds.clicks (within kind.Click))
    (step_with _ p.kinds.replies _ _ (kind_again p.order order_is (codes "reply") p.kinds.replies (within kind.Reply)) refl))))))

assigned_again : (p : Assignment) → IsAssignment p → assigned p.order (plan_said p) ≡ Ok p
unfolding assigned
assigned_again p valid =
    let order_is = valid.draft.order_is in
    step_with (level_at p.order (codes "ui") (name p.order p.ui)) p.ui _ _ (level_again p.order order_is (codes "ui") p.ui valid.draft.ui_within)
    (step_with (level_at p.order (codes "domain") (name p.order p.other)) p.other _ _ (level_again p.order order_is (codes "domain") p.other valid.draft.other_within)
    (step_with (keys_named p.order (map (named_key p.order) p.domains)) p.domains _ _ (keys_named_again p.order order_is p.domains valid.draft.keys.levels)
    (step_with (kinds_named p.order (plan_said p).kinds) p.kinds _ _ (kinds_again p valid) refl)))

-- bytes that are this value are read as the policy
pub policy_again : (p : Assignment) (bytes : List ℕ) → IsAssignment p → IsUtf8 bytes → read bytes ≡ Some (data_of p) → length bytes ≤ MOST_POLICY_BYTES → IsPolicyOf bytes p
policy_again p bytes valid utf8 is small =
    valued (data_of p) (Ok p) small (record { utf8 = utf8; is = is })
    (planned (plan_said p) (Ok p) (plan_again p)
    (lattice p.order (Ok p) (lattice_again p.order valid.draft.order_is)
    (reading.named p (Ok p) (assigned_again p valid)
    (whole (record { spelled = valid.spelled; some_fuel = valid.some_fuel; little_fuel = valid.little_fuel }) valid.ordered))))

-- ---- the text

strings_float : (texts : List (List ℕ)) → items_have_float (items_of (map string texts)) ≡ false
strings_float [] = refl
strings_float (text ∷ texts) = strings_float texts

pairs_float : (pairs : List Pair) → has_float (pairs_data pairs) ≡ false
pairs_float [] = refl
pairs_float (pair ∷ pairs) = pairs_float pairs

keys_float : (order : Order) (keys : List Key) → members_have_float (keys_data order keys) ≡ false
keys_float order [] = refl
keys_float order (one ∷ keys) = keys_float order keys

pub no_float : (p : Assignment) → has_float (data_of p) ≡ false
unfolding data_of
no_float p =
    let rest = members_have_float (keys_data p.order p.domains) || (items_have_float (items_of (map string p.order.names)) || false) in
    ap (λ b. b || rest) (pairs_float (pairs_in p.order))
    ∙ ap (λ b. b || (items_have_float (items_of (map string p.order.names)) || false)) (keys_float p.order p.domains)
    ∙ ap (λ b. b || false) (strings_float p.order.names)

max_within : (a b n : ℕ) → a ≤ n → b ≤ n → max a b ≤ n
max_within a b n first second = omega arith

strings_depth : (texts : List (List ℕ)) → items_depth (items_of (map string texts)) ≤ 0
strings_depth [] = omega arith
strings_depth (text ∷ texts) = max_within 0 _ 0 (omega arith) (strings_depth texts)

pairs_depth : (pairs : List Pair) → items_depth (items_of (map pair_data pairs)) ≤ 1
pairs_depth [] = omega arith
pairs_depth (pair ∷ pairs) = max_within _ _ 1 (omega arith) (pairs_depth pairs)

keys_depth : (order : Order) (keys : List Key) → members_depth (keys_data order keys) ≤ 0
keys_depth order [] = omega arith
keys_depth order (one ∷ keys) = max_within 0 _ 0 (omega arith) (keys_depth order keys)

under : (n m : ℕ) → n ≤ m → suc n ≤ suc m
under n m le = omega arith

pub shallow : (p : Assignment) → depth (data_of p) ≤ max_depth
unfolding data_of
shallow p =
    under _ 126
    (max_within _ _ 126 (under _ 125 (at_most 1 125 (pairs_depth (pairs_in p.order)) (omega arith)))
    (max_within 0 _ 126 (omega arith)
    (max_within _ _ 126 (under _ 125 (at_most 0 125 (keys_depth p.order p.domains) (omega arith)))
    (max_within 0 _ 126 (omega arith)
    (max_within _ _ 126 (omega arith)
    (max_within _ _ 126 (under _ 125 (at_most 0 125 (strings_depth p.order.names) (omega arith))) (omega arith)))))))
  where
    at_most : {n : ℕ} (m k : ℕ) → n ≤ m → m ≤ k → n ≤ k
    at_most m k low high = omega arith

strings_numbers : (texts : List (List ℕ)) → ItemsHaveNumbers (items_outline (items_of (map string texts)))
strings_numbers [] = tt
strings_numbers (text ∷ texts) = (tt, strings_numbers texts)

pairs_numbers : (pairs : List Pair) → HasNumbers (outline (pairs_data pairs))
pairs_numbers [] = tt
pairs_numbers (pair ∷ pairs) = ((tt, (tt, tt)), pairs_numbers pairs)

keys_numbers : (order : Order) (keys : List Key) → MembersHaveNumbers (members_outline (keys_data order keys))
keys_numbers order [] = tt
keys_numbers order (one ∷ keys) = (tt, keys_numbers order keys)

kind_numbers : (order : Order) (levels : KindLevels) → HasNumbers (outline (kind_data order levels))
kind_numbers order levels = (tt, (tt, tt))

numbers : (p : Assignment) → p.fuel ≤ MOST_FUEL → HasNumbers (outline (data_of p))
unfolding data_of
numbers p little =
    let kinds : HasNumbers (outline (kinds_data p.order p.kinds)) = (
      kind_numbers p.order p.kinds.clicks,
      (
        kind_numbers p.order p.kinds.closes,
        (
          kind_numbers p.order p.kinds.goes,
          (
            kind_numbers p.order p.kinds.links,
            (kind_numbers p.order p.kinds.opens, (kind_numbers p.order p.kinds.replies, (kind_numbers p.order p.kinds.types, tt))),
          ),
        ),
      ),
    ) in
    (pairs_numbers (pairs_in p.order), (tt, (keys_numbers p.order p.domains, (IsNumber-decimal p.fuel (omega arith), (kinds, (strings_numbers p.order.names, (tt, (IsNumber-decimal 2 (omega arith), tt))))))))

-- with a newline behind it, too
pub line_again : (p : Assignment) → IsAssignment p → IsUtf8 (printed p) → read (printed p) ≡ Some (data_of p) → length (printed p ++ codes "\n") ≤ MOST_POLICY_BYTES → IsPolicyOf (printed p ++ codes "\n") p
line_again p valid utf8 is small =
    policy_again p (printed p ++ codes "\n") valid (IsUtf8-append (printed p) (codes "\n") utf8 newline_utf8) (same_value (data_of p) (numbers p valid.little_fuel) ∙ is) small
  where
    newline_utf8 : IsUtf8 (codes "\n")
    newline_utf8 = search rules

-- ---- the bytes that are written for the value

module _ (p : Assignment) (d : Data) (bytes : List ℕ) (value : d ≡ data_of p) (text : has_float d ≡ false → bytes ≡ compact_text d) where
  pub text_is : bytes ≡ printed p
  text_is = text (ap has_float value ∙ no_float p) ∙ ap compact_text value

  pub written_utf8 : IsUtf8 bytes → IsUtf8 (printed p)
  written_utf8 utf8 = subst IsUtf8 text_is utf8

  read_is : (depth d ≤ max_depth → read bytes ≡ Some d) → read (printed p) ≡ Some (data_of p)
  read_is back = ap read (sym text_is) ∙ back (subst (λ (e : Data). depth e ≤ max_depth) (sym value) (shallow p)) ∙ ap Some value

  pub written_again : IsAssignment p → IsUtf8 bytes → (depth d ≤ max_depth → read bytes ≡ Some d) → length (printed p) ≤ MOST_POLICY_BYTES → IsPolicyOf (printed p) p
  written_again valid utf8 back small = policy_again p (printed p) valid (subst IsUtf8 text_is utf8) (read_is back) small

  pub written_line : IsAssignment p → IsUtf8 bytes → (depth d ≤ max_depth → read bytes ≡ Some d) → length (printed p ++ codes "\n") ≤ MOST_POLICY_BYTES → IsPolicyOf (printed p ++ codes "\n") p
  written_line valid utf8 back small = line_again p valid (subst IsUtf8 text_is utf8) (read_is back) small
