-- The JSON value of a policy of either version: which members it has, what shape each of them has,
-- and the fault where one is missing, is none of a policy's or has another shape.
use Rattle.std.specs.Prelude.{ℕ, Bool, not, ◌==◌, List, [], ◌∷◌, ◌++◌, codes, bytes_eq, map, Option, Some, None, is_some, option_map, option_and_then, Result, Ok, Err, if◌then◌else◌}
use Rattle.std.specs.List.{find, list_any}
use Rattle.std.specs.Option.{ok_or, option_or}
use Rattle.serde_json.specs.Data.{Data, Items, no_items, item, Members, no_members, member}
use Rattle.serde_json.specs.Find.{get, as_number, as_str, as_array, as_object, as_u64}
use Rattle.ff_lattice.specs.declared.pair.Pair.{Pair}
use Rattle.ff_value.specs.Kinds.{word_of}
use Rattle.ff_value.specs.declared.kind.Kind.{Kind}
use Rattle.ff_policy.specs.declared.fault.PolicyFault.{PolicyFault}
use Rattle.ff_policy.specs.declared.fault.PolicyFault.TheVariants.{BadVersion, UnknownField, BadShape}
use Rattle.ff_policy.specs.declared.kinds.TheConstants.{KINDS, USER_KINDS}
use Rattle.ff_policy.specs.declared.limits.TheConstants.{USUAL_FUEL}
use Rattle.ff_policy.specs.declared.version.Version.{Version}
use Rattle.ff_policy.specs.declared.version.Version.TheVariants.{One, Two}

-- a key and the name of its level
pub record Named : Type 0 where
  pub key : List ℕ
  pub level : List ℕ

-- a kind's word, and the names of its two levels
pub record NamedKind : Type 0 where
  pub key : List ℕ
  pub presence : List ℕ
  pub content : List ℕ

-- what the members say: the names of the levels and the pairs between them, the names of the levels
-- of the user interface, of the domains and of the kinds of input, and the fuel
pub record Plan : Type 0 where
  pub levels : List (List ℕ)
  pub below : List Pair
  pub ui : List ℕ
  pub other : List ℕ
  pub domains : List Named
  pub kinds : List NamedKind
  pub fuel : ℕ

-- what the second step makes of the first one's answer, or the first one's fault
infixl 10 ◌>>=◌
abbrev pub ◌>>=◌ : {X Y : Type 0} → Result X PolicyFault → (X → Result Y PolicyFault) → Result Y PolicyFault
Ok x >>= step = step x
Err fault >>= step = Err fault

-- ---- names

-- the members that a policy may have
abbrev pub member_names : List (List ℕ)
member_names = codes "version" ∷ codes "levels" ∷ codes "below" ∷ codes "ui" ∷ codes "domain" ∷ codes "domains" ∷ codes "kinds" ∷ codes "fuel" ∷ []

-- the kinds of input that have levels of their own: in the first version those that a user makes,
-- and then replies too
abbrev pub kinds_in : Version → List Kind
kinds_in One = USER_KINDS
kinds_in Two = KINDS

-- their words
abbrev pub kind_names : Version → List (List ℕ)
kind_names version = map word_of (kinds_in version)

-- the members that a kind's object may have
abbrev pub side_names : List (List ℕ)
side_names = codes "presence" ∷ codes "content" ∷ []

-- whether the name is one of these
abbrev pub is_among : List (List ℕ) → List ℕ → Bool
is_among names name = list_any (bytes_eq name) names

-- the keys of an object, in byte order
abbrev pub keys_of : Members → List (List ℕ)
keys_of no_members = []
keys_of (member key value members) = key ∷ keys_of members

-- the least key of an object in byte order that is none of these
abbrev pub first_other : List (List ℕ) → Data → Option (List ℕ)
first_other names value = option_and_then (λ members. find (λ key. not (is_among names key)) (keys_of members)) (as_object value)

-- ---- shapes

-- a whole number that 64 bits hold, with no sign, point or exponent
abbrev pub whole : Data → Option ℕ
whole value = option_and_then as_u64 (as_number value)

-- the texts of a list of strings
abbrev pub texts_of : Items → Option (List (List ℕ))
texts_of no_items = Some []
texts_of (item value items) = option_and_then (λ text. option_map (λ texts. text ∷ texts) (texts_of items)) (as_str value)

abbrev pub texts : Data → Option (List (List ℕ))
texts value = option_and_then texts_of (as_array value)

-- two texts as a pair, low then high
abbrev pub pair_of : List (List ℕ) → Option Pair
pair_of (low ∷ high ∷ []) = Some (record { low = low; high = high })
pair_of texts = None

-- the pairs of a list of arrays of two strings
abbrev pub pairs_of : Items → Option (List Pair)
pairs_of no_items = Some []
pairs_of (item value items) = option_and_then (λ pair. option_map (λ pairs. pair ∷ pairs) (pairs_of items)) (option_and_then pair_of (texts value))

abbrev pub pairs : Data → Option (List Pair)
pairs value = option_and_then pairs_of (as_array value)

-- the keys of an object of strings, each with its string
abbrev pub named_of : Members → Option (List Named)
named_of no_members = Some []
named_of (member key value members) = option_and_then (λ level. option_map (λ named. record { key = key; level = level } ∷ named) (named_of members)) (as_str value)

abbrev pub named : Data → Option (List Named)
named value = option_and_then named_of (as_object value)

-- the text of the member of this name
abbrev pub text_at : List ℕ → Data → Option (List ℕ)
text_at name value = option_and_then as_str (get name value)

-- a string that names both levels of a kind
abbrev pub alike : List ℕ → Data → Option NamedKind
alike key value = option_map (λ name. record { key = key; presence = name; content = name }) (as_str value)

-- an object that names both
abbrev pub apart : List ℕ → Data → Option NamedKind
apart key value =
    option_and_then (λ presence. option_map (λ content. record { key = key; presence = presence; content = content }) (text_at (codes "content") value)) (text_at (codes "presence") value)

-- what a kind's value may be: a string, and in the second version such an object too
abbrev pub kind_shape : Version → List ℕ → Data → Option NamedKind
kind_shape One key value = alike key value
kind_shape Two key value = option_or (alike key value) (apart key value)

-- the kinds of an object, each with its names
abbrev pub kinds_of : Version → Members → Option (List NamedKind)
kinds_of version no_members = Some []
kinds_of version (member key value members) = option_and_then (λ one. option_map (λ kinds. one ∷ kinds) (kinds_of version members)) (kind_shape version key value)

abbrev pub kinds : Version → Data → Option (List NamedKind)
kinds version value = option_and_then (kinds_of version) (as_object value)

-- ---- the members in order

-- what `shape` reads of the member of this name, which must be there
abbrev pub required : {X : Type 0} → (Data → Option X) → List ℕ → Data → Result X PolicyFault
required shape name value = ok_or (option_and_then shape (get name value)) (BadShape name)

-- what `shape` reads of a member, or what stands for one that isn't there
abbrev pub shape_or : {X : Type 0} → X → (Data → Option X) → Option Data → Option X
shape_or absent shape None = Some absent
shape_or absent shape (Some value) = shape value

-- the same of the member of this name
abbrev pub optional : {X : Type 0} → X → (Data → Option X) → List ℕ → Data → Result X PolicyFault
optional absent shape name value = ok_or (shape_or absent shape (get name value)) (BadShape name)

-- the version of this number
abbrev pub numbered : Option ℕ → Option Version
numbered None = None
numbered (Some n) = if n == 1 then Some One else (if n == 2 then Some Two else None)

-- the version that the value says, where it is an object that says one
abbrev pub version_in : Data → Option Version
version_in value = numbered (option_and_then whole (get (codes "version") value))

-- the least key of the member `kinds` that is no kind, where that member is an object
abbrev pub other_kind : Version → Data → Option (List ℕ)
other_kind version value = option_and_then (first_other (kind_names version)) (get (codes "kinds") value)

-- the least member of a kind's object that is none of those
abbrev pub other_side : Data → Kind → Option (List ℕ)
other_side kinds kind = option_and_then (first_other side_names) (get (word_of kind) kinds)

-- the first kind whose object has such a member
abbrev pub odd_kind : Data → Option Kind
odd_kind kinds = find (λ kind. is_some (other_side kinds kind)) KINDS

-- the kind's word, a dot, and that member
abbrev pub side_place : Data → Kind → Option (List ℕ)
side_place kinds kind = option_map (λ side. word_of kind ++ (codes "." ++ side)) (other_side kinds kind)

-- that of the first such kind, where there is one; in the first version no kind has an object
abbrev pub first_side : Version → Data → Option (List ℕ)
first_side One kinds = None
first_side Two kinds = option_and_then (side_place kinds) (odd_kind kinds)

-- the same of the member `kinds`
abbrev pub unknown_side : Version → Data → Option (List ℕ)
unknown_side version value = option_and_then (first_side version) (get (codes "kinds") value)

-- behind the word `kinds` and a dot
abbrev pub in_kinds : List ℕ → List ℕ
in_kinds place = codes "kinds." ++ place

-- the least other member, else the least other kind, else the first other member of a kind
abbrev pub unknown_field : Version → Data → Option (List ℕ)
unknown_field version value = option_or (first_other member_names value) (option_map in_kinds (option_or (other_kind version value) (unknown_side version value)))

-- the fault of a field that isn't known
abbrev pub no_field : Option (List ℕ) → Result (Unit {0}) PolicyFault
no_field None = Ok tt
no_field (Some name) = Err (UnknownField name)

-- all members and kinds are known
unfoldable pub known : Version → Data → Result (Unit {0}) PolicyFault
known version value = no_field (unknown_field version value)

-- what the members say, in the order in which their shapes are checked
unfoldable pub shaped : Version → Data → Result Plan PolicyFault
shaped version value =
    required texts (codes "levels") value >>= (λ levels.
    optional [] pairs (codes "below") value >>= (λ below.
    required as_str (codes "ui") value >>= (λ ui.
    required as_str (codes "domain") value >>= (λ other.
    optional [] named (codes "domains") value >>= (λ domains.
    optional [] (kinds version) (codes "kinds") value >>= (λ kinds.
    optional USUAL_FUEL whole (codes "fuel") value >>= (λ fuel.
    Ok (record { levels = levels; below = below; ui = ui; other = other; domains = domains; kinds = kinds; fuel = fuel }))))))))

-- what a value of this version says
abbrev pub plan_of : Version → Data → Result Plan PolicyFault
plan_of version value = known version value >>= (λ _. shaped version value)

-- what a value says as a policy: it is an object of a known version, no other member stands in it,
-- and each has its shape
unfoldable pub plan_in : Data → Result Plan PolicyFault
plan_in value = ok_or (version_in value) BadVersion >>= (λ version. plan_of version value)
