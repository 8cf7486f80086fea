-- The text that a policy is printed as.
use Rattle.std.specs.Prelude.{ℕ, Bool, cond, not, ◌==◌, ◌&&◌, List, [], ◌∷◌, codes, map, flat_map}
use Rattle.serde_json.specs.Data.{Data, number, string, array, object, unsigned, Members, no_members, member}
use Rattle.serde_json.specs.View.{items_of}
use Rattle.serde_json.specs.Written.{compact_text}
use Rattle.ff_lattice.specs.declared.pair.Pair.{Pair}
use Rattle.ff_lattice.specs.LevelSet.{below}
use Rattle.ff_lattice.specs.Order.{Order, size, leq, name}
use Rattle.ff_value.specs.declared.kind.Kind.TheVariants as kind
use Rattle.ff_value.specs.Kinds.{word_of}
use Rattle.ff_policy.specs.Assignment.{KindLevels, Kinds, Key, Assignment}

-- an array of strings
abbrev pub strings : List (List ℕ) → Data
strings texts = array (items_of (map string texts))

-- whether a is at or below b, and another level
abbrev pub is_under : Order → ℕ → ℕ → Bool
is_under order a b = leq order a b && not (a == b)

-- the names of a level and another that it is at or below, or nothing where that isn't so
abbrev pub pair_if : Order → ℕ → ℕ → List Pair
pair_if order a b = cond (is_under order a b) (record { low = name order a; high = name order b } ∷ []) []

-- the names of a level and each other level that it is at or below, in the order of these
abbrev pub pairs_from : Order → ℕ → List Pair
pairs_from order a = flat_map (pair_if order a) (below (size order))

-- those of each level, in their order
abbrev pub pairs_in : Order → List Pair
pairs_in order = flat_map (pairs_from order) (below (size order))

-- an array of two strings, low then high
abbrev pub pair_data : Pair → Data
pair_data pair = strings (pair.low ∷ pair.high ∷ [])

abbrev pub pairs_data : List Pair → Data
pairs_data pairs = array (items_of (map pair_data pairs))

-- the keys, each with the name of its level
abbrev pub keys_data : Order → List Key → Members
keys_data order [] = no_members
keys_data order (one ∷ keys) = member one.key (string (name order one.level)) (keys_data order keys)

-- the names of a kind's levels
abbrev pub kind_data : Order → KindLevels → Data
kind_data order levels =
    object
    (member (codes "content") (string (name order levels.content))
    (member (codes "presence") (string (name order levels.presence)) no_members))

-- each kind with the names of its levels
abbrev pub kinds_data : Order → Kinds → Data
kinds_data order kinds =
    object
    (member (word_of kind.Click) (kind_data order kinds.clicks)
    (member (word_of kind.Close) (kind_data order kinds.closes)
    (member (word_of kind.Go) (kind_data order kinds.goes)
    (member (word_of kind.Link) (kind_data order kinds.links)
    (member (word_of kind.Open) (kind_data order kinds.opens)
    (member (word_of kind.Reply) (kind_data order kinds.replies)
    (member (word_of kind.Type) (kind_data order kinds.types) no_members)))))))

-- a policy as a JSON value of version 2 with all its members
unfoldable pub data_of : Assignment → Data
data_of policy =
    object
    (member (codes "below") (pairs_data (pairs_in policy.order))
    (member (codes "domain") (string (name policy.order policy.other))
    (member (codes "domains") (object (keys_data policy.order policy.domains))
    (member (codes "fuel") (number (unsigned policy.fuel))
    (member (codes "kinds") (kinds_data policy.order policy.kinds)
    (member (codes "levels") (strings policy.order.names)
    (member (codes "ui") (string (name policy.order policy.ui))
    (member (codes "version") (number (unsigned 2)) no_members))))))))

-- the text of that value, with no blank in it
abbrev pub printed : Assignment → List ℕ
printed policy = compact_text (data_of policy)
