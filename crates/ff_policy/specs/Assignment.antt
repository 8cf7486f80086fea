-- A policy as a value: the levels with their order, the two levels of each kind of input, the level
-- of each domain and of the user interface, and the fuel of an input.
use Rattle.std.specs.Prelude.{◌≡◌, ◌⊎◌, ◌<◌, ◌≤◌, ℕ, Bool, eqb, ◌==◌, ◌&&◌, not, true, false, nat_le, List, [], ◌∷◌, length, get_or, Option, Some, None, bytes_eq, if◌then◌else◌}
use Rattle.std.specs.declared.cmp.Ordering.TheVariants.{Less}
use Rattle.std.specs.Cmp.Lexicographic.{slice_cmp}
use Rattle.std.specs.List.{find, ends_with}
use Rattle.std.specs.Ordering.{nat_cmp}
use Rattle.ff_name.specs.declared.levels.Level.{Level}
use Rattle.ff_value.specs.declared.kind.Kind.{Kind}
use Rattle.ff_value.specs.declared.kind.Kind.TheVariants as kind
use Rattle.ff_value.specs.Kinds.{kind_of}
use Rattle.ff_name.specs.Spelling.{IsDomain}
use Rattle.ff_value.specs.declared.input.Act.{Act}
use Rattle.ff_value.specs.declared.input.Act.TheVariants.{Opens, Goes, Links, Closes, Types, Clicks, Replies}
use Rattle.ff_value.specs.declared.input.Input.{Input}
use Rattle.ff_value.specs.declared.output.Out.{Out}
use Rattle.ff_value.specs.declared.output.Out.TheVariants.{Opened, Closed, Loaded, Updated, Error, Stopped, Send}
use Rattle.ff_lattice.specs.Order.{Order, size, leq, join, two, IsOrder}
use Rattle.ff_policy.specs.declared.kinds.TheConstants.{KINDS}
use Rattle.ff_policy.specs.declared.limits.TheConstants.{MOST_FUEL, USUAL_FUEL}

-- the levels of a kind of input: from which level on it is known that there was one, and from which
-- level on what it says
pub record KindLevels : Type 0 where
  pub presence : ℕ
  pub content : ℕ

-- the levels of what a user does and of what a server answers
pub record Kinds : Type 0 where
  pub opens : KindLevels
  pub goes : KindLevels
  pub links : KindLevels
  pub closes : KindLevels
  pub types : KindLevels
  pub clicks : KindLevels
  pub replies : KindLevels

-- a key for domains, and the level of those that it stands for
pub record Key : Type 0 where
  pub key : List ℕ
  pub level : ℕ

-- the levels and their order, the level of the user interface, the level of domains that no key
-- stands for, the keys in byte order, the levels of the kinds, and the fuel of an input
pub record Assignment : Type 0 where
  pub order : Order
  pub ui : ℕ
  pub other : ℕ
  pub domains : List Key
  pub kinds : Kinds
  pub fuel : ℕ

-- ---- domains

-- whether the key begins with a dot
abbrev pub is_dotted : List ℕ → Bool
is_dotted [] = false
is_dotted (b ∷ bytes) = b == 46

-- whether the key begins with a dot and the domain ends with it
abbrev pub covers : List ℕ → List ℕ → Bool
covers key domain = is_dotted key && ends_with eqb domain key

-- the longer of two keys, of which the second may be missing: the first where they are as long
abbrev pub longer : Key → Option Key → Key
longer first None = first
longer first (Some second) = if nat_le (length second.key) (length first.key) then first else second

-- the longer of the best key so far, if any, and another
abbrev pub longer_of : Option Key → Key → Key
longer_of None other = other
longer_of (Some best) other = longer best (Some other)

-- the longest of the keys that cover the domain
abbrev pub longest : List ℕ → List Key → Option Key
longest domain [] = None
longest domain (k ∷ keys) = if covers k.key domain then Some (longer k (longest domain keys)) else longest domain keys

-- the level of a key, or the level that is given where there is none
abbrev pub level_or : Option Key → ℕ → ℕ
level_or None level = level
level_or (Some key) level = key.level

-- the level of a domain: that of its own key, else of the longest key that covers it, else that of
-- all other domains
unfoldable pub domain_level : Assignment → List ℕ → ℕ
domain_level policy domain = level_or (find (λ k. bytes_eq k.key domain) policy.domains) (level_or (longest domain policy.domains) policy.other)

-- ---- inputs and outputs

-- the levels of a kind
abbrev pub levels_of : Kinds → Kind → KindLevels
levels_of kinds kind.Open = kinds.opens
levels_of kinds kind.Go = kinds.goes
levels_of kinds kind.Link = kinds.links
levels_of kinds kind.Close = kinds.closes
levels_of kinds kind.Type = kinds.types
levels_of kinds kind.Click = kinds.clicks
levels_of kinds kind.Reply = kinds.replies

-- a level of a kind, and for a reply the least level above it and its domain's
abbrev pub act_level : Assignment → Act → ℕ → ℕ
act_level policy (Opens url) level = level
act_level policy (Goes win url) level = level
act_level policy (Links win link) level = level
act_level policy (Closes win) level = level
act_level policy (Types win field text) level = level
act_level policy (Clicks win button) level = level
act_level policy (Replies domain request resp) level = join policy.order level (domain_level policy domain)

-- a level joined with a tag, where there is one
abbrev pub with_tag : Order → Option Level → ℕ → ℕ
with_tag order None level = level
with_tag order (Some tag) level = join order level tag.0

-- the level from which on it is known that there was this input: its kind's, for a reply joined
-- with its domain's, and joined with its tag
unfoldable pub presence : Assignment → Input → ℕ
presence policy input = with_tag policy.order input.tag (act_level policy input.act (levels_of policy.kinds (kind_of input.act)).presence)

-- the level from which on it is known what the input says, made up alike
unfoldable pub content : Assignment → Input → ℕ
content policy input = with_tag policy.order input.tag (act_level policy input.act (levels_of policy.kinds (kind_of input.act)).content)

-- the level of an output: a request has that of its domain, and all else that of the user interface
unfoldable pub level_out : Assignment → Out → ℕ
level_out policy (Send domain request cookies body) = domain_level policy domain
level_out policy Opened = policy.ui
level_out policy (Closed win) = policy.ui
level_out policy (Loaded win url shown) = policy.ui
level_out policy (Updated win shown) = policy.ui
level_out policy (Error win fault) = policy.ui
level_out policy Stopped = policy.ui

-- ---- which policies there are

-- the key at a place
abbrev pub key_at : List Key → ℕ → Key
key_at keys place = get_or keys place (record { key = []; level = 0 })

-- one of the keys covers the domain, and each that does is at most as long
pub record IsLongest (domain : List ℕ) (keys : List Key) (key : Key) : Type 0 where
  pub place : ℕ
  pub within : place < length keys
  pub is : key ≡ key_at keys place
  pub covers_it : covers key.key domain ≡ true
  pub longest : (k : ℕ) → k < length keys → covers (key_at keys k).key domain ≡ true → length (key_at keys k).key ≤ length key.key

-- a domain, or a dot and a domain
abbrev pub IsKey : List ℕ → Type 0
IsKey key = IsDomain key ⊎ ((domain : List ℕ) × (key ≡ 46 ∷ domain) × IsDomain domain)

-- both levels of a kind are below n
pub record IsWithin (n : ℕ) (levels : KindLevels) : Type 0 where
  pub presence : levels.presence < n
  pub content : levels.content < n

-- the levels of the kinds are below n
abbrev pub AreWithin : ℕ → Kinds → Type 0
AreWithin n kinds = (kind : Kind) → IsWithin n (levels_of kinds kind)

-- whether the kind's presence is at or below its content
abbrev pub is_ordered : Assignment → Kind → Bool
is_ordered policy kind = leq policy.order (levels_of policy.kinds kind).presence (levels_of policy.kinds kind).content

-- the first kind whose presence isn't at or below its content
abbrev pub first_unordered : Assignment → Option Kind
first_unordered policy = find (λ kind. not (is_ordered policy kind)) KINDS

-- keys that rise in byte order, with levels below n
pub record AreKeys (n : ℕ) (keys : List Key) : Type 0 where
  pub rising : (j k : ℕ) → j < k → k < length keys → slice_cmp nat_cmp (key_at keys j).key (key_at keys k).key ≡ Less
  pub levels : (k : ℕ) → k < length keys → (key_at keys k).level < n

-- each key is a domain, or a dot and a domain
abbrev pub AreSpelled : List Key → Type 0
AreSpelled keys = (k : ℕ) → k < length keys → IsKey (key_at keys k).key

-- a lattice of levels, in which all the levels lie, and keys that rise
pub record IsDraft (policy : Assignment) : Type 0 where
  pub order_is : IsOrder policy.order
  pub ui_within : policy.ui < size policy.order
  pub other_within : policy.other < size policy.order
  pub keys : AreKeys (size policy.order) policy.domains
  pub kinds_within : AreWithin (size policy.order) policy.kinds

-- such levels, keys that are domains or dots and domains, a fuel from 1 to MOST_FUEL, and no kind
-- whose content is known where its presence isn't
pub record IsAssignment (policy : Assignment) : Type 0 where
  pub draft : IsDraft policy
  pub spelled : AreSpelled policy.domains
  pub some_fuel : 1 ≤ policy.fuel
  pub little_fuel : policy.fuel ≤ MOST_FUEL
  pub ordered : first_unordered policy ≡ None

-- ---- the built-in policy

-- one level for presence and content
abbrev pub both : ℕ → KindLevels
both level = record { presence = level; content = level }

-- each kind at one level
abbrev pub all_kinds : ℕ → Kinds
all_kinds level =
    record { opens = both level; goes = both level; links = both level; closes = both level; types = both level; clicks = both level; replies = both level }

-- L below H, the user interface at H, every domain and every kind of input at L
abbrev pub builtin : Assignment
builtin = record { order = two; ui = 1; other = 0; domains = []; kinds = all_kinds 0; fuel = USUAL_FUEL }
