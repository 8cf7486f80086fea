-- The names of levels that a plan gives, each at its place, and the levels that they name.
use Rattle.std.specs.Prelude.{◌≡◌, ◌<◌, ℕ, List, [], ◌∷◌, ◌++◌, length, get_or, codes, bytes_eq, Option, Some, None, option_map, Result, Ok}
use Rattle.std.specs.declared.cmp.Ordering.TheVariants.{Less}
use Rattle.std.specs.Cmp.Lexicographic.{slice_cmp}
use Rattle.std.specs.List.{find}
use Rattle.std.specs.Option.{ok_or}
use Rattle.std.specs.Ordering.{nat_cmp}
use Rattle.ff_name.specs.declared.levels.Level.{Level}
use Rattle.ff_lattice.specs.Order.{Order, bottom, level_named}
use Rattle.ff_value.specs.Kinds.{word_of}
use Rattle.ff_value.specs.declared.kind.Kind.TheVariants as kind
use Rattle.ff_policy.specs.declared.fault.PolicyFault.{PolicyFault}
use Rattle.ff_policy.specs.declared.fault.PolicyFault.TheVariants.{UnknownLevel}
use Rattle.ff_policy.specs.Assignment.{KindLevels, Kinds, Key, Assignment, both}
use Rattle.ff_policy.specs.Members.{Named, NamedKind, Plan, ◌>>=◌, in_kinds}

-- the one that is named at a place
abbrev pub named_at : List Named → ℕ → Named
named_at named place = get_or named place (record { key = []; level = [] })

-- the keys rise in byte order
abbrev pub AreRising : List Named → Type 0
AreRising named = (j k : ℕ) → j < k → k < length named → slice_cmp nat_cmp (named_at named j).key (named_at named k).key ≡ Less

-- the number of the level of this name
abbrev pub numbered : Option Level → Option ℕ
numbered level = option_map (λ (l : Level). l.0) level

-- the level that is named at a place
abbrev pub level_at : Order → List ℕ → List ℕ → Result ℕ PolicyFault
level_at order place text = ok_or (numbered (level_named order text)) (UnknownLevel place)

-- the keys with their levels, one after another
abbrev pub keys_named : Order → List Named → Result (List Key) PolicyFault
keys_named order [] = Ok []
keys_named order (one ∷ more) =
    level_at order (codes "domains." ++ one.key) one.level >>= (λ level.
    keys_named order more >>= (λ keys.
    Ok (record { key = one.key; level = level } ∷ keys)))

-- the levels that are named for a kind, or the bottom for both where none are
abbrev pub levels_or_bottom : Order → List ℕ → Option NamedKind → Result KindLevels PolicyFault
levels_or_bottom order kind None = Ok (both (bottom order))
levels_or_bottom order kind (Some one) =
    level_at order (in_kinds kind) one.presence >>= (λ presence.
    level_at order (in_kinds kind) one.content >>= (λ content.
    Ok (record { presence = presence; content = content })))

abbrev pub kind_named : Order → List NamedKind → List ℕ → Result KindLevels PolicyFault
kind_named order named kind = levels_or_bottom order kind (find (λ one. bytes_eq one.key kind) named)

-- the levels of the kinds, one after another
unfoldable pub kinds_named : Order → List NamedKind → Result Kinds PolicyFault
kinds_named order named =
    kind_named order named (word_of kind.Open) >>= (λ opens.
    kind_named order named (word_of kind.Go) >>= (λ goes.
    kind_named order named (word_of kind.Link) >>= (λ links.
    kind_named order named (word_of kind.Close) >>= (λ closes.
    kind_named order named (word_of kind.Type) >>= (λ types.
    kind_named order named (word_of kind.Click) >>= (λ clicks.
    kind_named order named (word_of kind.Reply) >>= (λ replies.
    Ok (record { opens = opens; goes = goes; links = links; closes = closes; types = types; clicks = clicks; replies = replies }))))))))

-- the levels that a plan names, place by place: the user interface, the domains, and the kinds
unfoldable pub assigned : Order → Plan → Result Assignment PolicyFault
assigned order plan =
    level_at order (codes "ui") plan.ui >>= (λ ui.
    level_at order (codes "domain") plan.other >>= (λ other.
    keys_named order plan.domains >>= (λ domains.
    kinds_named order plan.kinds >>= (λ kinds.
    Ok (record { order = order; ui = ui; other = other; domains = domains; kinds = kinds; fuel = plan.fuel })))))
