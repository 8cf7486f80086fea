-- What clauses see of a travel, and what a command makes of it.
use Rattle.std.specs.Prelude.{◌≡◌, Bool, false, List, [], ◌∷◌, ◌++◌, refl}
use Rattle.std.specs.Coded.{Coded, code_by, coded×, coded_bool, coded_list}
use Rattle.ff_policy.specs.Assignment.{Assignment}
use Rattle.ff_pool.specs.Pooled.{Pooled, coded_pooled}
use Rattle.ff_policy.specs.contracts.policy.Policy as policy
use Rattle.ff_travel.specs.Force.{Copies, without_last, last_or, stepped, in_force, first_world, replay}
use Rattle.ff_travel.specs.declared.command.Command.{Command}
use Rattle.ff_travel.specs.declared.command.Command.TheVariants.{Arrive, Turn, Drain, Back, Show}

-- the copies as they are, and as they were before each command in force, the first one's first
pub record History : Type 0 where
  pub before : List Copies
  pub world : Copies

-- a travel: its policy, whether a command found no memory, and the history
pub record Travelled : Type 0 where
  pub policy : Assignment
  pub spent : Bool
  pub history : History

-- their codes
abbrev coded_copies : Coded Copies
coded_copies = code_by Pooled coded_pooled (λ w. record { fuel = 0; spent = false; world = w }) (λ q. q.world) (λ _. refl)

abbrev pub coded_travelled : Coded Travelled
coded_travelled =
    code_by (Assignment × (Bool × (List Copies × Copies)))
    (coded× policy.the_row.coded (coded× coded_bool (coded× (coded_list coded_copies) coded_copies)))
    (λ t. (t.policy, (t.spent, (t.history.before, t.history.world))))
    (λ p. record { policy = p.0; spent = p.1.0; history = record { before = p.1.1.0; world = p.1.1.1 } })
    (λ _. refl)

-- a step more, and the last one taken back; without any, nothing changes
abbrev pub moved : History → Copies → History
moved h w = record { before = h.before ++ h.world ∷ []; world = w }

abbrev pub taken_back : History → History
taken_back h = record { before = without_last h.before; world = last_or h.world h.before }

-- what a command makes of the history
abbrev pub happened : Assignment → History → Command → History
happened p h (Arrive input) = moved h (stepped p h.world (Arrive input))
happened p h (Turn level) = moved h (stepped p h.world (Turn level))
happened p h Drain = moved h (stepped p h.world Drain)
happened p h Back = taken_back h
happened p h (Show level) = h

-- what a command makes of a travel
abbrev pub applied : Travelled → Command → Travelled
applied t command = record { policy = t.policy; spent = t.spent; history = happened t.policy t.history command }

-- a travel to which nothing came
abbrev pub new_travel : Assignment → Travelled
new_travel p = record { policy = p; spent = false; history = record { before = []; world = first_world p } }

-- the copies before each of these commands
abbrev pub worlds_before : Assignment → Copies → List Command → List Copies
worlds_before p w [] = []
worlds_before p w (command ∷ commands) = w ∷ worlds_before p (stepped p w command) commands

-- the history of a fresh replay
abbrev pub history_after : Assignment → List Command → History
history_after p force = record { before = worlds_before p (first_world p) force; world = replay p force }

-- The travel has been through these commands under this policy.
pub record IsTravelAt (p : Assignment) (t : Travelled) (commands : List Command) : Type 0 where
  pub policy : t.policy ≡ p
  pub unspent : t.spent ≡ false
  pub history : t.history ≡ history_after p (in_force commands)
