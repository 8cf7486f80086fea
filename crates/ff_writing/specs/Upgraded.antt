-- What `upgrade` does: it writes the policy as version 2.
use Rattle.std.specs.Prelude.{◌≡◌, ℕ, List, ◌++◌, codes}
use Rattle.ff_io.specs.Port.{Told}
use Rattle.ff_policy.specs.Assignment.{Assignment}
use Rattle.ff_policy.specs.Printing.{printed}
use Rattle.ff_status.specs.declared.status.Status.{Status}
use Rattle.ff_writing.specs.Checked.{IsPut}

-- the text: the policy, and a newline
abbrev pub upgrade_text : Assignment → List ℕ
upgrade_text p = printed p ++ codes "\n"

-- What `upgrade` does to its port: no turn is made.
pub record Upgrades (p : Assignment) (before now : Told) (turns_before turns_now : ℕ) (status : Status) : Type 0 where
  pub written : IsPut (upgrade_text p) before now status
  pub unturned : turns_now ≡ turns_before
