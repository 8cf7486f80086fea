-- Numbers of windows, pages, nodes and activations, and numbers that are at least so much.
use Rattle.std.proofs.Common.{◌≡◌, ℕ, zero, suc, ◌+◌, ◌-◌, ◌≤◌, arith, ◌∙◌, subst}
use Rattle.ff_value.specs.declared.ids.WinId.{WinId}
use Rattle.ff_value.specs.declared.ids.PageId.{PageId}
use Rattle.ff_value.specs.declared.ids.NodeId.{NodeId}
use Rattle.ff_value.specs.declared.ids.ActId.{ActId}

-- the window of a number
abbrev pub win : ℕ → WinId
win n = record { 0 = n }

-- the page of a number
abbrev pub page : ℕ → PageId
page n = record { 0 = n }

-- the node of a number
abbrev pub node : ℕ → NodeId
node n = record { 0 = n }

-- the activation of a number
abbrev pub activation : ℕ → ActId
activation n = record { 0 = n }

-- so many more than n
abbrev pub more : ℕ → ℕ → ℕ
more zero n = n
more (suc k) n = suc (more k n)

pub more_is : (k n : ℕ) → more k n ≡ k + n
more_is zero n = omega arith
more_is (suc k) n = let e = more_is k n in omega (arith, e)

-- what holds of so many more than any number holds of any number that is at least so many
pub at_least : (P : ℕ → Type 0) (k : ℕ) → ((n : ℕ) → P (more k n)) → (m : ℕ) → k ≤ m → P m
at_least P k holds m h = let e : more k (m - k) ≡ m = more_is k (m - k) ∙ omega (arith, h) in subst P e (holds (m - k))
