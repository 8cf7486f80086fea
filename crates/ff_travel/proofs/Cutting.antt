-- The outputs of one level after another are cut.
use Rattle.std.proofs.Common.{◌≡◌, ℕ, ◌<◌, ◌≤◌, List, [], length, take, get_or, ◌∙◌, arith}
use Rattle.std.proofs.lemmas.List.{get_or_default}
use Rattle.ff_confinement.proofs.Below.{each_is}
use Rattle.ff_travel.specs.Beside.{cut}
use Rattle.ff_pool.specs.Heads.{outputs_at}
use Rattle.ff_value.specs.declared.output.Out.{Out}

-- Where the loop over the levels stands: those below l are cut, and the others are as they were.
pub record IsCutting (counts : List ℕ) (before now : List (List Out)) (l : ℕ) : Type 0 where
  pub count : length now ≡ length before
  pub done : (k : ℕ) → k < l → k < length before → outputs_at now k ≡ take (get_or counts k 0) (outputs_at before k)
  pub same : (k : ℕ) → l ≤ k → outputs_at now k ≡ outputs_at before k

-- all levels
pub cut_done : (counts : List ℕ) (before now : List (List Out)) (l : ℕ) → IsCutting counts before now l → l ≡ length before → now ≡ cut counts before
unfolding cut
cut_done counts before now l at all = each_is (λ k. take (get_or counts k 0) (outputs_at before k)) now (length before) at.count
    (λ k d lt.
    let in_now : k < length now = let e = at.count in omega (arith, e, lt) in
    get_or_default now k d [] in_now ∙ at.done k (omega (arith, all, lt)) lt)
