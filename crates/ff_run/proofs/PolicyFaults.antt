-- What the bytes of a policy's file give, and how a run ends where they give nothing.
use Rattle.std.proofs.Common.{◌≡◌, ◌≢◌, ◌⊎◌, inl, inr, ℕ, Result, Ok, Err, List}
use Rattle.ff_policy.specs.Assignment.{Assignment}
use Rattle.ff_policy.specs.Reading.{IsPolicyOf, IsFault}
use Rattle.ff_policy.specs.declared.fault.PolicyFault.{PolicyFault}
use Rattle.ff_policy.specs.declared.fault.PolicyFault.TheVariants as fault
use Rattle.ff_status.specs.declared.status.Status.{Status}
use Rattle.ff_status.specs.declared.status.Status.TheVariants.{Policy}
use Rattle.ff_run.specs.Policies.{IsBadPolicy}

module _ (bytes : List ℕ) (read : Result Assignment PolicyFault) where
  -- a policy was read, so no fault is found
  pub no_fault : (p : Assignment) → read ≡ Ok p → ((f : PolicyFault) → IsFault bytes f → (read ≡ Err f) ⊎ (read ≡ Err fault.NoMemory)) → (status : Status) → IsBadPolicy bytes status → ⊥
  no_fault p is exact _ (IsBadPolicy.faulty g faulty) = from g (exact g faulty)
    where
      from : (g : PolicyFault) → (read ≡ Err g) ⊎ (read ≡ Err fault.NoMemory) → ⊥
      from g (inl e) = cc
      from g (inr e) = cc

  module _ (f : PolicyFault) (is : read ≡ Err f) (other : f ≢ fault.NoMemory) where
    -- a fault was found, so no policy is read
    pub no_policy : ((p : Assignment) → IsPolicyOf bytes p → (read ≡ Ok p) ⊎ (read ≡ Err fault.NoMemory)) → (p : Assignment) → IsPolicyOf bytes p → ⊥
    no_policy only p reads = from (only p reads)
      where
        from : (read ≡ Ok p) ⊎ (read ≡ Err fault.NoMemory) → ⊥
        from (inl e) = cc
        from (inr e) = other cc

    -- nor another fault found
    pub one_fault : ((g : PolicyFault) → IsFault bytes g → (read ≡ Err g) ⊎ (read ≡ Err fault.NoMemory)) → (status : Status) → IsBadPolicy bytes status → Policy f ≡ status
    one_fault exact _ (IsBadPolicy.faulty g faulty) = from g (exact g faulty)
      where
        from : (g : PolicyFault) → (read ≡ Err g) ⊎ (read ≡ Err fault.NoMemory) → Policy f ≡ Policy g
        from g (inl e) = cc
        from g (inr e) = absurd (other cc)
