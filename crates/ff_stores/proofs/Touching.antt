-- A number that is added to a set which has it already.
use Rattle.std.proofs.Common.{◌≡◌, ℕ, Bool, true, false, refl, sym, ap, ◌∙◌}
use Rattle.std.specs.Prelude.{◌||◌}
use Rattle.std.specs.Cmp.{nat_cmp_total, Equal-is}
use Rattle.std.specs.Ordering.{nat_cmp, eq_by_cmp}
use Rattle.std.specs.FinSet as finset

one_of : (b c : Bool) → (b ≡ true → c ≡ true) → (b || c) ≡ c
one_of true c h = sym (h refl)
one_of false c h = refl

same_number : (a b : ℕ) → eq_by_cmp nat_cmp a b ≡ true → a ≡ b
same_number a b e = finset.nat_cmp-IsAntisymmetric a b ((Equal-is (nat_cmp a b)).0 e)

-- it stays as it is
pub insert_there : (s : finset.FinSet nat_cmp) (k : ℕ) → finset.contains s k ≡ true → s ≡ finset.insert s k
insert_there s k is =
    finset.same_set nat_cmp_total finset.nat_cmp-IsAntisymmetric s (finset.insert s k)
    (λ q. sym (finset.contains-insert nat_cmp_total s k q ∙ one_of (eq_by_cmp nat_cmp q k) (finset.contains s q) (λ e. ap (λ n. finset.contains s n) (same_number q k e) ∙ is)))
