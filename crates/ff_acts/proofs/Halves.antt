-- Digits of a number, of which some lie near and the others in bytes: what halving makes of them.
use Rattle.std.proofs.Common.{◌≡◌, ℕ, zero, suc, ◌+◌, ◌-◌, ◌*◌, ◌/◌, ◌%◌, ◌^◌, ◌<◌, ◌==◌, List, arith, ap, ◌∙◌}
use Rattle.std.proofs.Math.Nat.{mul_assoc, pow-succ'}
use Rattle.ff_acts.specs.Digits.{number}

-- the number that has these digits
abbrev pub whole : ℕ → ℕ → List ℕ → ℕ
whole near left later = near + 2 ^ left * number later

-- twice the rest
twice : (k m : ℕ) → 2 ^ suc k * m ≡ 2 * (2 ^ k * m)
twice k m = ap (λ p. p * m) (pow-succ' 2 k) ∙ mul_assoc 2 (2 ^ k) m

-- one digit that lies near is taken
module _ (near left : ℕ) (later : List ℕ) (n : ℕ) (some : 0 < left) (fits : near < 2 ^ left) (is : whole near left later ≡ n) where
  abbrev rest : ℕ → ℕ
  rest k = 2 ^ k * number later

  one_more : left ≡ suc (left - 1)
  one_more = omega (arith, some)

  doubled : rest left ≡ 2 * rest (left - 1)
  doubled = ap rest one_more ∙ twice (left - 1) (number later)

  pub same_digit : (near % 2 == 1) ≡ (n % 2 == 1)
  same_digit = ap (λ m. m == 1) (omega (arith, is, doubled))

  pub halved : whole (near / 2) (left - 1) later ≡ n / 2
  halved = omega (arith, is, doubled)

  pub half_fits : near / 2 < 2 ^ (left - 1)
  half_fits = let pow : 2 ^ left ≡ 2 * 2 ^ (left - 1) = ap (λ k. 2 ^ k) one_more ∙ pow-succ' 2 (left - 1) in omega (arith, fits, pow)

-- where none lies near, the number is that of the later bytes
pub all_later : (near left : ℕ) (later : List ℕ) (n : ℕ) → (0 < left → ⊥) → near < 2 ^ left → whole near left later ≡ n → number later ≡ n
all_later near zero later n none fits is = omega (arith, fits, is)
all_later near (suc k) later n none fits is = absurd (none (omega arith))
