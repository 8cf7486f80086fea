-- Lemmas on sets of levels, and on the bits that they are kept as.
use Rattle.std.proofs.Common.{◌≡◌, ℕ, ◌+◌, ◌*◌, ◌/◌, ◌%◌, ◌<◌, ◌^◌, inl, inr, zero, suc, Bool, true, false, ◌&&◌, ◌||◌, nat_eq, eqb, ltb, List, [], ◌∷◌, ◌++◌, refl, sym, ◌∙◌, ap, subst, arith, min, max, filter, cond, bit_and, bit_or, length}
use Rattle.std.specs.Int.{bit_at, trailing_zeros, w16}
use Rattle.std.proofs.lemmas.Bool.{cases_eq, lt-ltb, eq-eqb, ne_eqb}
use Rattle.std.proofs.lemmas.Nat.Bits.{bit_at_or, bit_at_and, bit_at-zero, bit_at-lt, bit_at_set_same, bit_at_set_other, bit_at-trailing_zeros, shr_and_one}
use Rattle.std.proofs.lemmas.Bool.Decides.{nat_tests}
use Rattle.std.proofs.lemmas.List.Elements.{filter-append}
use Rattle.std.proofs.lemmas.Nat.{mod-pow-add, ones_cat}
use Rattle.std.proofs.lemmas.List.{length-append}
use lib.Count.{ones, ones_in}
use Rattle.std.proofs.Math.Nat.{mod-eq_of_lt, mod-lt}
use lib.Pow.{pow_pos}
use Rattle.ff_lattice.specs.LevelSet.{has, levels_where, IsLevelSet, IsLeast, below}
use Rattle.ff_lattice.specs.LevelBits.{levels_of, bits_of, bits_of-levels_of, has-levels_where}

or_true : (b : Bool) → (b || true) ≡ true
or_true true = refl
or_true false = refl

and_false : (b : Bool) → (b && false) ≡ false
and_false true = refl
and_false false = refl

or_false : (b : Bool) → (b || false) ≡ b
or_false true = refl
or_false false = refl

filter_same : (n : ℕ) (p q : ℕ → Bool) → ((l : ℕ) → l < n → p l ≡ q l) → filter p (below n) ≡ filter q (below n)
unfolding below
filter_same zero p q same = refl
filter_same (suc n) p q same =
    filter-append p (below n) (n ∷ [])
    ∙ ap (λ front. front ++ filter p (n ∷ [])) (filter_same n p q (λ l h. same l (omega arith)))
    ∙ ap (λ b. filter q (below n) ++ cond b (n ∷ []) []) (same n (omega arith))
    ∙ sym (filter-append q (below n) (n ∷ []))

-- tests that agree below 16 make one set
pub levels_same : (p q : ℕ → Bool) → ((l : ℕ) → l < 16 → p l ≡ q l) → levels_where p ≡ levels_where q
levels_same p q same = filter_same 16 p q same

-- what a test makes is a set of levels
pub IsLevelSet-levels_where : (p : ℕ → Bool) → IsLevelSet (levels_where p)
IsLevelSet-levels_where p = levels_same p (has (levels_where p)) (λ l h. sym (has-levels_where p l ∙ ap (λ b. b && p l) (lt-ltb l 16 h)))

-- sets with the same levels are equal
pub same_levels : (s t : List ℕ) → IsLevelSet s → IsLevelSet t → ((l : ℕ) → l < 16 → has s l ≡ has t l) → s ≡ t
same_levels s t is_s is_t same = is_s ∙ levels_same (has s) (has t) same ∙ sym is_t

-- a level in range is in a set that a test makes exactly where it passes
pub has_in_range : (p : ℕ → Bool) (l : ℕ) → l < 16 → has (levels_where p) l ≡ p l
has_in_range p l h = has-levels_where p l ∙ ap (λ b. b && p l) (lt-ltb l 16 h)

filter_none : (n : ℕ) (p : ℕ → Bool) → ((l : ℕ) → p l ≡ false) → filter p (below n) ≡ []
unfolding below
filter_none zero p none = refl
filter_none (suc n) p none =
    filter-append p (below n) (n ∷ []) ∙ ap (λ front. front ++ filter p (n ∷ [])) (filter_none n p none) ∙ ap (λ b. cond b (n ∷ []) []) (none n)

pub levels_of-zero : levels_of 0 ≡ []
levels_of-zero = filter_none 16 (λ l. eqb (bit_at 0 l) 1) (λ l. ap (λ b. eqb b 1) (bit_at-zero l))

pub test-bit : (bits l : ℕ) → l < 16 → nat_eq (bit_and (bits / 2 ^ l) 1) 1 ≡ has (levels_of bits) l
test-bit bits l h = ap (λ b. nat_eq b 1) (shr_and_one bits l) ∙ sym (has_in_range (λ m. eqb (bit_at bits m) 1) l h)

bit_set : (bits k m : ℕ) → k < 16 → m < 16 → eqb (bit_at (bit_or bits (1 * 2 ^ k % 65536)) m) 1 ≡ (has (levels_of bits) m || eqb m k)
bit_set bits k m in_k in_m =
    elim (cases_eq m k) as (λ _. eqb (bit_at (bit_or bits (1 * 2 ^ k % 65536)) m) 1 ≡ (has (levels_of bits) m || eqb m k)) [
      | inl e ↦ subst (λ (i : ℕ). eqb (bit_at (bit_or bits (1 * 2 ^ k % 65536)) i) 1 ≡ (has (levels_of bits) i || eqb i k)) (sym e)
          (ap (λ b. eqb b 1) (bit_at_set_same w16 bits k in_k) ∙ sym (ap (λ b. has (levels_of bits) k || b) (eq-eqb k k refl) ∙ or_true (has (levels_of bits) k)))
      | inr ne ↦ ap (λ b. eqb b 1) (bit_at_set_other w16 bits k in_k m ne)
          ∙ sym (ap (λ b. has (levels_of bits) m || b) (ne_eqb m k ne) ∙ or_false (has (levels_of bits) m) ∙ has_in_range (λ i. eqb (bit_at bits i) 1) m in_m)
    ]

pub levels_of-set : (bits k : ℕ) → k < 16 → levels_of (bit_or bits (1 * 2 ^ k % 65536)) ≡ levels_where (λ m. has (levels_of bits) m || eqb m k)
levels_of-set bits k in_k = levels_same _ _ (λ m in_m. bit_set bits k m in_k in_m)

either_bit : (a b : ℕ) → a < 2 → b < 2 → eqb (max a b) 1 ≡ (eqb a 1 || eqb b 1)
either_bit a b small_a small_b = grind (arith, nat_tests)

both_bits : (a b : ℕ) → a < 2 → b < 2 → eqb (min a b) 1 ≡ (eqb a 1 && eqb b 1)
both_bits a b small_a small_b = grind (arith, nat_tests)

pub levels_of-or : (a b : ℕ) → levels_of (bit_or a b) ≡ levels_where (λ m. has (levels_of a) m || has (levels_of b) m)
levels_of-or a b =
    levels_same _ _ (λ m in_m.
    ap (λ x. eqb x 1) (bit_at_or a b m) ∙ either_bit (bit_at a m) (bit_at b m) (bit_at-lt a m) (bit_at-lt b m)
    ∙ sym (λ i. has_in_range (λ k. eqb (bit_at a k) 1) m in_m i || has_in_range (λ k. eqb (bit_at b k) 1) m in_m i))

pub levels_of-and : (a b : ℕ) → levels_of (bit_and a b) ≡ levels_where (λ m. has (levels_of a) m && has (levels_of b) m)
levels_of-and a b =
    levels_same _ _ (λ m in_m.
    ap (λ x. eqb x 1) (bit_at_and a b m) ∙ both_bits (bit_at a m) (bit_at b m) (bit_at-lt a m) (bit_at-lt b m)
    ∙ sym (λ i. has_in_range (λ k. eqb (bit_at a k) 1) m in_m i && has_in_range (λ k. eqb (bit_at b k) 1) m in_m i))

-- sets are equal exactly where their bits are
pub same_bits : (a b : ℕ) → a < 2 ^ 16 → b < 2 ^ 16 → levels_of a ≡ levels_of b → a ≡ b
same_bits a b in_a in_b same = sym (bits_of-levels_of a in_a) ∙ ap bits_of same ∙ bits_of-levels_of b in_b

pub no_bits : (bits : ℕ) → bits < 2 ^ 16 → levels_of bits ≡ [] → bits ≡ 0
no_bits bits in_bits none = same_bits bits 0 in_bits (omega arith) (none ∙ sym levels_of-zero)

lowest_held : (bits l : ℕ) → l < 16 → bit_at bits l ≡ 1 → has (levels_of bits) l ≡ true
lowest_held bits l in_l one = has_in_range (λ m. eqb (bit_at bits m) 1) l in_l ∙ ap (λ b. eqb b 1) one

-- the lowest bit is the least level
pub IsLeast-trailing_zeros : (bits : ℕ) → 0 < bits → bits < 2 ^ 16 → IsLeast (levels_of bits) (trailing_zeros w16 bits)
IsLeast-trailing_zeros bits some in_bits =
    let lowest = bit_at-trailing_zeros w16 bits some in_bits in
    record {
      held = lowest_held bits (trailing_zeros w16 bits) lowest.0 lowest.1;
      first = λ m before.
          has-levels_where (λ k. eqb (bit_at bits k) 1) m
          ∙ ap (λ b. ltb m 16 && eqb b 1) (lowest.2 m before) ∙ and_false (ltb m 16);
    }

one_more : (k b : ℕ) → b < 2 → ones b ≡ length (cond (eqb b 1) (k ∷ []) [])
unfolding ones ones_in
one_more k zero small = refl
one_more k (suc zero) small = refl
one_more k (suc (suc b)) small = absurd (omega arith)

no_ones : ones 0 ≡ 0
unfolding ones ones_in
no_ones = refl

ones_next : (bits k : ℕ) → ones (bits % 2 ^ suc k) ≡ ones (bit_at bits k) + ones (bits % 2 ^ k)
ones_next bits k =
    let next : suc k ≡ 1 + k = omega arith in
    ap (λ j. ones (bits % 2 ^ j)) next ∙ ap ones (mod-pow-add bits 1 k) ∙ ones_cat k (bit_at bits k) (bits % 2 ^ k) (mod-lt bits (pow_pos k))

count_below : (bits k : ℕ) → ones (bits % 2 ^ k) ≡ length (filter (λ l. eqb (bit_at bits l) 1) (below k))
unfolding below
count_below bits zero = let none : bits % 1 ≡ 0 = omega arith in ap ones none ∙ no_ones
count_below bits (suc k) =
    let p : ℕ → Bool = λ l. eqb (bit_at bits l) 1 in
    let rest : length (filter p (below k ++ k ∷ [])) ≡ length (filter p (below k)) + length (filter p (k ∷ [])) = ap length (filter-append p (below k) (k ∷ [])) ∙ length-append (filter p (below k)) (filter p (k ∷ [])) in
    let front : ones (bits % 2 ^ k) ≡ length (filter p (below k)) = count_below bits k in
    let last : ones (bit_at bits k) ≡ length (filter p (k ∷ [])) = one_more k (bit_at bits k) (bit_at-lt bits k) in
    let next : ones (bits % 2 ^ suc k) ≡ ones (bit_at bits k) + ones (bits % 2 ^ k) = ones_next bits k in
    omega (arith, next, last, front, rest)

-- a set holds as many levels as bits are set
pub ones-levels_of : (bits : ℕ) → bits < 2 ^ 16 → ones bits ≡ length (levels_of bits)
ones-levels_of bits in_bits = ap ones (sym (mod-eq_of_lt in_bits)) ∙ count_below bits 16

-- a test that nothing passes makes the empty set
pub levels_where_none : (p : ℕ → Bool) → ((l : ℕ) → p l ≡ false) → levels_where p ≡ []
levels_where_none p none = filter_none 16 p none
