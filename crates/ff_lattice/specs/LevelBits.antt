-- The bits that a set of levels is kept as, and that they give the set back.
use Rattle.std.specs.Prelude.{◌≡◌, ℕ, ◌==◌, ◌<◌, ◌^◌, zero, suc, Bool, true, false, ◌&&◌, ◌||◌, List, [], ◌∷◌, ◌++◌, filter, bit_or}
use Rattle.std.specs.Int.{bit_at}
use Rattle.std.proofs.Common.{◌≤◌, inl, inr, refl, sym, ◌∙◌, ap, subst, arith, ltb, max, cond}
use Rattle.std.proofs.lemmas.Bool.{cases_eq, le-ltb, eq-eqb, ne_eqb, eqb-true}
use Rattle.std.proofs.lemmas.Nat.Bits.{bit_at_or, bit_at-zero, bit_at-lt, bit_at-pow_same, bit_at-pow_other, bit_at_above, same_from_bits}
use Rattle.std.proofs.lemmas.Bool.Decides.{nat_tests}
use Rattle.ff_lattice.specs.LevelSet.{has, levels_where, below}

-- the levels whose bits are set
abbrev pub levels_of : ℕ → List ℕ
levels_of bits = levels_where (λ l. bit_at bits l == 1)

-- the bits of the levels
abbrev pub bits_of : List ℕ → ℕ
bits_of [] = 0
bits_of (l ∷ ls) = bit_or (2 ^ l) (bits_of ls)

pub has-append : (xs ys : List ℕ) (l : ℕ) → has (xs ++ ys) l ≡ (has xs l || has ys l)
has-append [] ys l = refl
has-append (x ∷ xs) ys l = elim (x == l) as (λ b. (b || has (xs ++ ys) l) ≡ ((b || has xs l) || has ys l)) [ true ↦ refl | false ↦ has-append xs ys l ]

has-cond : (b : Bool) (xs ys : List ℕ) (l : ℕ) → has (cond b xs ys) l ≡ cond b (has xs l) (has ys l)
has-cond true xs ys l = refl
has-cond false xs ys l = refl

and-false : (h : Bool) → (h && false) ≡ false
and-false true = refl
and-false false = refl

same_cond : (b r : Bool) → cond b r r ≡ r
same_cond true r = refl
same_cond false r = refl

passes_or_not : (h p : Bool) → cond p true (h && p) ≡ p
passes_or_not h true = refl
passes_or_not h false = and-false h

head_passes : (px e h pl : Bool) → (e ≡ true → px ≡ pl) → cond px (e || (h && pl)) (h && pl) ≡ ((e || h) && pl)
head_passes px true h pl same = ap (λ b. cond b true (h && pl)) (same refl) ∙ passes_or_not h pl
head_passes px false h pl same = same_cond px (h && pl)

pub has-filter : (p : ℕ → Bool) (xs : List ℕ) (l : ℕ) → has (filter p xs) l ≡ (has xs l && p l)
has-filter p [] l = refl
has-filter p (x ∷ xs) l =
    has-cond (p x) (x ∷ filter p xs) (filter p xs) l
    ∙ ap (λ r. cond (p x) ((x == l) || r) r) (has-filter p xs l)
    ∙ head_passes (p x) (x == l) (has xs l) (p l) (λ e. ap p (eqb-true x l e))

below_next : (l n : ℕ) → (ltb l n || ((n == l) || false)) ≡ ltb l (suc n)
below_next l n = grind (arith, nat_tests)

pub has-below : (n l : ℕ) → has (below n) l ≡ ltb l n
unfolding below
has-below zero l = sym (le-ltb l 0 (omega arith))
has-below (suc n) l = has-append (below n) (n ∷ []) l ∙ ap (λ b. b || ((n == l) || false)) (has-below n l) ∙ below_next l n

-- a set made by a test holds the levels below 16 that pass it
pub has-levels_where : (p : ℕ → Bool) (l : ℕ) → has (levels_where p) l ≡ (ltb l 16 && p l)
has-levels_where p l = has-filter p (below 16) l ∙ ap (λ b. b && p l) (has-below 16 l)

max_one : (b : Bool) → max 1 (cond b 1 0) ≡ 1
max_one true = refl
max_one false = refl

max_zero : (b : Bool) → max 0 (cond b 1 0) ≡ cond b 1 0
max_zero true = refl
max_zero false = refl

bit_here : (x i : ℕ) → x ≡ i → bit_at (2 ^ x) i ≡ 1
bit_here x i e = subst (λ (k : ℕ). bit_at (2 ^ x) k ≡ 1) e (bit_at-pow_same x)

bits_or : (x i rest : ℕ) (h : Bool) → bit_at rest i ≡ cond h 1 0 → bit_at (bit_or (2 ^ x) rest) i ≡ cond ((x == i) || h) 1 0
bits_or x i rest h is =
    bit_at_or (2 ^ x) rest i ∙ ap (λ b. max (bit_at (2 ^ x) i) b) is
    ∙ (elim (cases_eq x i) as (λ _. max (bit_at (2 ^ x) i) (cond h 1 0) ≡ cond ((x == i) || h) 1 0) [
      | inl e ↦ ap (λ b. max b (cond h 1 0)) (bit_here x i e) ∙ max_one h ∙ sym (ap (λ b. cond (b || h) 1 0) (eq-eqb x i e))
      | inr ne ↦ ap (λ b. max b (cond h 1 0)) (bit_at-pow_other x i (λ e. ne (sym e))) ∙ max_zero h ∙ sym (ap (λ b. cond (b || h) 1 0) (ne_eqb x i ne))
    ])

pub bit_at-bits_of : (xs : List ℕ) (i : ℕ) → bit_at (bits_of xs) i ≡ cond (has xs i) 1 0
bit_at-bits_of [] i = bit_at-zero i
bit_at-bits_of (x ∷ xs) i = bits_or x i (bits_of xs) (has xs i) (bit_at-bits_of xs i)

bit_kept : (b i : ℕ) → b < 2 → (16 ≤ i → b ≡ 0) → cond (ltb i 16 && (b == 1)) 1 0 ≡ b
bit_kept b i small high = grind (arith, nat_tests)

pub bits_of-levels_of : (n : ℕ) → n < 2 ^ 16 → bits_of (levels_of n) ≡ n
bits_of-levels_of n h =
    same_from_bits (bits_of (levels_of n)) n (λ i.
    bit_at-bits_of (levels_of n) i
    ∙ ap (λ b. cond b 1 0) (has-levels_where (λ l. bit_at n l == 1) i)
    ∙ bit_kept (bit_at n i) i (bit_at-lt n i) (λ far. bit_at_above n 16 i h far))
