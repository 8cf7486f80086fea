-- The cells of packed nodes: where those of the k-th node stand among all.
use Rattle.std.proofs.Common.{◌≡◌, ℕ, zero, suc, ◌*◌, ◌<◌, ◌≤◌, List, [], ◌∷◌, ◌++◌, length, get_or, take, drop, set, refl, ap, sym, ◌∙◌, arith, append_assoc, length-append}
use Rattle.ff_cow.specs.Nodes.{cells_of, IsPacked}

module _ {T V : Type 0} (cells : T → List V) (r : ℕ) where
  -- the nodes before the k-th are full
  pub length-front : (kids : List T) (k : ℕ) → IsPacked r cells kids → k < length kids → length (cells_of cells (take k kids)) ≡ k * r
  length-front kids zero p h = grind arith
  length-front [] (suc k) p h = absurd (omega arith)
  length-front (x ∷ []) (suc k) p h = absurd (omega arith)
  length-front (x ∷ y ∷ kids) (suc k) p h =
      let full : length (cells x) ≡ r = p.0 in
      let rest : length (cells_of cells (take k (y ∷ kids))) ≡ k * r = length-front (y ∷ kids) k p.1 (omega arith) in
      let apart = length-append (cells x) (cells_of cells (take k (y ∷ kids))) in
      grind arith

  pub length_at_most : (kids : List T) → IsPacked r cells kids → length (cells_of cells kids) ≤ length kids * r
  length_at_most [] p = grind arith
  length_at_most (x ∷ []) p =
      let apart = length-append (cells x) [] in
      grind arith
  length_at_most (x ∷ y ∷ kids) p =
      let full : length (cells x) ≡ r = p.0 in
      let rest = length_at_most (y ∷ kids) p.1 in
      let apart = length-append (cells x) (cells_of cells (y ∷ kids)) in
      grind arith

  -- the k-th node's cells stand behind those of the nodes before it
  pub split : (kids : List T) (k : ℕ) (d : T) → k < length kids → cells_of cells kids ≡ cells_of cells (take k kids) ++ (cells (get_or kids k d) ++ cells_of cells (drop (suc k) kids))
  split [] k d h = absurd (omega arith)
  split (x ∷ kids) zero d h = refl
  split (x ∷ kids) (suc k) d h =
      ap (λ rest. cells x ++ rest) (split kids k d (omega arith)) ∙ sym (append_assoc (cells x) _ _)

  pub split-set : (kids : List T) (k : ℕ) (x : T) → k < length kids → cells_of cells (set kids k x) ≡ cells_of cells (take k kids) ++ (cells x ++ cells_of cells (drop (suc k) kids))
  split-set [] k x h = absurd (omega arith)
  split-set (y ∷ kids) zero x h = refl
  split-set (y ∷ kids) (suc k) x h =
      ap (λ rest. cells y ++ rest) (split-set kids k x (omega arith)) ∙ sym (append_assoc (cells y) _ _)

  -- another node in a place where it does not break the row
  pub IsPacked-set : (kids : List T) (k : ℕ) (x : T) → IsPacked r cells kids → length (cells x) ≤ r → (suc k < length kids → length (cells x) ≡ r) → IsPacked r cells (set kids k x)
  IsPacked-set [] k x p small full = tt
  IsPacked-set (y ∷ []) zero x p small full = small
  IsPacked-set (y ∷ []) (suc k) x p small full = p
  IsPacked-set (y ∷ z ∷ kids) zero x p small full = (full (omega arith), p.1)
  IsPacked-set (y ∷ z ∷ []) (suc zero) x p small full = (p.0, small)
  IsPacked-set (y ∷ z ∷ []) (suc (suc k)) x p small full = p
  IsPacked-set (y ∷ z ∷ w ∷ kids) (suc zero) x p small full = (p.0, (full (omega arith), p.1.1))
  IsPacked-set (y ∷ z ∷ w ∷ kids) (suc (suc k)) x p small full =
      (p.0, IsPacked-set (z ∷ w ∷ kids) (suc k) x p.1 small (λ h. full (omega arith)))

  -- one more node where all are full
  pub IsPacked-push : (kids : List T) (x : T) → IsPacked r cells kids → length (cells_of cells kids) ≡ length kids * r → length (cells x) ≤ r → IsPacked r cells (kids ++ x ∷ [])
  IsPacked-push [] x p all small = small
  IsPacked-push (y ∷ []) x p all small =
      let apart = length-append (cells y) [] in
      let full : length (cells y) ≡ r = grind arith in
      (full, small)
  IsPacked-push (y ∷ z ∷ kids) x p all small =
      let apart = length-append (cells y) (cells_of cells (z ∷ kids)) in
      let full : length (cells y) ≡ r = p.0 in
      let rest : length (cells_of cells (z ∷ kids)) ≡ length (z ∷ kids) * r = grind arith in
      (p.0, IsPacked-push (z ∷ kids) x p.1 rest small)

  -- each node but the last is full
  pub length-kid : (kids : List T) (k : ℕ) (d : T) → IsPacked r cells kids → suc k < length kids → length (cells (get_or kids k d)) ≡ r
  length-kid [] k d p h = absurd (omega arith)
  length-kid (x ∷ []) k d p h = absurd (omega arith)
  length-kid (x ∷ y ∷ kids) zero d p h = p.0
  length-kid (x ∷ y ∷ kids) (suc k) d p h = length-kid (y ∷ kids) k d p.1 (omega arith)

  -- and none has more cells than it has room for
  pub kid_fits : (kids : List T) (k : ℕ) (d : T) → IsPacked r cells kids → k < length kids → length (cells (get_or kids k d)) ≤ r
  kid_fits [] k d p h = absurd (omega arith)
  kid_fits (x ∷ []) zero d p h = p
  kid_fits (x ∷ []) (suc k) d p h = absurd (omega arith)
  kid_fits (x ∷ y ∷ kids) zero d p h = omega (arith, p.0)
  kid_fits (x ∷ y ∷ kids) (suc k) d p h = kid_fits (y ∷ kids) k d p.1 (omega arith)

  -- a node with equal cells in place of another
  pub cells_of-set : (kids : List T) (k : ℕ) (d x : T) → k < length kids → cells x ≡ cells (get_or kids k d) → cells_of cells (set kids k x) ≡ cells_of cells kids
  cells_of-set kids k d x h same = rw (split-set kids k x h, same, ← split kids k d h) refl

  pub length_at_least : (kids : List T) (n : ℕ) → IsPacked r cells kids → length kids ≡ suc n → n * r ≤ length (cells_of cells kids)
  length_at_least [] n p e = absurd (omega arith)
  length_at_least (x ∷ []) n p e =
      let none : n ≡ 0 = omega arith in
      rw none (omega arith)
  length_at_least (x ∷ y ∷ kids) zero p e = omega arith
  length_at_least (x ∷ y ∷ kids) (suc n) p e =
      let full : length (cells x) ≡ r = p.0 in
      let rest = length_at_least (y ∷ kids) n p.1 (omega arith) in
      let apart = length-append (cells x) (cells_of cells (y ∷ kids)) in
      grind arith
