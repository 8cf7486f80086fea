-- The levels of a policy fit a multi-executed run.
use Rattle.std.proofs.Common.{◌≡◌, ◌≢◌, ◌⊎◌, inl, inr, ℕ, suc, ◌+◌, ◌<◌, List, [], ◌∷◌, ◌++◌, map, Bool, true, false, cond, Option, Some, None, refl, sym, ap, subst, ◌∙◌, arith}
use Rattle.std.specs.Option.{option_and_then}
use Rattle.std.proofs.lemmas.Bool.{true≢false}
use Rattle.std.proofs.lemmas.List.{map-append}
use Rattle.std.proofs.lemmas.List.Elements.{All-from_get_or}
use Rattle.ff_contract.specs.Lists.{below}
use Rattle.ff_confinement.specs.Laws.{IsWord}
use Rattle.ff_lattice.specs.Order.{size, leq, name}
use Rattle.ff_lattice.proofs.Callers.{name_graphic}
use Rattle.ff_value.specs.declared.input.Input.{Input}
use Rattle.ff_value.specs.declared.offers.Offer.{Offer}
use Rattle.ff_value.specs.Offers.{offered, all_offered}
use Rattle.ff_value.specs.declared.output.Out.{Out}
use Rattle.ff_value.specs.Spelled.{IsWellSpelledInput}
use Rattle.ff_policy.specs.Assignment.{Assignment, IsAssignment, presence, content, level_out}
use Rattle.ff_policy.proofs.Within.{level_out_within}
use Rattle.ff_route.specs.Route.{IsTagged, mask, sees}
use Rattle.ff_route.proofs.Masks.{masked_twice, same_presence, same_content, masked_spelled}

some_or : Input → Option Input → Input
some_or i None = i
some_or i (Some j) = j

some_same : (x i : Input) → Some x ≡ Some i → x ≡ i
unfolding some_or
some_same x i e = ap (some_or x) e

module _ (policy : Assignment) where
  -- what is seen of an input is the input or the masked one
  pub sees_whole_or_masked : (l : ℕ) (i x : Input) → sees policy l i ≡ Some x → (x ≡ i) ⊎ (x ≡ mask i)
  unfolding sees
  sees_whole_or_masked l i x seen = go (leq policy.order (content policy i) l) (leq policy.order (presence policy i) l) seen
    where
      go : (c p : Bool) → cond c (Some i) (cond p (Some (mask i)) None) ≡ Some x → (x ≡ i) ⊎ (x ≡ mask i)
      go true p e = inl (some_same x i (sym e))
      go false true e = inr (some_same x (mask i) (sym e))
      go false false e = absurd (let no : None ≡ Some x = e in cc)

  -- so whatever holds of the input and stays when it is masked holds of what is seen of it
  pub sees_ok : (InputOk : Input → Type 0) → ((i : Input) → InputOk i → InputOk (mask i)) → (l : ℕ) (i x : Input) → InputOk i → sees policy l i ≡ Some x → InputOk x
  sees_ok InputOk stays l i x input seen =
      elim (sees_whole_or_masked l i x seen) as (λ _. InputOk x) [
        | inl whole ↦ subst InputOk (sym whole) input
        | inr masked ↦ subst InputOk (sym masked) (stays i input)
      ]

  pub sees_tagged : (l : ℕ) (i x : Input) → IsTagged policy.order i → sees policy l i ≡ Some x → IsTagged policy.order x
  sees_tagged l i x tagged seen = sees_ok (IsTagged policy.order) (λ j is. is) l i x tagged seen

  pub sees_spelled : (l : ℕ) (i x : Input) → IsWellSpelledInput i → sees policy l i ≡ Some x → IsWellSpelledInput x
  sees_spelled l i x spelled seen = sees_ok IsWellSpelledInput masked_spelled l i x spelled seen

  -- what is not at or below a level is not at or below a lower one
  still_above : (k l level : ℕ) → IsAssignment policy → leq policy.order k l ≡ true → leq policy.order level l ≡ false → leq policy.order level k ≡ false
  still_above k l level valid ordered high = go (leq policy.order level k) refl
    where
      go : (b : Bool) → leq policy.order level k ≡ b → leq policy.order level k ≡ false
      go true low = absurd (true≢false (sym (valid.draft.order_is.transitive level k l low ordered) ∙ high))
      go false low = low

  -- what a level sees of an input whose levels compare so
  seen_by : (l : ℕ) (i : Input) (c p : Bool) → leq policy.order (content policy i) l ≡ c → leq policy.order (presence policy i) l ≡ p → sees policy l i ≡ cond c (Some i) (cond p (Some (mask i)) None)
  unfolding sees
  seen_by l i c p is_c is_p = ap (λ b. cond b (Some i) (cond (leq policy.order (presence policy i) l) (Some (mask i)) None)) is_c ∙ ap (λ b. cond c (Some i) (cond b (Some (mask i)) None)) is_p

  -- a level that sees no more than the masked input sees of it what it sees of the input
  masked_seen : (k : ℕ) (i : Input) → leq policy.order (content policy i) k ≡ false → sees policy k i ≡ sees policy k (mask i)
  masked_seen k i high =
      let b = leq policy.order (presence policy i) k in
      seen_by k i false b high refl
      ∙ ap (λ (m : Input). cond b (Some m) None) (sym (masked_twice i))
      ∙ sym (seen_by k (mask i) false b (ap (λ (n : ℕ). leq policy.order n k) (same_content policy i) ∙ high) (ap (λ (n : ℕ). leq policy.order n k) (same_presence policy i)))

  -- what a lower level sees of an input is what it sees of that which a higher level sees of it
  pub sees_below : (k l : ℕ) (i : Input) → IsAssignment policy → leq policy.order k l ≡ true → sees policy k i ≡ option_and_then (sees policy k) (sees policy l i)
  sees_below k l i valid ordered = go (leq policy.order (content policy i) l) (leq policy.order (presence policy i) l) refl refl
    where
      go : (c p : Bool) → leq policy.order (content policy i) l ≡ c → leq policy.order (presence policy i) l ≡ p → sees policy k i ≡ option_and_then (sees policy k) (sees policy l i)
      go true p is_c is_p = sym (ap (option_and_then (sees policy k)) (seen_by l i true p is_c is_p))
      go false true is_c is_p =
          masked_seen k i (still_above k l (content policy i) valid ordered is_c)
          ∙ sym (ap (option_and_then (sees policy k)) (seen_by l i false true is_c is_p))
      go false false is_c is_p =
          seen_by k i false false (still_above k l (content policy i) valid ordered is_c) (still_above k l (presence policy i) valid ordered is_p)
          ∙ sym (ap (option_and_then (sees policy k)) (seen_by l i false false is_c is_p))

  -- an output has a level
  pub level_ok : (o : Out) → IsAssignment policy → level_out policy o < size policy.order
  level_ok o valid = level_out_within policy o valid

  -- a level's name has no blank and no newline
  pub name_ok : (l : ℕ) → IsAssignment policy → l < size policy.order → IsWord (name policy.order l)
  name_ok l valid within =
      All-from_get_or (λ b. (b ≢ 32) × (b ≢ 10)) (name policy.order l) 0 (λ k less.
      let graphic = name_graphic (name policy.order l) (valid.draft.order_is.named l within) k less in
      ((λ blank. omega (arith, graphic.0, blank)), (λ newline. omega (arith, graphic.0, newline))))

  -- and no other level has it
  pub names_differ : (k l : ℕ) → IsAssignment policy → k < size policy.order → l < size policy.order → name policy.order k ≡ name policy.order l → k ≡ l
  names_differ k l valid k_is l_is same = valid.draft.order_is.apart k l k_is l_is same

  -- one offer more
  pub offers_more : (i : Input) (so_far : List Offer) (n : ℕ) (one : Offer) → all_offered i so_far ≡ map (λ l. sees policy l i) (below n) → offered i one ≡ sees policy n i
      → all_offered i (so_far ++ one ∷ []) ≡ map (λ l. sees policy l i) (below (n + 1))
  offers_more i so_far n one is seen = map-append (offered i) so_far (one ∷ []) ∙ ap (λ os. os ++ offered i one ∷ []) is ∙ ap (λ o. map (λ l. sees policy l i) (below n) ++ o ∷ []) seen
      ∙ sym (map-append (λ l. sees policy l i) (below n) (n ∷ []))
      ∙ ap (λ m. map (λ l. sees policy l i) (below m)) (let next : suc n ≡ n + 1 = omega arith in next)
