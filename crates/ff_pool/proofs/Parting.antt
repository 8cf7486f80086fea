-- How classes part, level by level.
use Rattle.std.proofs.Common.{◌≡◌, ℕ, ◌+◌, ◌<◌, ◌≤◌, true, false, Option, List, [], ◌∷◌, ◌++◌, length, refl, sym, ap, ◌∙◌, arith}
use Rattle.std.proofs.lemmas.List.{get_or_default}
use Rattle.ff_shared.specs.Content.{same_content-Decides}
use Rattle.ff_value.specs.declared.input.Input.{Input}
use Rattle.ff_value.specs.contracts.input.Input as input
use Rattle.ff_confinement.specs.Worlds.{leader, keep_together, new_leader, split, each, AreLeaders}
use Rattle.ff_confinement.proofs.Below.{each_is, each_more, first_is, get_or-each}
use Rattle.ff_confinement.proofs.Classes.{IsSame, new_leader_within, new_leader_together, new_leader_least, together_parts}
use Rattle.ff_value.specs.Same.{same_input}

-- the test of inputs is true exactly where they are equal
pub same_input_decides : IsSame same_input
unfolding same_input
same_input_decides a b = same_content-Decides input.the_row.coded a b

-- the leaders so far
abbrev pub leaders_below : List ℕ → List (Option Input) → ℕ → List ℕ
leaders_below leaders offers n = each (new_leader same_input leaders offers) n

pub split_more : (leaders : List ℕ) (offers : List (Option Input)) (new : List ℕ) (l : ℕ) → new ≡ leaders_below leaders offers l → new ++ new_leader same_input leaders offers l ∷ [] ≡ leaders_below leaders offers (l + 1)
split_more leaders offers new l e = ap (λ xs. xs ++ new_leader same_input leaders offers l ∷ []) e ∙ sym (each_more (new_leader same_input leaders offers) l)

pub split_done : (leaders : List ℕ) (offers : List (Option Input)) (new : List ℕ) (l : ℕ) → new ≡ leaders_below leaders offers l → l ≡ length leaders → new ≡ split same_input leaders offers
unfolding split
split_done leaders offers new l e all = e ∙ ap (leaders_below leaders offers) all

-- the first level that keeps with this one
pub leader_found : (leaders : List ℕ) (offers : List (Option Input)) (k l : ℕ) → k ≤ l → ((j : ℕ) → j < k → keep_together same_input leaders offers j l ≡ false) → (k < l → keep_together same_input leaders offers k l ≡ true) → k ≡ new_leader same_input leaders offers l
leader_found leaders offers k l within fails passes = sym (first_is (λ j. keep_together same_input leaders offers j l) l k within fails passes)

-- where the levels of each class are offered the same, no class parts
pub unparted : (leaders : List ℕ) (offers : List (Option Input)) → AreLeaders leaders → ((l : ℕ) → l < length leaders → keep_together same_input leaders offers (leader leaders l) l ≡ true) → split same_input leaders offers ≡ leaders
unfolding split
unparted leaders offers led together = sym (each_is (new_leader same_input leaders offers) leaders (length leaders) refl (λ l d lt. get_or_default leaders l d 0 lt ∙ leads l lt))
  where
    leads : (l : ℕ) → l < length leaders → leader leaders l ≡ new_leader same_input leaders offers l
    leads l lt =
        let new = new_leader same_input leaders offers l in
        let within = new_leader_within same_input same_input_decides leaders offers l in
        let least = new_leader_least same_input same_input_decides leaders offers (leader leaders l) l (together l lt) in
        let of_class : leader leaders new ≡ leader leaders l = (together_parts same_input same_input_decides leaders offers new l (new_leader_together same_input same_input_decides leaders offers l)).0 in
        let before : leader leaders new ≤ new = led.before new (omega (arith, within, lt)) in
        omega (arith, least, of_class, before)

-- where no class parts, each level is offered the same as its leader
pub kept : (leaders : List ℕ) (offers : List (Option Input)) → split same_input leaders offers ≡ leaders → (l : ℕ) → l < length leaders → keep_together same_input leaders offers (leader leaders l) l ≡ true
unfolding split
kept leaders offers same l lt =
    ap (λ k. keep_together same_input leaders offers k l) (ap (λ ls. leader ls l) (sym same) ∙ get_or-each (new_leader same_input leaders offers) (length leaders) l 0 lt)
    ∙ new_leader_together same_input same_input_decides leaders offers l
