-- The lines of each level, counted one after another.
use Rattle.std.proofs.Common.{◌≡◌, ℕ, suc, ◌+◌, ◌≤◌, List, [], ◌∷◌, ◌++◌, length, flat_map, codes, sym, ap, ◌∙◌, append_assoc, append-nil, arith}
use Rattle.std.proofs.lemmas.Grind.{flat_map-append}
use Rattle.std.proofs.lemmas.List.Concat.{flat_map-cons}
use Rattle.ff_confinement.specs.Runs.{joined}
use Rattle.ff_contract.specs.Lists.{below}
use Rattle.ff_number.specs.Decimal.{nat_text}
use Rattle.ff_lattice.specs.Order.{Order, size}
use Rattle.ff_session.specs.OwnLines.{own_lines}
use Rattle.ff_writing.specs.Generated.{tally_line, summary}

-- Where the loop over the lines stands: those of the rest are still to be counted.
pub record HasCounted (word text rest : List ℕ) (counted bytes : ℕ) : Type 0 where
  pub lines_are : counted + length (own_lines word rest) ≡ length (own_lines word text)
  pub bytes_are : bytes + length (joined (own_lines word rest)) ≡ length (joined (own_lines word text))
  pub few_lines : counted + length rest ≤ length text
  pub few_bytes : bytes + length rest ≤ length text

-- ---- the lines of the levels

-- Where the loop over the levels stands: the lines of those below l.
pub record HasTallies (order : Order) (inputs : ℕ) (text before now : List ℕ) (l : ℕ) : Type 0 where
  pub text_is : now ≡ before ++ (codes "inputs " ++ (nat_text inputs ++ (10 ∷ flat_map (tally_line order text) (below l))))

pub sum_start : (order : Order) (inputs : ℕ) (text before a b now : List ℕ) → a ≡ before ++ codes "inputs " → b ≡ a ++ nat_text inputs → now ≡ b ++ 10 ∷ [] → HasTallies order inputs text before now 0
sum_start order inputs text before a b now first second third = record {
  text_is =
      third ∙ ap (λ bs. bs ++ 10 ∷ []) (second ∙ ap (λ bs. bs ++ nat_text inputs) first ∙ append_assoc before (codes "inputs ") (nat_text inputs))
      ∙ append_assoc before (codes "inputs " ++ nat_text inputs) (10 ∷ [])
      ∙ ap (λ bs. before ++ bs) (append_assoc (codes "inputs ") (nat_text inputs) (10 ∷ []));
}

flat_map_last : (f : ℕ → List ℕ) (ns : List ℕ) (n : ℕ) → flat_map f (ns ++ n ∷ []) ≡ flat_map f ns ++ f n
flat_map_last f ns n = flat_map-append f ns (n ∷ []) ∙ ap (λ xs. flat_map f ns ++ xs) (flat_map-cons f n [] ∙ append-nil (f n))

pub sum_more : (order : Order) (inputs : ℕ) (text before now longer : List ℕ) (l : ℕ) → HasTallies order inputs text before now l → longer ≡ now ++ tally_line order text l → HasTallies order inputs text before longer (l + 1)
sum_more order inputs text before now longer l has added =
    let one : suc l ≡ l + 1 = omega arith in
    let so_far = flat_map (tally_line order text) (below l) in
    let next = tally_line order text l in
    record {
      text_is =
          added ∙ ap (λ t. t ++ next) has.text_is
          ∙ append_assoc before (codes "inputs " ++ (nat_text inputs ++ (10 ∷ so_far))) next
          ∙ ap (λ bs. before ++ bs) (append_assoc (codes "inputs ") (nat_text inputs ++ (10 ∷ so_far)) next ∙ ap (λ bs. codes "inputs " ++ bs) (append_assoc (nat_text inputs) (10 ∷ so_far) next))
          ∙ ap (λ bs. before ++ (codes "inputs " ++ (nat_text inputs ++ (10 ∷ bs)))) (sym (flat_map_last (tally_line order text) (below l) l) ∙ ap (λ n. flat_map (tally_line order text) (below n)) one);
    }

pub sum_done : (order : Order) (inputs : ℕ) (text before now : List ℕ) (l : ℕ) → HasTallies order inputs text before now l → l ≡ size order → now ≡ before ++ summary order inputs text
sum_done order inputs text before now l has all = has.text_is ∙ ap (λ n. before ++ (codes "inputs " ++ (nat_text inputs ++ (10 ∷ flat_map (tally_line order text) (below n))))) all
