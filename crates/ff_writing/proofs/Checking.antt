-- The lines of the levels, one after another.
use Rattle.std.proofs.Common.{◌≡◌, ℕ, ◌+◌, suc, Bool, true, false, cond, List, [], ◌∷◌, ◌++◌, filter, flat_map, refl, sym, ap, ◌∙◌, append_assoc, append-nil, arith}
use Rattle.std.proofs.lemmas.Grind.{flat_map-append}
use Rattle.std.proofs.lemmas.List.Concat.{flat_map-cons}
use Rattle.std.proofs.lemmas.List.Elements.{filter-append}
use Rattle.ff_contract.specs.Lists.{below}
use Rattle.ff_lattice.specs.Order.{Order, size, leq, name}
use Rattle.ff_writing.specs.Checked.{level_line, check_text}

abbrev named : Order → ℕ → List ℕ
named order k = 32 ∷ name order k

suc_is : (l : ℕ) → suc l ≡ l + 1
suc_is l = omega arith

flat_map_last : (f : ℕ → List ℕ) (ns : List ℕ) (n : ℕ) → flat_map f (ns ++ n ∷ []) ≡ flat_map f ns ++ f n
flat_map_last f ns n = flat_map-append f ns (n ∷ []) ∙ ap (λ xs. flat_map f ns ++ xs) (flat_map-cons f n [] ∙ append-nil (f n))

-- Where the loops over the levels stand: the lines, or the names, of those below l.
pub record HasLines (order : Order) (text : List ℕ) (l : ℕ) : Type 0 where
  pub text_is : text ≡ flat_map (level_line order) (below l)

pub record HasNames (order : Order) (level : ℕ) (before text : List ℕ) (l : ℕ) : Type 0 where
  pub text_is : text ≡ before ++ flat_map (λ k. 32 ∷ name order k) (filter (λ k. leq order k level) (below l))

pub lines_start : (order : Order) (text : List ℕ) → text ≡ [] → HasLines order text 0
lines_start order text none = record { text_is = none }

pub lines_more : (order : Order) (text longer : List ℕ) (l : ℕ) → HasLines order text l → longer ≡ text ++ level_line order l → HasLines order longer (l + 1)
lines_more order text longer l has added =
    record { text_is = added ∙ ap (λ t. t ++ level_line order l) has.text_is ∙ sym (flat_map_last (level_line order) (below l) l) ∙ ap (λ n. flat_map (level_line order) (below n)) (suc_is l) }

pub lines_done : (order : Order) (text : List ℕ) (l : ℕ) → HasLines order text l → l ≡ size order → text ≡ check_text order
lines_done order text l has all = has.text_is ∙ ap (λ n. flat_map (level_line order) (below n)) all

pub names_start : (order : Order) (level : ℕ) (before : List ℕ) → HasNames order level before before 0
names_start order level before = record { text_is = sym (append-nil before) }

below_suc : (l : ℕ) → below (l + 1) ≡ below l ++ l ∷ []
below_suc l = ap below (sym (suc_is l))

names_after : (order : Order) (level l : ℕ) (test : Bool) → leq order l level ≡ test → flat_map (named order) (filter (λ k. leq order k level) (l ∷ [])) ≡ cond test (named order l) []
names_after order level l true is = ap (λ b. flat_map (named order) (cond b (l ∷ []) [])) is ∙ flat_map-cons (named order) l [] ∙ append-nil (named order l)
names_after order level l false is = ap (λ b. flat_map (named order) (cond b (l ∷ []) [])) is

names_split : (order : Order) (level l : ℕ) → flat_map (named order) (filter (λ k. leq order k level) (below (l + 1)))
    ≡ flat_map (named order) (filter (λ k. leq order k level) (below l)) ++ flat_map (named order) (filter (λ k. leq order k level) (l ∷ []))
names_split order level l =
    ap (λ ns. flat_map (named order) (filter (λ k. leq order k level) ns)) (below_suc l)
    ∙ ap (flat_map (named order)) (filter-append (λ k. leq order k level) (below l) (l ∷ []))
    ∙ flat_map-append (named order) (filter (λ k. leq order k level) (below l)) (filter (λ k. leq order k level) (l ∷ []))

-- the next level, which is seen or not
pub names_next : (order : Order) (level : ℕ) (before text longer : List ℕ) (l : ℕ) → HasNames order level before text l → longer ≡ text ++ cond (leq order l level) (32 ∷ name order l) [] → HasNames order level before longer (l + 1)
names_next order level before text longer l has added =
    let kept = flat_map (named order) (filter (λ k. leq order k level) (below l)) in
    let next = cond (leq order l level) (named order l) [] in
    record {
      text_is = added ∙ ap (λ t. t ++ next) has.text_is ∙ append_assoc before kept next
          ∙ ap (λ xs. before ++ (kept ++ xs)) (sym (names_after order level l (leq order l level) refl)) ∙ ap (λ xs. before ++ xs) (sym (names_split order level l));
    }

pub names_done : (order : Order) (level : ℕ) (before text : List ℕ) (l : ℕ) → HasNames order level before text l → l ≡ size order → text ≡ before ++ flat_map (λ k. 32 ∷ name order k) (filter (λ k. leq order k level) (below (size order)))
names_done order level before text l has all = has.text_is ∙ ap (λ n. before ++ flat_map (λ k. 32 ∷ name order k) (filter (λ k. leq order k level) (below n))) all
