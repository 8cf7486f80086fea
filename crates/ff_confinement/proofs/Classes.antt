-- Classes of levels: how they part, and their leaders.
use Rattle.std.proofs.Common.{◌≡◌, ℕ, ◌<◌, ◌≤◌, Bool, true, ◌==◌, Option, Some, None, List, length, refl, sym, ap, ◌∙◌, arith, ◌⊎◌, inl, inr, true≢false}
use Rattle.std.specs.Bool.{Decides}
use Rattle.std.specs.Option.{option_eq}
use Rattle.std.proofs.lemmas.Bool.{and_parts, and_from, eqb-true, eq-eqb, cases_lt}
use Rattle.ff_confinement.specs.Worlds.{leader, offer, keep_together, new_leader, split, AreLeaders}
use Rattle.ff_confinement.proofs.Below.{length-each, get_or-each, first_within, first_fails, first_passes}

-- the test is true exactly where the inputs are equal
abbrev pub IsSame : {I : Type 0} → (I → I → Bool) → Type 0
IsSame {I} same = (a b : I) → Decides (same a b) (a ≡ b)

module _ {I : Type 0} (same : I → I → Bool) (decides : IsSame same) where
  pub option_same : (a b : Option I) → option_eq same a b ≡ true → a ≡ b
  option_same None None e = refl
  option_same None (Some y) e = cc
  option_same (Some x) None e = cc
  option_same (Some x) (Some y) e = ap Some ((decides x y).0 e)

  pub option_itself : (a : Option I) → option_eq same a a ≡ true
  option_itself None = refl
  option_itself (Some x) = (decides x x).1 refl

  pub option_equal : (a b : Option I) → a ≡ b → option_eq same a b ≡ true
  option_equal a b e = ap (λ c. option_eq same c b) e ∙ option_itself b

  module _ (leaders : List ℕ) (offers : List (Option I)) where
    -- what keeping together means
    pub together_parts : (k l : ℕ) → keep_together same leaders offers k l ≡ true → (leader leaders k ≡ leader leaders l) × (offer offers k ≡ offer offers l)
    together_parts k l e =
        let parts = and_parts (leader leaders k == leader leaders l) (option_eq same (offer offers k) (offer offers l)) e in
        (eqb-true (leader leaders k) (leader leaders l) parts.0, option_same (offer offers k) (offer offers l) parts.1)

    pub together : (k l : ℕ) → leader leaders k ≡ leader leaders l → offer offers k ≡ offer offers l → keep_together same leaders offers k l ≡ true
    together k l e f =
        and_from (leader leaders k == leader leaders l) (option_eq same (offer offers k) (offer offers l)) (eq-eqb (leader leaders k) (leader leaders l) e) (option_equal (offer offers k) (offer offers l) f)

    abbrev nl : ℕ → ℕ
    nl l = new_leader same leaders offers l

    pub new_leader_within : (l : ℕ) → nl l ≤ l
    new_leader_within l = first_within (λ k. keep_together same leaders offers k l) l

    -- a level keeps with its new leader
    pub new_leader_together : (l : ℕ) → keep_together same leaders offers (nl l) l ≡ true
    new_leader_together l = from (cases_lt (nl l) l)
      where
        from : (nl l < l) ⊎ (l ≤ nl l) → keep_together same leaders offers (nl l) l ≡ true
        from (inl less) = first_passes (λ k. keep_together same leaders offers k l) l less
        from (inr more) =
            let within = new_leader_within l in
            let e : nl l ≡ l = omega arith in
            together (nl l) l (ap (leader leaders) e) (ap (offer offers) e)

    -- it is the least that does
    pub new_leader_least : (k l : ℕ) → keep_together same leaders offers k l ≡ true → nl l ≤ k
    new_leader_least k l e = from (cases_lt k (nl l))
      where
        from : (k < nl l) ⊎ (nl l ≤ k) → nl l ≤ k
        from (inl less) = absurd (true≢false (sym e ∙ first_fails (λ j. keep_together same leaders offers j l) l k less))
        from (inr more) = more

    -- levels have one new leader exactly where they keep together
    pub new_leader_same : (k l : ℕ) → keep_together same leaders offers k l ≡ true → nl k ≡ nl l
    new_leader_same k l e =
        let parts = together_parts k l e in
        let up = together_parts (nl k) k (new_leader_together k) in
        let down = together_parts (nl l) l (new_leader_together l) in
        let a = new_leader_least (nl k) l (together (nl k) l (up.0 ∙ parts.0) (up.1 ∙ parts.1)) in
        let b = new_leader_least (nl l) k (together (nl l) k (down.0 ∙ sym parts.0) (down.1 ∙ sym parts.1)) in
        omega arith

    pub new_leader_apart : (k l : ℕ) → nl k ≡ nl l → keep_together same leaders offers k l ≡ true
    new_leader_apart k l e =
        let up = together_parts (nl k) k (new_leader_together k) in
        let down = together_parts (nl l) l (new_leader_together l) in
        together k l (sym up.0 ∙ ap (leader leaders) e ∙ down.0) (sym up.1 ∙ ap (offer offers) e ∙ down.1)

    pub new_leader_itself : (l : ℕ) → nl (nl l) ≡ nl l
    new_leader_itself l = new_leader_same (nl l) l (new_leader_together l)

    pub leader-split : (l : ℕ) → l < length leaders → leader (split same leaders offers) l ≡ nl l
    unfolding split
    leader-split l lt = get_or-each nl (length leaders) l 0 lt

    pub length-split : length (split same leaders offers) ≡ length leaders
    unfolding split
    length-split = length-each nl (length leaders)

    pub split_leads : AreLeaders (split same leaders offers)
    split_leads = record {
      before = λ l lt. let at = leader-split l (within l lt) in let less = new_leader_within l in omega (arith, at, less);
      itself = λ l lt.
          let at = leader-split l (within l lt) in
          let less = new_leader_within l in
          let in' = within l lt in
          ap (leader (split same leaders offers)) at
          ∙ leader-split (nl l) (omega arith)
          ∙ new_leader_itself l
          ∙ sym at;
    }
      where
        within : (l : ℕ) → l < length (split same leaders offers) → l < length leaders
        within l lt = let e = length-split in omega (arith, e)

-- a leader is the least of its class
pub leads_least : (leaders : List ℕ) → AreLeaders leaders → (k l : ℕ) → k < length leaders → l < length leaders → leader leaders k ≡ l → l ≤ k
leads_least leaders led k l in_k in_l e = let a = led.before k in_k in omega (arith, a, e)
