-- The parents that lists of children give, one child after another; and where records have no valid
-- nodes.
use Rattle.std.proofs.Common.{◌≡◌, ◌≢◌, ℕ, suc, ◌+◌, ◌<◌, ◌≤◌, ◌⊎◌, inl, inr, ⊎_elim, ◌==◌, Bool, true, false, cond, Option, Some, None, IsSome, is_some, List, [], ◌∷◌, All, count_by, take, length, get_or, set, refl, sym, ap, subst, ◌∙◌, arith, length-set}
use Rattle.std.proofs.Math.ListN.{get_or-map}
use Rattle.std.proofs.lemmas.Bool.{cases_lt, eqb-true, eq-eqb}
use Rattle.std.proofs.lemmas.List.{get_or-set_same, get_or-set_other, length-map, take_all}
use Rattle.std.proofs.lemmas.List.Elements.{All-more, All-head, All-tail}
use Rattle.std.proofs.lemmas.List.Sums.{sum_by-cons, sum_by-take-drop, count_by_more_no, count_by_more_yes}
use Rattle.ff_value.specs.declared.ids.NodeId.{NodeId}
use Rattle.ff_machine.specs.Shapes.{page_of}
use Rattle.ff_machine.specs.Nodes.{Node, no_node, node_at, children, parent}
use Rattle.ff_machine.specs.Alone.{AreNodes, IsNode}
use Rattle.ff_records.specs.Records.{node_rec, node_recs}
use Rattle.ff_records.specs.declared.records.NodeRec.{NodeRec}
use Rattle.ff_nodes.specs.Recorded.{rec_at, kids, parent_at, IsChild, AreParents}

pub same_id : (p q : NodeId) → p.0 ≡ q.0 → p ≡ q
same_id p q e = ap (λ k. let m : NodeId = record { 0 = k } in m) e

none_some : {A : Type 0} {x : A} → None ≡ Some x → ⊥
none_some e = cc

some_some : (p q : NodeId) → Some p ≡ Some q → p ≡ q
some_some p q e = cc

pub some_is : {A : Type 0} (o : Option A) → is_some o ≡ true → (x : A) × (o ≡ Some x)
some_is None e = cc
some_is (Some x) e = (x, refl)

pub none_is : {A : Type 0} (o : Option A) → is_some o ≡ false → o ≡ None
none_is None e = refl
none_is (Some x) e = cc

-- How often a number stands in a list.

abbrev pub times : ℕ → List NodeId → ℕ
times k cs = count_by (λ c. c.0 == k) cs

times_cons : (k : ℕ) (c : NodeId) (cs : List NodeId) → times k (c ∷ cs) ≡ cond (c.0 == k) 1 0 + times k cs
times_cons k c cs = sum_by-cons (λ (d : NodeId). cond (d.0 == k) 1 0) c cs

times_none : (k : ℕ) (cs : List NodeId) → All (λ c. c.0 ≢ k) cs → times k cs ≡ 0
times_none k [] others = refl
times_none k (c ∷ cs) others = by (c.0 == k) refl (times_none k cs (All-tail (λ (d : NodeId). d.0 ≢ k) c cs others)) where
  by : (b : Bool) → (c.0 == k) ≡ b → times k cs ≡ 0 → times k (c ∷ cs) ≡ 0
  by true e rest = absurd (All-head (λ (d : NodeId). d.0 ≢ k) c cs others (eqb-true c.0 k e))
  by false e rest = times_cons k c cs ∙ ap (λ b. cond b 1 0 + times k cs) e ∙ omega (arith, rest)

-- what holds of all holds of one that is counted
pub counted : (P : NodeId → Type 0) (k : NodeId) (cs : List NodeId) → All P cs → times k.0 cs ≡ 1 → P k
counted P k [] all e = absurd (omega (arith, e))
counted P k (c ∷ cs) all e = by (c.0 == k.0) refl (counted P k cs (All-tail P c cs all)) where
  by : (b : Bool) → (c.0 == k.0) ≡ b → (times k.0 cs ≡ 1 → P k) → P k
  by true t rest = subst P (same_id c k (eqb-true c.0 k.0 t)) (All-head P c cs all)
  by false t rest = rest (let none : cond {A = ℕ} (c.0 == k.0) 1 0 ≡ 0 = ap (λ b. cond b 1 0) t in omega (arith, times_cons k.0 c cs, none, e))

-- Lists of children, one child after another.

module _ (recs : List NodeRec) (n : NodeId) where
  -- so many children of the list of n were given their parent
  pub record IsAdopting (j : ℕ) (ps : List (Option NodeId)) : Type 0 where
    pub count : length ps ≡ length recs
    pub sound : (k : ℕ) (p : NodeId) → parent_at ps k ≡ Some p → ((p.0 < n.0) × (times k (kids recs p) ≡ 1)) ⊎ ((p ≡ n) × (times k (take j (kids recs n)) ≡ 1))
    pub kept : (p : NodeId) → p.0 < n.0 → All (IsChild recs ps p) (kids recs p)
    pub here : All (IsChild recs ps n) (take j (kids recs n))

  pub begun : (ps : List (Option NodeId)) → AreParents recs n.0 ps → IsAdopting 0 ps
  begun ps are = record { count = are.count; sound = λ k p e. inl (are.sound k p e); kept = are.kept; here = λ k d less. absurd (omega (arith, less)) }

  pub ended : (j : ℕ) (ps : List (Option NodeId)) → IsAdopting j ps → length (kids recs n) ≤ j → AreParents recs (suc n.0) ps
  ended j ps are past =
      let all = take_all j (kids recs n) past in
      record {
        count = are.count;
        sound = λ k p e. ⊎_elim
            (λ h. (omega (arith, h.0), h.1))
            (λ h. (omega (arith, ap (λ (q : NodeId). q.0) h.0), subst (λ q. times k (kids recs q) ≡ 1) (sym h.0) (subst (λ (cs : List NodeId). times k cs ≡ 1) all h.1)))
            (are.sound k p e);
        kept = λ p less. ⊎_elim
            (λ below. are.kept p below)
            (λ past. let same = same_id n p (omega (arith, less, past)) in subst (λ q. All (IsChild recs ps q) (kids recs q)) same (subst (All (IsChild recs ps n)) all are.here))
            (cases_lt p.0 n.0);
      }

  module _ (j : ℕ) (ps : List (Option NodeId)) (are : IsAdopting j ps) (x d : NodeId) (within : j < length (kids recs n)) (is : x ≡ get_or (kids recs n) j d) where
    module _ (there : x.0 < length recs) (no_page : page_of (rec_at recs x).shape ≡ None) (none : parent_at ps x.0 ≡ None) where
      new : List (Option NodeId)
      new = set ps x.0 (Some n)

      its : parent_at new x.0 ≡ Some n
      unfolding new
      its = get_or-set_same ps x.0 (Some n) None (omega (arith, there, are.count))

      others : (k : ℕ) → k ≢ x.0 → parent_at new k ≡ parent_at ps k
      unfolding new
      others k other = get_or-set_other ps x.0 k (Some n) None other

      still : (p c : NodeId) → IsChild recs ps p c → IsChild recs new p c
      still p c child =
          let other : c.0 ≢ x.0 = λ e. none_some (sym none ∙ ap (parent_at ps) (sym e) ∙ child.is) in
          record { there = child.there; no_page = child.no_page; is = others c.0 other ∙ child.is }

      apart : times x.0 (take j (kids recs n)) ≡ 0
      apart = times_none x.0 (take j (kids recs n)) (λ k e less same. none_some (sym none ∙ ap (parent_at ps) (sym same) ∙ (are.here k e less).is))

      counts_here : times x.0 (take (j + 1) (kids recs n)) ≡ 1
      counts_here =
          let yes : ((get_or (kids recs n) j d).0 == x.0) ≡ true = eq-eqb _ _ (ap (λ (c : NodeId). c.0) (sym is)) in
          count_by_more_yes (λ (c : NodeId). c.0 == x.0) (kids recs n) j d within yes ∙ omega (arith, apart)

      counts_there : (k : ℕ) → k ≢ x.0 → times k (take (j + 1) (kids recs n)) ≡ times k (take j (kids recs n))
      counts_there k other = count_by_more_no (λ (c : NodeId). c.0 == k) (kids recs n) j d within (no ((get_or (kids recs n) j d).0 == k) refl) where
        no : (b : Bool) → ((get_or (kids recs n) j d).0 == k) ≡ b → b ≡ false
        no true e = absurd (other (sym (ap (λ (c : NodeId). c.0) is ∙ eqb-true (get_or (kids recs n) j d).0 k e)))
        no false e = refl

      sound_new : (k : ℕ) (p : NodeId) (b : Bool) → (k == x.0) ≡ b → parent_at new k ≡ Some p → ((p.0 < n.0) × (times k (kids recs p) ≡ 1)) ⊎ ((p ≡ n) × (times k (take (j + 1) (kids recs n)) ≡ 1))
      sound_new k p true t e =
          let same : k ≡ x.0 = eqb-true k x.0 t in
          inr (some_some p n (sym e ∙ ap (parent_at new) same ∙ its), subst (λ i. times i (take (j + 1) (kids recs n)) ≡ 1) (sym same) counts_here)
      sound_new k p false t e =
          let other : k ≢ x.0 = λ same. false_true (sym t ∙ eq-eqb k x.0 same) in
          ⊎_elim (λ h. inl h) (λ h. inr (h.0, counts_there k other ∙ h.1)) (are.sound k p (sym (others k other) ∙ e)) where
            false_true : false ≡ true → ⊥
            false_true f = cc

      pub one_more : IsAdopting (j + 1) (set ps x.0 (Some n))
      unfolding new
      one_more = record {
        count = length-set ps x.0 (Some n) ∙ are.count;
        sound = λ k p e. sound_new k p (k == x.0) refl e;
        kept = λ p less k e below. still p (get_or (kids recs p) k e) (are.kept p less k e below);
        here = All-more (IsChild recs new n) (kids recs n) j d within (λ k e below. still n (get_or (take j (kids recs n)) k e) (are.here k e below))
            (subst (IsChild recs new n) is (record { there = there; no_page = no_page; is = its }));
      }

    -- Where a valid store has the records.
    module _ (v : List Node) (valid : AreNodes v) (has : node_recs v ≡ recs) where
      rec_is : (m : NodeId) → node_rec (node_at v m) ≡ rec_at recs m
      rec_is m = sym (get_or-map node_rec v m.0 no_node) ∙ ap (λ (rs : List NodeRec). get_or rs m.0 (node_rec no_node)) has

      kids_are : (m : NodeId) → children v m ≡ kids recs m
      kids_are m = ap (λ (r : NodeRec). r.kids) (rec_is m)

      count_is : length v ≡ length recs
      count_is = sym (length-map v node_rec) ∙ ap length has

      child_of : (m : NodeId) → All (λ c. parent v c ≡ Some m) (kids recs m)
      child_of m = subst (All (λ c. parent v c ≡ Some m)) (kids_are m) (valid.trees.agree m)

      x_child : parent v x ≡ Some n
      x_child = subst (λ c. parent v c ≡ Some n) (sym is) (child_of n j d within)

      x_there : x.0 < length recs
      x_there = let below = subst (All (λ c. c.0 < length v)) (kids_are n) (valid.trees.below n) j d within in omega (arith, ap (λ (c : NodeId). c.0) is, below, count_is)

      pub not_there : length recs ≤ x.0 → ⊥
      not_there past = absurd (omega (arith, past, x_there))

      pub not_page : IsSome (page_of (rec_at recs x).shape) → ⊥
      not_page page =
          let node : IsNode (node_at v x) = valid.each x.0 no_node (omega (arith, x_there, count_is)) in
          none_some (sym (node.form.no_parent (subst (λ (r : NodeRec). IsSome (page_of r.shape)) (sym (rec_is x)) page)) ∙ x_child)

      twice : times x.0 (take j (kids recs n)) ≡ 1 → ⊥
      twice before =
          let once = ap (times x.0) (sym (kids_are n)) ∙ valid.trees.once x n x_child in
          let yes : ((get_or (kids recs n) j d).0 == x.0) ≡ true = eq-eqb _ _ (ap (λ (c : NodeId). c.0) (sym is)) in
          let more = count_by_more_yes (λ (c : NodeId). c.0 == x.0) (kids recs n) j d within yes in
          let parts = sum_by-take-drop (λ (c : NodeId). cond {A = ℕ} (c.0 == x.0) 1 0) (kids recs n) (j + 1) in
          absurd (omega (arith, before, once, more, parts))

      pub not_adopted : (p : NodeId) → parent_at ps x.0 ≡ Some p → ⊥
      not_adopted p e = ⊎_elim
          (λ h.
          let other = counted (λ c. parent v c ≡ Some p) x (kids recs p) (child_of p) h.1 in
          let same = some_some p n (sym other ∙ x_child) in
          absurd (omega (arith, h.0, ap (λ (q : NodeId). q.0) same)))
          (λ h. twice h.1)
          (are.sound x.0 p e)
