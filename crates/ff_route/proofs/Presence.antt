-- The presence of an input is at or below its content, and who sees nothing of it.
use Rattle.std.proofs.Common.{◌≡◌, ◌<◌, ◌↔◌, ℕ, Bool, true, false, cond, not, Option, Some, None, List, [], ◌∷◌, refl, sym, ap, subst, ◌∙◌}
use Rattle.std.specs.List.{find}
use Rattle.std.proofs.lemmas.Bool.{true≢false}
use Rattle.ff_lattice.specs.Bounds.{IsJoin}
use Rattle.ff_lattice.specs.Order.{Order, size, leq, join, AtOrBelow, IsOrder, IsTag}
use Rattle.ff_lattice.proofs.Words.{join-is}
use Rattle.ff_name.specs.declared.levels.Level.{Level}
use Rattle.ff_value.specs.Kinds.{kind_of}
use Rattle.ff_value.specs.declared.kind.Kind.{Kind}
use Rattle.ff_value.specs.declared.kind.Kind.TheVariants as kind
use Rattle.ff_value.specs.declared.input.Act.{Act}
use Rattle.ff_value.specs.declared.input.Act.TheVariants as act
use Rattle.ff_value.specs.declared.input.Input.{Input}
use Rattle.ff_policy.specs.Assignment.{Assignment, IsAssignment, levels_of, act_level, with_tag, presence, content, domain_level, is_ordered, first_unordered}
use Rattle.ff_policy.proofs.Within.{domain_level_within}
use Rattle.ff_route.specs.Route.{IsTagged, mask, sees}

module _ (order : Order) (valid : IsOrder order) where
  join_bound : (a b : ℕ) → a < size order → b < size order → IsJoin (AtOrBelow order) (size order) a b (join order a b)
  join_bound a b in_a in_b =
      let has = valid.lattice.joins a b in_a in_b in
      subst (IsJoin (AtOrBelow order) (size order) a b) (join-is order valid a b has.0 has.1) has.1

  join_rises : (a b t : ℕ) → a < size order → b < size order → t < size order → AtOrBelow order a b → AtOrBelow order (join order a t) (join order b t)
  join_rises a b t in_a in_b in_t up =
      let one = join_bound a t in_a in_t in
      let other = join_bound b t in_b in_t in
      one.least (join order b t) other.within (valid.transitive a b (join order b t) up other.above_first) other.above_second

  tag_rises : (tag : Option Level) (a b : ℕ) → (a < size order) → (b < size order) → ((t : Level) → tag ≡ Some t → t.0 < size order) → AtOrBelow order a b → AtOrBelow order (with_tag order tag a) (with_tag order tag b)
  tag_rises None a b in_a in_b in_t up = up
  tag_rises (Some t) a b in_a in_b in_t up = join_rises a b t.0 in_a in_b (in_t t refl) up

-- the first of the items doesn't pass, nor does a later one
none_of : (p : Kind → Bool) (k : Kind) (ks : List Kind) → find p (k ∷ ks) ≡ None → (p k ≡ false) × (find p ks ≡ None)
none_of p k ks none = go (p k) refl none
  where
    go : (b : Bool) → p k ≡ b → cond b (Some k) (find p ks) ≡ None → (p k ≡ false) × (find p ks ≡ None)
    go true is e = absurd (let no : Some k ≡ None = e in cc)
    go false is e = (is, e)

not_not : (b : Bool) → not b ≡ false → b ≡ true
not_not true e = refl
not_not false e = cc

module _ (policy : Assignment) (valid : IsAssignment policy) where
  abbrev fails : Kind → Bool
  fails k = not (is_ordered policy k)

  kind_ordered : (k : Kind) → is_ordered policy k ≡ true
  kind_ordered k =
      let open_ = none_of fails kind.Open (kind.Go ∷ kind.Link ∷ kind.Close ∷ kind.Type ∷ kind.Click ∷ kind.Reply ∷ []) valid.ordered in
      let go_ = none_of fails kind.Go (kind.Link ∷ kind.Close ∷ kind.Type ∷ kind.Click ∷ kind.Reply ∷ []) open_.1 in
      let link_ = none_of fails kind.Link (kind.Close ∷ kind.Type ∷ kind.Click ∷ kind.Reply ∷ []) go_.1 in
      let close_ = none_of fails kind.Close (kind.Type ∷ kind.Click ∷ kind.Reply ∷ []) link_.1 in
      let type_ = none_of fails kind.Type (kind.Click ∷ kind.Reply ∷ []) close_.1 in
      let click_ = none_of fails kind.Click (kind.Reply ∷ []) type_.1 in
      let reply_ = none_of fails kind.Reply [] click_.1 in
      by k open_.0 go_.0 link_.0 close_.0 type_.0 click_.0 reply_.0
    where
      by : (k : Kind) → fails kind.Open ≡ false → fails kind.Go ≡ false → fails kind.Link ≡ false → fails kind.Close ≡ false → fails kind.Type ≡ false → fails kind.Click ≡ false → fails kind.Reply ≡ false → is_ordered policy k ≡ true
      by kind.Open o g l c t k r = not_not _ o
      by kind.Go o g l c t k r = not_not _ g
      by kind.Link o g l c t k r = not_not _ l
      by kind.Close o g l c t k r = not_not _ c
      by kind.Type o g l c t k r = not_not _ t
      by kind.Click o g l c t k r = not_not _ k
      by kind.Reply o g l c t k r = not_not _ r

  within : (a : Act) (l : ℕ) → l < size policy.order → act_level policy a l < size policy.order
  within (act.Opens url) l in_l = in_l
  within (act.Goes win url) l in_l = in_l
  within (act.Links win link) l in_l = in_l
  within (act.Closes win) l in_l = in_l
  within (act.Types win field text) l in_l = in_l
  within (act.Clicks win button) l in_l = in_l
  within (act.Replies domain request resp) l in_l = (join_bound policy.order valid.draft.order_is l (domain_level policy domain) in_l (domain_level_within policy domain valid)).within

  act_rises : (x : Act) (a b : ℕ) → a < size policy.order → b < size policy.order → AtOrBelow policy.order a b → AtOrBelow policy.order (act_level policy x a) (act_level policy x b)
  act_rises (act.Opens url) a b in_a in_b up = up
  act_rises (act.Goes win url) a b in_a in_b up = up
  act_rises (act.Links win link) a b in_a in_b up = up
  act_rises (act.Closes win) a b in_a in_b up = up
  act_rises (act.Types win field text) a b in_a in_b up = up
  act_rises (act.Clicks win button) a b in_a in_b up = up
  act_rises (act.Replies domain request resp) a b in_a in_b up = join_rises policy.order valid.draft.order_is a b (domain_level policy domain) in_a in_b (domain_level_within policy domain valid) up

  tag_within : (tag : Option Level) → IsTag policy.order tag → (t : Level) → tag ≡ Some t → t.0 < size policy.order
  tag_within None is t e = cc
  tag_within (Some s) is t e = subst (λ (o : Option Level). IsTag policy.order o) e is

  pub presence_below : (i : Input) → IsTagged policy.order i → leq policy.order (presence policy i) (content policy i) ≡ true
  unfolding presence content
  presence_below i tagged =
      let kind_is = kind_of i.act in
      let in_kind = valid.draft.kinds_within kind_is in
      let p = (levels_of policy.kinds kind_is).presence in
      let c = (levels_of policy.kinds kind_is).content in
      tag_rises policy.order valid.draft.order_is i.tag (act_level policy i.act p) (act_level policy i.act c) (within i.act p in_kind.presence) (within i.act c in_kind.content) (tag_within i.tag tagged)
      (act_rises i.act p c in_kind.presence in_kind.content (kind_ordered kind_is))

  pub nothing_seen : (l : ℕ) (i : Input) → IsTagged policy.order i → (sees policy l i ≡ None) ↔ (leq policy.order (presence policy i) l ≡ false)
  unfolding sees
  nothing_seen l i tagged = (there (leq policy.order (content policy i) l) (leq policy.order (presence policy i) l) refl, back)
    where
      there : (c p : Bool) → leq policy.order (presence policy i) l ≡ p → cond c (Some i) (cond p (Some (mask i)) None) ≡ None → leq policy.order (presence policy i) l ≡ false
      there true p is e = absurd (let no : Some i ≡ None = e in cc)
      there false true is e = absurd (let no : Some (mask i) ≡ None = e in cc)
      there false false is e = is

      back : leq policy.order (presence policy i) l ≡ false → sees policy l i ≡ None
      back low = go (leq policy.order (content policy i) l) refl
        where
          go : (c : Bool) → leq policy.order (content policy i) l ≡ c → sees policy l i ≡ None
          go true is = absurd (true≢false (sym (valid.draft.order_is.transitive (presence policy i) (content policy i) l (presence_below i tagged) is) ∙ low))
          go false is =
              ap (λ b. cond b (Some i) (cond (leq policy.order (presence policy i) l) (Some (mask i)) None)) is
              ∙ ap (λ b. cond b (Some (mask i)) None) low
