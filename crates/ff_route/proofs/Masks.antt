-- Masking twice is masking once, and a masked input has the levels of its input and is spelled.
use Rattle.std.proofs.Common.{◌≡◌, ℕ, ap, ◌∙◌, refl, arith}
use Rattle.std.proofs.lemmas.Str.{IsUtf8-nil}
use Rattle.ff_value.specs.declared.input.Act.{Act}
use Rattle.ff_value.specs.declared.input.Act.TheVariants as act
use Rattle.ff_value.specs.declared.input.Input.{Input}
use Rattle.ff_value.specs.declared.kind.Kind.{Kind}
use Rattle.ff_value.specs.Kinds.{kind_of}
use Rattle.ff_value.specs.Spelled.{IsWellSpelledAct, IsWellSpelledInput}
use Rattle.ff_policy.specs.Assignment.{Assignment, act_level, with_tag, levels_of, presence, content}
use Rattle.ff_route.specs.Route.{mask_act, mask}

-- ---- twice

masked_act : (a : Act) → mask_act (mask_act a) ≡ mask_act a
masked_act (act.Opens url) = refl
masked_act (act.Goes win url) = refl
masked_act (act.Links win link) = refl
masked_act (act.Closes win) = refl
masked_act (act.Types win field text) = refl
masked_act (act.Clicks win button) = refl
masked_act (act.Replies domain request resp) = refl

pub masked_twice : (i : Input) → mask (mask i) ≡ mask i
masked_twice i = ap (λ (a : Act). record { tag = i.tag; act = a }) (masked_act i.act)

-- ---- levels

same_kind : (a : Act) → kind_of (mask_act a) ≡ kind_of a
same_kind (act.Opens url) = refl
same_kind (act.Goes win url) = refl
same_kind (act.Links win link) = refl
same_kind (act.Closes win) = refl
same_kind (act.Types win field text) = refl
same_kind (act.Clicks win button) = refl
same_kind (act.Replies domain request resp) = refl

module _ (policy : Assignment) where
  same_level : (a : Act) (l : ℕ) → act_level policy (mask_act a) l ≡ act_level policy a l
  same_level (act.Opens url) l = refl
  same_level (act.Goes win url) l = refl
  same_level (act.Links win link) l = refl
  same_level (act.Closes win) l = refl
  same_level (act.Types win field text) l = refl
  same_level (act.Clicks win button) l = refl
  same_level (act.Replies domain request resp) l = refl

  pub same_presence : (i : Input) → presence policy (mask i) ≡ presence policy i
  unfolding presence
  same_presence i =
      ap (with_tag policy.order i.tag)
      (same_level i.act (levels_of policy.kinds (kind_of (mask_act i.act))).presence
      ∙ ap (λ (k : Kind). act_level policy i.act (levels_of policy.kinds k).presence) (same_kind i.act))

  pub same_content : (i : Input) → content policy (mask i) ≡ content policy i
  unfolding content
  same_content i =
      ap (with_tag policy.order i.tag)
      (same_level i.act (levels_of policy.kinds (kind_of (mask_act i.act))).content
      ∙ ap (λ (k : Kind). act_level policy i.act (levels_of policy.kinds k).content) (same_kind i.act))

-- ---- spelled

masked_act_spelled : (a : Act) → IsWellSpelledAct a → IsWellSpelledAct (mask_act a)
masked_act_spelled (act.Opens url) is = tt
masked_act_spelled (act.Goes win url) is = (is.0, tt)
masked_act_spelled (act.Links win link) is = is
masked_act_spelled (act.Closes win) is = is
masked_act_spelled (act.Types win field text) is = (is.0, is.1, IsUtf8-nil)
masked_act_spelled (act.Clicks win button) is = is
masked_act_spelled (act.Replies domain request resp) is = (is.0, is.1, record { spelled = (tt, IsUtf8-nil); shallow = omega arith })

pub masked_spelled : (i : Input) → IsWellSpelledInput i → IsWellSpelledInput (mask i)
masked_spelled i is = masked_act_spelled i.act is
