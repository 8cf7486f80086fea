-- What is left of an input that is masked, what each level sees of an input, and the levels of a
-- policy as those of a multi-executed run.
use Rattle.std.specs.Prelude.{ℕ, cond, Option, Some, None, List, [], map}
use Rattle.ff_confinement.specs.Copies.{Levels}
use Rattle.ff_contract.specs.Lists.{below}
use Rattle.ff_lattice.specs.Order.{Order, size, leq, name, IsTag}
use Rattle.ff_name.specs.declared.urls.Url.TheVariants.{Blank}
use Rattle.ff_value.specs.declared.input.Act.{Act}
use Rattle.ff_value.specs.declared.input.Act.TheVariants.{Opens, Goes, Links, Closes, Types, Clicks, Replies}
use Rattle.ff_value.specs.declared.input.Input.{Input}
use Rattle.ff_value.specs.declared.output.Out.{Out}
use Rattle.ff_value.specs.declared.reply.Resp.TheVariants.{Data}
use Rattle.ff_policy.specs.Assignment.{Assignment, presence, content, level_out}

-- the input's tag, where it has one, is a level
abbrev pub IsTagged : Order → Input → Type 0
IsTagged order input = IsTag order input.tag

-- what is left of an act for who may know of it and not what it says: its kind, its numbers and its
-- domain, with the empty text, the blank address, or a response of no cookies and the empty text
abbrev pub mask_act : Act → Act
mask_act (Opens url) = Opens Blank
mask_act (Goes win url) = Goes win Blank
mask_act (Links win link) = Links win link
mask_act (Closes win) = Closes win
mask_act (Types win field text) = Types win field []
mask_act (Clicks win button) = Clicks win button
mask_act (Replies domain request resp) = Replies domain request (Data [] [])

-- the masked input, with the tag of the input
abbrev pub mask : Input → Input
mask input = record { tag = input.tag; act = mask_act input.act }

-- what a level sees of an input: all of it, the tag too, where its content is at or below that
-- level; else the masked input where its presence is; and nothing elsewhere
unfoldable pub sees : Assignment → ℕ → Input → Option Input
sees policy l input = cond (leq policy.order (content policy input) l) (Some input) (cond (leq policy.order (presence policy input) l) (Some (mask input)) None)

-- what the levels see of an input, in their order
abbrev pub offers : Assignment → Input → List (Option Input)
offers policy input = map (λ l. sees policy l input) (below (size policy.order))

-- the levels of a policy, with the text that is printed for an output
abbrev pub the_levels : Assignment → (Out → List ℕ) → Levels Input Out
the_levels policy print = record {
  count = size policy.order;
  leq = leq policy.order;
  sees = sees policy;
  level_out = level_out policy;
  name = name policy.order;
  print = print;
}
