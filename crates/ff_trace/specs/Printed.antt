-- The lines of inputs and outputs: their items, with one blank between each two.
use Rattle.std.specs.Prelude.{ℕ, Bool, if◌then◌else◌, Option, Some, None, List, [], ◌∷◌, ◌++◌, map, codes}
use Rattle.std.specs.List.{join_with_byte}
use Rattle.std.specs.Ordering.{is_lt, nat_cmp}
use Rattle.std.specs.Cmp.Lexicographic.{slice_cmp}
use Rattle.ff_lattice.specs.Order.{Order, name}
use Rattle.ff_name.specs.declared.levels.Level.{Level}
use Rattle.ff_number.specs.Decimal.{nat_text}
use Rattle.ff_forms.specs.Canonical.{word, string, address, resp_item, shown_item, pairs_item}
use Rattle.ff_text.specs.Printed.{spelled}
use Rattle.ff_text.specs.declared.items.Sexp.{Sexp}
use Rattle.ff_value.specs.Faults as faults
use Rattle.ff_value.specs.Kinds.{word_of, kind_of}
use Rattle.ff_value.specs.declared.input.Act.{Act}
use Rattle.ff_value.specs.declared.input.Act.TheVariants as act
use Rattle.ff_value.specs.declared.input.Input.{Input}
use Rattle.ff_value.specs.declared.output.Out.{Out}
use Rattle.ff_value.specs.declared.output.Out.TheVariants as out
use Rattle.ff_value.specs.declared.output.Pair.{Pair}

abbrev pub number : ℕ → Sexp
number n = word (nat_text n)

-- what follows the kind of an act
abbrev pub act_parts : Act → List Sexp
act_parts (act.Opens url) = address url ∷ []
act_parts (act.Goes win url) = number win ∷ address url ∷ []
act_parts (act.Links win link) = number win ∷ number link ∷ []
act_parts (act.Closes win) = number win ∷ []
act_parts (act.Types win field text) = number win ∷ number field ∷ string text ∷ []
act_parts (act.Clicks win button) = number win ∷ number button ∷ []
act_parts (act.Replies domain request resp) = word domain ∷ number request ∷ resp_item resp ∷ []

-- the items of an act: its kind and its parts
abbrev pub act_items : Act → List Sexp
act_items one = word (word_of (kind_of one)) ∷ act_parts one

-- a tag: `@` and the level's name
abbrev pub tag_items : Order → Option Level → List Sexp
tag_items order None = []
tag_items order (Some level) = word (64 ∷ name order level.0) ∷ []

-- the items of an input's line
abbrev pub input_items : Order → Input → List Sexp
input_items order input = tag_items order input.tag ++ act_items input.act

-- items in their canonical spellings, with one blank between each two
abbrev pub joined : List Sexp → List ℕ
joined items = join_with_byte 32 (map spelled items)

-- an input's line
abbrev pub input_text : Order → Input → List ℕ
input_text order input = joined (input_items order input)

-- and its newline
abbrev pub input_line : Order → Input → List ℕ
input_line order input = input_text order input ++ 10 ∷ []

-- whether the key of the first pair is below that of the second, in the order of bytes
abbrev pub key_below : Pair → Pair → Bool
key_below p q = is_lt (slice_cmp nat_cmp p.key q.key)

-- a pair put before the first one whose key isn't below its own
abbrev pub placed : Pair → List Pair → List Pair
placed p [] = p ∷ []
placed p (q ∷ others) = if key_below q p then q ∷ placed p others else p ∷ q ∷ others

-- pairs in the order of their keys; those with the same key stay in the order that they had
abbrev pub in_key_order : List Pair → List Pair
in_key_order [] = []
in_key_order (p ∷ pairs) = placed p (in_key_order pairs)

-- the items of an output's line, after the name of its level
abbrev pub out_items : Out → List Sexp
out_items out.Opened = word (codes "opened") ∷ []
out_items (out.Closed win) = word (codes "closed") ∷ number win ∷ []
out_items (out.Loaded win url shown) = word (codes "loaded") ∷ number win ∷ address url ∷ shown_item shown ∷ []
out_items (out.Updated win shown) = word (codes "updated") ∷ number win ∷ shown_item shown ∷ []
out_items (out.Error win fault) = word (codes "error") ∷ number win ∷ word (faults.word_of fault) ∷ []
out_items out.Stopped = word (codes "stopped") ∷ []
out_items (out.Send domain request cookies body) = word (codes "send") ∷ word domain ∷ string request ∷ pairs_item (in_key_order cookies) ∷ string body ∷ []

-- an output's line, after the name of its level and a blank
abbrev pub out_text : Out → List ℕ
out_text one = joined (out_items one)

-- the name of the level, a blank and the output
abbrev pub headed : Order → ℕ → Out → List ℕ
headed order level one = name order level ++ 32 ∷ out_text one

-- and a newline
abbrev pub out_line : Order → ℕ → Out → List ℕ
out_line order level one = headed order level one ++ 10 ∷ []
