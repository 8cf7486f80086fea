-- The kinds of input and their words.
use Rattle.std.specs.Prelude.{◌≡◌, ℕ, List, codes, Option, Some, refl}
use Rattle.ff_name.specs.Words.{with_word}
use Rattle.ff_value.specs.declared.input.Act.{Act}
use Rattle.ff_value.specs.declared.input.Act.TheVariants as act
use Rattle.ff_value.specs.declared.kind.Kind.{Kind}
use Rattle.ff_value.specs.declared.kind.Kind.TheVariants as kind
use Rattle.ff_value.specs.declared.kind.TheConstants.{ALL}

-- the kind's word, in bytes of ASCII
abbrev pub word_of : Kind → List ℕ
word_of kind.Open = codes "open"
word_of kind.Go = codes "go"
word_of kind.Link = codes "link"
word_of kind.Close = codes "close"
word_of kind.Type = codes "type"
word_of kind.Click = codes "click"
word_of kind.Reply = codes "reply"

-- the kind whose word this is
abbrev pub kind_named : List ℕ → Option Kind
kind_named = with_word word_of ALL

-- what a kind's word names is the kind
pub own_word : (k : Kind) → with_word word_of ALL (word_of k) ≡ Some k
own_word kind.Open = refl
own_word kind.Go = refl
own_word kind.Link = refl
own_word kind.Close = refl
own_word kind.Type = refl
own_word kind.Click = refl
own_word kind.Reply = refl

-- what an act does
abbrev pub kind_of : Act → Kind
kind_of (act.Opens url) = kind.Open
kind_of (act.Goes win url) = kind.Go
kind_of (act.Links win link) = kind.Link
kind_of (act.Closes win) = kind.Close
kind_of (act.Types win field text) = kind.Type
kind_of (act.Clicks win button) = kind.Click
kind_of (act.Replies domain request resp) = kind.Reply
