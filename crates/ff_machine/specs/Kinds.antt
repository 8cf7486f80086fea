-- The words of the kinds of nodes.
use Rattle.std.specs.Prelude.{◌≡◌, ℕ, List, codes, Some, refl}
use Rattle.ff_name.specs.Words.{with_word}
use Rattle.ff_machine.specs.declared.kinds.Kind.{Kind}
use Rattle.ff_machine.specs.declared.kinds.Kind.TheVariants as kind
use Rattle.ff_machine.specs.declared.kinds.TheConstants.{ALL}

-- the word of a kind in scripts, in bytes of ASCII
abbrev pub kind_word : Kind → List ℕ
kind_word kind.Page = codes "page"
kind_word kind.Text = codes "text"
kind_word kind.Link = codes "link"
kind_word kind.TextBox = codes "box"
kind_word kind.Button = codes "button"
kind_word kind.Script = codes "script"
kind_word kind.Src = codes "src"
kind_word kind.Div = codes "div"

-- what a kind's word names is the kind
pub own_word : (k : Kind) → with_word kind_word ALL (kind_word k) ≡ Some k
own_word kind.Page = refl
own_word kind.Text = refl
own_word kind.Link = refl
own_word kind.TextBox = refl
own_word kind.Button = refl
own_word kind.Script = refl
own_word kind.Src = refl
own_word kind.Div = refl
