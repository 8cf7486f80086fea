-- The operators: their words, the numbers of their operands, and which of them are pure.
use Rattle.std.specs.Prelude.{ℕ, Bool, true, false, List, codes}
use Rattle.ff_tree.specs.declared.op.Op.{Op}
use Rattle.ff_tree.specs.declared.op.Op.TheVariants.{Add, Sub, Mul, Div, Rem, Less, AtMost, Equal, Not, Cat, Len, Byte, Cut, Str, Num, Cookie, SetCookie, DelCookie, SelfWindow, Opener, Live, Url, Page, Window, Open, OpenNamed, Go, Close, Kind, Text, SetText, Count, Child, Find, Nth, Insert, Listen, Ask}

-- the operator's word in the notation, in bytes of ASCII
abbrev pub word_of : Op → List ℕ
word_of Add = codes "+"
word_of Sub = codes "-"
word_of Mul = codes "*"
word_of Div = codes "/"
word_of Rem = codes "%"
word_of Less = codes "<"
word_of AtMost = codes "<="
word_of Equal = codes "="
word_of Not = codes "not"
word_of Cat = codes "cat"
word_of Len = codes "len"
word_of Byte = codes "byte"
word_of Cut = codes "cut"
word_of Str = codes "str"
word_of Num = codes "num"
word_of Cookie = codes "cookie"
word_of SetCookie = codes "set-cookie"
word_of DelCookie = codes "del-cookie"
word_of SelfWindow = codes "self"
word_of Opener = codes "opener"
word_of Live = codes "live"
word_of Url = codes "url"
word_of Page = codes "page"
word_of Window = codes "window"
word_of Open = codes "open"
word_of OpenNamed = codes "open-named"
word_of Go = codes "go"
word_of Close = codes "close"
word_of Kind = codes "kind"
word_of Text = codes "text"
word_of SetText = codes "set-text"
word_of Count = codes "count"
word_of Child = codes "child"
word_of Find = codes "find"
word_of Nth = codes "nth"
word_of Insert = codes "insert"
word_of Listen = codes "listen"
word_of Ask = codes "ask"

-- how many operands it takes
abbrev pub arity_of : Op → ℕ
arity_of Add = 2
arity_of Sub = 2
arity_of Mul = 2
arity_of Div = 2
arity_of Rem = 2
arity_of Less = 2
arity_of AtMost = 2
arity_of Equal = 2
arity_of Not = 1
arity_of Cat = 2
arity_of Len = 1
arity_of Byte = 2
arity_of Cut = 3
arity_of Str = 1
arity_of Num = 1
arity_of Cookie = 1
arity_of SetCookie = 2
arity_of DelCookie = 1
arity_of SelfWindow = 0
arity_of Opener = 1
arity_of Live = 1
arity_of Url = 1
arity_of Page = 1
arity_of Window = 1
arity_of Open = 1
arity_of OpenNamed = 2
arity_of Go = 2
arity_of Close = 1
arity_of Kind = 1
arity_of Text = 1
arity_of SetText = 2
arity_of Count = 1
arity_of Child = 2
arity_of Find = 2
arity_of Nth = 3
arity_of Insert = 3
arity_of Listen = 2
arity_of Ask = 3

-- the operators that read and change no store: those on numbers, truth values and texts
abbrev pub is_pure_op : Op → Bool
is_pure_op Add = true
is_pure_op Sub = true
is_pure_op Mul = true
is_pure_op Div = true
is_pure_op Rem = true
is_pure_op Less = true
is_pure_op AtMost = true
is_pure_op Equal = true
is_pure_op Not = true
is_pure_op Cat = true
is_pure_op Len = true
is_pure_op Byte = true
is_pure_op Cut = true
is_pure_op Str = true
is_pure_op Num = true
is_pure_op _ = false
