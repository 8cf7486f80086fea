-- Each operator has a word of its own.
use Rattle.std.proofs.Common.{◌≡◌, Some, refl}
use Rattle.ff_name.specs.Words.{with_word}
use Rattle.ff_tree.specs.Ops.{word_of}
use Rattle.ff_tree.specs.declared.op.Op.{Op}
use Rattle.ff_tree.specs.declared.op.Op.TheVariants.{Add, Sub, Mul, Div, Rem, Less, AtMost, Equal, Not, Cat, Len, Byte, Cut, Str, Num, Cookie, SetCookie, DelCookie, SelfWindow, Opener, Live, Url, Page, Window, Open, OpenNamed, Go, Close, Kind, Text, SetText, Count, Child, Find, Nth, Insert, Listen, Ask}
use Rattle.ff_tree.specs.declared.op.TheConstants.{ALL}

-- what an operator's word finds is the operator
pub own_word : (op : Op) → with_word word_of ALL (word_of op) ≡ Some op
own_word Add = refl
own_word Sub = refl
own_word Mul = refl
own_word Div = refl
own_word Rem = refl
own_word Less = refl
own_word AtMost = refl
own_word Equal = refl
own_word Not = refl
own_word Cat = refl
own_word Len = refl
own_word Byte = refl
own_word Cut = refl
own_word Str = refl
own_word Num = refl
own_word Cookie = refl
own_word SetCookie = refl
own_word DelCookie = refl
own_word SelfWindow = refl
own_word Opener = refl
own_word Live = refl
own_word Url = refl
own_word Page = refl
own_word Window = refl
own_word Open = refl
own_word OpenNamed = refl
own_word Go = refl
own_word Close = refl
own_word Kind = refl
own_word Text = refl
own_word SetText = refl
own_word Count = refl
own_word Child = refl
own_word Find = refl
own_word Nth = refl
own_word Insert = refl
own_word Listen = refl
own_word Ask = refl
