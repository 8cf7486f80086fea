-- The words that head the lists of each form: each finds its head.
use Rattle.std.specs.Prelude.{◌≡◌, ℕ, Some, List, codes, refl}
use Rattle.ff_name.specs.Words.{with_word}
use Rattle.ff_tree.specs.Ops.{word_of}
use Rattle.ff_tree.specs.declared.op.Op.TheVariants as op
use Rattle.ff_forms.specs.declared.heads.DocHead.{DocHead}
use Rattle.ff_forms.specs.declared.heads.DocHead.TheVariants as doc_head
use Rattle.ff_forms.specs.declared.heads.ExprHead.{ExprHead}
use Rattle.ff_forms.specs.declared.heads.ExprHead.TheVariants as expr_head
use Rattle.ff_forms.specs.declared.heads.HandlerHead.{HandlerHead}
use Rattle.ff_forms.specs.declared.heads.HandlerHead.TheVariants as handler_head
use Rattle.ff_forms.specs.declared.heads.RespHead.{RespHead}
use Rattle.ff_forms.specs.declared.heads.RespHead.TheVariants as resp_head
use Rattle.ff_forms.specs.declared.heads.CookieHead.{CookieHead}
use Rattle.ff_forms.specs.declared.heads.CookieHead.TheVariants as cookie_head
use Rattle.ff_forms.specs.declared.heads.TheConstants.{DOC_HEADS, EXPR_HEADS, HANDLER_HEADS, RESP_HEADS, COOKIE_HEADS}

abbrev pub doc_word : DocHead → List ℕ
doc_word doc_head.Text = codes "text"
doc_word doc_head.Link = codes "link"
doc_word doc_head.TextBox = codes "box"
doc_word doc_head.Button = codes "button"
doc_word doc_head.Script = codes "script"
doc_word doc_head.Src = codes "src"
doc_word doc_head.Div = codes "div"

abbrev pub expr_word : ExprHead → List ℕ
expr_word expr_head.Let = codes "let"
expr_word expr_head.Set = codes "set"
expr_word expr_head.If = codes "if"
expr_word expr_head.While = codes "while"
expr_word expr_head.Do = codes "do"
expr_word expr_head.And = codes "and"
expr_word expr_head.Or = codes "or"
expr_word expr_head.Make = codes "fn"
expr_word expr_head.Apply = codes "call"
expr_word expr_head.Tree = codes "new"
expr_word (expr_head.Prim o) = word_of o

abbrev pub handler_word : HandlerHead → List ℕ
handler_word handler_head.Make = codes "fn"

abbrev pub resp_word : RespHead → List ℕ
resp_word resp_head.Page = codes "doc"
resp_word resp_head.Script = codes "script"
resp_word resp_head.Data = codes "data"

abbrev pub cookie_word : CookieHead → List ℕ
cookie_word cookie_head.Put = codes "set"
cookie_word cookie_head.Drop = codes "del"

-- the heads at each position

abbrev pub doc_heads : List DocHead
doc_heads = DOC_HEADS

abbrev pub expr_heads : List ExprHead
expr_heads = EXPR_HEADS

abbrev pub handler_heads : List HandlerHead
handler_heads = HANDLER_HEADS

abbrev pub resp_heads : List RespHead
resp_heads = RESP_HEADS

abbrev pub cookie_heads : List CookieHead
cookie_heads = COOKIE_HEADS

-- each is there, and none before it has its word

pub doc_own : (head : DocHead) → with_word doc_word doc_heads (doc_word head) ≡ Some head
doc_own doc_head.Text = refl
doc_own doc_head.Link = refl
doc_own doc_head.TextBox = refl
doc_own doc_head.Button = refl
doc_own doc_head.Script = refl
doc_own doc_head.Src = refl
doc_own doc_head.Div = refl

pub expr_own : (head : ExprHead) → with_word expr_word expr_heads (expr_word head) ≡ Some head
expr_own expr_head.Let = refl
expr_own expr_head.Set = refl
expr_own expr_head.If = refl
expr_own expr_head.While = refl
expr_own expr_head.Do = refl
expr_own expr_head.And = refl
expr_own expr_head.Or = refl
expr_own expr_head.Make = refl
expr_own expr_head.Apply = refl
expr_own expr_head.Tree = refl
expr_own (expr_head.Prim op.Add) = refl
expr_own (expr_head.Prim op.Sub) = refl
expr_own (expr_head.Prim op.Mul) = refl
expr_own (expr_head.Prim op.Div) = refl
expr_own (expr_head.Prim op.Rem) = refl
expr_own (expr_head.Prim op.Less) = refl
expr_own (expr_head.Prim op.AtMost) = refl
expr_own (expr_head.Prim op.Equal) = refl
expr_own (expr_head.Prim op.Not) = refl
expr_own (expr_head.Prim op.Cat) = refl
expr_own (expr_head.Prim op.Len) = refl
expr_own (expr_head.Prim op.Byte) = refl
expr_own (expr_head.Prim op.Cut) = refl
expr_own (expr_head.Prim op.Str) = refl
expr_own (expr_head.Prim op.Num) = refl
expr_own (expr_head.Prim op.Cookie) = refl
expr_own (expr_head.Prim op.SetCookie) = refl
expr_own (expr_head.Prim op.DelCookie) = refl
expr_own (expr_head.Prim op.SelfWindow) = refl
expr_own (expr_head.Prim op.Opener) = refl
expr_own (expr_head.Prim op.Live) = refl
expr_own (expr_head.Prim op.Url) = refl
expr_own (expr_head.Prim op.Page) = refl
expr_own (expr_head.Prim op.Window) = refl
expr_own (expr_head.Prim op.Open) = refl
expr_own (expr_head.Prim op.OpenNamed) = refl
expr_own (expr_head.Prim op.Go) = refl
expr_own (expr_head.Prim op.Close) = refl
expr_own (expr_head.Prim op.Kind) = refl
expr_own (expr_head.Prim op.Text) = refl
expr_own (expr_head.Prim op.SetText) = refl
expr_own (expr_head.Prim op.Count) = refl
expr_own (expr_head.Prim op.Child) = refl
expr_own (expr_head.Prim op.Find) = refl
expr_own (expr_head.Prim op.Nth) = refl
expr_own (expr_head.Prim op.Insert) = refl
expr_own (expr_head.Prim op.Listen) = refl
expr_own (expr_head.Prim op.Ask) = refl

pub handler_own : (head : HandlerHead) → with_word handler_word handler_heads (handler_word head) ≡ Some head
handler_own handler_head.Make = refl

pub resp_own : (head : RespHead) → with_word resp_word resp_heads (resp_word head) ≡ Some head
resp_own resp_head.Page = refl
resp_own resp_head.Script = refl
resp_own resp_head.Data = refl

pub cookie_own : (head : CookieHead) → with_word cookie_word cookie_heads (cookie_word head) ≡ Some head
cookie_own cookie_head.Put = refl
cookie_own cookie_head.Drop = refl
