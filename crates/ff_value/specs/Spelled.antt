-- Which functions, values, responses and inputs the notation can spell.
use Rattle.std.specs.Prelude.{◌≡◌, ◌≤◌, ◌<◌, ◌+◌, ◌^◌, ℕ, max, List, [], ◌∷◌, map, FitsSigned}
use Rattle.std.specs.Int.{w64}
use Rattle.std.specs.List.{AllByRecursion}
use Rattle.std.specs.Str.{IsUtf8}
use Rattle.ff_name.specs.declared.limits.TheConstants.{MOST_DEPTH}
use Rattle.ff_name.specs.Spelling.{IsDomain}
use Rattle.ff_name.specs.Address.{IsRequest, IsWellSpelled}
use Rattle.ff_tree.specs.Spelled.{AreParams, IsSpelledDoc, IsSpelledExpr, IsWellSpelledExpr, doc_depth, expr_depth, most}
use Rattle.ff_value.specs.declared.input.Act.{Act}
use Rattle.ff_value.specs.declared.input.Act.TheVariants as act
use Rattle.ff_value.specs.declared.input.Input.{Input}
use Rattle.ff_value.specs.declared.output.Out.{Out}
use Rattle.ff_value.specs.declared.output.Out.TheVariants as out
use Rattle.ff_value.specs.declared.output.Pair.{Pair}
use Rattle.ff_value.specs.declared.output.ShownPart.{ShownPart}
use Rattle.ff_value.specs.declared.output.ShownPart.TheOpen.{ShownPart-F}
use Rattle.ff_value.specs.declared.output.ShownPart.TheFolds.{rec-ShownPart}
use Rattle.ff_value.specs.declared.reply.CookieOp.{CookieOp}
use Rattle.ff_value.specs.declared.reply.CookieOp.TheVariants as cookie
use Rattle.ff_value.specs.declared.reply.Resp.{Resp}
use Rattle.ff_value.specs.declared.reply.Resp.TheVariants as resp
use Rattle.ff_value.specs.declared.value.Code.{Code}
use Rattle.ff_value.specs.declared.value.Val.{Val}
use Rattle.ff_value.specs.declared.value.Val.TheVariants as val

-- a function whose parameters and body are spelled
pub record IsWellSpelledCode (code : Code) : Type 0 where
  pub params : AreParams code.params
  pub body : IsWellSpelledExpr code.body

-- a function of one parameter, as a handler or a callback is
pub record TakesOne (code : Code) : Type 0 where
  pub param : List ℕ
  pub params : code.params ≡ param ∷ []

-- a value whose text is a text, whose number fits, whose function is spelled
abbrev pub IsWellSpelledVal : Val → Type 0
IsWellSpelledVal val.Null = Unit {0}
IsWellSpelledVal (val.Bool b) = Unit {0}
IsWellSpelledVal (val.Num n) = FitsSigned w64 n
IsWellSpelledVal (val.Str text) = IsUtf8 text
IsWellSpelledVal (val.Win win) = Unit {0}
IsWellSpelledVal (val.Node node) = Unit {0}
IsWellSpelledVal (val.Code code) = IsWellSpelledCode code

abbrev pub IsCookieOp : CookieOp → Type 0
IsCookieOp (cookie.Put key value) = IsUtf8 key × IsUtf8 value
IsCookieOp (cookie.Drop key) = IsUtf8 key

-- the notation spells the response, in whatever depth
abbrev pub IsSpelledResp : Resp → Type 0
IsSpelledResp (resp.Page cookies docs) = AllByRecursion IsCookieOp cookies × AllByRecursion IsSpelledDoc docs
IsSpelledResp (resp.Script cookies e) = AllByRecursion IsCookieOp cookies × IsSpelledExpr e
IsSpelledResp (resp.Data cookies text) = AllByRecursion IsCookieOp cookies × IsUtf8 text

-- how deep the lists of some cookie entries nest: they stand in a list, and each is a list
abbrev pub cookies_depth : List CookieOp → ℕ
cookies_depth [] = 1
cookies_depth (entry ∷ entries) = 2

-- how deep the lists of a response nest
abbrev pub resp_depth : Resp → ℕ
resp_depth (resp.Page cookies docs) = 1 + max (cookies_depth cookies) (most (map doc_depth docs))
resp_depth (resp.Script cookies e) = 1 + max (cookies_depth cookies) (expr_depth e)
resp_depth (resp.Data cookies text) = 1 + cookies_depth cookies

-- the notation spells the response, and its lists nest no deeper than they may
pub record IsWellSpelledResp (resp : Resp) : Type 0 where
  pub spelled : IsSpelledResp resp
  pub shallow : resp_depth resp ≤ MOST_DEPTH

-- a number of an input: 32 bits
abbrev pub IsNat : ℕ → Type 0
IsNat n = n < 2 ^ 32

abbrev pub IsWellSpelledAct : Act → Type 0
IsWellSpelledAct (act.Opens url) = IsWellSpelled url
IsWellSpelledAct (act.Goes win url) = IsNat win × IsWellSpelled url
IsWellSpelledAct (act.Links win link) = IsNat win × IsNat link
IsWellSpelledAct (act.Closes win) = IsNat win
IsWellSpelledAct (act.Types win field text) = IsNat win × IsNat field × IsUtf8 text
IsWellSpelledAct (act.Clicks win button) = IsNat win × IsNat button
IsWellSpelledAct (act.Replies domain request resp) = IsDomain domain × IsNat request × IsWellSpelledResp resp

-- an input that a line spells, whatever its tag
abbrev pub IsWellSpelledInput : Input → Type 0
IsWellSpelledInput input = IsWellSpelledAct input.act

-- what the user is shown is spelled, where `part` says of its parts that they are
abbrev pub shown_part_spelled : (S : Type 0) → (S → Type 0) → ShownPart-F S → Type 0
shown_part_spelled S part (ShownPart-F.Text text) = IsUtf8 text
shown_part_spelled S part (ShownPart-F.Link url label) = IsWellSpelled url × IsUtf8 label
shown_part_spelled S part (ShownPart-F.TextBox text) = IsUtf8 text
shown_part_spelled S part (ShownPart-F.Button label) = IsUtf8 label
shown_part_spelled S part (ShownPart-F.Div parts) = AllByRecursion part parts

-- what the user is shown has texts and addresses that the notation spells
unfoldable pub IsSpelledShownPart : ShownPart → Type 0
IsSpelledShownPart = rec-ShownPart (Type 0) (λ S _. shown_part_spelled S)

abbrev pub IsSpelledPair : Pair → Type 0
IsSpelledPair pair = IsUtf8 pair.key × IsUtf8 pair.value

-- an output whose numbers, texts, addresses and domain the notation spells
abbrev pub IsWellSpelledOut : Out → Type 0
IsWellSpelledOut out.Opened = Unit {0}
IsWellSpelledOut (out.Closed win) = IsNat win
IsWellSpelledOut (out.Loaded win url shown) = IsNat win × IsWellSpelled url × AllByRecursion IsSpelledShownPart shown
IsWellSpelledOut (out.Updated win shown) = IsNat win × AllByRecursion IsSpelledShownPart shown
IsWellSpelledOut (out.Error win fault) = IsNat win
IsWellSpelledOut out.Stopped = Unit {0}
IsWellSpelledOut (out.Send domain request cookies body) = IsDomain domain × IsRequest request × AllByRecursion IsSpelledPair cookies × IsUtf8 body
