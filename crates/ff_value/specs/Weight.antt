-- What responses weigh, by the rule for documents and expressions.
use Rattle.std.specs.Prelude.{ℕ, ◌+◌, List, map, sum}
use Rattle.ff_tree.specs.Weight.{items, string, doc_weight, expr_weight}
use Rattle.ff_value.specs.declared.reply.CookieOp.{CookieOp}
use Rattle.ff_value.specs.declared.reply.CookieOp.TheVariants.{Put, Drop}
use Rattle.ff_value.specs.declared.reply.Resp.{Resp}
use Rattle.ff_value.specs.declared.reply.Resp.TheVariants.{Page, Script, Data}

abbrev pub cookie_weight : CookieOp → ℕ
cookie_weight (Put key value) = items 2 + (string key + string value)
cookie_weight (Drop key) = items 2 + string key

abbrev pub cookies_weight : List CookieOp → ℕ
cookies_weight cookies = items 1 + sum (map cookie_weight cookies)

abbrev pub resp_weight : Resp → ℕ
resp_weight (Page cookies docs) = items 2 + (cookies_weight cookies + sum (map doc_weight docs))
resp_weight (Script cookies e) = items 2 + (cookies_weight cookies + expr_weight e)
resp_weight (Data cookies text) = items 2 + (cookies_weight cookies + string text)
