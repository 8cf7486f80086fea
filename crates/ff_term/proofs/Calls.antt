-- That each call stands around the redex holds of what starts, and after each reduction.
use Rattle.std.proofs.Common.{◌≡◌, ◌≤◌, ◌+◌, ℕ, List, Bool, true, false, cond, refl, sym, ◌∙◌, arith, subst}
use Rattle.ff_tree.specs.declared.tree.Expr.{Expr}
use Rattle.ff_value.specs.declared.ids.ActId.{ActId}
use Rattle.ff_value.specs.declared.value.Code.{Code}
use Rattle.ff_value.specs.declared.value.Val.{Val}
use Rattle.ff_term.specs.Running.{Running, Runnings, Done, Var, Let, Set, If, While, Do, And, Or, Make, Apply, Tree, Prim, Inside, none, more, is_value, are_values, begins_done, redex, redex_among, rewritten, rewritten_among, insides, insides_among, call_of}
use Rattle.ff_term.specs.Whole.{whole, wholes}
use Rattle.ff_term.specs.Rows.{local_row, branch}
use Rattle.ff_term.specs.Calls.{calls_around, calls_around_among, CallsStandAround}
use Rattle.ff_term.proofs.Laws.{rewritten-redex}
use Rattle.ff_term.proofs.Sources.{source, sources_of}

-- the same of some parts, of which the first that is no value has the redex
abbrev AmongStandAround : Runnings → Type 0
AmongStandAround es = insides_among es ≡ calls_around_among es

least : (b : Bool) (m n most : ℕ) → m ≤ most → n ≤ most → cond b m n ≤ most
least true m n most p q = p
least false m n most p q = q

mutual
  -- no more calls stand around the redex than there are
  pub at_most_all : (e : Running) → calls_around e ≤ insides e
  at_most_all (Let x e) = at_most_all e
  at_most_all (Set x e) = at_most_all e
  at_most_all (If e f g) = let p = at_most_all e in omega arith
  at_most_all (Do es) = let p = at_most_among es in least (begins_done es) 0 (calls_around_among es) (insides_among es) (omega arith) p
  at_most_all (Apply e es) =
      let p = at_most_all e in let q = at_most_among es in
      least (is_value e) (calls_around_among es) (calls_around e) (insides e + insides_among es) (omega arith) (omega arith)
  at_most_all (Prim op es) = at_most_among es
  at_most_all (Inside a e) = let p = at_most_all e in omega arith
  at_most_all (Done v) = omega arith
  at_most_all (Var x) = omega arith
  at_most_all (While e f) = omega arith
  at_most_all (And e f) = omega arith
  at_most_all (Or e f) = omega arith
  at_most_all (Make xs e) = omega arith
  at_most_all (Tree d) = omega arith

  at_most_among : (es : Runnings) → calls_around_among es ≤ insides_among es
  at_most_among none = omega arith
  at_most_among (more e es) =
      let p = at_most_all e in let q = at_most_among es in
      least (is_value e) (calls_around_among es) (calls_around e) (insides e + insides_among es) (omega arith) (omega arith)

-- an expression without calls
pub without-calls : (e : Running) → insides e ≡ 0 → CallsStandAround e
without-calls e h = let p = at_most_all e in omega arith

-- an expression of which nothing is evaluated
pub whole-around : (x : Expr) → CallsStandAround (whole x)
whole-around x = without-calls (whole x) (source x).insides

-- the same of a list
pub wholes-around : (es : List Expr) → calls_around_among (wholes es) ≡ 0
wholes-around es = let p = at_most_among (wholes es) in let q = (sources_of es).insides in omega arith

-- a body, as it is entered
pub entered-around : (a : ActId) (x : Expr) → CallsStandAround (Inside a (whole x))
entered-around a x = let p = whole-around x in omega arith

-- a function called with one value
pub call-around : (code : Code) (arg : Val) → CallsStandAround (call_of code arg)
call-around code arg = refl

value-without : (e : Running) → is_value e ≡ true → insides e ≡ 0
value-without (Done v) h = refl
value-without (Var x) h = cc
value-without (Let x e) h = cc
value-without (Set x e) h = cc
value-without (If e f g) h = cc
value-without (While e f) h = cc
value-without (Do es) h = cc
value-without (And e f) h = cc
value-without (Or e f) h = cc
value-without (Make xs e) h = cc
value-without (Apply e es) h = cc
value-without (Tree d) h = cc
value-without (Prim op es) h = cc
value-without (Inside a e) h = cc

-- a test of a part, and what holds in either case
when : (b : Bool) (P : Running → Type 0) (x y : Running) → (b ≡ true → P x) → (b ≡ false → P y) → P (cond b x y)
when true P x y p q = p refl
when false P x y p q = q refl

when_list : (b : Bool) (P : Runnings → Type 0) (x y : Runnings) → (b ≡ true → P x) → (b ≡ false → P y) → P (cond b x y)
when_list true P x y p q = p refl
when_list false P x y p q = q refl

-- what a test chooses, where its outcome is known
take_first : (b : Bool) (m n : ℕ) → b ≡ true → cond b m n ≡ m
take_first true m n h = refl
take_first false m n h = cc

take_second : (b : Bool) (m n : ℕ) → b ≡ false → cond b m n ≡ n
take_second true m n h = cc
take_second false m n h = refl

second_list : (b : Bool) (x y : Runnings) → b ≡ false → cond b x y ≡ y
second_list true x y h = cc
second_list false x y h = refl

-- a test that was made already
twice : (b : Bool) (k m n : ℕ) → cond b k n ≡ cond b k (cond b m n)
twice true k m n = refl
twice false k m n = refl

-- where the first part is no value, the calls stand around in it and nowhere else
record InFirst (e : Running) (rest : ℕ) : Type 0 where
  pub first : CallsStandAround e
  pub no_other : rest ≡ 0

in_first : (e : Running) (rest around : ℕ) → is_value e ≡ false → insides e + rest ≡ cond (is_value e) around (calls_around e) → InFirst e rest
in_first e rest around p h =
    let q = take_second (is_value e) around (calls_around e) p in let least = at_most_all e in
    record { first = omega arith; no_other = omega arith }

-- where it is a value, they stand around in the rest
in_rest : (e : Running) (rest around : ℕ) → is_value e ≡ true → insides e + rest ≡ cond (is_value e) around (calls_around e) → rest ≡ around
in_rest e rest around p h =
    let q = take_first (is_value e) around (calls_around e) p in let r = value-without e p in omega arith

-- and back: a first part whose calls stand around, and no others
first_alone : (e : Running) (rest around : ℕ) → CallsStandAround e → rest ≡ 0 → around ≡ 0 → insides e + rest ≡ cond (is_value e) around (calls_around e)
first_alone e rest around h p q = by (is_value e) refl
  where
    by : (b : Bool) → is_value e ≡ b → insides e + rest ≡ cond (is_value e) around (calls_around e)
    by true r = let s = take_first (is_value e) around (calls_around e) r in let t = value-without e r in omega arith
    by false r = let s = take_second (is_value e) around (calls_around e) r in omega arith

rest_alone : (e : Running) (rest around : ℕ) → is_value e ≡ true → rest ≡ around → insides e + rest ≡ cond (is_value e) around (calls_around e)
rest_alone e rest around p h =
    let q = take_first (is_value e) around (calls_around e) p in let r = value-without e p in omega arith

none_around : (es : Runnings) → insides_among es ≡ 0 → calls_around_among es ≡ 0
none_around es h = let p = at_most_among es in omega arith

-- a first part whose calls stand around, and others without calls
first_of_all : (e : Running) (es : Runnings) → CallsStandAround e → insides_among es ≡ 0 → insides e + insides_among es ≡ cond (is_value e) (calls_around_among es) (calls_around e)
first_of_all e es h p = first_alone e (insides_among es) (calls_around_among es) h p (none_around es p)

-- the parts of a `do` whose first is no value
do_first : (es : Runnings) → begins_done es ≡ false → insides_among es ≡ cond (begins_done es) 0 (calls_around_among es) → AmongStandAround es
do_first es p h = let q = take_second (begins_done es) 0 (calls_around_among es) p in omega arith

mutual
  -- the calls of the redex stand around its own redex
  pub redex-around : (e : Running) → CallsStandAround e → CallsStandAround (redex e)
  redex-around (Let x e) h = when (is_value e) CallsStandAround (Let x e) (redex e) (λ p. h) (λ p. redex-around e h)
  redex-around (Set x e) h = when (is_value e) CallsStandAround (Set x e) (redex e) (λ p. h) (λ p. redex-around e h)
  redex-around (If e f g) h =
      when (is_value e) CallsStandAround (If e f g) (redex e) (λ p. h) (λ p. redex-around e (let q = at_most_all e in omega arith))
  redex-around (Do es) h =
      when (begins_done es) CallsStandAround (Do es) (redex_among es) (λ p. h) (λ p. redex-among-around es (do_first es p h))
  redex-around (Apply e es) h =
      when (is_value e) CallsStandAround (cond (are_values es) (Apply e es) (redex_among es)) (redex e)
      (λ p. when (are_values es) CallsStandAround (Apply e es) (redex_among es) (λ q. h)
      (λ q. redex-among-around es (in_rest e (insides_among es) (calls_around_among es) p h)))
      (λ p. redex-around e (in_first e (insides_among es) (calls_around_among es) p h).first)
  redex-around (Prim op es) h = when (are_values es) CallsStandAround (Prim op es) (redex_among es) (λ p. h) (λ p. redex-among-around es h)
  redex-around (Inside a e) h = when (is_value e) CallsStandAround (Inside a e) (redex e) (λ p. h) (λ p. redex-around e (omega arith))
  redex-around (Done v) h = h
  redex-around (Var x) h = h
  redex-around (While e f) h = h
  redex-around (And e f) h = h
  redex-around (Or e f) h = h
  redex-around (Make xs e) h = h
  redex-around (Tree d) h = h

  redex-among-around : (es : Runnings) → AmongStandAround es → CallsStandAround (redex_among es)
  redex-among-around none h = refl
  redex-among-around (more e es) h =
      when (is_value e) CallsStandAround (redex_among es) (redex e)
      (λ p. redex-among-around es (in_rest e (insides_among es) (calls_around_among es) p h))
      (λ p. redex-around e (in_first e (insides_among es) (calls_around_among es) p h).first)

module _ (y : Running) (stands : CallsStandAround y) where
  abbrev put : Running → Running
  put _ = y

  mutual
    put-around : (e : Running) → CallsStandAround e → CallsStandAround (rewritten put e)
    put-around (Let x e) h = when (is_value e) CallsStandAround y (Let x (rewritten put e)) (λ p. stands) (λ p. put-around e h)
    put-around (Set x e) h = when (is_value e) CallsStandAround y (Set x (rewritten put e)) (λ p. stands) (λ p. put-around e h)
    put-around (If e f g) h =
        when (is_value e) CallsStandAround y (If (rewritten put e) f g) (λ p. stands)
        (λ p. let q = at_most_all e in let r : CallsStandAround e = omega arith in let s = put-around e r in omega arith)
    put-around (Do es) h = when (begins_done es) CallsStandAround y (Do (rewritten_among put es)) (λ p. stands) (λ p. put-do-around es p (do_first es p h))
    put-around (Apply e es) h =
        when (is_value e) CallsStandAround (cond (are_values es) y (Apply e (rewritten_among put es))) (Apply (rewritten put e) es)
        (λ p. when (are_values es) CallsStandAround y (Apply e (rewritten_among put es)) (λ q. stands)
        (λ q. rest_alone e (insides_among (rewritten_among put es)) (calls_around_among (rewritten_among put es)) p
        (put-among-around es (in_rest e (insides_among es) (calls_around_among es) p h))))
        (λ p. let parts = in_first e (insides_among es) (calls_around_among es) p h in first_of_all (rewritten put e) es (put-around e parts.first) parts.no_other)
    put-around (Prim op es) h =
        when (are_values es) CallsStandAround y (Prim op (rewritten_among put es)) (λ p. stands) (λ p. put-among-around es h)
    put-around (Inside a e) h =
        when (is_value e) CallsStandAround y (Inside a (rewritten put e)) (λ p. stands)
        (λ p. let q : CallsStandAround e = omega arith in let r = put-around e q in omega arith)
    put-around (Done v) h = h
    put-around (Var x) h = stands
    put-around (While e f) h = stands
    put-around (And e f) h = stands
    put-around (Or e f) h = stands
    put-around (Make xs e) h = stands
    put-around (Tree d) h = stands

    put-among-around : (es : Runnings) → AmongStandAround es → AmongStandAround (rewritten_among put es)
    put-among-around none h = refl
    put-among-around (more e es) h =
        when_list (is_value e) AmongStandAround (more e (rewritten_among put es)) (more (rewritten put e) es)
        (λ p. rest_alone e (insides_among (rewritten_among put es)) (calls_around_among (rewritten_among put es)) p
        (put-among-around es (in_rest e (insides_among es) (calls_around_among es) p h)))
        (λ p. let parts = in_first e (insides_among es) (calls_around_among es) p h in first_of_all (rewritten put e) es (put-around e parts.first) parts.no_other)

    put-do-around : (es : Runnings) → begins_done es ≡ false → AmongStandAround es → CallsStandAround (Do (rewritten_among put es))
    put-do-around none p h = cc
    put-do-around (more e es) p h =
        let parts = in_first e (insides_among es) (calls_around_among es) p h in
        subst (λ (fs : Runnings). CallsStandAround (Do fs)) (sym (second_list (is_value e) (more e (rewritten_among put es)) (more (rewritten put e) es) p))
        (first_alone (rewritten put e) (insides_among es) 0 (put-around e parts.first) parts.no_other refl
        ∙ twice (is_value (rewritten put e)) 0 (calls_around_among es) (calls_around (rewritten put e)))

-- a rewriting at the redex, of an expression and to one whose calls stand around
pub rewritten-around : (g : Running → Running) (e : Running) → CallsStandAround e → CallsStandAround (g (redex e)) → CallsStandAround (rewritten g e)
rewritten-around g e h stands = subst CallsStandAround (sym (rewritten-redex g e)) (put-around (g (redex e)) stands e h)

-- the one part of a `do`
only : (e : Running) → insides e + 0 ≡ cond (is_value e) 0 (calls_around e) → CallsStandAround e
only e h = by (is_value e) refl
  where
    by : (b : Bool) → is_value e ≡ b → CallsStandAround e
    by true p = without-calls e (value-without e p)
    by false p = (in_first e 0 0 p h).first

-- no call stands in the parts after the first
later : (e : Running) (rest : ℕ) → insides e + rest ≡ cond (is_value e) 0 (calls_around e) → rest ≡ 0
later e rest h = by (is_value e) refl
  where
    by : (b : Bool) → is_value e ≡ b → rest ≡ 0
    by true p = in_rest e rest 0 p h
    by false p = (in_first e rest 0 p h).no_other

-- what a redex becomes that no store decides
pub local-around : (e : Running) → CallsStandAround e → CallsStandAround (local_row e)
local-around (While e f) h = without-calls (local_row (While e f)) (omega arith)
local-around (Do none) h = refl
local-around (Do (more e none)) h = only e (h ∙ sym (twice (is_value e) 0 0 (calls_around e)))
local-around (Do (more e (more f es))) h =
    without-calls (Do (more f es)) (later e (insides f + insides_among es) (h ∙ sym (twice (is_value e) 0 (calls_around_among (more f es)) (calls_around e))))
local-around (And e f) h = without-calls (local_row (And e f)) (omega arith)
local-around (Or e f) h = without-calls (local_row (Or e f)) (omega arith)
local-around (Inside a e) h = omega arith
local-around e h = h

-- a branch of an `if`
pub branch-around : (b : Bool) (e : Running) → CallsStandAround e → CallsStandAround (branch b e)
branch-around true (If e f g) h = without-calls f (let p = at_most_all e in omega arith)
branch-around false (If e f g) h = without-calls g (let p = at_most_all e in omega arith)
branch-around true e h = h
branch-around false e h = h
