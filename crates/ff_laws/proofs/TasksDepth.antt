-- How many calls an expression has when something stands in the place of its redex.
use Rattle.std.proofs.Common.{ℕ, ◌+◌, ◌≤◌, Bool, true, false, cond, arith}
use Rattle.ff_term.specs.Running.{Running, Runnings, Done, Var, Let, Set, If, While, Do, And, Or, Make, Apply, Tree, Prim, Inside, none, more, is_value, are_values, begins_done, redex, redex_among, rewritten, rewritten_among, insides, insides_among}
use Rattle.ff_term.specs.Calls.{CallsStandAround}
use Rattle.ff_term.specs.Rows.{local_row, branch}

-- a test of a part that chooses both expressions
two : (b : Bool) (u v r s : Running) (most : ℕ) → insides u + insides r ≤ most → insides v + insides s ≤ most → insides (cond b u v) + insides (cond b r s) ≤ most
two true u v r s most g h = g
two false u v r s most g h = h

-- the same of some parts
two_lists : (b : Bool) (us vs : Runnings) (r s : Running) (most : ℕ) → insides_among us + insides r ≤ most → insides_among vs + insides s ≤ most
    → insides_among (cond b us vs) + insides (cond b r s) ≤ most
two_lists true us vs r s most g h = g
two_lists false us vs r s most g h = h

module _ (y : Running) where
  abbrev put : Running → Running
  put _ = y

  mutual
    -- the calls of the redex go, and those of what stands in its place come
    pub no_more_calls : (e : Running) → insides (rewritten put e) + insides (redex e) ≤ insides e + insides y
    no_more_calls (Let x e) = let p = no_more_calls e in two (is_value e) y (Let x (rewritten put e)) (Let x e) (redex e) (insides e + insides y) (omega arith) p
    no_more_calls (Set x e) = let p = no_more_calls e in two (is_value e) y (Set x (rewritten put e)) (Set x e) (redex e) (insides e + insides y) (omega arith) p
    no_more_calls (If e f g) =
        let p = no_more_calls e in
        two (is_value e) y (If (rewritten put e) f g) (If e f g) (redex e) (insides e + (insides f + insides g) + insides y) (omega arith) (omega (arith, p))
    no_more_calls (Do es) =
        let p = no_more_calls_among es in two (begins_done es) y (Do (rewritten_among put es)) (Do es) (redex_among es) (insides_among es + insides y) (omega arith) p
    no_more_calls (Apply e es) =
        let p = no_more_calls e in let q = no_more_calls_among es in
        let most = insides e + insides_among es + insides y in
        two (is_value e) (cond (are_values es) y (Apply e (rewritten_among put es))) (Apply (rewritten put e) es) (cond (are_values es) (Apply e es) (redex_among es)) (redex e) most
        (two (are_values es) y (Apply e (rewritten_among put es)) (Apply e es) (redex_among es) most (omega arith) (omega (arith, q))) (omega (arith, p))
    no_more_calls (Prim op es) =
        let p = no_more_calls_among es in two (are_values es) y (Prim op (rewritten_among put es)) (Prim op es) (redex_among es) (insides_among es + insides y) (omega arith) p
    no_more_calls (Inside a e) =
        let p = no_more_calls e in two (is_value e) y (Inside a (rewritten put e)) (Inside a e) (redex e) (1 + insides e + insides y) (omega arith) (omega (arith, p))
    no_more_calls (Done v) = omega arith
    no_more_calls (Var x) = omega arith
    no_more_calls (While e f) = omega arith
    no_more_calls (And e f) = omega arith
    no_more_calls (Or e f) = omega arith
    no_more_calls (Make xs e) = omega arith
    no_more_calls (Tree d) = omega arith

    -- the same of some parts
    no_more_calls_among : (es : Runnings) → insides_among (rewritten_among put es) + insides (redex_among es) ≤ insides_among es + insides y
    no_more_calls_among none = omega arith
    no_more_calls_among (more e es) =
        let p = no_more_calls e in let q = no_more_calls_among es in
        two_lists (is_value e) (more e (rewritten_among put es)) (more (rewritten put e) es) (redex_among es) (redex e) (insides e + insides_among es + insides y) (omega (arith, q)) (omega (arith, p))

-- what a redex becomes that no store decides has no more calls
pub local_no_more : (e : Running) → CallsStandAround e → insides (local_row e) ≤ insides e
local_no_more (While e f) h = omega (arith, h)
local_no_more (Do none) h = omega arith
local_no_more (Do (more e none)) h = omega arith
local_no_more (Do (more e (more f es))) h = omega arith
local_no_more (And e f) h = omega arith
local_no_more (Or e f) h = omega arith
local_no_more (Inside a e) h = omega arith
local_no_more e h = omega arith

-- a branch has no more calls than the test
pub branch_no_more : (b : Bool) (e : Running) → insides (branch b e) ≤ insides e
branch_no_more true (If e f g) = omega arith
branch_no_more false (If e f g) = omega arith
branch_no_more true e = omega arith
branch_no_more false e = omega arith
