-- What is read of the redex of an expression that is no value is that redex.
use Rattle.std.proofs.Common.{◌≡◌, Bool, true, false, cond, List, refl, sym, ap, subst}
use Rattle.ff_value.specs.declared.value.Val.{Val}
use Rattle.ff_term.specs.Running.{Running, Runnings, Done, Var, Let, Set, If, While, Do, And, Or, Make, Apply, Tree, Prim, Inside, none, more, is_value, are_values, begins_done, redex, redex_among, values, vals_of}
use Rattle.ff_term.specs.Redexes.{IsRedexOf, read_redex, value_or_null}
use Rattle.ff_term.proofs.Keeping.{vals_of_values}

abbrev IsRead : Running → Type 0
IsRead e = IsRedexOf (read_redex e) e

value-is : (e : Running) → is_value e ≡ true → e ≡ Done (value_or_null e)
value-is (Done v) h = refl
value-is (Var x) h = cc
value-is (Let x e) h = cc
value-is (Set x e) h = cc
value-is (If e f g) h = cc
value-is (While e f) h = cc
value-is (Do es) h = cc
value-is (And e f) h = cc
value-is (Or e f) h = cc
value-is (Make xs e) h = cc
value-is (Apply e es) h = cc
value-is (Tree d) h = cc
value-is (Prim op es) h = cc
value-is (Inside a e) h = cc

both_true : (b c : Bool) → cond b c false ≡ true → (b ≡ true) × (c ≡ true)
both_true true c h = (refl, h)
both_true false c h = cc

values-are : (es : Runnings) → are_values es ≡ true → es ≡ values (vals_of es)
values-are none h = refl
values-are (more e es) h =
    let p = both_true (is_value e) (are_values es) h in
    let here = value-is e p.0 in let rest = values-are es p.1 in
    subst (λ (y : Running). more y es ≡ values (vals_of (more y es))) (sym here) (ap (λ (fs : Runnings). more (Done (value_or_null e)) fs) rest)

-- a test of a part, and what holds in either case
when : (b : Bool) (x y : Running) → (b ≡ true → IsRead x) → (b ≡ false → IsRead y) → IsRead (cond b x y)
when true x y p q = p refl
when false x y p q = q refl

not_all : (b c : Bool) → cond b c false ≡ false → b ≡ true → c ≡ false
not_all true c h e = h
not_all false c h e = cc

some_left : (es : Runnings) → begins_done es ≡ false → are_values es ≡ false
some_left none h = cc
some_left (more e es) h = ap (λ (b : Bool). cond b (are_values es) false) h

apply-read : (v : Val) (vs : List Val) → IsRead (Apply (Done v) (values vs))
apply-read v vs = ap (λ (ws : List Val). Apply (Done v) (values ws)) (sym (vals_of_values vs))

mutual
  -- what is read of the redex names it
  pub redex-is-read : (e : Running) → is_value e ≡ false → IsRead (redex e)
  redex-is-read (Let x e) h =
      when (is_value e) (Let x e) (redex e) (λ p. subst (λ (y : Running). IsRead (Let x y)) (sym (value-is e p)) refl) (λ p. redex-is-read e p)
  redex-is-read (Set x e) h =
      when (is_value e) (Set x e) (redex e) (λ p. subst (λ (y : Running). IsRead (Set x y)) (sym (value-is e p)) refl) (λ p. redex-is-read e p)
  redex-is-read (If e f g) h =
      when (is_value e) (If e f g) (redex e) (λ p. subst (λ (y : Running). IsRead (If y f g)) (sym (value-is e p)) (f, (g, refl))) (λ p. redex-is-read e p)
  redex-is-read (Do es) h = when (begins_done es) (Do es) (redex_among es) (λ p. tt) (λ p. among-is-read es (some_left es p))
  redex-is-read (Apply e es) h =
      when (is_value e) (cond (are_values es) (Apply e es) (redex_among es)) (redex e)
      (λ p. when (are_values es) (Apply e es) (redex_among es)
      (λ q. subst (λ (y : Running). IsRead (Apply y es)) (sym (value-is e p))
      (subst (λ (fs : Runnings). IsRead (Apply (Done (value_or_null e)) fs)) (sym (values-are es q)) (apply-read (value_or_null e) (vals_of es))))
      (λ q. among-is-read es q))
      (λ p. redex-is-read e p)
  redex-is-read (Prim op es) h =
      when (are_values es) (Prim op es) (redex_among es)
      (λ q. ap (λ (fs : Runnings). Prim op fs) (values-are es q))
      (λ q. among-is-read es q)
  redex-is-read (Inside a e) h = when (is_value e) (Inside a e) (redex e) (λ p. tt) (λ p. redex-is-read e p)
  redex-is-read (Done v) h = cc
  redex-is-read (Var x) h = refl
  redex-is-read (While e f) h = tt
  redex-is-read (And e f) h = tt
  redex-is-read (Or e f) h = tt
  redex-is-read (Make xs e) h = refl
  redex-is-read (Tree d) h = refl

  among-is-read : (es : Runnings) → are_values es ≡ false → IsRead (redex_among es)
  among-is-read none h = cc
  among-is-read (more e es) h =
      when (is_value e) (redex_among es) (redex e) (λ p. among-is-read es (not_all (is_value e) (are_values es) h p)) (λ p. redex-is-read e p)
