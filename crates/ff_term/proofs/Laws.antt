-- Rewriting puts what the function gives for the redex in its place.
use Rattle.std.proofs.Common.{◌≡◌, Bool, true, false, cond, refl, ap}
use Rattle.ff_term.specs.Running.{Running, Runnings, Done, Var, Let, Set, If, While, Do, And, Or, Make, Apply, Tree, Prim, Inside, none, more, is_value, are_values, begins_done, redex, redex_among, rewritten, rewritten_among, Evaluation, rewritten_in}

module _ (g : Running → Running) where
  at_part : (b : Bool) (w r : Running) (k : (Running → Running) → Running) → k g ≡ k (λ _. g r)
      → cond b (g w) (k g) ≡ cond b (g (cond b w r)) (k (λ _. g (cond b w r)))
  at_part true w r k p = refl
  at_part false w r k p = p

  at_parts : (b c : Bool) (w r s : Running) (k l : (Running → Running) → Running) → k g ≡ k (λ _. g r) → l g ≡ l (λ _. g s)
      → cond b (cond c (g w) (k g)) (l g)
      ≡ cond b (cond c (g (cond b (cond c w r) s)) (k (λ _. g (cond b (cond c w r) s)))) (l (λ _. g (cond b (cond c w r) s)))
  at_parts true true w r s k l p q = refl
  at_parts true false w r s k l p q = p
  at_parts false c w r s k l p q = q

  at_list : (b : Bool) (r s : Running) (k l : (Running → Running) → Runnings) → k g ≡ k (λ _. g r) → l g ≡ l (λ _. g s)
      → cond b (k g) (l g) ≡ cond b (k (λ _. g (cond b r s))) (l (λ _. g (cond b r s)))
  at_list true r s k l p q = p
  at_list false r s k l p q = q

  mutual
    -- rewriting by a function puts what it gives for the redex
    pub rewritten-redex : (e : Running) → rewritten g e ≡ rewritten (λ _. g (redex e)) e
    rewritten-redex (Let x e) = at_part (is_value e) (Let x e) (redex e) (λ h. Let x (rewritten h e)) (ap (Let x) (rewritten-redex e))
    rewritten-redex (Set x e) = at_part (is_value e) (Set x e) (redex e) (λ h. Set x (rewritten h e)) (ap (Set x) (rewritten-redex e))
    rewritten-redex (If e f f') = at_part (is_value e) (If e f f') (redex e) (λ h. If (rewritten h e) f f') (ap (λ y. If y f f') (rewritten-redex e))
    rewritten-redex (Do es) = at_part (begins_done es) (Do es) (redex_among es) (λ h. Do (rewritten_among h es)) (ap Do (rewritten-among es))
    rewritten-redex (Apply e es) =
        at_parts (is_value e) (are_values es) (Apply e es) (redex_among es) (redex e)
        (λ h. Apply e (rewritten_among h es)) (λ h. Apply (rewritten h e) es) (ap (Apply e) (rewritten-among es)) (ap (λ y. Apply y es) (rewritten-redex e))
    rewritten-redex (Prim op es) = at_part (are_values es) (Prim op es) (redex_among es) (λ h. Prim op (rewritten_among h es)) (ap (Prim op) (rewritten-among es))
    rewritten-redex (Inside a e) = at_part (is_value e) (Inside a e) (redex e) (λ h. Inside a (rewritten h e)) (ap (Inside a) (rewritten-redex e))
    rewritten-redex (Done v) = refl
    rewritten-redex (Var x) = refl
    rewritten-redex (While e f) = refl
    rewritten-redex (And e f) = refl
    rewritten-redex (Or e f) = refl
    rewritten-redex (Make xs e) = refl
    rewritten-redex (Tree d) = refl

    rewritten-among : (es : Runnings) → rewritten_among g es ≡ rewritten_among (λ _. g (redex_among es)) es
    rewritten-among none = refl
    rewritten-among (more e es) =
        at_list (is_value e) (redex_among es) (redex e) (λ h. more e (rewritten_among h es)) (λ h. more (rewritten h e) es)
        (ap (more e) (rewritten-among es)) (ap (λ y. more y es) (rewritten-redex e))

-- the same of an evaluation
pub rewritten_at : (g : Running → Running) (t : Evaluation) → rewritten_in g t ≡ rewritten_in (λ _. g (redex t.expr)) t
rewritten_at g t = ap (λ (e : Running). let r : Evaluation = record { base = t.base; expr = e } in r) (rewritten-redex g t.expr)
