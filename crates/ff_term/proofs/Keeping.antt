-- What holds of each thing in an expression holds of each in its redex, and after a rewriting
-- that keeps it.
use Rattle.std.proofs.Common.{◌≡◌, ◌+◌, ℕ, List, [], ◌∷◌, length, Bool, true, false, cond, refl, ap, arith}
use Rattle.ff_value.specs.declared.ids.ActId.{ActId}
use Rattle.ff_value.specs.declared.value.Val.{Val}
use Rattle.ff_value.specs.declared.value.Val.TheVariants as val
use Rattle.ff_term.specs.Running.{Running, Runnings, Done, Var, Let, Set, If, While, Do, And, Or, Make, Apply, Tree, Prim, Inside, none, more, is_value, are_values, begins_done, redex, redex_among, rewritten, rewritten_among, innermost, innermost_among, values, vals_of}
use Rattle.ff_term.specs.Rows.{local_row, branch}
use Rattle.ff_term.specs.Conditions.{Conditions, Satisfies, SatisfyAll, how_many}

chosen : (b : Bool) (P : Running → Type 0) (x y : Running) → P x → P y → P (cond b x y)
chosen true P x y p q = p
chosen false P x y p q = q

chosen_list : (b : Bool) (P : Runnings → Type 0) (x y : Runnings) → P x → P y → P (cond b x y)
chosen_list true P x y p q = p
chosen_list false P x y p q = q

many-cond : (b : Bool) (x y : Runnings) (n : ℕ) → how_many x ≡ n → how_many y ≡ n → how_many (cond b x y) ≡ n
many-cond true x y n p q = p
many-cond false x y n p q = q

-- a list of as many parts
many : (f : Running → Running) (es : Runnings) → how_many (rewritten_among f es) ≡ how_many es
many f none = refl
many f (more e es) =
    many-cond (is_value e) (more e (rewritten_among f es)) (more (rewritten f e) es) (how_many (more e es)) (ap (λ n. 1 + n) (many f es)) refl

module _ (c : Conditions) where
  mutual
    -- the redex meets what the expression does
    pub redex-meets : (e : Running) → Satisfies c e → Satisfies c (redex e)
    redex-meets (Let x e) h = chosen (is_value e) (Satisfies c) (Let x e) (redex e) h (redex-meets e h.1)
    redex-meets (Set x e) h = chosen (is_value e) (Satisfies c) (Set x e) (redex e) h (redex-meets e h.1)
    redex-meets (If e f g) h = chosen (is_value e) (Satisfies c) (If e f g) (redex e) h (redex-meets e h.0)
    redex-meets (Do es) h = chosen (begins_done es) (Satisfies c) (Do es) (redex_among es) h (redex-among-meets es h)
    redex-meets (Apply e es) h =
        chosen (is_value e) (Satisfies c) (cond (are_values es) (Apply e es) (redex_among es)) (redex e)
        (chosen (are_values es) (Satisfies c) (Apply e es) (redex_among es) h (redex-among-meets es h.1)) (redex-meets e h.0)
    redex-meets (Prim op es) h = chosen (are_values es) (Satisfies c) (Prim op es) (redex_among es) h (redex-among-meets es h.1)
    redex-meets (Inside a e) h = chosen (is_value e) (Satisfies c) (Inside a e) (redex e) h (redex-meets e h.1)
    redex-meets (Done v) h = h
    redex-meets (Var x) h = h
    redex-meets (While e f) h = h
    redex-meets (And e f) h = h
    redex-meets (Or e f) h = h
    redex-meets (Make xs e) h = h
    redex-meets (Tree d) h = h

    redex-among-meets : (es : Runnings) → SatisfyAll c es → Satisfies c (redex_among es)
    redex-among-meets none h = tt
    redex-among-meets (more e es) h = chosen (is_value e) (Satisfies c) (redex_among es) (redex e) (redex-among-meets es h.1) (redex-meets e h.0)

  chosen_act : (b : Bool) (x y : ActId) → c.act x → c.act y → c.act (cond b x y)
  chosen_act true x y p q = p
  chosen_act false x y p q = q

  mutual
    -- so does the innermost activation, where the one around all does
    pub innermost-meets : (a : ActId) (e : Running) → c.act a → Satisfies c e → c.act (innermost a e)
    innermost-meets a (Let x e) l h = innermost-meets a e l h.1
    innermost-meets a (Set x e) l h = innermost-meets a e l h.1
    innermost-meets a (If e f g) l h = innermost-meets a e l h.0
    innermost-meets a (Do es) l h = chosen_act (begins_done es) a (innermost_among a es) l (innermost-among-meets a es l h)
    innermost-meets a (Apply e es) l h =
        chosen_act (is_value e) (innermost_among a es) (innermost a e) (innermost-among-meets a es l h.1) (innermost-meets a e l h.0)
    innermost-meets a (Prim op es) l h = innermost-among-meets a es l h.1
    innermost-meets a (Inside b e) l h = innermost-meets b e h.0 h.1
    innermost-meets a (Done v) l h = l
    innermost-meets a (Var x) l h = l
    innermost-meets a (While e f) l h = l
    innermost-meets a (And e f) l h = l
    innermost-meets a (Or e f) l h = l
    innermost-meets a (Make xs e) l h = l
    innermost-meets a (Tree d) l h = l

    innermost-among-meets : (a : ActId) (es : Runnings) → c.act a → SatisfyAll c es → c.act (innermost_among a es)
    innermost-among-meets a none l h = l
    innermost-among-meets a (more e es) l h =
        chosen_act (is_value e) (innermost_among a es) (innermost a e) (innermost-among-meets a es l h.1) (innermost-meets a e l h.0)

  module _ (g : Running → Running) (keeps : (e : Running) → Satisfies c e → Satisfies c (g e)) where
    mutual
      pub rewritten-meets : (e : Running) → Satisfies c e → Satisfies c (rewritten g e)
      rewritten-meets (Let x e) h = chosen (is_value e) (Satisfies c) (g (Let x e)) (Let x (rewritten g e)) (keeps (Let x e) h) (h.0, rewritten-meets e h.1)
      rewritten-meets (Set x e) h = chosen (is_value e) (Satisfies c) (g (Set x e)) (Set x (rewritten g e)) (keeps (Set x e) h) (h.0, rewritten-meets e h.1)
      rewritten-meets (If e f f') h = chosen (is_value e) (Satisfies c) (g (If e f f')) (If (rewritten g e) f f') (keeps (If e f f') h) (rewritten-meets e h.0, h.1, h.2)
      rewritten-meets (Do es) h = chosen (begins_done es) (Satisfies c) (g (Do es)) (Do (rewritten_among g es)) (keeps (Do es) h) (rewritten-meet-all es h)
      rewritten-meets (Apply e es) h =
          chosen (is_value e) (Satisfies c) (cond (are_values es) (g (Apply e es)) (Apply e (rewritten_among g es))) (Apply (rewritten g e) es)
          (chosen (are_values es) (Satisfies c) (g (Apply e es)) (Apply e (rewritten_among g es)) (keeps (Apply e es) h) (h.0, rewritten-meet-all es h.1))
          (rewritten-meets e h.0, h.1)
      rewritten-meets (Prim op es) h =
          chosen (are_values es) (Satisfies c) (g (Prim op es)) (Prim op (rewritten_among g es)) (keeps (Prim op es) h) (rw (many g es) h.0, rewritten-meet-all es h.1)
      rewritten-meets (Inside a e) h = chosen (is_value e) (Satisfies c) (g (Inside a e)) (Inside a (rewritten g e)) (keeps (Inside a e) h) (h.0, rewritten-meets e h.1)
      rewritten-meets (Done v) h = h
      rewritten-meets (Var x) h = keeps (Var x) h
      rewritten-meets (While e f) h = keeps (While e f) h
      rewritten-meets (And e f) h = keeps (And e f) h
      rewritten-meets (Or e f) h = keeps (Or e f) h
      rewritten-meets (Make xs e) h = keeps (Make xs e) h
      rewritten-meets (Tree d) h = keeps (Tree d) h

      rewritten-meet-all : (es : Runnings) → SatisfyAll c es → SatisfyAll c (rewritten_among g es)
      rewritten-meet-all none h = tt
      rewritten-meet-all (more e es) h =
          chosen_list (is_value e) (SatisfyAll c) (more e (rewritten_among g es)) (more (rewritten g e) es) (h.0, rewritten-meet-all es h.1) (rewritten-meets e h.0, h.1)

  -- the local rows need only that null and the truth values are fine
  module _ (null : c.val val.Null) (truth : (b : Bool) → c.val (val.Bool b)) where
    -- what a redex becomes that no store decides meets what it does
    pub local-meets : (e : Running) → Satisfies c e → Satisfies c (local_row e)
    local-meets (While e f) h = (h.0, (h.1, (h, tt)), null)
    local-meets (Do none) h = null
    local-meets (Do (more e none)) h = h.0
    local-meets (Do (more e (more f es))) h = h.1
    local-meets (And e f) h = (h.0, h.1, truth false)
    local-meets (Or e f) h = (h.0, truth true, h.1)
    local-meets (Inside a e) h = h.1
    local-meets (Done v) h = h
    local-meets (Var x) h = h
    local-meets (Let x e) h = h
    local-meets (Set x e) h = h
    local-meets (If e f g) h = h
    local-meets (Make xs e) h = h
    local-meets (Apply e es) h = h
    local-meets (Tree d) h = h
    local-meets (Prim op es) h = h

  -- so does a branch
  pub branch-meets : (b : Bool) (e : Running) → Satisfies c e → Satisfies c (branch b e)
  branch-meets true (If e f g) h = h.1
  branch-meets false (If e f g) h = h.2
  branch-meets b (Done v) h = h
  branch-meets b (Var x) h = h
  branch-meets b (Let x e) h = h
  branch-meets b (Set x e) h = h
  branch-meets b (While e f) h = h
  branch-meets b (Do es) h = h
  branch-meets b (And e f) h = h
  branch-meets b (Or e f) h = h
  branch-meets b (Make xs e) h = h
  branch-meets b (Apply e es) h = h
  branch-meets b (Tree d) h = h
  branch-meets b (Prim op es) h = h
  branch-meets b (Inside a e) h = h

-- the operands of an operator that was read are as many as its values
pub many-values : (vs : List Val) → how_many (values vs) ≡ length vs
many-values [] = refl
many-values (v ∷ vs) = let p = many-values vs in omega arith

-- the values among some values are all
pub vals_of_values : (vs : List Val) → vals_of (values vs) ≡ vs
vals_of_values [] = refl
vals_of_values (v ∷ vs) = ap (λ (ws : List Val). v ∷ ws) (vals_of_values vs)
