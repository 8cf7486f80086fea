-- Weaker conditions, and what a redex hands out.
use Rattle.std.proofs.Common.{◌≡◌, ℕ, List, [], ◌∷◌, All, subst}
use Rattle.std.proofs.lemmas.List.Elements.{All-nil, All-cons}
use Rattle.ff_tree.specs.declared.op.Op.{Op}
use Rattle.ff_tree.specs.declared.tree.Doc.{Doc}
use Rattle.ff_tree.specs.declared.tree.Expr.{Expr}
use Rattle.ff_value.specs.declared.ids.ActId.{ActId}
use Rattle.ff_value.specs.declared.value.Val.{Val}
use Rattle.ff_term.specs.Running.{Running, Runnings, Done, Var, Let, Set, If, While, Do, And, Or, Make, Apply, Tree, Prim, Inside, none, more, redex, values}
use Rattle.ff_term.specs.Conditions.{Conditions, Satisfies, SatisfyAll, how_many}
use Rattle.ff_term.specs.Redexes.{IsRedexOf, GivesSound}
use Rattle.ff_term.specs.Redex.{Redex}
use Rattle.ff_term.specs.Redex as read
use Rattle.ff_term.proofs.Keeping.{redex-meets, many-values}

-- each of the first conditions gives the second one
pub record AreWeaker (c d : Conditions) : Type 0 where
  pub val : (v : Val) → c.val v → d.val v
  pub var : (x : List ℕ) → c.var x → d.var x
  pub make : (xs : List (List ℕ)) (e : Expr) → c.make xs e → d.make xs e
  pub tree : (t : Doc) → c.tree t → d.tree t
  pub prim : (op : Op) (n : ℕ) → c.prim op n → d.prim op n
  pub act : (a : ActId) → c.act a → d.act a

module _ (c d : Conditions) (w : AreWeaker c d) where
  mutual
    -- what meets the first conditions meets the second
    pub weaker : (e : Running) → Satisfies c e → Satisfies d e
    weaker (Done v) h = w.val v h
    weaker (Var x) h = w.var x h
    weaker (Let x e) h = (w.var x h.0, weaker e h.1)
    weaker (Set x e) h = (w.var x h.0, weaker e h.1)
    weaker (If e f g) h = (weaker e h.0, weaker f h.1, weaker g h.2)
    weaker (While e f) h = (weaker e h.0, weaker f h.1)
    weaker (Do es) h = weaker-all es h
    weaker (And e f) h = (weaker e h.0, weaker f h.1)
    weaker (Or e f) h = (weaker e h.0, weaker f h.1)
    weaker (Make xs e) h = w.make xs e h
    weaker (Apply e es) h = (weaker e h.0, weaker-all es h.1)
    weaker (Tree t) h = w.tree t h
    weaker (Prim op es) h = (w.prim op (how_many es) h.0, weaker-all es h.1)
    weaker (Inside a e) h = (w.act a h.0, weaker e h.1)

    -- the same of lists
    pub weaker-all : (es : Runnings) → SatisfyAll c es → SatisfyAll d es
    weaker-all none h = tt
    weaker-all (more e es) h = (weaker e h.0, weaker-all es h.1)

values-meet : (c : Conditions) (vs : List Val) → SatisfyAll c (values vs) → All c.val vs
values-meet c [] h = All-nil c.val
values-meet c (v ∷ vs) h = All-cons c.val v vs h.0 (values-meet c vs h.1)

along : (c : Conditions) {e f : Running} → e ≡ f → Satisfies c e → Satisfies c f
along c p h = subst (Satisfies c) p h

gives : (c : Conditions) (r : Redex) (e : Running) → IsRedexOf r e → Satisfies c e → GivesSound c r
gives c read.Local e is h = tt
gives c (read.Test v) e is h = (along c is.1.1 h).0
gives c (read.Var x) e is h = along c is h
gives c (read.Let x v) e is h = along c is h
gives c (read.Set x v) e is h = along c is h
gives c (read.Make xs f) e is h = along c is h
gives c (read.Apply f vs) e is h = let p = along c is h in (p.0, values-meet c vs p.1)
gives c (read.Prim op vs) e is h =
    let p = along c is h in (subst (λ (n : ℕ). c.prim op n) (many-values vs) p.0, values-meet c vs p.1)
gives c (read.Tree d) e is h = along c is h

-- what the redex of a sound expression hands out is sound
pub gives-sound : (c : Conditions) (r : Redex) (e : Running) → IsRedexOf r (redex e) → Satisfies c e → GivesSound c r
gives-sound c r e is h = gives c r (redex e) is (redex-meets c e h)
