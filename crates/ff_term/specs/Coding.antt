-- A code for runtime expressions, by which a proof tells two of them apart.
use Rattle.std.specs.Prelude.{◌≡◌, ℕ, List, refl}
use Rattle.std.specs.Coded.{Coded, coded×, coded_ℕ, coded_list, code_by}
use Rattle.std.proofs.Common.{ap, arith}
use base.Stored.{Gv, gnil, gnum, gcons, num}
use Rattle.ff_value.specs.declared.ids.ActId.{ActId}
use Rattle.ff_tree.specs.contracts.op.Op as operator
use Rattle.ff_tree.specs.contracts.tree.Doc as doc
use Rattle.ff_tree.specs.contracts.tree.Expr as expr
use Rattle.ff_value.specs.contracts.ids.ActId as act
use Rattle.ff_value.specs.contracts.value.Val as val
use Rattle.ff_term.specs.Running.{Running, Runnings, Done, Var, Let, Set, If, While, Do, And, Or, Make, Apply, Tree, Prim, Inside, none, more, Evaluation}

abbrev names : Coded (List ℕ)
names = coded_list coded_ℕ

abbrev lists : Coded (List (List ℕ))
lists = coded_list names

abbrev mutual
  -- the number of its kind, and the codes of its parts
  pub code : Running → Gv
  code (Done v) = gcons (gnum 0) (val.the_row.coded.code v)
  code (Var x) = gcons (gnum 1) (names.code x)
  code (Let x e) = gcons (gnum 2) (gcons (names.code x) (code e))
  code (Set x e) = gcons (gnum 3) (gcons (names.code x) (code e))
  code (If e f g) = gcons (gnum 4) (gcons (code e) (gcons (code f) (code g)))
  code (While e f) = gcons (gnum 5) (gcons (code e) (code f))
  code (Do es) = gcons (gnum 6) (codes es)
  code (And e f) = gcons (gnum 7) (gcons (code e) (code f))
  code (Or e f) = gcons (gnum 8) (gcons (code e) (code f))
  code (Make xs e) = gcons (gnum 9) (gcons (lists.code xs) (expr.the_row.coded.code e))
  code (Apply e es) = gcons (gnum 10) (gcons (code e) (codes es))
  code (Tree d) = gcons (gnum 11) (doc.the_row.coded.code d)
  code (Prim op es) = gcons (gnum 12) (gcons (operator.the_row.coded.code op) (codes es))
  code (Inside a e) = gcons (gnum 13) (gcons (act.the_row.coded.code a) (code e))

  -- the codes of some expressions, in their order
  pub codes : Runnings → Gv
  codes none = gnil
  codes (more e es) = gcons (code e) (codes es)

abbrev head : Gv → Gv
head gnil = gnil
head (gnum n) = gnil
head (gcons a b) = a

kind : {m n : ℕ} {a b : Gv} → gcons (gnum m) a ≡ gcons (gnum n) b → m ≡ n
kind e = ap (λ g. num (head g)) e

left : {a b c d : Gv} → gcons a b ≡ gcons c d → a ≡ c
left e = cc

right : {a b c d : Gv} → gcons a b ≡ gcons c d → b ≡ d
right e = cc

mutual
  -- expressions of one code are equal
  pub code_inj : (x y : Running) → code x ≡ code y → x ≡ y
  code_inj (Done v) (Done w) e = ap Done (val.the_row.coded.inj v w (right e))
  code_inj (Var x) (Var y) e = ap Var (names.inj x y (right e))
  code_inj (Let x e) (Let y f) h =
      let p : x ≡ y = names.inj x y (left (right h)) in let q : e ≡ f = code_inj e f (right (right h)) in cc
  code_inj (Set x e) (Set y f) h =
      let p : x ≡ y = names.inj x y (left (right h)) in let q : e ≡ f = code_inj e f (right (right h)) in cc
  code_inj (If e f g) (If e' f' g') h =
      let p : e ≡ e' = code_inj e e' (left (right h)) in let q : f ≡ f' = code_inj f f' (left (right (right h))) in
      let r : g ≡ g' = code_inj g g' (right (right (right h))) in cc
  code_inj (While e f) (While e' f') h =
      let p : e ≡ e' = code_inj e e' (left (right h)) in let q : f ≡ f' = code_inj f f' (right (right h)) in cc
  code_inj (Do es) (Do fs) h = ap Do (codes_inj es fs (right h))
  code_inj (And e f) (And e' f') h =
      let p : e ≡ e' = code_inj e e' (left (right h)) in let q : f ≡ f' = code_inj f f' (right (right h)) in cc
  code_inj (Or e f) (Or e' f') h =
      let p : e ≡ e' = code_inj e e' (left (right h)) in let q : f ≡ f' = code_inj f f' (right (right h)) in cc
  code_inj (Make xs e) (Make ys f) h =
      let p : xs ≡ ys = lists.inj xs ys (left (right h)) in let q : e ≡ f = expr.the_row.coded.inj e f (right (right h)) in cc
  code_inj (Apply e es) (Apply f fs) h =
      let p : e ≡ f = code_inj e f (left (right h)) in let q : es ≡ fs = codes_inj es fs (right (right h)) in cc
  code_inj (Tree d) (Tree d') h = ap Tree (doc.the_row.coded.inj d d' (right h))
  code_inj (Prim o es) (Prim o' fs) h =
      let p : o ≡ o' = operator.the_row.coded.inj o o' (left (right h)) in let q : es ≡ fs = codes_inj es fs (right (right h)) in cc
  code_inj (Inside a e) (Inside b f) h =
      let p : a ≡ b = act.the_row.coded.inj a b (left (right h)) in let q : e ≡ f = code_inj e f (right (right h)) in cc
  code_inj _ _ h = absurd (omega (arith, kind h))

  -- the same of lists of them
  pub codes_inj : (xs ys : Runnings) → codes xs ≡ codes ys → xs ≡ ys
  codes_inj none none h = refl
  codes_inj (more e es) (more f fs) h =
      let p : e ≡ f = code_inj e f (left h) in let q : es ≡ fs = codes_inj es fs (right h) in cc
  codes_inj none (more f fs) h = cc
  codes_inj (more e es) none h = cc

-- expressions by that code
abbrev pub coded_running : Coded Running
coded_running = record { code = code; inj = code_inj }

-- an evaluation by its two parts
abbrev pub coded_evaluation : Coded Evaluation
coded_evaluation =
    code_by (ActId × Running) (coded× act.the_row.coded coded_running) (λ t. (t.base, t.expr)) (λ p. record { base = p.0; expr = p.1 }) (λ _. refl)
