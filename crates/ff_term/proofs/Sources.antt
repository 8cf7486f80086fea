-- An expression that nothing was evaluated of stands in no call.
use Rattle.std.proofs.Common.{◌≡◌, List, [], ◌∷◌, refl, arith, cond, Bool, true, false}
use Rattle.ff_tree.specs.declared.tree.Expr.{Expr}
use Rattle.ff_value.specs.declared.ids.ActId.{ActId}
use Rattle.ff_term.specs.Running.{Running, Runnings, Do, insides, insides_among, innermost, innermost_among, is_value, begins_done}
use Rattle.ff_term.specs.Whole.{whole, wholes}
use Rattle.ff_term.proofs.Forms.{whole-Lit, whole-Var, whole-Let, whole-Set, whole-If, whole-While, whole-Do, whole-And, whole-Or, whole-Make, whole-Apply, whole-Tree, whole-Prim}
use Rattle.ff_term.proofs.Induction.{Each, ByForms, by_forms}

-- no call, and so the activation that it runs in
pub record IsSource (e : Running) : Type 0 where
  pub insides : insides e ≡ 0
  pub innermost : (a : ActId) → innermost a e ≡ a

-- the same of some expressions
pub record AreSources (es : Runnings) : Type 0 where
  pub insides : insides_among es ≡ 0
  pub innermost : (a : ActId) → innermost_among a es ≡ a

cond_same : {A : Type 0} (b : Bool) (x y z : A) → x ≡ z → y ≡ z → cond b x y ≡ z
cond_same true x y z p q = p
cond_same false x y z p q = q

sources : (es : List Expr) → Each (λ e. IsSource (whole e)) es → AreSources (wholes es)
sources [] h = record { insides = refl; innermost = λ a. refl }
sources (e ∷ es) h =
    let rest : AreSources (wholes es) = sources es h.1 in
    record {
      insides = let p = h.0.insides in let q = rest.insides in omega arith;
      innermost = λ a. cond_same (is_value (whole e)) (innermost_among a (wholes es)) (innermost a (whole e)) a (rest.innermost a) (h.0.innermost a);
    }

source_do : (es : Runnings) → AreSources es → IsSource (Do es)
source_do es h = record { insides = h.insides; innermost = λ a. cond_same (begins_done es) a (innermost_among a es) a refl (h.innermost a) }

at : {e f : Running} → e ≡ f → IsSource f → IsSource e
at p h = rw p h

source_forms : ByForms (λ e. IsSource (whole e))
source_forms = record {
  lit = λ l. at (whole-Lit l) (record { insides = refl; innermost = λ a. refl });
  var = λ x. at (whole-Var x) (record { insides = refl; innermost = λ a. refl });
  let_form = λ x e h. at (whole-Let x e) (record { insides = h.insides; innermost = h.innermost });
  set_form = λ x e h. at (whole-Set x e) (record { insides = h.insides; innermost = h.innermost });
  if_form = λ e f g p q r. at (whole-If e f g) (record { insides = let x = p.insides in let y = q.insides in let z = r.insides in omega arith; innermost = p.innermost });
  while_form = λ e f p q. at (whole-While e f) (record { insides = let x = p.insides in let y = q.insides in omega arith; innermost = λ a. refl });
  do_form = λ es h. at (whole-Do es) (source_do (wholes es) (sources es h));
  and_form = λ e f p q. at (whole-And e f) (record { insides = let x = p.insides in let y = q.insides in omega arith; innermost = λ a. refl });
  or_form = λ e f p q. at (whole-Or e f) (record { insides = let x = p.insides in let y = q.insides in omega arith; innermost = λ a. refl });
  make_form = λ xs e h. at (whole-Make xs e) (record { insides = refl; innermost = λ a. refl });
  apply_form = λ e es h hs. at (whole-Apply e es) (let all : AreSources (wholes es) = sources es hs in record {
    insides = let x = h.insides in let y = all.insides in omega arith;
    innermost = λ a. cond_same (is_value (whole e)) (innermost_among a (wholes es)) (innermost a (whole e)) a (all.innermost a) (h.innermost a);
  });
  tree_form = λ d. at (whole-Tree d) (record { insides = refl; innermost = λ a. refl });
  prim_form = λ op es h. at (whole-Prim op es) (let all : AreSources (wholes es) = sources es h in record { insides = all.insides; innermost = all.innermost });
}

-- each expression of which nothing was evaluated is one
pub source : (e : Expr) → IsSource (whole e)
source = by_forms (λ e. IsSource (whole e)) source_forms

all_sources : (es : List Expr) → Each (λ e. IsSource (whole e)) es
all_sources [] = tt
all_sources (e ∷ es) = (source e, all_sources es)

-- the same of lists
pub sources_of : (es : List Expr) → AreSources (wholes es)
sources_of es = sources es (all_sources es)
