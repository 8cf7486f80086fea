-- The operands that an operator reads: what holds of each value holds of them.
use Rattle.std.proofs.Common.{◌≡◌, ℕ, ℤ, Option, Some, None, Result, Err, List, [], ◌∷◌, refl, subst}
use Rattle.std.specs.List.{AllByRecursion}
use Rattle.ff_operators.specs.Operands.{with_operands, one_num, two_nums, two_strs, str_num, str_nums, one_node, node_str, node_str_num}
use Rattle.ff_value.specs.declared.fault.Fault.{Fault}
use Rattle.ff_value.specs.declared.fault.Fault.TheVariants as fault
use Rattle.ff_value.specs.declared.ids.NodeId.{NodeId}
use Rattle.ff_value.specs.declared.value.Val.{Val}
use Rattle.ff_value.specs.declared.value.Val.TheVariants as val

-- what holds of the fault for operands of other kinds, and of what each operands that are read give
pub operands_give : {X Y : Type 0} (G : Result Y Fault → Type 0) → G (Err fault.Kind) → (o : Option X) (f : X → Result Y Fault) → ((x : X) → o ≡ Some x → G (f x)) → G (with_operands o f)
operands_give G none None f each = none
operands_give G none (Some x) f each = each x refl

module _ (P : Val → Type 0) where
  pub one_num_holds : (args : List Val) (o : ℤ) → AllByRecursion P args → one_num args ≡ Some o → P (val.Num o)
  one_num_holds (val.Num a ∷ []) o all e = let is : a ≡ o = cc in subst (λ x. P (val.Num x)) is all.0
  one_num_holds other o all e = cc

  pub two_nums_hold : (args : List Val) (o : ℤ × ℤ) → AllByRecursion P args → two_nums args ≡ Some o → P (val.Num o.0) × P (val.Num o.1)
  two_nums_hold (val.Num a ∷ val.Num b ∷ []) o all e = let is : (a, b) ≡ o = cc in subst (λ (x : ℤ × ℤ). P (val.Num x.0) × P (val.Num x.1)) is (all.0, all.1.0)
  two_nums_hold other o all e = cc

  pub two_strs_hold : (args : List Val) (o : List ℕ × List ℕ) → AllByRecursion P args → two_strs args ≡ Some o → P (val.Str o.0) × P (val.Str o.1)
  two_strs_hold (val.Str a ∷ val.Str b ∷ []) o all e = let is : (a, b) ≡ o = cc in subst (λ (x : List ℕ × List ℕ). P (val.Str x.0) × P (val.Str x.1)) is (all.0, all.1.0)
  two_strs_hold other o all e = cc

  pub str_num_holds : (args : List Val) (o : List ℕ × ℤ) → AllByRecursion P args → str_num args ≡ Some o → P (val.Str o.0) × P (val.Num o.1)
  str_num_holds (val.Str a ∷ val.Num b ∷ []) o all e = let is : (a, b) ≡ o = cc in subst (λ (x : List ℕ × ℤ). P (val.Str x.0) × P (val.Num x.1)) is (all.0, all.1.0)
  str_num_holds other o all e = cc

  pub str_nums_hold : (args : List Val) (o : List ℕ × ℤ × ℤ) → AllByRecursion P args → str_nums args ≡ Some o → P (val.Str o.0) × P (val.Num o.1) × P (val.Num o.2)
  str_nums_hold (val.Str a ∷ val.Num b ∷ val.Num c ∷ []) o all e = let is : (a, b, c) ≡ o = cc in subst (λ (x : List ℕ × ℤ × ℤ). P (val.Str x.0) × P (val.Num x.1) × P (val.Num x.2)) is (all.0, all.1.0, all.1.1.0)
  str_nums_hold other o all e = cc

  pub one_node_holds : (args : List Val) (o : NodeId) → AllByRecursion P args → one_node args ≡ Some o → P (val.Node o)
  one_node_holds (val.Node a ∷ []) o all e = let is : a ≡ o = cc in subst (λ x. P (val.Node x)) is all.0
  one_node_holds other o all e = cc

  pub node_str_holds : (args : List Val) (o : NodeId × List ℕ) → AllByRecursion P args → node_str args ≡ Some o → P (val.Node o.0) × P (val.Str o.1)
  node_str_holds (val.Node a ∷ val.Str b ∷ []) o all e = let is : (a, b) ≡ o = cc in subst (λ (x : NodeId × List ℕ). P (val.Node x.0) × P (val.Str x.1)) is (all.0, all.1.0)
  node_str_holds other o all e = cc

  pub node_str_num_holds : (args : List Val) (o : NodeId × List ℕ × ℤ) → AllByRecursion P args → node_str_num args ≡ Some o → P (val.Node o.0) × P (val.Str o.1) × P (val.Num o.2)
  node_str_num_holds (val.Node a ∷ val.Str b ∷ val.Num c ∷ []) o all e = let is : (a, b, c) ≡ o = cc in subst (λ (x : NodeId × List ℕ × ℤ). P (val.Node x.0) × P (val.Str x.1) × P (val.Num x.2)) is (all.0, all.1.0, all.1.1.0)
  node_str_num_holds other o all e = cc
