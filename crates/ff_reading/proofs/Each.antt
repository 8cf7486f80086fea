-- The parts of a list as values of one sort, up to a place.
use Rattle.std.proofs.Common.{◌≡◌, ◌⊎◌, ◌+◌, ℕ, List, [], ◌++◌, map, drop, Result, Ok, Err, inl, inr, sym}
use Rattle.ff_text.specs.declared.items.Sexp.{Sexp}
use Rattle.ff_forms.specs.Grammar.{Sort, Value, Gives, reading, and_then, each_as, parameters_as}
use Rattle.ff_forms.specs.declared.fault.SyntaxFault.{SyntaxFault}
use Rattle.ff_forms.specs.declared.fault.SyntaxFault.TheVariants as fault

-- a value that is given is the answer
pub given_ok : {X : Type 0} (value : X) (answer : Result X SyntaxFault) → Gives (Ok value) answer → answer ≡ Ok value
given_ok value answer gives = elim gives [
  | inl same ↦ sym same
  | inr memory ↦ cc
]

-- a fault that is given is the answer or want of memory
pub given_err : {X : Type 0} (which : SyntaxFault) (answer : Result X SyntaxFault) → Gives (Err which) answer → (answer ≡ Err which) ⊎ (which ≡ fault.NoMemory)
given_err which answer gives = elim gives [
  | inl same ↦ inl (sym same)
  | inr memory ↦ let is : which ≡ fault.NoMemory = cc in inr is
]

-- what the parts are, from those before a place and those from it on
pub record Before (sort : Sort) (parts : List Sexp) (i : ℕ) (done : List (Value sort)) : Type 0 where
  pub is : each_as sort (map reading parts) ≡ and_then (each_as sort (map reading (drop i parts))) (λ rest. Ok (done ++ rest))

-- the same of parameters, which are what stands before with those from the place on
pub record Named (parts : List Sexp) (i : ℕ) (done : List (List ℕ)) : Type 0 where
  pub is : parameters_as [] (map reading parts) ≡ parameters_as done (map reading (drop i parts))
