-- What a reader answers is what the rules of spelling and of faults say, and well spelled where the
-- item is.
use Rattle.std.proofs.Common.{◌≡◌, ◌⊎◌, Result, Ok, Err, IfOk, IfErr, inl, inr, subst}
use Rattle.ff_tree.specs.Spelled.{IsWellSpelledDoc, IsWellSpelledExpr}
use Rattle.ff_tree.specs.declared.tree.Doc.{Doc}
use Rattle.ff_tree.specs.declared.tree.Expr.{Expr}
use Rattle.ff_value.specs.Spelled.{IsWellSpelledResp}
use Rattle.ff_value.specs.declared.reply.Resp.{Resp}
use Rattle.ff_text.specs.Printed.{IsWellSpelled}
use Rattle.ff_text.specs.declared.items.Sexp.{Sexp}
use Rattle.ff_forms.specs.Grammar.{Sort, Value, Gives, reading, a_document, an_expression, a_response}
use Rattle.ff_forms.specs.Faults.{SpellsAs, FirstFault}
use Rattle.ff_forms.specs.declared.fault.SyntaxFault.{SyntaxFault}
use Rattle.ff_forms.specs.declared.fault.SyntaxFault.TheVariants as fault
use Rattle.ff_reading.proofs.Each.{given_ok, given_err}
use Rattle.ff_reading.proofs.Sounds.{spelled_doc, spelled_expr, spelled_resp}
use Rattle.ff_reading.proofs.Sorts.{spelled_read, read_spelled}
use Rattle.ff_reading.proofs.Faulty.{refused_fault}
use Rattle.ff_reading.proofs.Refused.{fault_refused}
use Rattle.ff_reading.proofs.Wells.{well_doc, well_expr, well_resp}

pub doc_result : (item : Sexp) (given : Result Doc SyntaxFault) → Gives given (reading item a_document) → IsWellSpelled item → IfOk given IsWellSpelledDoc
doc_result item (Ok d) gives well = well_doc item d (spelled_doc item d (given_ok d (reading item a_document) gives)) well
doc_result item (Err which) gives well = tt

pub expr_result : (item : Sexp) (given : Result Expr SyntaxFault) → Gives given (reading item an_expression) → IsWellSpelled item → IfOk given IsWellSpelledExpr
expr_result item (Ok e) gives well = well_expr item e (spelled_expr item e (given_ok e (reading item an_expression) gives)) well
expr_result item (Err which) gives well = tt

pub resp_result : (item : Sexp) (given : Result Resp SyntaxFault) → Gives given (reading item a_response) → IsWellSpelled item → IfOk given IsWellSpelledResp
resp_result item (Ok r) gives well = well_resp item r (spelled_resp item r (given_ok r (reading item a_response) gives)) well
resp_result item (Err which) gives well = tt

-- what is found is spelled so
pub found_result : (which : Sort) (item : Sexp) (given : Result (Value which) SyntaxFault) → Gives given (reading item which) → IfOk given (SpellsAs which item)
found_result which item (Ok value) gives = read_spelled which item value (given_ok value (reading item which) gives)
found_result which item (Err found) gives = tt

-- what is spelled so is given
pub only_result : (which : Sort) (item : Sexp) (given : Result (Value which) SyntaxFault) → Gives given (reading item which) → (value : Value which) → SpellsAs which item value → Gives given (Ok value)
only_result which item given gives value spells = subst (Gives given) (spelled_read which item value spells) gives

-- a fault that is given is the first
pub fault_result : (which : Sort) (item : Sexp) (given : Result (Value which) SyntaxFault) → Gives given (reading item which) → IfErr given (λ found. (found ≡ fault.NoMemory) ⊎ FirstFault which item found)
fault_result which item (Ok value) gives = tt
fault_result which item (Err found) gives = elim (given_err found (reading item which) gives) [
  | inl same ↦ inr (refused_fault item which found same)
  | inr memory ↦ inl memory
]

-- the first fault is given
pub exact_result : (which : Sort) (item : Sexp) (given : Result (Value which) SyntaxFault) → Gives given (reading item which) → (found : SyntaxFault) → FirstFault which item found → Gives given (Err found)
exact_result which item given gives found first = subst (Gives given) (fault_refused which item found first) gives
