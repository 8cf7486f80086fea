-- What is printed for a well spelled value spells an item that spells the value.
use Rattle.ff_tree.specs.Spelled.{IsWellSpelledDoc, IsWellSpelledExpr}
use Rattle.ff_tree.specs.declared.tree.Doc.{Doc}
use Rattle.ff_tree.specs.declared.tree.Expr.{Expr}
use Rattle.ff_value.specs.Spelled.{IsWellSpelledResp}
use Rattle.ff_value.specs.declared.reply.Resp.{Resp}
use Rattle.ff_text.specs.Printed.{spelled}
use Rattle.ff_text.proofs.Back.{reads_back}
use Rattle.ff_forms.specs.Canonical.{doc_item, expr_item, resp_item}
use Rattle.ff_printing.specs.Again.{ReadsBackDoc, ReadsBackExpr, ReadsBackResp}
use Rattle.ff_printing.proofs.Fitting.{doc_item_well_spelled, expr_item_well_spelled, resp_item_well_spelled}
use Rattle.ff_printing.proofs.Respelled.{doc_respelled, expr_respelled, resp_respelled}

pub doc_reads_back : (d : Doc) → IsWellSpelledDoc d → ReadsBackDoc (spelled (doc_item d)) d
doc_reads_back d well =
    let back = reads_back (doc_item d) (doc_item_well_spelled d well) in
    record { item = back.again; spells = back.spells; value = doc_respelled d well.spelled back.again back.same }

pub expr_reads_back : (e : Expr) → IsWellSpelledExpr e → ReadsBackExpr (spelled (expr_item e)) e
expr_reads_back e well =
    let back = reads_back (expr_item e) (expr_item_well_spelled e well) in
    record { item = back.again; spells = back.spells; value = expr_respelled e well.spelled back.again back.same }

pub resp_reads_back : (r : Resp) → IsWellSpelledResp r → ReadsBackResp (spelled (resp_item r)) r
resp_reads_back r well =
    let back = reads_back (resp_item r) (resp_item_well_spelled r well) in
    record { item = back.again; spells = back.spells; value = resp_respelled r well.spelled back.again back.same }
