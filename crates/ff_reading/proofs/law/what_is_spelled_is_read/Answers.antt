use Rattle.ff_reading.proofs.Completes.{doc_complete, expr_complete, resp_complete}
use Rattle.ff_reading.proofs.Sounds.{spelled_doc, spelled_expr, spelled_resp}
use Rattle.ff_reading.proofs.law.what_is_spelled_is_read.Goals as goal

pub returns : goal.returns
returns c = record {
  docs = λ item doc. (spelled_doc item doc, doc_complete item doc);
  exprs = λ item expr. (spelled_expr item expr, expr_complete item expr);
  resps = λ item resp. (spelled_resp item resp, resp_complete item resp);
}
