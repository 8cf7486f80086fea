use Rattle.std.proofs.Common.{Some, [], ◌∷◌, ◌++◌, length, take_all, append-nil, sym, ap, ◌∙◌, arith}
use Rattle.ff_io.specs.Pieces.{put_of}
use Rattle.ff_io.specs.Pieces.Piece.{Put}
use Rattle.ff_io.proofs.Joins.{put_of-append}
use Rattle.ff_io.proofs.std_err.StdErrSink.write.Goals as goal

-- the whole piece was put
pub returns-in-Ok-eprint-clause-put : goal.returns-in-Ok-eprint-clause-put
returns-in-Ok-eprint-clause-put g c =
    let old = c.args.self.now.journal.pieces in
    let piece = c.args.piece.now in
    ap (λ pieces. Some (put_of pieces)) c.put.ensures
    ∙ ap Some (put_of-append old (Put piece ∷ []) ∙ ap (λ bytes. put_of old ++ bytes) (append-nil piece ∙ sym (take_all (length piece) piece (omega arith))))
