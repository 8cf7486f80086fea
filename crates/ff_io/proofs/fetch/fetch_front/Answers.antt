use Rattle.std.proofs.Common.{◌≡◌, ◌⊎◌, inl, inr, ℕ, List, Ok, length, take, length-take, subst, ◌∙◌, arith}
use Rattle.std.specs.Result.{IsErrOf}
use Rattle.ff_io.specs.declared.fetch.FetchFail.TheVariants as FetchFail
use Rattle.ff_io.specs.Fetched.{IsFetchedPiece}
use Rattle.ff_io.proofs.Fetching.{IsAsking, IsFetching, asking_more, asked_more, fetching_more}
use Rattle.ff_io.proofs.fetch.fetch_front.Goals as goal

pub returns-in_err-ended-clause-fetches : goal.returns-in_err-ended-clause-fetches
returns-in_err-ended-clause-fetches g c =
    let at = c.loop-ended.invariant.asking in
    asked_more c.args.name.now c.args.limit (g.S.Shelf.fetches c.args.shelf.now) (g.S.Shelf.fetches c.loop-ended.shelf) (g.S.Shelf.fetches c.fetch_piece.new.shelf) c.loop-ended.bytes.items c.fetch_piece.new.bytes.items c.fetch_piece.result
    (subst (λ b. IsAsking c.args.name.now c.args.limit (g.S.Shelf.fetches c.args.shelf.now) (g.S.Shelf.fetches c.loop-ended.shelf) c.loop-ended.bytes.items b) c.loop-ended-test.true at)
    (let long = c.len.ensures in let lt = c.if-len-limit.true in omega (arith, long, lt)) c.fetch_piece.ensures.made

pub loop-ended-preserved : goal.loop-ended-preserved
loop-ended-preserved g c =
    let at = c.loop-ended.invariant in
    let name = c.args.name.now in
    let limit = c.args.limit in
    let files = g.S.Shelf.files c.args.shelf.now in
    let first = g.S.Shelf.fetches c.args.shelf.now in
    let before = g.S.Shelf.fetches c.loop-ended.shelf in
    let now = g.S.Shelf.fetches c.fetch_piece.new.shelf in
    let bytes = c.loop-ended.bytes.items in
    let kept = c.fetch_piece.new.bytes.items in
    let ended = c.in_ok-ended.ended in
    let made = c.in_ok-ended.ensures in
    let long = c.len.ensures in
    let lt = c.if-len-limit.true in
    let size = length (take c.size_of_fetch-size.result c.deref_mut.result.now) in
    record {
      fetching =
          fetching_more files name limit size bytes kept ended (subst (λ b. IsFetching files name limit bytes b) c.loop-ended-test.true at.fetching)
          (omega (arith, long, lt, c.len-in-loop-ended.ensures, c.size_of_fetch-size.ensures, length-take c.size_of_fetch-size.result c.deref_mut.result.now))
          (subst (λ fs. IsFetchedPiece fs name bytes kept size ended) at.files made.piece);
      asking =
          asking_more name limit first before now bytes kept ended (subst (λ b. IsAsking name limit first before bytes b) c.loop-ended-test.true at.asking)
          (omega (arith, long, lt)) made.made;
      chunk = at.chunk;
      files = made.files ∙ at.files;
      unfailed = λ other. unfailed made.unfailed other ∙ at.unfailed other;
      later = λ other. let past = at.later other in let more = made.later other in omega (arith, past, more);
    }
  where
    unfailed : (IsErrOf (Ok c.in_ok-ended.ended) FetchFail.Fetch ⊎ ((other : List ℕ) → g.S.Shelf.faults c.fetch_piece.new.shelf other ≡ g.S.Shelf.faults c.loop-ended.shelf other))
        → (other : List ℕ) → g.S.Shelf.faults c.fetch_piece.new.shelf other ≡ g.S.Shelf.faults c.loop-ended.shelf other
    unfailed (inl failed) = cc
    unfailed (inr kept) = kept
