use Rattle.std.proofs.Common.{◌/◌, ◌∙◌, ◌++◌, ◌∷◌, [], ap, sym, length, arith}
use Rattle.std.proofs.lemmas.List.{length_push}
use Rattle.std.proofs.lemmas.Result.{on_ok_weaker, on_err_weaker}
use Rattle.ff_cow.proofs.Shared.{end_valid, end_count, end_keeps, grows, nodes-grown, from_either}
use Rattle.ff_cow.proofs.branch.BranchWritable.push.Goals as goal

pub push_in-requires-clause-valid : goal.push_in-requires-clause-valid
push_in-requires-clause-valid g c =
    end_valid _ _ _ _ c.make_place.new.kids.items c.in-Ok.ensures.nodes (c.args.room / 16) c.args.count (omega arith)
    (c.requires.count ∙ ap length (sym c.in-Ok.ensures.cells)) c.in-Ok.ensures.last c.index_mut-kid.result.now c.index_mut-kid.ensures.value

pub push_in-requires-clause-count : goal.push_in-requires-clause-count
push_in-requires-clause-count g c =
    end_count _ _ _ _ c.make_place.new.kids.items c.in-Ok.ensures.nodes (c.args.room / 16) c.args.count (omega arith)
    (c.requires.count ∙ ap length (sym c.in-Ok.ensures.cells)) c.in-Ok.ensures.last c.index_mut-kid.result.now c.index_mut-kid.ensures.value

pub returns-clause-done : goal.returns-clause-done
returns-clause-done g c =
    on_ok_weaker c.push_in.result (λ grown.
    grows _ _ _ _ c.make_place.new.kids.items c.in-Ok.ensures.nodes (c.args.room / 16) c.args.count (omega arith)
    (c.requires.count ∙ ap length (sym c.in-Ok.ensures.cells)) c.in-Ok.ensures.last c.index_mut-kid.result.now c.index_mut-kid.ensures.value
    c.push_in.new.kid c.args.value grown
    ∙ ap (λ cells. cells ++ c.args.value ∷ []) c.in-Ok.ensures.cells) c.push_in.ensures.done

pub returns-clause-kept : goal.returns-clause-kept
returns-clause-kept g c =
    on_err_weaker c.push_in.result (λ same.
    end_keeps _ _ _ _ c.make_place.new.kids.items c.in-Ok.ensures.nodes (c.args.room / 16) c.args.count (omega arith)
    (c.requires.count ∙ ap length (sym c.in-Ok.ensures.cells)) c.in-Ok.ensures.last c.index_mut-kid.result.now c.index_mut-kid.ensures.value
    c.push_in.new.kid same
    ∙ c.in-Ok.ensures.cells) c.push_in.ensures.kept

pub returns-clause-valid : goal.returns-clause-valid
returns-clause-valid g c =
    let count = end_count _ _ _ _ c.make_place.new.kids.items c.in-Ok.ensures.nodes (c.args.room / 16) c.args.count (omega arith)
    (c.requires.count ∙ ap length (sym c.in-Ok.ensures.cells)) c.in-Ok.ensures.last c.index_mut-kid.result.now c.index_mut-kid.ensures.value in
    nodes-grown _ _ _ _ c.make_place.new.kids.items c.in-Ok.ensures.nodes (c.args.room / 16) c.args.count (omega arith)
    (c.requires.count ∙ ap length (sym c.in-Ok.ensures.cells)) c.in-Ok.ensures.last c.index_mut-kid.result.now c.index_mut-kid.ensures.value
    c.push_in.new.kid c.push_in.ensures.valid
    (from_either c.push_in.result c.push_in.ensures.done c.push_in.ensures.kept
    (λ grown. let longer = ap length grown ∙ length_push _ _ in omega arith)
    (λ same. let as_long = ap length same in omega arith))
