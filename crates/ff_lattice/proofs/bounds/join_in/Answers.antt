use Rattle.std.proofs.Common.{◌≡◌, ◌<◌, ◌&&◌, [], sym, ◌∙◌, get_or, length, arith}
use Rattle.std.proofs.lemmas.List.{get_or_read}
use Rattle.ff_lattice.specs.LevelSet.{has, levels_where}
use Rattle.ff_lattice.proofs.Orders.{IsJoin-from_row, LacksJoin-from_rows}
use Rattle.ff_lattice.proofs.bounds.join_in.Goals as goal

pub returns-then-eq-clause-found : goal.returns-then-eq-clause-found
returns-then-eq-clause-found c =
    let in_number : c.loop-number.number < length c.args.rows.now = omega arith in
    let first : c.index-rows-a.result ≡ get_or c.args.rows.now c.args.a.0 [] = get_or_read c.args.rows.now c.args.a.0 c.index-rows-a.result c.requires.first c.index-rows-a.is [] in
    let second : c.index-rows-b.result ≡ get_or c.args.rows.now c.args.b.0 [] = get_or_read c.args.rows.now c.args.b.0 c.index-rows-b.result c.requires.second c.index-rows-b.is [] in
    let bounds : c.both-bounds.result ≡ levels_where (λ m. has (get_or c.args.rows.now c.args.a.0 []) m && has (get_or c.args.rows.now c.args.b.0 []) m) =
    c.both-bounds.ensures ∙ (λ i. levels_where (λ m. has (first i) m && has (second i) m)) in
    let row : c.index-rows-number.result ≡ c.both-bounds.result = c.eq.ensures.0 c.if-eq.true in
    IsJoin-from_row c.args.rows.now c.args.a.0 c.args.b.0 c.requires.rows c.requires.ordered c.loop-number.number in_number
    (sym (get_or_read c.args.rows.now c.loop-number.number c.index-rows-number.result in_number c.index-rows-number.is []) ∙ row ∙ bounds)

pub returns-clause-none : goal.returns-clause-none
returns-clause-none c =
    let first : c.index-rows-a.result ≡ get_or c.args.rows.now c.args.a.0 [] = get_or_read c.args.rows.now c.args.a.0 c.index-rows-a.result c.requires.first c.index-rows-a.is [] in
    let second : c.index-rows-b.result ≡ get_or c.args.rows.now c.args.b.0 [] = get_or_read c.args.rows.now c.args.b.0 c.index-rows-b.result c.requires.second c.index-rows-b.is [] in
    let bounds : c.both-bounds.result ≡ levels_where (λ m. has (get_or c.args.rows.now c.args.a.0 []) m && has (get_or c.args.rows.now c.args.b.0 []) m) =
    c.both-bounds.ensures ∙ (λ i. levels_where (λ m. has (first i) m && has (second i) m)) in
    LacksJoin-from_rows c.args.rows.now c.args.a.0 c.args.b.0 c.requires.rows c.requires.ordered (λ k in_k is.
    let before : k < c.loop-number.number = omega arith in
    c.loop-number.invariant k before (is ∙ sym bounds))
