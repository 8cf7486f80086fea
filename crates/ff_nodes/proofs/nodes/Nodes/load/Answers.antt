use Rattle.std.proofs.Common.{◌≡◌, suc, ◌-◌, true, false, is_some, not, None, map, length, arith, ap, subst, ◌∙◌}
use Rattle.ff_machine.specs.declared.limits.TheConstants.{MOST_NODES}
use Rattle.ff_machine.specs.Alone.{AreNodes}
use Rattle.ff_machine.specs.Documents.{laid, laid_page, size_of}
use Rattle.ff_machine.specs.Faults.{limit_unless}
use Rattle.ff_machine.proofs.LaidDocs.{page_laid}
use Rattle.ff_machine.proofs.MadeTrees.{page_made}
use Rattle.ff_nodes.proofs.LaidUp.{AreUp, page_up}
use Rattle.ff_nodes.specs.Laying.{AreNew}
use Rattle.ff_nodes.specs.Room.{room_left}
use Rattle.ff_nodes.proofs.MadeCells.{made_first, made_past, made_marked, made_length, made_cells, room_there, room_missing}
use Rattle.ff_nodes.proofs.nodes.Nodes.load.Goals as goal

pub returns-then-is_none-clause-answer : goal.returns-then-is_none-clause-answer
returns-then-is_none-clause-answer g c =
    let none : is_some c.room_after_page.result ≡ false = c.is_none.ensures ∙ ap not c.if-is_none.true in
    ap limit_unless (room_missing c.args.self.now (laid_page c.args.page c.args.env c.args.docs.now).size c.len-n.result c.room_after_page.result c.len-n.ensures.value c.len-n.ensures.bound (c.room_after_page.ensures c.args.page c.args.env ∙ ap (λ ds. room_left (MOST_NODES - c.len-n.result) (laid_page c.args.page c.args.env ds).size) c.as_slice.ensures) none)

pub raise_from-requires-clause-past : goal.raise_from-requires-clause-past
raise_from-requires-clause-past g c =
    let first = made_first c.self.inside.cells c.in_ok-next.next c.args.self.now c.len-n.result c.self.view_is c.in_ok-next.ensures.equal c.len-n.ensures.value in
    let new = (subst (λ ds. AreNew c.in_ok-next.next c.lay_page.new.cells ((laid_page c.args.page c.args.env ds).nodes (length c.in_ok-next.next) None)) c.as_slice-2.ensures c.in_ok-lay_page.ensures.new) in
    made_past c.in_ok-next.next c.lay_page.new.cells ((laid_page c.args.page c.args.env c.args.docs.now).nodes (length c.in_ok-next.next) None) c.len-n.result first new
    (subst (λ k. AreUp c.len-n.result c.len-n.result ((laid_page c.args.page c.args.env c.args.docs.now).nodes k None)) first (page_up c.args.env c.args.page c.args.docs.now c.len-n.result))

pub raise_from-requires-clause-marks : goal.raise_from-requires-clause-marks
raise_from-requires-clause-marks g c =
    let first = made_first c.self.inside.cells c.in_ok-next.next c.args.self.now c.len-n.result c.self.view_is c.in_ok-next.ensures.equal c.len-n.ensures.value in
    let new = (subst (λ ds. AreNew c.in_ok-next.next c.lay_page.new.cells ((laid_page c.args.page c.args.env ds).nodes (length c.in_ok-next.next) None)) c.as_slice-2.ensures c.in_ok-lay_page.ensures.new) in
    made_marked c.self.inside.cells c.in_ok-next.next c.lay_page.new.cells ((laid_page c.args.page c.args.env c.args.docs.now).nodes (length c.in_ok-next.next) None) c.len-n.result c.in_ok-next.ensures.equal first c.self.invariant new

pub returns-in_err-raise_from-clause-copies : goal.returns-in_err-raise_from-clause-copies
returns-in_err-raise_from-clause-copies g c =
    let first = made_first c.self.inside.cells c.in_ok-next.next c.args.self.now c.len-n.result c.self.view_is c.in_ok-next.ensures.equal c.len-n.ensures.value in
    let new = (subst (λ ds. AreNew c.in_ok-next.next c.lay_page.new.cells ((laid_page c.args.page c.args.env ds).nodes (length c.in_ok-next.next) None)) c.as_slice-2.ensures c.in_ok-lay_page.ensures.new) in
    let parts : size_of (map (laid c.args.env) c.as_slice-2.result.now) ≡ size_of (map (laid c.args.env) c.args.docs.now) = ap (λ ds. size_of (map (laid c.args.env) ds)) c.as_slice-2.ensures in
    let count = made_length c.in_ok-next.next c.lay_page.new.cells (laid_page c.args.page c.args.env c.args.docs.now) c.len-n.result first (page_laid c.args.page c.args.env c.args.docs.now).sized new in
    omega (arith, count, c.in_ok-next.ensures.copies, c.in_ok-lay_page.ensures.copies, parts, c.in_err-raise_from.ensures.later, c.in_err-raise_from.ensures.copies)

pub invariant_of-self : goal.invariant_of-self
invariant_of-self g c =
    let none : is_some c.room_after_page.result ≡ true = c.is_none.ensures ∙ ap not c.if-is_none.false in
    let valid : AreNodes c.args.self.now = subst AreNodes c.self.view_is c.self.invariant.nodes in
    let room = room_there c.args.self.now (laid_page c.args.page c.args.env c.args.docs.now).size c.len-n.result c.room_after_page.result c.len-n.ensures.value c.len-n.ensures.bound (c.room_after_page.ensures c.args.page c.args.env ∙ ap (λ ds. room_left (MOST_NODES - c.len-n.result) (laid_page c.args.page c.args.env ds).size) c.as_slice.ensures) none in
    let new = (subst (λ ds. AreNew c.in_ok-next.next c.lay_page.new.cells ((laid_page c.args.page c.args.env ds).nodes (length c.in_ok-next.next) None)) c.as_slice-2.ensures c.in_ok-lay_page.ensures.new) in
    made_cells c.self.inside.cells c.in_ok-next.next c.lay_page.new.cells c.raise_from.new.cells c.args.self.now (laid_page c.args.page c.args.env c.args.docs.now) c.self.view_is c.in_ok-next.ensures.equal new c.in_ok-raise_from.ensures.nodes c.in_ok-raise_from.ensures.marks
    (page_made (record { wins = 0; pages = suc c.args.page.0; nodes = 0; acts = suc c.args.env.0 }) c.args.env (omega arith) c.args.self.now valid c.args.page (omega arith) c.args.docs.now c.requires.spelled c.requires.shallow room)

pub returns-clause-answer : goal.returns-clause-answer
returns-clause-answer g c =
    let none : is_some c.room_after_page.result ≡ true = c.is_none.ensures ∙ ap not c.if-is_none.false in
    ap limit_unless (room_there c.args.self.now (laid_page c.args.page c.args.env c.args.docs.now).size c.len-n.result c.room_after_page.result c.len-n.ensures.value c.len-n.ensures.bound (c.room_after_page.ensures c.args.page c.args.env ∙ ap (λ ds. room_left (MOST_NODES - c.len-n.result) (laid_page c.args.page c.args.env ds).size) c.as_slice.ensures) none)

pub returns-clause-copies : goal.returns-clause-copies
returns-clause-copies g c =
    let first = made_first c.self.inside.cells c.in_ok-next.next c.args.self.now c.len-n.result c.self.view_is c.in_ok-next.ensures.equal c.len-n.ensures.value in
    let new = (subst (λ ds. AreNew c.in_ok-next.next c.lay_page.new.cells ((laid_page c.args.page c.args.env ds).nodes (length c.in_ok-next.next) None)) c.as_slice-2.ensures c.in_ok-lay_page.ensures.new) in
    let parts : size_of (map (laid c.args.env) c.as_slice-2.result.now) ≡ size_of (map (laid c.args.env) c.args.docs.now) = ap (λ ds. size_of (map (laid c.args.env) ds)) c.as_slice-2.ensures in
    let count = made_length c.in_ok-next.next c.lay_page.new.cells (laid_page c.args.page c.args.env c.args.docs.now) c.len-n.result first (page_laid c.args.page c.args.env c.args.docs.now).sized new in
    omega (arith, count, c.in_ok-next.ensures.copies, c.in_ok-lay_page.ensures.copies, parts, c.in_ok-raise_from.ensures.later, c.in_ok-raise_from.ensures.copies)
