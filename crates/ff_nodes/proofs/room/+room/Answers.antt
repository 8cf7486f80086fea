use Rattle.std.proofs.Common.{◌≡◌, ℕ, ◌+◌, ◌-◌, Option, Some, map, arith, sym, ap, ◌∙◌}
use Rattle.ff_machine.specs.Documents.{Laid, laid, size_of}
use Rattle.ff_machine.proofs.Laying.{laid-Text, laid-Link, laid-TextBox, laid-Button, laid-Script, laid-Src, laid-Div}
use Rattle.ff_machine.proofs.LaidDocs.{doc_laid}
use Rattle.ff_nodes.specs.Room.{room_left}
use Rattle.ff_nodes.proofs.Rooms.{left_some, left_none, left_one, left_under, left_more, none_more, size_from, size_next, size_past}
use Rattle.ff_nodes.proofs.room.+room.Goals as goal

pub room_after-returns-in_err-left : goal.room_after-returns-in_err-left
room_after-returns-in_err-left t c = λ env.
    let some = (doc_laid env c.args.doc.now).some in
    c.from_residual.ensures ∙ left_none c.args.room (laid env c.args.doc.now).size (omega (arith, some, c.in_err-left.ensures))

pub room_after-returns-in-Text : goal.room_after-returns-in-Text
room_after-returns-in-Text t c = λ env. left_one _ _ _ (ap (λ d. (laid env d).size) c.in-Text.is ∙ ap (λ (l : Laid). l.size) (laid-Text env c.in-Text.field-0 c.in-Text.field-1)) c.in_ok-left.ensures

pub room_after-returns-in-Link : goal.room_after-returns-in-Link
room_after-returns-in-Link t c = λ env. left_one _ _ _ (ap (λ d. (laid env d).size) c.in-Link.is ∙ ap (λ (l : Laid). l.size) (laid-Link env c.in-Link.field-0 c.in-Link.field-1 c.in-Link.field-2)) c.in_ok-left.ensures

pub room_after-returns-in-TextBox : goal.room_after-returns-in-TextBox
room_after-returns-in-TextBox t c = λ env. left_one _ _ _ (ap (λ d. (laid env d).size) c.in-TextBox.is ∙ ap (λ (l : Laid). l.size) (laid-TextBox env c.in-TextBox.field-0 c.in-TextBox.field-1 c.in-TextBox.field-2)) c.in_ok-left.ensures

pub room_after-returns-in-Button : goal.room_after-returns-in-Button
room_after-returns-in-Button t c = λ env. left_one _ _ _ (ap (λ d. (laid env d).size) c.in-Button.is ∙ ap (λ (l : Laid). l.size) (laid-Button env c.in-Button.field-0 c.in-Button.field-1 c.in-Button.field-2)) c.in_ok-left.ensures

pub room_after-returns-in-Script : goal.room_after-returns-in-Script
room_after-returns-in-Script t c = λ env. left_one _ _ _ (ap (λ d. (laid env d).size) c.in-Script.is ∙ ap (λ (l : Laid). l.size) (laid-Script env c.in-Script.field-0 c.in-Script.field-1)) c.in_ok-left.ensures

pub room_after-returns-in-Src : goal.room_after-returns-in-Src
room_after-returns-in-Src t c = λ env. left_one _ _ _ (ap (λ d. (laid env d).size) c.in-Src.is ∙ ap (λ (l : Laid). l.size) (laid-Src env c.in-Src.field-0 c.in-Src.field-1)) c.in_ok-left.ensures

pub room_after-returns-in-Div : goal.room_after-returns-in-Div
room_after-returns-in-Div t c = λ env.
    let size = ap (λ d. (laid env d).size) c.in-Div.is ∙ ap (λ (l : Laid). l.size) (laid-Div env c.in-Div.field-0 c.in-Div.docs) in
    c.room_after_all.ensures env
    ∙ ap (λ ds. room_left c.in_ok-left.left (size_of (map (laid env) ds))) c.as_slice.ensures
    ∙ left_under c.args.room c.in_ok-left.left (size_of (map (laid env) c.in-Div.docs)) (laid env c.args.doc.now).size size c.in_ok-left.ensures

pub room_after_all-returns-in_err-left : goal.room_after_all-returns-in_err-left
room_after_all-returns-in_err-left t c = λ env.
    let size = size_next env c.args.docs.now c.loop-doc.doc-index c.doc-item.result c.loop-doc-test.true c.doc-item.is in
    let none = none_more c.loop-doc.left (laid env c.doc-item.result).size (size_from env c.args.docs.now (c.loop-doc.doc-index + 1)) (sym c.in_err-left.was ∙ c.room_after.ensures env) in
    c.from_residual.ensures ∙ none ∙ ap (room_left c.loop-doc.left) (sym size) ∙ c.loop-doc.invariant env

pub room_after_all-loop-doc-preserved : goal.room_after_all-loop-doc-preserved
room_after_all-loop-doc-preserved t c = λ env.
    let size = size_next env c.args.docs.now c.loop-doc.doc-index c.doc-item.result c.loop-doc-test.true c.doc-item.is in
    left_more c.loop-doc.left (laid env c.doc-item.result).size (size_from env c.args.docs.now (c.loop-doc.doc-index + 1)) c.in_ok-left.left (sym c.in_ok-left.was ∙ c.room_after.ensures env)
    ∙ ap (room_left c.loop-doc.left) (sym size) ∙ c.loop-doc.invariant env

pub room_after_all-returns : goal.room_after_all-returns
room_after_all-returns t c = λ env.
    let past = size_past env c.args.docs.now c.loop-doc.doc-index c.loop-doc-test.false in
    let all : c.loop-doc.left ≡ c.loop-doc.left - 0 = omega arith in
    ap (λ k. let o : Option ℕ = Some k in o) all ∙ left_some c.loop-doc.left 0 (omega arith) ∙ ap (room_left c.loop-doc.left) (sym past) ∙ c.loop-doc.invariant env
