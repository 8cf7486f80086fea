use Rattle.std.proofs.Common.{◌↔◌, ◌≤◌, ◌-◌, IsTrue, Ok, T, refl, sym, subst, ◌∙◌, length, arith}
use Rattle.std.specs.List.{AllByRecursion}
use Rattle.std.proofs.lemmas.List.{take_all}
use Rattle.ff_spelling.specs.Fits.{FitsDoc, FitsExpr, FitsHandler}
use Rattle.ff_spelling.specs.Told.{Tells}
use Rattle.ff_spelling.proofs.Each.{each_more, each_at}
use Rattle.ff_spelling.proofs.Parts as parts
use Rattle.ff_spelling.proofs.Parts.{both_are, it_is, it_tells, pair_is, positive, same_number, at_most}
use Rattle.ff_spelling.proofs.spelled.+fits.Goals as goal

pub fits_expr-returns-in-Lit : goal.fits_expr-returns-in-Lit
fits_expr-returns-in-Lit t c =
    subst (λ e. IsTrue c.is_lit.result ↔ FitsExpr c.args.room e) (sym c.in-Lit.is) (it_is c.is_lit.result c.is_lit.ensures (parts.lit_is c.args.room c.in-Lit.lit))

pub fits_expr-returns-in-Var : goal.fits_expr-returns-in-Var
fits_expr-returns-in-Var t c =
    subst (λ e. IsTrue c.is_var.result ↔ FitsExpr c.args.room e) (sym c.in-Var.is) (it_is c.is_var.result c.is_var.ensures (parts.var_is c.args.room c.in-Var.name))

pub fits_expr-returns-in-Let : goal.fits_expr-returns-in-Let
fits_expr-returns-in-Let t c =
    subst (λ e. Tells (FitsExpr c.args.room e) c.both.result) (sym c.in-Let.is) (both_are c.both.result (Ok c.is_var-in-Let.result) c.fits_expr.result c.both.ensures c.is_var-in-Let.ensures (subst (λ e. Tells (FitsExpr (c.args.room - 1) e) c.fits_expr.result) c.get.ensures c.fits_expr.ensures) (parts.let_is c.args.room (c.args.room - 1) (omega (arith, c.if-room-eq0.false)) c.in-Let.name c.in-Let.body))

pub fits_expr-returns-in-Set : goal.fits_expr-returns-in-Set
fits_expr-returns-in-Set t c =
    subst (λ e. Tells (FitsExpr c.args.room e) c.both-in-Set.result) (sym c.in-Set.is) (both_are c.both-in-Set.result (Ok c.is_var-in-Set.result) c.fits_expr-in-Set.result c.both-in-Set.ensures c.is_var-in-Set.ensures (subst (λ e. Tells (FitsExpr (c.args.room - 1) e) c.fits_expr-in-Set.result) c.get-in-Set.ensures c.fits_expr-in-Set.ensures) (parts.set_is c.args.room (c.args.room - 1) (omega (arith, c.if-room-eq0.false)) c.in-Set.name c.in-Set.body))

pub fits_expr-returns-in-If : goal.fits_expr-returns-in-If
fits_expr-returns-in-If t c =
    subst (λ e. Tells (FitsExpr c.args.room e) c.both-in-If-2.result) (sym c.in-If.is) (both_are c.both-in-If-2.result c.fits_expr-in-If.result c.both-in-If.result c.both-in-If-2.ensures (subst (λ e. Tells (FitsExpr (c.args.room - 1) e) c.fits_expr-in-If.result) c.get-in-If.ensures c.fits_expr-in-If.ensures) (both_are c.both-in-If.result c.fits_expr-in-If-2.result c.fits_expr-in-If-3.result c.both-in-If.ensures (subst (λ e. Tells (FitsExpr (c.args.room - 1) e) c.fits_expr-in-If-2.result) c.get-in-If-2.ensures c.fits_expr-in-If-2.ensures) (subst (λ e. Tells (FitsExpr (c.args.room - 1) e) c.fits_expr-in-If-3.result) c.get-in-If-3.ensures c.fits_expr-in-If-3.ensures) pair_is) (parts.if_is c.args.room (c.args.room - 1) (omega (arith, c.if-room-eq0.false)) c.in-If.test c.in-If.yes c.in-If.no))

pub fits_expr-returns-in-While : goal.fits_expr-returns-in-While
fits_expr-returns-in-While t c =
    subst (λ e. Tells (FitsExpr c.args.room e) c.both-in-While.result) (sym c.in-While.is) (both_are c.both-in-While.result c.fits_expr-in-While.result c.fits_expr-in-While-2.result c.both-in-While.ensures (subst (λ e. Tells (FitsExpr (c.args.room - 1) e) c.fits_expr-in-While.result) c.get-in-While.ensures c.fits_expr-in-While.ensures) (subst (λ e. Tells (FitsExpr (c.args.room - 1) e) c.fits_expr-in-While-2.result) c.get-in-While-2.ensures c.fits_expr-in-While-2.ensures) (parts.while_is c.args.room (c.args.room - 1) (omega (arith, c.if-room-eq0.false)) c.in-While.left c.in-While.right))

pub fits_expr-returns-in-And : goal.fits_expr-returns-in-And
fits_expr-returns-in-And t c =
    subst (λ e. Tells (FitsExpr c.args.room e) c.both-in-And.result) (sym c.in-And.is) (both_are c.both-in-And.result c.fits_expr-in-And.result c.fits_expr-in-And-2.result c.both-in-And.ensures (subst (λ e. Tells (FitsExpr (c.args.room - 1) e) c.fits_expr-in-And.result) c.get-in-And.ensures c.fits_expr-in-And.ensures) (subst (λ e. Tells (FitsExpr (c.args.room - 1) e) c.fits_expr-in-And-2.result) c.get-in-And-2.ensures c.fits_expr-in-And-2.ensures) (parts.and_is c.args.room (c.args.room - 1) (omega (arith, c.if-room-eq0.false)) c.in-And.left c.in-And.right))

pub fits_expr-returns-in-Or : goal.fits_expr-returns-in-Or
fits_expr-returns-in-Or t c =
    subst (λ e. Tells (FitsExpr c.args.room e) c.both-in-Or.result) (sym c.in-Or.is) (both_are c.both-in-Or.result c.fits_expr-in-Or.result c.fits_expr-in-Or-2.result c.both-in-Or.ensures (subst (λ e. Tells (FitsExpr (c.args.room - 1) e) c.fits_expr-in-Or.result) c.get-in-Or.ensures c.fits_expr-in-Or.ensures) (subst (λ e. Tells (FitsExpr (c.args.room - 1) e) c.fits_expr-in-Or-2.result) c.get-in-Or-2.ensures c.fits_expr-in-Or-2.ensures) (parts.or_is c.args.room (c.args.room - 1) (omega (arith, c.if-room-eq0.false)) c.in-Or.left c.in-Or.right))

pub fits_expr-returns-in-Do : goal.fits_expr-returns-in-Do
fits_expr-returns-in-Do t c =
    subst (λ e. Tells (FitsExpr c.args.room e) c.fit_exprs.result) (sym c.in-Do.is) (it_tells c.fit_exprs.result (subst (λ es. Tells (AllByRecursion (FitsExpr (c.args.room - 1)) es) c.fit_exprs.result) c.as_slice.ensures c.fit_exprs.ensures) (parts.do_is c.args.room (c.args.room - 1) (omega (arith, c.if-room-eq0.false)) c.in-Do.parts))

pub fits_expr-returns-in-Make : goal.fits_expr-returns-in-Make
fits_expr-returns-in-Make t c =
    subst (λ e. Tells (FitsExpr c.args.room e) c.both-in-Make-2.result) (sym c.in-Make.is) (both_are c.both-in-Make-2.result c.both-in-Make.result c.fits_expr-in-Make.result c.both-in-Make-2.ensures (both_are c.both-in-Make.result (Ok _) c.are_params.result c.both-in-Make.ensures (positive (c.args.room - 1)) c.are_params.ensures pair_is) (subst (λ e. Tells (FitsExpr (c.args.room - 1) e) c.fits_expr-in-Make.result) c.get-in-Make.ensures c.fits_expr-in-Make.ensures) (parts.make_is c.args.room (c.args.room - 1) (omega (arith, c.if-room-eq0.false)) c.in-Make.params c.in-Make.body))

pub fits_expr-returns-in-Apply : goal.fits_expr-returns-in-Apply
fits_expr-returns-in-Apply t c =
    subst (λ e. Tells (FitsExpr c.args.room e) c.both-in-Apply.result) (sym c.in-Apply.is) (both_are c.both-in-Apply.result c.fits_expr-in-Apply.result c.fit_exprs-in-Apply.result c.both-in-Apply.ensures (subst (λ e. Tells (FitsExpr (c.args.room - 1) e) c.fits_expr-in-Apply.result) c.get-in-Apply.ensures c.fits_expr-in-Apply.ensures) (subst (λ es. Tells (AllByRecursion (FitsExpr (c.args.room - 1)) es) c.fit_exprs-in-Apply.result) c.as_slice-in-Apply.ensures c.fit_exprs-in-Apply.ensures) (parts.apply_is c.args.room (c.args.room - 1) (omega (arith, c.if-room-eq0.false)) c.in-Apply.function c.in-Apply.args))

pub fits_expr-returns-in-Tree : goal.fits_expr-returns-in-Tree
fits_expr-returns-in-Tree t c =
    subst (λ e. Tells (FitsExpr c.args.room e) c.fits_doc.result) (sym c.in-Tree.is) (it_tells c.fits_doc.result c.fits_doc.ensures (parts.tree_is c.args.room (c.args.room - 1) (omega (arith, c.if-room-eq0.false)) c.in-Tree.doc))

pub fits_expr-returns-in-Prim : goal.fits_expr-returns-in-Prim
fits_expr-returns-in-Prim t c =
    subst (λ e. Tells (FitsExpr c.args.room e) c.both-in-Prim.result) (sym c.in-Prim.is) (both_are c.both-in-Prim.result (Ok _) c.fit_exprs-in-Prim.result c.both-in-Prim.ensures (same_number c.len.result c.arity.result _ _ c.len.ensures c.arity.ensures) (subst (λ es. Tells (AllByRecursion (FitsExpr (c.args.room - 1)) es) c.fit_exprs-in-Prim.result) c.as_slice-in-Prim.ensures c.fit_exprs-in-Prim.ensures) (parts.prim_is c.args.room (c.args.room - 1) (omega (arith, c.if-room-eq0.false)) c.in-Prim.op c.in-Prim.args))

pub fits_doc-returns-in-Text : goal.fits_doc-returns-in-Text
fits_doc-returns-in-Text t c =
    subst (λ d. IsTrue c.is_named.result ↔ FitsDoc c.args.room d) (sym c.in-Text.is) (it_is c.is_named.result c.is_named.ensures (parts.text_is c.args.room (c.args.room - 1) (omega (arith, c.if-room-eq0.false)) c.in-Text.name c.in-Text.text))

pub fits_doc-returns-in-Link : goal.fits_doc-returns-in-Link
fits_doc-returns-in-Link t c =
    subst (λ d. Tells (FitsDoc c.args.room d) c.both.result) (sym c.in-Link.is) (both_are c.both.result (Ok c.is_named-in-Link.result) (Ok c.is_url.result) c.both.ensures c.is_named-in-Link.ensures c.is_url.ensures (parts.link_is c.args.room (c.args.room - 1) (omega (arith, c.if-room-eq0.false)) c.in-Link.name c.in-Link.url c.in-Link.text))

pub fits_doc-returns-in-TextBox : goal.fits_doc-returns-in-TextBox
fits_doc-returns-in-TextBox t c =
    subst (λ d. Tells (FitsDoc c.args.room d) c.both-in-TextBox.result) (sym c.in-TextBox.is) (both_are c.both-in-TextBox.result (Ok c.is_named-in-TextBox.result) c.fit_handlers.result c.both-in-TextBox.ensures c.is_named-in-TextBox.ensures (subst (λ hs. Tells ((length hs ≤ 16) × AllByRecursion (FitsHandler (c.args.room - 1)) hs) c.fit_handlers.result) c.as_slice.ensures c.fit_handlers.ensures) (parts.box_is c.args.room (c.args.room - 1) (omega (arith, c.if-room-eq0.false)) c.in-TextBox.name c.in-TextBox.text c.in-TextBox.handlers))

pub fits_doc-returns-in-Button : goal.fits_doc-returns-in-Button
fits_doc-returns-in-Button t c =
    subst (λ d. Tells (FitsDoc c.args.room d) c.both-in-Button.result) (sym c.in-Button.is) (both_are c.both-in-Button.result (Ok c.is_named-in-Button.result) c.fit_handlers-in-Button.result c.both-in-Button.ensures c.is_named-in-Button.ensures (subst (λ hs. Tells ((length hs ≤ 16) × AllByRecursion (FitsHandler (c.args.room - 1)) hs) c.fit_handlers-in-Button.result) c.as_slice-in-Button.ensures c.fit_handlers-in-Button.ensures) (parts.button_is c.args.room (c.args.room - 1) (omega (arith, c.if-room-eq0.false)) c.in-Button.name c.in-Button.text c.in-Button.handlers))

pub fits_doc-returns-in-Script : goal.fits_doc-returns-in-Script
fits_doc-returns-in-Script t c =
    subst (λ d. Tells (FitsDoc c.args.room d) c.both-in-Script.result) (sym c.in-Script.is) (both_are c.both-in-Script.result (Ok c.is_name.result) c.fits_expr.result c.both-in-Script.ensures c.is_name.ensures (subst (λ e. Tells (FitsExpr (c.args.room - 1) e) c.fits_expr.result) c.get.ensures c.fits_expr.ensures) (parts.script_is c.args.room (c.args.room - 1) (omega (arith, c.if-room-eq0.false)) c.in-Script.name c.in-Script.body))

pub fits_doc-returns-in-Src : goal.fits_doc-returns-in-Src
fits_doc-returns-in-Src t c =
    subst (λ d. Tells (FitsDoc c.args.room d) c.both-in-Src.result) (sym c.in-Src.is) (both_are c.both-in-Src.result (Ok c.is_name-in-Src.result) (Ok c.is_url-in-Src.result) c.both-in-Src.ensures c.is_name-in-Src.ensures c.is_url-in-Src.ensures (parts.src_is c.args.room (c.args.room - 1) (omega (arith, c.if-room-eq0.false)) c.in-Src.name c.in-Src.url))

pub fits_doc-returns-in-Div : goal.fits_doc-returns-in-Div
fits_doc-returns-in-Div t c =
    subst (λ d. Tells (FitsDoc c.args.room d) c.both-in-Div.result) (sym c.in-Div.is) (both_are c.both-in-Div.result (Ok c.is_name-in-Div.result) c.fit_docs.result c.both-in-Div.ensures c.is_name-in-Div.ensures (subst (λ ds. Tells (AllByRecursion (FitsDoc (c.args.room - 1)) ds) c.fit_docs.result) c.as_slice-in-Div.ensures c.fit_docs.ensures) (parts.div_is c.args.room (c.args.room - 1) (omega (arith, c.if-room-eq0.false)) c.in-Div.name c.in-Div.docs))

pub fits_expr-returns-then-room-eq0 : goal.fits_expr-returns-then-room-eq0
fits_expr-returns-then-room-eq0 t c = subst (λ room. IsTrue c.is_word.result ↔ FitsExpr room c.args.expr.now) (sym c.if-room-eq0.true) c.is_word.ensures

pub fits_doc-returns-then-room-eq0 : goal.fits_doc-returns-then-room-eq0
fits_doc-returns-then-room-eq0 t c = (λ h. cc, λ h. absurd (parts.no_doc c.args.room c.args.doc.now c.if-room-eq0.true h))

pub fits_handler-returns-then-room-lt2 : goal.fits_handler-returns-then-room-lt2
fits_handler-returns-then-room-lt2 t c = (λ h. cc, λ h. absurd (parts.no_handler c.args.room c.args.handler.now c.if-room-lt2.true h))

pub fits_handler-returns : goal.fits_handler-returns
fits_handler-returns t c =
    both_are c.both.result (Ok c.is_var.result) c.fits_expr.result c.both.ensures c.is_var.ensures (subst (λ e. Tells (FitsExpr (c.args.room - 1) e) c.fits_expr.result) c.get.ensures c.fits_expr.ensures)
    (parts.handler_is c.args.room (c.args.room - 1) (omega (arith, c.if-room-lt2.false)) (omega (arith, c.if-room-lt2.false)) c.args.handler.now)

pub fit_docs-returns-then-not-fits : goal.fit_docs-returns-then-not-fits
fit_docs-returns-then-not-fits t c = (
  λ h. cc,
  λ all. let yes = c.in_ok-fits.ensures.1 (each_at (FitsDoc c.args.room) c.args.docs.now c.loop-doc.doc-index c.doc-item.result c.loop-doc-test.true c.doc-item.is all) in absurd (subst T (sym yes ∙ c.if-not-fits.true) tt),
)

pub fit_docs-loop-doc-preserved : goal.fit_docs-loop-doc-preserved
fit_docs-loop-doc-preserved t c = each_more (FitsDoc c.args.room) c.args.docs.now c.loop-doc.doc-index c.doc-item.result c.loop-doc-test.true c.doc-item.is c.loop-doc.invariant (c.in_ok-fits.ensures.0 c.if-not-fits.false)

pub fit_docs-returns : goal.fit_docs-returns
fit_docs-returns t c = (λ h. subst (AllByRecursion (FitsDoc c.args.room)) (take_all c.loop-doc.doc-index c.args.docs.now (omega (arith, c.loop-doc-test.false))) c.loop-doc.invariant, λ h. refl)

pub fit_exprs-returns-then-not-fits : goal.fit_exprs-returns-then-not-fits
fit_exprs-returns-then-not-fits t c = (
  λ h. cc,
  λ all. let yes = c.in_ok-fits.ensures.1 (each_at (FitsExpr c.args.room) c.args.exprs.now c.loop-expr.expr-index c.expr-item.result c.loop-expr-test.true c.expr-item.is all) in absurd (subst T (sym yes ∙ c.if-not-fits.true) tt),
)

pub fit_exprs-loop-expr-preserved : goal.fit_exprs-loop-expr-preserved
fit_exprs-loop-expr-preserved t c = each_more (FitsExpr c.args.room) c.args.exprs.now c.loop-expr.expr-index c.expr-item.result c.loop-expr-test.true c.expr-item.is c.loop-expr.invariant (c.in_ok-fits.ensures.0 c.if-not-fits.false)

pub fit_exprs-returns : goal.fit_exprs-returns
fit_exprs-returns t c = (λ h. subst (AllByRecursion (FitsExpr c.args.room)) (take_all c.loop-expr.expr-index c.args.exprs.now (omega (arith, c.loop-expr-test.false))) c.loop-expr.invariant, λ h. refl)

pub fit_handlers-returns-then-not-fits : goal.fit_handlers-returns-then-not-fits
fit_handlers-returns-then-not-fits t c = (
  λ h. cc,
  λ all. let yes = c.in_ok-fits.ensures.1 (each_at (FitsHandler c.args.room) c.args.handlers.now c.loop-handler.handler-index c.handler-item.result c.loop-handler-test.true c.handler-item.is all.1) in absurd (subst T (sym yes ∙ c.if-not-fits.true) tt),
)

pub fit_handlers-loop-handler-preserved : goal.fit_handlers-loop-handler-preserved
fit_handlers-loop-handler-preserved t c = each_more (FitsHandler c.args.room) c.args.handlers.now c.loop-handler.handler-index c.handler-item.result c.loop-handler-test.true c.handler-item.is c.loop-handler.invariant (c.in_ok-fits.ensures.0 c.if-not-fits.false)

pub fit_handlers-returns : goal.fit_handlers-returns
fit_handlers-returns t c =
    let few = at_most (length c.args.handlers.now) 16 in
    let all = subst (AllByRecursion (FitsHandler c.args.room)) (take_all c.loop-handler.handler-index c.args.handlers.now (omega (arith, c.loop-handler-test.false))) c.loop-handler.invariant in
    (λ h. (few.0 h, all), λ h. few.1 h.0)
