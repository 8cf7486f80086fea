use Rattle.std.proofs.Common.{◌≡◌, ◌<◌, true, false, cond, nat_lt, List, ◌∷◌, ◌++◌, [], length, sym, ap, subst, ◌∙◌, arith}
use Rattle.std.proofs.lemmas.Bool.Decides.{nat_tests}
use Rattle.std.proofs.lemmas.Option.{slice_get_within}
use Rattle.std.specs.FinMap as finmap
use Rattle.ff_machine.specs.declared.limits.TheConstants.{MOST_VARS}
use Rattle.ff_machine.specs.Faults.{limit_unless}
use Rattle.ff_machine.specs.Windows as windows
use Rattle.ff_acts.specs.declared.cells.ActCell.{ActCell}
use Rattle.ff_acts.specs.declared.cells.VarCell.{VarCell}
use Rattle.ff_acts.specs.Held.{top_of, seen, AreHeld}
use Rattle.ff_acts.specs.Stops.{IsVarAt, IsOpen, put_top, put_link}
use Rattle.ff_acts.proofs.Grown.{grown_held, grown_seen}
use Rattle.ff_acts.proofs.Holders.{there, absent}
use Rattle.ff_acts.proofs.Rewritten.{rewritten_held, rewritten_seen}
use Rattle.ff_acts.proofs.Seen.{lives_in}
use Rattle.ff_acts.proofs.acts.Acts.declare.Goals as goal

pub search-requires-clause-lives : goal.search-requires-clause-lives
search-requires-clause-lives g c = lives_in c.self.inside.acts c.self.inside.vars c.args.self.now c.args.a.0 c.self.view_is c.requires.lives

-- The activation has the variable.

pub write-requires : goal.write-requires
write-requires g c =
    let is : IsVarAt c.self.inside.vars c.args.a c.args.name.now c.in-Found.k = c.in-Found.ensures in
    slice_get_within c.self.inside.vars c.in-Found.k is.cell is.at

pub invariant_of-self : goal.invariant_of-self
invariant_of-self g c =
    let is : IsVarAt c.self.inside.vars c.args.a c.args.name.now c.in-Found.k = c.in-Found.ensures in
    subst (AreHeld c.self.inside.acts) (sym (c.in_ok-write-in-Found.ensures.done is.cell is.at))
    (rewritten_held c.self.inside.acts c.self.inside.vars c.self.invariant c.in-Found.k is.cell is.at c.args.value.now)

pub returns-in_ok-write-in-Found-clause-done : goal.returns-in_ok-write-in-Found-clause-done
returns-in_ok-write-in-Found-clause-done g c =
    let is : IsVarAt c.self.inside.vars c.args.a c.args.name.now c.in-Found.k = c.in-Found.ensures in
    let old = seen c.self.inside.acts c.self.inside.vars in
    ap (seen c.self.inside.acts) (c.in_ok-write-in-Found.ensures.done is.cell is.at)
    ∙ rewritten_seen c.self.inside.acts c.self.inside.vars c.self.invariant c.in-Found.k is.cell is.at c.args.value.now
    ∙ ap (λ a. windows.set_var old a is.cell.name c.args.value.now) is.owner
    ∙ ap (λ x. windows.set_var old c.args.a x c.args.value.now) is.name
    ∙ ap (λ acts. windows.set_var acts c.args.a c.args.name.now c.args.value.now) c.self.view_is

pub returns-in_ok-write-in-Found-clause-answer : goal.returns-in_ok-write-in-Found-clause-answer
returns-in_ok-write-in-Found-clause-answer g c =
    let is : IsVarAt c.self.inside.vars c.args.a c.args.name.now c.in-Found.k = c.in-Found.ensures in
    let has = ap (λ acts. finmap.contains_key (windows.vars_of acts c.args.a) c.args.name.now) (sym c.self.view_is) ∙ there c.self.inside.acts c.self.inside.vars c.self.invariant c.args.a c.args.name.now c.in-Found.k is in
    ap (λ b. limit_unless (cond b true (nat_lt (windows.count_vars c.args.self.now) MOST_VARS))) has

-- The variable is new.

pub returns-then-len-ge-MOST_VARS-clause-answer : goal.returns-then-len-ge-MOST_VARS-clause-answer
returns-then-len-ge-MOST_VARS-clause-answer g c =
    let acts = c.self.inside.acts in
    let vars = c.self.inside.vars in
    let ends : IsOpen (top_of acts c.args.a) vars c.args.a c.args.name.now c.in-Open.place = c.in-Open.ensures in
    let lives = lives_in acts vars c.args.self.now c.args.a.0 c.self.view_is c.requires.lives in
    let none = ap (λ acts. finmap.contains_key (windows.vars_of acts c.args.a) c.args.name.now) (sym c.self.view_is) ∙ absent acts vars c.self.invariant c.args.a c.args.name.now lives ends.none in
    let count : windows.count_vars c.args.self.now ≡ length vars = ap windows.count_vars (sym c.self.view_is) ∙ c.self.invariant.counted in
    let full : nat_lt (windows.count_vars c.args.self.now) MOST_VARS ≡ false = grind (arith, nat_tests) in
    ap (λ b. limit_unless (cond b true (nat_lt (windows.count_vars c.args.self.now) MOST_VARS))) none ∙ ap limit_unless full

pub grow-requires-clause-lives : goal.grow-requires-clause-lives
grow-requires-clause-lives g c =
    subst (λ (cell : VarCell). cell.owner.0 < length c.self.inside.acts) (sym c.in_ok-cell-in-Open.ensures)
    (lives_in c.self.inside.acts c.self.inside.vars c.args.self.now c.args.a.0 c.self.view_is c.requires.lives)

pub invariant_of-self-in-Ok : goal.invariant_of-self-in-Ok
invariant_of-self-in-Ok g c =
    let acts = c.self.inside.acts in
    let vars = c.self.inside.vars in
    let ends : IsOpen (top_of acts c.args.a) vars c.args.a c.args.name.now c.in-Open.place = c.in-Open.ensures in
    let lives = lives_in acts vars c.args.self.now c.args.a.0 c.self.view_is c.requires.lives in
    let acts_are : c.grow.new.acts ≡ put_top acts c.args.a c.in-Open.place (length vars) = c.in-Ok.ensures.top ∙ ap (λ (cell : VarCell). put_top acts cell.owner c.in-Open.place (length vars)) c.in_ok-cell-in-Open.ensures in
    let vars_are = c.in-Ok.ensures.link ∙ ap (λ (cell : VarCell). put_link vars c.in-Open.place (length vars) ++ cell ∷ []) c.in_ok-cell-in-Open.ensures in
    subst (λ (l : List ActCell). AreHeld l c.grow.new.vars) (sym acts_are)
    (subst (AreHeld (put_top acts c.args.a c.in-Open.place (length vars))) (sym vars_are)
    (grown_held acts vars c.self.invariant c.args.a c.args.name.now c.args.value.now c.in-Open.place lives ends (omega (arith, c.len.ensures.value, c.if-len-ge-MOST_VARS.false))))

pub returns-in-Ok-clause-done : goal.returns-in-Ok-clause-done
returns-in-Ok-clause-done g c =
    let acts = c.self.inside.acts in
    let vars = c.self.inside.vars in
    let ends : IsOpen (top_of acts c.args.a) vars c.args.a c.args.name.now c.in-Open.place = c.in-Open.ensures in
    let lives = lives_in acts vars c.args.self.now c.args.a.0 c.self.view_is c.requires.lives in
    let acts_are : c.grow.new.acts ≡ put_top acts c.args.a c.in-Open.place (length vars) = c.in-Ok.ensures.top ∙ ap (λ (cell : VarCell). put_top acts cell.owner c.in-Open.place (length vars)) c.in_ok-cell-in-Open.ensures in
    let vars_are = c.in-Ok.ensures.link ∙ ap (λ (cell : VarCell). put_link vars c.in-Open.place (length vars) ++ cell ∷ []) c.in_ok-cell-in-Open.ensures in
    ap (λ l. seen l c.grow.new.vars) acts_are
    ∙ ap (seen (put_top acts c.args.a c.in-Open.place (length vars))) vars_are
    ∙ grown_seen acts vars c.self.invariant c.args.a c.args.name.now c.args.value.now c.in-Open.place lives ends (omega (arith, c.len.ensures.value, c.if-len-ge-MOST_VARS.false))
    ∙ ap (λ acts. windows.set_var acts c.args.a c.args.name.now c.args.value.now) c.self.view_is
