use Rattle.std.proofs.Common.{◌<◌, ◌++◌, ◌∙◌, ap, arith}
use Rattle.std.proofs.lemmas.Result.{on_ok_weaker}
use Rattle.ff_confinement.specs.Standings.{fresh}
use Rattle.ff_session.specs.Levels.{machine}
use Rattle.ff_session.specs.Multi.{seen_by, copies_entry}
use Rattle.ff_session.specs.Plain.{plain_entry}
use Rattle.ff_audit.specs.Audited.{account}
use Rattle.ff_audit.proofs.Auditing.{audit_more, heard_as}
use Rattle.ff_audit.proofs.comparisons.Comparisons.feed.Goals as goal

some_slice : 0 < 1000
some_slice = omega arith

pub returns-in_err-take-clause-most : goal.returns-in_err-take-clause-most
returns-in_err-take-clause-most g c = λ is at.
    let most = c.take.ensures.most tt is at.plain in
    omega (arith, most)

pub take-requires-2-clause-at : goal.take-requires-2-clause-at
take-requires-2-clause-at g c = (fresh (machine c.args.policy.now), c.requires.at.0, (c.requires.at.1.copies, some_slice))

pub returns-in_err-take-2-clause-most : goal.returns-in_err-take-2-clause-most
returns-in_err-take-2-clause-most g c = λ is at.
    let first = c.in_ok-take.ensures.count tt is at.plain in
    let second = c.take-2.ensures.most (fresh (machine c.args.policy.now)) is (at.copies, some_slice) in
    omega (arith, first, second)

pub returns-clause-fed : goal.returns-clause-fed
returns-clause-fed g c =
    let p = c.args.policy.now in
    let i = c.args.input.now in
    on_ok_weaker c.hear_texts.result
    (λ heard is at.
    audit_more p (account g.B.Reactor.state c.args.self.now) (record { browser = g.B.Reactor.state c.take.new.state; pool = c.take-2.new.state; levels = c.hear_texts.new.levels.items }) is i c.take.new.text.items c.take-2.new.text.items at
    (c.in_ok-take.ensures.taken tt is at.plain)
    (c.in_ok-take-2.ensures.taken (fresh (machine p)) is (at.copies, some_slice)).0
    c.hear_texts.ensures.count
    (c.in_ok-take.ensures.text tt is at.plain ∙ ap (λ t. t ++ plain_entry p is i) c.new-text.ensures.items)
    (c.in_ok-take-2.ensures.text (fresh (machine p)) is (at.copies, some_slice) ∙ ap (λ t. t ++ copies_entry p (seen_by p) (fresh (machine p)) is i) c.new-other.ensures.items)
    (heard_as c.args.self.now.levels.items c.hear_texts.new.levels.items _ _ _ _ _ _ c.lattice-lattice.ensures.value c.as_slice.ensures.value c.as_slice-2.ensures.value heard))
    c.hear_texts.ensures.heard

pub returns-clause-count : goal.returns-clause-count
returns-clause-count g c =
    on_ok_weaker c.hear_texts.result
    (λ heard is at.
    let first = c.in_ok-take.ensures.count tt is at.plain in
    let second = c.in_ok-take-2.ensures.count (fresh (machine c.args.policy.now)) is (at.copies, some_slice) in
    omega (arith, first, second))
    c.hear_texts.ensures.heard

pub returns-clause-most : goal.returns-clause-most
returns-clause-most g c = λ is at.
    let first = c.in_ok-take.ensures.count tt is at.plain in
    let second = c.take-2.ensures.most (fresh (machine c.args.policy.now)) is (at.copies, some_slice) in
    omega (arith, first, second)
