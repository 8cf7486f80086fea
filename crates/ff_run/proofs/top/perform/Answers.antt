use Rattle.std.proofs.Common.{◌≡◌, refl, sym, subst}
use Rattle.ff_audit.specs.Audited.{audit_duty}
use Rattle.ff_resume.specs.Resumed.{resume_duty, stand_of}
use Rattle.ff_release.specs.Releasing.{release_duty}
use Rattle.ff_session.specs.Giving.{Gives}
use Rattle.ff_session.specs.Works.{multi_duty, plain_duty, format_duty}
use Rattle.ff_travel.specs.Owed.{travel_duty}
use Rattle.ff_run.specs.Names.{GivenFor}
use Rattle.ff_run.specs.Rules.{rules_for}
use Rattle.ff_run.specs.Run.{Carries, outside}
use Rattle.ff_run.specs.States.{states_under}
use Rattle.ff_run.specs.Status.{IsEarly}
use Rattle.ff_run.specs.Words.{Command}
use Rattle.ff_run.proofs.Finding.{accepts_found, accepts_refused, ends_found}
use Rattle.ff_run.proofs.Coming.{refused_at_once}
use Rattle.ff_run.proofs.Headline.{tells_alone, tells_released, tells_resumed}
use Rattle.ff_run.proofs.Obeying.{carries, carries_commands, exchanged_late, no_shelf_rules, no_shelf_state, refused_unanswered, rules_refusal, state_refusal}
use Rattle.ff_run.proofs.RulesFaults.{named_fit}
use Rattle.ff_run.proofs.StateFaults.{named_rests}
use Rattle.ff_run.proofs.top.perform.Goals as goal

pub returns-in-Check-clause-performs : goal.returns-in-Check-clause-performs
returns-in-Check-clause-performs g c = rw (c.in-Check.is) (record { listed = rw c.lattice-lattice.ensures.value at c.check.ensures; unturned = refl })

pub returns-in-Upgrade-clause-performs : goal.returns-in-Upgrade-clause-performs
returns-in-Upgrade-clause-performs g c = rw (c.in-Upgrade.is) (record { written = c.upgrade.ensures; unturned = refl })

-- ---- over a trace

pub returns-in-Multi-clause-performs : goal.returns-in-Multi-clause-performs
returns-in-Multi-clause-performs g c = rw (c.in-Multi.is) (carries c.args.policy.now c.walk_multi.result (multi_duty c.args.policy.now) c.walk_multi.ensures.exchanged)

pub returns-in-Plain-clause-performs : goal.returns-in-Plain-clause-performs
returns-in-Plain-clause-performs g c = rw (c.in-Plain.is) (carries c.args.policy.now c.walk_plain.result (plain_duty c.args.policy.now) c.walk_plain.ensures.exchanged)

pub returns-in-Format-clause-performs : goal.returns-in-Format-clause-performs
returns-in-Format-clause-performs g c =
    rw (c.in-Format.is) (carries c.args.policy.now c.walk_format.result (format_duty c.args.policy.now) (c.walk_format.ensures.exchanged c.args.policy.now c.lattice-lattice.ensures.value))

pub returns-in-Format-clause-goes_on : goal.returns-in-Format-clause-goes_on
returns-in-Format-clause-goes_on g c = rw (c.in-Format.is) (exchanged_late c.walk_format.result (c.walk_format.ensures.exchanged c.args.policy.now c.lattice-lattice.ensures.value)).late

pub returns-in-Format-clause-untouched : goal.returns-in-Format-clause-untouched
returns-in-Format-clause-untouched g c early = absurd ((exchanged_late c.walk_format.result (c.walk_format.ensures.exchanged c.args.policy.now c.lattice-lattice.ensures.value)).late early)

pub returns-in-Audit-clause-performs : goal.returns-in-Audit-clause-performs
returns-in-Audit-clause-performs g c = rw (c.in-Audit.is) (carries c.args.policy.now c.audit.result (audit_duty c.args.policy.now) c.audit.ensures.exchanged)

pub returns-in-Travel-clause-performs : goal.returns-in-Travel-clause-performs
returns-in-Travel-clause-performs g c = rw (c.in-Travel.is) (carries_commands c.args.policy.now c.travel.result (travel_duty c.args.policy.now) c.travel.ensures.exchanged)

-- ---- from a saved state

pub resume-requires-clause-rests : goal.resume-requires-clause-rests
resume-requires-clause-rests g c = named_rests c.args.policy.now (g.S.Shelf.told c.args.shelf.now) c.in-Resume.from.now c.in-Ok.pool c.in-Ok.ensures.named

pub returns-in-Ok-clause-performs : goal.returns-in-Ok-clause-performs
returns-in-Ok-clause-performs g c =
    let p = c.args.policy.now in
    let before = outside (g.S.Shelf.told c.args.shelf.now) (g.P.Port.told c.args.port.now) c.args.turns.now in
    let now = outside (g.S.Shelf.told c.find.new.shelf) (g.P.Port.told c.resume.new.port) c.resume.new.turns in
    rw (c.in-Resume.is)
    (ends_found (states_under p) before c.in-Resume.from.now c.find.result c.find.ensures.only c.find.ensures.exact c.in-Ok.pool c.in-Ok.is c.in-Ok.ensures.named now
    (λ pool. Carries (Gives p.order) (resume_duty p (stand_of pool)) before.port now.port before.turns now.turns) c.resume.result (carries p c.resume.result (resume_duty p (stand_of c.in-Ok.pool)) c.resume.ensures.exchanged))

pub returns-in-Ok-clause-goes_on : goal.returns-in-Ok-clause-goes_on
returns-in-Ok-clause-goes_on g c =
    let p = c.args.policy.now in
    let before = outside (g.S.Shelf.told c.args.shelf.now) (g.P.Port.told c.args.port.now) c.args.turns.now in
    let now = outside (g.S.Shelf.told c.find.new.shelf) (g.P.Port.told c.resume.new.port) c.resume.new.turns in
    rw (c.in-Resume.is)
    (accepts_found (states_under p) before c.in-Resume.from.now c.find.result c.find.ensures.only c.find.ensures.exact c.in-Ok.pool c.in-Ok.is c.in-Ok.ensures.named now (λ pool. ¬ IsEarly c.resume.result) c.resume.result
    (exchanged_late c.resume.result c.resume.ensures.exchanged).late)

pub returns-in-Ok-clause-no_fetch : goal.returns-in-Ok-clause-no_fetch
returns-in-Ok-clause-no_fetch g c by_none = c.find.ensures.untouched ((rw c.in-Resume.is at by_none) c.in-Resume.from.now refl)

pub returns-in-Err-clause-performs : goal.returns-in-Err-clause-performs
returns-in-Err-clause-performs g c = rw (c.in-Resume.is) (refused_at_once (states_under c.args.policy.now) c.in-Resume.from.now (g.S.Shelf.told c.args.shelf.now) (g.S.Shelf.told c.find.new.shelf) (g.P.Port.told c.args.port.now) c.args.turns.now c.in-Err.status c.in-Err.ensures.refused)

pub returns-in-Err-clause-goes_on : goal.returns-in-Err-clause-goes_on
returns-in-Err-clause-goes_on g c =
    let p = c.args.policy.now in
    let before = outside (g.S.Shelf.told c.args.shelf.now) (g.P.Port.told c.args.port.now) c.args.turns.now in
    let now = outside (g.S.Shelf.told c.find.new.shelf) (g.P.Port.told c.args.port.now) c.args.turns.now in
    rw (c.in-Resume.is)
    (accepts_refused (states_under p) before c.in-Resume.from.now c.find.result c.find.ensures.only c.find.ensures.exact now c.in-Err.status c.in-Err.is c.in-Err.ensures.refused (no_shelf_state p) (λ pool s. ¬ IsEarly s) (λ pool early. early))

pub returns-in-Err-clause-no_fetch : goal.returns-in-Err-clause-no_fetch
returns-in-Err-clause-no_fetch g c by_none = c.find.ensures.untouched ((rw c.in-Resume.is at by_none) c.in-Resume.from.now refl)

-- ---- by rules

pub release-requires-clause-rules : goal.release-requires-clause-rules
release-requires-clause-rules g c = named_fit c.args.policy.now.order (g.S.Shelf.told c.args.shelf.now) c.in-Release.rules.now c.in-Ok-find.rules c.in-Ok-find.ensures.named

pub returns-in-Ok-find-clause-performs : goal.returns-in-Ok-find-clause-performs
returns-in-Ok-find-clause-performs g c =
    let p = c.args.policy.now in
    let before = outside (g.S.Shelf.told c.args.shelf.now) (g.P.Port.told c.args.port.now) c.args.turns.now in
    let now = outside (g.S.Shelf.told c.find-in-Release.new.shelf) (g.P.Port.told c.release.new.port) c.release.new.turns in
    rw (c.in-Release.is)
    (ends_found (rules_for p.order) before c.in-Release.rules.now c.find-in-Release.result c.find-in-Release.ensures.only c.find-in-Release.ensures.exact c.in-Ok-find.rules c.in-Ok-find.is c.in-Ok-find.ensures.named now
    (λ rs. Carries (Gives p.order) (release_duty p rs) before.port now.port before.turns now.turns) c.release.result (carries p c.release.result (release_duty p c.in-Ok-find.rules) c.release.ensures.exchanged))

pub returns-in-Ok-find-clause-goes_on : goal.returns-in-Ok-find-clause-goes_on
returns-in-Ok-find-clause-goes_on g c =
    let p = c.args.policy.now in
    let before = outside (g.S.Shelf.told c.args.shelf.now) (g.P.Port.told c.args.port.now) c.args.turns.now in
    let now = outside (g.S.Shelf.told c.find-in-Release.new.shelf) (g.P.Port.told c.release.new.port) c.release.new.turns in
    rw (c.in-Release.is)
    (accepts_found (rules_for p.order) before c.in-Release.rules.now c.find-in-Release.result c.find-in-Release.ensures.only c.find-in-Release.ensures.exact c.in-Ok-find.rules c.in-Ok-find.is c.in-Ok-find.ensures.named now (λ rs. ¬ IsEarly c.release.result) c.release.result
    (exchanged_late c.release.result c.release.ensures.exchanged).late)

pub returns-in-Ok-find-clause-no_fetch : goal.returns-in-Ok-find-clause-no_fetch
returns-in-Ok-find-clause-no_fetch g c by_none = c.find-in-Release.ensures.untouched ((rw c.in-Release.is at by_none) c.in-Release.rules.now refl)

pub returns-in-Err-find-clause-performs : goal.returns-in-Err-find-clause-performs
returns-in-Err-find-clause-performs g c =
    rw (c.in-Release.is) (refused_at_once (rules_for c.args.policy.now.order) c.in-Release.rules.now (g.S.Shelf.told c.args.shelf.now) (g.S.Shelf.told c.find-in-Release.new.shelf) (g.P.Port.told c.args.port.now) c.args.turns.now c.in-Err-find.status c.in-Err-find.ensures.refused)

pub returns-in-Err-find-clause-goes_on : goal.returns-in-Err-find-clause-goes_on
returns-in-Err-find-clause-goes_on g c =
    let p = c.args.policy.now in
    let before = outside (g.S.Shelf.told c.args.shelf.now) (g.P.Port.told c.args.port.now) c.args.turns.now in
    let now = outside (g.S.Shelf.told c.find-in-Release.new.shelf) (g.P.Port.told c.args.port.now) c.args.turns.now in
    rw (c.in-Release.is)
    (accepts_refused (rules_for p.order) before c.in-Release.rules.now c.find-in-Release.result c.find-in-Release.ensures.only c.find-in-Release.ensures.exact now c.in-Err-find.status c.in-Err-find.is c.in-Err-find.ensures.refused (no_shelf_rules p.order) (λ rs s. ¬ IsEarly s) (λ rs early. early))

pub returns-in-Err-find-clause-no_fetch : goal.returns-in-Err-find-clause-no_fetch
returns-in-Err-find-clause-no_fetch g c by_none = c.find-in-Release.ensures.untouched ((rw c.in-Release.is at by_none) c.in-Release.rules.now refl)

-- ---- what is told

pub returns-in-Multi-clause-given : goal.returns-in-Multi-clause-given
returns-in-Multi-clause-given g c answered =
    let before = outside (g.S.Shelf.told c.args.shelf.now) (g.P.Port.told c.args.port.now) c.args.turns.now in
    let now = outside (g.S.Shelf.told c.args.shelf.now) (g.P.Port.told c.walk_multi.new.port) c.walk_multi.new.turns in
    rw (c.in-Multi.is) (tells_alone (λ X kind. GivenFor kind before.shelf now.shelf) c.args.policy.now before now c.walk_multi.result answered c.lattice-lattice.ensures.valid (Command.multi c.in-Multi.policy.now c.in-Multi.slice) tt (carries c.args.policy.now c.walk_multi.result (multi_duty c.args.policy.now) c.walk_multi.ensures.exchanged))

pub returns-in-Audit-clause-given : goal.returns-in-Audit-clause-given
returns-in-Audit-clause-given g c answered =
    let before = outside (g.S.Shelf.told c.args.shelf.now) (g.P.Port.told c.args.port.now) c.args.turns.now in
    let now = outside (g.S.Shelf.told c.args.shelf.now) (g.P.Port.told c.audit.new.port) c.audit.new.turns in
    rw (c.in-Audit.is) (tells_alone (λ X kind. GivenFor kind before.shelf now.shelf) c.args.policy.now before now c.audit.result answered c.lattice-lattice.ensures.valid (Command.audit c.in-Audit.policy.now) tt (carries c.args.policy.now c.audit.result (audit_duty c.args.policy.now) c.audit.ensures.exchanged))

pub returns-in-Travel-clause-given : goal.returns-in-Travel-clause-given
returns-in-Travel-clause-given g c answered =
    let before = outside (g.S.Shelf.told c.args.shelf.now) (g.P.Port.told c.args.port.now) c.args.turns.now in
    let now = outside (g.S.Shelf.told c.args.shelf.now) (g.P.Port.told c.travel.new.port) c.travel.new.turns in
    rw (c.in-Travel.is) (tells_alone (λ X kind. GivenFor kind before.shelf now.shelf) c.args.policy.now before now c.travel.result answered c.lattice-lattice.ensures.valid (Command.travel c.in-Travel.policy.now) tt (carries_commands c.args.policy.now c.travel.result (travel_duty c.args.policy.now) c.travel.ensures.exchanged))

pub returns-in-Ok-clause-given : goal.returns-in-Ok-clause-given
returns-in-Ok-clause-given g c answered =
    let before = outside (g.S.Shelf.told c.args.shelf.now) (g.P.Port.told c.args.port.now) c.args.turns.now in
    let now = outside (g.S.Shelf.told c.find.new.shelf) (g.P.Port.told c.resume.new.port) c.resume.new.turns in
    rw (c.in-Resume.is) (tells_resumed c.args.policy.now before now c.resume.result c.in-Resume.policy.now c.in-Resume.from.now c.in-Ok.pool answered c.lattice-lattice.ensures.valid c.in-Ok.ensures.named c.in-Ok.ensures.given c.resume.ensures.exchanged)

pub returns-in-Err-clause-given : goal.returns-in-Err-clause-given
returns-in-Err-clause-given g c answered = absurd (refused_unanswered (state_refusal c.args.policy.now) c.in-Err.status c.in-Err.ensures.refused answered)

pub returns-in-Ok-find-clause-given : goal.returns-in-Ok-find-clause-given
returns-in-Ok-find-clause-given g c answered =
    let before = outside (g.S.Shelf.told c.args.shelf.now) (g.P.Port.told c.args.port.now) c.args.turns.now in
    let now = outside (g.S.Shelf.told c.find-in-Release.new.shelf) (g.P.Port.told c.release.new.port) c.release.new.turns in
    rw (c.in-Release.is) (tells_released c.args.policy.now before now c.release.result c.in-Release.policy.now c.in-Release.rules.now c.in-Ok-find.rules answered c.lattice-lattice.ensures.valid c.in-Ok-find.ensures.given c.release.ensures.exchanged)

pub returns-in-Err-find-clause-given : goal.returns-in-Err-find-clause-given
returns-in-Err-find-clause-given g c answered = absurd (refused_unanswered (rules_refusal c.args.policy.now.order) c.in-Err-find.status c.in-Err-find.ensures.refused answered)
