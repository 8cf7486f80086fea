use Rattle.std.proofs.Common.{ap, ◌∙◌, arith}
use Rattle.ff_lattice.specs.Order.{size}
use Rattle.std.specs.Option.{option_map}
use Rattle.ff_save.specs.Holding.{held_by}
use Rattle.ff_save.proofs.Verdicts.{no_lines, not_made, made_rests, is_the_pool, is_another}
use Rattle.ff_save.proofs.read.read_pool.Goals as goal

pub returns-in_default-clause-value : goal.returns-in_default-clause-value
returns-in_default-clause-value g c = no_lines c.args.policy.now c.lattice-lattice.ensures.valid c.requires.utf8 c.args.bytes.now (option_map (held_by g.B.Reactor.state) c.in_ok-gathering.field-0) c.in_ok-gathering.ensures.value (ap (option_map (held_by g.B.Reactor.state)) c.in_default.is)

pub returns-in_default-2-clause-value : goal.returns-in_default-2-clause-value
returns-in_default-2-clause-value g c =
    not_made c.args.policy.now c.lattice-lattice.ensures.valid c.requires.utf8 c.args.bytes.now (option_map (held_by g.B.Reactor.state) c.in_ok-gathering.field-0) (held_by g.B.Reactor.state c.in-Some.gathering) c.in_ok-gathering.ensures.value (ap (option_map (held_by g.B.Reactor.state)) c.in-Some.is)
    c.size.result (c.size.ensures.value ∙ ap size c.lattice-lattice.ensures.value) c.in_ok-pool.field-0 c.in_ok-pool.ensures.value c.in_default-2.is

pub is_text_of-requires : goal.is_text_of-requires
is_text_of-requires g c =
    made_rests c.args.policy.now c.lattice-lattice.ensures.valid c.requires.utf8 c.args.bytes.now (option_map (held_by g.B.Reactor.state) c.in_ok-gathering.field-0) (held_by g.B.Reactor.state c.in-Some.gathering) c.in_ok-gathering.ensures.value (ap (option_map (held_by g.B.Reactor.state)) c.in-Some.is)
    c.size.result (c.size.ensures.value ∙ ap size c.lattice-lattice.ensures.value) c.in_ok-pool.field-0 c.in_ok-pool.ensures.value c.in-Some-2.pool c.in-Some-2.is

pub returns-then-branch-clause-value : goal.returns-then-branch-clause-value
returns-then-branch-clause-value g c =
    is_the_pool c.args.policy.now c.lattice-lattice.ensures.valid c.requires.utf8 c.args.bytes.now (option_map (held_by g.B.Reactor.state) c.in_ok-gathering.field-0) (held_by g.B.Reactor.state c.in-Some.gathering) c.in_ok-gathering.ensures.value (ap (option_map (held_by g.B.Reactor.state)) c.in-Some.is)
    c.size.result (c.size.ensures.value ∙ ap size c.lattice-lattice.ensures.value) c.in_ok-pool.field-0 c.in_ok-pool.ensures.value c.in-Some-2.pool c.in-Some-2.is
    (omega (arith, c.if-bytes-gt-MOST_SAVED_BYTES.false)) (c.in_ok-is_text_of.ensures.0 c.if-branch.true)

pub returns-else-branch-clause-value : goal.returns-else-branch-clause-value
returns-else-branch-clause-value g c =
    is_another c.args.policy.now c.lattice-lattice.ensures.valid c.requires.utf8 c.args.bytes.now (option_map (held_by g.B.Reactor.state) c.in_ok-gathering.field-0) (held_by g.B.Reactor.state c.in-Some.gathering) c.in_ok-gathering.ensures.value (ap (option_map (held_by g.B.Reactor.state)) c.in-Some.is)
    c.size.result (c.size.ensures.value ∙ ap size c.lattice-lattice.ensures.value) c.in_ok-pool.field-0 c.in_ok-pool.ensures.value c.in-Some-2.pool c.in-Some-2.is
    (λ same. let is = c.in_ok-is_text_of.ensures.1 same in cc)
