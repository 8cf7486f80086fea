use Rattle.std.proofs.Common.{◌≡◌, ◌<◌, ◌∙◌, ◌==◌, true, arith, sym, ap, bytes_eq}
use Rattle.ff_lattice.specs.Order.{size}
use Rattle.ff_value.specs.Kinds.{word_of, kind_of}
use Rattle.ff_route.proofs.Making.{use_at, no_use_at}
use Rattle.ff_route.proofs.rule.is_of_use.Goals as goal

pub returns-then-branch : goal.returns-then-branch
returns-then-branch c =
    let end : c.size-number-end.result ≡ size c.args.policy.now.order = c.size-number-end.ensures.value ∙ ap size c.lattice.ensures.value in
    let within : c.loop-number.number < size c.args.policy.now.order = omega (arith, end, c.loop-number-test.true) in
    let same : bytes_eq (word_of c.args.rule.kind) (word_of (kind_of c.args.input.now.act)) ≡ true =
    sym (c.is_kind.ensures ∙ ap (λ k. bytes_eq (word_of c.args.rule.kind) (word_of k)) c.kind.ensures) ∙ c.if-not-is_kind.false in
    use_at c.args.policy.now c.args.input.now c.args.rule (bytes_eq (word_of c.args.rule.kind) (word_of (kind_of c.args.input.now.act))) same c.loop-number.number
    (λ none. omega (arith, none, c.if-rule-eq0.false)) within (sym c.in_ok-differs.ensures ∙ c.if-branch.true)

pub returns : goal.returns
returns c =
    let end : c.size-number-end.result ≡ size c.args.policy.now.order = c.size-number-end.ensures.value ∙ ap size c.lattice.ensures.value in
    no_use_at c.args.policy.now c.args.input.now c.args.rule (bytes_eq (word_of c.args.rule.kind) (word_of (kind_of c.args.input.now.act))) (c.args.rule.quota == 0)
    (λ l less. c.loop-number.invariant l (omega (arith, end, less, c.loop-number-test.false)))
