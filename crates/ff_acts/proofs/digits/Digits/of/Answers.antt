use Rattle.std.proofs.Common.{◌+◌, ◌*◌, ◌^◌, List, ℕ, ap, ◌∙◌}
use Rattle.ff_acts.specs.Digits.{digits, number, spread}
use Rattle.ff_acts.proofs.digits.Digits.of.Goals as goal

pub returns : goal.returns
unfolding digits
returns c =
    ap (λ (n : ℕ). n + 2 ^ 32 * number c.as_bytes.result.now) c.requires ∙ ap (λ (x : List ℕ). spread c.args.name.now + 2 ^ 32 * number x) c.as_bytes.ensures.value
