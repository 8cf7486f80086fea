use Rattle.std.proofs.Common.{◌∷◌, List, ℕ, ap, ◌∙◌}
use Rattle.ff_contract.proofs.Sequence.{appends_same}
use Rattle.ff_forms.specs.Canonical.{word}
use Rattle.ff_value.specs.Kinds.{word_of}
use Rattle.ff_trace.specs.Printed.{act_items, act_parts, joined}
use Rattle.ff_trace.proofs.printing.print_act.Goals as goal

pub returns : goal.returns
returns c =
    let one = c.args.act.now in
    let head = c.as_bytes.result.now in
    appends_same c.print_kind.result c.args.out.now.items c.print_kind.new.out.items (joined (word head ∷ act_parts one)) (joined (act_items one))
    (ap (λ (h : List ℕ). joined (word h ∷ act_parts one)) (c.as_bytes.ensures.value ∙ c.word.ensures ∙ ap word_of c.kind-kind.ensures)) c.print_kind.ensures
