use Rattle.std.proofs.Common.{◌≡◌, sym, ◌∙◌}
use Rattle.std.specs.Int.{w64}
use Rattle.std.specs.Prelude.{FitsSigned as SFits}
use Rattle.std.proofs.lemmas.Int.{to_z-of_z}
use Rattle.ff_machine.specs.Kinds.{kind_word}
use Rattle.ff_machine.specs.Nodes.{of_word}
use Rattle.ff_machine.specs.declared.kinds.Kind.{Kind}
use Rattle.ff_store_operators.proofs.Walked.{no_kind, none_at, past_at}
use Rattle.ff_store_operators.proofs.nodes.nth_of_word.Goals as goal

pub returns-in-Err : goal.returns-in-Err
returns-in-Err c =
    let old = c.args.stores.now in
    let fits : SFits w64 c.args.at = c.ranges.at in
    let past = simp to_z-of_z at c.in-Err.ensures in
    sym (past_at old.nodes c.nodes-nodes.ensures.valid.nodes c.args.n c.requires c.args.word.now c.args.at past)

pub returns-in-None : goal.returns-in-None
returns-in-None c =
    let old = c.args.stores.now in
    let other : (kind : Kind) → kind_word kind ≡ c.args.word.now → ⊥ = λ kind e. c.in-None.ensures kind (e ∙ sym c.as_str.ensures.value) in
    sym (none_at (of_word old.nodes c.args.n c.args.word.now) c.args.at (no_kind old.nodes c.args.n c.args.word.now other))
