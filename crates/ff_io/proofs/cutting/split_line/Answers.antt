use Rattle.std.proofs.Common.{◌+◌, ◌-◌, drop, length, arith, ◌∙◌}
use Rattle.std.proofs.lemmas.List.{take_all, length-drop}
use Rattle.ff_io.proofs.Cuts.{rest_at, rest_none}
use Rattle.ff_io.proofs.cutting.split_line.Goals as goal

pub returns-in-Some-clause-rest : goal.returns-in-Some-clause-rest
returns-in-Some-clause-rest c =
    let bytes = c.args.bytes.now in
    let at = c.in-Some.at in
    let long = length-drop (at + 1) bytes in
    take_all (length bytes - (at + 1)) (drop (at + 1) bytes) (omega (arith, long)) ∙ rest_at bytes at c.in-Some.ensures

pub returns-in-None-clause-rest : goal.returns-in-None-clause-rest
returns-in-None-clause-rest c =
    let bytes = c.args.bytes.now in
    let long = length-drop (length bytes) bytes in
    take_all (length bytes - length bytes) (drop (length bytes) bytes) (omega (arith, long)) ∙ rest_none bytes c.in-None.ensures
