use Rattle.std.proofs.Common.{List, map, sym, ap, ◌∙◌}
use Rattle.ff_machine.specs.Windows.{Activation, act_at}
use Rattle.ff_records.specs.Records.{act_rec, variable}
use Rattle.ff_records.specs.declared.records.Variable.{Variable}
use Rattle.ff_records.specs.declared.records.ActRec.{ActRec}
use Rattle.ff_acts.proofs.Seen.{lives_in, seen_at}
use Rattle.ff_acts.proofs.acts.Acts.act_record.Goals as goal

pub cell_at-requires : goal.cell_at-requires
cell_at-requires c = lives_in c.self.inside.acts c.self.inside.vars c.args.self.now c.args.a.0 c.self.view_is c.requires

pub returns : goal.returns
returns c =
    ap (λ (vars : List Variable). let rec : ActRec = record { parent = c.cell_at.result.now.parent; vars = vars } in rec) (c.in_ok-vars_of.ensures ∙ ap (map variable) c.in_ok-sorted.ensures)
    ∙ ap act_rec (sym (seen_at c.self.inside.acts c.self.inside.vars c.args.a.0 c.cell_at.result.now c.cell_at.ensures))
    ∙ ap (λ (acts : List Activation). act_rec (act_at acts c.args.a)) c.self.view_is
