use Rattle.std.proofs.Common.{refl, sym, ap, ◌∙◌}
use Rattle.ff_travel.specs.Force.{in_force}
use Rattle.ff_travel.specs.Travelled.{history_after}
use Rattle.ff_travel.proofs.Force.{happened_is, in_force_push}
use Rattle.ff_travel.proofs.law.a_travel_is_a_fresh_replay.Goals as goal

pub returns : goal.returns
returns c = record {
  new = λ p. refl;
  step = λ p commands command. happened_is p (in_force commands) command ∙ sym (ap (history_after p) (in_force_push commands command));
}
