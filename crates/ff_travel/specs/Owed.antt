-- What a travel owes for its commands.
use Rattle.ff_policy.specs.Assignment.{Assignment}
use Rattle.ff_stream.specs.Owed.{text_of, turns_of}
use Rattle.ff_session.specs.Works.{Duty}
use Rattle.ff_status.specs.declared.status.Status.TheVariants.{Done}
use Rattle.ff_travel.specs.Shown.{travel_entry, travel_turns}
use Rattle.ff_travel.specs.declared.command.Command.{Command}

-- each text in time, and no more at the end; the turns of all, also of those that are taken back
abbrev pub travel_duty : Assignment → Duty Command
travel_duty p = record {
  entry = travel_entry p;
  text = λ whole commands. text_of (travel_entry p) commands;
  turns = turns_of (travel_turns p);
  good = λ commands. Done;
}
