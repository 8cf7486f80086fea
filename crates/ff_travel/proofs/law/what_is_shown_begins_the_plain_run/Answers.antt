use Rattle.ff_travel.proofs.Playing.{shown_all, shown_begins}
use Rattle.ff_travel.proofs.law.what_is_shown_begins_the_plain_run.Goals as goal

pub returns : goal.returns
returns c = record {
  begins = λ p commands l all lt. shown_begins p commands l all lt;
  all = λ p commands l all lt. shown_all p commands l all lt;
}
