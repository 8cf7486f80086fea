use Rattle.ff_session.proofs.Anywhere.{own_from, view_from}
use Rattle.ff_session.proofs.law.a_run_from_anywhere_tells_a_level_what_it_sees.Goals as goal

pub returns : goal.returns
returns c = record {
  projected = λ p from valid from_ok l within is ok. own_from p from valid from_ok l within is ok;
  secure = λ p from valid from_ok l within is ok. view_from p from valid from_ok l within is ok;
}
