use Rattle.std.proofs.Common.{refl, sym, ◌∙◌, append-nil}
use Rattle.ff_session.specs.Multi.{run_text, seen_by}
use Rattle.ff_session.proofs.Owing as session
use Rattle.ff_release.proofs.Texts as release
use Rattle.ff_resume.specs.Resumed.{stand_of}
use Rattle.ff_resume.proofs.Owing as resume
use Rattle.ff_run.proofs.law.what_is_put_line_by_line_is_the_whole_text.Goals as goal

pub returns : goal.returns
returns c = record {
  multi = session.multi_text_is;
  plain = session.plain_text_is;
  format = session.format_text_is;
  travel = λ p commands. refl;
  resume = λ p from is. resume.same_text p (stand_of from) is ∙ sym (append-nil (run_text p (seen_by p) (stand_of from) is));
  release = λ p rules is. release.same_text p rules is;
}
