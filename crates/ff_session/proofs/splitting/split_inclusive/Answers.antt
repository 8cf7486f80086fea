use Rattle.ff_session.proofs.Lines.{all_cut}
use Rattle.ff_session.proofs.splitting.split_inclusive.Goals as goal

pub returns-in-None-clause-lines : goal.returns-in-None-clause-lines
returns-in-None-clause-lines c =
    all_cut c.args.text.now c.split_at-in-None.result.0.now c.split_at-in-None.result.1.now c.requires c.in-None.ensures c.split_at-in-None.ensures.by_index.0 c.split_at-in-None.ensures.back_len
