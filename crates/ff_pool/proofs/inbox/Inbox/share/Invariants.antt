use Rattle.ff_pool.proofs.inbox.Inbox.share.Given as goal

abbrev pub ghosts-put_behind : goal.ghosts-put_behind
ghosts-put_behind a = record { name = a.blank.name; parts = a.blank.parts }
