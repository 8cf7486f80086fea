use Rattle.ff_laws.proofs.Answering.{answered_valid}
use Rattle.ff_laws.proofs.Asking.{sent_valid}
use Rattle.ff_laws.proofs.Cookies.{put_cookies_valid}
use Rattle.ff_laws.proofs.Simple.{weighed_valid, settled_valid}
use Rattle.ff_laws.proofs.keeping.requests_and_cookies_keep_stores_valid.Goals as goal

pub returns : goal.returns
returns c = record { sent = sent_valid; answered = answered_valid; cookies = put_cookies_valid; weighed = weighed_valid; settled = settled_valid }
