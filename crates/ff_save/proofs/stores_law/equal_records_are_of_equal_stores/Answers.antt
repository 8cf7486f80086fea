use Rattle.ff_save.proofs.Asked.{same_requests}
use Rattle.ff_save.proofs.Stored.{same_nodes, same_windows, same_cookies, same_stores}
use Rattle.ff_save.proofs.stores_law.equal_records_are_of_equal_stores.Goals as goal

pub returns-clause-nodes : goal.returns-clause-nodes
returns-clause-nodes c = same_nodes

pub returns-clause-windows : goal.returns-clause-windows
returns-clause-windows c = same_windows

pub returns-clause-cookies : goal.returns-clause-cookies
returns-clause-cookies c = same_cookies

pub returns-clause-requests : goal.returns-clause-requests
returns-clause-requests c = same_requests

pub returns-clause-stores : goal.returns-clause-stores
returns-clause-stores c = same_stores
