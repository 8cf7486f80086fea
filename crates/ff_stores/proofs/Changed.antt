-- Changes that keep stores valid, as the calls of the stores below say them.
use Rattle.std.proofs.Common.{◌≡◌, ℕ, ◌<◌, cond, Option, Some, None, List, [], ◌∷◌, length, is_some, sym, subst}
use Rattle.std.specs.Prelude.{MatchOption}
use Rattle.std.specs.Str.{IsUtf8}
use Rattle.ff_name.specs.Spelling.{IsDomain}
use Rattle.ff_tree.specs.Spelled.{IsWellSpelledDoc}
use Rattle.ff_tree.specs.declared.tree.Doc.{Doc}
use Rattle.ff_tree.specs.declared.tree.Expr.{Expr}
use Rattle.ff_value.specs.declared.fault.Fault.{Fault}
use Rattle.ff_value.specs.declared.ids.ActId.{ActId}
use Rattle.ff_value.specs.declared.ids.PageId.{PageId}
use Rattle.ff_value.specs.declared.reply.CookieOp.TheVariants as cookie
use Rattle.ff_value.specs.declared.value.Val.TheVariants as val
use Rattle.ff_machine.specs.declared.records.Pending.{Pending}
use Rattle.ff_machine.specs.Net as net
use Rattle.ff_machine.specs.Nodes as nodes
use Rattle.ff_machine.specs.Windows as windows
use Rattle.ff_machine.specs.Windows.{Windows}
use Rattle.ff_machine.specs.Stores as stores
use Rattle.ff_machine.specs.Stores.{Stores}
use Rattle.ff_machine.specs.Operators.{unless, does}
use Rattle.ff_machine.specs.Reduction as red
use Rattle.ff_machine.specs.Valid.{IsStores}
use Rattle.ff_laws.specs.Reduced.{KeepsUnlessFault}
use Rattle.ff_laws.proofs.Cookies.{put_cookies_valid}
use Rattle.ff_laws.proofs.Making.{tree_made_valid}
use Rattle.ff_laws.proofs.Answering.{answered_valid}
use Rattle.ff_laws.proofs.Slots.{popped_valid}

-- a cookie that is put without a fault
pub cookie_put_valid : (s : Stores) (domain key value : List ℕ) → IsStores s → IsDomain domain → IsUtf8 key → IsUtf8 value → net.cookie_fault s.jar domain key value ≡ None
    → IsStores (record s { jar = net.cookie_put s.jar domain key value })
cookie_put_valid s domain key value valid is_domain is_key is_value none =
    subst (λ (why : Option Fault). IsStores (record s { jar = cond (is_some why) s.jar (net.cookie_put s.jar domain key value) })) none
    ((put_cookies_valid s domain (cookie.Put key value ∷ []) valid is_domain ((is_key, is_value), tt)).stores)

-- a tree that is made without a fault
pub made_tree_valid : (s : Stores) (a : ActId) (d : Doc) → IsStores s → a.0 < length s.windows.acts → IsWellSpelledDoc d → red.tree_fault s a d ≡ None → IsStores (red.with_tree s a d)
made_tree_valid s a d valid lives spelled none =
    (subst (λ (why : Option Fault). KeepsUnlessFault s (unless why (does (val.Node (nodes.next_node s.nodes)) (stores.nothing (red.with_tree s a d))))) none (tree_made_valid s a d valid lives spelled)).keeps.stores

-- a request that is answered, if there is one
pub answer_valid : (s : Stores) (domain : List ℕ) (k : ℕ) (o : Option Pending) (new : net.Requests) → IsStores s → MatchOption o (new ≡ s.requests) (λ _. new ≡ net.answered s.requests domain k)
    → IsStores (record s { requests = new })
answer_valid s domain k None new valid h = subst (λ (r : net.Requests). IsStores (record s { requests = r })) (sym h) valid
answer_valid s domain k (Some p) new valid h = subst (λ (r : net.Requests). IsStores (record s { requests = r })) (sym h) ((answered_valid s domain k valid).stores)

-- a queue from which a script is taken, if it begins with one
pub pop_valid : (s : Stores) (page : PageId) (o : Option Expr) (new : Windows) → IsStores s → page.0 < length s.windows.pages
    → MatchOption o (new ≡ s.windows) (λ _. new ≡ windows.popped s.windows page) → IsStores (record s { windows = new })
pop_valid s page None new valid lives h = subst (λ (w : Windows). IsStores (record s { windows = w })) (sym h) valid
pop_valid s page (Some body) new valid lives h = subst (λ (w : Windows). IsStores (record s { windows = w })) (sym h) ((popped_valid s page valid lives).stores)
