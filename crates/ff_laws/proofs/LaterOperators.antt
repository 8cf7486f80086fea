-- Each operator leaves later stores.
use Rattle.std.proofs.Common.{◌≡◌, ℕ, ◌+◌, ◌≤◌, Bool, true, false, cond, ◌&&◌, ◌||◌, not, ◌++◌, ◌+ℤ◌, ◌-ℤ◌, ◌*ℤ◌, ℤ, pos, int_lt, int_le, int_div, int_rem, nat_abs, ◌==◌, Option, Some, None, Result, Ok, Err, List, [], ◌∷◌, length, arith, refl}
use Rattle.std.specs.Prelude.{⊤}
use Rattle.std.proofs.lemmas.Bool.{and_parts, leb-true}
use Rattle.ff_operators.specs.Limits.{most_mass}
use Rattle.std.specs.Ordering.{int_eq}
use Rattle.ff_confinement.specs.Turns.{Stepped}
use Rattle.ff_name.specs.Address.{printed}
use Rattle.ff_name.specs.Reading.{read_url}
use Rattle.ff_name.specs.declared.urls.Url.{Url}
use Rattle.ff_name.specs.declared.urls.Url.TheVariants as url
use Rattle.ff_tree.specs.declared.op.Op.{Op}
use Rattle.ff_tree.specs.declared.op.Op.TheVariants as op
use Rattle.ff_value.specs.declared.fault.Fault.{Fault}
use Rattle.ff_value.specs.declared.fault.Fault.TheVariants as fault
use Rattle.ff_value.specs.declared.ids.WinId.{WinId}
use Rattle.ff_value.specs.declared.ids.PageId.{PageId}
use Rattle.ff_value.specs.declared.ids.NodeId.{NodeId}
use Rattle.ff_value.specs.declared.output.Out.{Out}
use Rattle.ff_value.specs.declared.value.Code.{Code}
use Rattle.ff_value.specs.declared.value.Val.{Val}
use Rattle.ff_value.specs.declared.value.Val.TheVariants as val
use Rattle.ff_operators.specs.declared.answer.Applied.{Applied}
use Rattle.ff_operators.specs.Operands.{with_operands, no_operands, one_bool, one_num, two_nums, one_str, two_strs, str_num, str_nums, one_win, win_str, one_node, node_str, node_num, node_str_num, nodes_num, node_code, strs_code}
use Rattle.ff_number.specs.Decimal.{num_text}
use Rattle.ff_number.specs.Numbers.{fits, read_num}
use Rattle.ff_operators.specs.Pure as pure
use Rattle.ff_machine.specs.declared.records.Dst.TheVariants as dst
use Rattle.ff_machine.specs.Nodes as nodes
use Rattle.ff_machine.specs.Nodes.{node_at, children}
use Rattle.ff_machine.specs.Shapes.{text_of}
use Rattle.ff_machine.specs.Windows as windows
use Rattle.ff_machine.specs.Windows.{is_open}
use Rattle.ff_machine.specs.Net as net
use Rattle.ff_machine.specs.Stores as stores
use Rattle.ff_machine.specs.Stores.{Stores}
use Rattle.ff_machine.specs.Operators as operators
use Rattle.ff_machine.specs.Operators.{Outcome, operate, unless, does, does_or_limit, with_mass}
use Rattle.ff_laws.specs.Later.{AreLater}
use Rattle.ff_laws.proofs.LaterWindows as windows_later
use Rattle.ff_laws.proofs.Later.{unchanged, both, MaybeLater, node_set, sent, send, go}
use Rattle.ff_laws.proofs.LaterSteps.{window_more, open_window, close_window, with_text, insert}

-- The pure operators: the mass doesn't fall.

-- what a pure operator gives weighs no less than before, and no more than may be
abbrev pub Weighs : ℕ → Result Applied Fault → Type 0
Weighs mass (Ok applied) = (mass ≤ applied.mass) × (mass ≤ most_mass → applied.mass ≤ most_mass)
Weighs mass (Err f) = ⊤

weighs_one : (mass : ℕ) (b : Bool) (x y : Result Applied Fault) → Weighs mass x → Weighs mass y → Weighs mass (cond b x y)
weighs_one mass true x y g h = g
weighs_one mass false x y g h = h

weighs_given : {X : Type 0} (mass : ℕ) (o : Option X) (f : X → Result Applied Fault) → ((x : X) → Weighs mass (f x)) → Weighs mass (with_operands o f)
weighs_given mass None f h = tt
weighs_given mass (Some x) f h = h x

free : (mass : ℕ) (v : Val) → Weighs mass (pure.free mass v)
free mass v = (omega arith, λ h. h)

-- a text that is made
pub made : (mass : ℕ) (text : List ℕ) → Weighs mass (pure.made mass text)
made mass text = by (pure.has_room mass (length text)) refl where
  by : (b : Bool) → pure.has_room mass (length text) ≡ b → Weighs mass (cond b (Ok (record { value = val.Str text; mass = mass + length text })) (Err fault.Limit))
  by true e = (omega arith, λ h. leb-true (mass + length text) most_mass (and_parts _ _ e).1)
  by false e = tt

number : (mass : ℕ) (n : ℤ) → Weighs mass (pure.num_or_overflow mass n)
number mass n = weighs_one mass (fits n) (pure.free mass (val.Num n)) (Err fault.Overflow) (free mass (val.Num n)) tt

divided : (mass : ℕ) (a b result : ℤ) → Weighs mass (pure.divided mass a b result)
divided mass a b result =
    weighs_one mass (int_eq b (pos 0)) (Err fault.Range) (cond (fits (int_div a b)) (pure.free mass (val.Num result)) (Err fault.Overflow)) tt
    (weighs_one mass (fits (int_div a b)) (pure.free mass (val.Num result)) (Err fault.Overflow) (free mass (val.Num result)) tt)

ordered : (mass : ℕ) (nums : ℤ → ℤ → Bool) (texts : List ℕ → List ℕ → Bool) (args : List Val) → Weighs mass (pure.ordered mass nums texts args)
ordered mass nums texts (val.Num a ∷ val.Num b ∷ []) = free mass (val.Bool (nums a b))
ordered mass nums texts (val.Str a ∷ val.Str b ∷ []) = free mass (val.Bool (texts a b))
ordered mass nums texts other = tt

equal : (mass : ℕ) (args : List Val) → Weighs mass (pure.equal mass args)
equal mass [] = tt
equal mass (a ∷ []) = tt
equal mass (a ∷ b ∷ []) = weighs_one mass (pure.is_code a || pure.is_code b) (Err fault.Kind) (pure.free mass (val.Bool (pure.same a b))) tt (free mass (val.Bool (pure.same a b)))
equal mass (a ∷ b ∷ c ∷ args) = tt

byte : (mass : ℕ) (b : Option ℕ) → Weighs mass (pure.byte mass b)
byte mass None = tt
byte mass (Some b) = free mass (val.Num (pos b))

cut : (mass : ℕ) (part : Option (List ℕ)) → Weighs mass (pure.cut mass part)
cut mass None = tt
cut mass (Some part) = made mass part

-- a pure operator
pub apply : (o : Op) (args : List Val) (mass : ℕ) → Weighs mass (pure.apply o args mass)
apply op.Add args mass = weighs_given mass (two_nums args) _ (λ o. number mass (o.0 +ℤ o.1))
apply op.Sub args mass = weighs_given mass (two_nums args) _ (λ o. number mass (o.0 -ℤ o.1))
apply op.Mul args mass = weighs_given mass (two_nums args) _ (λ o. number mass (o.0 *ℤ o.1))
apply op.Div args mass = weighs_given mass (two_nums args) _ (λ o. divided mass o.0 o.1 (int_div o.0 o.1))
apply op.Rem args mass = weighs_given mass (two_nums args) _ (λ o. divided mass o.0 o.1 (int_rem o.0 o.1))
apply op.Less args mass = ordered mass int_lt pure.text_lt args
apply op.AtMost args mass = ordered mass int_le pure.text_le args
apply op.Equal args mass = equal mass args
apply op.Not args mass = weighs_given mass (one_bool args) _ (λ b. free mass (val.Bool (not b)))
apply op.Cat args mass = weighs_given mass (two_strs args) _ (λ o. made mass (o.0 ++ o.1))
apply op.Len args mass = weighs_given mass (one_str args) _ (λ a. number mass (pos (length a)))
apply op.Byte args mass = weighs_given mass (str_num args) _ (λ o. byte mass (pure.byte_at o.0 o.1))
apply op.Cut args mass = weighs_given mass (str_nums args) _ (λ o. cut mass (pure.part_of o.0 o.1 o.2))
apply op.Str args mass = weighs_given mass (one_num args) _ (λ n. made mass (num_text n))
apply op.Num args mass = weighs_given mass (one_str args) _ (λ a. free mass (pure.num_or_null (read_num a)))
apply other args mass = tt

-- The operators on stores.

-- what an operator leaves, where it doesn't fail
abbrev pub OutcomeLater : Stores → Outcome → Type 0
OutcomeLater s (Ok did) = AreLater s did.after
OutcomeLater s (Err f) = ⊤

given : {X : Type 0} (s : Stores) (o : Option X) (f : X → Outcome) → ((x : X) → OutcomeLater s (f x)) → OutcomeLater s (with_operands o f)
given s None f h = tt
given s (Some x) f h = h x

one_of : (s : Stores) (b : Bool) (x y : Outcome) → OutcomeLater s x → OutcomeLater s y → OutcomeLater s (cond b x y)
one_of s true x y g h = g
one_of s false x y g h = h

-- what is done unless there is a fault
pub unless_later : (s : Stores) (why : Option Fault) (done : Outcome) → OutcomeLater s done → OutcomeLater s (unless why done)
unless_later s None done h = h
unless_later s (Some f) done h = tt

or_limit : (s : Stores) (v : Val) (step : Option (Stepped Out Stores)) → MaybeLater s step → OutcomeLater s (does_or_limit v step)
or_limit s v None h = tt
or_limit s v (Some step) h = h

at_url : (s : Stores) (u : Option Url) (f : Url → Outcome) → ((u : Url) → OutcomeLater s (f u)) → OutcomeLater s (operators.at_url u f)
at_url s None f h = tt
at_url s (Some u) f h = h u

if_open : (s : Stores) (w : WinId) (done : Outcome) → OutcomeLater s done → OutcomeLater s (operators.if_open s w done)
if_open s w done h = one_of s (is_open s.windows w) done (Err fault.Dead) h tt

massed : (s : Stores) (applied : Result Applied Fault) → Weighs s.mass applied → OutcomeLater s (with_mass s applied)
massed s (Ok applied) h = record { nodes = omega arith; windows = windows_later.unchanged s.windows; mass = h.0 }
massed s (Err f) h = tt

set_cookie : (s : Stores) (domain : Option (List ℕ)) (key value : List ℕ) → OutcomeLater s (operators.set_cookie s domain key value)
set_cookie s None key value = tt
set_cookie s (Some d) key value =
    unless_later s (net.cookie_fault s.jar d key value) (operators.becomes (record s { jar = net.cookie_put s.jar d key value }))
    (record { nodes = omega arith; windows = windows_later.unchanged s.windows; mass = omega arith })

del_cookie : (s : Stores) (domain : Option (List ℕ)) (key : List ℕ) → OutcomeLater s (operators.del_cookie s domain key)
del_cookie s None key = unchanged s
del_cookie s (Some d) key = record { nodes = omega arith; windows = windows_later.unchanged s.windows; mass = omega arith }

open_at : (s : Stores) (page : PageId) (name : Option (List ℕ)) (u : Url) → OutcomeLater s (operators.open_at s page name u)
open_at s page name url.Blank =
    or_limit s (val.Win (windows.next_win s.windows)) (stores.open_window s name (Some (operators.self_window s page))) (open_window s name (Some (operators.self_window s page)))
open_at s page name (url.At domain uri) =
    let w = windows.next_win s.windows in
    let first = stores.opened s name (Some (operators.self_window s page)) in
    one_of s (stores.has_window_room s && stores.has_ask_room s domain) (does (val.Win w) (stores.then first (λ t. stores.sent t domain uri [] (dst.Window w)))) (Err fault.Limit)
    (both s first.after (stores.sent first.after domain uri [] (dst.Window w)).after (window_more s name (Some (operators.self_window s page))) (sent first.after domain uri [] (dst.Window w))) tt

open_named : (s : Stores) (page : PageId) (name : List ℕ) (u : Url) (w : Option WinId) → OutcomeLater s (operators.open_named s page name u w)
open_named s page name u None = open_at s page (Some name) u
open_named s page name u (Some w) = or_limit s (val.Win w) (stores.go s w u) (go s w u)

text : (s : Stores) (t : Option (List ℕ)) → OutcomeLater s (operators.text s t)
text s None = tt
text s (Some t) = unchanged s

child : (s : Stores) (c : Option NodeId) → OutcomeLater s (operators.child s c)
child s None = tt
child s (Some c) = unchanged s

ask_at : (s : Stores) (page : PageId) (body : List ℕ) (code : Code) (u : Url) → OutcomeLater s (operators.ask_at s page body code u)
ask_at s page body code url.Blank = tt
ask_at s page body code (url.At domain uri) = or_limit s val.Null (stores.send s domain uri body (dst.Call page code)) (send s domain uri body (dst.Call page code))

pure_later : (s : Stores) (o : Op) (args : List Val) → OutcomeLater s (with_mass s (pure.apply o args s.mass))
pure_later s o args = massed s (pure.apply o args s.mass) (apply o args s.mass)

-- what an operator does leaves later stores
pub operate_later : (s : Stores) (page : PageId) (o : Op) (args : List Val) → OutcomeLater s (operate s page o args)
operate_later s page op.Cookie args = given s (one_str args) _ (λ key. unchanged s)
operate_later s page op.SetCookie args = given s (two_strs args) _ (λ o. set_cookie s (operators.page_domain s page) o.0 o.1)
operate_later s page op.DelCookie args = given s (one_str args) _ (del_cookie s (operators.page_domain s page))
operate_later s page op.SelfWindow args = given s (no_operands args) _ (λ o. unchanged s)
operate_later s page op.Opener args = given s (one_win args) _ (λ w. if_open s w _ (unchanged s))
operate_later s page op.Live args = given s (one_win args) _ (λ w. unchanged s)
operate_later s page op.Url args =
    given s (one_win args) _ (λ w. if_open s w _ (massed s _ (made s.mass (printed (windows.page_at s.windows (windows.window_at s.windows w).page).url))))
operate_later s page op.Page args = given s (one_win args) _ (λ w. if_open s w _ (unchanged s))
operate_later s page op.Window args = given s (one_str args) _ (λ name. unchanged s)
operate_later s page op.Open args = given s (one_str args) _ (λ address. at_url s (read_url address) _ (open_at s page None))
operate_later s page op.OpenNamed args =
    given s (two_strs args) _ (λ o. at_url s (read_url o.1) _ (λ u. open_named s page o.0 u (windows.named s.windows o.0)))
operate_later s page op.Go args = given s (win_str args) _ (λ o. if_open s o.0 _ (at_url s (read_url o.1) _ (λ u. or_limit s val.Null (stores.go s o.0 u) (go s o.0 u))))
operate_later s page op.Close args = given s (one_win args) _ (λ w. if_open s w _ (close_window s w))
operate_later s page op.Kind args = given s (one_node args) _ (λ n. unchanged s)
operate_later s page op.Text args = given s (one_node args) _ (λ n. text s (text_of (node_at s.nodes n).shape))
operate_later s page op.SetText args = given s (node_str args) _ (λ o. unless_later s (stores.set_text_fault s o.0 o.1) _ (with_text s o.0 o.1))
operate_later s page op.Count args = given s (one_node args) _ (λ n. unchanged s)
operate_later s page op.Child args = given s (node_num args) _ (λ o. child s (operators.item_at (children s.nodes o.0) o.1))
operate_later s page op.Find args = given s (node_str args) _ (λ o. unchanged s)
operate_later s page op.Nth args = given s (node_str_num args) _ (λ o. unchanged s)
operate_later s page op.Insert args = given s (nodes_num args) _ (λ o. unless_later s (nodes.insert_fault s.nodes o.0 o.1 o.2) _ (insert s o.0 o.1 (nat_abs o.2)))
operate_later s page op.Listen args = given s (node_code args) _ (λ o. unless_later s (nodes.handler_fault s.nodes o.0 o.1) _ (node_set s o.0 _))
operate_later s page op.Ask args =
    given s (strs_code args) _ (λ o. one_of s (length o.2.params == 1) _ (Err fault.Kind) (at_url s (read_url o.0) _ (ask_at s page o.1 o.2)) tt)
operate_later s page pure args = pure_later s pure args
