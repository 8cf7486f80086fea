-- Operators on valid stores with valid operands keep the stores, and give valid values.
use Rattle.std.proofs.Common.{◌≡◌, ℕ, ◌<◌, Bool, true, false, cond, ℤ, Option, Some, None, Result, Ok, Err, List, [], ◌∷◌, length, All, refl}
use Rattle.std.specs.Str.{IsUtf8}
use Rattle.std.proofs.lemmas.List.Elements.{All-head, All-tail}
use Rattle.ff_confinement.specs.Turns.{Stepped}
use Rattle.ff_name.specs.Address.{IsWellSpelled, Spells, IsRequest}
use Rattle.ff_name.specs.Address.Spells.{as_printed, with_no_request}
use Rattle.ff_name.specs.Reading.{read_url}
use Rattle.ff_name.proofs.Reading.{read_url_spelled, IsRequest-from}
use Rattle.ff_name.specs.declared.urls.Url.{Url}
use Rattle.ff_value.specs.declared.fault.Fault.{Fault}
use Rattle.ff_value.specs.declared.fault.Fault.TheVariants as fault
use Rattle.ff_value.specs.declared.ids.WinId.{WinId}
use Rattle.ff_value.specs.declared.ids.NodeId.{NodeId}
use Rattle.ff_value.specs.declared.output.Out.{Out}
use Rattle.ff_value.specs.declared.value.Code.{Code}
use Rattle.ff_value.specs.declared.value.Val.{Val}
use Rattle.ff_value.specs.declared.value.Val.TheVariants as val
use Rattle.ff_operators.specs.declared.answer.Applied.{Applied}
use Rattle.ff_operators.specs.Operands.{with_operands, no_operands, one_str, two_strs, one_win, win_str, one_node, node_str, node_num, node_str_num, nodes_num, node_code, strs_code}
use Rattle.ff_machine.specs.Stores.{Stores}
use Rattle.ff_machine.specs.Windows.{is_open}
use Rattle.ff_machine.specs.Operators as operators
use Rattle.ff_machine.specs.Operators.{Outcome, unless, does_or_limit, with_mass, gives}
use Rattle.ff_machine.specs.References.{made}
use Rattle.ff_machine.specs.Valid.{IsCode, IsVal, IsStores}
use Rattle.ff_laws.specs.Keeps.{Keeps, KeepsIfMade}
use Rattle.ff_laws.specs.Reduced.{KeepsUnlessFault}
use Rattle.ff_laws.proofs.Simple.{mass_changed}
use Rattle.ff_laws.proofs.Starting.{kept}
use Rattle.ff_laws.proofs.LaterOperators.{Weighs}
use Rattle.ff_machine.proofs.Pure.{AppliesVal}

slash_request : IsRequest (47 ∷ [])
slash_request = IsRequest-from (47 ∷ []) refl

spelled_by : (bytes : List ℕ) (u : Url) → Spells bytes u → IsWellSpelled u
spelled_by bytes u spells = elim spells as (λ bytes u spells. IsWellSpelled u) [
  | as_printed u is ↦ is
  | with_no_request domain is ↦ (is, slash_request)
]

-- an address that was read is well spelled
pub read_spelled : (text : List ℕ) (u : Url) → read_url text ≡ Some u → IsWellSpelled u
read_spelled text u e = spelled_by text u (read_url_spelled text u e)

module _ (s : Stores) (valid : IsStores s) where
  -- a value, and the stores as they are
  pub value_given : (v : Val) → IsVal (made s) v → KeepsUnlessFault s (gives s v)
  value_given v is = record { keeps = kept s valid; value = is }

  -- what is done unless there is a fault
  pub unless_fault : (why : Option Fault) (done : Outcome) → (why ≡ None → KeepsUnlessFault s done) → KeepsUnlessFault s (unless why done)
  unless_fault None done h = h refl
  unless_fault (Some f) done h = tt

  -- a step where there is room
  pub or_limit : (v : Val) (step : Option (Stepped Out Stores)) → KeepsIfMade s step → ((t : Stores) → Keeps s t → IsVal (made t) v) → KeepsUnlessFault s (does_or_limit v step)
  or_limit v None h is = tt
  or_limit v (Some step) h is = record { keeps = h; value = is step.after h }

  -- one of two outcomes
  pub one_outcome : (b : Bool) (x y : Outcome) → (b ≡ true → KeepsUnlessFault s x) → KeepsUnlessFault s y → KeepsUnlessFault s (cond b x y)
  one_outcome true x y g h = g refl
  one_outcome false x y g h = h

  -- what is done with an open window
  pub with_open : (w : WinId) (done : Outcome) → KeepsUnlessFault s done → KeepsUnlessFault s (operators.if_open s w done)
  with_open w done h = one_outcome (is_open s.windows w) done (Err fault.Dead) (λ e. h) tt

  -- what is done at an address that is read
  pub with_url : (text : List ℕ) (f : Url → Outcome) → ((u : Url) → IsWellSpelled u → KeepsUnlessFault s (f u)) → KeepsUnlessFault s (operators.at_url (read_url text) f)
  with_url text f h = by (read_url text) refl where
    by : (o : Option Url) → read_url text ≡ o → KeepsUnlessFault s (operators.at_url o f)
    by None e = tt
    by (Some u) e = h u (read_spelled text u e)

  -- a value and a mass that a pure operator gives
  pub applied : (r : Result Applied Fault) → Weighs s.mass r → AppliesVal (made s) r → KeepsUnlessFault s (with_mass s r)
  applied (Ok a) weighs is = record { keeps = mass_changed s a.mass valid (weighs.1 valid.light); value = is }
  applied (Err f) weighs is = tt

  -- Operands.

  abbrev Are : List Val → Type 0
  Are = All (IsVal (made s))

  first : (a : Val) (rest : List Val) → Are (a ∷ rest) → IsVal (made s) a
  first a rest h = All-head (IsVal (made s)) a rest h

  rest_of : (a : Val) (rest : List Val) → Are (a ∷ rest) → Are rest
  rest_of a rest h = All-tail (IsVal (made s)) a rest h

  -- no operand
  pub on_none : (args : List Val) (f : Unit {0} → Outcome) → KeepsUnlessFault s (f tt) → KeepsUnlessFault s (with_operands (no_operands args) f)
  on_none [] f h = h
  on_none other f h = tt

  -- a text
  pub on_str : (args : List Val) (f : List ℕ → Outcome) → Are args → ((a : List ℕ) → IsUtf8 a → KeepsUnlessFault s (f a)) → KeepsUnlessFault s (with_operands (one_str args) f)
  on_str (val.Str a ∷ []) f are h = h a (first (val.Str a) [] are).0
  on_str other f are h = tt

  -- two texts
  pub on_strs : (args : List Val) (f : List ℕ × List ℕ → Outcome) → Are args → ((a b : List ℕ) → IsUtf8 a → IsUtf8 b → KeepsUnlessFault s (f (a, b))) → KeepsUnlessFault s (with_operands (two_strs args) f)
  on_strs (val.Str a ∷ val.Str b ∷ []) f are h = h a b (first (val.Str a) (val.Str b ∷ []) are).0 (first (val.Str b) [] (rest_of (val.Str a) (val.Str b ∷ []) are)).0
  on_strs other f are h = tt

  -- a window
  pub on_win : (args : List Val) (f : WinId → Outcome) → Are args → ((w : WinId) → w.0 < length s.windows.windows → KeepsUnlessFault s (f w)) → KeepsUnlessFault s (with_operands (one_win args) f)
  on_win (val.Win w ∷ []) f are h = h w (first (val.Win w) [] are).1
  on_win other f are h = tt

  -- a window and a text
  pub on_win_str : (args : List Val) (f : WinId × List ℕ → Outcome) → Are args → ((w : WinId) (a : List ℕ) → w.0 < length s.windows.windows → KeepsUnlessFault s (f (w, a))) → KeepsUnlessFault s (with_operands (win_str args) f)
  on_win_str (val.Win w ∷ val.Str a ∷ []) f are h = h w a (first (val.Win w) (val.Str a ∷ []) are).1
  on_win_str other f are h = tt

  -- a node
  pub on_node : (args : List Val) (f : NodeId → Outcome) → Are args → ((n : NodeId) → n.0 < length s.nodes → KeepsUnlessFault s (f n)) → KeepsUnlessFault s (with_operands (one_node args) f)
  on_node (val.Node n ∷ []) f are h = h n (first (val.Node n) [] are).1
  on_node other f are h = tt

  -- a node and a text
  pub on_node_str : (args : List Val) (f : NodeId × List ℕ → Outcome) → Are args → ((n : NodeId) (a : List ℕ) → n.0 < length s.nodes → IsUtf8 a → KeepsUnlessFault s (f (n, a))) → KeepsUnlessFault s (with_operands (node_str args) f)
  on_node_str (val.Node n ∷ val.Str a ∷ []) f are h = h n a (first (val.Node n) (val.Str a ∷ []) are).1 (first (val.Str a) [] (rest_of (val.Node n) (val.Str a ∷ []) are)).0
  on_node_str other f are h = tt

  -- a node and a number
  pub on_node_num : (args : List Val) (f : NodeId × ℤ → Outcome) → Are args → ((n : NodeId) (k : ℤ) → n.0 < length s.nodes → KeepsUnlessFault s (f (n, k))) → KeepsUnlessFault s (with_operands (node_num args) f)
  on_node_num (val.Node n ∷ val.Num k ∷ []) f are h = h n k (first (val.Node n) (val.Num k ∷ []) are).1
  on_node_num other f are h = tt

  -- a node, a text and a number
  pub on_node_str_num : (args : List Val) (f : NodeId × List ℕ × ℤ → Outcome) → Are args → ((n : NodeId) (a : List ℕ) (k : ℤ) → n.0 < length s.nodes → KeepsUnlessFault s (f (n, a, k))) → KeepsUnlessFault s (with_operands (node_str_num args) f)
  on_node_str_num (val.Node n ∷ val.Str a ∷ val.Num k ∷ []) f are h = h n a k (first (val.Node n) (val.Str a ∷ val.Num k ∷ []) are).1
  on_node_str_num other f are h = tt

  -- two nodes and a number
  pub on_nodes_num : (args : List Val) (f : NodeId × NodeId × ℤ → Outcome) → Are args → ((n c : NodeId) (k : ℤ) → n.0 < length s.nodes → c.0 < length s.nodes → KeepsUnlessFault s (f (n, c, k))) → KeepsUnlessFault s (with_operands (nodes_num args) f)
  on_nodes_num (val.Node n ∷ val.Node c ∷ val.Num k ∷ []) f are h =
      h n c k (first (val.Node n) (val.Node c ∷ val.Num k ∷ []) are).1 (first (val.Node c) (val.Num k ∷ []) (rest_of (val.Node n) (val.Node c ∷ val.Num k ∷ []) are)).1
  on_nodes_num other f are h = tt

  -- a node and a function
  pub on_node_code : (args : List Val) (f : NodeId × Code → Outcome) → Are args → ((n : NodeId) (code : Code) → n.0 < length s.nodes → IsCode (made s) code → KeepsUnlessFault s (f (n, code))) → KeepsUnlessFault s (with_operands (node_code args) f)
  on_node_code (val.Node n ∷ val.Code code ∷ []) f are h = h n code (first (val.Node n) (val.Code code ∷ []) are).1 (first (val.Code code) [] (rest_of (val.Node n) (val.Code code ∷ []) are))
  on_node_code other f are h = tt

  -- two texts and a function
  pub on_strs_code : (args : List Val) (f : List ℕ × List ℕ × Code → Outcome) → Are args → ((a b : List ℕ) (code : Code) → IsUtf8 a → IsUtf8 b → IsCode (made s) code → KeepsUnlessFault s (f (a, b, code))) → KeepsUnlessFault s (with_operands (strs_code args) f)
  on_strs_code (val.Str a ∷ val.Str b ∷ val.Code code ∷ []) f are h =
      let later = rest_of (val.Str a) (val.Str b ∷ val.Code code ∷ []) are in
      h a b code (first (val.Str a) (val.Str b ∷ val.Code code ∷ []) are).0 (first (val.Str b) (val.Code code ∷ []) later).0 (first (val.Code code) [] (rest_of (val.Str b) (val.Code code ∷ []) later))
  on_strs_code other f are h = tt
