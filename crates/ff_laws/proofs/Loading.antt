-- Loading, opening windows, and going to addresses keep stores valid.
use Rattle.std.proofs.Common.{◌≡◌, ℕ, ◌+◌, ◌<◌, ◌≤◌, Bool, true, false, cond, Option, Some, None, List, [], ◌∷◌, ◌++◌, length, slice_set, All, refl, sym, ap, subst, arith, length-append, length-set, ltb-true}
use Rattle.std.specs.Prelude.{nat_lt}
use Rattle.std.specs.List.{AllByRecursion}
use Rattle.std.specs.Option.{ForSome}
use Rattle.std.specs.Str.{IsUtf8}
use Rattle.std.proofs.lemmas.Bool.{and_parts}
use Rattle.std.proofs.lemmas.List.Elements.{All-set, All-push}
use Rattle.ff_confinement.specs.Turns.{Stepped}
use Rattle.ff_name.specs.Address.{IsWellSpelled}
use Rattle.ff_name.specs.declared.urls.Url.{Url}
use Rattle.ff_name.specs.declared.urls.Url.TheVariants as url
use Rattle.ff_tree.specs.Spelled.{IsWellSpelledDoc}
use Rattle.ff_tree.specs.declared.tree.Doc.{Doc}
use Rattle.ff_value.specs.declared.ids.WinId.{WinId}
use Rattle.ff_value.specs.declared.output.Out.{Out}
use Rattle.ff_machine.specs.declared.limits.TheConstants.{MOST_WINDOWS}
use Rattle.ff_machine.specs.declared.records.Dst.TheVariants as dst
use Rattle.ff_machine.specs.Nodes as nodes
use Rattle.ff_machine.specs.Windows as windows
use Rattle.ff_machine.specs.Windows.{Window, Page, no_window, nth_page, window_at}
use Rattle.ff_machine.specs.Stores as stores
use Rattle.ff_machine.specs.Stores.{Stores}
use Rattle.ff_machine.specs.Alone.{IsWindow, AreOpen}
use Rattle.ff_machine.specs.Valid.{IsStores}
use Rattle.ff_laws.specs.Keeps.{Keeps, KeepsIfMade}
use Rattle.ff_machine.proofs.Lists.{at_set}
use Rattle.ff_machine.proofs.Opened.{one_opened}
use Rattle.ff_machine.proofs.WindowChanges.{windows_grow, still_own, at_own}
use Rattle.ff_laws.proofs.Asking.{sent_valid}
use Rattle.ff_laws.proofs.Starting.{kept, kept_twice, start_valid}
use Rattle.ff_laws.proofs.Paging.{page_made, next_is}

-- a step that is made where there is room
pub if_room : (s : Stores) (b : Bool) (step : Stepped Out Stores) → (b ≡ true → Keeps s step.after) → KeepsIfMade s (cond b (Some step) None)
if_room s true step h = h refl
if_room s false step h = tt

-- the window of a number
abbrev nth_win : ℕ → WinId
nth_win n = record { 0 = n }

module _ (s : Stores) (u : Url) (docs : List Doc) (valid : IsStores s) (spelled : IsWellSpelled u) (docs_spelled : AllByRecursion IsWellSpelledDoc docs) (room : stores.has_load_room s docs ≡ true) (w : WinId) where
  abbrev new : Page
  new = windows.new_page u w (nodes.next_node s.nodes) (windows.next_act s.windows)

  abbrev pages : List Page
  pages = s.windows.pages ++ new ∷ []

  pages_more : length pages ≡ length s.windows.pages + 1
  pages_more = length-append s.windows.pages (new ∷ [])

  new_own : (nth_page pages (windows.next_page s.windows)).win ≡ w
  new_own = ap (λ (x : Page). x.win) (next_is s w u docs valid spelled docs_spelled room s.windows.windows s.windows.opened)

  wider : (wins : ℕ) → length s.windows.windows ≤ wins → All (IsWindow wins (length pages)) s.windows.windows
  wider wins le =
      windows_grow (length s.windows.windows) wins (length s.windows.pages) (length pages) le (omega (arith, pages_more)) s.windows.windows valid.windows.windows

  -- a page that a window shows keeps stores valid
  pub shown_valid : w.0 < length s.windows.windows → Keeps s (stores.with_shown_page s w u docs)
  shown_valid lives =
      let was : IsWindow (length s.windows.windows) (length s.windows.pages) (window_at s.windows w) = valid.windows.windows w.0 no_window lives in
      let shows : Window = record (window_at s.windows w) { page = windows.next_page s.windows } in
      let wins = slice_set s.windows.windows w.0 shows in
      let size : length wins ≡ length s.windows.windows = length-set s.windows.windows w.0 shows in
      let le : length s.windows.windows ≤ length wins = omega (arith, size) in
      page_made s w u docs valid spelled docs_spelled room wins s.windows.opened (omega (arith, lives, size)) le
      (All-set (IsWindow (length wins) (length pages)) s.windows.windows w.0 shows
      (record { name = was.name; opener = λ o e. let there = was.opener o e in omega (arith, there, size); page = omega (arith, pages_more) }) (wider (length wins) le))
      (subst (λ (n : ℕ). AreOpen n s.windows.opened) (sym size) valid.windows.opened)
      (record {
        own = λ v lt. at_set (λ j (x : Window). j < length s.windows.windows → (nth_page pages x.page).win ≡ nth_win j) s.windows.windows w.0 v.0 shows no_window (λ h. new_own) (λ h. still_own s.windows new valid.windows v h) (omega (arith, lt, size));
        fewer = omega (arith, size, pages_more, valid.windows.own.fewer);
      })

  -- a page that is loaded keeps stores valid
  pub loaded_valid : w.0 < length s.windows.windows → Keeps s (stores.loaded s w u docs).after
  loaded_valid lives =
      let t = stores.with_shown_page s w u docs in
      let shown = shown_valid lives in
      kept_twice s t (stores.loaded s w u docs).after shown (start_valid (windows.next_page s.windows) (nodes.next_node s.nodes) t shown.stores (omega (arith, pages_more)))

-- a window that opens with a blank page keeps stores valid
pub opened_valid : (s : Stores) (name : Option (List ℕ)) (opener : Option WinId) → IsStores s → ForSome name IsUtf8 → ForSome opener (λ w. w.0 < length s.windows.windows) → stores.has_window_room s ≡ true
    → Keeps s (stores.opened s name opener).after
opened_valid s name opener valid named by room =
    let w = windows.next_win s.windows in
    let rooms = and_parts (windows.has_window_room s.windows) (stores.has_load_room s []) room in
    let opens = and_parts (windows.has_page_room s.windows) (nat_lt (length s.windows.opened) MOST_WINDOWS) rooms.0 in
    let few : length s.windows.opened < MOST_WINDOWS = ltb-true (length s.windows.opened) MOST_WINDOWS opens.1 in
    let all = pages s url.Blank [] valid tt tt rooms.1 w in
    let more : length all ≡ length s.windows.pages + 1 = pages_more s url.Blank [] valid tt tt rooms.1 w in
    let opening : Window = record { name = name; opener = opener; page = windows.next_page s.windows } in
    let wins = s.windows.windows ++ opening ∷ [] in
    let size : length wins ≡ length s.windows.windows + 1 = length-append s.windows.windows (opening ∷ []) in
    let le : length s.windows.windows ≤ length wins = omega (arith, size) in
    page_made s w url.Blank [] valid tt tt rooms.1 wins (s.windows.opened ++ w ∷ []) (omega (arith, size)) le
    (All-push (IsWindow (length wins) (length all)) s.windows.windows opening (wider s url.Blank [] valid tt tt rooms.1 w (length wins) le)
    (record { name = named; opener = λ o e. let there = by o e in omega (arith, there, size); page = omega (arith, more) }))
    (one_opened (length s.windows.windows) (length wins) s.windows.opened w refl size valid.windows.opened few)
    (record {
      own = λ v lt.
          at_own s.windows.windows v (λ (x : Window). (nth_page all x.page).win) opening (omega (arith, lt, size)) (λ h. still_own s.windows (new s url.Blank [] valid tt tt rooms.1 w) valid.windows v h) (new_own s url.Blank [] valid tt tt rooms.1 w);
      fewer = omega (arith, size, more, valid.windows.own.fewer);
    })

-- documents that are loaded where there is room
pub load_valid : (s : Stores) (w : WinId) (u : Url) (docs : List Doc) → IsStores s → w.0 < length s.windows.windows → IsWellSpelled u → AllByRecursion IsWellSpelledDoc docs → KeepsIfMade s (stores.load s w u docs)
load_valid s w u docs valid lives spelled are = if_room s (stores.has_load_room s docs) (stores.loaded s w u docs) (λ room. loaded_valid s u docs valid spelled are room w lives)

-- a request for a window that is sent where there is room
pub send_valid : (s : Stores) (w : WinId) (domain uri : List ℕ) → IsStores s → w.0 < length s.windows.windows → IsWellSpelled (url.At domain uri) → KeepsIfMade s (stores.send s domain uri [] (dst.Window w))
send_valid s w domain uri valid lives spelled =
    if_room s (stores.has_ask_room s domain) (stores.sent s domain uri [] (dst.Window w)) (sent_valid s domain uri [] (dst.Window w) valid spelled.0 spelled.1 tt lives)

-- a window that goes to an address
pub go_valid : (s : Stores) (w : WinId) (u : Url) → IsStores s → w.0 < length s.windows.windows → IsWellSpelled u → KeepsIfMade s (stores.go s w u)
go_valid s w url.Blank valid lives spelled = load_valid s w url.Blank [] valid lives tt tt
go_valid s w (url.At domain uri) valid lives spelled = send_valid s w domain uri valid lives spelled

made_or_not : (s : Stores) (step : Option (Stepped Out Stores)) → IsStores s → KeepsIfMade s step → Keeps s (stores.or_nothing s step).after
made_or_not s None valid h = kept s valid
made_or_not s (Some step) valid h = h

send_first_valid : (u : Url) (w : WinId) (s : Stores) → IsStores s → w.0 < length s.windows.windows → IsWellSpelled u → Keeps s (stores.send_first u w s).after
send_first_valid url.Blank w s valid lives spelled = kept s valid
send_first_valid (url.At domain uri) w s valid lives spelled = made_or_not s (stores.send s domain uri [] (dst.Window w)) valid (send_valid s w domain uri valid lives spelled)

chosen_opens : (s : Stores) (u : Url) (b : Bool) → stores.has_window_room s ≡ b → IsStores s → IsWellSpelled u
    → Keeps s (stores.and_then s (cond b (Some (stores.opened s None None)) None) (stores.send_first u (windows.next_win s.windows))).after
chosen_opens s u false room valid spelled = kept s valid
chosen_opens s u true room valid spelled =
    let first = opened_valid s None None valid (λ o e. cc) (λ o e. cc) room in
    let t = (stores.opened s None None).after in
    kept_twice s t (stores.send_first u (windows.next_win s.windows) t).after first
    (send_first_valid u (windows.next_win s.windows) t first.stores (window_there s) spelled) where
      window_there : (s : Stores) → length s.windows.windows < length (stores.opened s None None).after.windows.windows
      window_there s = omega (arith, length-append s.windows.windows (record { name = None; opener = None; page = windows.next_page s.windows } ∷ []))

-- a window that the user opens at an address keeps stores valid
pub opens_valid : (s : Stores) (u : Url) → IsStores s → IsWellSpelled u → Keeps s (stores.opens s u).after
opens_valid s u valid spelled = chosen_opens s u (stores.has_window_room s) refl valid spelled
