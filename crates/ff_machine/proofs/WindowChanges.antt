-- Changes of windows, pages and activations keep them valid by themselves.
use Rattle.std.proofs.Common.{◌≡◌, ℕ, ◌+◌, ◌<◌, ◌≤◌, ⊎_elim, true, not, eqb, ltb-true, Option, List, [], ◌∷◌, ◌++◌, length, get_or, map, slice_set, sum_by, All, arith, refl, sym, subst, ap, ◌∙◌, length-set, length-append}
use Rattle.std.specs.List.{list_any}
use Rattle.std.specs.Option.{ForSome}
use Rattle.std.specs.Str.{IsUtf8}
use Rattle.std.proofs.lemmas.Bool.{and_parts, cases_lt, eq-eqb}
use Rattle.std.proofs.lemmas.List.{get_or_append_left, get_or_push, get_or-map, length-map}
use Rattle.std.proofs.lemmas.List.Folds.{list_any_at}
use Rattle.std.proofs.lemmas.Map.Steps.{le-length_from_below}
use Rattle.std.proofs.lemmas.List.Elements.{All-set, All-push, All-weaker}
use Rattle.std.proofs.lemmas.List.Sums.{sum_by-set, sum_by_push}
use Rattle.ff_name.specs.Address.{IsWellSpelled}
use Rattle.ff_name.specs.declared.urls.Url.{Url}
use Rattle.ff_value.specs.declared.ids.NodeId.{NodeId}
use Rattle.ff_value.specs.declared.ids.PageId.{PageId}
use Rattle.ff_value.specs.declared.ids.WinId.{WinId}
use Rattle.ff_machine.specs.declared.limits.TheConstants.{MOST_WINDOWS, MOST_PAGES, MOST_ACTS, MOST_ENTRIES, MOST_SLOTS}
use Rattle.ff_machine.specs.declared.records.Entry.{Entry}
use Rattle.ff_machine.specs.Windows as windows
use Rattle.ff_machine.specs.Windows.{Windows, Window, Page, Activation, no_window, no_page, no_act, nth_window, nth_page, window_at, page_at, new_page, is_win}
use Rattle.ff_machine.specs.Alone.{IsWindow, IsPage, IsQueue, AreOpen, AreOwn, AreActs, AreWindows}
use Rattle.ff_machine.proofs.Lists.{at_set}
use Rattle.ff_machine.proofs.Queues.{no_queue}
use Rattle.ff_machine.proofs.Opened.{one_opened, some_opened}
use Rattle.ff_machine.proofs.ActChanges.{acts_more}

-- Greater counts.

-- a page by itself is valid where there are more activations
pub page_grows : (acts more : ℕ) → acts ≤ more → (page : Page) → IsPage acts page → IsPage more page
page_grows acts more le page h = record { url = h.url; act = omega (arith, h.act, le); queue = h.queue; few_slots = h.few_slots }

opener_grows : (wins more : ℕ) → wins ≤ more → (window : Window) → ForSome window.opener (λ w. w.0 < wins) → ForSome window.opener (λ w. w.0 < more)
opener_grows wins more le window h = λ w e. let there : w.0 < wins = h w e in omega (arith, there, le)

-- a window by itself is valid where there are more windows and pages
pub window_grows : (wins more_wins pages more_pages : ℕ) → wins ≤ more_wins → pages ≤ more_pages → (window : Window) → IsWindow wins pages window → IsWindow more_wins more_pages window
window_grows wins more_wins pages more_pages le le_pages window h =
    record { name = h.name; opener = opener_grows wins more_wins le window h.opener; page = omega (arith, h.page, le_pages) }

-- the same of all windows
pub windows_grow : (wins more_wins pages more_pages : ℕ) → wins ≤ more_wins → pages ≤ more_pages → (ws : List Window) → All (IsWindow wins pages) ws → All (IsWindow more_wins more_pages) ws
windows_grow wins more_wins pages more_pages le le_pages ws are =
    All-weaker (IsWindow wins pages) (IsWindow more_wins more_pages) (window_grows wins more_wins pages more_pages le le_pages) ws are

-- Pages.

-- what a page that stands in the place of another has to be
pub record IsInPlace (w : Windows) (p : PageId) (page : Page) : Type 0 where
  pub url : IsWellSpelled page.url
  pub act : page.act.0 < length w.acts
  pub win : page.win ≡ (page_at w p).win
  pub queue : IsQueue page.next page.queue
  pub few_slots : page.next ≤ MOST_SLOTS
  pub few_entries : sum_by (λ x. length x.queue) w.pages + length page.queue ≤ MOST_ENTRIES + length (page_at w p).queue

-- another page at a number
pub page_set : (w : Windows) (p : PageId) (page : Page) → AreWindows w → p.0 < length w.pages → IsInPlace w p page → AreWindows (windows.set_page w p page)
page_set w p page valid lives is =
    let size : length (slice_set w.pages p.0 page) ≡ length w.pages = length-set w.pages p.0 page in
    let queues = sum_by-set (λ (x : Page). length x.queue) w.pages p.0 page no_page lives in
    record {
      windows = windows_grow (length w.windows) (length w.windows) (length w.pages) (length (slice_set w.pages p.0 page)) (omega arith) (omega (arith, size)) w.windows valid.windows;
      opened = valid.opened;
      pages = record {
        each = All-set (IsPage (length w.acts)) w.pages p.0 page (record { url = is.url; act = is.act; queue = is.queue; few_slots = is.few_slots }) valid.pages.each;
        few = omega (arith, size, valid.pages.few);
        few_entries = omega (arith, queues, is.few_entries);
      };
      own = record {
        own = λ v lt.
            let shown = window_at w v in
            at_set (λ j (x : Page). (get_or w.pages j no_page).win ≡ v → x.win ≡ v) w.pages p.0 shown.page.0 page no_page (λ e. is.win ∙ e) (λ e. e) (valid.own.own v lt);
        fewer = omega (arith, size, valid.own.fewer);
      };
      acts = valid.acts;
    }

-- another queue of a page that there is, and another number of its next slot
pub queue_set : (w : Windows) (p : PageId) (next : ℕ) (queue : List Entry) → AreWindows w → p.0 < length w.pages → IsQueue next queue → next ≤ MOST_SLOTS
    → sum_by (λ x. length x.queue) w.pages + length queue ≤ MOST_ENTRIES + length (page_at w p).queue → AreWindows (windows.set_page w p (record (page_at w p) { next = next; queue = queue }))
queue_set w p next queue valid lives is slots entries =
    let was : IsPage (length w.acts) (page_at w p) = valid.pages.each p.0 no_page lives in
    page_set w p (record (page_at w p) { next = next; queue = queue }) valid lives (record { url = was.url; act = was.act; win = refl; queue = is; few_slots = slots; few_entries = entries })

-- a page more with an activation of its own, whatever windows show it
pub page_pushed : (w : Windows) (new : Page) (wins : List Window) (opened : List WinId) → AreWindows w → windows.has_page_room w ≡ true → IsPage (length w.acts + 1) new → new.queue ≡ []
    → All (IsWindow (length wins) (length (w.pages ++ new ∷ []))) wins → AreOpen (length wins) opened → AreOwn wins (w.pages ++ new ∷ [])
    → AreWindows (record { windows = wins; opened = opened; pages = w.pages ++ new ∷ []; acts = w.acts ++ no_act ∷ [] })
page_pushed w new wins opened valid room is none are some own =
    let rooms = and_parts _ _ room in
    let few_pages : length w.pages < MOST_PAGES = ltb-true (length w.pages) MOST_PAGES rooms.0 in
    let few_acts : length w.acts < MOST_ACTS = ltb-true (length w.acts) MOST_ACTS rooms.1 in
    let pages_more : length (w.pages ++ new ∷ []) ≡ length w.pages + 1 = length-append w.pages (new ∷ []) in
    let more : length (w.acts ++ no_act ∷ []) ≡ length w.acts + 1 = length-append w.acts (no_act ∷ []) in
    record {
      windows = are;
      opened = some;
      pages = record {
        each = subst (λ (n : ℕ). All (IsPage n) (w.pages ++ new ∷ [])) (sym more) (All-push (IsPage (length w.acts + 1)) w.pages new
            (All-weaker (IsPage (length w.acts)) (IsPage (length w.acts + 1)) (page_grows (length w.acts) (length w.acts + 1) (omega arith)) w.pages valid.pages.each) is);
        few = omega (arith, pages_more, few_pages);
        few_entries = omega (arith, sum_by_push (λ (x : Page). length x.queue) w.pages new, ap length none, valid.pages.few_entries);
      };
      own = own;
      acts = acts_more w.acts valid.acts few_acts;
    }

-- an old window still shows a page of its own where there is a page more
pub still_own : (w : Windows) (new : Page) → AreWindows w → (v : WinId) → v.0 < length w.windows → (nth_page (w.pages ++ new ∷ []) (window_at w v).page).win ≡ v
still_own w new valid v lt =
    let is : IsWindow (length w.windows) (length w.pages) (window_at w v) = valid.windows v.0 no_window lt in
    ap (λ (x : Page). x.win) (get_or_append_left w.pages (new ∷ []) no_page (window_at w v).page.0 is.page) ∙ valid.own.own v lt

-- a page more that no window shows yet
pub page_added : (w : Windows) (u : Url) (win : WinId) (root : NodeId) → AreWindows w → windows.has_page_room w ≡ true → IsWellSpelled u → AreWindows (windows.with_page w u win root)
page_added w u win root valid room spelled =
    let new = new_page u win root (windows.next_act w) in
    let pages_more : length (w.pages ++ new ∷ []) ≡ length w.pages + 1 = length-append w.pages (new ∷ []) in
    page_pushed w new w.windows w.opened valid room (record { url = spelled; act = omega arith; queue = no_queue; few_slots = omega arith }) refl
    (windows_grow (length w.windows) (length w.windows) (length w.pages) (length (w.pages ++ new ∷ [])) (omega arith) (omega (arith, pages_more)) w.windows valid.windows)
    valid.opened
    (record { own = still_own w new valid; fewer = omega (arith, pages_more, valid.own.fewer) })

-- Windows.

-- the window of a number
abbrev nth_win : ℕ → WinId
nth_win n = record { 0 = n }

-- each window shows a page of its own where a window more does
pub at_own : (ws : List Window) (v : WinId) (win_of : Window → WinId) (opening : Window) → v.0 < length ws + 1 → (v.0 < length ws → win_of (nth_window ws v) ≡ v) → win_of opening ≡ nth_win (length ws)
    → win_of (nth_window (ws ++ opening ∷ []) v) ≡ v
at_own ws v win_of opening lt old new =
    ⊎_elim
    (λ l. ap win_of (get_or_append_left ws (opening ∷ []) no_window v.0 l) ∙ old l)
    (λ l. let here : length ws ≡ v.0 = omega (arith, l, lt) in ap win_of (get_or_push ws opening no_window v.0 here) ∙ new ∙ ap nth_win here)
    (cases_lt v.0 (length ws))

-- the number of a page's window stands in the list of these numbers
stands : (w : Windows) (q : ℕ) (page : PageId) → page.0 < length w.pages → (page_at w page).win.0 ≡ q → list_any (eqb q) (map (λ (x : Page). x.win.0) w.pages) ≡ true
stands w q page lives e =
    let f = λ (x : Page). x.win.0 in
    let xs = map f w.pages in
    list_any_at (eqb q) xs page.0 0 (omega (arith, lives, length-map w.pages f)) (eq-eqb q (get_or xs page.0 0) (sym (get_or-map f w.pages page.0 no_page 0 lives ∙ e)))

-- where a page is that of the next window, there are more pages than windows
more_pages : (w : Windows) (page : PageId) → AreWindows w → page.0 < length w.pages → (page_at w page).win ≡ windows.next_win w → length w.windows + 1 ≤ length w.pages
more_pages w page valid lives of_it =
    let f = λ (x : Page). x.win.0 in
    omega (arith, length-map w.pages f, le-length_from_below (map f w.pages) (length w.windows + 1) each) where
      each : (q : ℕ) → q < length w.windows + 1 → list_any (eqb q) (map (λ (x : Page). x.win.0) w.pages) ≡ true
      each q lt = ⊎_elim old next (cases_lt q (length w.windows)) where
        old : q < length w.windows → list_any (eqb q) (map (λ (x : Page). x.win.0) w.pages) ≡ true
        old l =
            let is : IsWindow (length w.windows) (length w.pages) (nth_window w.windows (nth_win q)) = valid.windows q no_window l in
            stands w q (nth_window w.windows (nth_win q)).page is.page (ap (λ (v : WinId). v.0) (valid.own.own (nth_win q) l))

        next : length w.windows ≤ q → list_any (eqb q) (map (λ (x : Page). x.win.0) w.pages) ≡ true
        next l =
            let here : length w.windows ≡ q = omega (arith, l, lt) in
            stands w q page lives (ap (λ (v : WinId). v.0) of_it ∙ here)

-- a window more, with a page whose window is the next one
pub window_added : (w : Windows) (name : Option (List ℕ)) (opener : Option WinId) (page : PageId) → AreWindows w → page.0 < length w.pages → ForSome opener (λ o. o.0 < length w.windows)
    → (page_at w page).win ≡ windows.next_win w → ForSome name IsUtf8 → length w.opened < MOST_WINDOWS → AreWindows (windows.with_window w name opener page)
window_added w name opener page valid lives opener_lives of_it named few =
    let opening : Window = record { name = name; opener = opener; page = page } in
    let wins = w.windows ++ opening ∷ [] in
    let size : length wins ≡ length w.windows + 1 = length-append w.windows (opening ∷ []) in
    record {
      windows = All-push (IsWindow (length wins) (length w.pages)) w.windows opening
          (windows_grow (length w.windows) (length wins) (length w.pages) (length w.pages) (omega (arith, size)) (omega arith) w.windows valid.windows)
          (record { name = named; opener = λ o e. let there = opener_lives o e in omega (arith, there, size); page = lives });
      opened = one_opened (length w.windows) (length wins) w.opened (windows.next_win w) refl size valid.opened few;
      pages = valid.pages;
      own = record {
        own = λ v lt. at_own w.windows v (λ (x : Window). (nth_page w.pages x.page).win) opening (omega (arith, lt, size)) (λ h. valid.own.own v h) of_it;
        fewer = omega (arith, size, more_pages w page valid lives of_it);
      };
      acts = valid.acts;
    }

-- a window that closes
pub window_closed : (w : Windows) (n : WinId) → AreWindows w → AreWindows (windows.closed w n)
window_closed w n valid = record {
  windows = valid.windows;
  opened = some_opened (length w.windows) (λ m. not (is_win n m)) w.opened valid.opened;
  pages = valid.pages;
  own = valid.own;
  acts = valid.acts;
}

-- Activations.

-- other valid activations, at least as many
pub acts_set : (w : Windows) (acts : List Activation) → AreWindows w → length w.acts ≤ length acts → AreActs acts → AreWindows (windows.with_acts w acts)
acts_set w acts valid le are = record {
  windows = valid.windows;
  opened = valid.opened;
  pages = record {
    each = All-weaker (IsPage (length w.acts)) (IsPage (length acts)) (page_grows (length w.acts) (length acts) le) w.pages valid.pages.each;
    few = valid.pages.few;
    few_entries = valid.pages.few_entries;
  };
  own = valid.own;
  acts = are;
}
