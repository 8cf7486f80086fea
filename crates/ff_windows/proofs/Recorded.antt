-- Windows and their records.
use Rattle.std.proofs.Common.{◌≡◌, ℕ, ◌+◌, ◌<◌, List, [], ◌∷◌, map, length, get_or, sum_by, All, refl, sym, ap, subst, ◌∙◌, arith}
use Rattle.std.proofs.Math.ListN.{get_or-map}
use Rattle.std.proofs.lemmas.List.{length-map}
use Rattle.std.proofs.lemmas.List as lists
use Rattle.std.proofs.lemmas.List.Sums.{sum_by-cons}
use Rattle.ff_value.specs.declared.ids.WinId.{WinId}
use Rattle.ff_machine.specs.Windows.{Windows, Window, Page, Activation, nth_page, nth_window, no_page, no_window}
use Rattle.ff_machine.specs.Alone.{AreActs, AreOpen, AreOwn, ArePages, AreWindows, IsWindow}
use Rattle.ff_records.specs.Records.{WindowsRecs, windows_recs, act_rec, act_recs, page_rec, win_rec}
use Rattle.ff_records.specs.declared.records.ActRec.{ActRec}
use Rattle.ff_records.specs.declared.records.PageRec.{PageRec}
use Rattle.ff_records.specs.declared.records.WinRec.{WinRec}
use Rattle.ff_windows.specs.Recorded.{page_of, window_of}

same_pages : (ps : List Page) → map page_of (map page_rec ps) ≡ ps
same_pages [] = refl
same_pages (p ∷ ps) = ap (λ rest. p ∷ rest) (same_pages ps)

same_windows : (ws : List Window) → map window_of (map win_rec ws) ≡ ws
same_windows [] = refl
same_windows (w ∷ ws) = ap (λ rest. w ∷ rest) (same_windows ws)

same_page_recs : (rs : List PageRec) → map page_rec (map page_of rs) ≡ rs
same_page_recs [] = refl
same_page_recs (r ∷ rs) = ap (λ rest. r ∷ rest) (same_page_recs rs)

same_win_recs : (rs : List WinRec) → map win_rec (map window_of rs) ≡ rs
same_win_recs [] = refl
same_win_recs (r ∷ rs) = ap (λ rest. r ∷ rest) (same_win_recs rs)

-- queues of records are as long as those of their pages
pub entries_same : (rs : List PageRec) → sum_by (λ page. length page.queue) (map page_of rs) ≡ sum_by (λ (rec : PageRec). length rec.queue) rs
entries_same [] = refl
entries_same (r ∷ rs) =
    sum_by-cons (λ (page : Page). length page.queue) (page_of r) (map page_of rs)
    ∙ ap (λ n. length r.queue + n) (entries_same rs)
    ∙ sym (sum_by-cons (λ (rec : PageRec). length rec.queue) r rs)

-- the windows that are made of records have them
pub recs_of : (acts : List Activation) (recs : WindowsRecs) → act_recs acts ≡ recs.acts
    → windows_recs (record { windows = map window_of recs.wins; opened = recs.opened; pages = map page_of recs.pages; acts = acts }) ≡ recs
recs_of acts recs has =
    ap (λ (rs : List ActRec). let all : WindowsRecs = record { acts = rs; pages = map page_rec (map page_of recs.pages); wins = map win_rec (map window_of recs.wins); opened = recs.opened } in all) has
    ∙ ap (λ (rs : List PageRec). let all : WindowsRecs = record { acts = recs.acts; pages = rs; wins = map win_rec (map window_of recs.wins); opened = recs.opened } in all) (same_page_recs recs.pages)
    ∙ ap (λ (rs : List WinRec). let all : WindowsRecs = record { acts = recs.acts; pages = recs.pages; wins = rs; opened = recs.opened } in all) (same_win_recs recs.wins)

-- Valid windows that have records: what holds of the records.
module _ (recs : WindowsRecs) (v : Windows) (are : AreWindows v) (has : windows_recs v ≡ recs) where
  pub acts_have : act_recs v.acts ≡ recs.acts
  acts_have = ap (λ (r : WindowsRecs). r.acts) has

  pages_are : v.pages ≡ map page_of recs.pages
  pages_are = sym (same_pages v.pages) ∙ ap (λ (r : WindowsRecs). map page_of r.pages) has

  windows_are : v.windows ≡ map window_of recs.wins
  windows_are = sym (same_windows v.windows) ∙ ap (λ (r : WindowsRecs). map window_of r.wins) has

  opened_are : v.opened ≡ recs.opened
  opened_are = ap (λ (r : WindowsRecs). r.opened) has

  count_windows : length v.windows ≡ length recs.wins
  count_windows = ap length windows_are ∙ length-map recs.wins window_of

  count_pages : length v.pages ≡ length recs.pages
  count_pages = ap length pages_are ∙ length-map recs.pages page_of

  count_acts : (acts : List Activation) → act_recs acts ≡ recs.acts → length v.acts ≡ length acts
  count_acts acts e = sym (length-map v.acts act_rec) ∙ ap length (acts_have ∙ sym e) ∙ length-map acts act_rec

  pub pages_valid : (acts : List Activation) → act_recs acts ≡ recs.acts → ArePages (length acts) (map page_of recs.pages)
  pages_valid acts e = subst (ArePages (length acts)) pages_are (subst (λ n. ArePages n v.pages) (count_acts acts e) are.pages)

  pub windows_valid : All (IsWindow (length recs.wins) (length recs.pages)) (map window_of recs.wins)
  windows_valid =
      subst (λ (ws : List Window). All (IsWindow (length recs.wins) (length recs.pages)) ws) windows_are
      (subst (λ n. All (IsWindow (length recs.wins) n) v.windows) count_pages (subst (λ n. All (IsWindow n (length v.pages)) v.windows) count_windows are.windows))

  pub open_valid : AreOpen (length recs.wins) recs.opened
  open_valid = subst (AreOpen (length recs.wins)) opened_are (subst (λ n. AreOpen n v.opened) count_windows are.opened)

  pub own_valid : AreOwn (map window_of recs.wins) (map page_of recs.pages)
  own_valid = subst (λ ps. AreOwn (map window_of recs.wins) ps) pages_are (subst (λ (ws : List Window). AreOwn ws v.pages) windows_are are.own)

-- The windows that are made of records: where the records are valid, so are they, and they have the
-- records.
module _ (acts : List Activation) (recs : WindowsRecs) (valid : AreActs acts) (has : act_recs acts ≡ recs.acts) (pages : ArePages (length acts) (map page_of recs.pages)) (windows : All (IsWindow (length recs.wins) (length recs.pages)) (map window_of recs.wins))
    (opened : AreOpen (length recs.wins) recs.opened) (own : AreOwn (map window_of recs.wins) (map page_of recs.pages)) where
  made : Windows
  made = record { windows = map window_of recs.wins; opened = recs.opened; pages = map page_of recs.pages; acts = acts }

  made_valid : AreWindows made
  unfolding made
  made_valid = record {
    windows = subst (λ n. All (IsWindow n (length (map page_of recs.pages))) (map window_of recs.wins)) (sym (length-map recs.wins window_of))
        (subst (λ n. All (IsWindow (length recs.wins) n) (map window_of recs.wins)) (sym (length-map recs.pages page_of)) windows);
    opened = subst (λ n. AreOpen n recs.opened) (sym (length-map recs.wins window_of)) opened;
    pages = pages;
    own = own;
    acts = valid;
  }

  module _ (ws : List Window) (os : List WinId) (ps : List Page) (are_ws : ws ≡ map window_of recs.wins) (are_os : os ≡ recs.opened) (are_ps : ps ≡ map page_of recs.pages) where
    abbrev all : Windows
    all = record { windows = ws; opened = os; pages = ps; acts = acts }

    is_made : all ≡ made
    unfolding made
    is_made =
        ap (λ (xs : List Window). let w : Windows = record { windows = xs; opened = os; pages = ps; acts = acts } in w) are_ws
        ∙ ap (λ (xs : List WinId). let w : Windows = record { windows = map window_of recs.wins; opened = xs; pages = ps; acts = acts } in w) are_os
        ∙ ap (λ (xs : List Page). let w : Windows = record { windows = map window_of recs.wins; opened = recs.opened; pages = xs; acts = acts } in w) are_ps

    pub restored_valid : AreWindows all
    restored_valid = subst AreWindows (sym is_made) made_valid

    pub restored_recs : windows_recs all ≡ recs
    unfolding made
    restored_recs = ap windows_recs is_made ∙ recs_of acts recs has

-- records that are equal part by part
pub same_recs : (acts : List ActRec) (ps qs : List PageRec) (ws xs : List WinRec) (os us : List WinId) → ps ≡ qs → ws ≡ xs → os ≡ us → let one : WindowsRecs = record { acts = acts; pages = ps; wins = ws; opened = os } in let other : WindowsRecs = record { acts = acts; pages = qs; wins = xs; opened = us } in one ≡ other
same_recs acts ps qs ws xs os us e f h =
    ap (λ (y : List PageRec). let r : WindowsRecs = record { acts = acts; pages = y; wins = ws; opened = os } in r) e
    ∙ ap (λ (y : List WinRec). let r : WindowsRecs = record { acts = acts; pages = qs; wins = y; opened = os } in r) f
    ∙ ap (λ (y : List WinId). let r : WindowsRecs = record { acts = acts; pages = qs; wins = xs; opened = y } in r) h

-- the pages of windows are among so many
pub pages_there : (m n : ℕ) (wins : List WinRec) → All (IsWindow m n) (map window_of wins) → All (λ win. win.page.0 < n) wins
pages_there m n wins all = λ k d less. (subst (IsWindow m n) (get_or-map window_of wins k d) (all k (window_of d) (omega (arith, less, length-map wins window_of)))).page

-- the window of the page of a window
pub own_at : (wins : List WinRec) (pages : List PageRec) (i : ℕ) (d : WinRec) (e : PageRec) → i < length wins → (get_or wins i d).page.0 < length pages
    → (nth_page (map page_of pages) (nth_window (map window_of wins) (record { 0 = i })).page).win ≡ (get_or pages (get_or wins i d).page.0 e).win
own_at wins pages i d e within there =
    ap (λ (w : Window). (nth_page (map page_of pages) w.page).win) (lists.get_or-map window_of wins i d no_window within)
    ∙ ap (λ (p : Page). p.win) (lists.get_or-map page_of pages (get_or wins i d).page.0 e no_page there)
