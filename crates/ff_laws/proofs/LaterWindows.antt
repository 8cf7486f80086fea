-- Each change of windows, pages and activations leaves later ones.
use Rattle.std.proofs.Common.{◌≡◌, ℕ, ◌<◌, ◌≤◌, Bool, false, not, ◌==◌, eqb, Option, List, [], ◌∷◌, length, get_or, arith, refl, sym, subst, ◌∙◌, length-append, length-set}
use Rattle.std.proofs.lemmas.Bool.{ne_eqb}
use Rattle.std.proofs.lemmas.List.{get_or_append_left, get_or_push}
use Rattle.ff_name.specs.declared.urls.Url.{Url}
use Rattle.ff_value.specs.declared.ids.WinId.{WinId}
use Rattle.ff_value.specs.declared.ids.PageId.{PageId}
use Rattle.ff_value.specs.declared.ids.NodeId.{NodeId}
use Rattle.ff_machine.specs.Windows.{Windows, Window, Page, Activation, no_window, no_page, no_act, window_at, page_at, next_win, next_act, is_win, new_page, with_page, with_window, page_shown, closed, set_page, with_acts}
use Rattle.ff_laws.specs.Later.{IsSamePage, AreLaterWindows}
use Rattle.ff_machine.proofs.Lists.{at_set}
use Rattle.ff_laws.proofs.Lists.{at_pushed, any_less, any_pushed, any_filtered}

-- a page is the page that it was
pub same_page : (page : Page) → IsSamePage page page
same_page page = record { url = refl; win = refl; root = refl; act = refl }

same_twice : (a b c : Page) → IsSamePage a b → IsSamePage b c → IsSamePage a c
same_twice a b c g h = record { url = h.url ∙ g.url; win = h.win ∙ g.win; root = h.root ∙ g.root; act = h.act ∙ g.act }

-- nothing changes
pub unchanged : (w : Windows) → AreLaterWindows w w
unchanged w = record {
  wins = omega arith;
  pages = omega arith;
  acts = omega arith;
  same = λ p lt. same_page (page_at w p);
  closed = λ n lt e. e;
  dead = λ p lt e. e;
}

-- one change and then another
pub both : (a b c : Windows) → AreLaterWindows a b → AreLaterWindows b c → AreLaterWindows a c
both a b c g h = record {
  wins = omega (arith, g.wins, h.wins);
  pages = omega (arith, g.pages, h.pages);
  acts = omega (arith, g.acts, h.acts);
  same = λ p lt. same_twice (page_at a p) (page_at b p) (page_at c p) (g.same p lt) (h.same p (omega (arith, lt, g.pages)));
  closed = λ n lt e. h.closed n (omega (arith, lt, g.wins)) (g.closed n lt e);
  dead = λ p lt e. h.dead p (omega (arith, lt, g.pages)) (g.dead p lt e);
}

-- other activations, at least as many
pub other_acts : (w : Windows) (acts : List Activation) → length w.acts ≤ length acts → AreLaterWindows w (with_acts w acts)
other_acts w acts le = record {
  wins = omega arith;
  pages = omega arith;
  acts = le;
  same = λ p lt. same_page (page_at w p);
  closed = λ n lt e. e;
  dead = λ p lt e. e;
}

-- a page whose queue changed
pub other_queue : (w : Windows) (p : PageId) (page : Page) → IsSamePage (page_at w p) page → AreLaterWindows w (set_page w p page)
other_queue w p page is = record {
  wins = omega arith;
  pages = omega (arith, length-set w.pages p.0 page);
  acts = omega arith;
  same = λ q lt. at_set (λ j x. IsSamePage (get_or w.pages j no_page) x) w.pages p.0 q.0 page no_page is (same_page (page_at w q));
  closed = λ n lt e. e;
  dead = λ q lt e. e;
}

-- a page more
pub page_more : (w : Windows) (url : Url) (win : WinId) (root : NodeId) → AreLaterWindows w (with_page w url win root)
page_more w url win root = record {
  wins = omega arith;
  pages = omega (arith, length-append w.pages (new_page url win root (next_act w) ∷ []));
  acts = omega (arith, length-append w.acts (no_act ∷ []));
  same = λ p lt. subst (IsSamePage (page_at w p)) (sym (get_or_append_left w.pages (new_page url win root (next_act w) ∷ []) no_page p.0 lt)) (same_page (page_at w p));
  closed = λ n lt e. e;
  dead = λ p lt e. e;
}

differ : (a b n : ℕ) → a < n → n ≤ b → eqb b a ≡ false
differ a b n lt le = ne_eqb b a (λ e. omega (arith, e, lt, le))

differ_from : (a b n : ℕ) → a < n → n ≤ b → eqb a b ≡ false
differ_from a b n lt le = ne_eqb a b (λ e. omega (arith, e, lt, le))

module _ (first w : Windows) (later : AreLaterWindows first w) (page : PageId) (fresh : length first.pages ≤ page.0) where
  -- a window more, which shows a page that the first windows don't have
  pub window_more : (name : Option (List ℕ)) (opener : Option WinId) → AreLaterWindows first (with_window w name opener page)
  window_more name opener = record {
    wins = omega (arith, later.wins, length-append w.windows (new ∷ []));
    pages = later.pages;
    acts = later.acts;
    same = later.same;
    closed = λ n lt e. any_pushed (is_win n) w.opened (next_win w) (later.closed n lt e) (differ_from n.0 (length w.windows) (length first.windows) lt later.wins);
    dead = λ p lt e.
        any_pushed (shows p) w.opened (next_win w)
        (any_less (λ n. (window_at w n).page.0 == p.0) (shows p) (λ n h. at_pushed (λ j x. (x.page.0 == p.0) ≡ false) w.windows n.0 new no_window (differ p.0 page.0 (length first.pages) lt fresh) h) w.opened (later.dead p lt e))
        (subst (λ (x : Window). (x.page.0 == p.0) ≡ false) (sym (get_or_push w.windows new no_window (length w.windows) refl)) (differ p.0 page.0 (length first.pages) lt fresh));
  } where
    new : Window
    new = record { name = name; opener = opener; page = page }

    shows : PageId → WinId → Bool
    shows p n = (window_at (with_window w name opener page) n).page.0 == p.0

  -- a window that shows a page that the first windows don't have
  pub another_shown : (n : WinId) → AreLaterWindows first (page_shown w n page)
  another_shown n = record {
    wins = omega (arith, later.wins, length-set w.windows n.0 new);
    pages = later.pages;
    acts = later.acts;
    same = later.same;
    closed = later.closed;
    dead = λ p lt e.
        any_less (λ m. (window_at w m).page.0 == p.0) (λ m. (window_at (page_shown w n page) m).page.0 == p.0)
        (λ m h. at_set (λ j x. (x.page.0 == p.0) ≡ false) w.windows n.0 m.0 new no_window (differ p.0 page.0 (length first.pages) lt fresh) h) w.opened (later.dead p lt e);
  } where
    new : Window
    new = record (window_at w n) { page = page }

-- a window is closed
pub one_closed : (w : Windows) (n : WinId) → AreLaterWindows w (closed w n)
one_closed w n = record {
  wins = omega arith;
  pages = omega arith;
  acts = omega arith;
  same = λ p lt. same_page (page_at w p);
  closed = λ m lt e. any_filtered (is_win m) (λ k. not (is_win n k)) w.opened e;
  dead = λ p lt e. any_filtered (λ k. (window_at w k).page.0 == p.0) (λ k. not (is_win n k)) w.opened e;
}
