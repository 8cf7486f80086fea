-- What the stores refer to was made.
use Rattle.std.proofs.Common.{◌≡◌, ℕ, ◌<◌, Bool, true, false, cond, ◌==◌, Some, None, List, [], ◌∷◌, All, length, is_some, refl, sym, ap, subst, ◌∙◌, arith}
use Rattle.std.specs.Prelude.{◌||◌, nat_lt}
use Rattle.std.specs.List.{list_any, position_or_len, find}
use Rattle.std.proofs.lemmas.Bool.Decides.{nat_tests}
use Rattle.std.proofs.lemmas.Bool.{eqb-true}
use Rattle.std.proofs.lemmas.List.Elements.{All-head, All-tail}
use Rattle.ff_value.specs.declared.ids.WinId.{WinId}
use Rattle.ff_value.specs.declared.ids.PageId.{PageId}
use Rattle.ff_machine.specs.Windows.{Windows, no_window, no_page, window_at, page_at, is_win, is_open, is_live, place, named}
use Rattle.ff_machine.specs.Alone.{IsWindow, IsPage}
use Rattle.ff_machine.specs.Stores.{Stores}
use Rattle.ff_machine.specs.Valid.{IsStores}
use Rattle.ff_machine.proofs.Utf8.{IsUtf8-printed}
use Rattle.ff_name.specs.Address.{IsWellSpelled, printed}
use Rattle.std.specs.Str.{IsUtf8}

module _ (s : Stores) (valid : IsStores s) where
  -- the page that a window shows
  pub shown_lives : (w : WinId) → w.0 < length s.windows.windows → (window_at s.windows w).page.0 < length s.windows.pages
  shown_lives w h = let is : IsWindow (length s.windows.windows) (length s.windows.pages) (window_at s.windows w) = valid.windows.windows w.0 no_window h in is.page

  -- the address of a page
  pub url_spelled : (p : PageId) → p.0 < length s.windows.pages → IsWellSpelled (page_at s.windows p).url
  url_spelled p h = let is : IsPage (length s.windows.acts) (page_at s.windows p) = valid.windows.pages.each p.0 no_page h in is.url

  -- the address that a window shows is text
  pub shown_utf8 : (w : WinId) → w.0 < length s.windows.windows → IsUtf8 (printed (page_at s.windows (window_at s.windows w).page).url)
  shown_utf8 w h = IsUtf8-printed (page_at s.windows (window_at s.windows w).page).url (url_spelled (window_at s.windows w).page (shown_lives w h))

  among : (p : PageId) (ws : List WinId) → All (λ w. w.0 < length s.windows.windows) ws → list_any (λ w. (window_at s.windows w).page.0 == p.0) ws ≡ true → p.0 < length s.windows.pages
  among p [] all e = cc
  among p (w ∷ ws) all e = by ((window_at s.windows w).page.0 == p.0) refl (among p ws (All-tail (λ (u : WinId). u.0 < length s.windows.windows) w ws all)) where
    by : (b : Bool) → ((window_at s.windows w).page.0 == p.0) ≡ b → (list_any (λ w. (window_at s.windows w).page.0 == p.0) ws ≡ true → p.0 < length s.windows.pages) → p.0 < length s.windows.pages
    by true is more =
        subst (λ (k : ℕ). k < length s.windows.pages) (eqb-true (window_at s.windows w).page.0 p.0 is)
        (shown_lives w (All-head (λ (u : WinId). u.0 < length s.windows.windows) w ws all))
    by false is more = more (ap (λ b. b || list_any (λ w. (window_at s.windows w).page.0 == p.0) ws) (sym is) ∙ e)

  -- a live page
  pub live_lives : (p : PageId) → is_live s.windows p ≡ true → p.0 < length s.windows.pages
  live_lives p e = among p s.windows.opened valid.windows.opened.there e

some_if : (b : Bool) (k : ℕ) → is_some (cond b (Some k) None) ≡ b
some_if true k = refl
some_if false k = refl

placed_in : {X : Type 0} (p : X → Bool) (xs : List X) → nat_lt (position_or_len p xs) (length xs) ≡ list_any p xs
placed_in p [] = refl
placed_in p (x ∷ xs) = by (p x) refl (placed_in p xs) where
  by : (b : Bool) → p x ≡ b → nat_lt (position_or_len p xs) (length xs) ≡ list_any p xs → nat_lt (position_or_len p (x ∷ xs)) (length (x ∷ xs)) ≡ (p x || list_any p xs)
  by true e rest = rw e (grind (arith, nat_tests))
  by false e rest = rw e (grind (arith, nat_tests))

-- a window has a place where it is open
pub placed : (w : Windows) (n : WinId) → is_some (place w n) ≡ is_open w n
placed w n = some_if (nat_lt (position_or_len (is_win n) w.opened) (length w.opened)) (position_or_len (is_win n) w.opened) ∙ placed_in (is_win n) w.opened

or_true : (b : Bool) → (b || true) ≡ true
or_true true = refl
or_true false = refl

found_in : (p : WinId → Bool) (ws : List WinId) (n : WinId) → find p ws ≡ Some n → list_any (is_win n) ws ≡ true
found_in p [] n e = cc
found_in p (w ∷ ws) n e = by (p w) e (found_in p ws n) where
  by : (b : Bool) → cond b (Some w) (find p ws) ≡ Some n → (find p ws ≡ Some n → list_any (is_win n) ws ≡ true) → (is_win n w || list_any (is_win n) ws) ≡ true
  by true e more =
      let same : w ≡ n = cc in
      let itself : is_win n w ≡ true = rw same (grind (arith, nat_tests)) in
      rw itself refl
  by false e more = rw (more e) (or_true (is_win n w))

-- a window that is found by its name is open
pub named_open : (w : Windows) (x : List ℕ) (n : WinId) → named w x ≡ Some n → is_open w n ≡ true
named_open w x n e = found_in _ w.opened n e
