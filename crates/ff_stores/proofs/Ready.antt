-- The page whose queue begins with a script was made.
use Rattle.std.proofs.Common.{◌≡◌, ◌<◌, ⊎_elim, Bool, true, false, cond, Option, Some, List, [], ◌∷◌, map, length, is_some, refl, sym, ap, ◌∙◌}
use Rattle.std.specs.Prelude.{find}
use Rattle.std.proofs.lemmas.Bool.{false≢true, cases_lt}
use Rattle.std.proofs.lemmas.List.{get_or_past}
use Rattle.ff_value.specs.declared.ids.PageId.{PageId}
use Rattle.ff_machine.specs.Windows.{Page, no_page, page_at, window_at, first_ready, ready}
use Rattle.ff_machine.specs.Stores.{Stores}

found_here : {X : Type 0} (test : X → Bool) (x p : X) (rest : Option X) (b : Bool) → test x ≡ b → cond b (Some x) rest ≡ Some p → (rest ≡ Some p → test p ≡ true) → test p ≡ true
found_here test x p rest true h e more = let same : x ≡ p = cc in ap test (sym same) ∙ h
found_here test x p rest false h e more = more e

-- what is found passes the test
pub found_passes : {X : Type 0} (test : X → Bool) (xs : List X) (p : X) → find test xs ≡ Some p → test p ≡ true
found_passes test [] p e = cc
found_passes test (x ∷ xs) p e = found_here test x p (find test xs) (test x) refl e (found_passes test xs p)

-- a page that is found to have a script that may run
pub ready_lives : (s : Stores) (page : PageId) → ready s.windows ≡ Some page → page.0 < length s.windows.pages
ready_lives s page e =
    let passes = found_passes (λ (p : PageId). is_some (first_ready (page_at s.windows p).queue)) (map (λ n. (window_at s.windows n).page) s.windows.opened) page e in
    ⊎_elim (λ l. l)
    (λ l. absurd (false≢true (sym (ap (λ (x : Page). is_some (first_ready x.queue)) (get_or_past s.windows.pages page.0 no_page l)) ∙ passes)))
    (cases_lt page.0 (length s.windows.pages))
