-- The open windows stay such: one that opens, and one that closes.
use Rattle.std.proofs.Common.{◌≡◌, ℕ, ◌+◌, ◌<◌, ◌≤◌, Bool, true, false, cond, eqb, List, [], ◌∷◌, ◌++◌, length, map, filter, All, refl, sym, ap, subst, arith, length-append}
use Rattle.std.specs.Prelude.{nat_eq}
use Rattle.std.specs.List.{IsDistinct, AllByRecursion, list_any}
use Rattle.std.specs.Cmp.{nat_eq_equiv}
use Rattle.std.proofs.lemmas.Bool.{ne_eqb, or_from}
use Rattle.std.proofs.lemmas.Map.Keys.{IsDistinct-push}
use Rattle.std.proofs.lemmas.List.Elements.{All-weaker, All-filter, All-push, All-head, All-tail}
use Rattle.std.proofs.lemmas.List.Sums.{length-filter, count_by-le-length}
use Rattle.ff_value.specs.declared.ids.WinId.{WinId}
use Rattle.ff_machine.specs.declared.limits.TheConstants.{MOST_WINDOWS}
use Rattle.ff_machine.specs.Alone.{AreOpen}

-- Opening.

unused : (n : ℕ) (ws : List WinId) → All (λ w. w.0 < n) ws → list_any (nat_eq n) (map (λ w. w.0) ws) ≡ false
unused n [] h = refl
unused n (w ∷ ws) h =
    let less : w.0 < n = All-head (λ v. v.0 < n) w ws h in
    or_from (eqb n w.0) (list_any (nat_eq n) (map (λ v. v.0) ws)) (ne_eqb n w.0 (λ e. omega (arith, e, less))) (unused n ws (All-tail (λ v. v.0 < n) w ws h))

numbers_pushed : (ws : List WinId) (w : WinId) → map (λ v. v.0) (ws ++ w ∷ []) ≡ map (λ v. v.0) ws ++ w.0 ∷ []
numbers_pushed [] w = refl
numbers_pushed (v ∷ ws) w = ap (λ (ns : List ℕ). v.0 ∷ ns) (numbers_pushed ws w)

-- a window more, of the next number
pub one_opened : (wins more : ℕ) (opened : List WinId) (w : WinId) → w.0 ≡ wins → more ≡ wins + 1 → AreOpen wins opened → length opened < MOST_WINDOWS → AreOpen more (opened ++ w ∷ [])
one_opened wins more opened w next e are few = record {
  there = All-push (λ v. v.0 < more) opened w (All-weaker (λ v. v.0 < wins) (λ v. v.0 < more) (λ v h. omega (arith, h, e)) opened are.there) (omega (arith, next, e));
  differ = subst (IsDistinct nat_eq) (sym (numbers_pushed opened w))
      (IsDistinct-push nat_eq_equiv (map (λ v. v.0) opened) w.0 are.differ (unused w.0 opened (subst (λ (n : ℕ). All (λ v. v.0 < n) opened) (sym next) are.there)));
  few = omega (arith, few, length-append opened (w ∷ []));
}

-- Closing.

one_apart : (b : Bool) (x : ℕ) (w : WinId) (ws : List WinId) → nat_eq x w.0 ≡ false → AllByRecursion (λ y. nat_eq x y ≡ false) (map (λ w. w.0) ws)
    → AllByRecursion (λ y. nat_eq x y ≡ false) (map (λ w. w.0) (cond b (w ∷ ws) ws))
one_apart true x w ws e h = (e, h)
one_apart false x w ws e h = h

one_distinct : (b : Bool) (w : WinId) (ws : List WinId) → AllByRecursion (λ y. nat_eq w.0 y ≡ false) (map (λ w. w.0) ws) → IsDistinct nat_eq (map (λ w. w.0) ws)
    → IsDistinct nat_eq (map (λ w. w.0) (cond b (w ∷ ws) ws))
unfolding IsDistinct
one_distinct true w ws e h = (e, h)
one_distinct false w ws e h = h

apart_kept : (x : ℕ) (keep : WinId → Bool) (ws : List WinId) → AllByRecursion (λ y. nat_eq x y ≡ false) (map (λ w. w.0) ws) → AllByRecursion (λ y. nat_eq x y ≡ false) (map (λ w. w.0) (filter keep ws))
apart_kept x keep [] h = h
apart_kept x keep (w ∷ ws) h = one_apart (keep w) x w (filter keep ws) h.0 (apart_kept x keep ws h.1)

distinct_kept : (keep : WinId → Bool) (ws : List WinId) → IsDistinct nat_eq (map (λ w. w.0) ws) → IsDistinct nat_eq (map (λ w. w.0) (filter keep ws))
unfolding IsDistinct
distinct_kept keep [] h = h
distinct_kept keep (w ∷ ws) h = one_distinct (keep w) w (filter keep ws) (apart_kept w.0 keep ws h.0) (distinct_kept keep ws h.1)

fewer : (keep : WinId → Bool) (ws : List WinId) → length (filter keep ws) ≤ length ws
fewer keep ws = omega (arith, length-filter keep ws, count_by-le-length keep ws)

-- some of them
pub some_opened : (wins : ℕ) (keep : WinId → Bool) (opened : List WinId) → AreOpen wins opened → AreOpen wins (filter keep opened)
some_opened wins keep opened are = record {
  there = All-filter keep (λ (m : WinId). m.0 < wins) opened are.there;
  differ = distinct_kept keep opened are.differ;
  few = omega (arith, are.few, fewer keep opened);
}
