-- One layer of an item: what is defined by a fold, and induction.
use Rattle.std.proofs.Common.{◌≡◌, ℕ, suc, Bool, nat_lt, ◌&&◌, List, ◌∷◌, ◌++◌, [], map, subst}
use Rattle.std.specs.List.{join_with_byte, list_all}
use Rattle.std.specs.Str.{is_utf8}
use denote.Hole.Carrier
use denote.Hole.Holds.{Such}
use Rattle.ff_text.specs.declared.items.Span.{Span}
use Rattle.ff_text.specs.declared.items.Sexp.{Sexp}
use Rattle.ff_text.specs.declared.items.Sexp.TheVariants as sexp
use Rattle.ff_text.specs.declared.items.Sexp.TheBlock.{the_family, member-Sexp}
use Rattle.ff_text.specs.declared.items.Sexp.TheOpen.{Sexp-F}
use Rattle.ff_text.specs.declared.items.Sexp.TheViews.{roll-Sexp}
use Rattle.ff_text.specs.declared.items.Sexp.TheFolds.{ind-Sexp, fold-roll-Sexp, claims, map-Sexp}
use Rattle.ff_text.specs.Notation.{span}
use Rattle.ff_text.specs.Printed.{spelled, spelled_step, quoted, bare, bare_step, fits_at, fits_step, is_word}
use Rattle.ff_name.specs.declared.limits.TheConstants.{MOST_DEPTH}

pub spelled-Word : (at : Span) (text : List ℕ) → spelled (sexp.Word at text) ≡ text
unfolding roll-Sexp denote.Hole.Carrier.roll
spelled-Word at text = fold-roll-Sexp (List ℕ) spelled_step (Sexp-F.Word at text)

pub spelled-Str : (at : Span) (value : List ℕ) → spelled (sexp.Str at value) ≡ quoted value
unfolding roll-Sexp denote.Hole.Carrier.roll
spelled-Str at value = fold-roll-Sexp (List ℕ) spelled_step (Sexp-F.Str at value)

pub spelled-List : (at : Span) (parts : List Sexp) → spelled (sexp.List at parts) ≡ 40 ∷ (join_with_byte 32 (map spelled parts) ++ 41 ∷ [])
unfolding roll-Sexp denote.Hole.Carrier.roll
spelled-List at parts = fold-roll-Sexp (List ℕ) spelled_step (Sexp-F.List at parts)

pub bare-Word : (at : Span) (text : List ℕ) → bare (sexp.Word at text) ≡ sexp.Word (span 0 0) text
unfolding roll-Sexp denote.Hole.Carrier.roll
bare-Word at text = fold-roll-Sexp Sexp bare_step (Sexp-F.Word at text)

pub bare-Str : (at : Span) (value : List ℕ) → bare (sexp.Str at value) ≡ sexp.Str (span 0 0) value
unfolding roll-Sexp denote.Hole.Carrier.roll
bare-Str at value = fold-roll-Sexp Sexp bare_step (Sexp-F.Str at value)

pub bare-List : (at : Span) (parts : List Sexp) → bare (sexp.List at parts) ≡ sexp.List (span 0 0) (map bare parts)
unfolding roll-Sexp denote.Hole.Carrier.roll
bare-List at parts = fold-roll-Sexp Sexp bare_step (Sexp-F.List at parts)

pub fits_at-Word : (at : Span) (text : List ℕ) → fits_at (sexp.Word at text) ≡ (λ deep. is_word text)
unfolding roll-Sexp denote.Hole.Carrier.roll
fits_at-Word at text = fold-roll-Sexp (ℕ → Bool) fits_step (Sexp-F.Word at text)

pub fits_at-Str : (at : Span) (value : List ℕ) → fits_at (sexp.Str at value) ≡ (λ deep. is_utf8 value)
unfolding roll-Sexp denote.Hole.Carrier.roll
fits_at-Str at value = fold-roll-Sexp (ℕ → Bool) fits_step (Sexp-F.Str at value)

pub fits_at-List : (at : Span) (parts : List Sexp) → fits_at (sexp.List at parts) ≡ (λ deep. nat_lt deep MOST_DEPTH && list_all (λ part. part (suc deep)) (map fits_at parts))
unfolding roll-Sexp denote.Hole.Carrier.roll
fits_at-List at parts = fold-roll-Sexp (ℕ → Bool) fits_step (Sexp-F.List at parts)

-- the fact holds of each item
abbrev pub Each : (Sexp → Type 0) → List Sexp → Type 0
Each P [] = Unit {0}
Each P (item ∷ items) = P item × Each P items

-- a fact of words and strings, and of each list of whose parts it holds
pub items_ind : (P : Sexp → Type 0) → ((at : Span) (text : List ℕ) → P (sexp.Word at text)) → ((at : Span) (value : List ℕ) → P (sexp.Str at value)) → ((at : Span) (parts : List Sexp) → Each P parts → P (sexp.List at parts)) → (item : Sexp) → P item
unfolding roll-Sexp denote.Hole.Carrier.roll
items_ind P words strings lists item = ind-Sexp P (λ x y e. subst (λ d. P (roll-Sexp d)) e (layer y)) item where
  each : (parts : List (Such the_family (claims P) member-Sexp)) → Each P (map (λ e. e.0) parts)
  each [] = tt
  each (e ∷ parts) = (e.1, each parts)

  layer : (y : Sexp-F (Such the_family (claims P) member-Sexp)) → P (roll-Sexp (map-Sexp (Such the_family (claims P) member-Sexp) Sexp (λ e. e.0) y))
  layer (Sexp-F.Word at text) = words at text
  layer (Sexp-F.Str at value) = strings at value
  layer (Sexp-F.List at parts) = lists at (map (λ e. e.0) parts) (each parts)
