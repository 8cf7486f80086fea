-- The first of an object's keys that passes a test.
use Rattle.std.proofs.Common.{◌≡◌, ℕ, List, [], ◌∷◌, Some, None, Bool, true, false, cond, map, String, Global, string_bytes, refl, sym, ap, ◌∙◌}
use Rattle.std.specs.List.{find}
use Rattle.std.specs.Map as entries
use Rattle.serde_json.specs.View.{members_view}
use Rattle.ff_policy.specs.Members.{keys_of}
use Rattle.ff_policy.proofs.Arrays.{Entry}

pub keys_view : (es : List Entry) → keys_of (members_view es) ≡ map string_bytes (entries.keys_of es)
keys_view [] = refl
keys_view (e ∷ es) = ap (λ ks. string_bytes e.0 ∷ ks) (keys_view es)

-- the first of all the keys that passes is the first of those that are left
pub record Searches (test : List ℕ → Bool) (es : List Entry) (left : List (String Global)) : Type 0 where
  pub is : find test (keys_of (members_view es)) ≡ find test (map string_bytes left)

module _ (test : List ℕ → Bool) (es : List Entry) where
  pub search_start : (left : List (String Global)) → left ≡ entries.keys_of es → Searches test es left
  search_start left all = record { is = ap (find test) (keys_view es) ∙ ap (λ ks. find test (map string_bytes ks)) (sym all) }

  step_to : (left more : List (String Global)) (key : String Global) (b : Bool) → Searches test es left → left ≡ key ∷ more → test (string_bytes key) ≡ b
      → find test (keys_of (members_view es)) ≡ cond b (Some (string_bytes key)) (find test (map string_bytes more))
  step_to left more key b given cut is =
      given.is ∙ ap (λ ks. find test (map string_bytes ks)) cut ∙ ap (λ b. cond b (Some (string_bytes key)) (find test (map string_bytes more))) is

  pub search_step : (left more : List (String Global)) (key : String Global) → Searches test es left → left ≡ key ∷ more → test (string_bytes key) ≡ false → Searches test es more
  search_step left more key given cut fails = record { is = step_to left more key false given cut fails }

  pub search_found : (left more : List (String Global)) (key : String Global) (name : List ℕ) → Searches test es left → left ≡ key ∷ more → test (string_bytes key) ≡ true → name ≡ string_bytes key
      → Some name ≡ find test (keys_of (members_view es))
  search_found left more key name given cut passes is = ap Some is ∙ sym (step_to left more key true given cut passes)

  pub search_none : (left : List (String Global)) → Searches test es left → left ≡ [] → None ≡ find test (keys_of (members_view es))
  search_none left given none = sym (given.is ∙ ap (λ ks. find test (map string_bytes ks)) none)
