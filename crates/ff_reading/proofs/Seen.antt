-- Parameters that stood before, by the set that is kept of them.
use Rattle.std.proofs.Common.{◌≡◌, ℕ, Bool, true, false, cond, ◌||◌, bytes_eq, Ok, Err, List, [], ◌∷◌, ◌++◌, inl, inr, refl, sym, ap, ◌∙◌}
use Rattle.std.specs.Bool.{one_answer}
use Rattle.std.proofs.lemmas.List.Folds.{list_any-append}
use Rattle.std.proofs.lemmas.Slice.Eq.{bytes_eq-Decides}
use Rattle.std.specs.List.{list_any}
use Rattle.std.specs.Ordering.{is_eq, nat_cmp}
use Rattle.std.specs.Cmp.Lexicographic.{slice_cmp, texts_ties}
use Rattle.std.specs.BTreeSet.{BTreeSet, contains, Updates}
use Rattle.ff_forms.specs.Grammar.{Gives, Placed, and_then, parameter_as, word_as, a_variable}
use Rattle.ff_forms.specs.Words.{is_variable}
use Rattle.ff_forms.specs.declared.fault.SyntaxFault.TheVariants as fault
use Rattle.ff_reading.specs.Seen.{HasSeen}

module _ (at : ℕ) (word name : List ℕ) (before : List (List ℕ)) where
  variable_is : (b : Bool) → Gives (Ok name) (cond b (Ok word) (Err (fault.Name at))) → (b ≡ true) × (name ≡ word)
  variable_is true (inl e) = (refl, cc)
  variable_is true (inr e) = absurd (cc)
  variable_is false (inl e) = absurd (cc)
  variable_is false (inr e) = absurd (cc)

  parameter_is : is_variable word ≡ true → parameter_as before (word_as at word) ≡ cond (list_any (bytes_eq word) before) (Err (fault.Name at)) (Ok word)
  parameter_is is = ap (λ b. and_then {X = Placed} (cond b (Ok (record { from = at; word = word })) (Err (fault.Name at))) (λ x. cond (list_any (bytes_eq x.word) before) (Err (fault.Name x.from)) (Ok x.word))) is

  -- a variable that stood before is a fault
  pub repeated : Gives (Ok name) (word_as at word a_variable) → list_any (bytes_eq name) before ≡ true → Gives (Err (fault.Name at)) (parameter_as before (word_as at word))
  repeated gives among =
      let v = variable_is (is_variable word) gives in
      inl (sym (parameter_is v.0 ∙ ap (λ b. cond b (Err (fault.Name at)) (Ok word)) (ap (λ w. list_any (bytes_eq w) before) (sym v.1) ∙ among)))

  -- another is the parameter
  pub is_new : Gives (Ok name) (word_as at word a_variable) → list_any (bytes_eq name) before ≡ false → Gives (Ok name) (parameter_as before (word_as at word))
  is_new gives none =
      let v = variable_is (is_variable word) gives in
      inl (sym (parameter_is v.0 ∙ ap (λ b. cond b (Err (fault.Name at)) (Ok word)) (ap (λ w. list_any (bytes_eq w) before) (sym v.1) ∙ none) ∙ ap Ok (sym v.1)))

-- ---- the names that are kept

same_bytes : (a b : List ℕ) → bytes_eq a b ≡ bytes_eq b a
same_bytes a b = one_answer (bytes_eq a b) (bytes_eq b a) (bytes_eq-Decides a b) (λ e. sym ((bytes_eq-Decides b a).0 e), λ e. (bytes_eq-Decides b a).1 (sym e))

one_or : (a b : Bool) → cond b true a ≡ (a || (b || false))
one_or true true = refl
one_or true false = refl
one_or false true = refl
one_or false false = refl

pub seen_none : (seen : BTreeSet (List ℕ)) (names : List (List ℕ)) → seen.keys ≡ [] → names ≡ [] → HasSeen seen names
seen_none seen names none empty = λ word. ap (list_any (λ k. is_eq (slice_cmp nat_cmp word k))) none ∙ sym (ap (list_any (bytes_eq word)) empty)

-- a further name
pub seen_more : (seen new : BTreeSet (List ℕ)) (names more : List (List ℕ)) (name : List ℕ) → HasSeen seen names → Updates (slice_cmp nat_cmp) seen new name true → more ≡ names ++ name ∷ [] → HasSeen new more
seen_more seen new names more name has updates is = λ word.
    updates.0 word
    ∙ ap (λ b. cond b true (contains (slice_cmp nat_cmp) seen word)) (sym (texts_ties name word) ∙ same_bytes name word)
    ∙ ap (λ b. cond (bytes_eq word name) true b) (has word)
    ∙ one_or (list_any (bytes_eq word) names) (bytes_eq word name)
    ∙ sym (list_any-append (bytes_eq word) names (name ∷ []))
    ∙ sym (ap (list_any (bytes_eq word)) is)
