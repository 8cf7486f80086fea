-- Which words are read as names and as variables.
use Rattle.std.proofs.Common.{◌≡◌, ℕ, Bool, true, false, List, Ok, Err, refl}
use Rattle.ff_name.specs.Spelling.{IsName}
use Rattle.ff_name.specs.Reading.{is_name}
use Rattle.ff_name.proofs.Reading.{is_name-from, IsName-from}
use Rattle.ff_forms.specs.Grammar.{word_as, a_name}
use Rattle.ff_forms.specs.declared.fault.SyntaxFault.TheVariants as fault

pub name_given : (at : ℕ) (word : List ℕ) → IsName word → word_as at word a_name ≡ Ok word
name_given at word h = rw (is_name-from word h) refl

pub name_refused : (at : ℕ) (word : List ℕ) → ¬ IsName word → word_as at word a_name ≡ Err (fault.Name at)
name_refused at word isnt = by_test (is_name word) refl where
  by_test : (b : Bool) → is_name word ≡ b → word_as at word a_name ≡ Err (fault.Name at)
  by_test true e = absurd (isnt (IsName-from word e))
  by_test false e = rw e refl

pub ruleset names = (name_given, name_refused)
