-- Which words are read as addresses.
use Rattle.std.proofs.Common.{◌≡◌, ◌≢◌, ◌⊎◌, ℕ, List, Option, Some, None, Result, Ok, Err, inl, inr, refl, sym}
use Rattle.ff_name.specs.Address.{Spells}
use Rattle.ff_name.specs.Reading.{read_url}
use Rattle.ff_name.specs.declared.urls.Url.{Url}
use Rattle.ff_name.specs.declared.urls.UrlFault.{UrlFault}
use Rattle.ff_name.specs.declared.urls.UrlFault.TheVariants as url_fault
use Rattle.ff_name.proofs.Reading.{read_url_found, read_url_spelled}
use Rattle.ff_forms.specs.Grammar.{Gives, address_fault, word_as, an_address}
use Rattle.ff_forms.specs.declared.fault.SyntaxFault.TheVariants as fault

pub address_given : (at : ℕ) (word : List ℕ) (url : Url) → Spells word url → word_as at word an_address ≡ Ok url
address_given at word url spells = rw (read_url_found word url spells) refl

abbrev refused : UrlFault → Result Url UrlFault
refused which = Err which

-- where reading refused for another cause than memory, the word is no address
pub address_refused : (at : ℕ) (word : List ℕ) (which : UrlFault) → which ≢ url_fault.NoMemory
    → ((url : Url) → Spells word url → (refused which ≡ Ok url) ⊎ (refused which ≡ Err url_fault.NoMemory))
    → word_as at word an_address ≡ Err (fault.Url at)
address_refused at word which other only = by_answer (read_url word) refl where
  by_answer : (answer : Option Url) → read_url word ≡ answer → word_as at word an_address ≡ Err (fault.Url at)
  by_answer (Some url) e = elim (only url (read_url_spelled word url e)) [
    | inl found ↦ cc
    | inr memory ↦ absurd (other cc)
  ]
  by_answer None e = rw e refl

-- a fault of reading gives that of the word
pub address_failed : (at : ℕ) (word : List ℕ) (which : UrlFault)
    → ((url : Url) → Spells word url → (refused which ≡ Ok url) ⊎ (refused which ≡ Err url_fault.NoMemory)) → Gives (Err (address_fault at which)) (word_as at word an_address)
address_failed at word url_fault.NoMemory only = inr refl
address_failed at word url_fault.Scheme only = inl (sym (address_refused at word url_fault.Scheme (λ e. cc) only))
address_failed at word url_fault.Domain only = inl (sym (address_refused at word url_fault.Domain (λ e. cc) only))
address_failed at word url_fault.Uri only = inl (sym (address_refused at word url_fault.Uri (λ e. cc) only))
address_failed at word url_fault.Long only = inl (sym (address_refused at word url_fault.Long (λ e. cc) only))
