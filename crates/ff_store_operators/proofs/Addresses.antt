-- Addresses that are read, and kinds by their words.
use Rattle.std.proofs.Common.{◌≡◌, ◌≢◌, ℕ, Option, Some, None, Result, Ok, Err, List, inl, inr, refl}
use Rattle.ff_contract.specs.Answering.{Answers}
use Rattle.ff_name.specs.Address.{Spells}
use Rattle.ff_name.specs.Reading.{read_url}
use Rattle.ff_name.proofs.Reading.{read_url_spelled}
use Rattle.ff_name.specs.declared.urls.Url.{Url}
use Rattle.ff_name.specs.declared.urls.UrlFault.{UrlFault}
use Rattle.ff_name.specs.declared.urls.UrlFault.TheVariants as url_fault

not_read : (fault : UrlFault) (url : Url) (answer : Result Url UrlFault) → answer ≡ Err fault → answer ≡ Ok url → ⊥
not_read fault url answer e f = cc

same_fault : (fault : UrlFault) (answer : Result Url UrlFault) → answer ≡ Err fault → answer ≡ Err url_fault.NoMemory → fault ≡ url_fault.NoMemory
same_fault fault answer e f = cc

-- bytes that were refused as an address spell none
pub no_address : (text : List ℕ) (answer : Result Url UrlFault) (fault : UrlFault) → answer ≡ Err fault → fault ≢ url_fault.NoMemory
    → ((url : Url) → Spells text url → Answers answer (Ok url) (Err url_fault.NoMemory)) → read_url text ≡ None
no_address text answer fault e other only = by (read_url text) refl where
  by : (found : Option Url) → read_url text ≡ found → found ≡ None
  by None is = refl
  by (Some url) is = elim (only url (read_url_spelled text url is)) [
    | inl same ↦ absurd (not_read fault url answer e same)
    | inr same ↦ absurd (other (same_fault fault answer e same))
  ]
